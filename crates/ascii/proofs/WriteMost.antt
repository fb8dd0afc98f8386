-- How many bytes a text that is written has at most: a number within the limits has seven digits or fewer, so that an input's line has eight bytes or fewer,
-- a latch's line and a gate's line twenty-four. Assumes nothing.
use Prim.Native.Nat.{ℕ, zero, suc, ◌+◌, ◌*◌, ◌≤◌, ◌<◌}
use mathlib.Core.List.{List, [], ◌∷◌}
use native.Mathlib.Omega.{arith}
use lib.ListN.{length, get_or, length-append}
use Rattle.circuit.specs.Walk.{Pair, first_code}
use Rattle.circuit.specs.Ordered.{no_pair, first_latch, count_from, sources_of}
use Rattle.circuit.specs.Outcome.{pairs_of}
use Rattle.circuit.proofs.Ordered.{count_from-length}
use Rattle.sections.specs.Bytes.{line_bytes}
use Rattle.ordered.specs.WellOrdered.{variables_of}
use Rattle.ordered.specs.Check.{Words, circuit_in}
use Rattle.ordered.specs.Given.{Given}
use Rattle.binary.specs.Write.{header_for, file_in}
use Rattle.binary.proofs.Most.{seven_digits, line_few, count_few, latch_few, Below, row_few, header_few, roots_few}
use Rattle.binary.proofs.Most.{counts_below, sizes_below, nexts_below, resets_below, roots_below}
use Rattle.ascii.specs.Write.{input_lines, stated_bytes, stated_lines, gate_line, gate_lines, parts_of, text_of}

below_count : (t n : ℕ) → t + 2 * n ≤ 10000000 → Below (count_from t n)
below_count t zero h = tt
below_count t (suc n) h = (omega arith, below_count (t + 2) n (omega arith))

inputs_few : (n : ℕ) → n < 1048576 → length (input_lines n) ≤ 8 * n
unfolding input_lines
inputs_few n h = omega (arith, row_few line_bytes line_few (count_from 2 n) (below_count 2 n (omega arith)), count_from-length 2 n)

-- a latch's line, and all of them, where the states are t, t + 2, ..

state_few : (state next reset : ℕ) → state < 10000000 → next < 10000000 → reset < 10000000 → length (stated_bytes state next reset) ≤ 24
unfolding stated_bytes
state_few state next reset s n r =
    simp length-append (omega (arith, seven_digits state s, latch_few next reset n r))

stated_few : (t : ℕ) (ns rs : List ℕ) → t + 2 * length ns ≤ 10000000 → Below ns → Below rs → length (stated_lines t ns rs) ≤ 24 * length ns
stated_few t [] rs h a b = omega arith
stated_few t (n ∷ ns) [] h a b = omega arith
stated_few t (n ∷ ns) (r ∷ rs) h a b =
    simp length-append (omega (arith, state_few t n r (omega arith) a.0 b.0, stated_few (t + 2) ns rs (omega arith) a.1 b.1))

-- a gate's line, and those of gates in order whose outputs are t, t + 2, ..

gate_line_few : (output first second : ℕ) → output < 10000000 → first < 10000000 → second < 10000000 → length (gate_line output first second) ≤ 24
unfolding gate_line
gate_line_few output first second o f s =
    simp length-append (omega (arith, seven_digits output o, count_few first f, count_few second s))

gate_lines_few : (t : ℕ) (gs : List Pair)
    → ((j : ℕ) → j < length gs → ((get_or gs j no_pair).smaller ≤ (get_or gs j no_pair).larger) × ((get_or gs j no_pair).larger < t + 2 * j))
    → t + 2 * length gs ≤ 10000000 → length (gate_lines t gs) ≤ 24 * length gs
gate_lines_few t [] o h = omega arith
gate_lines_few t (p ∷ ps) o h =
    let first = o 0 (omega arith) in
    let line = gate_line_few t p.larger p.smaller (omega arith) (omega (arith, first.1)) (omega (arith, first.0, first.1)) in
    let rest = gate_lines_few (t + 2) ps (λ j i. let q = o (suc j) (omega (arith, i)) in (q.0, omega (arith, q.1))) (omega arith) in
    simp length-append (omega (arith, line, rest))

-- the whole text, of V variables, R roots and J justice sets
pub text_most : (w : Words) → Given w → length (text_of (file_in w)) ≤ 76 + 8 * (3 * variables_of (circuit_in w) + length w.roots + length w.sizes)
unfolding parts_of first_code
text_most w g =
    let v = g.ordered.variables in
    let h = header_for (file_in w) in
    let first = first_code (sources_of (circuit_in w)) in
    simp length-append
    (omega (
      arith,
      header_few 97 h (counts_below w g),
      inputs_few w.inputs (omega (arith, v)),
      stated_few (first_latch w.inputs) w.nexts w.resets (omega (arith, v)) (nexts_below w g) (resets_below w g),
      roots_few h w.sizes w.roots (sizes_below w g) (roots_below w g),
      gate_lines_few first (pairs_of w.gates) g.ordered.gates (omega (arith, v)),
    ))
