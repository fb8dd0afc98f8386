-- How many bytes a file that is written has at most: a number within the limits has seven digits or fewer, a delta three bytes or fewer, so that a line and a
-- count of the header have eight and a gate has six. Assumes nothing.
use Prim.Native.Nat.{ℕ, zero, suc, ◌+◌, ◌-◌, ◌*◌, ◌/◌, ◌%◌, ◌≤◌, ◌<◌}
use mathlib.Core.Path.{◌≡◌, refl}
use mathlib.Core.Bool.{Bool, true, false, cond}
use mathlib.Core.Logic.{inl, inr}
use mathlib.Core.List.{List, [], ◌∷◌, ◌++◌}
use native.Mathlib.Omega.{arith}
use lib.Dec.{ltb, eqb}
use lib.ListN.{length, get_or, take, drop, length-append, length-take, length-drop}
use borrow.Author.Tests.{ltb-false}
use Rattle.token.specs.Format.{digits_up_to, digits_of, groups_up_to, shortest}
use Rattle.circuit.specs.Walk.{Pair, first_code}
use Rattle.circuit.specs.Ordered.{sources_of, no_pair}
use Rattle.circuit.specs.Outcome.{total, pairs_of}
use Rattle.circuit.specs.Claims.{AllWithin}
use Rattle.lines.specs.declared.Header.{Header}
use Rattle.lines.specs.Lines.{tag_of}
use Rattle.lines.specs.Sections.{roots_of}
use Rattle.sections.specs.Bytes.{row_bytes, line_bytes, lines_bytes, count_bytes, counts_bytes, kept_before, up_to_last, optional, counts_of, latch_bytes, latches_bytes}
use Rattle.sections.specs.Bytes.{after_tag, header_bytes, roots_bytes}
use Rattle.sections.proofs.Parts.{kept_few, latch_most}
use Rattle.ordered.proofs.Exactly.{resets_within}
use Rattle.binary.specs.File.{tag}
use Rattle.ordered.specs.WellOrdered.{variables_of}
use Rattle.ordered.specs.Check.{Words, circuit_in}
use Rattle.ordered.specs.Given.{Given}
use Rattle.binary.specs.Write.{gates_bytes, header_for, parts_of, file_of, file_in}

-- ten to the power of a number of digits, and 128 to that of groups
abbrev tens : ℕ → ℕ
tens zero = 10
tens (suc j) = 10 * tens j

abbrev groups : ℕ → ℕ
groups zero = 128
groups (suc j) = 128 * groups j

digits_below : (j k v : ℕ) → v < tens j → length (digits_up_to k v) ≤ suc j
digits_below j zero v h = omega arith
digits_below zero (suc k) v h = go (ltb v 10) refl
  where
    go : (b : Bool) → ltb v 10 ≡ b → length (cond b ((48 + v) ∷ []) (digits_up_to k (v / 10) ++ ((48 + v % 10) ∷ []))) ≤ 1
    go true e = omega arith
    go false e = absurd (omega (arith, ltb-false v 10 e))
digits_below (suc j) (suc k) v h = go (ltb v 10) (digits_below j k (v / 10) (omega arith))
  where
    go : (b : Bool) → length (digits_up_to k (v / 10)) ≤ suc j
        → length (cond b ((48 + v) ∷ []) (digits_up_to k (v / 10) ++ ((48 + v % 10) ∷ []))) ≤ suc (suc j)
    go true i = omega arith
    go false i = omega (arith, length-append (digits_up_to k (v / 10)) ((48 + v % 10) ∷ []))

groups_below : (j k d : ℕ) → d < groups j → length (groups_up_to k d) ≤ suc j
groups_below j zero d h = omega arith
groups_below zero (suc k) d h = go (ltb d 128) refl
  where
    go : (b : Bool) → ltb d 128 ≡ b → length (cond b (d ∷ []) ((128 + d % 128) ∷ groups_up_to k (d / 128))) ≤ 1
    go true e = omega arith
    go false e = absurd (omega (arith, ltb-false d 128 e))
groups_below (suc j) (suc k) d h = go (ltb d 128) (groups_below j k (d / 128) (omega arith))
  where
    go : (b : Bool) → length (groups_up_to k (d / 128)) ≤ suc j → length (cond b (d ∷ []) ((128 + d % 128) ∷ groups_up_to k (d / 128))) ≤ suc (suc j)
    go true i = omega arith
    go false i = omega arith

pub seven_digits : (v : ℕ) → v < 10000000 → length (digits_of v) ≤ 7
unfolding digits_of
seven_digits v h = digits_below 6 19 v h

pub line_few : (v : ℕ) → v < 10000000 → length (line_bytes v) ≤ 8
unfolding line_bytes
line_few v h = omega (arith, length-append (digits_of v) (10 ∷ []), seven_digits v h)

pub count_few : (v : ℕ) → v < 10000000 → length (count_bytes v) ≤ 8
unfolding count_bytes
count_few v h = omega (arith, seven_digits v h)

pub delta_few : (d : ℕ) → d < 2097152 → length (shortest d) ≤ 3
unfolding shortest
delta_few d h = groups_below 2 7 d h

-- each word of a list has seven digits or fewer
abbrev pub Below : List ℕ → Type 0
Below [] = Unit {0}
Below (v ∷ vs) = (v < 10000000) × Below vs

below_take : (n : ℕ) (vs : List ℕ) → Below vs → Below (take n vs)
below_take zero vs h = tt
below_take (suc n) [] h = tt
below_take (suc n) (v ∷ vs) h = (h.0, below_take n vs h.1)

below_drop : (n : ℕ) (vs : List ℕ) → Below vs → Below (drop n vs)
below_drop zero vs h = h
below_drop (suc n) [] h = tt
below_drop (suc n) (v ∷ vs) h = below_drop n vs h.1

pub row_few : (each : ℕ → List ℕ) → ((v : ℕ) → v < 10000000 → length (each v) ≤ 8) → (vs : List ℕ) → Below vs → length (row_bytes each vs) ≤ 8 * length vs
row_few each few [] h = omega arith
row_few each few (v ∷ vs) h = omega (arith, length-append (each v) (row_bytes each vs), few v h.0, row_few each few vs h.1)

-- counts up to the last that is not zero
below_kept : (vs : List ℕ) → Below vs → Below (up_to_last vs)
below_kept [] h = tt
below_kept (v ∷ vs) h = go (up_to_last vs) (below_kept vs h.1)
  where
    zeros : (b : Bool) → Below (cond b [] (v ∷ []))
    zeros true = tt
    zeros false = (h.0, tt)

    go : (ws : List ℕ) → Below ws → Below (kept_before v ws)
    go [] i = zeros (eqb v 0)
    go (w ∷ ws) i = (h.0, i)

-- the header, behind the tag of either form
pub header_few : (form : ℕ) (h : Header) → Below (counts_of h) → length (header_bytes (tag_of form) h) ≤ 76
unfolding after_tag
header_few form h b =
    omega (
      arith,
      length-append (tag_of form) (counts_bytes (counts_of h) ++ (10 ∷ [])),
      length-append (counts_bytes (counts_of h)) (10 ∷ []),
      row_few count_bytes count_few (counts_of h) b,
      kept_few h,
    )

pub roots_few : (h : Header) (sizes roots : List ℕ) → Below sizes → Below roots
    → length (roots_bytes h (roots_of sizes roots)) ≤ 8 * (length sizes + length roots)
unfolding roots_bytes
roots_few h sizes roots bs br =
    let n = h.outputs + h.bad + h.constraints in
    let a = lines_bytes (take n roots) in
    let b = lines_bytes sizes in
    let c = lines_bytes (drop (n + h.fairness) roots) in
    let d = lines_bytes (take h.fairness (drop n roots)) in
    omega (
      arith,
      length-append a (b ++ (c ++ d)),
      length-append b (c ++ d),
      length-append c d,
      row_few line_bytes line_few (take n roots) (below_take n roots br),
      row_few line_bytes line_few sizes bs,
      row_few line_bytes line_few (drop (n + h.fairness) roots) (below_drop (n + h.fairness) roots br),
      row_few line_bytes line_few (take h.fairness (drop n roots)) (below_take h.fairness (drop n roots) (below_drop n roots br)),
      length-take n roots,
      length-drop (n + h.fairness) roots,
      length-take h.fairness (drop n roots),
      length-drop n roots,
    )

-- gates in order whose codes are t, t + 2, .. within the limit
gates_few : (t : ℕ) (gs : List Pair)
    → ((j : ℕ) → j < length gs → ((get_or gs j no_pair).smaller ≤ (get_or gs j no_pair).larger) × ((get_or gs j no_pair).larger < t + 2 * j))
    → t + 2 * length gs ≤ 2097152 → length (gates_bytes t gs) ≤ 6 * length gs
gates_few t [] o h = omega arith
gates_few t (p ∷ ps) o h =
    let x = shortest (t - p.larger) in
    let y = shortest (p.larger - p.smaller) in
    let first = o 0 (omega arith) in
    let rest = gates_few (t + 2) ps (λ j i. let q = o (suc j) (omega (arith, i)) in (q.0, omega (arith, q.1))) (omega arith) in
    omega (
      arith,
      length-append (x ++ y) (gates_bytes (t + 2) ps),
      length-append x y,
      delta_few (t - p.larger) (omega arith),
      delta_few (p.larger - p.smaller) (omega (arith, first.1)),
      rest,
    )

-- words within a bound, and words by their sum
below_within : (n : ℕ) (vs : List ℕ) → n < 10000000 → AllWithin n vs → Below vs
below_within n [] h a = tt
below_within n (v ∷ vs) h a = (omega (arith, a v (inl refl)), below_within n vs h (λ c i. a c (inr i)))

below_total : (vs : List ℕ) → total vs < 10000000 → Below vs
below_total [] h = tt
below_total (v ∷ vs) h = (omega arith, below_total vs (omega arith))

one_of : (vs : List ℕ) (i : ℕ) → get_or vs i 0 ≤ total vs
one_of [] i = omega arith
one_of (v ∷ vs) zero = omega arith
one_of (v ∷ vs) (suc i) = omega (arith, one_of vs i)

-- latch lines, each with two numbers of seven digits at most
pub latch_few : (next reset : ℕ) → next < 10000000 → reset < 10000000 → length (latch_bytes next reset) ≤ 16
latch_few next reset n r = omega (arith, latch_most next reset, seven_digits next n, seven_digits reset r)

latches_few : (ns rs : List ℕ) → Below ns → Below rs → length (latches_bytes ns rs) ≤ 16 * length ns
latches_few [] rs h i = omega arith
latches_few (n ∷ ns) [] h i = omega arith
latches_few (n ∷ ns) (r ∷ rs) h i =
    omega (arith, length-append (latch_bytes n r) (latches_bytes ns rs), latch_few n r h.0 i.0, latches_few ns rs h.1 i.1)

-- the numbers of a circuit that passed its checks
module _ (w : Words) (g : Given w) where
  abbrev most : ℕ
  most = 2 * variables_of (circuit_in w) + 1

  count_below : (i : ℕ) → get_or w.counts i 0 < 10000000
  count_below i = omega (arith, one_of w.counts i, g.ordered.counts, g.ordered.few)

  pub counts_below : Below (counts_of (header_for (file_in w)))
  counts_below =
      let v = g.ordered.variables in
      let kept = below_kept (optional (header_for (file_in w))) (count_below 1, (count_below 2, (omega (arith, g.sets), (count_below 3, tt)))) in
      (omega (arith, v), (omega (arith, v), (omega (arith, v), (count_below 0, (omega (arith, v), kept)))))

  pub sizes_below : Below w.sizes
  sizes_below = below_total w.sizes (omega (arith, g.sizes, count_below 4))

  pub nexts_below : Below w.nexts
  nexts_below = below_within most w.nexts (omega (arith, g.ordered.variables)) g.ordered.nexts

  pub resets_below : Below w.resets
  resets_below =
      below_within most w.resets (omega (arith, g.ordered.variables)) (resets_within (circuit_in w) g.ordered.reset_count g.ordered.resets)

  pub roots_below : Below w.roots
  roots_below = below_within most w.roots (omega (arith, g.ordered.variables)) g.ordered.roots

-- the whole file, of V variables, L latches, R roots and J justice sets
pub file_most : (w : Words) → Given w
    → length (file_of (file_in w)) ≤ 76 + 8 * (variables_of (circuit_in w) + length w.nexts + length w.roots + length w.sizes)
unfolding parts_of first_code
file_most w g =
    let h = header_for (file_in w) in
    let n = sources_of (circuit_in w) in
    let gs = pairs_of w.gates in
    let a = header_bytes tag h in
    let b = latches_bytes w.nexts w.resets in
    let c = roots_bytes h (roots_of w.sizes w.roots) in
    let d = gates_bytes (first_code n) gs in
    omega (
      arith,
      length-append a (b ++ (c ++ d)),
      length-append b (c ++ d),
      length-append c d,
      header_few 105 h (counts_below w g),
      latches_few w.nexts w.resets (nexts_below w g) (resets_below w g),
      roots_few h w.sizes w.roots (sizes_below w g) (roots_below w g),
      gates_few (first_code n) gs g.ordered.gates (omega (arith, g.ordered.variables)),
    )
