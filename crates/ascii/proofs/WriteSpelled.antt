-- What is written of an ordered circuit spells it as a text, section by section. Assumes nothing.
use Prim.Native.Nat.{ℕ, zero, suc, ◌+◌, ◌*◌, ◌%◌, ◌^◌, ◌≤◌, ◌<◌}
use mathlib.Core.Path.{◌≡◌, refl, sym, ap}
use mathlib.Core.Bool.{Bool}
use mathlib.Core.Logic.{inl, inr}
use Rattle.std.specs.Prelude.{None}
use mathlib.Core.List.{List, [], ◌∷◌, ◌++◌}
use native.Mathlib.Omega.{arith}
use lib.ListN.{length, get_or}
use Rattle.token.specs.Format.{digits_of}
use Rattle.circuit.specs.Graph.{In, Gate}
use Rattle.circuit.specs.Walk.{Pair, first_code}
use Rattle.circuit.specs.Circuit.{first_stray}
use Rattle.circuit.specs.Ordered.{Ordered, first_latch, count_from, gates_from, sources_of, given, no_pair}
use Rattle.circuit.specs.Claims.{AllWithin}
use Rattle.circuit.proofs.Checks.{is_reset_lem}
use Rattle.circuit.proofs.Ordered.{count_from-length}
use Rattle.circuit.proofs.Resets.{stray_exactly}
use Rattle.lines.specs.declared.Header.{Header}
use Rattle.lines.specs.Lines.{latch_line}
use Rattle.lines.specs.Sections.{Roots, roots_of, top_code}
use Rattle.lines.specs.Spelling.{Row, Rooting}
use Rattle.sections.specs.Bytes.{line_bytes, count_bytes, latch_bytes, after_tag, roots_bytes}
use Rattle.sections.proofs.Spelled.{in_a_row, at_last, row_spelled, passes, latch_spelled, count_spelled}
use Rattle.sections.proofs.Theorems.{header_spelled, roots_spelled}
use Rattle.ordered.specs.WellOrdered.{latches_of}
use Rattle.ordered.proofs.Exactly.{resets_within}
use Rattle.binary.specs.File.{File}
use Rattle.binary.specs.Write.{header_for}
use Rattle.binary.specs.Sound.{Sound}
use Rattle.binary.proofs.Written.{its_counts, its_roots, its_header}
use Rattle.ascii_lines.specs.Lines.{Stated, stated_latch, states_of, nexts_of, resets_of, gate_with}
use Rattle.ascii_lines.specs.Spelling.{Defines, Input, Inputs, StatedLine, StatedLines, GateLine, GateLines}
use Rattle.ascii.specs.Text.{Text, Room, text_with, circuit_in}
use Rattle.ascii.specs.Spelling.{Sized, Listed, Spells}
use Rattle.ascii.specs.Write.{input_lines, stated_bytes, stated_lines, gate_line, gate_lines, parts_of, text_of}
use Rattle.ascii.specs.Back.{text_for, Holds}

-- a literal that is defined

defines : (most v : ℕ) → 1 ≤ v → v % 2 ≡ 0 → v ≤ most → most < 2 ^ 64 → Defines most v (digits_of v)
defines most v some even within fits = (some, even, (within, omega arith, refl))

-- the codes that are counted are even, not below the first, and below the end
counted : (t n c : ℕ) → t % 2 ≡ 0 → In c (count_from t n) → (t ≤ c) × (c % 2 ≡ 0) × (c + 2 ≤ t + 2 * n)
counted t zero c even i = absurd i
counted t (suc n) c even (inl e) = (omega arith, omega arith, omega arith)
counted t (suc n) c even (inr i) = let k = counted (t + 2) n c (omega arith) i in (omega (arith, k.0), k.1, omega (arith, k.2))

-- inputs

inputs_spelled : (most n : ℕ) → 2 * n ≤ most → most < 2 ^ 64 → Inputs most n (count_from 2 n) (input_lines n)
unfolding input_lines line_bytes
inputs_spelled most n within fits =
    (count_from-length 2 n, row_spelled (Input most) line_bytes (count_from 2 n) each 0)
  where
    each : (v : ℕ) → In v (count_from 2 n) → Input most v (line_bytes v)
    each v i =
        let k = counted 2 n v refl i in
        in_a_row v (digits_of v) (10 ∷ []) (defines most v (omega (arith, k.0)) k.1 (omega (arith, k.2)) fits) (at_last (λ _. v) tt refl refl)

-- latches: states from t on, next states and resets side by side

abbrev stated_from : ℕ → List ℕ → List ℕ → List Stated
stated_from t [] rs = []
stated_from t (n ∷ ns) [] = []
stated_from t (n ∷ ns) (r ∷ rs) = stated_latch t n r ∷ stated_from (t + 2) ns rs

states_back : (t : ℕ) (ns rs : List ℕ) → length rs ≡ length ns → states_of (stated_from t ns rs) ≡ count_from t (length ns)
states_back t [] rs e = refl
states_back t (n ∷ ns) [] e = absurd (omega arith)
states_back t (n ∷ ns) (r ∷ rs) e = ap (λ (l : List ℕ). t ∷ l) (states_back (t + 2) ns rs (omega arith))

nexts_back : (t : ℕ) (ns rs : List ℕ) → length rs ≡ length ns → nexts_of (stated_from t ns rs) ≡ ns
nexts_back t [] rs e = refl
nexts_back t (n ∷ ns) [] e = absurd (omega arith)
nexts_back t (n ∷ ns) (r ∷ rs) e = ap (λ (l : List ℕ). n ∷ l) (nexts_back (t + 2) ns rs (omega arith))

resets_back : (t : ℕ) (ns rs : List ℕ) → length rs ≡ length ns → resets_of (stated_from t ns rs) ≡ rs
resets_back t [] [] e = refl
resets_back t [] (r ∷ rs) e = absurd (omega arith)
resets_back t (n ∷ ns) [] e = absurd (omega arith)
resets_back t (n ∷ ns) (r ∷ rs) e = ap (λ (l : List ℕ). r ∷ l) (resets_back (t + 2) ns rs (omega arith))

stated_length : (t : ℕ) (ns rs : List ℕ) → length rs ≡ length ns → length (stated_from t ns rs) ≡ length ns
stated_length t [] rs e = refl
stated_length t (n ∷ ns) [] e = absurd (omega arith)
stated_length t (n ∷ ns) (r ∷ rs) e = ap suc (stated_length (t + 2) ns rs (omega arith))

stated_row : (most t k : ℕ) (ns rs : List ℕ) → length rs ≡ length ns → 1 ≤ t → t % 2 ≡ 0 → t + 2 * length ns ≤ most + 2 → AllWithin most ns → AllWithin most rs
    → most < 2 ^ 64 → first_stray (count_from t (length ns)) rs ≡ None → Row (λ _. StatedLine most) k (stated_from t ns rs) (stated_lines t ns rs)
unfolding stated_bytes
stated_row most t k [] rs e some even end low small fits pass = refl
stated_row most t k (n ∷ ns) [] e some even end low small fits pass = absurd (omega arith)
stated_row most t k (n ∷ ns) (r ∷ rs) e some even end low small fits pass =
    let p = passes t r (count_from (t + 2) (length ns)) rs pass in
    let line : StatedLine most (stated_latch t n r) (digits_of t ++ (32 ∷ latch_bytes n r)) =
    in_a_row t (digits_of t) (32 ∷ latch_bytes n r) (defines most t some even (omega arith) fits)
    (in_a_row tt (32 ∷ []) (latch_bytes n r) refl
    (at_last (λ l. stated_latch t l.next l.reset) (latch_line n r)
    (latch_spelled most t (latch_line n r) (low n (inl refl)) (small r (inl refl)) fits ((is_reset_lem t r).0 p.0)) refl)) in (
      stated_bytes t n r,
      stated_lines (t + 2) ns rs,
      line,
      stated_row most (t + 2) (suc k) ns rs (omega arith) (omega arith) (omega arith) (omega arith) (λ v i. low v (inr i)) (λ v i. small v (inr i)) fits p.1,
      refl,
    )

-- gates: outputs from t on

gate_spelled : (most t a b : ℕ) → 1 ≤ t → t % 2 ≡ 0 → t ≤ most → a ≤ most → b ≤ most → most < 2 ^ 64 → GateLine most (gate_with t a b) (gate_line t a b)
unfolding gate_line
gate_spelled most t a b some even low low₁ low₂ fits =
    in_a_row t (digits_of t) (count_bytes a ++ (count_bytes b ++ (10 ∷ []))) (defines most t some even low fits)
    (in_a_row a (count_bytes a) (count_bytes b ++ (10 ∷ [])) (count_spelled most a low₁ (omega arith))
    (in_a_row b (count_bytes b) (10 ∷ []) (count_spelled most b low₂ (omega arith)) (at_last (λ _. gate_with t a b) tt refl refl)))

gates_row : (most t k : ℕ) (ps : List Pair) → 1 ≤ t → t % 2 ≡ 0 → t + 2 * length ps ≤ most + 2
    → ((j : ℕ) → j < length ps → ((get_or ps j no_pair).smaller ≤ (get_or ps j no_pair).larger) × ((get_or ps j no_pair).larger < t + 2 * j)) → most < 2 ^ 64
    → Row (λ _. GateLine most) k (gates_from t ps) (gate_lines t ps)
gates_row most t k [] some even end falls fits = refl
gates_row most t k (p ∷ ps) some even end falls fits =
    let here : (p.smaller ≤ p.larger) × (p.larger < t + 2 * 0) = falls 0 (omega arith) in (
      gate_line t p.larger p.smaller,
      gate_lines (t + 2) ps,
      gate_spelled most t p.larger p.smaller some even (omega arith) (omega (arith, here.1)) (omega (arith, here.0, here.1)) fits,
      gates_row most (t + 2) (suc k) ps (omega arith) (omega arith) (omega arith) (λ j h. later j (falls (suc j) (omega arith))) fits,
      refl,
    )
  where
    later : (j : ℕ) → ((get_or ps j no_pair).smaller ≤ (get_or ps j no_pair).larger) × ((get_or ps j no_pair).larger < t + 2 * suc j)
        → ((get_or ps j no_pair).smaller ≤ (get_or ps j no_pair).larger) × ((get_or ps j no_pair).larger < t + 2 + 2 * j)
    later j (a, b) = (a, omega arith)

gates_length : (t : ℕ) (ps : List Pair) → length (gates_from t ps) ≡ length ps
gates_length t [] = refl
gates_length t (p ∷ ps) = ap suc (gates_length (t + 2) ps)

-- the first code after n inputs and latches
first_even : (n : ℕ) → (first_code n % 2 ≡ 0) × (1 ≤ first_code n) × (first_code n ≡ 2 * (n + 1))
unfolding first_code
first_even n = (omega arith, omega arith, refl)

-- the whole text

module _ (f : File) (k : Sound f) (room : Room) (fits : Holds room f) where
  abbrev h : Header
  h = header_for f

  abbrev O : Ordered
  O = f.ordered

  abbrev r : Roots
  r = roots_of f.sizes f.ordered.roots

  abbrev lines : List Stated
  lines = stated_from (first_latch f.ordered.inputs) f.ordered.nexts f.ordered.resets

  small : top_code h < 2 ^ 64
  small = omega (arith, k.well_ordered.variables)

  inputs : Inputs (top_code h) h.inputs (count_from 2 O.inputs) (input_lines h.inputs)
  inputs = inputs_spelled (top_code h) h.inputs (omega arith) small

  latches : StatedLines (top_code h) h.latches lines (stated_lines (first_latch O.inputs) O.nexts O.resets)
  latches = (
    stated_length (first_latch O.inputs) O.nexts O.resets (sym k.well_ordered.reset_count),
    stated_row (top_code h) (first_latch O.inputs) 0 O.nexts O.resets (sym k.well_ordered.reset_count) (omega arith) (omega arith) (omega arith)
        k.well_ordered.nexts (resets_within O k.well_ordered.reset_count k.well_ordered.resets) small
        ((stray_exactly (latches_of O) O.resets).1 k.well_ordered.resets),
  )

  roots : Rooting h (top_code h) room.roots r (roots_bytes h r)
  roots =
      roots_spelled h (top_code h) room.roots r refl (its_roots f k) (omega (arith, its_roots f k, k.well_ordered.few))
      (omega (arith, its_roots f k, fits.roots)) small k.well_ordered.roots

  gates : GateLines (top_code h) h.gates (gates_from (first_code (sources_of O)) O.gates) (gate_lines (first_code (sources_of O)) O.gates)
  gates =
      let e = first_even (sources_of O) in (
        gates_length (first_code (sources_of O)) O.gates,
        gates_row (top_code h) (first_code (sources_of O)) 0 O.gates e.1 e.0 (omega (arith, e.2)) k.well_ordered.gates small,
      )

  its_parts : text_for f ≡ text_with h (count_from 2 O.inputs) lines r (gates_from (first_code (sources_of O)) O.gates)
  its_parts =
      let e = sym k.well_ordered.reset_count in
      let t = first_latch O.inputs in
      alike (its_counts f k) (sym (states_back t O.nexts O.resets e)) (sym (nexts_back t O.nexts O.resets e))
      (sym (resets_back t O.nexts O.resets e))
    where
      with_lists : List ℕ → List ℕ → List ℕ → List ℕ → Text
      with_lists cs ss ns rs =
          record {
            top = h.top;
            inputs = count_from 2 O.inputs;
            states = ss;
            nexts = ns;
            resets = rs;
            gates = gates_from (first_code (sources_of O)) O.gates;
            counts = cs;
            sizes = f.sizes;
            roots = O.roots;
          }

      alike : {a a' b b' c c' d d' : List ℕ} → a ≡ a' → b ≡ b' → c ≡ c' → d ≡ d' → with_lists a b c d ≡ with_lists a' b' c' d'
      alike u v w x = cc

  pub text_spelled : Spells room (text_for f) (text_of f)
  unfolding parts_of
  text_spelled =
      let last : List ℕ = gate_lines (first_code (sources_of O)) O.gates in
      let behind : List ℕ = roots_bytes h r ++ last in
      let middle : List ℕ = stated_lines (first_latch O.inputs) O.nexts O.resets ++ behind in
      let lists : List ℕ = input_lines h.inputs ++ middle in
      let sized : Sized h room tt [] = (
        record {
          inputs_fit = fits.inputs;
          states_fit = fits.states;
          nexts_fit = fits.nexts;
          resets_fit = fits.resets;
          gates_fit = fits.gates;
          sizes_fit = fits.sizes;
        },
        refl,
      ) in
      let known : List Gate → Text = λ gs. text_with h (count_from 2 O.inputs) lines r gs in
      let listed : Listed room h (text_for f) lists =
      in_a_row (count_from 2 O.inputs) (input_lines h.inputs) middle inputs
      (in_a_row lines (stated_lines (first_latch O.inputs) O.nexts O.resets) behind latches
      (in_a_row r (roots_bytes h r) last roots (at_last known (gates_from (first_code (sources_of O)) O.gates) gates its_parts))) in
      (after_tag h ++ lists, refl, in_a_row h (after_tag h) lists (header_spelled h (its_header f k)) (in_a_row tt [] lists sized listed))

-- the circuit of that text is the ordered circuit as it is given
pub text_given : (f : File) (trim hash fold : Bool) → circuit_in (text_for f) trim hash fold ≡ given f.ordered trim hash fold
unfolding given
text_given f trim hash fold = refl
