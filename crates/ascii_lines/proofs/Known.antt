-- What holds of input lines, latch lines and gate lines that are read: how many there are, that each literal is within the limit, that those defined are even
-- and not 0, and that each reset is 0, 1 or its latch's own literal. Line by line, and so of every row of lines. Assumes nothing.
use Prim.Native.Nat.{ℕ, ◌%◌, ◌≤◌}
use mathlib.Core.Path.{◌≡◌, refl, ◌∙◌, subst}
use mathlib.Core.Bool.{true}
use mathlib.Core.Logic.{inl, inr}
use mathlib.Core.List.{List, [], ◌∷◌, map}
use Rattle.std.specs.Prelude.{None}
use native.Mathlib.Omega.{arith}
use lib.ListN.{length, length-map}
use Rattle.circuit.specs.Graph.{In, Gate}
use Rattle.circuit.specs.Circuit.{is_reset, first_stray}
use Rattle.circuit.specs.Claims.{AllWithin, GatesWithin, AllReset}
use Rattle.circuit.proofs.Resets.{stray_exactly}
use Rattle.lines.specs.Reading.{got, ◌▸◌}
use Rattle.lines.specs.Lines.{LatchLine, space_at, newline_at, latch_at}
use Rattle.lines.specs.Sections.{count_at}
use Rattle.lines.proofs.Heads.{two, got_same, number_within, count_within, row_length, row_each}
use Rattle.lines.proofs.Resets.{latch_may}
use Rattle.lines.proofs.Known.{latch_within, each_of}
use Rattle.ordered.specs.Expand.{gate_words}
use Rattle.ascii_lines.specs.Lines.{defined_at, input_at, inputs_at, Stated, stated_latch, states_of, nexts_of, resets_of, stated_at, latches_at}
use Rattle.ascii_lines.specs.Lines.{gate_with, input_pair_at, gate_at, gates_at}
use Rattle.ascii_lines.proofs.Literals.{defined_number}

-- a literal that a line defines

record Literal (most v : ℕ) : Type 0 where
  within : v ≤ most
  some : 1 ≤ v
  even : v % 2 ≡ 0

defined-literal : (s : List ℕ) (most at v end : ℕ) → defined_at s most at ≡ got v end → Literal most v
defined-literal s most at v end e =
    let d = defined_number s most at v end e in
    record { within = number_within s most at v end d.0; some = d.1; even = d.2 }

-- input lines

input_literal : (s : List ℕ) (most at v end : ℕ) → input_at s most at ≡ got v end → Literal most v
unfolding input_at
input_literal s most at v end e =
    let t = two (defined_at s most at) (λ w at₁. newline_at s at₁ ▸ λ _ at₂. got w at₂) v end e in
    let u = two (newline_at s t.place) (λ _ at₂. got t.first at₂) v end t.then in
    subst (Literal most) (got_same u.then) (defined-literal s most at t.first t.place t.read)

module _ (s : List ℕ) (most n at : ℕ) (vs : List ℕ) (end : ℕ) (e : inputs_at s most n at ≡ got vs end) where
  inputs_each : (v : ℕ) → In v vs → Literal most v
  unfolding inputs_at
  inputs_each = row_each (Literal most) (λ k. input_at s most) (λ k. input_literal s most) 0 n at vs end e

  pub inputs_length : length vs ≡ n
  unfolding inputs_at
  inputs_length = row_length (λ k. input_at s most) 0 n at vs end e

  pub inputs_within : AllWithin most vs
  inputs_within v i = (inputs_each v i).within

  pub inputs_defined : (c : ℕ) → In c vs → (1 ≤ c) × (c % 2 ≡ 0)
  inputs_defined c i = let l = inputs_each c i in (l.some, l.even)

-- latch lines

record Sound (most : ℕ) (l : Stated) : Type 0 where
  state : Literal most l.state
  next : l.next ≤ most
  reset : l.reset ≤ most
  may : is_reset l.state l.reset ≡ true

stated_sound : (s : List ℕ) (most at : ℕ) (l : Stated) (end : ℕ) → stated_at s most at ≡ got l end → Sound most l
unfolding stated_at
stated_sound s most at l end e =
    let t = two (defined_at s most at)
    (λ state at₁. space_at s at₁ ▸ λ _ at₂. latch_at s most state at₂ ▸ λ k at₃. got (stated_latch state k.next k.reset) at₃) l end e in
    let u = two (space_at s t.place) (λ _ at₂. latch_at s most t.first at₂ ▸ λ k at₃. got (stated_latch t.first k.next k.reset) at₃) l end
    t.then in
    let v = two (latch_at s most t.first u.place) (λ k at₃. got (stated_latch t.first k.next k.reset) at₃) l end u.then in
    made t.first u.place v.first v.place (defined-literal s most at t.first t.place t.read) v.read v.then
  where
    made : (state p : ℕ) (k : LatchLine) (q : ℕ) → Literal most state → latch_at s most state p ≡ got k q
        → got (stated_latch state k.next k.reset) q ≡ got l end → Sound most l
    made state p k q literal read same =
        let low = latch_within s most state p k q read in
        subst (Sound most) (got_same same) (record { state = literal; next = low.0; reset = low.1; may = latch_may s most state p k q read })

-- no line's reset is a stray, so there is none in the list
none_stray_lem : (ls : List Stated) → ((l : Stated) → In l ls → is_reset l.state l.reset ≡ true) → first_stray (states_of ls) (resets_of ls) ≡ None
none_stray_lem [] may = refl
none_stray_lem (l ∷ ls) may = rw (may l (inl refl)) (none_stray_lem ls (λ k i. may k (inr i)))

module _ (s : List ℕ) (most n at : ℕ) (ls : List Stated) (end : ℕ) (e : latches_at s most n at ≡ got ls end) where
  latches_each : (l : Stated) → In l ls → Sound most l
  unfolding latches_at
  latches_each = row_each (Sound most) (λ k. stated_at s most) (λ k. stated_sound s most) 0 n at ls end e

  latches_length : length ls ≡ n
  unfolding latches_at
  latches_length = row_length (λ k. stated_at s most) 0 n at ls end e

  pub states_length : length (states_of ls) ≡ n
  states_length = length-map ls (λ l. l.state) ∙ latches_length

  pub nexts_length : length (nexts_of ls) ≡ n
  nexts_length = length-map ls (λ l. l.next) ∙ latches_length

  pub resets_length : length (resets_of ls) ≡ n
  resets_length = length-map ls (λ l. l.reset) ∙ latches_length

  pub states_within : AllWithin most (states_of ls)
  states_within = each_of (λ v. v ≤ most) (λ l. l.state) ls (λ l i. (latches_each l i).state.within)

  pub nexts_within : AllWithin most (nexts_of ls)
  nexts_within = each_of (λ v. v ≤ most) (λ l. l.next) ls (λ l i. (latches_each l i).next)

  pub resets_within : AllWithin most (resets_of ls)
  resets_within = each_of (λ v. v ≤ most) (λ l. l.reset) ls (λ l i. (latches_each l i).reset)

  pub states_defined : (c : ℕ) → In c (states_of ls) → (1 ≤ c) × (c % 2 ≡ 0)
  states_defined =
      each_of (λ c. (1 ≤ c) × (c % 2 ≡ 0)) (λ l. l.state) ls (λ l i. let v = (latches_each l i).state in (v.some, v.even))

  pub latches_no_stray : first_stray (states_of ls) (resets_of ls) ≡ None
  latches_no_stray = none_stray_lem ls (λ l i. (latches_each l i).may)

  pub latches_reset : AllReset (states_of ls) (resets_of ls)
  latches_reset = (stray_exactly (states_of ls) (resets_of ls)).0 latches_no_stray

-- gate lines

record Whole (most : ℕ) (g : Gate) : Type 0 where
  output : Literal most g.output
  first : g.first ≤ most
  second : g.second ≤ most

gate_whole : (s : List ℕ) (most at : ℕ) (g : Gate) (end : ℕ) → gate_at s most at ≡ got g end → Whole most g
unfolding gate_at input_pair_at
gate_whole s most at g end e =
    let t = two (defined_at s most at) (λ output at₁. input_pair_at s most output at₁) g end e in
    let u = two (count_at s most t.place)
    (λ first at₁. count_at s most at₁ ▸ λ second at₂. newline_at s at₂ ▸ λ _ at₃. got (gate_with t.first first second) at₃) g end t.then in
    let v = two (count_at s most u.place) (λ second at₂. newline_at s at₂ ▸ λ _ at₃. got (gate_with t.first u.first second) at₃) g end u.then in
    let w = two (newline_at s v.place) (λ _ at₃. got (gate_with t.first u.first v.first) at₃) g end v.then in
    made t.first u.first v.first w.place (defined-literal s most at t.first t.place t.read)
    (count_within s most t.place u.first u.place u.read) (count_within s most u.place v.first v.place v.read) w.then
  where
    made : (output first second q : ℕ) → Literal most output → first ≤ most → second ≤ most → got (gate_with output first second) q ≡ got g end
        → Whole most g
    made output first second q literal a b same = subst (Whole most) (got_same same) (record { output = literal; first = a; second = b })

-- gates within a limit have their words within it
words_within : (most : ℕ) (gs : List Gate) → GatesWithin most gs → AllWithin most (gate_words gs)
words_within most [] within c i = absurd i
words_within most (g ∷ gs) within c (inl e) = omega (arith, e, (within g (inl refl)).0)
words_within most (g ∷ gs) within c (inr (inl e)) = omega (arith, e, (within g (inl refl)).1)
words_within most (g ∷ gs) within c (inr (inr (inl e))) = omega (arith, e, (within g (inl refl)).2)
words_within most (g ∷ gs) within c (inr (inr (inr i))) = words_within most gs (λ h j. within h (inr j)) c i

module _ (s : List ℕ) (most m at : ℕ) (gs : List Gate) (end : ℕ) (e : gates_at s most m at ≡ got gs end) where
  gates_each : (g : Gate) → In g gs → Whole most g
  unfolding gates_at
  gates_each = row_each (Whole most) (λ k. gate_at s most) (λ k. gate_whole s most) 0 m at gs end e

  pub gates_length : length gs ≡ m
  unfolding gates_at
  gates_length = row_length (λ k. gate_at s most) 0 m at gs end e

  pub gates_within : AllWithin most (gate_words gs)
  gates_within = words_within most gs (λ g i. let w = gates_each g i in (w.output.within, w.first, w.second))

  pub outputs_within : AllWithin most (map (λ g. g.output) gs)
  outputs_within = each_of (λ v. v ≤ most) (λ g. g.output) gs (λ g i. (gates_each g i).output.within)

  pub firsts_within : AllWithin most (map (λ g. g.first) gs)
  firsts_within = each_of (λ v. v ≤ most) (λ g. g.first) gs (λ g i. (gates_each g i).first)

  pub seconds_within : AllWithin most (map (λ g. g.second) gs)
  seconds_within = each_of (λ v. v ≤ most) (λ g. g.second) gs (λ g i. (gates_each g i).second)

  pub outputs_defined : (c : ℕ) → In c (map (λ g. g.output) gs) → (1 ≤ c) × (c % 2 ≡ 0)
  outputs_defined =
      each_of (λ c. (1 ≤ c) × (c % 2 ≡ 0)) (λ g. g.output) gs (λ g i. let v = (gates_each g i).output in (v.some, v.even))
