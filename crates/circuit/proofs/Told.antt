-- The demands leave nothing open but the numbering: two outcomes of one lending that meet them and give one answer are the same, cell by cell, if after a
-- success the map's cells are the same. For a refusal says what each cell is; and after a success images, words and zeros are read off the map.
-- Assumes nothing.
use Rattle.std.specs.Prelude.{Ok, Err}
use Prim.Native.Nat.{ℕ, suc, ◌+◌, ◌*◌, ◌/◌, ◌%◌, ◌<◌, ◌≤◌, min, max}
use mathlib.Core.Path.{◌≡◌, refl, sym, ◌∙◌, ap, ap₂, subst}
use mathlib.Core.Logic.{◌⊎◌, inl, inr}
use mathlib.Core.List.{List, [], ◌∷◌}
use native.Mathlib.Omega.{arith}
use lib.ListN.{length, get_or}
use Rattle.lit.specs.Code.{var, literal, flipped}
use Rattle.circuit.specs.declared.Refusal.{Refusal}
use Rattle.circuit.specs.declared.Summary.{Summary}
use Rattle.circuit.specs.Answer.{Answer}
use Rattle.circuit.specs.Graph.{Gate}
use Rattle.circuit.specs.Circuit.{Circuit}
use Rattle.circuit.specs.Outcome.{Lent, Outcome, circuit_of, outcome_of, held}
use Rattle.circuit.specs.Claims.{Folds, image_after, larger_after, smaller_after, Taken, Untaken, Stays, IsNew, Keeps, Filled, Early, Late}
use Rattle.circuit.specs.Demands.{Demands, AfterSuccess}
use Rattle.circuit.proofs.Tests.{lt_or}
use Rattle.lit.proofs.Flips.{parity}

-- lists of one length with the same cells
same_list : (xs ys : List ℕ) → length xs ≡ length ys → ((i : ℕ) → get_or xs i 0 ≡ get_or ys i 0) → xs ≡ ys
same_list [] [] e f = refl
same_list [] (y ∷ ys) e f = absurd (omega arith)
same_list (x ∷ xs) [] e f = absurd (omega arith)
same_list (x ∷ xs) (y ∷ ys) e f = ap₂ ◌∷◌ (f 0) (same_list xs ys (omega arith) (λ i. f (suc i)))

-- two lists that keep one from a place on, and are the same before it
same_kept : (n : ℕ) (before xs ys : List ℕ) → Keeps n before xs → Keeps n before ys → ((i : ℕ) → i < n → get_or xs i 0 ≡ get_or ys i 0) → xs ≡ ys
same_kept n before xs ys p q f = same_list xs ys (p.0 ∙ sym q.0) (λ i. go i (lt_or i n))
  where
    go : (i : ℕ) → (i < n) ⊎ (n ≤ i) → get_or xs i 0 ≡ get_or ys i 0
    go i (inl h) = f i h
    go i (inr h) = p.1 i h ∙ sym (q.1 i h)

same_filled : (n word : ℕ) (before xs ys : List ℕ) → Filled n word before xs → Filled n word before ys → xs ≡ ys
same_filled n word before xs ys p q = same_kept n before xs ys p.past q.past (λ i h. p.front i h ∙ sym (q.front i h))

same_whole : (before xs ys : List ℕ) → Keeps 0 before xs → Keeps 0 before ys → xs ≡ ys
same_whole before xs ys p q = same_kept 0 before xs ys p q (λ i k. absurd (omega arith))

same_outcome : (o o' : Outcome) → o.answer ≡ o'.answer → o.map ≡ o'.map → o.next_images ≡ o'.next_images → o.reset_images ≡ o'.reset_images
    → o.root_images ≡ o'.root_images → o.gates_out ≡ o'.gates_out → o.scratch ≡ o'.scratch → o ≡ o'
same_outcome o o' a m n t r g s =
    ap (λ (x : Answer). outcome_of x o.map o.next_images o.reset_images o.root_images o.gates_out o.scratch) a
    ∙ ap₂ (λ (x y : List ℕ). outcome_of o'.answer x y o.reset_images o.root_images o.gates_out o.scratch) m n
    ∙ ap₂ (λ (x y : List ℕ). outcome_of o'.answer o'.map o'.next_images x y o.gates_out o.scratch) t r
    ∙ ap₂ (λ (x y : List ℕ). outcome_of o'.answer o'.map o'.next_images o'.reset_images o'.root_images x y) g s

module _ (l : Lent) (o o' : Outcome) (d : Demands l (circuit_of l) o) (d' : Demands l (circuit_of l) o') (one : o.answer ≡ o'.answer) where
  abbrev C : Circuit
  C = circuit_of l

  -- a refusal: every list kept, or cleared as far as it is named
  after-refusal : (r : Refusal) → o.answer ≡ Err r → Early r ⊎ Late r → o ≡ o'
  after-refusal r e (inl h) =
      let p = d.early_refusals_keep r e h in
      let q = d'.early_refusals_keep r (sym one ∙ e) h in
      same_outcome o o' one (same_whole l.map _ _ p.map q.map) (same_whole l.next_images _ _ p.nexts q.nexts)
      (same_whole l.reset_images _ _ p.resets q.resets) (same_whole l.root_images _ _ p.roots q.roots) (same_whole l.gates_out _ _ p.gates q.gates)
      (same_whole l.scratch _ _ p.scratch q.scratch)
  after-refusal r e (inr h) =
      let p = d.late_refusals_clear r e h in
      let q = d'.late_refusals_clear r (sym one ∙ e) h in
      same_outcome o o' one (same_filled _ _ l.map _ _ p.map q.map) (same_filled _ _ l.next_images _ _ p.nexts q.nexts)
      (same_filled _ _ l.reset_images _ _ p.resets q.resets) (same_filled _ _ l.root_images _ _ p.roots q.roots) (same_filled _ _ l.gates_out _ _ p.gates q.gates)
      (same_filled _ _ l.scratch _ _ p.scratch q.scratch)

  -- a success: all else is read off the map
  module _ (s : Summary) (e : o.answer ≡ Ok s) (same : (v : ℕ) → v ≤ C.top → get_or o.map v 0 ≡ get_or o'.map v 0) where
    abbrev here : AfterSuccess l C o s (held l s o)
    here = d.success s e

    abbrev there : AfterSuccess l C o' s (held l s o')
    there = d'.success s (sym one ∙ e)

    after_same : (c : ℕ) → var c ≤ C.top → image_after o c ≡ image_after o' c
    after_same c h = ap (λ (x : ℕ). flipped x c) (same (var c) h)

    latches : length C.states ≡ length l.nexts
    latches = here.passes.sizes.agrees.latches

    next_same : (j : ℕ) → j < length C.states → get_or o.next_images j 0 ≡ get_or o'.next_images j 0
    next_same j h =
        let c : ℕ = get_or l.nexts j 0 in
        let low = ((here.image_cells c (literal (get_or o.next_images j 0))).0 (here.next_images j (omega (arith, latches)))).0 in
        here.fills.nexts j h ∙ after_same c low ∙ sym (there.fills.nexts j h)

    reset_same : (j : ℕ) → j < length C.states → get_or o.reset_images j 0 ≡ get_or o'.reset_images j 0
    reset_same j h = here.fills.resets j h ∙ sym (there.fills.resets j h)

    root_same : (j : ℕ) → j < length C.roots → get_or o.root_images j 0 ≡ get_or o'.root_images j 0
    root_same j h =
        let c : ℕ = get_or l.roots j 0 in
        let low = ((here.image_cells c (literal (get_or o.root_images j 0))).0 (here.root_images j h)).0 in
        here.fills.roots j h ∙ after_same c low ∙ sym (there.fills.roots j h)

    -- a gate that became the j-th new one here became it there
    module _ (g : Gate) (j : ℕ) (stays : Stays l o g) (new : IsNew l o s g j) where
      first_low : var g.first ≤ C.top
      first_low = ((here.image_cells _ _).0 (here.gates_ruled g stays.is_gate stays.is_reached).first).0

      second_low : var g.second ≤ C.top
      second_low = ((here.image_cells _ _).0 (here.gates_ruled g stays.is_gate stays.is_reached).second).0

      out_low : var g.output ≤ C.top
      out_low = let r = (here.images_exactly g.output).1 stays.is_reached in ((here.image_cells g.output r.0).0 r.1).0

      larger_same : larger_after o g ≡ larger_after o' g
      larger_same = ap₂ max (after_same g.first first_low) (after_same g.second second_low)

      smaller_same : smaller_after o g ≡ smaller_after o' g
      smaller_same = ap₂ min (after_same g.first first_low) (after_same g.second second_low)

      taken_back : (t : ℕ) → Taken l o' g t → Taken l o g t
      taken_back t k = (
        k.0,
        subst (λ (x : ℕ). Folds x (smaller_after o g) t) (sym larger_same)
            (subst (λ (y : ℕ). Folds (larger_after o' g) y t) (sym smaller_same) k.1),
      )

      new_there : IsNew l o' s g j
      new_there = go (there.gates_ruled g stays.is_gate stays.is_reached).became
        where
          go : Taken l o' g (image_after o' g.output) ⊎ (Untaken l o' g × ((i : ℕ) × IsNew l o' s g i)) → IsNew l o' s g j
          go (inl k) = absurd (stays.untaken (image_after o' g.output) (taken_back (image_after o' g.output) k))
          go (inr k) =
              let i : ℕ = k.1.0 in
              let z : i ≡ j = omega (arith, k.1.1.code, new.code, after_same g.output out_low) in
              subst (IsNew l o' s g) z k.1.1

      larger_word : get_or o.gates_out (2 * j) 0 ≡ get_or o'.gates_out (2 * j) 0
      larger_word = new.larger ∙ larger_same ∙ sym new_there.larger

      smaller_word : get_or o.gates_out (2 * j + 1) 0 ≡ get_or o'.gates_out (2 * j + 1) 0
      smaller_word = new.smaller ∙ smaller_same ∙ sym new_there.smaller

    word_same : (i : ℕ) → i < 2 * length C.gates → (i < 2 * s.made) ⊎ (2 * s.made ≤ i) → (i % 2 ≡ 0) ⊎ (i % 2 ≡ 1)
        → get_or o.gates_out i 0 ≡ get_or o'.gates_out i 0
    word_same i h (inr k) p = here.fills.tail i k h ∙ sym (there.fills.tail i k h)
    word_same i h (inl k) (inl p) =
        let f = here.fills.gates (i / 2) (omega arith) in
        let z : 2 * (i / 2) ≡ i = omega arith in
        subst (λ (x : ℕ). get_or o.gates_out x 0 ≡ get_or o'.gates_out x 0) z (larger_word f.0 (i / 2) f.1 f.2)
    word_same i h (inl k) (inr p) =
        let f = here.fills.gates (i / 2) (omega arith) in
        let z : 2 * (i / 2) + 1 ≡ i = omega arith in
        subst (λ (x : ℕ). get_or o.gates_out x 0 ≡ get_or o'.gates_out x 0) z (smaller_word f.0 (i / 2) f.1 f.2)

    after-success : o ≡ o'
    after-success =
        let p = d.past_kept in
        let q = d'.past_kept in
        same_outcome o o' one (same_kept _ l.map _ _ p.map q.map (λ v h. same v (omega arith)))
        (same_kept _ l.next_images _ _ p.nexts q.nexts next_same)
        (same_kept _ l.reset_images _ _ p.resets q.resets reset_same)
        (same_kept _ l.root_images _ _ p.roots q.roots root_same)
        (same_kept _ l.gates_out _ _ p.gates q.gates (λ i h. word_same i h (lt_or i (2 * s.made)) (parity i)))
        (same_filled _ _ l.scratch _ _ here.fills.scratch there.fills.scratch)

-- two outcomes that meet the demands are one, if they give one answer and, after a success, hold one map
pub told : (l : Lent) (o o' : Outcome) → Demands l (circuit_of l) o → Demands l (circuit_of l) o' → o.answer ≡ o'.answer
    → ((s : Summary) → o.answer ≡ Ok s → (v : ℕ) → v ≤ (circuit_of l).top → get_or o.map v 0 ≡ get_or o'.map v 0) → o ≡ o'
told l o o' d d' one same = go o.answer refl
  where
    go : (a : Answer) → o.answer ≡ a → o ≡ o'
    go (Ok s) e = after-success l o o' d d' one s e (same s e)
    go (Err r) e = after-refusal l o o' d d' one r e (d.early_or_late r)
