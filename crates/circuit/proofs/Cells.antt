-- Every lent cell after a success: the map's cells are the walk's, next and root images are read off them, and each pair of words is a gate that the walk made
-- for an old gate. Assumes nothing.
use Rattle.std.specs.Prelude.{Option, Some, None}
use Prim.Native.Nat.{ℕ, zero, suc, ◌+◌, ◌*◌, ◌-◌, ◌<◌, ◌≤◌, min, max}
use mathlib.Core.Path.{◌≡◌, refl, sym, ◌∙◌, ap, ap₂, subst, subst⁻¹}
use mathlib.Core.Logic.{◌⊎◌, inl, inr, ◌≢◌, ◌↔◌}
use mathlib.Core.Bool.{Bool, true, false}
use mathlib.Core.List.{List, [], ◌∷◌, ◌++◌}
use native.Mathlib.Omega.{arith}
use lib.Dec.{eqb}
use lib.ListN.{length, get_or, length-append, length-map, length-replicate, get_or-replicate, get_or-append, get_or-eq_default}
use lib.Seq.{get_or-append-add}
use Rattle.lit.specs.Code.{var, literal, flipped}
use Rattle.lit.specs.declared.Lit.{Lit}
use Rattle.lit.proofs.Flips.{flipped_twice}
use Rattle.circuit.specs.declared.Summary.{Summary}
use Rattle.circuit.specs.Graph.{In, Gate, out_var}
use Rattle.circuit.specs.Map.{no_image, image_in, code_of}
use Rattle.circuit.specs.Walk.{source_count, Pair, Work, first_code, folded_if, reached}
use Rattle.circuit.specs.Circuit.{Circuit, net}
use Rattle.circuit.specs.Ordered.{images_in, carried, carried_from, first_latch, ordered_of, no_pair}
use Rattle.circuit.specs.Outcome.{Lent, Outcome, circuit_of, conclusion, scratch_words, onto, zeros, pair_words, outcome}
use Rattle.circuit.specs.Claims.{HasImage, Named, Folds, image_after, larger_after, smaller_after, Taken, Untaken, Stays, IsNew, Ruled, Keeps, Filled, Fills, Holds, Roomy}
use Rattle.circuit.proofs.Tests.{lt_or, Same, same, other, same_test}
use Rattle.circuit.proofs.Rows.{RowIf, takes_if, leaves_if, row_if}
use Rattle.circuit.proofs.Renumber.{Done}
use Rattle.circuit.proofs.Carried.{carried-length, carried_at}
use Rattle.circuit.proofs.Words.{pairs_length, pairs_larger, pairs_smaller}
use Rattle.circuit.proofs.Outcome.{agrees, roomy, success_of, onto_at}
use Rattle.circuit.proofs.Lengths.{filled, keeps_past}
use Rattle.circuit.proofs.Success as S
use Rattle.circuit.specs.Invariant.{pair, Makes, Inv, FromGate, BothMapped, larger_in, smaller_in, Unfolded, entry, code_in}

get_d_any : {A : Type 0} (xs : List A) (i : ℕ) (d d' : A) → i < length xs → get_or xs i d ≡ get_or xs i d'
get_d_any [] i d d' h = absurd (omega arith)
get_d_any (x ∷ xs) zero d d' h = refl
get_d_any (x ∷ xs) (suc i) d d' h = get_d_any xs i d d' (omega arith)

module _ (l : Lent) (w : Work) (e : conclusion l ≡ reached w) where
  abbrev C : Circuit
  C = circuit_of l

  abbrev done : Done C w
  done = (S.facts l w e).1

  abbrev inv : Inv (net C) C.top w
  inv = (S.facts l w e).1.inv

  abbrev room : Roomy l C
  room = roomy l (S.facts l w e).0.three

  -- a cell of the map is the walk's
  cell : (v : ℕ) → v ≤ C.top → get_or (outcome l).map v 0 ≡ entry w.images v
  cell v h =
      ap (λ (o : Outcome). get_or o.map v 0) (success_of l w e)
      ∙ onto_at w.images l.map v 0 (omega (arith, inv.size)) (omega (arith, inv.size, room.map))
      ∙ get_d_any w.images v 0 no_image (omega (arith, inv.size))

  mapped_low : (v : ℕ) → entry w.images v ≢ no_image → v ≤ C.top
  mapped_low v n = go (lt_or v (length w.images))
    where
      go : (v < length w.images) ⊎ (length w.images ≤ v) → v ≤ C.top
      go (inl h) = omega (arith, inv.size)
      go (inr h) = absurd (n (get_or-eq_default w.images no_image h))

  after : (c : ℕ) → entry w.images (var c) ≢ no_image → image_after (outcome l) c ≡ code_in w.images c
  after c n = ap (λ (x : ℕ). flipped x c) (cell (var c) (mapped_low (var c) n))

  pub image_cell : (c : ℕ) (t : Lit) → HasImage l (outcome l) c t
      ↔ ((var c ≤ C.top) × (get_or (outcome l).map (var c) 0 ≢ no_image) × (t.0 ≡ image_after (outcome l) c))
  image_cell c t = (to, from)
    where
      to : HasImage l (outcome l) c t → (var c ≤ C.top) × (get_or (outcome l).map (var c) 0 ≢ no_image) × (t.0 ≡ image_after (outcome l) c)
      to h =
          let k = S.mapped_back l w e c t h in
          let low : var c ≤ C.top = mapped_low (var c) k.0 in
          (low, λ z. k.0 (sym (cell (var c) low) ∙ z), k.1 ∙ sym (after c k.0))

      from : (var c ≤ C.top) × (get_or (outcome l).map (var c) 0 ≢ no_image) × (t.0 ≡ image_after (outcome l) c) → HasImage l (outcome l) c t
      from h =
          let n : entry w.images (var c) ≢ no_image = λ z. h.1 (cell (var c) h.0 ∙ z) in
          subst⁻¹ (λ (x : ℕ). HasImage l (outcome l) c (literal x)) (h.2 ∙ after c n) (S.mapped l w e c n)

  has_after : (c : ℕ) → entry w.images (var c) ≢ no_image → HasImage l (outcome l) c (literal (image_after (outcome l) c))
  has_after c n = subst⁻¹ (λ (x : ℕ). HasImage l (outcome l) c (literal x)) (after c n) (S.mapped l w e c n)

  named_mapped : (c : ℕ) → Named C (var c) → entry w.images (var c) ≢ no_image
  named_mapped c h = let r = (S.images_exactly_lem l w e c).1 h in (S.mapped_back l w e c r.0 r.1).0

  -- a gate's inputs
  larger_is : (g : Gate) → BothMapped w.images g → larger_after (outcome l) g ≡ larger_in w.images g
  larger_is g b = ap₂ max (after g.first b.0) (after g.second b.1)

  smaller_is : (g : Gate) → BothMapped w.images g → smaller_after (outcome l) g ≡ smaller_in w.images g
  smaller_is g b = ap₂ min (after g.first b.0) (after g.second b.1)

  -- the rows as computed, on the cells
  row_after : (g : Gate) → BothMapped w.images g
      → RowIf C.fold (larger_after (outcome l) g) (smaller_after (outcome l) g) (folded_if C.fold (larger_in w.images g) (smaller_in w.images g))
  row_after g b =
      subst (RowIf C.fold (larger_after (outcome l) g) (smaller_after (outcome l) g)) (ap₂ (folded_if C.fold) (larger_is g b) (smaller_is g b))
      (row_if C.fold (larger_after (outcome l) g) (smaller_after (outcome l) g))

  taken : (g : Gate) → BothMapped w.images g → (t : ℕ) → folded_if C.fold (larger_in w.images g) (smaller_in w.images g) ≡ Some t
      → Taken l (outcome l) g t
  taken g b t = go (folded_if C.fold (larger_in w.images g) (smaller_in w.images g)) (row_after g b)
    where
      go : (o : Option ℕ) → RowIf C.fold (larger_after (outcome l) g) (smaller_after (outcome l) g) o → o ≡ Some t → Taken l (outcome l) g t
      go (Some s) (takes_if s' on f) k = let q : s ≡ t = cc in (on, subst (Folds (larger_after (outcome l) g) (smaller_after (outcome l) g)) q f)
      go None (leaves_if n) k = absurd (let z : ◌≡◌ {A = ℕ} 0 1 = cc in omega arith)

  untaken : (g : Gate) → BothMapped w.images g → Unfolded (net C) w.images g → Untaken l (outcome l) g
  untaken g b = go (folded_if C.fold (larger_in w.images g) (smaller_in w.images g)) (row_after g b)
    where
      go : (o : Option ℕ) → RowIf C.fold (larger_after (outcome l) g) (smaller_after (outcome l) g) o → o ≡ None → Untaken l (outcome l) g
      go None (leaves_if n) k = λ t h. n t h.0 h.1
      go (Some s) r k = absurd (let z : ◌≡◌ {A = ℕ} 0 1 = cc in omega arith)

  unfolded : (g : Gate) → BothMapped w.images g → Untaken l (outcome l) g → Unfolded (net C) w.images g
  unfolded g b u = go (folded_if C.fold (larger_in w.images g) (smaller_in w.images g)) (row_after g b)
    where
      go : (o : Option ℕ) → RowIf C.fold (larger_after (outcome l) g) (smaller_after (outcome l) g) o → o ≡ None
      go None r = refl
      go (Some s) (takes_if s' on f) = absurd (u s (on, f))

  -- the words of the gates
  rest : List ℕ
  rest = zeros (2 * (length C.gates - length w.made))

  words_length : length (pair_words w.made ++ rest) ≡ 2 * length C.gates
  unfolding rest
  words_length =
      let n : ℕ = 2 * (length C.gates - length w.made) in
      omega (arith, length-append (pair_words w.made) (zeros n), length-replicate {A = ℕ} n 0, pairs_length w.made, S.made_few_lem l w e)

  word : (i : ℕ) → i < 2 * length C.gates → get_or (outcome l).gates_out i 0 ≡ get_or (pair_words w.made ++ rest) i 0
  unfolding ordered_of rest
  word i h =
      ap (λ (o : Outcome). get_or o.gates_out i 0) (success_of l w e)
      ∙ onto_at (pair_words w.made ++ rest) l.gates_out i 0 (omega (arith, words_length)) (omega (arith, words_length, room.gates))

  pub larger_word : (j : ℕ) → j < length w.made → get_or (outcome l).gates_out (2 * j) 0 ≡ (get_or w.made j no_pair).larger
  larger_word j h =
      word (2 * j) (omega (arith, S.made_few_lem l w e)) ∙ get_or-append (pair_words w.made) rest 0 (2 * j) (omega (arith, pairs_length w.made))
      ∙ pairs_larger w.made j h

  pub smaller_word : (j : ℕ) → j < length w.made → get_or (outcome l).gates_out (2 * j + 1) 0 ≡ (get_or w.made j no_pair).smaller
  smaller_word j h =
      word (2 * j + 1) (omega (arith, S.made_few_lem l w e)) ∙ get_or-append (pair_words w.made) rest 0 (2 * j + 1) (omega (arith, pairs_length w.made))
      ∙ pairs_smaller w.made j h

  tail_word : (i : ℕ) → 2 * length w.made ≤ i → i < 2 * length C.gates → get_or (outcome l).gates_out i 0 ≡ 0
  unfolding rest
  tail_word i h k =
      let m : ℕ = i - 2 * length w.made in
      let at : i ≡ length (pair_words w.made) + m = omega (arith, pairs_length w.made) in
      word i k ∙ ap (λ (x : ℕ). get_or (pair_words w.made ++ rest) x 0) at ∙ get_or-append-add (pair_words w.made) rest m 0
      ∙ get_or-replicate (2 * (length C.gates - length w.made)) m 0 0 (omega arith)

  module _ (s : Summary) (sums : s.made ≡ length w.made) where
    is_new_lem : (g : Gate) → entry w.images (out_var g) ≢ no_image → BothMapped w.images g → (j : ℕ) → j < length w.made
        → code_in w.images g.output ≡ first_code (source_count (net C)) + 2 * j
        → get_or w.made j no_pair ≡ pair (larger_in w.images g) (smaller_in w.images g)
        → IsNew l (outcome l) s g j
    unfolding first_code
    is_new_lem g n b j h code words =
        record {
          made = omega arith;
          code = after g.output n ∙ code ∙ omega (arith, length-append l.inputs l.states);
          larger = larger_word j h ∙ ap (λ (p : Pair). p.larger) words ∙ sym (larger_is g b);
          smaller = smaller_word j h ∙ ap (λ (p : Pair). p.smaller) words ∙ sym (smaller_is g b);
        }

    pub ruled : (g : Gate) → In g C.gates → Named C (out_var g) → Ruled l (outcome l) s g
    ruled g h k =
        let n : entry w.images (out_var g) ≢ no_image = named_mapped g.output k in
        let b : BothMapped w.images g = inv.closed g h n in
        record { first = has_after g.first b.0; second = has_after g.second b.1; became = go n b (inv.ruled g h n) }
      where
        go : entry w.images (out_var g) ≢ no_image → BothMapped w.images g
            → Makes (net C) w.made (larger_in w.images g) (smaller_in w.images g) (code_in w.images g.output)
            → Taken l (outcome l) g (image_after (outcome l) g.output) ⊎ (Untaken l (outcome l) g × ((j : ℕ) × IsNew l (outcome l) s g j))
        go n b (inl f) = inl (subst⁻¹ (Taken l (outcome l) g) (after g.output n) (taken g b (code_in w.images g.output) f))
        go n b (inr m) = inr (untaken g b m.4, (m.0, is_new_lem g n b m.0 m.1 m.2 m.3))

    new-gate : (j : ℕ) → j < s.made → (g : Gate) × Stays l (outcome l) g × IsNew l (outcome l) s g j
    new-gate j h =
        let k : j < length w.made = omega arith in
        let f : FromGate (net C) w.images w.made j = inv.from j k in
        let b : BothMapped w.images f.gate = inv.closed f.gate f.is_gate f.is_mapped in
        let stays : Stays l (outcome l) f.gate
        = record { is_gate = f.is_gate; is_reached = done.named (out_var f.gate) f.is_mapped; untaken = untaken f.gate b f.unfolded } in
        (f.gate, stays, is_new_lem f.gate f.is_mapped b j k f.code f.words)

    source_cell : (k : ℕ) → k < length C.inputs + length C.states
        → get_or (outcome l).map (var (get_or (C.inputs ++ C.states) k 0)) 0 ≡ flipped (2 * (k + 1)) (get_or (C.inputs ++ C.states) k 0)
    source_cell k h =
        let d : ℕ = get_or (C.inputs ++ C.states) k 0 in
        let i : k < length (C.inputs ++ C.states) = omega (arith, length-append C.inputs C.states) in
        let r = (image_cell d (literal (2 * (k + 1)))).0 (S.source_code l w e k i) in
        sym (flipped_twice (get_or (outcome l).map (var d) 0) d) ∙ ap (λ (x : ℕ). flipped x d) (sym r.2)

    unnamed_cell : (v : ℕ) → v ≤ C.top → (Named C v → ⊥) → get_or (outcome l).map v 0 ≡ no_image
    unnamed_cell v h n = cell v h ∙ go (eqb (entry w.images v) no_image) (same_test (entry w.images v) no_image)
      where
        go : (b : Bool) → Same (entry w.images v) no_image b → entry w.images v ≡ no_image
        go true (same k) = k
        go false (other k) = absurd (n (done.named v k))

    latches : length C.states ≡ length C.nexts
    latches = (agrees l (S.facts l w e).0.two).latches

    resets : length C.states ≡ length C.resets
    resets = (agrees l (S.facts l w e).0.two).resets

    carry : List ℕ
    carry = carried_from (first_latch (length C.inputs)) C.resets

    carry_length : length carry ≡ length C.states
    unfolding carry
    carry_length = carried-length (first_latch (length C.inputs)) C.resets ∙ sym resets

    reset_word : (j : ℕ) → j < length C.states → get_or (outcome l).reset_images j 0 ≡ get_or carry j 0
    unfolding ordered_of carry
    reset_word j h =
        ap (λ (o : Outcome). get_or o.reset_images j 0) (success_of l w e)
        ∙ onto_at carry l.reset_images j 0 (omega (arith, carry_length)) (omega (arith, carry_length, room.resets))

    reset_is : (j : ℕ) → j < length C.states
        → get_or (outcome l).reset_images j 0 ≡ carried (2 * (length C.inputs + 1 + j)) (get_or C.resets j 0)
    unfolding carry
    reset_is j h =
        let own : first_latch (length C.inputs) + 2 * j ≡ 2 * (length C.inputs + 1 + j) = omega arith in
        reset_word j h ∙ carried_at (first_latch (length C.inputs)) C.resets j (omega (arith, resets))
        ∙ ap (λ (x : ℕ). carried x (get_or C.resets j 0)) own

    scratch_filled : Filled (scratch_words C) 0 l.scratch (outcome l).scratch
    scratch_filled =
        let is : (outcome l).scratch ≡ onto (zeros (scratch_words C)) l.scratch = ap (λ (o : Outcome). o.scratch) (success_of l w e) in
        subst⁻¹ (Filled (scratch_words C) 0 l.scratch) is
        (filled (scratch_words C) 0 l.scratch room.scratch
        (subst (Keeps (scratch_words C) l.scratch) is (keeps_past l).scratch))

    pub fills : Fills l C (outcome l) s
    fills =
        record {
          constant = cell 0 (omega arith) ∙ inv.zero_code;
          sources = source_cell;
          unnamed = unnamed_cell;
          nexts = λ j h. ((image_cell (get_or C.nexts j 0) _).0 (S.next_image l w e j (omega (arith, latches)))).2;
          resets = reset_is;
          roots = λ j h. ((image_cell (get_or C.roots j 0) _).0 (S.root_image l w e j h)).2;
          gates = new-gate;
          tail = λ i h k. tail_word i (omega arith) k;
          scratch = scratch_filled;
        }

    images_length : (cs : List ℕ) → length (images_in w.images cs) ≡ length cs
    unfolding images_in
    images_length cs = length-map cs (λ c. code_of (image_in w.images c))

    carry_is : carry ≡ carried_from (first_latch (length C.inputs)) C.resets
    unfolding carry
    carry_is = refl

    -- the ordered circuit of the walk stands in the lists
    pub holds : Holds l (outcome l) s (ordered_of C w)
    unfolding ordered_of
    holds =
        record {
          inputs = refl;
          latches = images_length C.nexts ∙ sym latches;
          nexts =
              λ j h.
              sym
              (ap (λ (o : Outcome). get_or o.next_images j 0) (success_of l w e)
              ∙ onto_at (images_in w.images C.nexts) l.next_images j 0 (omega (arith, images_length C.nexts, latches))
              (omega (arith, images_length C.nexts, latches, room.nexts)));
          reset_count = carried-length (first_latch (length C.inputs)) C.resets ∙ sym resets;
          resets = λ j h. sym (subst (λ (x : List ℕ). get_or (outcome l).reset_images j 0 ≡ get_or x j 0) carry_is (reset_word j h));
          made = sym sums;
          gates = λ j h. let i : j < length w.made = omega arith in ap₂ pair (sym (larger_word j i)) (sym (smaller_word j i));
          counts = refl;
          root_count = images_length C.roots;
          roots =
              λ j h.
              sym
              (ap (λ (o : Outcome). get_or o.root_images j 0) (success_of l w e)
              ∙ onto_at (images_in w.images C.roots) l.root_images j 0 (omega (arith, images_length C.roots))
              (omega (arith, images_length C.roots, room.roots)));
        }

    -- a reached gate that no row takes is a new gate
    its_place : (g : Gate) → Stays l (outcome l) g → (j : ℕ) × IsNew l (outcome l) s g j
    its_place g k = go (ruled g k.is_gate k.is_reached).became
      where
        go : Taken l (outcome l) g (image_after (outcome l) g.output) ⊎ (Untaken l (outcome l) g × ((j : ℕ) × IsNew l (outcome l) s g j)) → (j : ℕ)
            × IsNew l (outcome l) s g j
        go (inl t) = absurd (k.untaken (image_after (outcome l) g.output) t)
        go (inr r) = r.1

    -- with hashing off, of its own
    pub kept_apart : C.hash ≡ false → (g : Gate) → Stays l (outcome l) g → (j : ℕ) × IsNew l (outcome l) s g j
        × ((g' : Gate) → Stays l (outcome l) g' → IsNew l (outcome l) s g' j → g ≡ g')
    kept_apart off g k = let p = its_place g k in (p.0, p.1, λ g' k' q. alone g' k' (p.1.code ∙ sym q.code))
      where
        alone : (g' : Gate) → Stays l (outcome l) g' → image_after (outcome l) g.output ≡ image_after (outcome l) g'.output → g ≡ g'
        alone g' k' q =
            let n : entry w.images (out_var g) ≢ no_image = named_mapped g.output k.is_reached in
            let n' : entry w.images (out_var g') ≢ no_image = named_mapped g'.output k'.is_reached in
            inv.kept off g g' k.is_gate k'.is_gate n n' (unfolded g (inv.closed g k.is_gate n) k.untaken)
            (unfolded g' (inv.closed g' k'.is_gate n') k'.untaken) (sym (after g.output n) ∙ q ∙ after g'.output n')

    pairs_of : (g : Gate) (j : ℕ) → IsNew l (outcome l) s g j → get_or w.made j no_pair ≡ pair (larger_after (outcome l) g) (smaller_after (outcome l) g)
    pairs_of g j a =
        let i : j < length w.made = omega (arith, a.made) in
        ap₂ pair (sym (larger_word j i) ∙ a.larger) (sym (smaller_word j i) ∙ a.smaller)

    -- with hashing on, the same exactly when their inputs' images are the same
    pub shared : C.hash ≡ true → (g g' : Gate) → Stays l (outcome l) g → Stays l (outcome l) g'
        → (image_after (outcome l) g.output ≡ image_after (outcome l) g'.output)
        ↔ ((larger_after (outcome l) g ≡ larger_after (outcome l) g') × (smaller_after (outcome l) g ≡ smaller_after (outcome l) g'))
    shared on g g' k k' = (to (its_place g k) (its_place g' k'), from (its_place g k) (its_place g' k'))
      where
        to : (j : ℕ) × IsNew l (outcome l) s g j → (j' : ℕ) × IsNew l (outcome l) s g' j'
            → image_after (outcome l) g.output ≡ image_after (outcome l) g'.output
            → (larger_after (outcome l) g ≡ larger_after (outcome l) g') × (smaller_after (outcome l) g ≡ smaller_after (outcome l) g')
        to a b q =
            let p : a.0 ≡ b.0 = omega (arith, a.1.code, b.1.code, q) in (
              sym a.1.larger ∙ ap (λ (j : ℕ). get_or (outcome l).gates_out (2 * j) 0) p ∙ b.1.larger,
              sym a.1.smaller ∙ ap (λ (j : ℕ). get_or (outcome l).gates_out (2 * j + 1) 0) p ∙ b.1.smaller,
            )

        from : (j : ℕ) × IsNew l (outcome l) s g j → (j' : ℕ) × IsNew l (outcome l) s g' j' → (larger_after (outcome l) g ≡ larger_after (outcome l) g')
            × (smaller_after (outcome l) g ≡ smaller_after (outcome l) g')
            → image_after (outcome l) g.output ≡ image_after (outcome l) g'.output
        from a b q =
            a.1.code ∙ ap (λ (j : ℕ). 2 * (length l.inputs + length l.states + 1 + j)) (go (lt_or a.0 b.0) (lt_or b.0 a.0))
            ∙ sym b.1.code
          where
            same_pair : get_or w.made a.0 no_pair ≡ get_or w.made b.0 no_pair
            same_pair = pairs_of g a.0 a.1 ∙ ap₂ pair q.0 q.1 ∙ sym (pairs_of g' b.0 b.1)

            go : (a.0 < b.0) ⊎ (b.0 ≤ a.0) → (b.0 < a.0) ⊎ (a.0 ≤ b.0) → a.0 ≡ b.0
            go (inl i) m = absurd (S.no_twins_lem l w e on a.0 b.0 i (omega (arith, b.1.made)) same_pair)
            go (inr i) (inl m) = absurd (S.no_twins_lem l w e on b.0 a.0 m (omega (arith, a.1.made)) (sym same_pair))
            go (inr i) (inr m) = omega arith
