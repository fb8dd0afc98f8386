-- After the walks: what `ended` makes of what they leave is the outcome. Assumes nothing.
use Rattle.std.specs.Prelude.{Result, Ok, Err}
use Prim.Native.Nat.{ℕ, ◌+◌, ◌*◌, ◌-◌, ◌%◌, ◌^◌, ◌<◌, ◌≤◌}
use mathlib.Core.Path.{◌≡◌, refl, sym, ap, ap₂, ◌∙◌, subst}
use mathlib.Core.List.{List, [], ◌∷◌, ◌++◌}
use mathlib.Core.Logic.{inl, inr}
use native.Mathlib.Omega.{arith}
use lib.ListN.{length, take, drop, replicate, length-append, length-replicate, take-append-drop}
use lib.Seq.{get_or-take}
use Rattle.lit.specs.Code.{var, variable}
use Rattle.circuit.specs.Answer.{Answer}
use Rattle.circuit.specs.declared.Refusal.{Refusal}
use Rattle.circuit.specs.Graph.{In}
use Rattle.circuit.specs.Map.{no_image, entry_image, image_in, code_of}
use Rattle.circuit.specs.Walk.{Work, Out, reached, stopped}
use Rattle.circuit.specs.Circuit.{Circuit, walked, numbered}
use Rattle.circuit.specs.Ordered.{images_in, carried_from, first_latch, ordered_of}
use Rattle.circuit.specs.Outcome.{Lent, lent_of, circuit_of, limit, map_words, scratch_words, zeros, onto, pair_words, summary_of, after, outcome}
use Rattle.circuit.specs.Claims.{Within, Agrees, Roomy}
use Rattle.circuit.specs.Tested.{Tested}
use Rattle.circuit.proofs.Words.{pairs_length}
use Rattle.circuit.proofs.Renumber.{Done, Answered}
use Rattle.circuit.proofs.Outcome as O
use Rattle.circuit.proofs.Outcome.{onto_long}
use Rattle.lent.proofs.Entries.{images_length}
use Rattle.images.specs.Begin.{carried_onto}
use borrow.Author.Tests.{le-ltb}
use Rattle.ending.specs.Ending.{made_with, ended}
use Rattle.ending.proofs.Ended.{outcome_eq}
use Rattle.aig.specs.Walked.{WalkEnds, WalkIn, EndsIn}
use Rattle.aig.proofs.Bounds.{next_low, root_low}
use Rattle.aig.proofs.Passing.{bare_of, concludes, answer, made_few_lem, late}

-- a list by its front and by what stood past it in another
joins : (k : ℕ) (x y ws : List ℕ) → take k x ≡ ws → drop k x ≡ drop k y → length ws ≡ k → k ≤ length y → x ≡ onto ws y
joins k x y ws e f h fits =
    sym (take-append-drop k x) ∙ ap₂ {C = List ℕ} (λ (p q : List ℕ). p ++ q) e (f ∙ ap (λ (j : ℕ). drop j y) (sym h))
    ∙ sym (onto_long ws y (omega arith))

-- words onto the front of a list that has the words of another past it
onto_past : (ws x y : List ℕ) → length ws ≤ length x → length x ≡ length y → drop (length ws) x ≡ drop (length ws) y → onto ws x ≡ onto ws y
onto_past ws x y h same e = onto_long ws x h ∙ ap (λ (t : List ℕ). ws ++ t) e ∙ sym (onto_long ws y (omega arith))

-- the images in a map are those in its front, if that has a word for every variable
images_front : (n : ℕ) (m cs : List ℕ) → ((c : ℕ) → In c cs → var c < n) → images_in m cs ≡ images_in (take n m) cs
unfolding images_in image_in
images_front n m [] low = refl
images_front n m (c ∷ cs) low =
    ap₂ {C = List ℕ} (λ (y : ℕ) (ys : List ℕ). y ∷ ys) (ap (λ (e : ℕ). code_of (entry_image e c)) (sym (get_or-take n m (var c) no_image (low c (inl refl)))))
    (images_front n m cs (λ d h. low d (inr h)))

module _ (l : Lent) (p : Tested l) where
  abbrev K : Circuit
  K = circuit_of l

  sizes : Within K
  sizes = O.within l p.fits.one

  agr : Agrees l
  agr = O.agrees l p.fits.two

  room : Roomy l K
  room = O.roomy l p.fits.three

  pub walk_in : WalkIn (bare_of l) l.map l.gates_out l.scratch
  walk_in =
      record {
        resets = l.resets;
        within = record { top = sizes.top; inputs = sizes.inputs; latches = sizes.latches; gates = sizes.gates; roots = sizes.roots };
        agrees = record { roots = agr.roots; latches = agr.latches; resets = agr.resets; words = agr.words };
        bounds = O.bounds l p;
        map_long = room.map;
        out_long = room.gates;
        scratch_long = room.scratch;
      }

  -- the circuit that the walks saw
  abbrev seen : Circuit
  seen = circuit_of (bare_of l)

  seen_same : numbered K ≡ numbered seen
  unfolding numbered walked
  seen_same = refl

  -- the lists m, g and s that the walks leave
  module _ (r : Result ℕ Refusal) (m g s : List ℕ) (k : EndsIn seen l.map l.gates_out l.scratch (numbered seen) r m g s) (em : length m ≡ length l.map)
      (eg : length g ≡ length l.gates_out) (es : length s ≡ length l.scratch) where
    abbrev left : Lent
    left =
        lent_of l.circuit l.inputs l.states l.nexts l.resets l.gates l.roots m l.next_images l.reset_images l.root_images g s

    -- zeros, or other words, onto as much of a list as is named
    fill_is : (v n : ℕ) (x y : List ℕ) → n ≤ length x → length x ≡ length y → drop n x ≡ drop n y → onto (replicate n v) x ≡ onto (replicate n v) y
    fill_is v n x y h same e =
        let i : length (replicate n v) ≡ n = length-replicate n v in
        onto_past (replicate n v) x y (omega arith) same (ap (λ (j : ℕ). drop j x) i ∙ e ∙ ap (λ (j : ℕ). drop j y) (sym i))

    scratch_is : onto (zeros (scratch_words K)) s ≡ onto (zeros (scratch_words K)) l.scratch
    scratch_is = fill_is 0 (scratch_words K) s l.scratch (omega (arith, room.scratch, es)) es k.past_scratch

    -- the images of a list of the circuit's codes
    images_are : (w : Work) (cs y : List ℕ) → take (map_words K) m ≡ w.images → ((c : ℕ) → In c cs → c ≤ 2 * K.top + 1)
        → onto (images_in m cs) y ≡ onto (images_in w.images cs) y
    images_are w cs y e low =
        ap (λ (is : List ℕ). onto is y) (images_front (map_words K) m cs (λ c i. omega (arith, low c i)) ∙ ap (λ (x : List ℕ). images_in x cs) e)

    -- the resets carried over
    resets_are : carried_onto (length l.inputs) l.resets l.reset_images
        ≡ onto (carried_from (first_latch (length l.inputs)) l.resets) l.reset_images
    unfolding carried_onto
    resets_are = rw (le-ltb limit (length l.inputs) sizes.inputs, le-ltb limit (length l.resets) (omega (arith, sizes.latches, agr.resets)))

    succeeds : (w : Work) → numbered K ≡ reached w → WalkEnds K (reached w) r (take (map_words K) m) (take (2 * length K.gates) g)
        → ended r left ≡ after l (reached w)
    unfolding ended after ordered_of
    succeeds w e (er, ei, eo) =
        let d : Done K w = subst (Answered K) e (answer l p) in
        let few : length w.made ≤ length K.gates = made_few_lem l p w e in
        let rest : ℕ = 2 * (length K.gates - length w.made) in
        let made-is : length w.made % 2 ^ 32 ≡ length w.made = omega (arith, few, sizes.gates) in
        let top-is : (length l.inputs + length l.states + length w.made) % 2 ^ 32 ≡ length l.inputs + length
        (images_in w.images l.nexts) + length w.made
        = omega (arith, images_length w.images l.nexts, agr.latches, few, sizes) in
        let answer-is : made_with (length l.inputs + length l.states) (length w.made) ≡ Ok (summary_of (ordered_of K w))
        = ap₂ {C = Answer} (λ (x y : ℕ). Ok (record { made = x; top = variable y })) made-is top-is in
        let long : length (pair_words w.made ++ zeros rest) ≡ 2 * length K.gates
        = omega (arith, length-append (pair_words w.made) (zeros rest), length-replicate {A = ℕ} rest 0, pairs_length w.made, few) in
        rw er
        (outcome_eq _ (joins (map_words K) m l.map w.images ei k.past_map d.inv.size room.map)
        (images_are w l.nexts l.next_images ei (λ c. next_low (O.bounds l p) agr c))
        resets_are (images_are w l.roots l.root_images ei (λ c. root_low (O.bounds l p) agr c))
        (joins (2 * length K.gates) g l.gates_out _ eo k.past_out long room.gates) scratch_is
        ∙ ap (λ (a : Answer). record {
          answer = a;
          map = onto w.images l.map;
          next_images = onto (images_in w.images l.nexts)
              l.next_images;
          reset_images = onto (carried_from (first_latch (length l.inputs)) l.resets) l.reset_images;
          root_images = onto (images_in w.images l.roots) l.root_images;
          gates_out = onto (pair_words w.made ++ zeros rest)
              l.gates_out;
          scratch = onto (zeros (scratch_words K)) l.scratch;
        }) answer-is)

    refuses : (why : Refusal) → numbered K ≡ stopped why → WalkEnds K (stopped why) r (take (map_words K) m) (take (2 * length K.gates) g)
        → ended r left ≡ after l (stopped why)
    unfolding ended after
    refuses why e er =
        rw (er, late l p why (subst (Answered K) e (answer l p)))
        (outcome_eq (Err why) (fill_is no_image (map_words K) m l.map (omega (arith, room.map, em)) em k.past_map)
        (fill_is 0 (length l.states) l.next_images l.next_images room.nexts refl refl)
        (fill_is 0 (length l.states) l.reset_images l.reset_images room.resets refl refl)
        (fill_is 0 (length l.roots) l.root_images l.root_images room.roots refl refl)
        (fill_is 0 (2 * length K.gates) g l.gates_out (omega (arith, room.gates, eg)) eg k.past_out) scratch_is)

    pub ends : ended r left ≡ outcome l
    ends = go (numbered seen) seen_same k.ends ∙ concludes l p
      where
        go : (o : Out) → numbered K ≡ o → WalkEnds seen o r (take (map_words K) m) (take (2 * length K.gates) g) → ended r left ≡ after l (numbered K)
        go (reached w) e q = succeeds w e q ∙ ap (after l) (sym e)
        go (stopped why) e q = refuses why e q ∙ ap (after l) (sym e)
