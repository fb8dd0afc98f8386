-- What holds after success: the lent lists hold the walk's map, images and gates, so each fact about the walk's work is a fact about them. Assumes
-- nothing.
use Rattle.std.specs.Prelude.{Option, Some, None, Ok}
use Prim.Native.Nat.{ℕ, suc, ◌+◌, ◌*◌, ◌-◌, ◌<◌, ◌≤◌}
use mathlib.Core.Path.{◌≡◌, refl, sym, ◌∙◌, ap, ap₂, subst, subst⁻¹}
use mathlib.Core.Logic.{inl, inr, ◌≢◌}
use mathlib.Core.Bool.{Bool, true, false, cond}
use mathlib.Core.List.{List, [], ◌++◌}
use native.Mathlib.Omega.{arith}
use lib.Dec.{ltb}
use lib.ListN.{length, get_or, take, drop, length-append, length-map, length-replicate, get_or-eq_default, length-take}
use lib.Seq.{take_at, take-append-le, get_or-take}
use Rattle.lit.specs.Code.{var, literal, flipped}
use Rattle.lit.specs.declared.Lit.{Lit}
use Rattle.circuit.specs.Graph.{In, Means}
use Rattle.circuit.specs.Map.{no_image, image_in, image_of, code_of}
use Rattle.circuit.specs.Walk.{source_count, Pair, Work, reached, first_code, next_code, already}
use Rattle.circuit.specs.Circuit.{Circuit, graph, net, walked, gate_outputs}
use Rattle.circuit.specs.Ordered.{Ordered, ordered_with, images_in, carried_from, first_latch, count_from, ordered_of, sources_of, ordered_graph, no_pair, InOrder}
use Rattle.circuit.specs.Outcome.{Lent, Outcome, circuit_of, conclusion, onto, zeros, pair_words, pairs_of, summary_of, outcome, held}
use Rattle.circuit.specs.declared.Summary.{Summary}
use Rattle.circuit.specs.Claims.{AllReset, first_value, HasImage, Named, SameValue, Roomy}
use Rattle.circuit.specs.Tested.{Fits, Tested}
use Rattle.circuit.proofs.Tests.{AtMost, at_most, above, le_test}
use Rattle.circuit.proofs.Map.{code_image, image_code, no_image_lem, code_in_lem, image_entry}
use Rattle.circuit.proofs.Lists.{In-left, In-right, In-map, In-getD}
use Rattle.circuit.proofs.Meaning.{reads_means, means_one}
use Rattle.circuit.proofs.Settle.{Already, is_new, already_is}
use Rattle.circuit.proofs.Settled.{settled_le}
use Rattle.circuit.proofs.Invariant.{lit_reads, flipped_below, codes_fit}
use Rattle.circuit.proofs.Ordered.{ordered_once, ordered_means}
use Rattle.circuit.proofs.Renumber.{Done, sized, counting, reach_mapped}
use Rattle.circuit.proofs.Words.{pairs_length, pairs_back}
use Rattle.circuit.proofs.Carried.{carried-length, carried_at, carried_first, all_carried}
use Rattle.circuit.proofs.Outcome.{agrees, limits, tested_of, concluded, Concluded, roomy, success_from, success_of, onto_long, onto-take, onto_at, get_d_map_in}
use Rattle.circuit.specs.Invariant.{val, Inv, entry, code_in}

module _ (l : Lent) (w : Work) (e : conclusion l ≡ reached w) where
  abbrev C : Circuit
  C = circuit_of l

  abbrev O : Ordered
  O = ordered_of C w

  pub facts : Fits l × Done C w
  facts = subst (Concluded l) e (concluded l)

  pub tested : Tested l
  tested = tested_of l facts.0 (facts.1.bounds, facts.1.resets)

  abbrev done : Done C w
  done = facts.1

  abbrev inv : Inv (net C) C.top w
  inv = facts.1.inv

  latches : length C.states ≡ length C.nexts
  latches = (agrees l facts.0.two).latches

  resets : length C.resets ≡ length C.states
  resets = sym (agrees l facts.0.two).resets

  -- the resets carried over
  abbrev resets_now : List ℕ
  resets_now = carried_from (first_latch (length C.inputs)) C.resets

  room : Roomy l C
  room = roomy l facts.0.three

  -- as many sources in the ordered circuit as there were
  pub sources_same : sources_of O ≡ source_count (net C)
  unfolding ordered_of images_in
  sources_same = omega (arith, length-append C.inputs C.states, length-map C.nexts (λ c. code_of (image_in w.images c)), latches)

  -- a lookup in the lent map is one in the walk's
  pub lookup : (c : ℕ) → image_of C.top (outcome l).map c ≡ image_in w.images c
  unfolding image_of
  lookup c = go (ltb C.top (var c)) (le_test (suc C.top) (var c))
    where
      map_is : (outcome l).map ≡ onto w.images l.map
      map_is = ap (λ (o : Outcome). o.map) (success_of l w e)

      go : (b : Bool) → AtMost (suc C.top) (var c) b → cond b None (image_in (outcome l).map c) ≡ image_in w.images c
      go true (at_most h) = sym (no_image_lem w.images c (get_or-eq_default w.images no_image (omega (arith, inv.size))))
      go false (above h) =
          ap (λ (m : List ℕ). image_in m c) map_is
          ∙ same_entry w.images l.map c (omega (arith, inv.size)) (omega (arith, inv.size, room.map))
        where
          same_entry : (m lent : List ℕ) (d : ℕ) → var d < length m → length m ≤ length lent → image_in (onto m lent) d ≡ image_in m d
          same_entry m lent d k r = image_entry (onto m lent) m d (onto_at m lent (var d) no_image k r)

  -- a variable with an entry
  pub mapped : (c : ℕ) → entry w.images (var c) ≢ no_image → HasImage l (outcome l) c (literal (code_in w.images c))
  mapped c n = lookup c ∙ code_image w.images c n

  pub mapped_back : (c : ℕ) (t : Lit) → HasImage l (outcome l) c t → (entry w.images (var c) ≢ no_image) × (t.0 ≡ code_in w.images c)
  mapped_back c t h = image_code w.images c t.0 (sym (lookup c) ∙ h)

  -- the lists hold the ordered circuit
  images_length : (cs : List ℕ) → length (images_in w.images cs) ≡ length cs
  unfolding images_in
  images_length cs = length-map cs (λ c. code_of (image_in w.images c))

  pub held_is : held l (summary_of O) (outcome l) ≡ O
  unfolding held ordered_of
  held_is =
      let nexts : take (length l.states) (outcome l).next_images ≡ images_in w.images C.nexts
      = ap (λ (o : Outcome). take (length l.states) o.next_images) (success_of l w e)
      ∙ onto-take (images_in w.images C.nexts) l.next_images (length l.states) (images_length C.nexts ∙ sym latches) room.nexts in
      let carry : take (length l.states) (outcome l).reset_images ≡ resets_now
      = ap (λ (o : Outcome). take (length l.states) o.reset_images) (success_of l w e)
      ∙ onto-take resets_now l.reset_images (length l.states) (carried-length (first_latch (length C.inputs)) C.resets ∙ resets) room.resets in
      let roots : take (length l.roots) (outcome l).root_images ≡ images_in w.images C.roots
      = ap (λ (o : Outcome). take (length l.roots) o.root_images) (success_of l w e)
      ∙ onto-take (images_in w.images C.roots) l.root_images (length l.roots) (images_length C.roots) room.roots in
      let rest : List ℕ = zeros (2 * (length C.gates - length w.made)) in
      let words : List ℕ = pair_words w.made ++ rest in
      let fit : length words ≤ length l.gates_out
      = omega (
        arith,
        length-append (pair_words w.made) rest,
        length-replicate {A = ℕ} (2 * (length C.gates - length w.made)) 0,
        pairs_length w.made,
        inv.few,
        settled_le w.images C.gates,
        room.gates,
      ) in
      let gates : pairs_of (take (2 * length w.made) (outcome l).gates_out) ≡ w.made
      = ap (λ (o : Outcome). pairs_of (take (2 * length w.made) o.gates_out)) (success_of l w e)
      ∙ ap pairs_of
      (ap (take (2 * length w.made)) (onto_long words l.gates_out fit)
      ∙ take-append-le (2 * length w.made) words (drop (length words) l.gates_out)
      (omega (arith, length-append (pair_words w.made) rest, pairs_length w.made))
      ∙ take_at (pair_words w.made) rest (2 * length w.made) (pairs_length w.made))
      ∙ pairs_back w.made in
      ap₂ (λ (x y : List ℕ). ordered_with C x y (pairs_of (take (2 * length w.made) (outcome l).gates_out))
      (take (length l.roots) (outcome l).root_images)) nexts carry
      ∙ ap (λ (x : List Pair). ordered_with C (images_in w.images C.nexts) resets_now x (take (length l.roots) (outcome l).root_images)) gates
      ∙ ap (λ (x : List ℕ). ordered_with C (images_in w.images C.nexts) resets_now w.made x) roots

  -- the resets of the ordered circuit: each has the first value that it had, and they pass check 22
  pub first_value_lem : (j : ℕ) → j < length l.states → first_value (get_or O.resets j 0) ≡ first_value (get_or l.resets j 0)
  unfolding ordered_of
  first_value_lem j h =
      ap first_value (carried_at (first_latch (length C.inputs)) C.resets j (omega (arith, resets)))
      ∙ carried_first (first_latch (length C.inputs) + 2 * j) (get_or l.resets j 0) (omega arith)

  pub resets_pass_lem : AllReset (count_from (first_latch O.inputs) (length O.nexts)) O.resets
  unfolding ordered_of
  resets_pass_lem =
      all_carried (first_latch (length C.inputs)) (length (images_in w.images C.nexts)) C.resets
      (omega (arith, images_length C.nexts, resets, latches))

  pub in_order : InOrder (sources_of O) O.gates
  unfolding ordered_of
  in_order = subst⁻¹ (λ (k : ℕ). InOrder k w.made) sources_same inv.order

  code_below : (c : ℕ) (t : Lit) → HasImage l (outcome l) c t → t.0 < next_code (source_count (net C)) w.made
  code_below c t h =
      let k = mapped_back c t h in
      subst⁻¹ (λ (s : ℕ). s < next_code (source_count (net C)) w.made) k.1
      (flipped_below (entry w.images (var c)) c (source_count (net C)) w.made (inv.low (var c) k.0))

  pub same_value : (c : ℕ) (t : Lit) → HasImage l (outcome l) c t → (given : ℕ → Bool) → SameValue (graph C) (ordered_graph O) given c t.0
  unfolding ordered_of
  same_value c t h given =
      let k = mapped_back c t h in
      let here : Means (graph C) given c (val (source_count (net C)) given w.made t.0)
      = subst⁻¹ (λ (s : ℕ). Means (graph C) given c (val (source_count (net C)) given w.made s)) k.1
      (reads_means (graph C) given (lit_reads (net C) C.top w inv given c k.0)) in
      let there : Means (ordered_graph O) given t.0 (val (source_count (net C)) given w.made t.0)
      = subst (λ (n : ℕ). Means (ordered_graph O) given t.0 (val n given w.made t.0)) sources_same
      (ordered_means O in_order given t.0 (subst⁻¹ (λ (n : ℕ). t.0 < next_code n w.made) sources_same (code_below c t h))) in
      record {
        bit = val (source_count (net C)) given w.made t.0;
        here = here;
        there = there;
        only_here = λ b m. means_one (graph C) done.once given m here;
        only_there = λ b m. means_one (ordered_graph O) (ordered_once O) given m there;
      }

  -- next states and roots
  image_at_lem : (cs lent : List ℕ) → length cs ≤ length lent → ((c : ℕ) → In c cs → In c (walked C)) → (j : ℕ) → j < length cs
      → HasImage l (outcome l) (get_or cs j 0) (literal (get_or (onto (images_in w.images cs) lent) j 0))
  unfolding images_in
  image_at_lem cs lent fits all j h =
      let n : entry w.images (var (get_or cs j 0)) ≢ no_image = done.images (get_or cs j 0) (all (get_or cs j 0) (In-getD cs j 0 h)) in
      let k : get_or (onto (images_in w.images cs) lent) j 0 ≡ code_in w.images (get_or cs j 0)
      = onto_at (images_in w.images cs) lent j 0 (omega (arith, images_length cs)) (omega (arith, images_length cs))
      ∙ get_d_map_in (λ c. code_of (image_in w.images c)) cs j 0 0 h ∙ code_in_lem w.images (get_or cs j 0) n in
      subst⁻¹ (λ (t : ℕ). HasImage l (outcome l) (get_or cs j 0) (literal t)) k (mapped (get_or cs j 0) n)

  pub next_image : (j : ℕ) → j < length l.nexts → HasImage l (outcome l) (get_or l.nexts j 0) (literal (get_or (outcome l).next_images j 0))
  unfolding walked ordered_of
  next_image j h =
      subst⁻¹ (λ (o : Outcome). HasImage l (outcome l) (get_or l.nexts j 0) (literal (get_or o.next_images j 0))) (success_of l w e)
      (image_at_lem l.nexts l.next_images (omega (arith, room.nexts, latches))
      (λ c k. In-right c (cond C.trim [] (gate_outputs C)) _ (In-left c C.nexts C.roots k)) j h)

  pub root_image : (j : ℕ) → j < length l.roots → HasImage l (outcome l) (get_or l.roots j 0) (literal (get_or (outcome l).root_images j 0))
  unfolding walked ordered_of
  root_image j h =
      subst⁻¹ (λ (o : Outcome). HasImage l (outcome l) (get_or l.roots j 0) (literal (get_or o.root_images j 0))) (success_of l w e)
      (image_at_lem l.roots l.root_images room.roots (λ c k. In-right c (cond C.trim [] (gate_outputs C)) _ (In-right c C.nexts C.roots k)) j h)

  pub walked_image : (c : ℕ) → In c (walked C) → (t : Lit) × HasImage l (outcome l) c t
  walked_image c h = (literal (code_in w.images c), mapped c (done.images c h))

  -- a literal has an image exactly when its variable is the constant's, a source's, or reached from a walked literal
  pub images_exactly_lem : (c : ℕ) → (((t : Lit) × HasImage l (outcome l) c t) → Named C (var c)) × (Named C (var c) → (t : Lit) × HasImage l (outcome l) c t)
  images_exactly_lem c = (λ h. done.named (var c) (mapped_back c h.0 h.1).0, λ h. (literal (code_in w.images c), mapped c (go h)))
    where
      go : Named C (var c) → entry w.images (var c) ≢ no_image
      go (inl h) = inv.leaves (var c) h
      go (inr r) = reach_mapped C w done r.2 (done.images r.0 r.1)

  -- sizes
  pub made_few_lem : length w.made ≤ length C.gates
  made_few_lem = omega (arith, inv.few, settled_le w.images C.gates)

  pub top_within : sources_of O + length w.made ≤ C.top
  top_within = omega (arith, sources_same, made_few_lem, counting C (limits l facts.0) done.bounds done.once)

  pub code_within : (c : ℕ) (t : Lit) → HasImage l (outcome l) c t → t.0 ≤ 2 * (sources_of O + length w.made) + 1
  unfolding next_code first_code
  code_within c t h = omega (arith, code_below c t h, sources_same)

  pub code_word : (c : ℕ) (t : Lit) → HasImage l (outcome l) c t → t.0 < no_image
  code_word c t h = omega (arith, code_below c t h, codes_fit (net C) C.top w (sized C (limits l facts.0) done.bounds) inv)

  -- the codes of the constant and of the sources
  pub constant_code_lem : HasImage l (outcome l) 0 (literal 0)
  unfolding flipped
  constant_code_lem =
      let k : code_in w.images 0 ≡ 0 = ap (λ (x : ℕ). flipped x 0) inv.zero_code in
      subst (λ (t : ℕ). HasImage l (outcome l) 0 (literal t)) k (mapped 0 (inv.leaves 0 (inl refl)))

  pub source_code : (k : ℕ) → k < length (graph C).sources → HasImage l (outcome l) (get_or (graph C).sources k 0) (literal (2 * (k + 1)))
  source_code k h =
      let d : ℕ = get_or (graph C).sources k 0 in
      subst (λ (t : ℕ). HasImage l (outcome l) d (literal t)) (inv.source_codes k h)
      (mapped d (inv.leaves (var d) (inr (In-map var d (graph C).sources (In-getD (graph C).sources k 0 h)))))

  -- hashing makes no pair twice
  pub no_twins_lem : C.hash ≡ true → (i j : ℕ) → i < j → j < length w.made → get_or w.made i no_pair ≢ get_or w.made j no_pair
  no_twins_lem on i j h k =
      go (already (net C) (take j w.made) (get_or w.made j no_pair).larger (get_or w.made j no_pair).smaller)
      (already_is (net C) (take j w.made) (get_or w.made j no_pair).larger (get_or w.made j no_pair).smaller) (inv.fresh j k)
    where
      go : (o : Option ℕ) → Already (net C) (take j w.made) (get_or w.made j no_pair).larger (get_or w.made j no_pair).smaller o → o ≡ None
          → get_or w.made i no_pair ≢ get_or w.made j no_pair
      go None (is_new f n) z q = n on i (omega (arith, length-take j w.made)) (get_or-take j w.made i no_pair h ∙ q)
      go (Some t) a z q = let y : ◌≡◌ {A = ℕ} 0 1 = cc in omega arith

-- the walk behind a success, and what the lists hold
pub record Success (l : Lent) (s : Summary) : Type 0 where
  pub work : Work
  pub ends : conclusion l ≡ reached work
  pub sums : s ≡ summary_of (ordered_of (circuit_of l) work)
  pub made : s.made ≡ length work.made
  pub holds : held l s (outcome l) ≡ ordered_of (circuit_of l) work

pub success : (l : Lent) (s : Summary) → (outcome l).answer ≡ Ok s → Success l s
unfolding ordered_of
success l s e =
    let k = success_from l s e in
    record {
      work = k.0;
      ends = k.1;
      sums = k.2;
      made = ap (λ (x : Summary). x.made) k.2;
      holds = ap (λ (x : Summary). held l x (outcome l)) k.2 ∙ held_is l k.0 k.1;
    }

-- the same with the summary answered
module _ (l : Lent) (s : Summary) (e : (outcome l).answer ≡ Ok s) where
  abbrev from : Success l s
  from = success l s e

  pub sizes : (s.made ≡ length (held l s (outcome l)).gates) × (s.made ≤ length (circuit_of l).gates)
      × (s.top.0 ≡ length l.inputs + length l.states + s.made) × (s.top.0 ≤ (circuit_of l).top)
  unfolding ordered_of
  sizes =
      let O : Ordered = ordered_of (circuit_of l) from.work in
      let made : s.made ≡ length from.work.made = ap (λ (x : Summary). x.made) from.sums in
      let top : s.top.0 ≡ sources_of O + length from.work.made = ap (λ (x : Summary). x.top.0) from.sums in
      let sources : sources_of O ≡ length (l.inputs ++ l.states) = sources_same l from.work from.ends in (
        made ∙ sym (ap (λ (x : Ordered). length x.gates) from.holds),
        omega (arith, made, made_few_lem l from.work from.ends),
        omega (arith, made, top, sources, length-append l.inputs l.states),
        omega (arith, top, top_within l from.work from.ends),
      )

  pub codes-within : (c : ℕ) (t : Lit) → HasImage l (outcome l) c t → (t.0 ≤ 2 * s.top.0 + 1) × (t.0 < no_image)
  unfolding ordered_of
  codes-within c t h =
      let top : s.top.0 ≡ sources_of (ordered_of (circuit_of l) from.work) + length from.work.made = ap (λ (x : Summary). x.top.0) from.sums in
      (omega (arith, top, code_within l from.work from.ends c t h), code_word l from.work from.ends c t h)

  pub twins : (circuit_of l).hash ≡ true → (i j : ℕ) → i < j → j < s.made
      → get_or (held l s (outcome l)).gates i no_pair ≢ get_or (held l s (outcome l)).gates j no_pair
  unfolding ordered_of
  twins on i j h k =
      subst⁻¹ (λ (O : Ordered). get_or O.gates i no_pair ≢ get_or O.gates j no_pair) from.holds
      (no_twins_lem l from.work from.ends on i j h (omega (arith, ap (λ (x : Summary). x.made) from.sums)))
