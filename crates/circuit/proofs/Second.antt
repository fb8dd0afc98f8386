-- An ordered circuit in order whose gates are each new where they stand comes out of the walk as it went in (`second`), with hashing and folding on or off: the
-- map at the start takes each source to itself, the walk of the gates' outputs does so with each gate (`again`), and then every next state and root has itself
-- for its image, so that walking them changes nothing. For document 02's Q-14, that a second pass changes nothing. Assumes nothing.
use Rattle.std.specs.Prelude.{Some}
use Prim.Native.Nat.{ℕ, zero, suc, ◌+◌, ◌*◌, ◌<◌, ◌≤◌}
use mathlib.Core.Path.{◌≡◌, refl, sym, ◌∙◌, ap, ap₂, subst, subst⁻¹}
use mathlib.Core.Logic.{◌⊎◌, inl, inr}
use mathlib.Core.Bool.{Bool, true, false, cond}
use mathlib.Core.List.{List, [], ◌∷◌, ◌++◌, map}
use native.Mathlib.Omega.{arith}
use lib.Dec.{leb}
use lib.ListN.{length}
use lib.Seq.{take-length}
use Rattle.lit.specs.Code.{literal}
use Rattle.circuit.specs.Graph.{In}
use Rattle.circuit.specs.Map.{no_image, image_in}
use Rattle.circuit.specs.Walk.{Net, source_count, Pair, Work, Out, reached, stopped, first_code, next_code, and_then, walk, stack_room, walk_all}
use Rattle.circuit.specs.Circuit.{Circuit, graph, net, start, walked, walk_with}
use Rattle.circuit.specs.Ordered.{Ordered, InOrder, images_in, carried, carried_from, first_latch, ordered_of, count_from, gates_from, sources_of, given, ordered_graph}
use Rattle.circuit.specs.Claims.{AllWithin, IsReset, AllReset}
use Rattle.circuit.specs.Invariant.{entry, Fresh}
use Rattle.circuit.proofs.Tests.{AtMost, above, le_test}
use Rattle.circuit.proofs.Lists.{In-cases}
use Rattle.circuit.proofs.Ordered.{count_from-length, ordered_sources}
use Rattle.circuit.proofs.Identity.{Identity, start_identity, start_size, own_image, own_images}
use Rattle.circuit.proofs.Unchanged.{Itself, walk_mapped, again}

-- literals in turn, in two parts
walk_parts : (N : Net) (room : ℕ) (xs ys : List ℕ) (w : Work)
    → walk_all N room (xs ++ ys) w ≡ and_then (walk_all N room xs w) (λ w'. walk_all N room ys w')
unfolding walk_all
walk_parts N room [] ys w = refl
walk_parts N room (x ∷ xs) ys w = go (walk N room [] w x) (λ w'. walk_parts N room xs ys w')
  where
    go : (o : Out) → ((w' : Work) → walk_all N room (xs ++ ys) w' ≡ and_then (walk_all N room xs w') (λ w''. walk_all N room ys w''))
        → and_then o (λ w'. walk_all N room (xs ++ ys) w')
        ≡ and_then (and_then o (λ w'. walk_all N room xs w')) (λ w''. walk_all N room ys w'')
    go (reached w') rec = rec w'
    go (stopped r) rec = refl

-- literals that all have images are walked at once
walk_images : (N : Net) (room : ℕ) (cs : List ℕ) (w : Work) → ((c : ℕ) → In c cs → image_in w.images c ≡ Some (literal c))
    → walk_all N room cs w ≡ reached w
unfolding walk_all
walk_images N room [] w f = refl
walk_images N room (c ∷ cs) w f =
    ap (λ (o : Out). and_then o (λ w'. walk_all N room cs w')) (walk_mapped N room [] w c c (f c (inl refl)))
    ∙ walk_images N room cs w (λ x i. f x (inr i))

-- the outputs of gates that are counted
outputs_counted : (t : ℕ) (ps : List Pair) → map (λ g. g.output) (gates_from t ps) ≡ count_from t (length ps)
outputs_counted t [] = refl
outputs_counted t (p ∷ ps) = ap {B = List ℕ} (λ l. t ∷ l) (outputs_counted (t + 2) ps)

-- resets that pass are carried over as they are
reset_itself : (own r : ℕ) → IsReset own r → carried own r ≡ r
reset_itself own r h = go (leb r 1) (le_test r 1) h
  where
    go : (b : Bool) → AtMost r 1 b → IsReset own r → cond b r own ≡ r
    go true s h = refl
    go false (above k) (inl e) = absurd (omega arith)
    go false (above k) (inr (inl e)) = absurd (omega arith)
    go false (above k) (inr (inr e)) = sym e

resets_themselves : (t n : ℕ) (rs : List ℕ) → n ≡ length rs → AllReset (count_from t n) rs → carried_from t rs ≡ rs
resets_themselves t n [] e f = refl
resets_themselves t zero (r ∷ rs) e f = absurd (omega arith)
resets_themselves t (suc n) (r ∷ rs) e f =
    ap₂ {C = List ℕ} (λ x l. x ∷ l) (reset_itself t r (f 0 (omega arith)))
    (resets_themselves (t + 2) n rs (omega arith) (λ j h. f (suc j) (omega arith)))

-- the start, where the sources are 2, 4, ..: each goes to itself, and no gate is made
start_itself : (top n : ℕ) (ps : List Pair) → n + length ps ≤ top → Itself n ps (start top (count_from 2 n)) 0
unfolding start
start_itself top n ps h =
    let z : n + 1 ≡ n + 1 + 0 = omega arith in
    record {
      size = omega (arith, start_size top n);
      identity = subst (Identity (start top (count_from 2 n)).images) z (start_identity top n (omega arith));
      done = refl;
    }

module _ (O : Ordered) (hash fold : Bool) (few : next_code (sources_of O) O.gates ≤ no_image) (order : InOrder (sources_of O) O.gates)
    (nexts : AllWithin (2 * (sources_of O + length O.gates) + 1) O.nexts) (roots : AllWithin (2 * (sources_of O + length O.gates) + 1) O.roots)
    (reset_count : length O.nexts ≡ length O.resets) (resets : AllReset (count_from (first_latch O.inputs) (length O.nexts)) O.resets)
    (fresh : Fresh (net (given O false hash fold)) O.gates) where
  abbrev C : Circuit
  C = given O false hash fold

  abbrev N : Net
  N = net (given O false hash fold)

  abbrev n : ℕ
  n = sources_of O

  -- the first variable after the gates
  abbrev past : ℕ
  past = sources_of O + 1 + length O.gates

  sources_are : (graph C).sources ≡ count_from 2 n
  unfolding given ordered_graph
  sources_are = ordered_sources O

  source_count_lem : source_count N ≡ n
  source_count_lem = ap length sources_are ∙ count_from-length 2 n

  gates_are : N.graph.gates ≡ gates_from (first_code (source_count N)) O.gates
  unfolding given
  gates_are = ap (λ (k : ℕ). gates_from (first_code k) O.gates) (sym source_count_lem)

  abbrev begin : Work
  begin = start C.top (graph C).sources

  begins : Itself (source_count N) O.gates begin 0
  unfolding given
  begins =
      subst⁻¹ (λ (k : ℕ). Itself k O.gates begin 0) source_count_lem
      (subst⁻¹ (λ (l : List ℕ). Itself n O.gates (start C.top l) 0) sources_are (start_itself C.top n O.gates (omega arith)))

  -- the walk of the gates' outputs
  run : (w : Work) × (walk_all N (stack_room N) (count_from (first_code (source_count N) + 2 * 0) (length O.gates)) begin ≡ reached w)
      × Itself (source_count N) O.gates w (length O.gates)
  run =
      again N O.gates gates_are (subst⁻¹ (λ (k : ℕ). next_code k O.gates ≤ no_image) source_count_lem few)
      (subst⁻¹ (λ (k : ℕ). InOrder k O.gates) source_count_lem order) fresh (length O.gates) 0 (omega arith) begin begins

  abbrev last : Work
  last = run.0

  identity : Identity last.images past
  identity = subst (λ (k : ℕ). Identity last.images (k + 1 + length O.gates)) source_count_lem run.2.identity

  room : 2 * past ≤ no_image
  unfolding next_code first_code
  room = omega (arith, few)

  walked_are : walked C ≡ count_from (first_code (source_count N) + 2 * 0) (length O.gates) ++ (O.nexts ++ O.roots)
  unfolding walked given
  walked_are =
      let z : first_code n ≡ first_code (source_count N) + 2 * 0 = ap first_code (sym source_count_lem) ∙ omega arith in
      ap (λ (l : List ℕ). l ++ (O.nexts ++ O.roots))
      (outputs_counted (first_code n) O.gates ∙ ap (λ (t : ℕ). count_from t (length O.gates)) z)

  -- next states and roots go to themselves then
  low : (c : ℕ) → In c O.nexts ⊎ In c O.roots → c < 2 * past
  low c (inl h) = omega (arith, nexts c h)
  low c (inr h) = omega (arith, roots c h)

  walks : walk_with (stack_room N) C ≡ reached last
  walks =
      ap (λ (l : List ℕ). walk_all N (stack_room N) l begin) walked_are
      ∙ walk_parts N (stack_room N) (count_from (first_code (source_count N) + 2 * 0) (length O.gates)) (O.nexts ++ O.roots) begin
      ∙ ap (λ (o : Out). and_then o (λ w. walk_all N (stack_room N) (O.nexts ++ O.roots) w)) run.1
      ∙ walk_images N (stack_room N) (O.nexts ++ O.roots) last
      (λ c i. own_image last.images past room identity c (low c (In-cases c O.nexts O.roots i)))

  ordered_back : ordered_of C last ≡ O
  unfolding ordered_of given
  ordered_back =
      let inputs_are : length (count_from 2 O.inputs) ≡ O.inputs = count_from-length 2 O.inputs in
      let nexts-are : images_in last.images O.nexts ≡ O.nexts = own_images last.images past room identity O.nexts (λ c i. low c (inl i)) in
      let roots-are : images_in last.images O.roots ≡ O.roots = own_images last.images past room identity O.roots (λ c i. low c (inr i)) in
      let gates-back : last.made ≡ O.gates = run.2.done ∙ take-length O.gates in
      let resets_are : carried_from (first_latch (length (count_from 2 O.inputs))) O.resets ≡ O.resets
      = ap (λ (k : ℕ). carried_from (first_latch k) O.resets) inputs_are
      ∙ resets_themselves (first_latch O.inputs) (length O.nexts) O.resets reset_count resets in
      λ i. record {
        inputs = inputs_are i;
        nexts = nexts-are i;
        resets = resets_are i;
        gates = gates-back i;
        counts = O.counts;
        roots = roots-are i;
      }

  -- the circuit comes out as it went in, and each variable goes to itself
  pub second : (w : Work) × (walk_with (stack_room (net (given O false hash fold))) (given O false hash fold) ≡ reached w)
      × ((v : ℕ) → v < sources_of O + 1 + length O.gates → entry w.images v ≡ 2 * v) × (ordered_of (given O false hash fold) w ≡ O)
  second = (last, walks, identity.low, ordered_back)
