-- An ordered circuit within the limits whose gates are in order passes checks 1, 2, 4 and 22 as it is given: its codes are counted upwards, and an input is below
-- its gate's code, which is at most 2V. It defines no variable twice and all that is walked is grounded, so that renumbering succeeds, and then its values are
-- kept. Assumes nothing.
use Rattle.std.specs.Prelude.{Ok}
use Prim.Native.Nat.{ℕ, zero, suc, ◌+◌, ◌*◌, ◌≤◌, ◌<◌}
use mathlib.Core.Path.{◌≡◌, sym, ap, ◌∙◌, subst, subst⁻¹}
use mathlib.Core.Logic.{inl, inr}
use mathlib.Core.Bool.{Bool}
use mathlib.Core.List.{List}
use native.Mathlib.Omega.{arith}
use lib.ListN.{length, get_or}
use Rattle.lit.specs.Code.{var, literal}
use Rattle.circuit.specs.declared.Summary.{Summary}
use Rattle.circuit.specs.Graph.{In, Graph, DefinedOnce}
use Rattle.circuit.specs.Walk.{first_code}
use Rattle.circuit.specs.Circuit.{Circuit, graph}
use Rattle.circuit.specs.Ordered.{Ordered, first_latch, count_from, sources_of, given, ordered_graph, InOrder}
use Rattle.circuit.specs.Outcome as C
use Rattle.circuit.specs.Outcome.{Lent, circuit_of, total, pair_words, held}
use Rattle.circuit.specs.Claims.{Within, Agrees, Roomy, Bounded, AllReset, Passes, first_value, IsWalked, AllGrounded, SameValue}
use Rattle.circuit.specs.Demands.{AfterSuccess}
use Rattle.circuit.proofs.Demands.{demands}
use Rattle.circuit.proofs.Listed.{walked_exactly}
use Rattle.circuit.proofs.Ordered.{count_from-length, gates_from-length, gates_from_place, ordered_once, ordered_grounded}
use Rattle.ordered.specs.Expand.{expanded, Lists, Outcome, expansion, Lends}
use Rattle.ordered.specs.WellOrdered.{variables_of, WellOrdered}
use Rattle.ordered.specs.Keeps.{Keeps}
use Rattle.ordered.proofs.Laid.{laid_length, words_length}
use Rattle.ordered.proofs.Exactly.{in_place, resets_within}
use Rattle.ordered.proofs.Expansions.{all_filled, expanded_words, expanded-given}

-- codes that are counted

in_count : (t n c : ℕ) → In c (count_from t n) → c + 2 ≤ t + 2 * n
in_count t zero c i = absurd i
in_count t (suc n) c (inl e) = omega arith
in_count t (suc n) c (inr i) = omega (arith, in_count (t + 2) n c i)

module _ (O : Ordered) (k : WellOrdered O) (trim hash fold : Bool) where
  pub within : Within (given O trim hash fold)
  unfolding given
  within =
      record {
        top = k.variables;
        inputs = omega (arith, count_from-length 2 O.inputs, k.variables);
        latches = omega (arith, count_from-length (first_latch O.inputs) (length O.nexts), k.variables);
        gates = omega (arith, gates_from-length (first_code (sources_of O)) O.gates, k.variables);
        roots = k.few;
      }

  pub bounded : Bounded (given O trim hash fold)
  unfolding given first_code
  bounded =
      record {
        inputs = λ c i. omega (arith, in_count 2 O.inputs c i);
        gates = λ g i. let p = gates_from_place (2 * (sources_of O + 1)) O.gates g i in let o = k.gates p.place p.inside in (
          omega (arith, p.inside, p.output),
          omega (arith, p.inside, p.first, o.1),
          omega (arith, p.inside, p.second, o.0, o.1),
        );
        states = λ c i. omega (arith, in_count (first_latch O.inputs) (length O.nexts) c i);
        nexts = k.nexts;
        resets = resets_within O k.reset_count k.resets;
        roots = k.roots;
      }

  pub once : DefinedOnce (graph (given O trim hash fold))
  unfolding given ordered_graph
  once = ordered_once O

  -- whatever is walked is a code up to 2V + 1
  pub grounded : AllGrounded (given O trim hash fold)
  unfolding given ordered_graph
  grounded c i = ordered_grounded O k.gates (var c) (omega (arith, low ((walked_exactly (given O trim hash fold) c).0 i)))
    where
      low : IsWalked (given O trim hash fold) c → c ≤ 2 * variables_of O + 1
      low (inl h) = omega (arith, (bounded.gates h.0 h.1).0, h.2)
      low (inr (inl h)) = k.nexts c h
      low (inr (inr h)) = k.roots c h

  -- lent after `expand`
  module _ (lists : Lists) (o : Outcome) (e : o ≡ expansion O.inputs (length O.nexts) (pair_words O.gates) lists) (f : o.answer ≡ expanded)
      (l : Lent) (lends : Lends O trim hash fold o.lists l) where
    same : circuit_of l ≡ given O trim hash fold
    same = expanded-given O lists o e f trim hash fold l lends

    pub agrees : Agrees l
    unfolding given
    agrees =
        let states : length l.states ≡ length O.nexts =
        ap (λ (x : Circuit). length x.states) same ∙ count_from-length (first_latch O.inputs) (length O.nexts) in
        let nexts : length l.nexts ≡ length O.nexts = ap length lends.nexts in
        let words : length l.gates ≡ 3 * length O.gates =
        ap length (expanded_words O lists o e f trim hash fold l lends) ∙ laid_length (first_code (sources_of O)) O.gates in
        let counts : total l.circuit.counts ≡ total O.counts = ap (λ (x : Circuit). total x.counts) same in
        let roots : length l.roots ≡ length O.roots = ap length lends.roots in
        let resets : length l.resets ≡ length O.resets = ap length lends.resets in
        record { roots = omega (arith, k.counts); latches = omega arith; resets = omega (arith, k.reset_count); words = omega arith }

    -- the lists to be written are long enough where they are so for O
    pub roomy : variables_of O + 1 ≤ length l.map → length O.nexts ≤ length l.next_images → length O.nexts ≤ length l.reset_images
        → length O.roots ≤ length l.root_images → 2 * length O.gates ≤ length l.gates_out → 3 * variables_of O + 3 + 3 * length O.gates ≤ length l.scratch → Roomy l (circuit_of l)
    unfolding given
    roomy map nexts resets roots gates scratch =
        let many = gates_from-length (first_code (sources_of O)) O.gates in
        subst⁻¹ (Roomy l) same
        (record {
          map = map;
          nexts = omega (arith, count_from-length (first_latch O.inputs) (length O.nexts));
          resets = omega (arith, count_from-length (first_latch O.inputs) (length O.nexts));
          roots = roots;
          gates = omega (arith, many);
          scratch = omega (arith, many);
        })

    -- checks 1 to 4 and 22 are passed where the lists to be written are long enough
    pub passes : Roomy l (circuit_of l) → Passes l
    unfolding given
    passes room =
        record {
          sizes = record { within = subst⁻¹ Within same within; agrees = agrees; roomy = room };
          bounded = subst⁻¹ Bounded same bounded;
          resets = subst⁻¹ (λ (x : Circuit). AllReset x.states x.resets) same k.resets;
        }

    -- and renumbering succeeds
    pub renumbers : Roomy l (circuit_of l) → (s : Summary) × ((C.outcome l).answer ≡ Ok s)
    renumbers room =
        ((demands l).succeeds_exactly (passes room)).1 (subst⁻¹ (λ (x : Circuit). DefinedOnce (graph x) × AllGrounded x) same (once, grounded))

    success : (r : C.Outcome) → r ≡ C.outcome l → (s : Summary) → r.answer ≡ Ok s
        → AfterSuccess l (circuit_of l) (C.outcome l) s (held l s (C.outcome l))
    success r left s answered = (demands l).success s (sym (ap (λ (x : C.Outcome). x.answer) left) ∙ answered)

    -- after a success the gates are in order
    pub in_order : (r : C.Outcome) → r ≡ C.outcome l → (s : Summary) → r.answer ≡ Ok s → InOrder (sources_of (held l s r)) (held l s r).gates
    in_order r left s answered =
        subst⁻¹ (λ (x : C.Outcome). InOrder (sources_of (held l s x)) (held l s x).gates) left (success r left s answered).gates_in_order

    -- no gate is added
    pub no_more : (r : C.Outcome) → r ≡ C.outcome l → (s : Summary) → r.answer ≡ Ok s → length (held l s r).gates ≤ length O.gates
    unfolding given
    no_more r left s answered =
        let after = success r left s answered in
        let many : length (circuit_of l).gates ≡ length O.gates
        = ap (λ (x : Circuit). length x.gates) same ∙ gates_from-length (first_code (sources_of O)) O.gates in
        subst⁻¹ (λ (x : C.Outcome). length (held l s x).gates ≤ length O.gates) left (omega (arith, after.holds.made, after.made_few, many))

    -- and every next state and root has its value
    pub keeps : (r : C.Outcome) → r ≡ C.outcome l → (s : Summary) → r.answer ≡ Ok s → Keeps O (held l s r)
    unfolding given ordered_graph
    keeps r left s answered = subst⁻¹ (λ (x : C.Outcome). Keeps O (held l s x)) left kept
      where
        after : AfterSuccess l (circuit_of l) (C.outcome l) s (held l s (C.outcome l))
        after = success r left s answered

        D : Ordered
        D = held l s (C.outcome l)

        graphs : graph (circuit_of l) ≡ ordered_graph O
        graphs = ap graph same

        states : length l.states ≡ length O.nexts
        states = agrees.latches ∙ ap length lends.nexts

        roots : length l.roots ≡ length O.roots
        roots = ap length lends.roots

        moved : (setting : ℕ → Bool) (c c' t t' : ℕ) → c ≡ c' → t ≡ t' → SameValue (graph (circuit_of l)) (ordered_graph (held l s (C.outcome l))) setting c t
            → SameValue (ordered_graph O) (ordered_graph (held l s (C.outcome l))) setting c' t'
        moved setting c c' t t' p q v =
            subst (λ (G : Graph). SameValue G (ordered_graph (held l s (C.outcome l))) setting c' t') graphs
            (subst (λ (x : ℕ). SameValue (graph (circuit_of l)) (ordered_graph (held l s (C.outcome l))) setting x t') p
            (subst (λ (x : ℕ). SameValue (graph (circuit_of l)) (ordered_graph (held l s (C.outcome l))) setting c x) q v))

        kept : Keeps O (held l s (C.outcome l))
        kept =
            record {
              latches = after.holds.latches ∙ states;
              firsts = λ j h. after.first_values j (omega (arith, states)) ∙ ap (λ (x : List ℕ). first_value (get_or x j 0)) lends.resets;
              root_count = after.holds.root_count ∙ roots;
              nexts = λ setting j h.
                  moved setting _ _ _ _ (ap (λ (x : List ℕ). get_or x j 0) lends.nexts) (sym (after.holds.nexts j (omega (arith, states))))
                  (after.images_keep_values (get_or l.nexts j 0) (literal (get_or (C.outcome l).next_images j 0))
                  (after.next_images j (omega (arith, ap length lends.nexts))) setting);
              roots = λ setting j h.
                  moved setting _ _ _ _ (ap (λ (x : List ℕ). get_or x j 0) lends.roots) (sym (after.holds.roots j (omega (arith, roots))))
                  (after.images_keep_values (get_or l.roots j 0) (literal (get_or (C.outcome l).root_images j 0))
                  (after.root_images j (omega (arith, roots))) setting);
            }

-- `expand` fills its lists of such a circuit where they are long enough
pub fills : (O : Ordered) → WellOrdered O → (lists : Lists) → O.inputs ≤ length lists.inputs → length O.nexts ≤ length lists.states
    → 3 * length O.gates ≤ length lists.triples → (expansion O.inputs (length O.nexts) (pair_words O.gates) lists).answer ≡ expanded
fills O k lists p q r =
    let n = words_length O.gates in
    sym (ap (λ (x : Outcome). x.answer)
    (all_filled O.inputs (length O.nexts) (pair_words O.gates) lists (omega (arith, n, k.variables)) (omega (arith, n)) p q (omega (arith, n))))

-- what a success leaves is well ordered

module _ (l : Lent) (s : Summary) (e : (C.outcome l).answer ≡ Ok s) where
  abbrev D : Ordered
  D = held l s (C.outcome l)

  after : AfterSuccess l (circuit_of l) (C.outcome l) s (held l s (C.outcome l))
  after = (demands l).success s e

  -- V of the result is the variable that a success answers
  top : variables_of (held l s (C.outcome l)) ≡ s.top.0
  top = omega (arith, after.holds.inputs, after.holds.latches, after.holds.made, after.top)

  pub result : WellOrdered (held l s (C.outcome l))
  result =
      let sizes = after.passes.sizes in
      record {
        variables = omega (arith, top, after.top_few, sizes.within.top);
        few = omega (arith, after.holds.root_count, sizes.within.roots);
        counts = ap total after.holds.counts ∙ sizes.agrees.roots ∙ sym after.holds.root_count;
        nexts = λ c i.
            let p = in_place (held l s (C.outcome l)).nexts c i in
            let h : p.0 < length l.states = omega (arith, p.1, after.holds.latches) in
            let image : get_or (C.outcome l).next_images p.0 0 ≡ c = sym (after.holds.nexts p.0 h) ∙ p.2 in
            let low = (after.codes_within _ _ (after.next_images p.0 (omega (arith, h, sizes.agrees.latches)))).0 in
            omega (arith, low, image, top);
        reset_count = after.holds.latches ∙ sym after.holds.reset_count;
        resets = after.resets_pass;
        roots = λ c i.
            let p = in_place (held l s (C.outcome l)).roots c i in
            let h : p.0 < length l.roots = omega (arith, p.1, after.holds.root_count) in
            let image : get_or (C.outcome l).root_images p.0 0 ≡ c = sym (after.holds.roots p.0 h) ∙ p.2 in
            let low = (after.codes_within _ _ (after.root_images p.0 h)).0 in
            omega (arith, low, image, top);
        gates = after.gates_in_order;
      }
