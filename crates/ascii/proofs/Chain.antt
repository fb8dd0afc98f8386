-- The chain: what is lent of a text that was read is the text's circuit, which passes checks 1 to 4 and 22; so renumbering refuses it by 5 to 8, as document 01
-- does, or keeps its values; and what renumbering leaves is stored as a binary file and read back. Assumes nothing.
use Prim.Native.Nat.{ℕ, ◌+◌, ◌*◌, ◌≤◌}
use mathlib.Core.Path.{◌≡◌, refl, sym, ap, ◌∙◌, subst, subst⁻¹}
use mathlib.Core.Bool.{Bool, true≢false}
use mathlib.Core.Logic.{inl, inr}
use mathlib.Core.List.{List, [], ◌∷◌, ◌++◌}
use native.Mathlib.Omega.{arith}
use lib.ListN.{length, get_or}
use Rattle.lit.specs.Code.{literal}
use Rattle.circuit.specs.declared.Refusal.{Refusal}
use Rattle.circuit.specs.declared.Refusal.TheVariants as R
use Rattle.circuit.specs.declared.Summary.{Summary}
use Rattle.std.specs.Prelude.{Ok, Err}
use Rattle.circuit.specs.Answer.{Answer}
use Rattle.circuit.specs.Graph.{In, Gate, Graph}
use Rattle.circuit.specs.Walk.{stopped}
use Rattle.circuit.specs.Circuit.{Circuit, graph, codes, renumber}
use Rattle.circuit.specs.Ordered.{ordered_graph}
use Rattle.circuit.specs.Outcome as C
use Rattle.circuit.specs.Outcome.{Lent, circuit_of, gates_of, total, held}
use Rattle.circuit.specs.Tested.{Fits}
use Rattle.circuit.specs.Claims.{AllWithin, Within, Agrees, Roomy, Bounded, AllReset, Passes, SameValue, first_value, FirstOver, Late}
use Rattle.circuit.specs.Demands.{AfterSuccess}
use Rattle.circuit.proofs.Demands.{demands}
use Rattle.circuit.proofs.Checks.{no_stray}
use Rattle.circuit.proofs.Listed.{of_bounded}
use Rattle.circuit.proofs.Outcome.{WhyLent, from_within, from_agrees, from_roomy, Concluded, concluded, refusal_from, conclusion_of, onto-take}
use Rattle.lines.specs.Reading.{Read, got, no}
use Rattle.ordered.specs.Expand.{gate_words}
use Rattle.ordered.proofs.Laid.{gates_of_words}
use Rattle.binary.specs.Sound.{Sound, Holds, result_with}
use Rattle.binary.specs.Write.{file_of}
use Rattle.binary.specs.Archive.{archiving, FitsOrShort, Stored}
use Rattle.binary.proofs.Across.{result_sound}
use Rattle.binary.proofs.Archive.{stored}
use Rattle.ascii_lines.proofs.Loops.{words_length}
use Rattle.ascii.specs.Text.{Text, circuit_in, read_text}
use Rattle.ascii.specs.Promise.{room_of, numbers, Outcome, left, outcome}
use Rattle.ascii.specs.Known.{Known}
use Rattle.ascii.specs.Chain.{Lending, handed, Enough, text_graph, KeepsText, Returns, Chain, refused, unordered, archived}
use Rattle.ascii.proofs.Known.{read_known, known_passes}

-- where all are within a bound, none is the first over it
none_first : (bound : ℕ) (cs : List ℕ) (c : ℕ) → FirstOver bound cs c → AllWithin bound cs → ⊥
none_first bound cs c k b = omega (arith, b c (subst⁻¹ (In c) k.splits (in_middle k.before)), k.is_over)
  where
    in_middle : (xs : List ℕ) → In c (xs ++ (c ∷ k.after))
    in_middle [] = inl refl
    in_middle (x ∷ xs) = inr (in_middle xs)

-- of a text that was read

module _ (t : Text) (used : ℕ) (g : Lending) (known : Known (room_of g.text) t) (within : Within (circuit_in t g.trim g.hash g.fold))
    (bounded : Bounded (circuit_in t g.trim g.hash g.fold)) (enough : Enough (numbers (left (got t used) g.text).read) g) where
  abbrev l : Lent
  l = handed (left (got t used) g.text) g

  abbrev circuit : Circuit
  circuit = circuit_in t g.trim g.hash g.fold

  -- what is handed over is the circuit of the text, list by list
  inputs : l.inputs ≡ t.inputs
  inputs = onto-take t.inputs g.text.inputs (length t.inputs) refl known.inputs_fit

  states : l.states ≡ t.states
  states = onto-take t.states g.text.states (length t.states) refl known.states_fit

  nexts : l.nexts ≡ t.nexts
  nexts = onto-take t.nexts g.text.nexts (length t.states) known.nexts (omega (arith, known.nexts, known.nexts_fit))

  resets : l.resets ≡ t.resets
  resets = onto-take t.resets g.text.resets (length t.states) known.resets (omega (arith, known.resets, known.resets_fit))

  words : l.gates ≡ gate_words t.gates
  words = onto-take (gate_words t.gates) g.text.gates (3 * length t.gates) (words_length t.gates) known.gates_fit

  roots : l.roots ≡ t.roots
  roots = onto-take t.roots g.text.roots (total t.counts) (sym known.roots) (omega (arith, known.roots, known.roots_fit))

  same : circuit_of l ≡ circuit
  same = alike inputs states nexts resets (ap gates_of words ∙ gates_of_words t.gates) roots
    where
      alike : {a a' b b' c c' d d' : List ℕ} {e e' : List Gate} {f f' : List ℕ} → a ≡ a' → b ≡ b' → c ≡ c' → d ≡ d' → e ≡ e' → f ≡ f'
          → circuit_in (record { top = t.top; inputs = a; states = b; nexts = c; resets = d; gates = e; counts = t.counts; sizes = t.sizes; roots = f })
          g.trim g.hash g.fold
          ≡ circuit_in (record { top = t.top; inputs = a'; states = b'; nexts = c'; resets = d'; gates = e'; counts = t.counts; sizes = t.sizes; roots = f' })
          g.trim g.hash g.fold
      alike u v w x y z = cc

  -- it passes checks 1 to 4 and 22
  agrees : Agrees l
  agrees =
      record {
        roots = omega (arith, known.roots, ap length roots);
        latches = omega (arith, known.nexts, ap length states, ap length nexts);
        resets = omega (arith, known.resets, ap length states, ap length resets);
        words = omega (arith, words_length t.gates, ap length words);
      }

  roomy : Roomy l (circuit_of l)
  roomy =
      subst⁻¹ (Roomy l) same
      (record {
        map = enough.map;
        nexts = enough.nexts;
        resets = enough.resets;
        roots = omega (arith, known.roots, enough.roots);
        gates = enough.gates;
        scratch = enough.scratch;
      })

  passes : Passes l
  passes =
      record {
        sizes = record { within = subst⁻¹ Within same within; agrees = agrees; roomy = roomy };
        bounded = subst⁻¹ Bounded same bounded;
        resets =
            subst⁻¹ (λ (x : List ℕ). AllReset x l.resets) states (subst⁻¹ (λ (x : List ℕ). AllReset t.states x) resets known.all_reset);
      }

  -- so renumbering is what the definition makes of the circuit, and no early check refuses it
  fits : Fits l
  fits = record { one = from_within l passes.sizes.within; two = from_agrees l agrees; three = from_roomy l roomy }

  pub said : (r : Refusal) → (C.outcome l).answer ≡ Err r → renumber (circuit_in t g.trim g.hash g.fold) ≡ stopped r
  said r e = ap renumber (sym same) ∙ sym (conclusion_of l fits) ∙ refusal_from l r e

  pub late : (r : Refusal) → (C.outcome l).answer ≡ Err r → Late r
  late r e = go r (subst (Concluded l) (refusal_from l r e) (concluded l))
    where
      go : (r : Refusal) → WhyLent l r → Late r
      go R.TooBig k = absurd (true≢false (sym k ∙ fits.one))
      go R.Misshapen k = absurd (true≢false (sym k.1 ∙ fits.two))
      go R.Short k = absurd (true≢false (sym k.2 ∙ fits.three))
      go (R.Over d) k = absurd (none_first (2 * (circuit_of l).top + 1) (codes (circuit_of l)) d.0 k.1 (of_bounded (circuit_of l) passes.bounded))
      go (R.Reset d) k = absurd (no_stray l.states l.resets d.0 k.2 passes.resets)
      go (R.Again d) k = (omega arith, omega arith)
      go (R.StateAgain d) k = (omega arith, omega arith)
      go (R.Undefined d) k = (omega arith, omega arith)
      go (R.Cycle d) k = (omega arith, omega arith)

  -- after a success every next state and root has its value, and what is left can be written and read back
  module _ (s : Summary) (e : (C.outcome l).answer ≡ Ok s) where
    after : AfterSuccess l (circuit_of l) (C.outcome l) s (held l s (C.outcome l))
    after = (demands l).success s e

    moved : (setting : ℕ → Bool) (c c' x x' : ℕ) → c ≡ c' → x ≡ x' → SameValue (graph (circuit_of l)) (ordered_graph (held l s (C.outcome l))) setting c x
        → SameValue (text_graph t) (ordered_graph (held l s (C.outcome l))) setting c' x'
    moved setting c c' x x' p q v =
        subst (λ (G : Graph). SameValue G (ordered_graph (held l s (C.outcome l))) setting c' x') (ap graph same)
        (subst (λ (y : ℕ). SameValue (graph (circuit_of l)) (ordered_graph (held l s (C.outcome l))) setting y x') p
        (subst (λ (y : ℕ). SameValue (graph (circuit_of l)) (ordered_graph (held l s (C.outcome l))) setting c y) q v))

    pub keeps : KeepsText t (held l s (C.outcome l))
    keeps =
        record {
          inputs = after.holds.inputs ∙ ap length inputs;
          latches = after.holds.latches ∙ ap length states;
          counts = after.holds.counts;
          root_count = after.holds.root_count ∙ ap length roots;
          firsts = λ j h. after.first_values j (omega (arith, ap length states)) ∙ ap (λ (x : List ℕ). first_value (get_or x j 0)) resets;
          nexts = λ setting j h.
              moved setting _ _ _ _ (ap (λ (x : List ℕ). get_or x j 0) nexts) (sym (after.holds.nexts j (omega (arith, ap length states))))
              (after.images_keep_values (get_or l.nexts j 0) (literal (get_or (C.outcome l).next_images j 0))
              (after.next_images j (omega (arith, agrees.latches, ap length states))) setting);
          roots = λ setting j h.
              moved setting _ _ _ _ (ap (λ (x : List ℕ). get_or x j 0) roots) (sym (after.holds.roots j (omega (arith, ap length roots))))
              (after.images_keep_values (get_or l.roots j 0) (literal (get_or (C.outcome l).root_images j 0))
              (after.root_images j (omega (arith, ap length roots))) setting);
        }

    sound : Sound (result_with l s t.sizes)
    sound = result_sound l s e t.sizes known.five known.sizes known.sets

    holds : Holds g.back (result_with l s t.sizes)
    holds =
        let many : length (circuit_of l).gates ≡ length t.gates = ap (λ (x : Circuit). length x.gates) same in
        record {
          nexts = omega (arith, enough.back_nexts, keeps.latches);
          resets = omega (arith, enough.back_resets, after.holds.reset_count, ap length states);
          gates = omega (arith, enough.back_gates, after.holds.made, after.made_few, many);
          sizes = enough.back_sizes;
          roots = omega (arith, enough.back_roots, known.roots, keeps.root_count);
        }

    kept : (out : List ℕ) → Stored (result_with l s t.sizes) out g.back
    kept out = stored (result_with l s t.sizes) sound out g.back holds

    pub only_short : (out : List ℕ) → FitsOrShort (result_with l s t.sizes) (archiving (result_with l s t.sizes) out).answer
    only_short out = (kept out).answer

    pub returns : (out : List ℕ) → length (file_of (result_with l s t.sizes)) ≤ length out → Returns t (result_with l s t.sizes) out g.back
    returns out long =
        let back = (kept out).reads_back long in
        record { bytes = back.bytes; file = result_with l s t.sizes; written = back.written; read = back.read; keeps = keeps; sizes = refl }

pub text_to_file : (bytes : List ℕ) (g : Lending) (out : List ℕ) → Enough (numbers (outcome bytes g.text).read) g → Chain bytes g out
text_to_file bytes g out enough = go (read_text bytes (room_of g.text)) refl
  where
    go : (R : Read Text) → read_text bytes (room_of g.text) ≡ R → Chain bytes g out
    go (no why place) e = refused why place (ap (λ (R : Read Text). left R g.text) e)
    go (got t used) e = by (C.outcome (handed (left (got t used) g.text) g)).answer refl
      where
        left_is : outcome bytes g.text ≡ left (got t used) g.text
        left_is = ap (λ (R : Read Text). left R g.text) e

        known : Known (room_of g.text) t
        known = read_known bytes (room_of g.text) t used e

        passes' : Within (circuit_in t g.trim g.hash g.fold) × Bounded (circuit_in t g.trim g.hash g.fold)
        passes' = let p = known_passes (room_of g.text) t known g.trim g.hash g.fold in (p.0, p.1)

        long : Enough (numbers (left (got t used) g.text).read) g
        long = subst (λ (o : Outcome). Enough (numbers o.read) g) left_is enough

        by : (a : Answer) → (C.outcome (handed (left (got t used) g.text) g)).answer ≡ a → Chain bytes g out
        by (Err r) f =
            unordered t used e r (said t used g known passes'.0 passes'.1 long r f) (late t used g known passes'.0 passes'.1 long r f)
            (ap (λ (o : Outcome). (C.outcome (handed o g)).answer) left_is ∙ f)
        by (Ok s) f =
            archived t used e s (ap (λ (o : Outcome). (C.outcome (handed o g)).answer) left_is ∙ f)
            (subst⁻¹ (λ (o : Outcome). KeepsText t (held (handed o g) s (C.outcome (handed o g)))) left_is
            (keeps t used g known passes'.0 passes'.1 long s f))
            (subst⁻¹ (λ (o : Outcome). FitsOrShort (result_with (handed o g) s t.sizes) (archiving (result_with (handed o g) s
            t.sizes) out).answer) left_is
            (only_short t used g known passes'.0 passes'.1 long s f out))
            (subst⁻¹ (λ (o : Outcome). length (file_of (result_with (handed o g) s t.sizes)) ≤ length out → Returns t (result_with (handed o g) s
            t.sizes) out g.back)
            left_is (returns t used g known passes'.0 passes'.1 long s f out))
