-- Laws of the checks in the code's own terms. Assumes nothing.
use Rattle.std.specs.Prelude.{Option, Some, None, Err}
use Rattle.std.specs.Option.{option_or}
use Prim.Native.Nat.{ℕ, ◌+◌, ◌*◌, ◌/◌, ◌%◌, ◌<◌, ◌≤◌, min}
use mathlib.Core.Path.{◌≡◌, refl, sym, ap, ap₂, ◌∙◌}
use mathlib.Core.Bool.{Bool, true, false}
use mathlib.Core.List.{List, [], ◌∷◌, ◌++◌}
use native.Mathlib.Omega.{arith}
use lib.ListN.{length, get_or, drop}
use lib.Dec.{leb}
use borrow.Author.Tests.{ltb-false, leb-true, leb-false}
use Rattle.lit.specs.declared.Lit.{Lit}
use Rattle.lent.proofs.Rows.{drop_at_one, drop_at_end}
use Rattle.circuit.specs.Walk.{Pair, first_code}
use Rattle.circuit.specs.Circuit.{first_over, first_stray}
use Rattle.circuit.specs.Ordered.{first_latch, count_from, no_pair, sources_of}
use Rattle.circuit.specs.Outcome.{limit, pairs_of}
use Rattle.circuit.specs.Resets.{side_by_side}
use Rattle.circuit.proofs.Outcome.{or-false}
use Rattle.checks.specs.Checks.{found}
use Rattle.checks.proofs.Offenders.{over-append, option_or_assoc}
use Rattle.ordered.specs.declared.given.Shape.{Shape}
use Rattle.ordered.specs.declared.given.Fault.TheVariants.{TooBig, Misshapen, Over, Reset, Disordered}
use Rattle.ordered.specs.WellOrdered.{variables_of, latches_of}
use Rattle.ordered.specs.Check.{Checked, fits, Words, circuit_in, too_large, uneven_in, codes_of, codes_in, first_disordered, fault_at, first_fault, checked}
use Rattle.ordered.proofs.Laid.{pairs_length, pairs_at}
use Rattle.ordered.proofs.Exactly.{Loose, none_loose, one_loose, loose_test, in_order_within, as_many_resets}

-- gate j, and the gates from it on
abbrev pub gate_at : List ℕ → ℕ → Pair
gate_at ws j = record { larger = get_or ws (2 * j) 0; smaller = get_or ws (2 * j + 1) 0 }

pub pairs_drop : (ws : List ℕ) (j : ℕ) → j < length ws / 2 → drop j (pairs_of ws) ≡ gate_at ws j ∷ drop (j + 1) (pairs_of ws)
pairs_drop ws j h =
    drop_at_one (pairs_of ws) j no_pair (omega (arith, pairs_length ws))
    ∙ ap (λ (p : Pair). p ∷ drop (j + 1) (pairs_of ws)) (pairs_at ws j h)

pub pairs_past : (ws : List ℕ) (j : ℕ) → length ws / 2 ≤ j → drop j (pairs_of ws) ≡ []
pairs_past ws j h = drop_at_end (pairs_of ws) j (omega (arith, pairs_length ws))

-- next states and resets side by side: none is left where one of the lists ends
no_side : (ns rs : List ℕ) (k : ℕ) (a : Bool) → leb (length ns) k ≡ a → min (length ns) (length rs) ≤ k → side_by_side (drop k ns) (drop k rs) ≡ []
no_side ns rs k true p h = rw (drop_at_end ns k (leb-true _ _ p))
no_side ns rs k false p h = let g = leb-false _ _ p in rw (drop_at_one ns k 0 (omega arith), drop_at_end rs k (omega arith))

pub side_end : (ns rs : List ℕ) (k : ℕ) → k ≡ min (length ns) (length rs) → side_by_side (drop k ns) (drop k rs) ≡ []
side_end ns rs k e = no_side ns rs k _ refl (omega arith)

-- check 4: lists one after another
module _ (bound : ℕ) (gates nexts resets roots : List ℕ) (asked : ℕ) where
  abbrev first : List ℕ → Option Lit
  first cs = found (first_over bound cs)

  pub over_all : first (codes_of gates nexts resets roots asked)
      ≡ option_or (option_or (option_or (first gates) (first (side_by_side nexts resets))) (first roots)) (first (asked ∷ []))
  over_all =
      over-append bound gates (side_by_side nexts resets ++ (roots ++ (asked ∷ [])))
      ∙ ap (λ (f : Option Lit). option_or (first gates) f)
      (over-append bound (side_by_side nexts resets) (roots ++ (asked ∷ []))
      ∙ ap (λ (f : Option Lit). option_or (first (side_by_side nexts resets)) f) (over-append bound roots (asked ∷ [])))
      ∙ sym (option_or_assoc (option_or (first gates) (first (side_by_side nexts resets))) _ _ ∙ option_or_assoc (first gates) (first (side_by_side nexts resets)) _)

-- gates in which the code found nothing out of order have no code over the bound
pub none_in_order : (t b : ℕ) (ws : List ℕ) → length ws % 2 ≡ 0 → t + length ws ≤ b + 1 → (f : Option Lit) → f ≡ found (first_disordered t (pairs_of ws)) → f ≡ None
    → None ≡ found (first_over b ws)
none_in_order t b ws even room f e n = go (first_disordered t (pairs_of ws)) (loose_test t (pairs_of ws)) (sym e ∙ n)
  where
    go : (o : Option ℕ) → Loose t (pairs_of ws) o → found o ≡ None → None ≡ found (first_over b ws)
    go o (none_loose k) m = sym (ap found (in_order_within t b ws even room k))
    go o (one_loose d k) m = absurd cc

-- what is lent, from its parts
abbrev pub lent : Shape → List ℕ → List ℕ → List ℕ → List ℕ → List ℕ → Words
lent o nexts resets gates sizes roots =
    record { inputs = o.inputs; counts = o.counts; nexts = nexts; resets = resets; gates = gates; sizes = sizes; roots = roots }

-- V and the first gate's code, as the code computes them
module _ (w : Words) (inputs : ℕ) (is_inputs : inputs ≡ w.inputs) where
  pub counts_variables : inputs + length w.nexts + length w.gates / 2 ≡ variables_of (circuit_in w)
  counts_variables = omega (arith, pairs_length w.gates)

  pub counts_first : 2 * (inputs + length w.nexts + 1) ≡ first_code (sources_of (circuit_in w))
  unfolding first_code
  counts_first = omega arith

  pub counts_latches : 2 * (inputs + 1) ≡ first_latch w.inputs
  counts_latches = omega arith

  pub few_words : inputs + length w.nexts + length w.gates / 2 ≤ limit → 2 * (inputs + length w.nexts + 1) + length w.gates ≤ 4294967295
  few_words h = omega arith

  pub few_resets : length w.nexts ≡ length w.resets → {variables : ℕ} → variables ≡ variables_of (circuit_in w) → variables ≤ limit
      → 2 * (inputs + 1) + 2 * length w.resets ≤ 4294967295
  few_resets e v h = omega arith

-- what the code found, as the definition answers it
firsts : (a b c : Option ℕ) → first_fault (found a) (found b) (found c) ≡ fault_at a Over (fault_at b Reset (fault_at c Disordered fits))
firsts (Some x) b c = refl
firsts None (Some x) c = refl
firsts None None (Some x) = refl
firsts None None None = refl

-- the checks in turn, each as its function answers it
module _ (w : Words) (asked variables : ℕ) (is_v : variables ≡ variables_of (circuit_in w)) (r₁ : Bool)
    (e₁ : r₁ ≡ too_large variables (length w.roots) (length w.sizes)) where
  large : (b : Bool) → r₁ ≡ b → too_large (variables_of (circuit_in w)) (length w.roots) (length w.sizes) ≡ b
  large b e = sym (ap (λ (v : ℕ). too_large v (length w.roots) (length w.sizes)) is_v) ∙ sym e₁ ∙ e

  pub answers_1 : r₁ ≡ true → Err TooBig ≡ checked w asked
  unfolding checked
  answers_1 e = rw (large true e)

  -- what check 1 leaves
  pub small : r₁ ≡ false → (variables ≤ limit) × (length w.sizes ≤ limit)
  unfolding too_large
  small e =
      let a = or-false _ _ (sym e₁ ∙ e) in
      let b = or-false _ _ a.0 in (ltb-false limit variables b.0, ltb-false limit (length w.sizes) a.1)

  module _ (n₁ : r₁ ≡ false) (r₂ : Bool) (e₂ : r₂ ≡ uneven_in w) where
    pub answers_2 : r₂ ≡ true → Err Misshapen ≡ checked w asked
    unfolding checked
    answers_2 e = rw (large false n₁, sym e₂ ∙ e)

    -- the three that come after, each found by its function
    pub answers_last : r₂ ≡ false → (f₄ f₂₂ f₂₃ : Option Lit) (t u : ℕ) → f₄ ≡ found (first_over (2 * variables + 1) (codes_in w asked))
        → t ≡ first_latch w.inputs → f₂₂ ≡ found (first_stray (count_from t (length w.resets)) w.resets)
        → u ≡ first_code (sources_of (circuit_in w)) → f₂₃ ≡ found (first_disordered u (pairs_of w.gates))
        → (r : Checked) → r ≡ first_fault f₄ f₂₂ f₂₃ → r ≡ checked w asked
    unfolding checked
    answers_last n₂ f₄ f₂₂ f₂₃ t u e₄ is_t e₂₂ is_u e₂₃ r e =
        let as_many : length w.resets ≡ length w.nexts = sym (as_many_resets w (sym e₂ ∙ n₂)) in
        let four : f₄ ≡ found (first_over (2 * variables_of (circuit_in w) + 1) (codes_in w asked))
        = e₄ ∙ ap (λ (v : ℕ). found (first_over (2 * v + 1) (codes_in w asked))) is_v in
        let stray : f₂₂ ≡ found (first_stray (latches_of (circuit_in w)) w.resets)
        = e₂₂ ∙ ap₂ (λ (x n : ℕ). found (first_stray (count_from x n) w.resets)) is_t as_many in
        let loose : f₂₃ ≡ found (first_disordered (first_code (sources_of (circuit_in w))) (circuit_in w).gates)
        = e₂₃ ∙ ap (λ (x : ℕ). found (first_disordered x (pairs_of w.gates))) is_u in
        e ∙ ap₂ (λ (x y : Option Lit). first_fault x y f₂₃) four stray
        ∙ ap (first_fault (found (first_over (2 * variables_of (circuit_in w) + 1) (codes_in w asked))) (found (first_stray (latches_of (circuit_in w)) w.resets))) loose
        ∙ rw (large false n₁, sym e₂ ∙ n₂)
        (firsts (first_over (2 * variables_of (circuit_in w) + 1) (codes_in w asked)) (first_stray (latches_of (circuit_in w)) w.resets)
        (first_disordered (first_code (sources_of (circuit_in w))) (circuit_in w).gates))
