-- What is true where renumbering refuses, from the tests as they are computed to what they say; and every lent cell after a refusal: 1 to 4 and 22 leave them all,
-- the others fill the fronts of the lists, for which check 3 has found room. Assumes nothing.
use Rattle.std.specs.Prelude.{Err}
use Prim.Native.Nat.{ℕ, ◌*◌, ◌≤◌}
use mathlib.Core.Path.{◌≡◌, refl, sym, ◌∙◌, ap, subst, subst⁻¹}
use mathlib.Core.Logic.{◌⊎◌, inl, inr}
use mathlib.Core.Bool.{Bool, true, false, cond, true≢false}
use mathlib.Core.List.{List}
use native.Mathlib.Omega.{arith}
use lib.ListN.{length}
use Rattle.circuit.specs.declared.Refusal.{Refusal}
use Rattle.circuit.specs.declared.Refusal.TheVariants.{TooBig, Misshapen, Short, Over, Reset, Again, StateAgain, Undefined, Cycle}
use Rattle.circuit.specs.Map.{no_image}
use Rattle.circuit.specs.Circuit.{Circuit}
use Rattle.circuit.specs.Outcome.{Lent, circuit_of, map_words, scratch_words, cleared, untouched, is_early, outcome}
use Rattle.circuit.specs.Claims.{Roomy, PassesSizes, Passes, IsTrue, Early, Late, Keeps, KeepsPast, KeepsAll, Clears}
use Rattle.circuit.specs.Tested.{Fits, Tested}
use Rattle.circuit.proofs.Outcome.{WhyLent, within, agrees, roomy, from_within, from_agrees, from_roomy, bounds, all_reset_lem, tested_of, concluded, Concluded, refusal_from, refusal_of}
use Rattle.circuit.proofs.Listed.{bounded_of, of_bounded, first_too_big}
use Rattle.circuit.proofs.Lengths.{filled, keeps_past}

-- a test that answered true is not passed
not_passed : {P : Type 0} (b : Bool) → (P → b ≡ false) → b ≡ true → P → ⊥
not_passed b f e p = true≢false (sym e ∙ f p)

-- each refusal is an early or a late one
pub early_or_late_lem : (r : Refusal) → Early r ⊎ Late r
early_or_late_lem TooBig = inl (inl (omega arith))
early_or_late_lem Misshapen = inl (inl (omega arith))
early_or_late_lem Short = inl (inl (omega arith))
early_or_late_lem (Over d) = inl (inl (omega arith))
early_or_late_lem (Reset d) = inl (inr refl)
early_or_late_lem (Again d) = inr (omega arith, omega arith)
early_or_late_lem (StateAgain d) = inr (omega arith, omega arith)
early_or_late_lem (Undefined d) = inr (omega arith, omega arith)
early_or_late_lem (Cycle d) = inr (omega arith, omega arith)

no_early : (n : ℕ) → 5 ≤ n → n ≤ 8 → (n ≤ 4) ⊎ (n ≡ 22) → ⊥
no_early n h h' (inl k) = omega arith
no_early n h h' (inr k) = omega arith

early_is : (r : Refusal) → Early r → is_early r ≡ true
early_is TooBig h = refl
early_is Misshapen h = refl
early_is Short h = refl
early_is (Over d) h = refl
early_is (Reset d) h = refl
early_is (Again d) h = absurd (no_early 5 (omega arith) (omega arith) h)
early_is (StateAgain d) h = absurd (no_early 6 (omega arith) (omega arith) h)
early_is (Undefined d) h = absurd (no_early 7 (omega arith) (omega arith) h)
early_is (Cycle d) h = absurd (no_early 8 (omega arith) (omega arith) h)

late_is : (r : Refusal) → Late r → is_early r ≡ false
late_is TooBig (h, h') = absurd (omega arith)
late_is Misshapen (h, h') = absurd (omega arith)
late_is Short (h, h') = absurd (omega arith)
late_is (Over d) (h, h') = absurd (omega arith)
late_is (Reset d) (h, h') = absurd (omega arith)
late_is (Again d) h = refl
late_is (StateAgain d) h = refl
late_is (Undefined d) h = refl
late_is (Cycle d) h = refl

module _ (l : Lent) where
  sizes : Fits l → PassesSizes l
  sizes f = record { within = within l f.one; agrees = agrees l f.two; roomy = roomy l f.three }

  -- checks 1 to 4 and 22 as computed say what they should
  pub passes : Tested l → Passes l
  passes t =
      let s = sizes t.fits in
      record { sizes = s; bounded = bounded_of (circuit_of l) s.agrees.latches s.agrees.resets (bounds l t); resets = all_reset_lem l t }

  pub from_sizes : PassesSizes l → Fits l
  from_sizes s = record { one = from_within l s.within; two = from_agrees l s.agrees; three = from_roomy l s.roomy }

  pub tested : Passes l → Tested l
  tested p = tested_of l (from_sizes p.sizes) (of_bounded (circuit_of l) p.bounded, p.resets)

  says : (r : Refusal) → WhyLent l r → IsTrue l r
  says TooBig w = not_passed _ (from_within l) w
  says Misshapen w = (within l w.0, not_passed _ (from_agrees l) w.1)
  says Short w = (within l w.0, agrees l w.1, not_passed _ (from_roomy l) w.2)
  says (Over d) w = let s = sizes w.0 in (s, first_too_big (circuit_of l) d.0 s.agrees.latches s.agrees.resets w.1)
  says (Reset d) w = let s = sizes w.0 in (s, bounded_of (circuit_of l) s.agrees.latches s.agrees.resets w.1, w.2)
  says (Again d) w = (passes w.0, w.1)
  says (StateAgain d) w = (passes w.0, w.1, w.2)
  says (Undefined d) w = (passes w.0, w.1, w.2, w.3)
  says (Cycle d) w = (passes w.0, w.1, w.2, w.3)

  pub refusals_true_lem : (r : Refusal) → (outcome l).answer ≡ Err r → IsTrue l r
  refusals_true_lem r e = says r (subst (Concluded l) (refusal_from l r e) (concluded l))

module _ (l : Lent) (r : Refusal) (e : (outcome l).answer ≡ Err r) where
  abbrev C : Circuit
  C = circuit_of l

  is_true : WhyLent l r
  is_true = subst (Concluded l) (refusal_from l r e) (concluded l)

  left : outcome l ≡ cond (is_early r) (untouched l r) (cleared l C r)
  left = refusal_of l r (refusal_from l r e)

  kept : (lent : List ℕ) → Keeps 0 lent lent
  kept lent = (refl, λ i h. refl)

  pub early : Early r → KeepsAll l (outcome l)
  early h =
      subst⁻¹ (KeepsAll l) (left ∙ ap (λ (b : Bool). cond b (untouched l r) (cleared l C r)) (early_is r h))
      (record {
        map = kept l.map;
        nexts = kept l.next_images;
        resets = kept l.reset_images;
        roots = kept l.root_images;
        gates = kept l.gates_out;
        scratch = kept l.scratch;
      })

  late_fits : (q : Refusal) → WhyLent l q → Late q → Fits l
  late_fits TooBig k (h, h') = absurd (omega arith)
  late_fits Misshapen k (h, h') = absurd (omega arith)
  late_fits Short k (h, h') = absurd (omega arith)
  late_fits (Over d) k (h, h') = absurd (omega arith)
  late_fits (Reset d) k (h, h') = absurd (omega arith)
  late_fits (Again d) k h = k.0.fits
  late_fits (StateAgain d) k h = k.0.fits
  late_fits (Undefined d) k h = k.0.fits
  late_fits (Cycle d) k h = k.0.fits

  pub late : Late r → Clears l C (outcome l)
  late h =
      let is : outcome l ≡ cleared l C r = left ∙ ap (λ (b : Bool). cond b (untouched l r) (cleared l C r)) (late_is r h) in
      let room : Roomy l C = roomy l (late_fits r is_true h).three in
      let past : KeepsPast l C (cleared l C r) = subst (KeepsPast l C) is (keeps_past l) in
      subst⁻¹ (Clears l C) is
      (record {
        map = filled (map_words C) no_image l.map room.map past.map;
        nexts = filled (length C.states) 0 l.next_images room.nexts past.nexts;
        resets = filled (length C.states) 0 l.reset_images room.resets past.resets;
        roots = filled (length C.roots) 0 l.root_images room.roots past.roots;
        gates = filled (2 * length C.gates) 0 l.gates_out room.gates past.gates;
        scratch = filled (scratch_words C) 0 l.scratch room.scratch past.scratch;
      })
