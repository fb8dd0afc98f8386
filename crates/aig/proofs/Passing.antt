-- Checks 1 to 4 and 22, and what they leave: a refusal of theirs is the outcome at once; where they pass, the outcome is that of renumbering, and no refusal
-- that is left to come is one of theirs. Assumes nothing.
use Rattle.std.specs.Prelude.{Option, Some, None, Err}
use Prim.Native.Nat.{ℕ, ◌+◌, ◌*◌, ◌≤◌}
use mathlib.Core.Path.{◌≡◌, refl, sym, ap, ◌∙◌, subst, subst⁻¹}
use mathlib.Core.Logic.{inl}
use mathlib.Core.Bool.{Bool, true, false}
use mathlib.Core.List.{[], ◌∷◌}
use native.Mathlib.Omega.{arith}
use lib.ListN.{length}
use Rattle.lit.specs.Code.{literal}
use Rattle.circuit.specs.declared.Refusal.{Refusal}
use Rattle.circuit.specs.declared.Refusal.TheVariants as R
use Rattle.circuit.specs.Graph.{In}
use Rattle.circuit.specs.Walk.{Work, reached}
use Rattle.circuit.specs.Circuit.{Circuit, codes, first_over, first_stray, or_refuse, numbered, renumber}
use Rattle.circuit.specs.Outcome.{Lent, outcome_of, circuit_of, too_big, misshapen, too_short, or_stop, conclusion, untouched, is_early, after, outcome}
use Rattle.circuit.specs.Tested.{Tested}
use Rattle.circuit.proofs.Settled.{settled_le}
use Rattle.circuit.proofs.Lists.{In-right}
use Rattle.circuit.proofs.Checks.{no_stray}
use Rattle.circuit.proofs.Renumber.{Done, Why, Answered, answered}
use Rattle.circuit.proofs.Outcome as O
use Rattle.checks.specs.Checks as checks
use Rattle.checks.specs.Checks.{fail_if, fail_at, passing}
use Rattle.checks.specs.Bare.{bare}

-- checks 1 to 4 and 22
module _ (l : Lent) where
  abbrev C : Circuit
  C = circuit_of l

  -- the same, with no resets, and nothing lent to be written
  abbrev pub bare_of : Lent
  bare_of = bare l.circuit l.inputs l.states l.nexts [] l.gates l.roots

  pub failed : (why : Refusal) → passing l ≡ Err why
      → outcome_of (Err why) l.map l.next_images l.reset_images l.root_images l.gates_out l.scratch ≡ outcome l
  unfolding passing outcome conclusion renumber after
  failed why e = go (too_big C) (misshapen l) (too_short l C) (first_over (2 * C.top + 1) (codes C)) (first_stray l.states l.resets) e
    where
      go : (a b c : Bool) (o s : Option ℕ)
          → fail_if a R.TooBig (fail_if b R.Misshapen (fail_if c R.Short (fail_at o R.Over (fail_at s R.Reset checks.passed)))) ≡ Err why
          → untouched l why ≡ after l (or_stop a R.TooBig (or_stop b R.Misshapen (or_stop c R.Short (or_refuse o R.Over (or_refuse s R.Reset (numbered C))))))
      go true b c o s k = let z : why ≡ R.TooBig = cc in rw z
      go false true c o s k = let z : why ≡ R.Misshapen = cc in rw z
      go false false true o s k = let z : why ≡ R.Short = cc in rw z
      go false false false (Some d) s k = let z : why ≡ R.Over (literal d) = cc in rw z
      go false false false None (Some d) k = let z : why ≡ R.Reset (literal d) = cc in rw z
      go false false false None None k = absurd (let z : ◌≡◌ {A = ℕ} 0 1 = cc in omega arith)

  pub passed : passing l ≡ checks.passed → Tested l
  unfolding passing
  passed e =
      go (too_big C) refl (misshapen l) refl (too_short l C) refl (first_over (2 * C.top + 1) (codes C)) refl (first_stray l.states l.resets) refl e
    where
      go : (a : Bool) → too_big C ≡ a → (b : Bool) → misshapen l ≡ b → (c : Bool) → too_short l C ≡ c → (o : Option ℕ) → first_over (2 * C.top + 1) (codes C) ≡ o
          → (t : Option ℕ) → first_stray l.states l.resets ≡ t
          → fail_if a R.TooBig (fail_if b R.Misshapen (fail_if c R.Short (fail_at o R.Over (fail_at t R.Reset checks.passed)))) ≡ checks.passed → Tested l
      go true p b q c r o s t u k = absurd (let z : ◌≡◌ {A = ℕ} 0 1 = cc in omega arith)
      go false p true q c r o s t u k = absurd (let z : ◌≡◌ {A = ℕ} 0 1 = cc in omega arith)
      go false p false q true r o s t u k = absurd (let z : ◌≡◌ {A = ℕ} 0 1 = cc in omega arith)
      go false p false q false r (Some d) s t u k = absurd (let z : ◌≡◌ {A = ℕ} 0 1 = cc in omega arith)
      go false p false q false r None s (Some d) u k = absurd (let z : ◌≡◌ {A = ℕ} 0 1 = cc in omega arith)
      go false p false q false r None s None u k = record { fits = record { one = p; two = q; three = r }; four = s; twenty_two = u }

  module _ (p : Tested l) where
    -- what checks 4 and 22 leave to come
    leaves : renumber C ≡ numbered C
    unfolding renumber
    leaves = rw (p.four, p.twenty_two)

    pub concludes : after l (numbered C) ≡ outcome l
    unfolding outcome
    concludes = ap (after l) (sym (O.conclusion_of l p.fits ∙ leaves))

    pub answer : Answered C (numbered C)
    answer = subst (Answered C) leaves (answered C (O.limits l p.fits))

    pub made_few_lem : (x : Work) → numbered C ≡ reached x → length x.made ≤ length C.gates
    made_few_lem x e = let d : Done C x = subst (Answered C) e answer in omega (arith, d.inv.few, settled_le x.images C.gates)

    -- no refusal comes of the rest that checks 1 to 4 and 22 give
    pub late : (why : Refusal) → Why C why → is_early why ≡ false
    late R.TooBig k = absurd k
    late R.Misshapen k = absurd k
    late R.Short k = absurd k
    late (R.Over d) k =
        absurd (omega (arith, O.bounds l p d.0 (subst⁻¹ (In d.0) k.splits (In-right d.0 k.before (d.0 ∷ k.after) (inl refl))), k.is_over))
    late (R.Reset d) k = absurd (no_stray l.states l.resets d.0 k.1 (O.all_reset_lem l p))
    late (R.Again d) k = refl
    late (R.StateAgain d) k = refl
    late (R.Undefined d) k = refl
    late (R.Cycle d) k = refl
