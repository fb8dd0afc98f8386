-- Resets that are carried over: as many as there were, each in its place with the first value that it had, and resets again. Assumes nothing.
use Rattle.std.specs.Prelude.{Some, None}
use Prim.Native.Nat.{ℕ, zero, suc, ◌+◌, ◌*◌, ◌<◌, ◌≤◌}
use mathlib.Core.Path.{◌≡◌, refl, ◌∙◌, ap, subst⁻¹}
use mathlib.Core.Logic.{inl, inr}
use mathlib.Core.Bool.{Bool, true, false, cond}
use mathlib.Core.List.{List, [], ◌∷◌}
use native.Mathlib.Omega.{arith}
use lib.Dec.{eqb, leb}
use lib.ListN.{length, get_or}
use Rattle.circuit.specs.Ordered.{carried, carried_from, count_from}
use Rattle.circuit.specs.Claims.{IsReset, AllReset, first_value}
use Rattle.circuit.proofs.Ordered.{count_from-length, count_from_get_d}
use Rattle.circuit.proofs.Tests.{AtMost, at_most, above, le_test, Same, same, other, same_test}

pub carried-length : (t : ℕ) (rs : List ℕ) → length (carried_from t rs) ≡ length rs
carried-length t [] = refl
carried-length t (r ∷ rs) = ap suc (carried-length (t + 2) rs)

pub carried_at : (t : ℕ) (rs : List ℕ) (j : ℕ) → j < length rs → get_or (carried_from t rs) j 0 ≡ carried (t + 2 * j) (get_or rs j 0)
carried_at t [] j h = absurd (omega arith)
carried_at t (r ∷ rs) zero h = let e : t ≡ t + 2 * 0 = omega arith in ap (λ (x : ℕ). carried x r) e
carried_at t (r ∷ rs) (suc j) h =
    let e : t + 2 + 2 * j ≡ t + 2 * suc j = omega arith in
    carried_at (t + 2) rs j (omega arith) ∙ ap (λ (x : ℕ). carried x (get_or rs j 0)) e

-- whatever is carried is a reset of its latch
pub carried_reset : (own r : ℕ) → IsReset own (carried own r)
carried_reset own r = go (leb r 1) (le_test r 1)
  where
    low : (x : ℕ) → x ≤ 1 → IsReset own x
    low zero h = inl refl
    low (suc zero) h = inr (inl refl)
    low (suc (suc x)) h = absurd (omega arith)

    go : (b : Bool) → AtMost r 1 b → IsReset own (cond b r own)
    go true (at_most h) = low r h
    go false (above h) = inr (inr refl)

-- and has the first value that it had, where the latch's new literal is no constant
pub carried_first : (own r : ℕ) → 1 < own → first_value (carried own r) ≡ first_value r
carried_first own r h = go (leb r 1) (le_test r 1)
  where
    free : (x : ℕ) → 1 < x → first_value x ≡ None
    free x k = both (eqb x 0) (same_test x 0) (eqb x 1) (same_test x 1)
      where
        both : (b : Bool) → Same x 0 b → (c : Bool) → Same x 1 c → cond b (Some false) (cond c (Some true) None) ≡ None
        both true (same e) c s = absurd (omega arith)
        both false (other n) true (same e) = absurd (omega arith)
        both false (other n) false (other m) = refl

    go : (b : Bool) → AtMost r 1 b → first_value (cond b r own) ≡ first_value r
    go true (at_most k) = refl
    go false (above k) = rw (free own h, free r k)

pub all_carried : (t n : ℕ) (rs : List ℕ) → length rs ≡ n → AllReset (count_from t n) (carried_from t rs)
all_carried t n rs e j h =
    let k : j < n = omega (arith, count_from-length t n) in
    subst⁻¹ (λ (x : ℕ). IsReset x (get_or (carried_from t rs) j 0)) (count_from_get_d t n j k)
    (subst⁻¹ (IsReset (t + 2 * j)) (carried_at t rs j (omega arith)) (carried_reset (t + 2 * j) (get_or rs j 0)))
