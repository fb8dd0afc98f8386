-- The folding rows as they are computed are document 01's rows, and a larger and a smaller code have one row's answer at most: where two rows take them, they
-- agree. Assumes nothing.
use Rattle.std.specs.Prelude.{Option, Some, None}
use Prim.Native.Nat.{ℕ, ◌≤◌}
use mathlib.Core.Path.{◌≡◌, refl, sym, ◌∙◌, subst}
use mathlib.Core.Logic.{◌⊎◌, inl, inr, ◌↔◌}
use mathlib.Core.Bool.{Bool, true, false, cond, ◌||◌}
use native.Mathlib.Omega.{arith}
use lib.Dec.{eqb}
use Rattle.circuit.specs.Walk.{folded, folded_if}
use Rattle.circuit.specs.Claims.{Folds, either_zero, larger_one, both_equal, smaller_one}
use Rattle.circuit.proofs.Tests.{Same, same, other, same_test}

-- the rows, with what they say
data RowIs (hi lo : ℕ) : Option ℕ → Type 0 where
  takes : (t : ℕ) → Folds hi lo t → RowIs hi lo (Some t)
  leaves : ((t : ℕ) → Folds hi lo t → ⊥) → RowIs hi lo None

row_is : (hi lo : ℕ) → RowIs hi lo (folded hi lo)
unfolding folded
row_is hi lo =
    go (eqb hi 0) (same_test hi 0) (eqb lo 0) (same_test lo 0) (eqb hi 1) (same_test hi 1) (eqb hi lo) (same_test hi lo) (eqb lo 1) (same_test lo 1)
  where
    go : (a : Bool) → Same hi 0 a → (b : Bool) → Same lo 0 b → (c : Bool) → Same hi 1 c → (d : Bool) → Same hi lo d → (e : Bool) → Same lo 1 e
        → RowIs hi lo (cond (a || b) (Some 0) (cond (c || d) (Some lo) (cond e (Some hi) None)))
    go true (same h) b s₂ c s₃ d s₄ e s₅ = takes 0 (either_zero (inl h))
    go false s₁ true (same h) c s₃ d s₄ e s₅ = takes 0 (either_zero (inr h))
    go false s₁ false s₂ true (same h) d s₄ e s₅ = takes lo (larger_one h)
    go false s₁ false s₂ false s₃ true (same h) e s₅ = takes lo (both_equal h)
    go false s₁ false s₂ false s₃ false s₄ true (same h) = takes hi (smaller_one h)
    go false (other n₁) false (other n₂) false (other n₃) false (other n₄) false (other n₅) = leaves none_takes
      where
        none_takes : (t : ℕ) → Folds hi lo t → ⊥
        none_takes t (either_zero (inl h)) = n₁ h
        none_takes t (either_zero (inr h)) = n₂ h
        none_takes t (larger_one h) = n₃ h
        none_takes t (both_equal h) = n₄ h
        none_takes t (smaller_one h) = n₅ h

-- a row gives the smaller code, or the larger where the smaller is 1
row_value : (hi lo t : ℕ) → lo ≤ hi → Folds hi lo t → ((t ≡ lo) × (lo ≡ 1 → hi ≡ 1)) ⊎ ((lo ≡ 1) × (t ≡ hi))
row_value hi lo t h (either_zero (inl e)) = inl (omega arith, λ k. omega arith)
row_value hi lo t h (either_zero (inr e)) = inl (omega arith, λ k. omega arith)
row_value hi lo t h (larger_one e) = inl (refl, λ k. e)
row_value hi lo t h (both_equal e) = inl (refl, λ k. e ∙ k)
row_value hi lo t h (smaller_one e) = inr (e, refl)

-- two rows that take a pair agree
one_row : (hi lo t t' : ℕ) → lo ≤ hi → Folds hi lo t → Folds hi lo t' → t ≡ t'
one_row hi lo t t' h p q = go (row_value hi lo t h p) (row_value hi lo t' h q)
  where
    go : ((t ≡ lo) × (lo ≡ 1 → hi ≡ 1)) ⊎ ((lo ≡ 1) × (t ≡ hi)) → ((t' ≡ lo) × (lo ≡ 1 → hi ≡ 1)) ⊎ ((lo ≡ 1) × (t' ≡ hi)) → t ≡ t'
    go (inl a) (inl b) = a.0 ∙ sym b.0
    go (inl a) (inr b) = omega (arith, a.0, a.1 b.0, b.0, b.1)
    go (inr a) (inl b) = omega (arith, b.0, b.1 a.0, a.0, a.1)
    go (inr a) (inr b) = a.1 ∙ sym b.1

-- the rows as the flag allows them
pub data RowIf (fold : Bool) (hi lo : ℕ) : Option ℕ → Type 0 where
  takes_if : (t : ℕ) → fold ≡ true → Folds hi lo t → RowIf fold hi lo (Some t)
  leaves_if : ((t : ℕ) → fold ≡ true → Folds hi lo t → ⊥) → RowIf fold hi lo None

pub row_if : (fold : Bool) (hi lo : ℕ) → RowIf fold hi lo (folded_if fold hi lo)
row_if true hi lo = go (folded hi lo) (row_is hi lo)
  where
    go : (o : Option ℕ) → RowIs hi lo o → RowIf true hi lo o
    go (Some t) (takes t' f) = takes_if t refl f
    go None (leaves n) = leaves_if (λ t e f. n t f)
row_if false hi lo = leaves_if (λ t e f. let z : ◌≡◌ {A = ℕ} 0 1 = cc in omega arith)

-- document 01's rows, exactly
pub rows_exactly : (hi lo t : ℕ) → lo ≤ hi → (folded hi lo ≡ Some t) ↔ Folds hi lo t
rows_exactly hi lo t h = (λ e. to (folded hi lo) (row_is hi lo) e, λ f. from f (folded hi lo) (row_is hi lo))
  where
    to : (o : Option ℕ) → RowIs hi lo o → o ≡ Some t → Folds hi lo t
    to (Some t') (takes t'' f) e = let q : t' ≡ t = cc in subst (Folds hi lo) q f
    to None (leaves n) e = absurd (let z : ◌≡◌ {A = ℕ} 0 1 = cc in omega arith)

    from : Folds hi lo t → (o : Option ℕ) → RowIs hi lo o → o ≡ Some t
    from f (Some t') (takes t'' f') = let e : t' ≡ t = one_row hi lo t' t h f' f in rw e
    from f None (leaves n) = absurd (n t f)
