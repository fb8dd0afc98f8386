-- Tests of numbers, each with what its answer says: a proof by cases on a test takes the view and needs no equation. Assumes nothing.
use Prim.Native.Nat.{ℕ, zero, suc, ◌<◌, ◌≤◌}
use mathlib.Core.Path.{◌≡◌, refl, sym, subst}
use mathlib.Core.Logic.{◌⊎◌, inl, inr, ◌≢◌}
use mathlib.Core.Bool.{Bool, true, false, not}
use native.Mathlib.Omega.{arith}
use lib.Dec.{T, eqb, eqb→eq, eqb_refl, leb, leb→le, nleb→lt}

pub data Same (m n : ℕ) : Bool → Type 0 where
  same : m ≡ n → Same m n true
  other : m ≢ n → Same m n false

pub same_test : (m n : ℕ) → Same m n (eqb m n)
same_test m n = go (eqb m n) refl
  where
    go : (b : Bool) → eqb m n ≡ b → Same m n b
    go true e = same (eqb→eq m n (subst T (sym e) tt))
    go false e = other (λ h. subst T e (subst (λ (k : ℕ). T (eqb m k)) h (eqb_refl m)))

pub data AtMost (m n : ℕ) : Bool → Type 0 where
  at_most : m ≤ n → AtMost m n true
  above : n < m → AtMost m n false

-- `ltb m n` is `leb (suc m) n`, so this serves it too
pub le_test : (m n : ℕ) → AtMost m n (leb m n)
le_test m n = go (leb m n) refl
  where
    go : (b : Bool) → leb m n ≡ b → AtMost m n b
    go true e = at_most (leb→le m n (subst T (sym e) tt))
    go false e = above (nleb→lt m n (subst (λ (b : Bool). T (not b)) (sym e) tt))

pub le_or : (x y : ℕ) → (x ≤ y) ⊎ (y ≤ x)
le_or zero y = inl (omega arith)
le_or (suc x) zero = inr (omega arith)
le_or (suc x) (suc y) = go (le_or x y)
  where
    go : (x ≤ y) ⊎ (y ≤ x) → (suc x ≤ suc y) ⊎ (suc y ≤ suc x)
    go (inl h) = inl (omega arith)
    go (inr h) = inr (omega arith)

pub lt_or : (x y : ℕ) → (x < y) ⊎ (y ≤ x)
lt_or x zero = inr (omega arith)
lt_or zero (suc y) = inl (omega arith)
lt_or (suc x) (suc y) = go (lt_or x y)
  where
    go : (x < y) ⊎ (y ≤ x) → (suc x < suc y) ⊎ (suc y ≤ suc x)
    go (inl h) = inl (omega arith)
    go (inr h) = inr (omega arith)

-- an index below suc n is the last one or below it
pub last_or : (n j : ℕ) → j < suc n → (j < n) ⊎ (j ≡ n)
last_or zero zero h = inr refl
last_or zero (suc j) h = absurd (omega arith)
last_or (suc n) zero h = inl (omega arith)
last_or (suc n) (suc j) h = go (last_or n j (omega arith))
  where
    go : (j < n) ⊎ (j ≡ n) → (suc j < suc n) ⊎ (suc j ≡ suc n)
    go (inl p) = inl (omega arith)
    go (inr p) = inr (omega arith)
