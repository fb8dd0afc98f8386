-- Laws of flipping a code's low bit by another code's sign: what it keeps, what it changes, and that it undoes itself. Assumes nothing.
use Prim.Native.Nat.{ℕ, zero, suc, ◌+◌, ◌%◌, ◌^◌, ◌<◌}
use mathlib.Core.Path.{◌≡◌, refl}
use mathlib.Core.Logic.{◌⊎◌, inl, inr}
use mathlib.Core.Bool.{true, false}
use native.Mathlib.Omega.{arith}
use Rattle.lit.specs.Code.{var, is_odd, flipped}

-- a flip keeps the variable, and a code of 32 bits is one afterwards
pub flipped-var : (t c : ℕ) → var (flipped t c) ≡ var t
unfolding flipped
flipped-var t c = omega arith

pub flipped_fits : (t c : ℕ) → t < 2 ^ 32 → flipped t c < 2 ^ 32
unfolding flipped
flipped_fits t c h = omega arith

-- by an even code nothing is flipped; by an odd one an even code goes up and an odd one down
pub flipped_even : (t c : ℕ) → c % 2 ≡ 0 → flipped t c ≡ t
unfolding flipped
flipped_even t c h = omega arith

pub flipped_up : (t c : ℕ) → c % 2 ≡ 1 → t % 2 ≡ 0 → flipped t c ≡ t + 1
unfolding flipped
flipped_up t c h k = omega arith

pub flipped_down : (t c : ℕ) → c % 2 ≡ 1 → t % 2 ≡ 1 → flipped t c + 1 ≡ t
unfolding flipped
flipped_down t c h k = omega arith

-- an even number, or an odd one
pub parity : (n : ℕ) → (n % 2 ≡ 0) ⊎ (n % 2 ≡ 1)
parity n = go (n % 2) (omega arith)
  where
    go : (k : ℕ) → k < 2 → (k ≡ 0) ⊎ (k ≡ 1)
    go zero h = inl refl
    go (suc zero) h = inr refl
    go (suc (suc k)) h = absurd (omega arith)

-- a flip undoes itself
pub flipped_twice : (t c : ℕ) → flipped (flipped t c) c ≡ t
unfolding flipped
flipped_twice t c = go (parity t) (parity c)
  where
    go : (t % 2 ≡ 0) ⊎ (t % 2 ≡ 1) → (c % 2 ≡ 0) ⊎ (c % 2 ≡ 1) → flipped (flipped t c) c ≡ t
    go (inl h) (inl k) = omega arith
    go (inl h) (inr k) = omega arith
    go (inr h) (inl k) = omega arith
    go (inr h) (inr k) = omega arith

-- the sign of a code as a Bool
pub odd_true : (c : ℕ) → c % 2 ≡ 1 → is_odd c ≡ true
unfolding is_odd
odd_true c e = rw e

pub odd_false : (c : ℕ) → c % 2 ≡ 0 → is_odd c ≡ false
unfolding is_odd
odd_false c e = rw e
