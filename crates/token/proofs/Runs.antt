-- Laws of the run of bytes at the front of a list that pass a test: a loop counts it byte by byte. Assumes nothing.
use mathlib.Core.Path.{◌≡◌, refl, ap}
use mathlib.Core.Bool.{Bool, true, false, cond}
use mathlib.Core.List.{List, [], ◌∷◌}
use Prim.Native.Nat.{ℕ, zero, suc, ◌+◌, ◌≤◌, ◌<◌}
use native.Mathlib.Omega.{arith}
use native.Mathlib.Numerals.{add-one}
use lib.ListN.{length, get_or, drop, drop_of_length-le}
use lib.Seq.{drop-cons}
use Rattle.token.specs.Format.{leading}

module _ (p : ℕ → Bool) where
  pub leading_le : (l : List ℕ) → leading p l ≤ length l
  leading_le [] = omega arith
  leading_le (b ∷ bs) = go (p b) (leading_le bs)
    where
      go : (t : Bool) {m n : ℕ} → m ≤ n → cond t (suc m) 0 ≤ suc n
      go true h = omega arith
      go false h = omega arith

  -- each byte of the run passes the test
  pub leading_at : (l : List ℕ) (i : ℕ) → i < leading p l → p (get_or l i 0) ≡ true
  leading_at [] i h = absurd (omega arith)
  leading_at (b ∷ bs) zero h = go (p b) (leading p bs) h
    where
      go : (t : Bool) (m : ℕ) → 0 < cond t (suc m) 0 → t ≡ true
      go true m h' = refl
      go false m h' = absurd (omega arith)
  leading_at (b ∷ bs) (suc i) h = leading_at bs i (go (p b) (leading p bs) h)
    where
      go : (t : Bool) (m : ℕ) → suc i < cond t (suc m) 0 → i < m
      go true m h' = omega arith
      go false m h' = absurd (omega arith)

  -- of the run's t bytes n are passed, and the rest stand from n on: the byte b at n is in the run, or ends it; or n is the end
  module _ (l : List ℕ) (n t : ℕ) (so_far : t ≡ n + leading p (drop n l)) where
    pub run_more : (b : ℕ) → n < length l → get_or l n 0 ≡ b → p b ≡ true → t ≡ n + 1 + leading p (drop (n + 1) l)
    run_more b h e y =
        let one : leading p (drop n l) ≡ suc (leading p (drop (n + 1) l)) = rw (add-one, drop-cons l n 0, e, y) in
        omega arith

    pub run_stop : (b : ℕ) → n < length l → get_or l n 0 ≡ b → p b ≡ false → n ≡ t
    run_stop b h e y = let none : leading p (drop n l) ≡ 0 = rw (drop-cons l n 0, e, y) in omega arith

    pub run_end : length l ≤ n → n ≡ t
    run_end h = let none : leading p (drop n l) ≡ 0 = ap (leading p) (drop_of_length-le l h) in omega arith
