-- Laws of decimal digits and of the numbers that they write. Assumes nothing.
use mathlib.Core.Path.{◌≡◌, refl, sym, ap, ◌∙◌}
use mathlib.Core.Bool.{Bool, true, false, ◌&&◌, and-false}
use mathlib.Core.List.{List, [], ◌∷◌, ◌++◌}
use mathlib.Core.Logic.{inl, inr}
use Prim.Native.Nat.{ℕ, suc, ◌+◌, ◌-◌, ◌*◌, ◌^◌, ◌≤◌, ◌<◌}
use native.Mathlib.Nat.{add-zero}
use native.Mathlib.Omega.{arith}
use native.Mathlib.Numerals.{add-one}
use lib.Dec.{ltb, leb}
use lib.ListN.{length, get_or, take, drop, length-drop}
use lib.Seq.{take-suc, take-add, get_or-drop, drop-cons}
use borrow.Author.Tests.{leb-true, ltb-true, ltb-false, le-leb, lt-leb, lt-ltb, le-ltb, ne_eqb}
use Rattle.std.specs.Prelude.{MatchBool}
use Rattle.std.specs.Char.{IsAsciiDigit, IsNotAsciiDigit}
use Rattle.token.specs.Format.{is_digit, decimal_from, decimal_value}
use Rattle.token.specs.Answer.{digits_at, fitting, uint_at, Token, refused, value}
use Rattle.token.specs.declared.Reason.TheVariants.{NoDigit, LeadingZero, OverWidth}
use Rattle.token.proofs.Runs.{leading_le, leading_at}

-- a digit, and what is none

pub digit_low : (b : ℕ) → is_digit b ≡ true → (48 ≤ b) × (b < 58)
digit_low b e = go (leb 48 b) (ltb b 58) e refl refl
  where
    go : (x y : Bool) → (x && y) ≡ true → leb 48 b ≡ x → ltb b 58 ≡ y → (48 ≤ b) × (b < 58)
    go true true e' f g = (leb-true 48 b f, ltb-true b 58 g)
    go true false e' f g = let z : ◌≡◌ {A = ℕ} 0 1 = cc in absurd (omega arith)
    go false y e' f g = let z : ◌≡◌ {A = ℕ} 0 1 = cc in absurd (omega arith)

pub digit_yes : (b : ℕ) → 48 ≤ b → b < 58 → is_digit b ≡ true
digit_yes b h k = simp (le-leb 48 b h, lt-ltb b 58 k)

pub digit_under : (b : ℕ) → b < 48 → is_digit b ≡ false
digit_under b h = simp (lt-leb 48 b h)

pub digit_over : (b : ℕ) → 58 ≤ b → is_digit b ≡ false
digit_over b h = ap (λ (y : Bool). leb 48 b && y) (le-ltb b 58 h) ∙ and-false (leb 48 b)

-- the number that digits write

-- one digit more
pub decimal_snoc : (v : ℕ) (xs : List ℕ) (d : ℕ) → decimal_from v (xs ++ (d ∷ [])) ≡ decimal_from v xs * 10 + (d - 48)
decimal_snoc v [] d = refl
decimal_snoc v (x ∷ xs) d = decimal_snoc (v * 10 + (x - 48)) xs d

decimal_append : (v : ℕ) (xs ys : List ℕ) → decimal_from v (xs ++ ys) ≡ decimal_from (decimal_from v xs) ys
decimal_append v [] ys = refl
decimal_append v (x ∷ xs) ys = decimal_append (v * 10 + (x - 48)) xs ys

-- more digits make no number smaller
pub decimal_grows : (v : ℕ) (l : List ℕ) → v ≤ decimal_from v l
decimal_grows v [] = omega arith
decimal_grows v (d ∷ ds) = omega (arith, decimal_grows (v * 10 + (d - 48)) ds)

-- the first n + 1 numbers write ten times what the first n do, and the one at n
pub decimal_next : (l : List ℕ) (n : ℕ) → n < length l → decimal_value (take (n + 1) l) ≡ decimal_value (take n l) * 10 + (get_or l n 0 - 48)
decimal_next l n h = rw (add-one, take-suc l n 0) (decimal_snoc 0 (take n l) (get_or l n 0))

-- a longer part writes no smaller number
pub decimal_part : (l : List ℕ) (n m : ℕ) → n ≤ m → decimal_value (take n l) ≤ decimal_value (take m l)
decimal_part l n m h =
    let split : m ≡ n + (m - n) = omega arith in
    let e : decimal_value (take m l) ≡ decimal_from (decimal_value (take n l)) (take (m - n) (drop n l)) = ap (λ (k : ℕ). decimal_value (take k l)) split
    ∙ ap decimal_value (take-add n (m - n) l) ∙ decimal_append 0 (take n l) (take (m - n) (drop n l)) in
    omega (arith, decimal_grows (decimal_value (take n l)) (take (m - n) (drop n l)))

-- how many digits stand at a place

-- digits stand within the bytes
pub digits_within : (s : List ℕ) (at : ℕ) → digits_at s at ≤ length s - at
unfolding digits_at
digits_within s at = omega (arith, leading_le is_digit (drop at s), length-drop at s)

pub digits_end : (s : List ℕ) (at : ℕ) → length s ≤ at → digits_at s at ≡ 0
digits_end s at h = omega (arith, digits_within s at)

-- of a byte that is there: one more than those after it, or none
pub digits_more : (s : List ℕ) (at b : ℕ) → at < length s → get_or s at 0 ≡ b → is_digit b ≡ true → digits_at s at ≡ suc (digits_at s (at + 1))
unfolding digits_at
digits_more s at b h e y = rw (add-one, drop-cons s at 0, e, y)

pub digits_none : (s : List ℕ) (at b : ℕ) → at < length s → get_or s at 0 ≡ b → is_digit b ≡ false → digits_at s at ≡ 0
unfolding digits_at
digits_none s at b h e y = rw (drop-cons s at 0, e, y)

-- a place that has a digit is a byte's, and the byte is a digit
pub digits_some : (s : List ℕ) (at : ℕ) → 0 < digits_at s at → (at < length s) × (is_digit (get_or s at 0) ≡ true)
unfolding digits_at
digits_some s at h =
    let first : get_or (drop at s) 0 0 ≡ get_or s at 0 = get_or-drop at s 0 0 ∙ ap (λ (i : ℕ). get_or s i 0) (add-zero at) in
    (omega (arith, digits_within s at), rw (← first) (leading_at is_digit (drop at s) 0 h))

-- the test of a byte
pub digit_tested : {t : Bool} (s : List ℕ) (at b : ℕ) → at < length s → b ≡ get_or s at 0 → t ≡ is_digit b → t ≡ ltb 0 (digits_at s at)
digit_tested s at b there byte is = is ∙ go (is_digit b) refl
  where
    go : (u : Bool) → is_digit b ≡ u → u ≡ ltb 0 (digits_at s at)
    go true e = rw (digits_more s at b there (sym byte) e, lt-ltb 0 (suc (digits_at s (at + 1))) (omega arith))
    go false e =
        let none : digits_at s at ≡ 0 = digits_none s at b there (sym byte) e in
        rw none

-- a loop over the digits at a place: n of them are passed, and write v

pub record DigitsPassed (s : List ℕ) (at n v : ℕ) : Type 0 where
  pub inside : at + n ≤ length s
  pub fits : v < 2 ^ 64
  pub means : v ≡ decimal_value (take n (drop at s))
  pub rest : digits_at s at ≡ n + digits_at s (at + n)

pub digits_passed_none : (s : List ℕ) (at : ℕ) → at ≤ length s → DigitsPassed s at 0 0
digits_passed_none s at h = record { inside = omega arith; fits = omega arith; means = refl; rest = rw (add-zero at) (omega arith) }

-- what `decimal` is to answer
abbrev pub decimal_at : List ℕ → ℕ → Token
decimal_at s at = fitting (decimal_value (take (digits_at s at) (drop at s))) (digits_at s at) at

module _ {s : List ℕ} {at n v : ℕ} (p : DigitsPassed s at n v) where
  -- no digit stands there: all are passed
  pub digits_passed_end : {t : Bool} → t ≡ ltb 0 (digits_at s (at + n)) → t ≡ false → value v n ≡ decimal_at s at
  digits_passed_end told left =
      let none : digits_at s (at + n) ≤ 0 = ltb-false 0 (digits_at s (at + n)) (sym told ∙ left) in
      let all : n ≡ digits_at s at = omega (arith, p.rest) in
      rw (← all, ← p.means, lt-ltb v (2 ^ 64) p.fits)

  -- the end: all are passed, and all bytes are
  pub digits_passed_past : length s ≤ at + n → value v (length s - at) ≡ decimal_at s at
  digits_passed_past h =
      let none : digits_at s (at + n) ≡ 0 = digits_end s (at + n) h in
      let all : digits_at s at ≡ n = omega (arith, p.rest) in
      let whole : length s - at ≡ n = omega (arith, p.inside) in
      rw (all, whole, ← p.means, lt-ltb v (2 ^ 64) p.fits)

  -- a digit stands there
  module _ {t : Bool} (told : t ≡ ltb 0 (digits_at s (at + n))) (yes : t ≡ true) where
    some : 0 < digits_at s (at + n)
    some = ltb-true 0 (digits_at s (at + n)) (sym told ∙ yes)

    digit_there : at + n < length s
    digit_there = (digits_some s (at + n) some).0

    digit_is : (48 ≤ get_or s (at + n) 0) × (get_or s (at + n) 0 < 58)
    digit_is = digit_low (get_or s (at + n) 0) (digits_some s (at + n) some).1

    -- it is the digit d
    module _ {d : ℕ} (digit : d ≡ get_or s (at + n) 0 - 48) where
      digit_more : digits_at s at ≡ n + 1 + digits_at s (at + (n + 1))
      digit_more =
          let one : digits_at s (at + n) ≡ suc (digits_at s (at + n + 1)) = digits_more s (at + n) (get_or s (at + n) 0) digit_there refl
          (digits_some s (at + n) some).1 in
          let next : at + n + 1 ≡ at + (n + 1) = omega arith in
          rw (← next) (omega (arith, p.rest))

      writes : v * 10 + d ≡ decimal_value (take (n + 1) (drop at s))
      writes =
          let here : n < length (drop at s) = simp length-drop (omega (arith, digit_there)) in
          rw (digit, ← get_or-drop at s n 0, p.means) (sym (decimal_next (drop at s) n here))

      -- it fits
      pub digits_passed_digit : v * 10 + d < 2 ^ 64 → DigitsPassed s at (n + 1) (v * 10 + d)
      digits_passed_digit h = record { inside = omega (arith, digit_there); fits = h; means = writes; rest = digit_more }

      -- or it does not
      pub digits_passed_over : 2 ^ 64 ≤ v * 10 + d → refused OverWidth at ≡ decimal_at s at
      digits_passed_over h =
          let more : decimal_value (take (n + 1) (drop at s)) ≤ decimal_value (take (digits_at s at) (drop at s)) = decimal_part (drop at s) (n + 1)
          (digits_at s at) (omega (arith, digit_more)) in
          rw (le-ltb (decimal_value (take (digits_at s at) (drop at s))) (2 ^ 64) (omega (arith, writes)))

-- what `uint` answers, by the first byte

module _ (s : List ℕ) (at : ℕ) where
  pub uint_none : digits_at s at ≡ 0 → refused NoDigit at ≡ uint_at s at
  unfolding uint_at
  uint_none e = rw e

  -- a first `0`, with more digits or alone
  module _ (some : 0 < digits_at s at) (zeroth : get_or s at 0 ≡ 48) where
    run : digits_at s at ≡ suc (digits_at s (at + 1))
    run = let d = digits_some s at some in digits_more s at (get_or s at 0) d.0 refl d.1

    pub uint_leading : 0 < digits_at s (at + 1) → refused LeadingZero at ≡ uint_at s at
    unfolding uint_at
    uint_leading h = rw (ne_eqb (digits_at s at) 0 (omega arith), le-leb 2 (digits_at s at) (omega (arith, run)), zeroth)

    pub uint_zero : digits_at s (at + 1) ≡ 0 → value 0 1 ≡ uint_at s at
    unfolding uint_at
    uint_zero e =
        let one : digits_at s at ≡ 1 = omega (arith, run) in
        let byte : take 1 (drop at s) ≡ 48 ∷ [] = rw (drop-cons s at 0 (digits_some s at some).0, zeroth) in
        rw (one, byte)

  pub uint_plain : 0 < digits_at s at → (get_or s at 0 ≡ 48 → ⊥) → decimal_at s at ≡ uint_at s at
  unfolding uint_at
  uint_plain h k = rw (ne_eqb (digits_at s at) 0 (omega arith), ne_eqb (get_or s at 0) 48 k, and-false)
