-- Laws of groups of seven bits and of the numbers that they write. Assumes nothing.
use mathlib.Core.Path.{◌≡◌, refl, sym, ap, ◌∙◌}
use mathlib.Core.List.{List, [], ◌∷◌, ◌++◌}
use Prim.Native.Nat.{ℕ, zero, suc, ◌+◌, ◌-◌, ◌*◌, ◌%◌, ◌^◌, ◌≤◌, ◌<◌, min}
use native.Mathlib.Nat.{pow-suc, one-le-pow, pow-le-pow_right, mul_assoc, mul-le-mul}
use native.Mathlib.Omega.{arith}
use native.Mathlib.Numerals.{add-one}
use lib.Dec.{lit<, lit≤}
use mir.Syntax.{w8, w64}
use mir.Val.{Fits}
use lib.ListN.{length, get_or, take, drop, length-take, length-drop}
use lib.Seq.{take-suc, take-take, get_or-take, get_or-drop, length-take-le}
use borrow.Author.Tests.{le-leb, lt-leb}
use Rattle.token.specs.Format.{leading, goes_on, groups_value}
use Rattle.token.specs.Answer.{go_on_at, binary_at, refused, value}
use Rattle.token.specs.declared.Reason.TheVariants.{Cut, TooLong}
use Rattle.token.proofs.Runs.{run_more, run_stop, run_end}

-- the number that groups write

-- k groups write a number below 128 ^ k
pub groups_lt : (k : ℕ) (l : List ℕ) → length l ≤ k → groups_value l < 128 ^ k
groups_lt k [] h = one-le-pow k 128 (lit≤ tt)
groups_lt zero (b ∷ bs) h = absurd (omega arith)
groups_lt (suc k) (b ∷ bs) h = rw pow-suc (omega (arith, groups_lt k bs (omega arith)))

-- one group more, the highest
pub groups_snoc : (xs : List ℕ) (b : ℕ) → groups_value (xs ++ (b ∷ [])) ≡ groups_value xs + b % 128 * 128 ^ length xs
groups_snoc [] b = omega arith
groups_snoc (x ∷ xs) b =
    let high : b % 128 * 128 ^ suc (length xs) ≡ b % 128 * 128 ^ length xs * 128 = rw pow-suc (sym (mul_assoc (b % 128) (128 ^ length xs) 128)) in
    omega (arith, groups_snoc xs b)

-- the first n + 1 groups write what the first n do, and 128 ^ n times the one at n
pub groups_next : (l : List ℕ) (n : ℕ) → n < length l → groups_value (take (n + 1) l) ≡ groups_value (take n l) + get_or l n 0 % 128 * 128 ^ n
groups_next l n h =
    rw (add-one, take-suc l n 0) (groups_snoc (take n l) (get_or l n 0)
    ∙ ap (λ (k : ℕ). groups_value (take n l) + get_or l n 0 % 128 * 128 ^ k) (length-take-le n l (omega arith)))

-- a loop over the groups at a place: n of them are passed, go on and write v, and the next weighs w

pub record GroupsPassed (s : List ℕ) (at n v w : ℕ) : Type 0 where
  pub inside : at + n ≤ length s
  pub few : n ≤ 7
  pub weighs : w ≡ 128 ^ n
  pub means : v ≡ groups_value (take n (drop at s))
  pub rest : go_on_at s at ≡ n + leading goes_on (drop n (take 8 (drop at s)))

pub groups_passed_none : (s : List ℕ) (at : ℕ) → at ≤ length s → GroupsPassed s at 0 0 1
unfolding go_on_at
groups_passed_none s at h = record { inside = omega arith; few = omega arith; weighs = refl; means = refl; rest = omega arith }

-- the bytes at a place, eight at most
abbrev pub eight_at : List ℕ → ℕ → List ℕ
eight_at s at = take 8 (drop at s)

pub length_eight : (s : List ℕ) (at : ℕ) → length (eight_at s at) ≡ min 8 (length s - at)
length_eight s at = simp (length-take, length-drop)

module _ {s : List ℕ} {at n v w : ℕ} (p : GroupsPassed s at n v w) where
  -- the weight and the value so far are small
  pub groups_passed_small : (w ≤ 128 ^ 7) × (v < 128 ^ 7)
  groups_passed_small =
      let big : 128 ^ n ≤ 128 ^ 7 = pow-le-pow_right (lit< tt) p.few in
      let short : length (take n (drop at s)) ≤ 7 = simp (length-take, length-drop) (omega (arith, p.few)) in
      (omega (arith, p.weighs), omega (arith, p.means, groups_lt 7 (take n (drop at s)) short))

  -- a group at this weight is small
  pub group_small : (g : ℕ) → g < 128 → g * w ≤ 127 * 128 ^ 7
  group_small g h = let few : g ≤ 127 = omega arith in mul-le-mul few groups_passed_small.0

  -- the next weight fits
  pub groups_passed_weight : Fits w64 (w * 128)
  groups_passed_weight = record { fits = omega (arith, groups_passed_small) }

  -- the group g at this weight fits, and so does the value with it
  module _ {g : ℕ} (h : g < 128) where
    pub group_fits : Fits w64 (g * w)
    group_fits = record { fits = omega (arith, group_small g h) }

    pub group_added : Fits w64 (v + g * w)
    group_added = record { fits = omega (arith, groups_passed_small, group_small g h) }

  pub groups_passed_cut : length s ≤ at + n → refused Cut at ≡ binary_at s at
  unfolding binary_at
  groups_passed_cut h =
      let all : n ≡ go_on_at s at = run_end goes_on (eight_at s at) n _ p.rest (omega (arith, length_eight s at, p.few, p.inside)) in
      rw (← all, lt-leb 8 n (omega (arith, p.few)), le-leb (length (eight_at s at)) n (omega (arith, length_eight s at)))

  module _ {b : ℕ} (there : at + n < length s) (byte : b ≡ get_or s (at + n) 0) where
    here : n < length (eight_at s at)
    here = omega (arith, length_eight s at, p.few)

    byte_here : get_or (eight_at s at) n 0 ≡ b
    byte_here = get_or-take 8 (drop at s) n 0 (omega (arith, p.few)) ∙ get_or-drop at s n 0 ∙ sym byte

    writes : v + b % 128 * w ≡ groups_value (take (n + 1) (drop at s))
    writes =
        let there' : n < length (drop at s) = simp length-drop (omega arith) in
        let at_n : get_or (drop at s) n 0 ≡ b = get_or-drop at s n 0 ∙ sym byte in
        rw (p.means, p.weighs, ← at_n) (sym (groups_next (drop at s) n there'))

    pub groups_passed_last : b < 128 → value (v + b * w) (n + 1) ≡ binary_at s at
    unfolding binary_at
    groups_passed_last h =
        let all : n ≡ go_on_at s at = run_stop goes_on (eight_at s at) n _ p.rest b here byte_here (lt-leb 128 b h) in
        let part : take (n + 1) (eight_at s at) ≡ take (n + 1) (drop at s) = take-take (n + 1) 8 (drop at s) (omega (arith, p.few)) in
        let low : b % 128 ≡ b = omega arith in
        rw (← all, lt-leb 8 n (omega (arith, p.few)), lt-leb (length (eight_at s at)) n here, part, ← writes, low)

    module _ (on : 128 ≤ b) where
      pub group_low : Fits w8 (get_or s (at + n) 0) → b - 128 < 128
      group_low small = omega (arith, small.fits)

      goes_on_here : go_on_at s at ≡ n + 1 + leading goes_on (drop (n + 1) (eight_at s at))
      goes_on_here = run_more goes_on (eight_at s at) n _ p.rest b here byte_here (le-leb 128 b on)

      pub groups_passed_long : n ≡ 7 → refused TooLong at ≡ binary_at s at
      unfolding binary_at
      groups_passed_long e = rw (le-leb 8 (go_on_at s at) (omega (arith, goes_on_here)))

      pub groups_passed_group : Fits w8 (get_or s (at + n) 0) → (n ≡ 7 → ⊥) → GroupsPassed s at (n + 1) (v + (b - 128) * w) (w * 128)
      groups_passed_group small h =
          let low : b % 128 ≡ b - 128 = omega (arith, small.fits) in
          record {
            inside = omega arith;
            few = omega (arith, p.few);
            weighs = rw (add-one, pow-suc, p.weighs);
            means = rw (← low) writes;
            rest = goes_on_here;
          }
