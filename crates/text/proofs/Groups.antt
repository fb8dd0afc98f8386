-- The shortest groups of a number, the first one apart: its remainder by 128, and then the groups of its quotient. So they are counted, and put.
-- Assumes nothing.
use mathlib.Core.Path.{◌≡◌, refl, sym, ap, ◌∙◌}
use mathlib.Core.Bool.{cond}
use mathlib.Core.List.{List, [], ◌∷◌, ◌++◌}
use Prim.Native.Nat.{ℕ, zero, suc, ◌+◌, ◌-◌, ◌*◌, ◌/◌, ◌%◌, ◌^◌, ◌≤◌, ◌<◌}
use native.Mathlib.Numerals.{add-one}
use native.Mathlib.Nat.{pow-suc, one-le-pow, pow-le-pow_right}
use native.Mathlib.Omega.{arith}
use lib.Dec.{ltb, lit<, lit≤}
use lib.ListN.{length, set, length-set}
use borrow.Author.Tests.{lt-ltb, le-ltb}
use Rattle.token.specs.Format.{groups_up_to, shortest}
use Rattle.token.proofs.Theorems.{shortest_reads_back, binary_uses}
use Rattle.text.specs.Put.{put_all}

-- room for more groups than a number has changes nothing
groups_room : (k d : ℕ) → d < 128 ^ suc k → groups_up_to (suc k) d ≡ groups_up_to k d
groups_room zero d h = rw (lt-ltb d 128 (omega arith))
groups_room (suc k) d h = ap (λ (bs : List ℕ). cond (ltb d 128) (d ∷ []) ((128 + d % 128) ∷ bs)) (groups_room k (d / 128) (omega arith))

pub groups_one : (d : ℕ) → d < 128 → shortest d ≡ d ∷ []
unfolding shortest
groups_one d h = rw (lt-ltb d 128 h)

pub groups_more : (d : ℕ) → 128 ≤ d → d < 2 ^ 56 → shortest d ≡ (128 + d % 128) ∷ shortest (d / 128)
unfolding shortest
groups_more d on fits = rw (le-ltb d 128 on) (ap (λ (bs : List ℕ). (128 + d % 128) ∷ bs) (sym (groups_room 6 (d / 128) (omega arith))))

-- how many there are

pub groups_few : (d : ℕ) → d < 2 ^ 56 → length (shortest d) ≤ 8
groups_few d fits = (binary_uses (shortest d ++ []) 0 d (length (shortest d)) (shortest_reads_back d fits [] [])).eight

pub count_1 : (d : ℕ) → d < 128 → length (shortest d) ≡ 1
count_1 d h = ap length (groups_one d h)

count_more : (d : ℕ) → 128 ≤ d → d < 2 ^ 56 → length (shortest d) ≡ suc (length (shortest (d / 128)))
count_more d on fits = ap length (groups_more d on fits)

pub count-2 : (d : ℕ) → 128 ≤ d → d < 16384 → length (shortest d) ≡ 2
count-2 d low high = omega (arith, count_more d low (omega arith), count_1 (d / 128) (omega arith))

pub count_3 : (d : ℕ) → 16384 ≤ d → d < 2097152 → length (shortest d) ≡ 3
count_3 d low high = omega (arith, count_more d (omega arith) (omega arith), count-2 (d / 128) (omega arith) (omega arith))

-- from each seventh power of two on a group more
pub count_log : (k r d : ℕ) → k * 7 ≤ r → r < k * 7 + 7 → 2 ^ r ≤ d → d < 2 * 2 ^ r → d < 2 ^ 56 → length (shortest d) ≡ k + 1
count_log zero r d least most low high fits =
    let few : r ≤ 6 = omega arith in
    let small : 2 ^ r ≤ 2 ^ 6 = pow-le-pow_right (lit< tt) few in
    count_1 d (omega arith)
count_log (suc k) r d least most low high fits =
    let q : ℕ = r - 7 in
    let seven : r ≡ suc (suc (suc (suc (suc (suc (suc q)))))) = omega arith in
    let big : 2 ^ r ≡ 2 ^ q * 128 = ap (λ (i : ℕ). 2 ^ i) seven ∙ simp pow-suc (omega arith) in
    let some : 1 ≤ 2 ^ q = one-le-pow q 2 (lit≤ tt) in
    omega (arith, count_more d (omega arith) fits, count_log k q (d / 128) (omega arith) (omega arith) (omega arith) (omega arith) (omega arith))

-- the groups of d are put from a place on, the first of them first: those of `rest` are left, and go to `place`
pub record Grouping (out₀ : List ℕ) (at d : ℕ) (out : List ℕ) (place rest : ℕ) : Type 0 where
  pub fits : rest < 2 ^ 56
  pub left : put_all out place (shortest rest) ≡ put_all out₀ at (shortest d)
  pub here : place + length (shortest rest) ≡ at + length (shortest d)
  pub kept : length out ≡ length out₀

pub grouping_all : (out : List ℕ) (at d : ℕ) → d < 2 ^ 56 → Grouping out at d out at d
grouping_all out at d fits = record { fits = fits; left = refl; here = refl; kept = refl }

module _ {out₀ : List ℕ} {at d : ℕ} {out : List ℕ} {place rest : ℕ} (g : Grouping out₀ at d out place rest) where
  pub grouping_more : (out' : List ℕ) → 128 ≤ rest → out' ≡ set out place (128 + rest % 128) → Grouping out₀ at d out' (place + 1) (rest / 128)
  grouping_more out' on e =
      let more = count_more rest on g.fits in
      record {
        fits = omega (arith, g.fits);
        left =
            ap (λ (l : List ℕ). put_all l (place + 1) (shortest (rest / 128))) e
            ∙ ap (λ (i : ℕ). put_all (set out place (128 + rest % 128)) i (shortest (rest / 128))) (add-one place)
            ∙ ap (put_all out place) (sym (groups_more rest on g.fits)) ∙ g.left;
        here = omega (arith, g.here);
        kept = ap length e ∙ length-set out place (128 + rest % 128) ∙ g.kept;
      }

  pub grouping_last : (out' : List ℕ) → rest < 128 → out' ≡ set out place rest → (out' ≡ put_all out₀ at (shortest d)) × (place + 1 ≡ at + length (shortest d))
  grouping_last out' one e = (
    e ∙ ap (put_all out place) (sym (groups_one rest one)) ∙ g.left,
    omega (arith, g.here, count_1 rest one),
  )
