-- The digits of a number, the last one apart: those of its tenth, and then its last digit. So they are counted, and put from the last to the first.
-- Assumes nothing.
use mathlib.Core.Path.{◌≡◌, refl, sym, ap, ◌∙◌}
use mathlib.Core.Bool.{cond}
use mathlib.Core.List.{List, [], ◌∷◌, ◌++◌}
use Prim.Native.Nat.{ℕ, zero, suc, ◌+◌, ◌-◌, ◌*◌, ◌/◌, ◌%◌, ◌^◌, ◌≤◌, ◌<◌}
use native.Mathlib.Nat.{pow-suc, one-le-pow}
use native.Mathlib.Omega.{arith}
use lib.Dec.{ltb, lit≤}
use lib.ListN.{length, set, length-set, length-append}
use borrow.Author.Tests.{lt-ltb, le-ltb}
use Rattle.token.specs.Format.{digits_up_to, digits_of}
use Rattle.token.proofs.Theorems.{decimal_reads_back, decimal_uses}
use Rattle.text.specs.Put.{put_all}
use Rattle.text.proofs.Puts.{put_all_append, put_all_behind}

-- room for more digits than a number has changes nothing
digits_room : (k v : ℕ) → v < 10 ^ suc k → digits_up_to (suc k) v ≡ digits_up_to k v
digits_room zero v h = rw (lt-ltb v 10 (omega arith))
digits_room (suc k) v h = ap (λ (ds : List ℕ). cond (ltb v 10) ((48 + v) ∷ []) (ds ++ ((48 + v % 10) ∷ []))) (digits_room k (v / 10) (omega arith))

pub digits_one : (v : ℕ) → v < 10 → digits_of v ≡ (48 + v) ∷ []
unfolding digits_of
digits_one v h = rw (lt-ltb v 10 h)

pub digits_last : (v : ℕ) → 10 ≤ v → v < 2 ^ 64 → digits_of v ≡ digits_of (v / 10) ++ ((48 + v % 10) ∷ [])
unfolding digits_of
digits_last v ten fits = rw (le-ltb v 10 ten) (ap (λ (ds : List ℕ). ds ++ ((48 + v % 10) ∷ [])) (sym (digits_room 18 (v / 10) (omega arith))))

-- how many there are

pub digits_few : (v : ℕ) → v < 2 ^ 64 → (1 ≤ length (digits_of v)) × (length (digits_of v) ≤ 20)
digits_few v fits =
    let used = decimal_uses (digits_of v ++ []) 0 v (length (digits_of v)) (decimal_reads_back v fits [] [] refl) in
    (used.some, used.twenty)

pub count_1 : (v : ℕ) → v < 10 → length (digits_of v) ≡ 1
count_1 v h = ap length (digits_one v h)

pub count_more : (v : ℕ) → 10 ≤ v → v < 2 ^ 64 → length (digits_of v) ≡ length (digits_of (v / 10)) + 1
count_more v ten fits = ap length (digits_last v ten fits) ∙ length-append (digits_of (v / 10)) ((48 + v % 10) ∷ [])

-- from each power of ten on a digit more
pub count_power : (k v : ℕ) → 10 ^ k ≤ v → v < 10 * 10 ^ k → v < 2 ^ 64 → length (digits_of v) ≡ k + 1
count_power zero v low high fits = count_1 v (omega arith)
count_power (suc k) v low high fits =
    let p : 10 ^ k * 10 ≤ v = rw pow-suc at low in
    let q : v < 10 * (10 ^ k * 10) = rw pow-suc at high in
    let some : 1 ≤ 10 ^ k = one-le-pow k 10 (lit≤ tt) in
    omega (arith, count_more v (omega arith) fits, count_power k (v / 10) (omega arith) (omega arith) (omega arith))

-- the digits of v are put from a place on, the last of them first: those of `rest` are left, and the last of these goes to `place`
pub record Filling (out₀ : List ℕ) (at v : ℕ) (out : List ℕ) (place rest : ℕ) : Type 0 where
  pub fits : rest < 2 ^ 64
  pub left : put_all out at (digits_of rest) ≡ put_all out₀ at (digits_of v)
  pub here : place + 1 ≡ at + length (digits_of rest)
  pub kept : length out ≡ length out₀

pub filling_all : (out : List ℕ) (at v place : ℕ) → v < 2 ^ 64 → place + 1 ≡ at + length (digits_of v) → Filling out at v out place v
filling_all out at v place fits here = record { fits = fits; left = refl; here = here; kept = refl }

module _ {out₀ : List ℕ} {at v : ℕ} {out : List ℕ} {place rest : ℕ} (f : Filling out₀ at v out place rest) where
  pub filling_more : (out' : List ℕ) (b : ℕ) → 10 ≤ rest → b ≡ 48 + rest % 10 → out' ≡ set out place b → Filling out₀ at v out' (place - 1) (rest / 10)
  filling_more out' b ten d e =
      let ds : List ℕ = digits_of (rest / 10) in
      let some = digits_few (rest / 10) (omega (arith, f.fits)) in
      let more = count_more rest ten f.fits in
      let last : place ≡ at + length ds = omega (arith, f.here) in
      record {
        fits = omega (arith, f.fits);
        left =
            ap (λ (l : List ℕ). put_all l at ds) (e ∙ ap (set out place) d) ∙ put_all_behind out at ds place (48 + rest % 10) (omega arith)
            ∙ ap (λ (i : ℕ). set (put_all out at ds) i (48 + rest % 10)) last ∙ sym (put_all_append out at ds ((48 + rest % 10) ∷ []))
            ∙ ap (put_all out at) (sym (digits_last rest ten f.fits)) ∙ f.left;
        here = omega arith;
        kept = ap length e ∙ length-set out place b ∙ f.kept;
      }

  pub filling_last : (out' : List ℕ) (b : ℕ) → rest < 10 → b ≡ 48 + rest → out' ≡ set out place b → out' ≡ put_all out₀ at (digits_of v)
  filling_last out' b one d e =
      let first : place ≡ at = omega (arith, f.here, count_1 rest one) in
      e ∙ ap (set out place) d ∙ ap (λ (i : ℕ). set out i (48 + rest)) first ∙ ap (put_all out at) (sym (digits_one rest one)) ∙ f.left
