-- A literal that a line defines is a number within the limit that is even and not 0, and every such number can be defined. Assumes nothing.
use Prim.Native.Nat.{ℕ, ◌%◌, ◌≤◌}
use mathlib.Core.Path.{◌≡◌, refl}
use mathlib.Core.Bool.{Bool, true, false, cond}
use mathlib.Core.List.{List}
use native.Mathlib.Omega.{arith}
use lib.Dec.{leb, eqb}
use borrow.Author.Tests.{eqb-false, ne_eqb}
use Rattle.std.specs.Prelude.{Ok, Err}
use Rattle.token.specs.Answer.{Token, refused, uint_at, within, assigned, header_field_at, lit_at}
use Rattle.token.specs.declared.Number.{Number}
use Rattle.token.specs.declared.Reason.TheVariants.{OverLimit, AssignsZero, AssignsOdd}
use Rattle.lines.specs.Reading.{got}
use Rattle.lines.specs.Lines.{number_of, number_at}
use Rattle.ascii_lines.specs.Lines.{defined_at}

module _ (s : List ℕ) (most at v end : ℕ) where
  -- what is read is the number itself
  is_number : (x : Number) → number_of at (within most at (Ok x)) ≡ got v end → x.value ≡ v
  is_number x e = go (leb x.value most) e
    where
      go : (t : Bool) → number_of at (cond t (Ok x) (refused OverLimit at)) ≡ got v end → x.value ≡ v
      go true f = cc
      go false f = absurd (let z : ◌≡◌ {A = ℕ} 0 1 = cc in omega arith)

  pub defined_number : defined_at s most at ≡ got v end → (number_at s most at ≡ got v end) × (1 ≤ v) × (v % 2 ≡ 0)
  unfolding defined_at lit_at number_at header_field_at
  defined_number e = go (uint_at s at) e
    where
      by : (x : Number) (zeroth odd : Bool) → eqb x.value 0 ≡ zeroth → eqb (x.value % 2) 1 ≡ odd
          → number_of at (within most at (cond zeroth (refused AssignsZero at) (cond odd (refused AssignsOdd at) (Ok x)))) ≡ got v end
          → (number_of at (within most at (Ok x)) ≡ got v end) × (1 ≤ v) × (v % 2 ≡ 0)
      by x true odd f g k = absurd (let z : ◌≡◌ {A = ℕ} 0 1 = cc in omega arith)
      by x false true f g k = absurd (let z : ◌≡◌ {A = ℕ} 0 1 = cc in omega arith)
      by x false false f g k =
          let same : x.value ≡ v = is_number x k in
          (k, omega (arith, eqb-false x.value 0 f), omega (arith, eqb-false (x.value % 2) 1 g))

      go : (t : Token) → number_of at (within most at (assigned at t)) ≡ got v end
          → (number_of at (within most at t) ≡ got v end) × (1 ≤ v) × (v % 2 ≡ 0)
      go (Ok x) f = by x (eqb x.value 0) (eqb (x.value % 2) 1) refl refl f
      go (Err r) f = absurd (let z : ◌≡◌ {A = ℕ} 0 1 = cc in omega arith)

  pub number_defined : number_at s most at ≡ got v end → 1 ≤ v → v % 2 ≡ 0 → defined_at s most at ≡ got v end
  unfolding defined_at lit_at number_at header_field_at
  number_defined e some even = go (uint_at s at) e
    where
      go : (t : Token) → number_of at (within most at t) ≡ got v end → number_of at (within most at (assigned at t)) ≡ got v end
      go (Ok x) f =
          let same : x.value ≡ v = is_number x f in
          rw (ne_eqb x.value 0 (omega arith), ne_eqb (x.value % 2) 1 (omega arith)) f
      go (Err r) f = absurd (let z : ◌≡◌ {A = ℕ} 0 1 = cc in omega arith)
