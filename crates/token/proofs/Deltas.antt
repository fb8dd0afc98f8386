-- Laws of deltas and of a gate's pair: the bytes that one takes, and how its value lies to its reference. Assumes nothing.
use mathlib.Core.Path.{◌≡◌, refl}
use mathlib.Core.Bool.{Bool, true, false, cond}
use mathlib.Core.List.{List}
use Prim.Native.Nat.{ℕ, ◌+◌, ◌-◌, ◌*◌, ◌^◌, ◌≤◌, ◌<◌}
use mir.Syntax.{w64}
use mir.Val.{Fits}
use native.Mathlib.Omega.{arith}
use lib.Dec.{leb, eqb}
use lib.ListN.{length, take}
use borrow.Author.Tests.{leb-true, leb-false, eqb-false, ne_eqb}
use Rattle.std.specs.Prelude.{Ok, Err}
use Rattle.token.proofs.Parts.{value_parts, inputs_parts}
use Rattle.token.specs.Format.{groups_value}
use Rattle.token.specs.Answer.{go_on_at, binary_at, delta_at, less, pair_at, pair_first, pair_second, Token, inputs, refused, value}
use Rattle.token.specs.declared.Reason.TheVariants.{Cut, TooLong, OverReference, ZeroDelta}
use Rattle.token.proofs.Groups.{eight_at, length_eight}
use Rattle.token.specs.Claims.{Used, PairUsed, Paired}

-- a number that is read is what its bytes write: k go on, and one more ends it
pub record BinaryRead (s : List ℕ) (at v n : ℕ) : Type 0 where
  pub few : go_on_at s at < 8
  pub ends : go_on_at s at < length (eight_at s at)
  pub bytes : go_on_at s at + 1 ≡ n
  pub means : groups_value (take (go_on_at s at + 1) (eight_at s at)) ≡ v

pub binary_read : (s : List ℕ) (at v n : ℕ) → binary_at s at ≡ value v n → BinaryRead s at v n
unfolding binary_at
binary_read s at v n e = go (leb 8 k) (leb (length (eight_at s at)) k) refl refl e
  where
    k : ℕ
    k = go_on_at s at

    go : (x y : Bool) → leb 8 k ≡ x → leb (length (eight_at s at)) k ≡ y
        → cond x (refused TooLong at) (cond y (refused Cut at) (value (groups_value (take (k + 1) (eight_at s at))) (k + 1))) ≡ value v n → BinaryRead s at v n
    go true y f g q = let z : ◌≡◌ {A = ℕ} 0 1 = cc in absurd (omega arith)
    go false true f g q = let z : ◌≡◌ {A = ℕ} 0 1 = cc in absurd (omega arith)
    go false false f g q = record { few = leb-false 8 k f; ends = leb-false (length (eight_at s at)) k g; bytes = (value_parts q).1; means = (value_parts q).0 }

pub binary_used : (s : List ℕ) (at v n : ℕ) → binary_at s at ≡ value v n → Used s at n
binary_used s at v n e =
    let r = binary_read s at v n e in
    record {
      some = omega (arith, r.bytes);
      eight = omega (arith, r.bytes, r.few);
      inside = omega (arith, r.bytes, r.ends, length_eight s at);
    }

-- a delta that is read is its reference less the number in its bytes
pub delta_from : (s : List ℕ) (at reference v n : ℕ) → delta_at s at reference ≡ value v n → (v ≤ reference) × (binary_at s at ≡ value (reference - v) n)
unfolding delta_at
delta_from s at reference v n e = go (binary_at s at) refl e
  where
    go : (t : Token) → binary_at s at ≡ t → less reference at t ≡ value v n → (v ≤ reference) × (binary_at s at ≡ value (reference - v) n)
    go (Err r) b q = let z : ◌≡◌ {A = ℕ} 0 1 = cc in absurd (omega arith)
    go (Ok t) b q = fits (leb t.value reference) refl q
      where
        fits : (x : Bool) → leb t.value reference ≡ x → cond x (value (reference - t.value) t.used) (refused OverReference at) ≡ value v n
            → (v ≤ reference) × (binary_at s at ≡ value (reference - v) n)
        fits false f q' = let z : ◌≡◌ {A = ℕ} 0 1 = cc in absurd (omega arith)
        fits true f q' =
            let p = value_parts q' in
            let back : reference - v ≡ t.value = omega (arith, p.0, leb-true t.value reference f) in
            (omega (arith, p.0), rw (back, ← p.1) b)

pub delta_used : (s : List ℕ) (at reference v n : ℕ) → delta_at s at reference ≡ value v n → Used s at n
delta_used s at reference v n e = binary_used s at (reference - v) n (delta_from s at reference v n e).1

-- the place after its bytes is one, where the bytes are fewer than 2 ^ 63
pub delta_place : (s : List ℕ) (at reference v n : ℕ) → delta_at s at reference ≡ value v n → length s * 1 < 2 ^ 63 → Fits w64 (at + n)
delta_place s at reference v n e room = let u = delta_used s at reference v n e in record { fits = omega (arith, u.inside) }

-- a gate's pair

pub pair_read : (s : List ℕ) (at code a b used : ℕ) → pair_at s at code ≡ inputs a b used → Paired s at code a b used
unfolding pair_at
pair_read s at code a b used e = go (delta_at s at code) refl e
  where
    then : (x n : ℕ) → delta_at s at code ≡ value x n → (t : Token) → delta_at s (at + n) x ≡ t → pair_second code at x n t ≡ inputs a b used
        → Paired s at code a b used
    then x n f (Err r) g q = let z : ◌≡◌ {A = ℕ} 0 1 = cc in absurd (omega arith)
    then x n f (Ok t) g q = last (eqb x code) refl q
      where
        last : (z : Bool) → eqb x code ≡ z → cond z (refused ZeroDelta at) (inputs x t.value (n + t.used)) ≡ inputs a b used → Paired s at code a b used
        last true h q' = let z : ◌≡◌ {A = ℕ} 0 1 = cc in absurd (omega arith)
        last false h q' =
            let p = inputs_parts q' in
            let apart : x ≡ code → ⊥ = eqb-false x code h in
            let most : x ≤ code = (delta_from s at code x n f).0 in
            record { n = n; m = t.used; first = rw (← p.0) f; second = rw (← p.0, ← p.1) g; below = omega (arith, p.0); bytes = p.2 }

    go : (t : Token) → delta_at s at code ≡ t → pair_first s code at t ≡ inputs a b used → Paired s at code a b used
    go (Err r) f q = let z : ◌≡◌ {A = ℕ} 0 1 = cc in absurd (omega arith)
    go (Ok t) f q = then t.value t.used f (delta_at s (at + t.used) t.value) refl q

-- two deltas that are read make a pair, if the first is not zero
pub pair_of_lem : (s : List ℕ) (at code a b used : ℕ) → Paired s at code a b used → pair_at s at code ≡ inputs a b used
unfolding pair_at
pair_of_lem s at code a b used p = rw (p.first, p.second, ne_eqb a code (λ e. omega (arith, p.below)), p.bytes)

-- the second input is at most the first, and that below the output's code
pub pair_falls : (s : List ℕ) (at code a b used : ℕ) → pair_at s at code ≡ inputs a b used → (b ≤ a) × (a < code)
pair_falls s at code a b used e =
    let p = pair_read s at code a b used e in
    ((delta_from s (at + p.n) a b p.m p.second).0, p.below)

pub pair_used : (s : List ℕ) (at code a b used : ℕ) → pair_at s at code ≡ inputs a b used → PairUsed s at used
pair_used s at code a b used e =
    let p = pair_read s at code a b used e in
    let f = delta_used s at code a p.n p.first in
    let g = delta_used s (at + p.n) a b p.m p.second in
    record {
      some = omega (arith, p.bytes);
      sixteen = omega (arith, p.bytes);
      inside = omega (arith, p.bytes);
    }
