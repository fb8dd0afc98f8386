-- What follows of the definition of a delta in nine bytes: the contract allows one outcome, and eight bytes, low byte first, give the value
-- back. The examples stand in Pins.antt. Assumes nothing.
use Prim.Native.Nat.{ℕ, zero, suc, ◌+◌, ◌*◌, ◌/◌, ◌^◌, ◌<◌}
use mathlib.Core.Path.{◌≡◌, sym, ◌∙◌}
use mathlib.Core.List.{List, [], ◌∷◌}
use native.Mathlib.Nat.{pow-suc}
use native.Mathlib.Omega.{arith}
use Rattle.promise.specs.Determined.{DeterminesCells}
use Rattle.delta_bytes.specs.Delta.{low_bytes}
use Rattle.delta_bytes.proofs.put_delta.Kinds as kinds
use Rattle.delta_bytes.proofs.put_delta.Reads as promise

-- any two outcomes that its contract allows for the same arguments are equal: the number, and each lent byte
pub one_put_delta : DeterminesCells 2 kinds.ps kinds.r promise.Learnt (λ κs e. e.1.1.1.0.now)
one_put_delta κs a x y e f p q = (p.0 ∙ sym q.0, p.1 ∙ sym q.1)

-- the number that bytes write, the lowest first
abbrev pub low_value : List ℕ → ℕ
low_value [] = 0
low_value (b ∷ bs) = low_value bs * 256 + b

-- the low bytes of a number that fits them write the number
pub low_bytes_back : (k v : ℕ) → v < 256 ^ k → low_value (low_bytes k v) ≡ v
low_bytes_back zero v h = omega arith
low_bytes_back (suc k) v h =
    let p : v < 256 ^ k * 256 = rw pow-suc at h in
    omega (arith, low_bytes_back k (v / 256) (omega arith))
