-- What stands for a gate, where folding is asked first. Assumes nothing.
use Rattle.std.specs.Prelude.{Option, Some, None}
use Prim.Native.Nat.{ℕ}
use mathlib.Core.Path.{◌≡◌}
use native.Mathlib.Omega.{arith}
use Rattle.lit.specs.declared.Lit.{Lit}
use Rattle.circuit.specs.Walk.{or_else}
use Rattle.fold.specs.Fold.{already_of}

-- what stands for a gate: the first of two answers that there is
pub first_stands : (a b : Option ℕ) (t : Lit) → Some t ≡ already_of a → Some t ≡ already_of (or_else a b)
first_stands (Some x) b t e = e
first_stands None b t e = let z : ◌≡◌ {A = ℕ} 0 1 = cc in absurd (omega arith)

pub second_stands : (a b : Option ℕ) (r : Option Lit) → None ≡ already_of a → r ≡ already_of b → r ≡ already_of (or_else a b)
second_stands (Some x) b r e f = let z : ◌≡◌ {A = ℕ} 0 1 = cc in absurd (omega arith)
second_stands None b r e f = f
