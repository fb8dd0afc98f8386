-- `sum_of` meets its contract: a turn of the loop adds one size, and so few sizes of 32 bits cannot overflow the sum. Assumes nothing.
use Prim.Native.Nat.{◌+◌, ◌*◌, ◌≤◌}
use mathlib.Core.Path.{◌≡◌}
use lib.ListN.{drop}
use Rattle.circuit.specs.Outcome.{total}
use Rattle.ordered.proofs.given.sum_of.Given as goal

abbrev pub invariant-loop-size : goal.invariant-loop-size
invariant-loop-size l = (l.sum ≤ l.size-index * 4294967295) × (l.sum + total (drop l.size-index l.sizes) ≡ total l.sizes)
