-- `over_in_latches` meets its contract: nothing before this latch is over the bound, so the first of what is left is the first of all. Assumes nothing.
use mathlib.Core.Path.{◌≡◌}
use lib.ListN.{length, drop}
use Rattle.circuit.specs.Circuit.{first_over}
use Rattle.circuit.specs.Resets.{side_by_side}
use Rattle.ordered.proofs.given.over_in_latches.Given as goal

abbrev pub invariant-loop-next : goal.invariant-loop-next
invariant-loop-next l =
    first_over l.bound (side_by_side l.nexts l.resets) ≡ first_over l.bound (side_by_side (drop (length l.yielded) l.nexts) (drop (length l.yielded) l.resets))
