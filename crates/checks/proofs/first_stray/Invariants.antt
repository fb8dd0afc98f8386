-- `first_stray` meets its contract: no reset before this latch's strays, so the first of what is left is the first of all. Assumes nothing.
use mathlib.Core.Path.{◌≡◌}
use lib.ListN.{length, drop}
use Rattle.circuit.specs.Circuit.{first_stray}
use Rattle.checks.proofs.first_stray.Given as goal

abbrev pub invariant-loop-state : goal.invariant-loop-state
invariant-loop-state l = first_stray l.states l.resets ≡ first_stray (drop (length l.yielded) l.states) (drop (length l.yielded) l.resets)
