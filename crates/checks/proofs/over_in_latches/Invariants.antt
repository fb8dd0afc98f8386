-- `over_in_latches` meets its contract: nothing before this latch is over the bound, so the first of what is left is the first of all. Assumes nothing.
use mathlib.Core.Path.{◌≡◌}
use lib.ListN.{length, drop}
use Rattle.circuit.specs.Circuit.{first_over, latch_codes}
use Rattle.checks.proofs.over_in_latches.Given as goal

abbrev pub invariant-loop-state : goal.invariant-loop-state
invariant-loop-state l =
    first_over l.bound (latch_codes l.states l.nexts l.resets)
    ≡ first_over l.bound (latch_codes (drop (length l.yielded) l.states) (drop (length l.yielded) l.nexts) (drop (length l.yielded) l.resets))
