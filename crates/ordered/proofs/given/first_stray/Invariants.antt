-- `first_stray` meets its contract: all resets before reset j are what they may be, so the first of what is left is the first of all. Assumes nothing.
use Prim.Native.Nat.{◌+◌, ◌*◌}
use mathlib.Core.Path.{◌≡◌}
use lib.ListN.{length, drop}
use Rattle.circuit.specs.Circuit.{first_stray}
use Rattle.circuit.specs.Ordered.{count_from}
use Rattle.ordered.proofs.given.first_stray.Given as goal

abbrev pub invariant-loop-j : goal.invariant-loop-j
invariant-loop-j l =
    first_stray (count_from l.t (length l.resets)) l.resets
    ≡ first_stray (count_from (l.t + 2 * l.j) (length (drop l.j l.resets))) (drop l.j l.resets)
