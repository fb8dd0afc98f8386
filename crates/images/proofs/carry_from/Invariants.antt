-- `carry_from`: after i turns the first i resets stand in the list. Assumes nothing.
use Prim.Native.Nat.{◌+◌, ◌*◌}
use mathlib.Core.Path.{◌≡◌}
use mathlib.Core.List.{◌++◌}
use lib.ListN.{take, drop}
use Rattle.circuit.specs.Ordered.{carried_from}
use Rattle.images.proofs.carry_from.Given as goal

abbrev pub invariant-loop-i : goal.invariant-loop-i
invariant-loop-i l =
    record { next : l.own ≡ l.first + 2 * l.i; carried : l.list ≡ take l.i (carried_from l.first l.resets) ++ drop l.i l.initial.list }
