-- `store_from`: what is left to store falls by one literal a turn. Assumes nothing.
use Prim.Native.Nat.{◌+◌, ◌*◌}
use mathlib.Core.Path.{◌≡◌}
use lib.ListN.{drop}
use Rattle.circuit.specs.Circuit.{store_from}
use Rattle.images.proofs.store_from.Given as goal

abbrev pub invariant-loop-literal : goal.invariant-loop-literal
invariant-loop-literal l =
    record { next : l.code ≡ l.first + 2 * l.literal-index; stores : store_from l.initial.map l.first l.literals ≡ store_from l.map l.code (drop l.literal-index l.literals) }
