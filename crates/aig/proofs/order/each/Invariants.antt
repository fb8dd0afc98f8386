-- `order::each`: each turn walks the literal at its place, and those after it wait. Assumes nothing.
use Rattle.std.proofs.Common.{◌-◌, length}
use lib.ListN.{drop}
use Rattle.aig.specs.Walks.{every_from}
use Rattle.aig.proofs.InTurn.{Listing}
use Rattle.aig.proofs.order.each.Given as goal

abbrev pub invariant-loop-i : goal.invariant-loop-i
invariant-loop-i l =
    Listing l.shape l.gates (every_from l.step 0 l.lits) l.initial.made l.initial.map l.initial.out l.initial.scratch (every_from l.step 0 (drop l.i l.lits)) l.made l.map l.out l.scratch

abbrev pub decreases-loop-i : goal.decreases-loop-i
decreases-loop-i l = length l.lits - l.i
