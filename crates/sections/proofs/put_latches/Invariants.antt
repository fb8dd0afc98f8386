-- `sections::put_latches` meets its contract: a turn of the loop puts one line more (`Latching`). Assumes nothing.
use Rattle.sections.proofs.Parts.{Latching}
use Rattle.sections.proofs.put_latches.Given as goal

abbrev pub invariant-loop-next : goal.invariant-loop-next
invariant-loop-next l = Latching l.initial.out l.at l.nexts l.resets l.out l.next-iterator.a.rest.now l.next-iterator.b.rest.now l.place
