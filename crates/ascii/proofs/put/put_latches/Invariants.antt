-- `ascii::put::put_latches` meets its contract: a turn of the loop puts one latch line more (`Stating`). Assumes nothing.
use Rattle.ascii.proofs.WriteParts.{Stating}
use Rattle.ascii.proofs.put.put_latches.Given as goal

abbrev pub invariant-loop-i : goal.invariant-loop-i
invariant-loop-i l = Stating l.initial.out l.at l.inputs l.nexts l.resets l.out l.state l.i l.place
