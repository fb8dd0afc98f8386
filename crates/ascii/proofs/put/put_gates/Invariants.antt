-- `ascii::put::put_gates` meets its contract: a turn of the loop puts one gate line more (`Gating`). Assumes nothing.
use Rattle.ascii.proofs.WriteParts.{Gating}
use Rattle.ascii.proofs.put.put_gates.Given as goal

abbrev pub invariant-loop-j : goal.invariant-loop-j
invariant-loop-j l = Gating l.initial.out l.at l.n l.gates l.out l.code l.j l.place
