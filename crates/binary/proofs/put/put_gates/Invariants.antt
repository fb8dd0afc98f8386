-- `binary::put::put_gates` meets its contract: a turn of the loop puts one gate more (`Putting`); inputs stand in order, so no difference goes below zero.
-- Assumes nothing.
use Rattle.binary.proofs.Putting.{Putting}
use Rattle.binary.proofs.put.put_gates.Given as goal

abbrev pub invariant-loop-j : goal.invariant-loop-j
invariant-loop-j l = Putting l.initial.out l.at l.n l.gates l.out l.code l.j l.place
