-- `binary::gates_into` meets its contract: a turn of the loop stores one gate more (`Gating`); a pair is at most its code, which fits a word. Assumes nothing.
use Rattle.binary.proofs.Gates.{Gating}
use Rattle.binary.proofs.gates_into.Given as goal

abbrev pub invariant-loop-j : goal.invariant-loop-j
invariant-loop-j l = Gating l.s l.n l.m l.at l.initial.list l.list l.j l.here
