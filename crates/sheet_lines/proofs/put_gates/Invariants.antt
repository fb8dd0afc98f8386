-- `sheet_lines::put_gates` meets its contract: a turn of the loop puts the line of one gate more (`Listing`). Assumes nothing.
use Rattle.circuit.specs.Ordered.{gates_from}
use Rattle.circuit.specs.Outcome.{pairs_of}
use Rattle.sheet_lines.specs.Lines.{gate_line}
use Rattle.sheet_lines.proofs.Texts.{Listing}
use Rattle.sheet_lines.proofs.put_gates.Given as goal

abbrev pub invariant-loop-j : goal.invariant-loop-j
invariant-loop-j l = Listing gate_line (gates_from l.first (pairs_of l.gates)) l.initial.out l.at l.out l.j l.place
