-- `ascii::put::put_inputs` meets its contract: a turn of the loop puts one input line more. Assumes nothing.
use Rattle.circuit.specs.Ordered.{count_from}
use Rattle.sections.specs.Bytes.{line_bytes}
use Rattle.sections.proofs.Parts.{Rowing}
use Rattle.ascii.proofs.put.put_inputs.Given as goal

abbrev pub invariant-loop-i : goal.invariant-loop-i
invariant-loop-i l = Rowing line_bytes l.initial.out l.at (count_from 2 l.n) l.out l.i l.place
