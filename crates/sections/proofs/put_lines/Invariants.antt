-- `sections::put_lines` meets its contract: a turn of the loop puts one more (`Rowing`). Assumes nothing.
use Rattle.sections.specs.Bytes.{line_bytes}
use Rattle.sections.proofs.Parts.{Rowing}
use Rattle.sections.proofs.put_lines.Given as goal

abbrev pub invariant-loop-v : goal.invariant-loop-v
invariant-loop-v l = Rowing line_bytes l.initial.out l.at l.list l.out l.v-index l.place
