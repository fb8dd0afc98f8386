-- `sheet_read::numbers` meets its contract: a turn of the loop reads one number more, so that the whole run is those read and the run from the place
-- reached (`Filling`). Assumes nothing.
use Rattle.sheet_read.proofs.Runs.{Filling}
use Rattle.sheet_read.proofs.numbers.Given as goal

abbrev pub invariant-loop-cell : goal.invariant-loop-cell
invariant-loop-cell l = Filling l.s l.at l.initial.list l.list l.cell-index l.place
