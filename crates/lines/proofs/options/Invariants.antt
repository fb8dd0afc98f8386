-- `lines::options` meets its contract: a turn of the loop reads one count more (`Choosing`). Assumes nothing.
use Rattle.lines.proofs.Loops.{Choosing}
use Rattle.lines.proofs.options.Given as goal

abbrev pub invariant-loop-cell : goal.invariant-loop-cell
invariant-loop-cell l = Choosing l.s l.at l.initial.row l.row l.cell-index l.here
