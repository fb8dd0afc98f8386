-- `lines::lines` meets its contract: a turn of the loop stores one line more (`Storing`). Assumes nothing.
use Rattle.lines.proofs.Rows.{Storing}
use Rattle.lines.specs.Lines.{line_at}
use Rattle.lines.proofs.lines.Given as goal

abbrev pub invariant-loop-i : goal.invariant-loop-i
invariant-loop-i l = Storing (λ k. line_at l.s l.limit) l.n l.at l.initial.list l.from l.list l.i l.here
