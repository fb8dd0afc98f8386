-- The words so far are the codes (`Copied`).
use Rattle.sheet.proofs.Cells.{Copied}
use Rattle.sheet.proofs.lists.narrow.Given as goal

abbrev pub invariant-loop-i : goal.invariant-loop-i
invariant-loop-i l = Copied l.codes l.words l.i
