-- `lists::split`: the states and the nexts so far are those of the latches (`Copied`).
use Rattle.sheet.specs.Circuit.{states_of, nexts_of}
use Rattle.sheet.proofs.Cells.{Copied}
use Rattle.sheet.proofs.lists.split.Given as goal

abbrev pub invariant-loop-j : goal.invariant-loop-j
invariant-loop-j l = Copied (states_of l.latches) l.states l.j × Copied (nexts_of l.latches) l.nexts l.j
