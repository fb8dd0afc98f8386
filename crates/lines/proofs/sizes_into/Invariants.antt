-- `lines::sizes_into` meets its contract: a turn of the loop stores one size more and adds it (`Sizing`). Assumes nothing.
use Rattle.lines.proofs.Loops.{Sizing}
use Rattle.lines.proofs.sizes_into.Given as goal

abbrev pub invariant-loop-i : goal.invariant-loop-i
invariant-loop-i l = Sizing l.s l.n l.at l.initial.list l.list l.i l.here l.so_far
