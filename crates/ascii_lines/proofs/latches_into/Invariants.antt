-- `ascii_lines::latches_into` meets its contract: a turn of the loop stores one line more (`Going`). Assumes nothing.
use Rattle.ascii_lines.specs.Lines.{stated_at}
use Rattle.ascii_lines.specs.Promise.{latch_lists, put_latches}
use Rattle.ascii_lines.proofs.Loops.{Going}
use Rattle.ascii_lines.proofs.latches_into.Given as goal

abbrev pub invariant-loop-i : goal.invariant-loop-i
invariant-loop-i l = Going put_latches (λ k. stated_at l.s l.limit) l.n l.at (latch_lists l.initial.states l.initial.nexts l.initial.resets) (latch_lists l.states l.nexts l.resets) l.i l.here
