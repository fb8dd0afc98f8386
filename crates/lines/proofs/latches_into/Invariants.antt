-- `lines::latches_into` meets its contract: a turn of the loop stores one line more (`Latching`). Assumes nothing.
use Prim.Native.Nat.{◌+◌, ◌*◌}
use Rattle.lines.specs.Lines.{latch_at}
use Rattle.lines.specs.Promise.{latch_lists}
use Rattle.lines.proofs.Loops.{Latching}
use Rattle.lines.proofs.latches_into.Given as goal

abbrev pub invariant-loop-i : goal.invariant-loop-i
invariant-loop-i l =
    Latching (λ k. latch_at l.s l.limit (l.first + 2 * k)) l.n l.at (latch_lists l.initial.nexts l.initial.resets) (latch_lists l.nexts l.resets) l.i l.here
