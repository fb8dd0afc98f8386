-- `ascii_lines::inputs_into` meets its contract: a turn of the loop stores one line more (`Going`). Assumes nothing.
use Rattle.ascii_lines.specs.Lines.{input_at}
use Rattle.ascii_lines.specs.Promise.{put_numbers}
use Rattle.ascii_lines.proofs.Loops.{Going}
use Rattle.ascii_lines.proofs.inputs_into.Given as goal

abbrev pub invariant-loop-i : goal.invariant-loop-i
invariant-loop-i l = Going put_numbers (λ k. input_at l.s l.limit) l.n l.at l.initial.list l.list l.i l.here
