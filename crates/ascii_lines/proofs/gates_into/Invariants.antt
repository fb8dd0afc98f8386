-- `ascii_lines::gates_into` meets its contract: a turn of the loop stores one line more (`Going`), in the three cells from the one counted. Assumes nothing.
use Prim.Native.Nat.{◌*◌}
use mathlib.Core.Path.{◌≡◌}
use Rattle.ascii_lines.specs.Lines.{gate_at}
use Rattle.ascii_lines.specs.Promise.{put_gates}
use Rattle.ascii_lines.proofs.Loops.{Going}
use Rattle.ascii_lines.proofs.gates_into.Given as goal

abbrev pub invariant-loop-j : goal.invariant-loop-j
invariant-loop-j l = (l.cell ≡ 3 * l.j) × Going put_gates (λ k. gate_at l.s l.limit) l.m l.at l.initial.list l.list l.j l.here
