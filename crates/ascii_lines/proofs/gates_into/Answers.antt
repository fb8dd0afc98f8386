-- `ascii_lines::gates_into` meets its contract: a turn of the loop stores one line more (`Going`), in the three cells from the one counted. Assumes nothing.
use mathlib.Core.Path.{sym}
use native.Mathlib.Omega.{arith}
use Rattle.std.proofs.Common.{rules}
use Rattle.lines.proofs.Answers.{broken_no}
use Rattle.ascii_lines.specs.Lines.{gates_at}
use Rattle.ascii_lines.proofs.Answers.{gate_got}
use Rattle.ascii_lines.proofs.Loops.{gates_more, going_broken, going_all}
use Rattle.ascii_lines.proofs.gates_into.Goals as goal

pub loop-j-preserved : goal.loop-j-preserved
loop-j-preserved c = (
  omega (arith, c.loop-j.invariant.0),
  gates_more c.loop-j.invariant.1 _ _ _ _ _ _ _ c.loop-j.cell (omega arith) c.loop-j.invariant.0
      (gate_got _ _ (sym c.in_ok-line.ensures)) c.store.ensures c.store-in-loop-j.ensures c.store-in-loop-j-2.ensures,
)

pub returns-in_err-line : goal.returns-in_err-line
unfolding gates_at
returns-in_err-line c =
    going_broken c.loop-j.invariant.1 _ _ _ (omega arith) (broken_no _ _ _ (sym c.in_err-line.ensures)) (search rules)

pub returns : goal.returns
unfolding gates_at
returns c =
    going_all c.loop-j.invariant.1 (omega arith)
