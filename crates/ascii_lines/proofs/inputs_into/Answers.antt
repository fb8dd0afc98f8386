-- `ascii_lines::inputs_into` meets its contract: a turn of the loop stores one line more (`Going`). Assumes nothing.
use mathlib.Core.Path.{sym}
use native.Mathlib.Omega.{arith}
use Rattle.std.proofs.Common.{rules}
use Rattle.lines.proofs.Answers.{is_got, broken_no}
use Rattle.ascii_lines.specs.Lines.{inputs_at}
use Rattle.ascii_lines.proofs.Loops.{numbers_more, going_broken, going_all}
use Rattle.ascii_lines.proofs.inputs_into.Goals as goal

pub loop-i-preserved : goal.loop-i-preserved
loop-i-preserved c =
    numbers_more c.loop-i.invariant _ _ _ (omega arith) (is_got _ _ (sym c.in_ok-line.ensures)) c.store.ensures

pub returns-in_err-line : goal.returns-in_err-line
unfolding inputs_at
returns-in_err-line c =
    going_broken c.loop-i.invariant _ _ _ (omega arith) (broken_no _ _ _ (sym c.in_err-line.ensures)) (search rules)

pub returns : goal.returns
unfolding inputs_at
returns c =
    going_all c.loop-i.invariant (omega arith)
