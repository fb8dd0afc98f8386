-- `ascii_lines::latches_into` meets its contract: a turn of the loop stores one line more (`Going`). Assumes nothing.
use mathlib.Core.Path.{sym}
use native.Mathlib.Omega.{arith}
use Rattle.std.proofs.Common.{rules}
use Rattle.lines.proofs.Answers.{broken_no}
use Rattle.ascii_lines.specs.Lines.{latches_at}
use Rattle.ascii_lines.specs.Promise.{latch_lists}
use Rattle.ascii_lines.proofs.Answers.{stated_got}
use Rattle.ascii_lines.proofs.Loops.{latches_more, going_broken, going_all}
use Rattle.ascii_lines.proofs.latches_into.Goals as goal

pub loop-i-preserved : goal.loop-i-preserved
loop-i-preserved c =
    latches_more c.loop-i.invariant (latch_lists _ _ _) _ _ _ _ (omega arith) (stated_got _ _ (sym c.in_ok-line.ensures)) c.store.ensures
    c.store-in-loop-i.ensures c.store-in-loop-i-2.ensures

pub returns-in_err-line : goal.returns-in_err-line
unfolding latches_at
returns-in_err-line c =
    going_broken c.loop-i.invariant _ _ _ (omega arith) (broken_no _ _ _ (sym c.in_err-line.ensures)) (search rules)

pub returns : goal.returns
unfolding latches_at
returns c =
    going_all c.loop-i.invariant (omega arith)
