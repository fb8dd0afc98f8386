-- `lines::latches_into` meets its contract: a turn of the loop stores one line more (`Latching`). Assumes nothing.
use mathlib.Core.Path.{sym, ◌∙◌}
use native.Mathlib.Omega.{arith}
use Rattle.std.proofs.Common.{rules}
use Rattle.lines.specs.Lines.{latches_at}
use Rattle.lines.specs.Promise.{latch_lists}
use Rattle.lines.proofs.Answers.{latch_got, broken_no}
use Rattle.lines.proofs.Resets.{own_serves}
use Rattle.lines.proofs.Loops.{latching_more, latching_broken}
use Rattle.lines.proofs.latches_into.Goals as goal

pub loop-i-preserved : goal.loop-i-preserved
loop-i-preserved c =
    latching_more c.loop-i.invariant (latch_lists _ _) _ _ _ (omega arith)
    (own_serves _ c.args.limit _ _ _ (omega arith) c.own_literal.ensures
    ∙ latch_got _ _ (sym c.latch.ensures ∙ c.in_ok-line.was))
    c.store.ensures c.store-in-loop-i.ensures

pub returns-in_err-line : goal.returns-in_err-line
unfolding latches_at
returns-in_err-line c =
    latching_broken c.loop-i.invariant _ _ (omega arith)
    (own_serves _ c.args.limit _ _ _ (omega arith) c.own_literal.ensures
    ∙ broken_no _ _ _ (sym c.latch.ensures ∙ c.in_err-line.was)) (search rules)
