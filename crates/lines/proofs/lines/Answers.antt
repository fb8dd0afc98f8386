-- `lines::lines` meets its contract: a turn of the loop stores one line more (`Storing`). Assumes nothing.
use Prim.Native.Nat.{◌+◌}
use mathlib.Core.Path.{sym, ◌∙◌}
use native.Mathlib.Omega.{arith}
use Rattle.lines.proofs.Answers.{is_got}
use Rattle.lines.proofs.Rows.{storing_more}
use Rattle.lines.proofs.lines.Goals as goal

pub loop-i-preserved : goal.loop-i-preserved
loop-i-preserved c =
    storing_more c.loop-i.invariant _ _ _ (c.args.from + c.loop-i.i) (omega arith) (omega arith)
    (is_got _ _ (sym c.line.ensures ∙ c.in_ok-line.was)) c.store.ensures
