-- `lines::options` meets its contract: a turn of the loop reads one count more (`Choosing`). Assumes nothing.
use mathlib.Core.Path.{sym, ◌∙◌}
use native.Mathlib.Omega.{arith}
use Rattle.std.proofs.Common.{rules}
use Rattle.lines.proofs.Answers.{broken_no}
use Rattle.lines.proofs.Loops.{choosing_broken, choosing_ends}
use Rattle.lines.proofs.options.Goals as goal

pub returns-then-not-is_byte : goal.returns-then-not-is_byte
returns-then-not-is_byte c =
    choosing_ends c.loop-cell.invariant _ (omega arith) (sym c.is_byte.ensures ∙ c.if-not-is_byte.true) c.byte.ensures

pub returns-in_err-count : goal.returns-in_err-count
returns-in_err-count c =
    choosing_broken c.loop-cell.invariant _ _ (omega arith) (sym c.is_byte.ensures ∙ c.if-not-is_byte.false) (broken_no _ _ _ (sym c.count.ensures ∙ c.in_err-count.was))
    (search rules)
