-- `lines::sizes_into` meets its contract: a turn of the loop stores one size more and adds it (`Sizing`). Assumes nothing.
use mathlib.Core.Path.{sym, ◌∙◌}
use native.Mathlib.Omega.{arith}
use Rattle.std.proofs.Common.{rules}
use Rattle.lines.proofs.Answers.{broken_no}
use Rattle.lines.proofs.Loops.{sizing_broken}
use Rattle.lines.proofs.sizes_into.Goals as goal

pub returns-in_err-line : goal.returns-in_err-line
returns-in_err-line c =
    sizing_broken c.loop-i.invariant _ _ (omega arith) (broken_no _ _ _ (sym c.line.ensures ∙ c.in_err-line.was)) (search rules)
