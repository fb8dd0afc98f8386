-- `ascii_lines::defined` meets its contract: what is held to the limit fits a word, and its digits stand within the bytes. Assumes nothing.
use mathlib.Core.Path.{sym}
use native.Mathlib.Omega.{arith}
use Rattle.lines.proofs.Answers.{number_held}
use Rattle.ascii_lines.proofs.Answers.{lit_counted}
use Rattle.ascii_lines.proofs.defined.Goals as goal

pub overflow_cast-result : goal.overflow_cast-result
overflow_cast-result c =
    omega (arith, number_held c.args.s.now c.args.limit c.args.at _ (lit_counted _ _ _ _ (sym c.in_ok-number.ensures)))

pub overflow_add-result : goal.overflow_add-result
overflow_add-result c =
    omega (arith, number_held c.args.s.now c.args.limit c.args.at _ (lit_counted _ _ _ _ (sym c.in_ok-number.ensures)))
