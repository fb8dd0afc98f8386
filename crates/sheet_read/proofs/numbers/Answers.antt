-- `sheet_read::numbers` meets its contract: a turn of the loop reads one number more, so that the whole run is those read and the run from the place
-- reached (`Filling`). Assumes nothing.
use Rattle.std.proofs.Common.{rules}
use native.Mathlib.Omega.{arith}
use Rattle.std.proofs.lemmas.List.{set-get_or}
use Rattle.std.proofs.lemmas.Result.{err_from_is_err_and}
use Rattle.token.proofs.Theorems.{binary_uses}
use Rattle.sheet_read.proofs.Runs.{filling_more, filling_broken, filling_all}
use Rattle.sheet_read.proofs.numbers.Goals as goal

pub returns-in_err-number : goal.returns-in_err-number
returns-in_err-number c =
    let f = filling_broken c.loop-cell.invariant _ (omega arith) (search rules) in
    let p = err_from_is_err_and c.from_residual.result c.from_residual.ensures.1 in
    rw (p.1, p.2, set-get_or) f

pub overflow_add-place : goal.overflow_add-place
overflow_add-place c =
    omega (
      arith,
      binary_uses c.args.s.now c.loop-cell.place c.in_ok-number.number.value c.in_ok-number.number.used (search rules),
    )

pub loop-cell-preserved : goal.loop-cell-preserved
loop-cell-preserved c =
    filling_more c.loop-cell.invariant _ (omega arith) (search rules)

pub returns : goal.returns
returns c = filling_all c.loop-cell.invariant (omega arith)
