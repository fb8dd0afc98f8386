-- `sheet_read::read` meets its contract: each return is a test of the definition, or what `read_lists` promises of the rest. Assumes nothing.
use borrow.Author.Rules.{rules}
use Rattle.std.proofs.lemmas.Result.{err_from_is_err_and}
use Rattle.sheet_read.proofs.Sheets.{sheet_long, sheet_broken, sheet_lists}
use Rattle.sheet_read.proofs.read.Goals as goal

pub returns-then-sheet-gt-SHEET_LIMIT : goal.returns-then-sheet-gt-SHEET_LIMIT
returns-then-sheet-gt-SHEET_LIMIT c =
    let a = c.args in
    sheet_long a.sheet.now a.header.now a.codes.now c.if-sheet-gt-SHEET_LIMIT.true

pub returns-in_err-place : goal.returns-in_err-place
returns-in_err-place c =
    let a = c.args in
    let p = err_from_is_err_and c.from_residual.result c.from_residual.ensures.1 in
    rw (p.1, p.2)
    (sheet_broken a.sheet.now a.header.now a.codes.now c.if-sheet-gt-SHEET_LIMIT.false (search rules) _ _ c.numbers.ensures _ c.in_err-place.was)

pub returns : goal.returns
returns c =
    let a = c.args in
    sheet_lists a.sheet.now a.header.now a.codes.now c.if-sheet-gt-SHEET_LIMIT.false (search rules) _ _ c.numbers.ensures _ _ _
    c.in_ok-place.was c.read_lists.ensures
