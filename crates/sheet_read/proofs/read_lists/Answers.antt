-- `sheet_read::read_lists` meets its contract: each return is a test of the definition; the codes go to the front of the lent list. Assumes nothing.
use native.Mathlib.Omega.{arith}
use mathlib.Core.Path.{refl, sym, ◌∙◌}
use lib.Seq.{length-take-le}
use Rattle.std.proofs.lemmas.Result.{err_from_is_err_and}
use Rattle.sheet_read.specs.Promise.{Taken}
use Rattle.sheet_read.proofs.Headers.{codes_few}
use Rattle.sheet_read.proofs.Sheets.{lists_large, lists_flagged, lists_more, lists_whole, lists_broken}
use Rattle.sheet_read.proofs.read_lists.Goals as goal

pub returns-then-too_large : goal.returns-then-too_large
returns-then-too_large c =
    let a = c.args in
    lists_large a.sheet.now a.header.now a.codes.now a.at (sym c.too_large.ensures ∙ c.if-too_large.true)

pub returns-then-header-gt7 : goal.returns-then-header-gt7
returns-then-header-gt7 c =
    let a = c.args in
    lists_flagged a.sheet.now a.header.now a.codes.now a.at (sym c.too_large.ensures ∙ c.if-too_large.false) c.if-header-gt7.true

pub code_count-count-requires : goal.code_count-count-requires
code_count-count-requires c =
    record { ten = c.requires.0; within = sym c.too_large.ensures ∙ c.if-too_large.false }

pub slice_bounds-numbers-end : goal.slice_bounds-numbers-end
slice_bounds-numbers-end c =
    let t : Taken c.args.header.now = record { ten = c.requires.0; within = sym c.too_large.ensures ∙ c.if-too_large.false } in
    omega (arith, c.code_count-count.ensures, c.requires.1, codes_few t)

pub slice_bounds-numbers-end-2 : goal.slice_bounds-numbers-end-2
slice_bounds-numbers-end-2 c =
    let t : Taken c.args.header.now = record { ten = c.requires.0; within = sym c.too_large.ensures ∙ c.if-too_large.false } in
    sym (length-take-le c.code_count-count.result c.args.codes.now
    (omega (arith, c.code_count-count.ensures, c.requires.1, codes_few t)))

pub returns-in_err-place : goal.returns-in_err-place
returns-in_err-place c =
    let a = c.args in
    let t : Taken a.header.now = record { ten = c.requires.0; within = sym c.too_large.ensures ∙ c.if-too_large.false } in
    let p = err_from_is_err_and c.from_residual.result c.from_residual.ensures.1 in
    rw (p.1, p.2)
    (lists_broken a.sheet.now a.header.now a.codes.now a.at t.within c.if-header-gt7.false c.code_count-count.result c.code_count-count.ensures
    (omega (arith, c.code_count-count.ensures, c.requires.1, codes_few t)) _ _ _ c.numbers.ensures refl _ c.in_err-place.was)

pub returns-then-place-sheet : goal.returns-then-place-sheet
returns-then-place-sheet c =
    let a = c.args in
    let t : Taken a.header.now = record { ten = c.requires.0; within = sym c.too_large.ensures ∙ c.if-too_large.false } in
    lists_more a.sheet.now a.header.now a.codes.now a.at t.within c.if-header-gt7.false c.code_count-count.result c.code_count-count.ensures
    (omega (arith, c.code_count-count.ensures, c.requires.1, codes_few t)) _ _ _ c.numbers.ensures refl _ c.in_ok-place.was c.if-place-sheet.true

pub returns : goal.returns
returns c =
    let a = c.args in
    let t : Taken a.header.now = record { ten = c.requires.0; within = sym c.too_large.ensures ∙ c.if-too_large.false } in
    lists_whole a.sheet.now a.header.now a.codes.now a.at t.within c.if-header-gt7.false c.code_count-count.result c.code_count-count.ensures
    (omega (arith, c.code_count-count.ensures, c.requires.1, codes_few t)) _ _ _ c.numbers.ensures refl _ c.in_ok-place.was c.if-place-sheet.false
