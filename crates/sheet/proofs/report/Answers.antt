-- `sheet::report` meets its contract: a faulty sheet is refused as it was read, a whole one has the text of its circuit, and every report has a place
-- after it. Assumes nothing.
use mathlib.Core.Path.{refl, sym}
use Prim.Native.Nat.{ℕ}
use lib.ListN.{replicate}
use Rattle.sheet_read.proofs.Sheets.{sheet_got}
use Rattle.sheet.proofs.Reports.{report_put, whole_text, faulty_text}
use Rattle.sheet.proofs.report.Goals as goal

pub slice_bounds-report_codes-end : goal.slice_bounds-report_codes-end
slice_bounds-report_codes-end c =
    let read_header = c.read.new.header in
    let read_codes = c.read.new.codes in
    sym (sheet_got c.args.sheet.now (replicate {A = ℕ} 10 0) (read_header) c.filled-codes.result (read_codes) c.read.result refl
    c.filled-codes.ensures.long c.read.ensures c.in-Ok.is).taken.ten

pub slice_bounds-report_codes-end-in-Ok : goal.slice_bounds-report_codes-end-in-Ok
slice_bounds-report_codes-end-in-Ok c =
    let read_header = c.read.new.header in
    let read_codes = c.read.new.codes in
    sym (sheet_got c.args.sheet.now (replicate {A = ℕ} 10 0) (read_header) c.filled-codes.result (read_codes) c.read.result refl
    c.filled-codes.ensures.long c.read.ensures c.in-Ok.is).room

pub report_codes-requires : goal.report_codes-requires
report_codes-requires c =
    let read_header = c.read.new.header in
    let read_codes = c.read.new.codes in
    let a = c.args in (
      (sheet_got a.sheet.now (replicate {A = ℕ} 10 0) (read_header) c.filled-codes.result (read_codes) c.read.result refl
          c.filled-codes.ensures.long c.read.ensures c.in-Ok.is).taken,
      (sheet_got a.sheet.now (replicate {A = ℕ} 10 0) (read_header) c.filled-codes.result (read_codes) c.read.result refl
          c.filled-codes.ensures.long c.read.ensures c.in-Ok.is).room,
    )

pub returns-in-Ok : goal.returns-in-Ok
returns-in-Ok c =
    let read_header = c.read.new.header in
    let read_codes = c.read.new.codes in
    let a = c.args in
    report_put a.sheet.now _ c.report_codes.ensures
    (whole_text a.sheet.now _ _ c.read.result
    (sheet_got a.sheet.now (replicate {A = ℕ} 10 0) (read_header) c.filled-codes.result (read_codes) c.read.result refl
    c.filled-codes.ensures.long c.read.ensures c.in-Ok.is) c.read.ensures.0
    c.in-Ok.is)

pub returns-in-Err : goal.returns-in-Err
returns-in-Err c =
    let a = c.args in
    report_put a.sheet.now _ c.put_refused.ensures
    (faulty_text a.sheet.now c.read.result _ _ _ c.read.ensures.0 c.in-Err.is refl)
