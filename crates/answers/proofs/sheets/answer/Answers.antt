-- Every report has the room that it is given, so what is written lies within it.
use Rattle.std.proofs.Common.{ℕ, ◌≡◌, ◌≤◌, List, length, sym, arith}
use Rattle.std.proofs.lemmas.List.{length-take-le}
use Rattle.sheet.specs.Report.{report_of}
use Rattle.sheet.proofs.Theorems.{fits}
use Rattle.answers.proofs.sheets.answer.Goals as goal

-- a report's length, in a room for every report
within : (s out : List ℕ) (n : ℕ) → n ≡ length (report_of s) → 131072 ≡ length out → n ≤ length out
within s out n is room = omega (arith, is, fits s, room)

pub slice_bounds-out-end : goal.slice_bounds-out-end
slice_bounds-out-end c =
    within _ _ _ c.report-length.ensures.1 (omega (arith, c.report-length.auto.out, c.report_room-out.ensures))

pub slice_bounds-text-end : goal.slice_bounds-text-end
slice_bounds-text-end c =
    sym (length-take-le _ _ (within _ _ _ c.report-length.ensures.1 (omega (arith, c.report-length.auto.out, c.report_room-out.ensures))))
