-- The theorems of the report. What each rests on stands in the laws' files beside this one. Document 01's sheet and its text, sheets with every list under each
-- setting of the flags and with roots of every kind, those refused by each number, all as bytes, and the circuit on a sheet, field by field, stand in Pins.
-- Assumes nothing.
pub use Rattle.sheet.proofs.Pins.{told, settings_pinned, kinds_pinned, pinned, refusals_pinned, longest_pinned, circuit_pinned, shapes_pinned, shapes_taken, rooms_pinned, words_pinned, ends_pinned}
use Prim.Native.Nat.{ℕ, ◌≤◌, ◌<◌}
use mathlib.Core.Path.{◌≡◌, sym, ◌∙◌}
use mathlib.Core.List.{List}
use native.Mathlib.Omega.{arith}
use lib.ListN.{length, take}
use Rattle.promise.specs.Determined.{DeterminesCells}
use Rattle.text.specs.Put.{put_all}
use Rattle.text.proofs.Theorems.{front_is_text}
use Rattle.circuit.specs.Circuit.{renumber}
use Rattle.circuit.specs.Outcome.{lent_of, conclusion, zeros}
use Rattle.circuit.specs.Resets.{renumber_before}
use Rattle.circuit.proofs.Outcome.{conclusion_of}
use Rattle.sheet_lines.specs.Lines.{refused_line}
use Rattle.sheet_read.specs.Sheet.{sheet_limit, read_of, whole as read_whole}
use Rattle.sheet.specs.Circuit.{record_on, circuit_on}
use Rattle.sheet.specs.Report.{out_text, report_of, Ends}
use Rattle.sheet.specs.Promise.{Shaped, Roomy, circuit_in}
use Rattle.sheet.proofs.Answers as answers
use Rattle.sheet.proofs.Room as room
use Rattle.sheet.proofs.Newlines as newlines
use Rattle.sheet.proofs.Reports as reports
use Rattle.sheet.proofs.report.Kinds as report-kinds
use Rattle.sheet.proofs.report.Reads as report-contract

-- 1. Each contract determines the answer and every lent cell afterwards.

pub one_report : DeterminesCells 2 report-kinds.ps report-kinds.r report-contract.Learnt (λ κs e. e.1.0.now)
one_report κs a x y e f p q = (p.1 ∙ sym q.1, p.0 ∙ sym q.0)

-- 2. Whatever the length of a sheet: one byte over 60,000 is enough to know that it is too long, so no more need be read.

pub too_long : (s : List ℕ) → sheet_limit < length s → report_of s ≡ refused_line 1 0
too_long = reports.too_long

pub enough : (s : List ℕ) → report_of (take 60001 s) ≡ report_of s
enough = reports.enough

-- every report has room in 131,072 bytes
pub fits : (s : List ℕ) → length (report_of s) ≤ 131072
fits = room.report_fits

-- so of as many lent bytes the first, as many as the report has, are the report: nothing is cut
pub whole : (s out : List ℕ) → 131072 ≤ length out → take (length (report_of s)) (put_all out 0 (report_of s)) ≡ report_of s
whole s out room = front_is_text out (report_of s) (omega (arith, fits s))

-- 3. Every report ends with a newline.

pub ends : (s : List ℕ) → Ends (report_of s)
ends = newlines.report_ends

-- 4. The library's order: what a sheet announces, every reset 0, passes checks 1 to 3, with whatever of room for the largest sheet is lent, so the first that
-- can refuse is check 4.

pub library_order : (h is ss ns gs rs m n z r g w : List ℕ) → Shaped h is ss ns gs rs → Roomy m n z r g w
    → conclusion (lent_of (record_on h) is ss ns (zeros (length ss)) gs rs m n z r g w) ≡ renumber (circuit_in h is ss ns gs rs)
library_order h is ss ns gs rs m n z r g w shaped roomy =
    conclusion_of (lent_of (record_on h) is ss ns (zeros (length ss)) gs rs m n z r g w) (answers.fits h is ss ns gs rs m n z r g w shaped roomy)

-- 5. A sheet has no resets, and the report on it is what it was before latches had them.

pub as_before : (s : List ℕ) → (read_of s).reading ≡ read_whole
    → report_of s ≡ out_text (circuit_on (read_of s).header (read_of s).codes) (renumber_before (circuit_on (read_of s).header (read_of s).codes))
as_before = reports.as_before
