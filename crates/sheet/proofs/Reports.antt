-- What is put is the report, and how much of a long sheet decides it. Assumes nothing.
use Prim.Native.Nat.{ℕ, ◌<◌}
use mathlib.Core.Path.{◌≡◌, sym, ap, ◌∙◌}
use mathlib.Core.List.{List}
use native.Mathlib.Omega.{arith, min_cases}
use borrow.Author.Tests.{lt-ltb}
use lib.ListN.{length, take}
use Rattle.std.specs.Prelude.{⊤, Result}
use lib.Seq.{take_all, length-take-le}
use Rattle.place.specs.Place.{further}
use Rattle.text.specs.Put.{put_all, Puts}
use Rattle.circuit.specs.Circuit.{renumber}
use Rattle.circuit.specs.Resets.{renumber_before}
use Rattle.sheet_read.specs.declared.Faulty.{Faulty}
use Rattle.sheet_lines.specs.Lines.{refused_line}
use Rattle.sheet_read.specs.Sheet.{sheet_limit, code_count, whole, faulty, sheet_read, read_of}
use Rattle.sheet.specs.Circuit.{circuit_on}
use Rattle.sheet.specs.Report.{out_text, report_of}
use Rattle.sheet_lines.proofs.Texts.{put_same}
use Rattle.sheet_read.proofs.Sheets.{Got}
use Rattle.sheet.proofs.Circuits.{sheet_before}
use Rattle.sheet.proofs.Room.{report_fits}

-- a text that is the report, put from the start on
pub report_put : (s o : List ℕ) {bs o' : List ℕ} {r : ℕ} → Puts o 0 bs o' r → bs ≡ report_of s → (o' ≡ put_all o 0 (report_of s)) × (r ≡ length (report_of s))
report_put s o p e = let q = put_same o 0 p e in (q.0, q.1 ∙ short)
  where
    short : further 0 (length (report_of s)) ≡ length (report_of s)
    short = omega (arith, report_fits s)

pub whole_text : (s h cs : List ℕ) (r : Result ⊤ Faulty) → Got s h cs → r ≡ (read_of s).reading → r ≡ whole
    → out_text (circuit_on h (take (code_count h) cs)) (renumber (circuit_on h (take (code_count h) cs))) ≡ report_of s
unfolding report_of
whole_text s h cs r g e w = rw (sym e ∙ w, g.codes, g.header)

pub faulty_text : (s : List ℕ) (r : Result ⊤ Faulty) (n k m : ℕ) → r ≡ (read_of s).reading → r ≡ faulty n k → m ≡ n → refused_line m k ≡ report_of s
unfolding report_of
faulty_text s r n k m e f p = rw (sym e ∙ f, p)

-- a sheet that is whole is renumbered as it was before latches had resets
pub as_before : (s : List ℕ) → (read_of s).reading ≡ whole
    → report_of s ≡ out_text (circuit_on (read_of s).header (read_of s).codes) (renumber_before (circuit_on (read_of s).header (read_of s).codes))
unfolding report_of
as_before s w = rw w (ap (out_text (circuit_on (read_of s).header (read_of s).codes)) (sheet_before (read_of s).header (read_of s).codes))

-- a sheet that is too long, and how much of it shows that

pub too_long : (s : List ℕ) → sheet_limit < length s → report_of s ≡ refused_line 1 0
unfolding report_of read_of sheet_read
too_long s long = rw (lt-ltb sheet_limit (length s) long)

pub enough : (s : List ℕ) → report_of (take 60001 s) ≡ report_of s
enough s =
    min_cases (length s) 60001 _ (λ all _. ap report_of (take_all 60001 s all))
    (λ over _. let n : length (take 60001 s) ≡ 60001 = length-take-le 60001 s over in too_long (take 60001 s) (omega arith) ∙ sym (too_long s (omega arith)))
