-- The report fits, so all of it stands at the front of the lent bytes.
use Rattle.std.proofs.Common.{ℕ, ◌≡◌, List, length, take, ap, sym, ◌∙◌, arith}
use Rattle.sheet.specs.Report.{report_of}
use Rattle.sheet.proofs.Theorems.{fits, whole}
use Rattle.report.proofs.answer.Goals as goal

pub returns : goal.returns
returns c =
    let read : List ℕ = take c.args.n c.args.sheet.now in
    let front = ap (take (length (report_of read))) c.report.ensures.0 ∙ whole read c.args.out.now c.requires.1 in
    let begins : take c.report.result c.report.new.out ≡ report_of read = ap (λ (k : ℕ). take k c.report.new.out) c.report.ensures.1 ∙ front in
    record {
      out_after = begins;
      prefix_len = (omega (arith, c.report.auto.out, fits read, c.requires.1, c.report.ensures.1), c.report.ensures.1 ∙ sym (ap length begins));
    }
