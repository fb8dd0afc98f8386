-- What the program writes, as far as a theorem can say it: of the calls that read and write no contract tells the bytes. Assumes nothing.
use mathlib.Core.Path.{◌≡◌, ap, ◌∙◌}
use mathlib.Core.List.{List}
use Prim.Native.Nat.{ℕ}
use lib.ListN.{length, take}
use contract.Lifetimes.{Lfts}
use borrow.Fn.Kinds.{Dens}
use Rattle.promise.specs.Determined.{Left}
use Rattle.sheet.specs.Report.{report_of}
use Rattle.sheet.proofs.Theorems.{enough}
use Rattle.report.proofs.answer.Kinds as answer-kinds
use Rattle.report.proofs.answer.Reads as answer-contract

-- Of `answer`, which is handed the room, the count n of bytes read and the lent bytes, and answers r: where the first n bytes of the room are the input's, all
-- of them or its first 60,001, the first r of the lent bytes, which are written, are the report on the whole input, and r is its length.
pub whole_input :
    (κs : Lfts 2) (a : Dens κs answer-kinds.ps) (r : ℕ) (e : Left 2 answer-kinds.ps answer-kinds.r κs) (input : List ℕ)
    → take a.1.0 a.0.now ≡ take 60001 input → answer-contract.Learnt κs a r e
    → (take r e.1.1.0.now ≡ report_of input) × (r ≡ length (report_of input))
whole_input κs a r e input read says =
    let written : take r e.1.1.0.now ≡ report_of input = says.0 ∙ ap report_of read ∙ enough input in
    (written, says.1.1 ∙ ap length written)
