-- The theorems of the report's lines. What each rests on stands in the laws' files beside this one; each line and text as bytes, by example, in Pins.
-- Assumes nothing.
pub use Rattle.sheet_lines.proofs.Pins.{lines_pinned, success_pinned, refusals_pinned, put_pinned}
use Prim.Native.Nat.{ℕ, ◌+◌, ◌^◌, ◌<◌}
use mathlib.Core.Path.{◌≡◌, sym, ◌∙◌}
use mathlib.Core.List.{List, ◌++◌}
use lib.ListN.{length}
use Rattle.promise.specs.Determined.{DeterminesCells}
use Rattle.token.specs.Format.{digits_of}
use Rattle.token.specs.Answer.{value, uint_at}
use Rattle.sheet_lines.specs.Lines.{spaced, ended, refused_line, ordered_line}
use Rattle.sheet_lines.proofs.ReadBack as read_back
use Rattle.sheet_lines.proofs.put_refused.Kinds as put-refused-kinds
use Rattle.sheet_lines.proofs.put_refused.Reads as put-refused-contract
use Rattle.sheet_lines.proofs.print_ordered.Kinds as print-ordered-kinds
use Rattle.sheet_lines.proofs.print_ordered.Reads as print-ordered-contract
use Rattle.sheet_lines.proofs.print_refused.Kinds as print-refused-kinds
use Rattle.sheet_lines.proofs.print_refused.Reads as print-refused-contract

-- 1. Each contract determines the answer and every lent cell afterwards.

pub one_put_refused : DeterminesCells 1 put-refused-kinds.ps put-refused-kinds.r put-refused-contract.Learnt (λ κs e. e.0.now)
one_put_refused κs a x y e f p q = (p.1 ∙ sym q.1, p.0 ∙ sym q.0)

pub one_print_ordered : DeterminesCells 4 print-ordered-kinds.ps print-ordered-kinds.r print-ordered-contract.Learnt (λ κs e. e.1.1.1.1.1.0.now)
one_print_ordered κs a x y e f p q = (p.1 ∙ sym q.1, p.0 ∙ sym q.0)

pub one_print_refused : DeterminesCells 1 print-refused-kinds.ps print-refused-kinds.r print-refused-contract.Learnt (λ κs e. e.1.0.now)
one_print_refused κs a x y e f p q = (p.1 ∙ sym q.1, p.0 ∙ sym q.0)

-- 2. What is printed reads back: a number with its space or its newline after it, wherever it stands and whatever follows; so the numbers of a first line.

pub spaced_reads_back : (v : ℕ) → v < 2 ^ 64 → (before after : List ℕ)
    → uint_at (before ++ (spaced v ++ after)) (length before) ≡ value v (length (digits_of v))
spaced_reads_back = read_back.spaced_reads

pub ended_reads_back : (v : ℕ) → v < 2 ^ 64 → (before after : List ℕ)
    → uint_at (before ++ (ended v ++ after)) (length before) ≡ value v (length (digits_of v))
ended_reads_back = read_back.ended_reads

pub refused_reads_back : (n k : ℕ) → n < 2 ^ 64 → k < 2 ^ 64
    → (uint_at (refused_line n k) 8 ≡ value n (length (digits_of n))) × (uint_at (refused_line n k) (8 + length (spaced n)) ≡ value k (length (digits_of k)))
refused_reads_back = read_back.refused_reads

pub ordered_reads_back : (t i l g : ℕ) → t < 2 ^ 64 → i < 2 ^ 64 → l < 2 ^ 64 → g < 2 ^ 64 → (after : List ℕ)
    → (uint_at (ordered_line t i l g ++ after) 8 ≡ value t (length (digits_of t)))
    × (uint_at (ordered_line t i l g ++ after) (8 + length (spaced t)) ≡ value i (length (digits_of i)))
    × (uint_at (ordered_line t i l g ++ after) (8 + length (spaced t) + length (spaced i)) ≡ value l (length (digits_of l)))
    × (uint_at (ordered_line t i l g ++ after) (8 + length (spaced t) + length (spaced i) + length (spaced l)) ≡ value g (length (digits_of g)))
ordered_reads_back = read_back.ordered_reads
