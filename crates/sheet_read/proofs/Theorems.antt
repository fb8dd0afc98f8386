-- The theorems of reading a sheet: each contract determines the answer and every lent cell afterwards. Readings by example stand in Pins. Assumes nothing.
pub use Rattle.sheet_read.proofs.Pins.{numbers_pinned, header_pinned, announced_pinned, readings_pinned, sizes_pinned, longest_pinned, words_pinned, headers_pinned}
use Prim.Native.Nat.{ℕ}
use mathlib.Core.Path.{sym, ap, ◌∙◌}
use mathlib.Core.List.{List}
use Rattle.promise.specs.Determined.{Determines, DeterminesCells}
use Rattle.sheet_read.proofs.FaultyFromRefused.from.Kinds as faulty-kinds
use Rattle.sheet_read.proofs.FaultyFromRefused.from.Reads as faulty-contract
use Rattle.sheet_read.proofs.first_over.Kinds as first-over-kinds
use Rattle.sheet_read.proofs.first_over.Reads as first-over-contract
use Rattle.sheet_read.proofs.announced.Kinds as announced-kinds
use Rattle.sheet_read.proofs.announced.Reads as announced-contract
use Rattle.sheet_read.proofs.numbers.Kinds as numbers-kinds
use Rattle.sheet_read.proofs.numbers.Reads as numbers-contract
use Rattle.sheet_read.proofs.read.Kinds as read-kinds
use Rattle.sheet_read.proofs.read.Reads as read-contract

pub one_faulty : Determines 0 faulty-kinds.ps faulty-kinds.r faulty-contract.Learnt
one_faulty κs a x y e f p q = p ∙ sym q

pub one_first_over : Determines 1 first-over-kinds.ps first-over-kinds.r first-over-contract.Learnt
one_first_over κs a x y e f p q = p ∙ sym q

pub one_announced : Determines 1 announced-kinds.ps announced-kinds.r announced-contract.Learnt
one_announced κs a x y e f p q = p ∙ sym q

pub one_numbers : DeterminesCells 2 numbers-kinds.ps numbers-kinds.r numbers-contract.Learnt (λ κs e. e.1.1.0.now)
one_numbers κs a x y e f p q = (p.0 ∙ sym q.0, p.1 ∙ sym q.1)

pub one_read : DeterminesCells 3 read-kinds.ps read-kinds.r read-contract.Learnt {A = List ℕ × List ℕ} (λ κs e. (e.1.0.now, e.1.1.0.now))
one_read κs a x y e f p q = (
  p.0 ∙ sym q.0,
  ap (λ (h : List ℕ). (h, e.1.1.0.now)) (p.1 ∙ sym q.1) ∙ ap (λ (cs : List ℕ). (f.1.0.now, cs)) (p.2 ∙ sym q.2),
)
