-- The theorems of the text form's lines: any two outcomes that a contract of this crate allows for the same arguments are equal, the answer and each lent
-- word. What is read is told in Spelled.antt and Known.antt, and the examples stand in Pins.antt. Assumes nothing.
use Prim.Native.Nat.{ℕ}
use mathlib.Core.Path.{sym, ap, ◌∙◌}
use mathlib.Core.List.{List}
use Rattle.promise.specs.Determined.{DeterminesCells}
use Rattle.ascii_lines.specs.Promise.{SectionLeft, LatchLists, latch_lists}
use Rattle.ascii_lines.proofs.inputs.Kinds as inputs-kinds
use Rattle.ascii_lines.proofs.inputs.Reads as inputs-contract
use Rattle.ascii_lines.proofs.latches.Kinds as latches-kinds
use Rattle.ascii_lines.proofs.latches.Reads as latches-contract
use Rattle.ascii_lines.proofs.gates.Kinds as gates-kinds
use Rattle.ascii_lines.proofs.gates.Reads as gates-contract

pub one_inputs : DeterminesCells 2 inputs-kinds.ps inputs-kinds.r inputs-contract.Learnt (λ κs e. e.1.1.1.1.0.now)
one_inputs κs a x y e f p q =
    (ap (λ (o : SectionLeft (List ℕ)). o.answer) (p ∙ sym q), ap (λ (o : SectionLeft (List ℕ)). o.lists) (p ∙ sym q))

pub one_latches : DeterminesCells 4 latches-kinds.ps latches-kinds.r latches-contract.Learnt {A = LatchLists}
    (λ κs e. latch_lists e.1.1.1.1.0.now e.1.1.1.1.1.0.now e.1.1.1.1.1.1.0.now)
one_latches κs a x y e f p q =
    (ap (λ (o : SectionLeft LatchLists). o.answer) (p ∙ sym q), ap (λ (o : SectionLeft LatchLists). o.lists) (p ∙ sym q))

pub one_gates : DeterminesCells 2 gates-kinds.ps gates-kinds.r gates-contract.Learnt (λ κs e. e.1.1.1.1.0.now)
one_gates κs a x y e f p q =
    (ap (λ (o : SectionLeft (List ℕ)). o.answer) (p ∙ sym q), ap (λ (o : SectionLeft (List ℕ)). o.lists) (p ∙ sym q))
