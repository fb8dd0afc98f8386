-- The theorems of what is read: any two outcomes that a contract of this crate allows for the same arguments are equal, the answer and each lent word; and
-- what is refused of a reset and what is taken. What each rests on stands in the other files. Assumes nothing.
use Prim.Native.Nat.{ℕ}
use mathlib.Core.Path.{◌≡◌, sym, ap, ◌∙◌}
use mathlib.Core.Logic.{◌↔◌}
use mathlib.Core.List.{List}
use Rattle.std.specs.Prelude.{None}
use Rattle.promise.specs.Determined.{Determines, DeterminesCells}
use Rattle.circuit.specs.Circuit.{first_stray}
use Rattle.circuit.specs.Ordered.{count_from}
use Rattle.lines.specs.declared.Fault.TheVariants.{Reset}
use Rattle.lines.specs.Reading.{got, no}
use Rattle.lines.specs.Lines.{LatchLine, resets_of, latch_at, latches_at}
use Rattle.lines.specs.Sections.{Roots, roots_of}
use Rattle.lines.specs.Promise.{LatchLists, latch_lists, LatchesLeft, Left}
use Rattle.lines.specs.Stray.{Stray}
use Rattle.lines.proofs.Resets.{stray_exactly, latches_no_stray}
use Rattle.lines.proofs.BrokenFromTokenRefused.from.Kinds as broken-kinds
use Rattle.lines.proofs.BrokenFromTokenRefused.from.Reads as broken-contract
use Rattle.lines.proofs.U32FromFault.from.Kinds as number-kinds
use Rattle.lines.proofs.U32FromFault.from.Reads as number-contract
use Rattle.lines.proofs.byte.Kinds as byte-kinds
use Rattle.lines.proofs.byte.Reads as byte-contract
use Rattle.lines.proofs.latch.Kinds as latch-kinds
use Rattle.lines.proofs.latch.Reads as latch-contract
use Rattle.lines.proofs.latches.Kinds as latches-kinds
use Rattle.lines.proofs.latches.Reads as latches-contract
use Rattle.lines.proofs.count.Kinds as count-kinds
use Rattle.lines.proofs.count.Reads as count-contract
use Rattle.lines.proofs.read_header.Kinds as header-kinds
use Rattle.lines.proofs.read_header.Reads as header-contract
use Rattle.lines.proofs.first_roots.Kinds as first-kinds
use Rattle.lines.proofs.first_roots.Reads as first-contract
use Rattle.lines.proofs.roots.Kinds as roots-kinds
use Rattle.lines.proofs.roots.Reads as roots-contract

-- 1. Each contract determines its answer and every lent word.

pub one_fault_number : Determines 0 number-kinds.ps number-kinds.r number-contract.Learnt
one_fault_number κs a x y e f p q = p ∙ sym q

pub one_broken : Determines 0 broken-kinds.ps broken-kinds.r broken-contract.Learnt
one_broken κs a x y e f p q = p ∙ sym q

pub one_byte : Determines 1 byte-kinds.ps byte-kinds.r byte-contract.Learnt
one_byte κs a x y e f p q = p ∙ sym q

pub one_latch : Determines 1 latch-kinds.ps latch-kinds.r latch-contract.Learnt
one_latch κs a x y e f p q = p ∙ sym q

pub one_latches : DeterminesCells 3 latches-kinds.ps latches-kinds.r latches-contract.Learnt {A = LatchLists}
    (λ κs e. latch_lists e.1.1.1.1.1.0.now e.1.1.1.1.1.1.0.now)
one_latches κs a x y e f p q = (ap (λ (o : LatchesLeft). o.answer) (p ∙ sym q), ap (λ (o : LatchesLeft). o.lists) (p ∙ sym q))

pub one_count : Determines 1 count-kinds.ps count-kinds.r count-contract.Learnt
one_count κs a x y e f p q = p ∙ sym q

pub one_read_header : Determines 1 header-kinds.ps header-kinds.r header-contract.Learnt
one_read_header κs a x y e f p q = p ∙ sym q

pub one_first_roots : Determines 0 first-kinds.ps first-kinds.r first-contract.Learnt
one_first_roots κs a x y e f p q = p.0 ∙ sym q.0

pub one_roots : DeterminesCells 3 roots-kinds.ps roots-kinds.r roots-contract.Learnt {A = Roots}
    (λ κs e. roots_of e.1.1.1.1.0.now e.1.1.1.1.1.0.now)
one_roots κs a x y e f p q = (ap (λ (o : Left). o.answer) (p ∙ sym q), ap (λ (o : Left). o.lists) (p ∙ sym q))

-- 2. A latch's line is refused by 22 exactly where its reset is a number within the limit that is not 0, 1 or the latch's own literal, at that number.

pub reset_refused_exactly : (s : List ℕ) (most own at place : ℕ) → (latch_at s most own at ≡ no Reset place) ↔ Stray s most own at place
reset_refused_exactly = stray_exactly

-- 3. Resets that are read pass check 22: there is no stray among them.

pub resets_read_pass : (s : List ℕ) (most first n at : ℕ) (ls : List LatchLine) (end : ℕ) → latches_at s most first n at ≡ got ls end
    → first_stray (count_from first n) (resets_of ls) ≡ None
resets_read_pass = latches_no_stray
