-- The theorems of the sections as they are written. What each rests on stands in Spelled.antt and Ours.antt; the examples stand in Pins.antt. Assumes
-- nothing.
use Prim.Native.Nat.{ℕ, ◌^◌, ◌≤◌, ◌<◌}
use mathlib.Core.Path.{◌≡◌, sym, ◌∙◌}
use mathlib.Core.Logic.{◌↔◌}
use Rattle.std.specs.Prelude.{None}
use mathlib.Core.List.{List, ◌++◌}
use lib.ListN.{length}
use Rattle.promise.specs.Determined.{Determines, DeterminesCells}
use Rattle.circuit.specs.Circuit.{first_stray}
use Rattle.circuit.specs.Ordered.{count_from}
use Rattle.circuit.specs.Outcome.{limit, total}
use Rattle.circuit.specs.Claims.{AllWithin}
use Rattle.lines.specs.declared.Header.{Header}
use Rattle.lines.specs.Limits.{Within}
use Rattle.lines.specs.Lines.{LatchLine, nexts_of, resets_of}
use Rattle.lines.specs.Sections.{Roots, root_count}
use Rattle.lines.specs.Spelling.{Lines, Latches, HeaderCounts, Rooting}
use Rattle.sections.specs.Bytes.{lines_bytes, latches_bytes, up_to_last, after_tag, roots_bytes}
use Rattle.sections.specs.Claims.{Fit, Least, latch_lines_of, ResetsNeeded, spelled_options}
use Rattle.sections.proofs.Spelled as spelled
use Rattle.sections.proofs.Ours as ours
use Rattle.sections.proofs.put_line.Kinds as line-kinds
use Rattle.sections.proofs.put_line.Reads as line-contract
use Rattle.sections.proofs.put_lines.Kinds as lines-kinds
use Rattle.sections.proofs.put_lines.Reads as lines-contract
use Rattle.sections.proofs.put_count.Kinds as count-kinds
use Rattle.sections.proofs.put_count.Reads as count-contract
use Rattle.sections.proofs.put_latch.Kinds as latch-kinds
use Rattle.sections.proofs.put_latch.Reads as latch-contract
use Rattle.sections.proofs.put_latches.Kinds as latches-kinds
use Rattle.sections.proofs.put_latches.Reads as latches-contract
use Rattle.sections.proofs.put_header.Kinds as header-kinds
use Rattle.sections.proofs.put_header.Reads as header-contract
use Rattle.sections.proofs.smaller.Kinds as smaller-kinds
use Rattle.sections.proofs.smaller.Reads as smaller-contract
use Rattle.sections.proofs.put_roots.Kinds as roots-kinds
use Rattle.sections.proofs.put_roots.Reads as roots-contract

-- 1. Each contract determines the place answered and every lent byte afterwards.

pub one_put_line : DeterminesCells 1 line-kinds.ps line-kinds.r line-contract.Learnt (λ κs e. e.0.now)
one_put_line κs a x y e f p q = (p.1 ∙ sym q.1, p.0 ∙ sym q.0)

pub one_put_lines : DeterminesCells 2 lines-kinds.ps lines-kinds.r lines-contract.Learnt (λ κs e. e.0.now)
one_put_lines κs a x y e f p q = (p.1 ∙ sym q.1, p.0 ∙ sym q.0)

pub one_put_count : DeterminesCells 1 count-kinds.ps count-kinds.r count-contract.Learnt (λ κs e. e.0.now)
one_put_count κs a x y e f p q = (p.1 ∙ sym q.1, p.0 ∙ sym q.0)

pub one_put_latch : DeterminesCells 1 latch-kinds.ps latch-kinds.r latch-contract.Learnt (λ κs e. e.0.now)
one_put_latch κs a x y e f p q = (p.1 ∙ sym q.1, p.0 ∙ sym q.0)

pub one_put_latches : DeterminesCells 3 latches-kinds.ps latches-kinds.r latches-contract.Learnt (λ κs e. e.0.now)
one_put_latches κs a x y e f p q = (p.1 ∙ sym q.1, p.0 ∙ sym q.0)

pub one_put_header : DeterminesCells 2 header-kinds.ps header-kinds.r header-contract.Learnt (λ κs e. e.0.now)
one_put_header κs a x y e f p q = (p.1 ∙ sym q.1, p.0 ∙ sym q.0)

pub one_put_roots : DeterminesCells 3 roots-kinds.ps roots-kinds.r roots-contract.Learnt (λ κs e. e.0.now)
one_put_roots κs a x y e f p q = (p.1 ∙ sym q.1, p.0 ∙ sym q.0)

pub one_smaller : Determines 0 smaller-kinds.ps smaller-kinds.r smaller-contract.Learnt
one_smaller κs a x y e f p q = p ∙ sym q

-- 2. What is written spells what it is of, as the format says it forwards: lines, latch lines, the header after its tag, the root section.

pub lines_spelled : (most : ℕ) (vs : List ℕ) → AllWithin most vs → Fit vs → Lines most (length vs) vs (lines_bytes vs)
lines_spelled = spelled.lines_spelled

pub latches_spelled : (most first : ℕ) (nexts resets : List ℕ) → length resets ≡ length nexts → AllWithin most nexts → AllWithin most resets → most < 2 ^ 64
    → first_stray (count_from first (length nexts)) resets ≡ None
    → Latches most first (length nexts) (latch_lines_of nexts resets) (latches_bytes nexts resets)
latches_spelled = spelled.lists_spelled

pub header_spelled : (h : Header) → Within h → HeaderCounts h (after_tag h)
header_spelled = spelled.header_spelled

pub roots_spelled : (h : Header) (most room : ℕ) (r : Roots) → length r.sizes ≡ h.justice
    → length r.roots ≡ root_count h (total r.sizes) → root_count h (total r.sizes) ≤ limit → root_count h (total r.sizes) ≤ room
    → most < 2 ^ 64 → AllWithin most r.roots → Rooting h most room r (roots_bytes h r)
roots_spelled = spelled.roots_spelled

-- 3. What spells the same is what is written. Lines and the root section have one spelling.

pub lines_only : (most n : ℕ) (vs w : List ℕ) → Lines most n vs w → w ≡ lines_bytes vs
lines_only = ours.lines_only

pub roots_only : (h : Header) (most room : ℕ) (r : Roots) (w : List ℕ) → Rooting h most room r w → w ≡ roots_bytes h r
roots_only = ours.roots_only

-- latch lines are ours exactly where a reset field is there only when the reset is not 0; no others are shorter, and others as long are ours
pub latches_exactly : (most first n : ℕ) (ls : List LatchLine) (w : List ℕ) (t : Latches most first n ls w)
    → (w ≡ latches_bytes (nexts_of ls) (resets_of ls)) ↔ ResetsNeeded most first ls 0 w t.1
latches_exactly = ours.latches_exactly

pub latches_least : (most first n : ℕ) (ls : List LatchLine) (w : List ℕ) → Latches most first n ls w → Least (latches_bytes (nexts_of ls) (resets_of ls)) w
latches_least = ours.latches_least

-- a header is ours exactly where it spells no optional count past the last that is not zero; and so on
pub header_exactly : (h : Header) (w : List ℕ) (t : HeaderCounts h w) → (w ≡ after_tag h) ↔ (up_to_last (spelled_options h w t) ≡ spelled_options h w t)
header_exactly = ours.header_exactly

pub header_least : (h : Header) (w : List ℕ) → HeaderCounts h w → Least (after_tag h) w
header_least = ours.header_least

-- parts in a row are the least where each is
pub least_in_a_row : {a b x y : List ℕ} → Least a x → Least b y → Least (a ++ b) (x ++ y)
least_in_a_row = ours.least_both
