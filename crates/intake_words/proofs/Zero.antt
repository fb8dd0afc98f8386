-- What C sees as 0 is a success: no refusal has the number 0, and fewer than fourteen answer words are told by 3. Assumes nothing.
use Prim.Native.Nat.{ℕ, ◌<◌, ◌≤◌}
use mathlib.Core.Path.{◌≡◌, refl, sym, ap, ◌∙◌}
use mathlib.Core.Logic.{◌↔◌}
use mathlib.Core.Bool.{Bool, cond}
use mathlib.Core.List.{List}
use native.Mathlib.Omega.{arith}
use lib.ListN.{length}
use Rattle.std.specs.Prelude.{Ok, Err}
use borrow.Author.Tests.{le-ltb}
use Rattle.token.specs.Format.{Bytes}
use Rattle.token.specs.Answer.{reason_number}
use Rattle.token.specs.declared.Reason.{Reason}
use Rattle.token.specs.declared.Reason.TheVariants as N
use Rattle.circuit.specs.declared.Refusal.{Refusal}
use Rattle.circuit.specs.declared.Refusal.TheVariants as R
use Rattle.circuit.specs.Refusals.{refusal_number}
use Rattle.lines.specs.declared.Fault as L
use Rattle.lines.specs.declared.Fault.TheVariants as F
use Rattle.lines.specs.Numbers as reading
use Rattle.ordered.specs.declared.given.Fault as G
use Rattle.ordered.specs.declared.given.Fault.TheVariants as W
use Rattle.ordered.specs.Check as writing
use Rattle.intake.specs.declared.OrderFault.TheVariants.{Unread, Unordered, Unstored}
use Rattle.intake.specs.Order.{Ordering, Ordered, answer_of, Lists, ordering}
use Rattle.intake.specs.Intake.{Orderable}
use Rattle.intake.proofs.Intake.{exactly_when}
use Rattle.intake_words.specs.Order.{order_number, as_order_seen, ordering_seen}

-- no refusal has the number 0
reason_some : (why : Reason) → 0 < reason_number why
reason_some N.NoDigit = omega arith
reason_some N.LeadingZero = omega arith
reason_some N.OverWidth = omega arith
reason_some N.OverLimit = omega arith
reason_some N.AssignsZero = omega arith
reason_some N.AssignsOdd = omega arith
reason_some N.Cut = omega arith
reason_some N.TooLong = omega arith
reason_some N.OverReference = omega arith
reason_some N.ZeroDelta = omega arith

file_some : (why : L.Fault) → 0 < reading.fault_number why
file_some (F.Number why) = reason_some why
file_some F.Missing = omega arith
file_some F.Above = omega arith
file_some F.Reset = omega arith
file_some F.TooMany = omega arith
file_some F.Short = omega arith

refusal_some : (why : Refusal) → 0 < refusal_number why
refusal_some R.TooBig = omega arith
refusal_some R.Misshapen = omega arith
refusal_some R.Short = omega arith
refusal_some (R.Over d) = omega arith
refusal_some (R.Reset d) = omega arith
refusal_some (R.Again d) = omega arith
refusal_some (R.StateAgain d) = omega arith
refusal_some (R.Undefined d) = omega arith
refusal_some (R.Cycle d) = omega arith

writing_some : (why : G.Fault) → 0 < writing.fault_number why
writing_some W.TooBig = omega arith
writing_some W.Misshapen = omega arith
writing_some (W.Over d) = omega arith
writing_some (W.Reset d) = omega arith
writing_some (W.Disordered d) = omega arith
writing_some W.Short = omega arith

-- so 0 is the number of a success alone
ordered_zero : (a : Ordering) → order_number a ≡ 0 → (used : ℕ) × (written : ℕ) × (answer_of a ≡ Ordered used written)
ordered_zero (Ok o) e = (o.read.used, o.written, refl)
ordered_zero (Err (Unread b)) e = absurd (omega (arith, file_some b.why))
ordered_zero (Err (Unordered why read)) e = absurd (omega (arith, refusal_some why))
ordered_zero (Err (Unstored u read made)) e = absurd (omega (arith, writing_some u.why))

-- and that of each
zero_ordered : (a : Ordering) (used written : ℕ) → answer_of a ≡ Ordered used written → order_number a ≡ 0
zero_ordered (Ok o) used written e = refl
zero_ordered (Err (Unread b)) used written e = absurd (let z : ◌≡◌ {A = ℕ} 0 1 = cc in omega arith)
zero_ordered (Err (Unordered why read)) used written e = absurd (let z : ◌≡◌ {A = ℕ} 0 1 = cc in omega arith)
zero_ordered (Err (Unstored u read made)) used written e = absurd (let z : ◌≡◌ {A = ℕ} 0 1 = cc in omega arith)

-- 0 is answered exactly where intake succeeds
pub zero_exactly : (bytes : List ℕ) (flags : ℕ) (l : Lists) (words : List ℕ) → Bytes bytes → 14 ≤ length words
    → ((ordering_seen bytes flags l words).number ≡ 0) ↔ Orderable bytes flags l
unfolding ordering_seen
zero_exactly bytes flags l words are room = (
  λ e. (exactly_when bytes flags l are).0 (ordered_zero (ordering bytes flags l).said (sym its ∙ e)),
  λ k. let s = (exactly_when bytes flags l are).1 k in its ∙ zero_ordered (ordering bytes flags l).said s.0 s.1 s.2,
)
  where
    its : (ordering_seen bytes flags l words).number ≡ order_number (ordering bytes flags l).said
    its =
        ap (λ (b : Bool). (cond b (record { number = 3; lists = l; words = words }) (as_order_seen (ordering bytes flags l) words)).number)
        (le-ltb (length words) 14 room)
