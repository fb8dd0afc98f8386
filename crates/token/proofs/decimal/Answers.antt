-- `decimal` meets its contract. The invariant: n digits are passed, and write v, which fits 64 bits. A place with no digit ends the run. Digits only
-- make a number larger, so one that no longer fits is refused at once. Assumes nothing.
use mathlib.Core.Path.{ap, ◌∙◌}
use Prim.Native.Nat.{ℕ, ◌-◌}
use native.Mathlib.Omega.{arith}
use Rattle.token.proofs.Rest.{rest_there, rest_byte, rest_past}
use Rattle.token.proofs.Decimals.{digit_tested, digits_passed_none, digits_passed_end, digits_passed_past, digits_passed_digit, digits_passed_over}
use Rattle.token.proofs.decimal.Goals as goal

pub loop-n-init : goal.loop-n-init
loop-n-init c = digits_passed_none _ _ c.requires

pub returns-then-not-is_digit : goal.returns-then-not-is_digit
returns-then-not-is_digit c =
    let more = c.loop-n-test.true in
    digits_passed_end c.loop-n.invariant
    (digit_tested _ _ _ (rest_there _ _ more) (rest_byte _ _ more) c.is_digit.ensures)
    c.if-not-is_digit.true

pub returns-in_default : goal.returns-in_default
returns-in_default c =
    let more = c.loop-n-test.true in
    let told = digit_tested _ _ _ (rest_there _ _ more) (rest_byte _ _ more) c.is_digit.ensures in
    let digit = c.from.ensures ∙ ap (λ (b : ℕ). b - 48) (rest_byte _ _ more) in
    digits_passed_over c.loop-n.invariant told c.if-not-is_digit.false digit (omega (arith, c.in_default.ensures {u = tt}))

pub loop-n-preserved : goal.loop-n-preserved
loop-n-preserved c =
    let more = c.loop-n-test.true in
    let told = digit_tested _ _ _ (rest_there _ _ more) (rest_byte _ _ more) c.is_digit.ensures in
    let digit = c.from.ensures ∙ ap (λ (b : ℕ). b - 48) (rest_byte _ _ more) in
    let fits = c.in-Some.ensures {u = tt} in
    rw fits.1 (digits_passed_digit c.loop-n.invariant told c.if-not-is_digit.false digit fits.0)

pub returns : goal.returns
returns c = digits_passed_past c.loop-n.invariant (rest_past _ _ c.loop-n-test.false)
