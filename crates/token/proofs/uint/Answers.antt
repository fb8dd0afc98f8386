-- `uint` meets its contract: the first byte and, after a `0`, the second decide whether there is a number and whether it has a leading zero;
-- any other run is `decimal`'s. Assumes nothing.
use Prim.Native.Nat.{◌+◌}
use mathlib.Core.Path.{sym, ◌∙◌}
use native.Mathlib.Omega.{arith}
use borrow.Author.Tests.{ltb-true, ltb-false}
use Rattle.token.specs.Answer.{digits_at}
use Rattle.token.proofs.Decimals.{digits_some, uint_none, uint_leading, uint_zero, uint_plain}
use Rattle.token.proofs.uint.Goals as goal

pub bounds-s-at : goal.bounds-s-at
bounds-s-at c =
    let a = c.args in
    omega (
      arith,
      digits_some a.s.now a.at (ltb-true 0 (digits_at a.s.now a.at)
          (sym c.digit_at.ensures ∙ c.if-digit_at.true)),
    )

pub overflow_add-at : goal.overflow_add-at
overflow_add-at c =
    let a = c.args in
    omega (
      arith,
      digits_some a.s.now a.at (ltb-true 0 (digits_at a.s.now a.at)
          (sym c.digit_at.ensures ∙ c.if-digit_at.true)),
    )

pub returns-then-digit_at-2 : goal.returns-then-digit_at-2
returns-then-digit_at-2 c =
    let a = c.args in
    uint_leading a.s.now a.at (ltb-true 0 (digits_at a.s.now a.at) (sym c.digit_at.ensures ∙ c.if-digit_at.true))
    c.if-s-at-eq48.true (ltb-true 0 (digits_at a.s.now (a.at + 1)) (sym c.digit_at-then-s-at-eq48.ensures ∙ c.if-digit_at-2.true))

pub returns-then-s-at-eq48 : goal.returns-then-s-at-eq48
returns-then-s-at-eq48 c =
    let a = c.args in
    let none = ltb-false 0 (digits_at a.s.now (a.at + 1)) (sym c.digit_at-then-s-at-eq48.ensures ∙ c.if-digit_at-2.false) in
    uint_zero a.s.now a.at (ltb-true 0 (digits_at a.s.now a.at) (sym c.digit_at.ensures ∙ c.if-digit_at.true))
    c.if-s-at-eq48.true (omega arith)

pub decimal-requires : goal.decimal-requires
decimal-requires c =
    let a = c.args in
    omega (
      arith,
      digits_some a.s.now a.at (ltb-true 0 (digits_at a.s.now a.at)
          (sym c.digit_at.ensures ∙ c.if-digit_at.true)),
    )

pub returns-then-digit_at : goal.returns-then-digit_at
returns-then-digit_at c =
    let a = c.args in
    c.decimal.ensures ∙ uint_plain a.s.now a.at
    (ltb-true 0 (digits_at a.s.now a.at) (sym c.digit_at.ensures ∙ c.if-digit_at.true)) c.if-s-at-eq48.false

pub returns : goal.returns
returns c =
    let a = c.args in
    let none = ltb-false 0 (digits_at a.s.now a.at) (sym c.digit_at.ensures ∙ c.if-digit_at.false) in
    uint_none a.s.now a.at (omega arith)
