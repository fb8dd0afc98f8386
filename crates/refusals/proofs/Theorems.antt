-- The contracts of `number` and `literal` determine their answers. Assumes nothing.
use mathlib.Core.Path.{sym, ◌∙◌}
use Rattle.promise.specs.Determined.{Determines}
use Rattle.refusals.proofs.number.Kinds as number-kinds
use Rattle.refusals.proofs.number.Reads as number-promise
use Rattle.refusals.proofs.literal.Kinds as literal-kinds
use Rattle.refusals.proofs.literal.Reads as literal-promise

pub one_number : Determines 0 number-kinds.ps number-kinds.r number-promise.Learnt
one_number κs a x y e f p q = p ∙ sym q

pub one_literal : Determines 0 literal-kinds.ps literal-kinds.r literal-promise.Learnt
one_literal κs a x y e f p q = p ∙ sym q
