-- `text::digits_from` meets its contract: a turn of the loop puts the last digit of what is left (`Filling`), at a place that is there. Assumes nothing.
use mathlib.Core.Path.{refl, ◌∙◌}
use Prim.Native.Nat.{◌/◌}
use native.Mathlib.Omega.{arith}
use lib.ListN.{length-set}
use Rattle.text.proofs.Digits.{digits_few, count_more, filling_all, filling_more, filling_last}
use Rattle.text.proofs.digits_from.Goals as goal

pub overflow_add-place : goal.overflow_add-place
overflow_add-place c = omega (arith, digits_few c.args.v (omega arith))

pub overflow_sub-place : goal.overflow_sub-place
overflow_sub-place c = omega (arith, digits_few c.args.v (omega arith))

pub loop-rest-init : goal.loop-rest-init
loop-rest-init c =
    let some = digits_few c.args.v (omega arith) in
    (filling_all _ _ _ _ (omega arith) (omega (arith, some)), omega (arith, some))

pub bounds-out-place : goal.bounds-out-place
bounds-out-place c = omega (arith, c.loop-rest.invariant.0.kept)

pub overflow_sub-place-in-loop-rest : goal.overflow_sub-place-in-loop-rest
overflow_sub-place-in-loop-rest c =
    let rest = c.loop-rest.rest in
    omega (arith, c.loop-rest.invariant.0.here, count_more rest (omega arith) c.loop-rest.invariant.0.fits, digits_few (rest / 10) (omega arith))

pub loop-rest-preserved : goal.loop-rest-preserved
loop-rest-preserved c =
    (filling_more c.loop-rest.invariant.0 _ c.digit.result (omega arith) c.digit.ensures refl, omega arith)

pub bounds-out-place-2 : goal.bounds-out-place-2
bounds-out-place-2 c = omega (arith, c.loop-rest.invariant.0.kept)

pub shape_of-out : goal.shape_of-out
shape_of-out c =
    length-set c.loop-rest.out c.loop-rest.place c.digit-2.result ∙ c.loop-rest.invariant.0.kept

pub returns : goal.returns
returns c =
    filling_last c.loop-rest.invariant.0 _ c.digit-2.result (omega arith) c.digit-2.ensures refl
