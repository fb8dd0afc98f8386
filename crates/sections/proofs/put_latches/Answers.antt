-- `sections::put_latches` meets its contract: a turn of the loop puts one line more (`Latching`). Assumes nothing.
use native.Mathlib.Omega.{arith}
use Rattle.sections.proofs.Parts.{latching_more}
use Rattle.sections.proofs.put_latches.Goals as goal

pub loop-next-preserved : goal.loop-next-preserved
loop-next-preserved c =
    let (left, right) = c.in-Some.ensures.steps in
    latching_more c.loop-next.invariant _ _ _ _ _ _ left right (omega arith) c.put_latch-place.ensures
