-- `sections::put_lines` meets its contract: a turn of the loop puts one more (`Rowing`). Assumes nothing.
use native.Mathlib.Omega.{arith}
use Rattle.sections.proofs.Parts.{rowing_more}
use Rattle.sections.proofs.put_lines.Goals as goal

pub loop-v-preserved : goal.loop-v-preserved
loop-v-preserved c =
    rowing_more c.loop-v.invariant _ _ (omega arith) (omega arith) c.put_line-place.ensures
