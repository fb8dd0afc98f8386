-- `text::put_bytes` meets its contract: a turn of the loop puts one byte more at the place after the last (`Putting`). Assumes nothing.
use native.Mathlib.Omega.{arith}
use Rattle.text.proofs.Puts.{putting_none, putting_more, putting_all, putting_keeps}
use Rattle.text.proofs.put_bytes.Goals as goal

pub loop-b-init : goal.loop-b-init
loop-b-init c = putting_none _ _ _ (omega arith)

pub loop-b-preserved : goal.loop-b-preserved
loop-b-preserved c =
    putting_more c.loop-b.invariant _ _ c.loop-b-test.true (omega arith) c.put-place.ensures.0 c.put-place.ensures.1

pub shape_of-out : goal.shape_of-out
shape_of-out c = putting_keeps c.loop-b.invariant

pub returns : goal.returns
returns c = putting_all c.loop-b.invariant (omega arith)
