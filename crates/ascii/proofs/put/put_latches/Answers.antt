-- `ascii::put::put_latches` meets its contract: a turn of the loop puts one latch line more (`Stating`). Assumes nothing.
use mathlib.Core.Path.{refl}
use native.Mathlib.Omega.{arith}
use Rattle.ascii.proofs.WriteParts.{stating_more, stating_all}
use Rattle.ascii.proofs.put.put_latches.Goals as goal

pub loop-i-preserved : goal.loop-i-preserved
loop-i-preserved c =
    stating_more c.loop-i.invariant _ _ _ _ _ (omega (arith, c.min-i-end.ensures)) (omega arith) refl refl refl c.put_stated-place.ensures

pub returns : goal.returns
returns c = stating_all c.loop-i.invariant (omega (arith, c.min-i-end.ensures))
