-- `ascii::put::put_inputs` meets its contract: a turn of the loop puts one input line more. Assumes nothing.
use native.Mathlib.Omega.{arith}
use Rattle.ascii.proofs.WriteParts.{inputs_more, inputs_all}
use Rattle.ascii.proofs.put.put_inputs.Goals as goal

pub loop-i-preserved : goal.loop-i-preserved
loop-i-preserved c =
    inputs_more c.args.n c.loop-i.invariant _ _ (omega arith) (omega arith) c.put_line-place.ensures

pub returns : goal.returns
returns c =
    inputs_all c.args.n c.loop-i.invariant (omega arith)
