-- `ascii::put::put_gates` meets its contract: a turn of the loop puts one gate line more (`Gating`). Assumes nothing.
use native.Mathlib.Omega.{arith}
use Rattle.circuit.specs.Walk.{first_code}
use Rattle.ascii.proofs.WriteParts.{gating_none, gating_more, gating_all}
use Rattle.ascii.proofs.put.put_gates.Goals as goal

pub loop-j-init : goal.loop-j-init
loop-j-init c = gating_none _ _ _ _ (omega arith)

pub overflow_cast-code : goal.overflow_cast-code
unfolding first_code
overflow_cast-code c =
    omega (arith, c.loop-j.invariant.own, c.requires)

pub overflow_add-code-in-loop-j : goal.overflow_add-code-in-loop-j
unfolding first_code
overflow_add-code-in-loop-j c =
    omega (arith, c.loop-j.invariant.own, c.requires)

pub loop-j-preserved : goal.loop-j-preserved
loop-j-preserved c =
    gating_more c.loop-j.invariant _ _ (omega arith) (omega arith) c.put_gate-place.ensures

pub returns : goal.returns
returns c = gating_all c.loop-j.invariant (omega arith)
