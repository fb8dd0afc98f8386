-- `binary::put::put_gates` meets its contract: a turn of the loop puts one gate more (`Putting`); inputs stand in order, so no difference goes below zero.
-- Assumes nothing.
use mathlib.Core.Path.{refl}
use native.Mathlib.Omega.{arith}
use Rattle.circuit.specs.Walk.{first_code}
use Rattle.binary.proofs.Putting.{putting_none, falls, putting_more, putting_all}
use Rattle.binary.proofs.put.put_gates.Goals as goal

pub loop-j-init : goal.loop-j-init
unfolding first_code
loop-j-init c = putting_none _ _ _ _ _ (omega arith) (omega arith)

pub overflow_cast-code : goal.overflow_cast-code
unfolding first_code
overflow_cast-code c =
    omega (arith, c.loop-j.invariant.own, c.requires.0)

pub overflow_sub-code : goal.overflow_sub-code
overflow_sub-code c =
    omega (arith, falls c.loop-j.invariant c.requires.1 (omega arith))

pub overflow_sub-first : goal.overflow_sub-first
overflow_sub-first c =
    omega (arith, falls c.loop-j.invariant c.requires.1 (omega arith))

pub put_gate-place-requires : goal.put_gate-place-requires
unfolding first_code
put_gate-place-requires c =
    let below = falls c.loop-j.invariant c.requires.1 (omega arith) in
    (omega (arith, c.loop-j.invariant.own, c.requires.0), omega (arith, c.loop-j.invariant.own, c.requires.0, below))

pub overflow_add-code-in-loop-j : goal.overflow_add-code-in-loop-j
unfolding first_code
overflow_add-code-in-loop-j c =
    omega (arith, c.loop-j.invariant.own, c.requires.0)

pub loop-j-preserved : goal.loop-j-preserved
loop-j-preserved c =
    putting_more c.loop-j.invariant c.requires.1 (omega arith) _ _ _ refl (omega arith) c.put_gate-place.ensures

pub returns : goal.returns
returns c = putting_all c.loop-j.invariant (omega arith)
