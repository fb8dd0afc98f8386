-- `carry_from` meets its contract: after i turns the first i resets stand in the list, up to the last or to the list's end. Assumes nothing.
use native.Mathlib.Omega.{arith}
use mathlib.Core.Path.{◌∙◌}
use Rattle.circuit.specs.Ordered.{carried_from}
use Rattle.circuit.proofs.Carried.{carried-length}
use Rattle.lent.proofs.Rows.{onto_front}
use Rattle.images.proofs.Few.{carried_more}
use Rattle.images.proofs.carry_from.Goals as goal

pub loop-i-preserved : goal.loop-i-preserved
loop-i-preserved c =
    let a = c.args in
    let v = c.loop-i.invariant in
    record {
      next = omega arith;
      carried = carried_more a.first a.resets.now _ _ _ _ _ (omega arith) (omega arith) v.next v.carried c.renewed.ensures;
    }

pub returns : goal.returns
returns c =
    let a = c.args in
    c.loop-i.invariant.carried ∙ onto_front (carried_from a.first a.resets.now) a.list.now c.loop-i.i (omega (arith, carried-length a.first a.resets.now))
