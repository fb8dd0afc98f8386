-- `images` meets its contract: after i turns the first i images stand in the list, up to the last or to the list's end. Assumes nothing.
use native.Mathlib.Omega.{arith}
use mathlib.Core.Path.{◌∙◌}
use Rattle.circuit.specs.Ordered.{images_in}
use Rattle.lent.proofs.Rows.{onto_front}
use Rattle.lent.proofs.Entries.{images_length, images_more}
use Rattle.images.proofs.images.Goals as goal

pub loop-i-preserved : goal.loop-i-preserved
loop-i-preserved c =
    images_more _ _ _ _ _ _ _ _ (omega arith) (omega arith) c.loop-i.invariant c.code_of.ensures c.image.ensures c.from_code.ensures

pub returns : goal.returns
returns c =
    let a = c.args in
    c.loop-i.invariant ∙ onto_front (images_in a.map.now a.literals.now) a.out.now c.loop-i.i (omega (arith, images_length a.map.now a.literals.now))
