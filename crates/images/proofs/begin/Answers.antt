-- `begin` meets its contract: four stores one after another are the map at the start. Assumes nothing.
use mathlib.Core.Path.{refl, ◌∙◌}
use Rattle.lent.proofs.Entries.{begun}
use Rattle.images.proofs.Few.{few}
use Rattle.images.proofs.begin.Goals as goal

pub returns : goal.returns
returns c =
    let a = c.args in
    begun a.map.now a.inputs.now a.states.now _ _ _ _ _ _ _ c.fill.ensures c.from_code.ensures
    c.from_code-2.ensures c.insert.ensures c.store_from.ensures refl c.store_from-2.ensures ∙ few
    a.map.now a.inputs.now a.states.now c.if-inputs-gt-LIMIT.false c.if-states-gt-LIMIT.false
