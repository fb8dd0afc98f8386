-- `ascii::taken` meets its contract: header and body. Assumes nothing.
use mathlib.Core.Path.{sym, ◌∙◌}
use Rattle.ascii.specs.Promise.{lists_of}
use Rattle.ascii.proofs.Whole.{read_within, taken_is}
use Rattle.ascii.proofs.taken.Goals as goal

pub body-requires : goal.body-requires
body-requires c =
    let a = c.args in
    let lent = lists_of a.inputs.now a.states.now a.nexts.now a.resets.now a.gates.now a.sizes.now a.roots.now in
    read_within a.s.now lent _ (sym c.read_header.ensures ∙ c.in_ok-first.was)

pub returns : goal.returns
returns c =
    let a = c.args in
    let lent = lists_of a.inputs.now a.states.now a.nexts.now a.resets.now a.gates.now a.sizes.now a.roots.now in
    taken_is a.s.now lent _ (sym c.read_header.ensures ∙ c.in_ok-first.was) _ _ c.body.ensures _ c.in_ok-rest.was
