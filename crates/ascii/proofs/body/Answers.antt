-- `ascii::body` meets its contract: where the lists are long enough, what stands from the first input line on. Assumes nothing.
use Rattle.std.proofs.Common.{rules}
use Rattle.ascii.specs.Promise.{lists_of}
use Rattle.ascii.proofs.Whole.{body_roomy, body_is, body_not}
use Rattle.ascii.proofs.body.Goals as goal

pub returns-in_err-next : goal.returns-in_err-next
returns-in_err-next c =
    let a = c.args in
    let lent = lists_of a.inputs.now a.states.now a.nexts.now a.resets.now a.gates.now a.sizes.now a.roots.now in
    body_not a.s.now a.h a.at lent _ _ c.sized.ensures _ _ c.in_err-next.was (search rules)

pub lists-requires : goal.lists-requires
lists-requires c =
    let a = c.args in
    let lent = lists_of a.inputs.now a.states.now a.nexts.now a.resets.now a.gates.now a.sizes.now a.roots.now in
    (c.requires, body_roomy a.s.now a.h a.at lent lent _ c.sized.ensures _ c.in_ok-next.was)

pub returns : goal.returns
returns c =
    let a = c.args in
    let lent = lists_of a.inputs.now a.states.now a.nexts.now a.resets.now a.gates.now a.sizes.now a.roots.now in
    body_is a.s.now a.h a.at lent _ _ c.sized.ensures _ _ c.in_ok-next.was c.lists.ensures
