-- `binary::body` meets its contract: where the lists are long enough, what stands from the first latch line on. Assumes nothing.
use Rattle.std.proofs.Common.{rules}
use Rattle.binary.specs.Promise.{lists_of}
use Rattle.binary.proofs.Whole.{body_roomy, body_is, body_not}
use Rattle.binary.proofs.body.Goals as goal

pub returns-in_err-next : goal.returns-in_err-next
returns-in_err-next c =
    let l = lists_of c.args.nexts.now c.args.resets.now c.args.gates.now c.args.sizes.now c.args.roots.now in
    body_not c.args.s.now c.args.h c.args.at l _ _ c.sized.ensures _ _ c.in_err-next.was (search rules)

pub lists-requires : goal.lists-requires
lists-requires c =
    let l = lists_of c.args.nexts.now c.args.resets.now c.args.gates.now c.args.sizes.now c.args.roots.now in
    (c.requires, body_roomy c.args.s.now c.args.h c.args.at l l _ c.sized.ensures _ c.in_ok-next.was)

pub returns : goal.returns
returns c =
    let l = lists_of c.args.nexts.now c.args.resets.now c.args.gates.now c.args.sizes.now c.args.roots.now in
    body_is c.args.s.now c.args.h c.args.at l _ _ c.sized.ensures _ _ c.in_ok-next.was c.lists.ensures
