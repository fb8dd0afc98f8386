-- `ascii::lists` meets its contract: the sections in the order of the text, each into its lists. Assumes nothing.
use Rattle.ascii.proofs.Files.{lists_is}
use Rattle.ascii.proofs.lists.Goals as goal

pub returns : goal.returns
returns c =
    let a = c.args in
    lists_is a.s.now a.h a.at a.inputs.now a.states.now a.nexts.now a.resets.now a.gates.now a.sizes.now a.roots.now c.requires.1 _ c.wide.ensures _ _
    c.inputs.ensures _ c.in_ok-after_inputs.was _ c.wide-latches.ensures _ _ _ _ c.latches.ensures _ c.in_ok-after_latches.was _ _ _ c.roots.ensures _
    c.in_ok-rooted.was _ _ c.gates.ensures _ c.in_ok-after.was
