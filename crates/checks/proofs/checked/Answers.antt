-- `checked` meets its contract: checks 1 to 3 on lengths, then check 4 where they pass, then check 22. Assumes nothing.
use Rattle.std.proofs.lemmas.Result.{err_from_is_err_and}
use Rattle.circuit.specs.Outcome.{lent_of}
use Rattle.checks.proofs.Sizes.{fails_sized, shaped, fails_over, passes}
use Rattle.checks.proofs.checked.Goals as goal

pub returns-in_err-sized : goal.returns-in_err-sized
returns-in_err-sized c =
    let a = c.args in
    let lent = lent_of a.circuit a.lists.now.inputs.now a.lists.now.states.now a.lists.now.nexts.now a.lists.now.resets.now a.lists.now.gates.now
    a.lists.now.roots.now a.map.now a.next_images.now a.reset_images.now a.root_images.now a.gates_out.now a.scratch.now in
    let p = err_from_is_err_and c.from_residual.result c.from_residual.ensures.1 in
    rw (p.1, p.2) (fails_sized lent _ c.sized.ensures _ c.in_err-sized.was)

pub over-requires : goal.over-requires
over-requires c =
    let a = c.args in
    let lent = lent_of a.circuit a.lists.now.inputs.now a.lists.now.states.now a.lists.now.nexts.now a.lists.now.resets.now a.lists.now.gates.now
    a.lists.now.roots.now a.map.now a.next_images.now a.reset_images.now a.root_images.now a.gates_out.now a.scratch.now in
    shaped lent _ c.sized.ensures c.in_ok-sized.was

pub returns-in-Some : goal.returns-in-Some
returns-in-Some c =
    let a = c.args in
    let lent = lent_of a.circuit a.lists.now.inputs.now a.lists.now.states.now a.lists.now.nexts.now a.lists.now.resets.now a.lists.now.gates.now
    a.lists.now.roots.now a.map.now a.next_images.now a.reset_images.now a.root_images.now a.gates_out.now a.scratch.now in
    fails_over lent _ c.sized.ensures c.in_ok-sized.was _ c.over.ensures _ c.in-Some.is

pub returns : goal.returns
returns c =
    let a = c.args in
    let lent = lent_of a.circuit a.lists.now.inputs.now a.lists.now.states.now a.lists.now.nexts.now a.lists.now.resets.now a.lists.now.gates.now
    a.lists.now.roots.now a.map.now a.next_images.now a.reset_images.now a.root_images.now a.gates_out.now a.scratch.now in
    passes lent _ c.sized.ensures c.in_ok-sized.was _ c.over.ensures c.in_default.is _ c.resets_checked.ensures
