-- `first_stray` meets its contract: where one of the lists ends, no latch is left. Assumes nothing.
use mathlib.Core.Path.{sym, ap, ◌∙◌}
use Rattle.std.proofs.lemmas.Slice.Zip.{zip_end}
use Rattle.checks.specs.Checks.{found}
use Rattle.checks.proofs.Offenders.{stray_end}
use Rattle.checks.proofs.first_stray.Goals as goal

pub returns : goal.returns
returns c =
    let a = c.args in
    let all = zip_end a.states.now a.resets.now c.loop-state.yielded c.into_iter-state-iterator.result c.loop-state.state-iterator c.next.new.self c.next.result (cc) (cc) c.loop-state.yielded_by c.in-None.is c.next.ensures.steps in
    sym (ap found (c.loop-state.invariant ∙ stray_end _ _ _ all))
