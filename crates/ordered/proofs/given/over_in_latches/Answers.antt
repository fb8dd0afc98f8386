-- `over_in_latches` meets its contract: where one of the lists ends, no latch is left. Assumes nothing.
use mathlib.Core.Path.{sym, ap, ◌∙◌}
use Rattle.std.proofs.lemmas.Slice.Zip.{zip_end}
use Rattle.circuit.specs.Circuit.{first_over}
use Rattle.checks.specs.Checks.{found}
use Rattle.ordered.proofs.Checks.{side_end}
use Rattle.ordered.proofs.given.over_in_latches.Goals as goal

pub returns : goal.returns
returns c =
    let a = c.args in
    let all =
    zip_end a.nexts.now a.resets.now c.loop-next.yielded c.into_iter-next-iterator.result c.loop-next.next-iterator c.next.new.self c.next.result
    (cc) (cc) c.loop-next.yielded_by c.in-None.is c.next.ensures.steps in
    sym (ap found (c.loop-next.invariant ∙ ap (first_over a.bound) (side_end _ _ _ all)))
