-- `over_in_latches` meets its contract: a latch with no code over the bound is passed, and where one of the lists ends none is left. Assumes nothing.
use mathlib.Core.Path.{sym, ap, ◌∙◌}
use mathlib.Core.List.{[], ◌∷◌}
use Rattle.std.proofs.lemmas.List.{length_push}
use Rattle.std.proofs.lemmas.Iterator.{YieldsList-from_slice, YieldsList-from_zip}
use Rattle.std.proofs.lemmas.Iterator.Consumers.{YieldsList-at, YieldsList-turn, YieldsList-end}
use Rattle.circuit.specs.Circuit.{first_over}
use Rattle.checks.specs.Checks.{found}
use Rattle.checks.proofs.Offenders.{latch_turn, over_past, latch_end}
use Rattle.checks.proofs.over_in_latches.Goals as goal

pub loop-state-preserved : goal.loop-state-preserved
loop-state-preserved c =
    let a = c.args in
    let road =
    YieldsList-at c.into_iter-state-iterator.ensures.into_iter_gives (YieldsList-from_zip (YieldsList-at c.zip-state-items.ensures.first
    (YieldsList-from_zip (YieldsList-from_slice a.states.now cc) (YieldsList-from_slice a.nexts.now cc))) (YieldsList-from_slice a.resets.now cc)) in
    let turn = YieldsList-turn road c.loop-state.yielded _ c.loop-state.yielded_by c.next.result c.next.new.self
    ((c.in-Some.field-0-0-0, c.in-Some.field-0-0-1), c.in-Some.field-0-1) c.in-Some.is c.next.ensures.steps in
    rw (length_push c.loop-state.yielded ((c.in-Some.field-0-0-0, c.in-Some.field-0-0-1), c.in-Some.field-0-1))
    (c.loop-state.invariant ∙ ap (first_over a.bound) (latch_turn a.states.now a.nexts.now a.resets.now _ _ _ _ turn.0 turn.1)
    ∙ over_past a.bound (c.in-Some.field-0-0-0.now ∷ c.in-Some.field-0-0-1.now ∷ c.in-Some.field-0-1.now ∷ []) _ (sym c.over_in.ensures ∙ c.in_default.is))

pub returns : goal.returns
returns c =
    let a = c.args in
    let road =
    YieldsList-at c.into_iter-state-iterator.ensures.into_iter_gives (YieldsList-from_zip (YieldsList-at c.zip-state-items.ensures.first
    (YieldsList-from_zip (YieldsList-from_slice a.states.now cc) (YieldsList-from_slice a.nexts.now cc))) (YieldsList-from_slice a.resets.now cc)) in
    let all = YieldsList-end road c.loop-state.yielded _ c.loop-state.yielded_by c.next.result c.next.new.self c.in-None.is c.next.ensures.steps in
    sym (ap found (c.loop-state.invariant ∙ ap (first_over a.bound) (latch_end _ _ _ _ all.1)))
