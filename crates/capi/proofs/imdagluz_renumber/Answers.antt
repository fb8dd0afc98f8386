-- `imdagluz_renumber` meets its contract: what is refused first, and renumbering, are the two ways out, each by its law. Assumes nothing.
use mathlib.Core.Path.{ap}
use Rattle.circuit.specs.declared.CircuitRecord.{CircuitRecord}
use Rattle.circuit.specs.Outcome.{Lent, lent_of, outcome_of}
use Rattle.capi.specs.Renumber.{record_of}
use Rattle.capi.proofs.Renumbering.{five_counts, taken, taken_room, way_first, way_on}
use Rattle.capi.proofs.imdagluz_renumber.Goals as goal

pub returns-then-first-ne0 : goal.returns-then-first-ne0
returns-then-first-ne0 c =
    let a = c.args in
    let k = record_of a.top a.counts.now a.flags in
    let lent =
    lent_of k a.inputs.now a.states.now a.nexts.now a.resets.now a.gates.now a.roots.now a.map.now
    a.next_images.now a.reset_images.now a.root_images.now a.gates_out.now a.scratch.now in
    way_first a.counts.now a.flags a.answer.now _ _ c.refused_first-first.ensures c.if-first-ne0.true lent

pub record_of-requires : goal.record_of-requires
record_of-requires c =
    let a = c.args in
    five_counts a.counts.now a.flags (taken a.counts.now a.flags a.answer.now _ _ c.refused_first-first.ensures
    c.if-first-ne0.false).given

pub put_answer-requires : goal.put_answer-requires
put_answer-requires c =
    let a = c.args in
    taken_room (taken a.counts.now a.flags a.answer.now _ _ c.refused_first-first.ensures c.if-first-ne0.false)

pub returns : goal.returns
returns c =
    let a = c.args in
    let given : CircuitRecord → Lent =
    λ k. lent_of k a.inputs.now a.states.now a.nexts.now a.resets.now a.gates.now a.roots.now a.map.now
    a.next_images.now a.reset_images.now a.root_images.now a.gates_out.now a.scratch.now in
    let q = c.record_of in
    let r = c.renumber-said in
    let left =
    outcome_of r.result r.new.room.0 r.new.room.1.0 r.new.room.1.1.0
    r.new.room.1.1.1.0 r.new.room.1.1.1.1.0 r.new.room.1.1.1.1.1.0 in
    way_on a.counts.now a.flags (given (record_of a.top a.counts.now a.flags)) a.answer.now _
    (taken a.counts.now a.flags a.answer.now _ _ c.refused_first-first.ensures c.if-first-ne0.false) (given q.result)
    (ap given q.ensures) left r.ensures _ _ c.put_answer.ensures
