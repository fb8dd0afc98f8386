-- `renumber_records` meets its contract: the checks refuse at once, or the records are laid flat, and what is then left to do comes to the outcome with
-- records. Assumes nothing.
use Rattle.std.proofs.Common.{◌≡◌, ◌*◌, length, Err, sym, arith, rules}
use lib.Seq.{length-take-le}
use Rattle.aig_records.proofs.Joined.{refused_at_once, room_for, joined}
use Rattle.aig_records.proofs.renumber_records.Goals as goal

pub returns-in_err-judge : goal.returns-in_err-judge
returns-in_err-judge c =
    let a = c.args in
    let refused : c.from_residual.result ≡ Err c.in_err-judge.field-0.0 = search rules in
    rw refused (refused_at_once a.circuit a.lists.now.inputs.now a.lists.now.states.now a.lists.now.nexts.now a.lists.now.resets.now a.lists.now.gates.now a.lists.now.roots.now a.room.map.now a.room.next_images.now
    a.room.reset_images.now a.room.root_images.now a.room.gates_out.now a.room.scratch.now a.flat.now c.judge.result c.judge.ensures _ c.in_err-judge.was)

pub flatten-requires : goal.flatten-requires
flatten-requires c = room_for _ _ _ _ _ _ _ _ _ c.judge.result c.judge.ensures c.in_ok-judge.was

pub slice_bounds-laid-end : goal.slice_bounds-laid-end
slice_bounds-laid-end c =
    omega (arith, room_for _ _ _ _ _ _ _ _ _ c.judge.result c.judge.ensures c.in_ok-judge.was, c.flatten.auto.flat)

pub slice_bounds-laid-end-2 : goal.slice_bounds-laid-end-2
slice_bounds-laid-end-2 c =
    sym (length-take-le (length c.args.lists.now.gates.now * 3) c.flatten.new.flat
    (omega (arith, room_for _ _ _ _ _ _ _ _ _ c.judge.result c.judge.ensures c.in_ok-judge.was, c.flatten.auto.flat)))

pub slice_bounds-fill-end : goal.slice_bounds-fill-end
slice_bounds-fill-end c =
    omega (arith, room_for _ _ _ _ _ _ _ _ _ c.judge.result c.judge.ensures c.in_ok-judge.was, c.flatten.auto.flat)

pub slice_bounds-fill-end-2 : goal.slice_bounds-fill-end-2
slice_bounds-fill-end-2 c =
    sym (length-take-le (length c.args.lists.now.gates.now * 3) c.flatten.new.flat
    (omega (arith, room_for _ _ _ _ _ _ _ _ _ c.judge.result c.judge.ensures c.in_ok-judge.was, c.flatten.auto.flat)))

pub returns : goal.returns
returns c =
    let a = c.args in
    joined a.circuit a.lists.now.inputs.now a.lists.now.states.now a.lists.now.nexts.now a.lists.now.resets.now a.lists.now.gates.now a.lists.now.roots.now a.room.map.now a.room.next_images.now
    a.room.reset_images.now a.room.root_images.now a.room.gates_out.now a.room.scratch.now a.flat.now c.judge.result c.judge.ensures c.in_ok-judge.was
    _ c.flatten.ensures _ c.renumber-answer.ensures _ (c.fill.ensures.after (λ y e. search rules))
