-- `lists::split` meets its contract: a turn of the loop copies one state and one next more (`Copied`). Assumes nothing.
use native.Mathlib.Omega.{arith}
use Rattle.sheet.proofs.Cells.{copied_none, copied_more, states_length, nexts_length, states_at, nexts_at}
use Rattle.sheet.proofs.lists.split.Goals as goal

pub loop-j-init : goal.loop-j-init
loop-j-init c =
    (copied_none _ _ (omega (arith, states_length c.args.latches.now)), copied_none _ _ (omega (arith, nexts_length c.args.latches.now)))

pub loop-j-preserved : goal.loop-j-preserved
loop-j-preserved c =
    let few = states_length c.args.latches.now in
    let as_few = nexts_length c.args.latches.now in (
      copied_more _ _ _ _ c.loop-j.invariant.0 (omega arith) (states_at c.args.latches.now c.loop-j.j (omega arith)),
      copied_more _ _ _ _ c.loop-j.invariant.1 (omega arith) (nexts_at c.args.latches.now c.loop-j.j (omega arith)),
    )
