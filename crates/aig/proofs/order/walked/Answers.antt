-- `order::walked`: outputs unless trimmed, next states and roots are walked as one list. Assumes nothing.
use Rattle.std.proofs.Common.{arith, rules}
use Rattle.aig.proofs.InTurn.{outputs_can, outputs_stop, outputs_done, no_outputs, nexts_can, nexts_stop, roots_can, all_walked}
use Rattle.aig.proofs.order.walked.Goals as goal
use Rattle.aig.proofs.order.walked.Goals.{then-not-trim+in_ok-made, else-not-trim}

pub each-requires : goal.each-requires
each-requires c =
    let a = c.args in (
      omega arith,
      omega arith,
      outputs_can a.trim a.nexts.now a.roots.now c.requires (search rules),
    )

pub returns-in_err-made : goal.returns-in_err-made
returns-in_err-made c =
    let a = c.args in
    outputs_stop a.trim a.nexts.now a.roots.now c.requires (search rules) c.each.result _ _ _ c.each.ensures _ c.in_err-made.was _ (search rules)

pub each-requires-2 : goal.each-requires-2
each-requires-2 c =
    let a = c.args in (
      omega arith,
      omega arith,
      nexts_can a.trim a.nexts.now a.roots.now c.requires _ _ _ _ (elim c.if-not-trim.branch [
        | then-not-trim+in_ok-made w ↦ rw (w.made-is, w.map-is, w.out-is, w.scratch-is)
            (outputs_done a.trim a.nexts.now a.roots.now c.requires (search rules) w.each.result _ _ _ w.each.ensures _ w.in_ok-made.was)
        | else-not-trim w ↦ rw (w.made-is, w.map-is, w.out-is, w.scratch-is) (no_outputs a.trim a.nexts.now a.roots.now c.requires (search rules))
      ]),
    )

pub returns-in_err-made-2 : goal.returns-in_err-made-2
returns-in_err-made-2 c =
    let a = c.args in
    nexts_stop a.trim a.nexts.now a.roots.now c.requires _ _ _ _ (elim c.if-not-trim.branch [
      | then-not-trim+in_ok-made w ↦ rw (w.made-is, w.map-is, w.out-is, w.scratch-is)
          (outputs_done a.trim a.nexts.now a.roots.now c.requires (search rules) w.each.result _ _ _ w.each.ensures _ w.in_ok-made.was)
      | else-not-trim w ↦ rw (w.made-is, w.map-is, w.out-is, w.scratch-is) (no_outputs a.trim a.nexts.now a.roots.now c.requires (search rules))
    ]) c.each-2.result _ _ _ c.each-2.ensures _ c.in_err-made-2.was _ (search rules)

pub each-requires-3 : goal.each-requires-3
each-requires-3 c =
    let a = c.args in (
      omega arith,
      omega arith,
      roots_can a.trim a.nexts.now a.roots.now c.requires _ _ _ _ (elim c.if-not-trim.branch [
        | then-not-trim+in_ok-made w ↦ rw (w.made-is, w.map-is, w.out-is, w.scratch-is)
            (outputs_done a.trim a.nexts.now a.roots.now c.requires (search rules) w.each.result _ _ _ w.each.ensures _ w.in_ok-made.was)
        | else-not-trim w ↦ rw (w.made-is, w.map-is, w.out-is, w.scratch-is) (no_outputs a.trim a.nexts.now a.roots.now c.requires (search rules))
      ]) c.each-2.result _ _ _ c.each-2.ensures _ c.in_ok-made-2.was,
    )

pub returns : goal.returns
returns c =
    let a = c.args in
    all_walked a.trim a.nexts.now a.roots.now c.requires _ _ _ _ (elim c.if-not-trim.branch [
      | then-not-trim+in_ok-made w ↦ rw (w.made-is, w.map-is, w.out-is, w.scratch-is)
          (outputs_done a.trim a.nexts.now a.roots.now c.requires (search rules) w.each.result _ _ _ w.each.ensures _ w.in_ok-made.was)
      | else-not-trim w ↦ rw (w.made-is, w.map-is, w.out-is, w.scratch-is) (no_outputs a.trim a.nexts.now a.roots.now c.requires (search rules))
    ]) c.each-2.result _ _ _ c.each-2.ensures _ c.in_ok-made-2.was _ _ _ _ c.each-3.ensures
