-- `text::put_groups` meets its contract: a turn of the loop puts the first group of what is left (`Grouping`). Assumes nothing.
use mathlib.Core.Path.{sym, ap, ◌∙◌}
use native.Mathlib.Omega.{arith}
use lib.ListN.{length, length-set}
use Rattle.place.specs.Place.{further}
use Rattle.token.specs.Format.{shortest}
use Rattle.text.proofs.Puts.{put_all_past}
use Rattle.text.proofs.Groups.{groups_few, grouping_all, grouping_more, grouping_last}
use Rattle.text.proofs.put_groups.Goals as goal

pub returns-then-out-at : goal.returns-then-out-at
returns-then-out-at c = (
  sym (put_all_past c.args.out.now c.args.at (shortest c.args.d) (omega arith)),
  c.further.ensures ∙ ap (further c.args.at) c.group_count.ensures,
)

pub loop-rest-init : goal.loop-rest-init
loop-rest-init c = grouping_all _ _ _ (omega arith)

pub overflow_add-place : goal.overflow_add-place
overflow_add-place c =
    omega (arith, groups_few c.args.d (omega arith))

pub loop-rest-preserved : goal.loop-rest-preserved
loop-rest-preserved c =
    grouping_more c.loop-rest.invariant _ (omega arith) c.store.ensures

pub overflow_add-result : goal.overflow_add-result
overflow_add-result c =
    omega (arith, groups_few c.args.d (omega arith))

pub shape_of-out : goal.shape_of-out
shape_of-out c =
    ap length c.store-2.ensures ∙ simp length-set c.loop-rest.invariant.kept

pub returns : goal.returns
returns c =
    let put = grouping_last c.loop-rest.invariant _ (omega arith) c.store-2.ensures in
    (put.0, omega (arith, groups_few c.args.d (omega arith), put.1))
