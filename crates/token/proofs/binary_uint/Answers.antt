-- `binary_uint` meets its contract. The invariant: n bytes are passed, at most seven, each of them goes on, v is what they write and weight
-- is 128 ^ n. A byte below 128 is the last, an eighth that goes on is one too many, and the end cuts the number. No product wraps, because a group
-- is below 128 and the weight at most 128 ^ 7. Assumes nothing.
use mathlib.Core.Path.{◌∙◌}
use native.Mathlib.Nat.{le_of_lt}
use lib.ListN.{drop_of_length-le}
use Rattle.token.specs.Answer.{go_on_at, binary_at}
use Rattle.token.proofs.Rest.{rest_there, rest_byte, rest_past}
use Rattle.token.proofs.Groups.{groups_passed_none, groups_passed_weight, group_fits, group_added, group_low, groups_passed_cut, groups_passed_last, groups_passed_long, groups_passed_group}
use Rattle.token.proofs.binary_uint.Goals as goal

pub returns-then-s-at : goal.returns-then-s-at
unfolding binary_at go_on_at
returns-then-s-at c =
    rw (drop_of_length-le c.args.s.now c.if-s-at.true)

pub loop-n-init : goal.loop-n-init
loop-n-init c = groups_passed_none _ _ (le_of_lt c.if-s-at.false)

pub overflow_mul-result : goal.overflow_mul-result
overflow_mul-result c = group_fits c.loop-n.invariant c.if-b-lt128.true

pub overflow_add-result : goal.overflow_add-result
overflow_add-result c = group_added c.loop-n.invariant c.if-b-lt128.true

pub returns-then-b-lt128 : goal.returns-then-b-lt128
returns-then-b-lt128 c =
    let more = c.loop-n-test.true in
    groups_passed_last c.loop-n.invariant (rest_there _ _ more) (c.from-b.ensures ∙ rest_byte _ _ more) c.if-b-lt128.true

pub returns-then-n-eq7 : goal.returns-then-n-eq7
returns-then-n-eq7 c =
    let more = c.loop-n-test.true in
    groups_passed_long c.loop-n.invariant (rest_there _ _ more) (c.from-b.ensures ∙ rest_byte _ _ more) c.if-b-lt128.false
    c.if-n-eq7.true

pub overflow_mul-v : goal.overflow_mul-v
overflow_mul-v c =
    let more = c.loop-n-test.true in
    group_fits c.loop-n.invariant (group_low c.loop-n.invariant (rest_there _ _ more) (c.from-b.ensures ∙ rest_byte _ _ more) c.if-b-lt128.false (c.type_inv.s _))

pub overflow_add-v : goal.overflow_add-v
overflow_add-v c =
    let more = c.loop-n-test.true in
    group_added c.loop-n.invariant (group_low c.loop-n.invariant (rest_there _ _ more) (c.from-b.ensures ∙ rest_byte _ _ more) c.if-b-lt128.false (c.type_inv.s _))

pub overflow_mul-weight : goal.overflow_mul-weight
overflow_mul-weight c = groups_passed_weight c.loop-n.invariant

pub loop-n-preserved : goal.loop-n-preserved
loop-n-preserved c =
    let more = c.loop-n-test.true in
    groups_passed_group c.loop-n.invariant (rest_there _ _ more) (c.from-b.ensures ∙ rest_byte _ _ more) c.if-b-lt128.false
    (c.type_inv.s _) c.if-n-eq7.false

pub returns : goal.returns
returns c = groups_passed_cut c.loop-n.invariant (rest_past _ _ c.loop-n-test.false)
