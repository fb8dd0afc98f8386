-- `check` meets its contract: the checks stand in their order, and each return is one of the definition's. Assumes nothing.
use mathlib.Core.Path.{refl, sym, ◌∙◌}
use native.Mathlib.Omega.{arith}
use Rattle.ordered.proofs.Exactly.{even_words, as_many_resets}
use Rattle.ordered.proofs.Checks.{lent, counts_variables, counts_first, counts_latches, few_words, few_resets, none_in_order, small}
use Rattle.ordered.proofs.Checks.{answers_1, answers_2, answers_last}
use Rattle.ordered.proofs.given.check.Goals as goal

pub returns-then-is_too_large : goal.returns-then-is_too_large
returns-then-is_too_large c =
    let a = c.args in
    let w = lent a.o a.nexts.now a.resets.now a.gates.now a.sizes.now a.roots.now in
    let v = counts_variables w _ c.wide.ensures in
    answers_1 w a.asked.0 _ v _ c.is_too_large.ensures c.if-is_too_large.true

pub is_uneven-requires : goal.is_uneven-requires
is_uneven-requires c =
    let a = c.args in
    let w = lent a.o a.nexts.now a.resets.now a.gates.now a.sizes.now a.roots.now in
    let v = counts_variables w _ c.wide.ensures in
    (small w a.asked.0 _ v _ c.is_too_large.ensures c.if-is_too_large.false).1

pub returns-then-is_uneven : goal.returns-then-is_uneven
returns-then-is_uneven c =
    let a = c.args in
    let w = lent a.o a.nexts.now a.resets.now a.gates.now a.sizes.now a.roots.now in
    let v = counts_variables w _ c.wide.ensures in
    answers_2 w a.asked.0 _ v _ c.is_too_large.ensures c.if-is_too_large.false _ c.is_uneven.ensures c.if-is_uneven.true

pub first_disordered-loose-requires : goal.first_disordered-loose-requires
first_disordered-loose-requires c =
    let a = c.args in
    let w = lent a.o a.nexts.now a.resets.now a.gates.now a.sizes.now a.roots.now in
    let v = counts_variables w _ c.wide.ensures in
    few_words w _ c.wide.ensures (small w a.asked.0 _ v _ c.is_too_large.ensures c.if-is_too_large.false).0

pub over-large-requires : goal.over-large-requires
over-large-requires c =
    let a = c.args in
    let w = lent a.o a.nexts.now a.resets.now a.gates.now a.sizes.now a.roots.now in
    let even = even_words w (sym c.is_uneven.ensures ∙ c.if-is_uneven.false) in
    none_in_order _ _ a.gates.now even (omega (arith, even)) c.first_disordered-loose.result c.first_disordered-loose.ensures

pub first_stray-stray-requires : goal.first_stray-stray-requires
first_stray-stray-requires c =
    let a = c.args in
    let w = lent a.o a.nexts.now a.resets.now a.gates.now a.sizes.now a.roots.now in
    let v = counts_variables w _ c.wide.ensures in
    few_resets w _ c.wide-2.ensures (as_many_resets w (sym c.is_uneven.ensures ∙ c.if-is_uneven.false)) v
    (small w a.asked.0 _ v _ c.is_too_large.ensures c.if-is_too_large.false).0

pub returns-in-Some : goal.returns-in-Some
returns-in-Some c =
    let a = c.args in
    let w = lent a.o a.nexts.now a.resets.now a.gates.now a.sizes.now a.roots.now in
    let v = counts_variables w _ c.wide.ensures in
    answers_last w a.asked.0 _ v _ c.is_too_large.ensures c.if-is_too_large.false _ c.is_uneven.ensures c.if-is_uneven.false _ _ _ _ _
    c.over-large.ensures refl refl
    (counts_first w _ c.wide.ensures) c.first_disordered-loose.ensures _ (rw (c.in-Some.is))

pub returns-in-Some-stray : goal.returns-in-Some-stray
returns-in-Some-stray c =
    let a = c.args in
    let w = lent a.o a.nexts.now a.resets.now a.gates.now a.sizes.now a.roots.now in
    let v = counts_variables w _ c.wide.ensures in
    answers_last w a.asked.0 _ v _ c.is_too_large.ensures c.if-is_too_large.false _ c.is_uneven.ensures c.if-is_uneven.false _ _ _ _ _
    c.over-large.ensures (counts_latches w _ c.wide-2.ensures) c.first_stray-stray.ensures
    (counts_first w _ c.wide.ensures) c.first_disordered-loose.ensures _ (rw (c.in_default.is, c.in-Some-stray.is))

pub returns-in-Some-loose : goal.returns-in-Some-loose
returns-in-Some-loose c =
    let a = c.args in
    let w = lent a.o a.nexts.now a.resets.now a.gates.now a.sizes.now a.roots.now in
    let v = counts_variables w _ c.wide.ensures in
    answers_last w a.asked.0 _ v _ c.is_too_large.ensures c.if-is_too_large.false _ c.is_uneven.ensures c.if-is_uneven.false _ _ _ _ _
    c.over-large.ensures (counts_latches w _ c.wide-2.ensures) c.first_stray-stray.ensures
    (counts_first w _ c.wide.ensures) c.first_disordered-loose.ensures _ (rw (c.in_default.is, c.in_default-stray.is, c.in-Some-loose.is))

pub returns-in-None : goal.returns-in-None
returns-in-None c =
    let a = c.args in
    let w = lent a.o a.nexts.now a.resets.now a.gates.now a.sizes.now a.roots.now in
    let v = counts_variables w _ c.wide.ensures in
    answers_last w a.asked.0 _ v _ c.is_too_large.ensures c.if-is_too_large.false _ c.is_uneven.ensures c.if-is_uneven.false _ _ _ _ _
    c.over-large.ensures (counts_latches w _ c.wide-2.ensures) c.first_stray-stray.ensures
    (counts_first w _ c.wide.ensures) c.first_disordered-loose.ensures _ (rw (c.in_default.is, c.in_default-stray.is, c.in-None.is))
