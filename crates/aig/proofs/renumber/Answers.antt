-- `renumber` meets its contract: checks 1 to 4 and 22 refuse at once, or leave the outcome to renumbering (proofs/Passing.antt), whose end is the outcome
-- (proofs/Concluding.antt). Assumes nothing.
use Rattle.std.proofs.Common.{◌≡◌, Err, sym, ◌∙◌, rules}
use Rattle.circuit.specs.Passed.{lent_in}
use Rattle.aig.proofs.Passing.{passed, failed}
use Rattle.aig.proofs.Concluding.{walk_in, ends}
use Rattle.aig.proofs.renumber.Goals as goal

pub returns-in_err-checked : goal.returns-in_err-checked
returns-in_err-checked c =
    let a = c.args in
    let lent = lent_in a.circuit a.lists.now a.room in
    let refused : c.from_residual.result ≡ Err c.in_err-checked.field-0.0 = search rules in
    rw refused (failed lent _ (sym c.checked.ensures ∙ c.in_err-checked.was))

pub walk_all-end-requires : goal.walk_all-end-requires
walk_all-end-requires c =
    let a = c.args in
    let lent = lent_in a.circuit a.lists.now a.room in
    walk_in lent (passed lent (sym c.checked.ensures ∙ c.in_ok-checked.was))

pub returns : goal.returns
returns c =
    let a = c.args in
    let walks = c.walk_all-end in
    let lent = lent_in a.circuit a.lists.now a.room in
    c.conclude-answer.ensures ∙ ends lent (passed lent (sym c.checked.ensures ∙ c.in_ok-checked.was)) _ _ _ _ walks.ensures walks.auto.map walks.auto.gates_out
    walks.auto.scratch
