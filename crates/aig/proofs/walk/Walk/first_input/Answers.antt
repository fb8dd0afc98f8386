-- `Walk::first_input`: the machine's step from a first input, with its entry's word stored anew. Assumes nothing.
use mathlib.Core.Path.{sym, ◌∙◌}
use Rattle.aig.proofs.Transferring.{first-none, first_on, as_transfer}
use Rattle.aig.proofs.Reading.{first_reads, first_depth}
use Rattle.aig.proofs.walk.Walk.first_input.Goals as goal

pub returns-in_default : goal.returns-in_default
returns-in_default c = λ map out sources o k. first-none k (sym c.gate_of.ensures ∙ c.in_default.is)

pub push-requires : goal.push-requires
push-requires c =
    let p = c.requires in
    ((first_reads p.2).room, first_depth p.2, (first_reads p.2).code)

pub second_of-requires : goal.second_of-requires
second_of-requires c =
    (first_reads c.requires.2).number _ (sym c.gate_of.ensures ∙ c.in-Some.is)

pub returns : goal.returns
returns c =
    λ map out sources o k. as_transfer c.deeper.ensures c.second_of.ensures c.push.ensures
    (first_on k (sym c.gate_of.ensures ∙ c.in-Some.is))
