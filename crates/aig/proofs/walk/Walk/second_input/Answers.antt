-- `Walk::second_input`: both images are there, since the entry's inputs have been walked; so settling is the machine's step. Assumes nothing.
use mathlib.Core.Path.{sym, ◌∙◌}
use Rattle.aig.specs.Settle.{left}
use Rattle.aig.proofs.Closing.{second_none, second_reads, first_is_there, second_is_there, can_settle, second_settled}
use Rattle.aig.proofs.walk.Walk.second_input.Goals as goal

pub returns-in_default : goal.returns-in_default
returns-in_default c = λ sources o k. second_none k (sym c.gate_of.ensures ∙ c.in_default.is)

pub first_of-first-requires : goal.first_of-first-requires
first_of-first-requires c =
    second_reads c.requires.going (sym c.gate_of.ensures ∙ c.in-Some.is)

pub returns-in_default-image : goal.returns-in_default-image
returns-in_default-image c =
    λ sources o k. absurd (first_is_there k (sym c.gate_of.ensures ∙ c.in-Some.is) c.first_of-first.ensures
    c.image.ensures c.in_default-image.is)

pub second_of-second-requires : goal.second_of-second-requires
second_of-second-requires c =
    second_reads c.requires.going (sym c.gate_of.ensures ∙ c.in-Some.is)

pub returns-in_default-image-2 : goal.returns-in_default-image-2
returns-in_default-image-2 c =
    λ sources o k. absurd (second_is_there k (sym c.gate_of.ensures ∙ c.in-Some.is) c.second_of-second.ensures
    c.image-2.ensures c.in_default-image-2.is)

pub output_of-requires : goal.output_of-requires
output_of-requires c =
    second_reads c.requires.going (sym c.gate_of.ensures ∙ c.in-Some.is)

pub settle-requires : goal.settle-requires
settle-requires c =
    can_settle c.requires.going (sym c.gate_of.ensures ∙ c.in-Some.is) c.first_of-first.ensures
    c.second_of-second.ensures c.image.ensures c.image-2.ensures c.in-Some-image.is c.in-Some-image-2.is
    c.of.ensures

pub returns : goal.returns
returns c =
    λ sources o k. second_settled k (sym c.gate_of.ensures ∙ c.in-Some.is) c.first_of-first.ensures
    c.second_of-second.ensures c.image.ensures c.image-2.ensures c.in-Some-image.is c.in-Some-image-2.is
    c.of.ensures (left _ _ _ _) c.output_of.ensures (c.settle.ensures k.goes.work.made k.goes.holds.gates_made)
