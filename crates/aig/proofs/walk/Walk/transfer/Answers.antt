-- `Walk::transfer`: each return is a case of the machine's look at a literal, tested in its order. Assumes nothing.
use mathlib.Core.Path.{ap, sym, ◌∙◌}
use Rattle.std.specs.Option.{is_some}
use Rattle.aig.proofs.Transferring.{transfer_mapped, transfer_cycle, transfer_undefined, transfer_room, transfer_enter, as_transfer}
use Rattle.aig.proofs.Reading.{transfer_reads, transfer_depth}
use Rattle.aig.proofs.walk.Walk.transfer.Goals as goal

pub returns-then-is_some : goal.returns-then-is_some
returns-then-is_some c =
    λ out sources o k. transfer_mapped k (sym (c.is_some.ensures ∙ ap is_some c.image.ensures) ∙ c.if-is_some.true)

pub middle-requires : goal.middle-requires
middle-requires c =
    let p = c.requires in
    ((transfer_reads p.1).room, transfer_depth p.1)

pub returns-then-middle : goal.returns-then-middle
returns-then-middle c =
    λ out sources o k. transfer_cycle k (sym (c.is_some.ensures ∙ ap is_some c.image.ensures) ∙ c.if-is_some.false)
    (sym c.middle.ensures ∙ c.if-middle.true)

pub returns-in_default : goal.returns-in_default
returns-in_default c =
    λ out sources o k. transfer_undefined k (sym (c.is_some.ensures ∙ ap is_some c.image.ensures) ∙ c.if-is_some.false)
    (sym c.middle.ensures ∙ c.if-middle.false) (sym c.gate_of.ensures ∙ c.in_default.is)

pub push-requires : goal.push-requires
push-requires c =
    let p = c.requires in
    let room =
    transfer_room p.1.going (sym (c.is_some.ensures ∙ ap is_some c.image.ensures) ∙ c.if-is_some.false) (sym c.middle.ensures ∙ c.if-middle.false)
    (sym c.gate_of.ensures ∙ c.in-Some.is) in
    ((transfer_reads p.1).room, room, (transfer_reads p.1).code)

pub first_of-requires : goal.first_of-requires
first_of-requires c =
    (transfer_reads c.requires.1).number _ (sym c.gate_of.ensures ∙ c.in-Some.is)

pub returns : goal.returns
returns c =
    λ out sources o k. as_transfer c.deeper.ensures c.first_of.ensures c.push.ensures
    (transfer_enter k (sym (c.is_some.ensures ∙ ap is_some c.image.ensures) ∙ c.if-is_some.false) (sym c.middle.ensures ∙ c.if-middle.false)
    (sym c.gate_of.ensures ∙ c.in-Some.is))
