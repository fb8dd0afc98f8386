-- Each contract is an equation, so it determines its answer, and of `renumber_two` each lent list too: any two outcomes that it allows for the same arguments
-- are equal. Assumes nothing.
use mathlib.Core.Path.{sym, ap, ◌∙◌}
use mathlib.Core.List.{List}
use Prim.Native.Nat.{ℕ}
use Rattle.promise.specs.Determined.{Determines, DeterminesCells}
use Rattle.aig_records.specs.Outcome.{FlatOutcome}
use Rattle.plain.proofs.reading.uint.Kinds as uint-kinds
use Rattle.plain.proofs.reading.uint.Reads as uint-promise
use Rattle.plain.proofs.reading.binary_uint.Kinds as binary-uint-kinds
use Rattle.plain.proofs.reading.binary_uint.Reads as binary-uint-promise
use Rattle.plain.proofs.reading.delta_code.Kinds as delta-code-kinds
use Rattle.plain.proofs.reading.delta_code.Reads as delta-code-promise
use Rattle.plain.proofs.reading.header_field.Kinds as header-field-kinds
use Rattle.plain.proofs.reading.header_field.Reads as header-field-promise
use Rattle.plain.proofs.reading.lit.Kinds as lit-kinds
use Rattle.plain.proofs.reading.lit.Reads as lit-promise
use Rattle.plain.proofs.reading.symbol_index.Kinds as symbol-index-kinds
use Rattle.plain.proofs.reading.symbol_index.Reads as symbol-index-promise
use Rattle.plain.proofs.reading.pair.Kinds as pair-kinds
use Rattle.plain.proofs.reading.pair.Reads as pair-promise
use Rattle.plain.proofs.reading.pair_after.Kinds as pair-after-kinds
use Rattle.plain.proofs.reading.pair_after.Reads as pair-after-promise
use Rattle.plain.proofs.reading.delta_after.Kinds as delta-after-kinds
use Rattle.plain.proofs.reading.delta_after.Reads as delta-after-promise
use Rattle.plain.proofs.records.renumber_two.Kinds as renumber-two-kinds
use Rattle.plain.proofs.records.renumber_two.Reads as renumber-two-promise

pub one_uint : Determines 1 uint-kinds.ps uint-kinds.r uint-promise.Learnt
one_uint κs a x y e f p q = p ∙ sym q

pub one_binary_uint : Determines 1 binary-uint-kinds.ps binary-uint-kinds.r binary-uint-promise.Learnt
one_binary_uint κs a x y e f p q = p ∙ sym q

pub one_delta_code : Determines 1 delta-code-kinds.ps delta-code-kinds.r delta-code-promise.Learnt
one_delta_code κs a x y e f p q = p ∙ sym q

pub one_header_field : Determines 1 header-field-kinds.ps header-field-kinds.r header-field-promise.Learnt
one_header_field κs a x y e f p q = p ∙ sym q

pub one_lit : Determines 1 lit-kinds.ps lit-kinds.r lit-promise.Learnt
one_lit κs a x y e f p q = p ∙ sym q

pub one_symbol_index : Determines 1 symbol-index-kinds.ps symbol-index-kinds.r symbol-index-promise.Learnt
one_symbol_index κs a x y e f p q = p ∙ sym q

pub one_pair : Determines 1 pair-kinds.ps pair-kinds.r pair-promise.Learnt
one_pair κs a x y e f p q = p ∙ sym q

pub one_pair_after : Determines 1 pair-after-kinds.ps pair-after-kinds.r pair-after-promise.Learnt
one_pair_after κs a x y e f p q = p ∙ sym q

pub one_delta_after : Determines 1 delta-after-kinds.ps delta-after-kinds.r delta-after-promise.Learnt
one_delta_after κs a x y e f p q = p ∙ sym q

pub one_renumber_two :
    DeterminesCells 4 renumber-two-kinds.ps renumber-two-kinds.r renumber-two-promise.Learnt
    {A = List ℕ × List ℕ × List ℕ × List ℕ × List ℕ × List ℕ × List ℕ}
    (λ κs e. (
      e.1.1.1.0.0.now,
      e.1.1.1.0.1.0.now,
      e.1.1.1.0.1.1.0.now,
      e.1.1.1.0.1.1.1.0.now,
      e.1.1.1.0.1.1.1.1.0.now,
      e.1.1.1.0.1.1.1.1.1.0.now,
      e.1.1.1.1.0.now,
    ))
one_renumber_two κs a x y e f p q = (
  ap (λ (o : FlatOutcome). o.outcome.answer) (p ∙ sym q),
  ap (λ (o : FlatOutcome). (
    o.outcome.map,
    o.outcome.next_images,
    o.outcome.reset_images,
    o.outcome.root_images,
    o.outcome.gates_out,
    o.outcome.scratch,
    o.flat,
  )) (p ∙ sym q),
)
