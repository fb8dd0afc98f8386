-- What follows of the contract: it allows one outcome, and its number is 0 exactly where intake succeeds (`zero_exactly`). Calls by example, with every word, stand in
-- Pins. Assumes nothing.
pub use Rattle.intake_words.proofs.Zero.{zero_exactly}
use Prim.Native.Nat.{ℕ}
use mathlib.Core.Path.{sym, ◌∙◌, ap}
use mathlib.Core.List.{List}
use Rattle.promise.specs.Determined.{DeterminesCells}
use Rattle.intake_words.specs.Order.{OrderSeen}
use Rattle.intake_words.proofs.order.Kinds as order-kinds
use Rattle.intake_words.proofs.order.Reads as order-contract

-- any two outcomes that the contract allows for the same arguments are equal: the number, each of the fourteen lists, each lent byte, and the answer words
pub one_order :
    DeterminesCells 17 order-kinds.ps order-kinds.r order-contract.Learnt
    {A = List ℕ × List ℕ × List ℕ × List ℕ × List ℕ × List ℕ × List ℕ × List ℕ × List ℕ × List ℕ × List ℕ × List ℕ × List ℕ × List ℕ × List ℕ × List ℕ}
    (λ κs e. (
      e.1.1.0.now,
      e.1.1.1.0.now,
      e.1.1.1.1.0.now,
      e.1.1.1.1.1.0.now,
      e.1.1.1.1.1.1.0.now,
      e.1.1.1.1.1.1.1.0.now,
      e.1.1.1.1.1.1.1.1.0.now,
      e.1.1.1.1.1.1.1.1.1.0.now,
      e.1.1.1.1.1.1.1.1.1.1.0.now,
      e.1.1.1.1.1.1.1.1.1.1.1.0.now,
      e.1.1.1.1.1.1.1.1.1.1.1.1.0.now,
      e.1.1.1.1.1.1.1.1.1.1.1.1.1.0.now,
      e.1.1.1.1.1.1.1.1.1.1.1.1.1.1.0.now,
      e.1.1.1.1.1.1.1.1.1.1.1.1.1.1.1.0.now,
      e.1.1.1.1.1.1.1.1.1.1.1.1.1.1.1.1.0.now,
      e.1.1.1.1.1.1.1.1.1.1.1.1.1.1.1.1.1.0.now,
    ))
one_order κs a x y e f p q = (
  ap (λ (s : OrderSeen). s.number) (p ∙ sym q),
  ap (λ (s : OrderSeen). (
    s.lists.file.nexts,
    s.lists.file.resets,
    s.lists.file.gates,
    s.lists.file.sizes,
    s.lists.file.roots,
    s.lists.codes.inputs,
    s.lists.codes.states,
    s.lists.codes.triples,
    s.lists.images.map,
    s.lists.images.next_images,
    s.lists.images.reset_images,
    s.lists.images.root_images,
    s.lists.images.gates_out,
    s.lists.images.scratch,
    s.lists.bytes,
    s.words,
  )) (p ∙ sym q),
)
