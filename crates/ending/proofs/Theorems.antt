-- Any two outcomes that the contract of this crate's public function allows for the same arguments are equal: the answer, and each lent word. Assumes
-- nothing.
use Prim.Native.Nat.{ℕ}
use mathlib.Core.Path.{sym, ◌∙◌, ap}
use mathlib.Core.List.{List}
use Rattle.promise.specs.Determined.{DeterminesCells}
use Rattle.circuit.specs.Outcome.{Outcome}
use Rattle.ending.proofs.conclude.Kinds as conclude-kinds
use Rattle.ending.proofs.conclude.Reads as conclude-contract

pub one_conclude :
    DeterminesCells 3 conclude-kinds.ps conclude-kinds.r conclude-contract.Learnt {A = List ℕ × List ℕ × List ℕ × List ℕ × List ℕ × List ℕ}
    (λ κs e. (
      e.1.1.1.0.0.now,
      e.1.1.1.0.1.0.now,
      e.1.1.1.0.1.1.0.now,
      e.1.1.1.0.1.1.1.0.now,
      e.1.1.1.0.1.1.1.1.0.now,
      e.1.1.1.0.1.1.1.1.1.0.now,
    ))
one_conclude κs a x y e f p q = (
  ap (λ (o : Outcome). o.answer) (p ∙ sym q),
  ap (λ (o : Outcome). (o.map, o.next_images, o.reset_images, o.root_images, o.gates_out, o.scratch)) (p ∙ sym q),
)
