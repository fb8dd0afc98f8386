-- What the contracts of this crate's public functions promise, in the customer's words: `renumber` leaves an outcome o of what it is lent, with
-- o ≡ outcome l; `lookup` answers the image in the map that is left. Assumes nothing.
use mathlib.Core.Path.{◌≡◌, sym, ◌∙◌, ap, subst⁻¹}
use mathlib.Core.List.{List}
use Prim.Native.Nat.{ℕ}
use Rattle.circuit.specs.Outcome.{Lent, Outcome, circuit_of, outcome}
use Rattle.circuit.specs.Demands.{Demands}
use Rattle.circuit.proofs.Demands.{demands}
use Rattle.promise.specs.Determined.{Determines, DeterminesCells}
use Rattle.aig.proofs.lookup.Kinds as lookup-kinds
use Rattle.aig.proofs.lookup.Reads as lookup-promise
use Rattle.aig.proofs.renumber.Kinds as renumber-kinds
use Rattle.aig.proofs.renumber.Reads as renumber-promise

-- any two outcomes that a contract allows for the same arguments are equal: the answer, and of `renumber` each lent list
pub one_lookup : Determines 1 lookup-kinds.ps lookup-kinds.r lookup-promise.Learnt
one_lookup κs a x y e f p q = p ∙ sym q

pub one_renumber :
    DeterminesCells 3 renumber-kinds.ps renumber-kinds.r renumber-promise.Learnt {A = List ℕ × List ℕ × List ℕ × List ℕ × List ℕ × List ℕ}
    (λ κs e. (
      e.1.1.0.0.now,
      e.1.1.0.1.0.now,
      e.1.1.0.1.1.0.now,
      e.1.1.0.1.1.1.0.now,
      e.1.1.0.1.1.1.1.0.now,
      e.1.1.0.1.1.1.1.1.0.now,
    ))
one_renumber κs a x y e f p q = (
  ap (λ (o : Outcome). o.answer) (p ∙ sym q),
  ap (λ (o : Outcome). (o.map, o.next_images, o.reset_images, o.root_images, o.gates_out, o.scratch)) (p ∙ sym q),
)

-- whatever `renumber` leaves of what it is lent is all that the customer demands: circuit's specs/Demands.antt says what that is. Where it says that
-- a literal has
-- an image, `HasImage`, that is what `lookup` in the map left answers, by its contract
pub renumber_demands : (l : Lent) (o : Outcome) → o ≡ outcome l → Demands l (circuit_of l) o
renumber_demands l o left = subst⁻¹ (Demands l (circuit_of l)) left (demands l)
