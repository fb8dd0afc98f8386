-- With trim, hash and fold off a well ordered circuit comes out of renumbering as it went in: it passes the checks, so that renumbering is the walk; nothing stands
-- for a gate already where hashing and folding are off; and the walk of an ordered circuit whose gates are each new gives it back (`second`). Assumes nothing.
use Prim.Native.Nat.{◌≤◌}
use mathlib.Core.Path.{◌≡◌, refl, ◌∙◌}
use mathlib.Core.Bool.{Bool, false}
use native.Mathlib.Omega.{arith}
use Rattle.circuit.specs.Map.{no_image}
use Rattle.circuit.specs.Walk.{Work, reached, first_code, next_code, already}
use Rattle.circuit.specs.Circuit.{Circuit, net, renumber}
use Rattle.circuit.specs.Ordered.{Ordered, ordered_of, sources_of, given}
use Rattle.circuit.specs.Invariant.{Fresh}
use Rattle.circuit.proofs.Listed.{of_bounded}
use Rattle.circuit.proofs.Renumber.{passing}
use Rattle.circuit.proofs.Second.{second}
use Rattle.ordered.specs.WellOrdered.{WellOrdered}
use Rattle.ordered.proofs.Passing.{bounded, once}

module _ (O : Ordered) (k : WellOrdered O) where
  -- codes stay below the word for no image
  few : next_code (sources_of O) O.gates ≤ no_image
  unfolding next_code first_code
  few = omega (arith, k.variables)

  -- where each gate is new, whatever the flags for hashing and folding
  pub new_comes_back : (hash fold : Bool) → Fresh (net (given O false hash fold)) O.gates
      → (w : Work) × (renumber (given O false hash fold) ≡ reached w) × (ordered_of (given O false hash fold) w ≡ O)
  unfolding given
  new_comes_back hash fold fresh =
      let C : Circuit = given O false hash fold in
      let s = second O hash fold few k.gates k.nexts k.roots k.reset_count k.resets fresh in
      (s.0, passing C (of_bounded C (bounded O k false hash fold), k.resets) (once O k false hash fold) ∙ s.1, s.3)

  -- with neither each gate is
  pub comes_back : (w : Work) × (renumber (given O false false false) ≡ reached w) × (ordered_of (given O false false false) w ≡ O)
  unfolding given already
  comes_back = new_comes_back false false (λ j h. refl)
