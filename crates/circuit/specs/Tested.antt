-- Checks 1 to 4 and 22 as renumbering computes them: words that proofs hand on. That they say what `Passes` says is proofs/Demands.antt's `tests_exactly`. Assumes
-- nothing.
use Rattle.std.specs.Prelude.{◌+◌, ◌*◌, ◌≡◌, false, None}
use Rattle.circuit.specs.Circuit.{Circuit, codes, first_over, first_stray}
use Rattle.circuit.specs.Outcome.{Lent, circuit_of, too_big, misshapen, too_short}
use Rattle.circuit.specs.Claims.{AllWithin}

-- checks 1 to 3 are passed
pub record Fits (l : Lent) : Type 0 where
  pub one : too_big (circuit_of l) ≡ false
  pub two : misshapen l ≡ false
  pub three : too_short l (circuit_of l) ≡ false

-- and checks 4 and 22 too
pub record Tested (l : Lent) : Type 0 where
  pub fits : Fits l
  pub four : first_over (2 * (circuit_of l).top + 1) (codes (circuit_of l)) ≡ None
  pub twenty_two : first_stray l.states l.resets ≡ None

-- check 4 of the one list that it goes through
abbrev pub InBounds : Circuit → Type 0
InBounds C = AllWithin (2 * C.top + 1) (codes C)
