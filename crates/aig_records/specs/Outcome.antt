-- The whole of renumbering where the gates are records: as with the records laid flat, and what the last lent list is afterwards. Assumes nothing.
use Rattle.std.specs.Prelude.{ℕ, Bool, cond, not, ◌&&◌, List, ltb, length, Ok, Err}
use Rattle.circuit.specs.declared.Refusal.TheVariants.{Short}
use Rattle.circuit.specs.Answer.{Answer}
use Rattle.circuit.specs.Outcome.{Lent, Outcome, circuit_of, too_big, misshapen, onto, zeros, untouched, is_early, outcome}
use Rattle.checks.specs.Checks.{Check}

-- the outcome, and the last list afterwards
pub record FlatOutcome : Type 0 where
  pub outcome : Outcome
  pub flat : List ℕ

abbrev pub with_flat : Outcome → List ℕ → FlatOutcome
with_flat o flat = record { outcome = o; flat = flat }

-- below, the records stand in what is lent as they are laid flat

-- check 3 where only the last list is asked: 1 and 2 come before it
unfoldable pub flat_short : Lent → List ℕ → Bool
flat_short l flat = not (too_big (circuit_of l)) && not (misshapen l) && ltb (length flat) (length l.gates)

-- words of it that the records took are 0 afterwards, unless nothing was written
abbrev pub flat_after : Lent → Answer → List ℕ → List ℕ
flat_after l (Ok s) flat = onto (zeros (length l.gates)) flat
flat_after l (Err why) flat = cond (is_early why) flat (onto (zeros (length l.gates)) flat)

-- the whole
unfoldable pub outcome_of_records : Lent → List ℕ → FlatOutcome
outcome_of_records l flat = cond (flat_short l flat) (with_flat (untouched l Short) flat) (with_flat (outcome l) (flat_after l (outcome l).answer flat))

-- what is left to do once the checks are made and the records laid flat
abbrev pub finished : Check → Lent → List ℕ → FlatOutcome
finished (Ok u) l flat = with_flat (outcome l) (onto (zeros (length l.gates)) flat)
finished (Err why) l flat = with_flat (untouched l why) flat
