-- How renumbering ends, for lists of any length. Assumes nothing.
use Rattle.std.specs.Prelude.{ℕ, ◌+◌, ◌%◌, ◌^◌, ◌≡◌, List, length, replicate, Result, Ok, Err}
use Rattle.lit.specs.Code.{variable}
use Rattle.circuit.specs.declared.Refusal.{Refusal}
use Rattle.circuit.specs.Answer.{Answer}
use Rattle.circuit.specs.Ordered.{images_in}
use Rattle.circuit.specs.Outcome.{Lent, Outcome, outcome_of, circuit_of, scratch_words, zeros, onto, cleared}
use Rattle.images.specs.Begin.{carried_onto}

-- so many gates were made after so many inputs and latches; the largest variable is the last gate's. The remainders are there so that every number is
-- answered: where check 1 has passed they change nothing
abbrev pub made_with : ℕ → ℕ → Answer
made_with sources made = Ok (record { made = made % 2 ^ 32; top = variable ((sources + made) % 2 ^ 32) })

-- what is left of what is lent, once the walks have ended, with so many gates made or refused
unfoldable pub ended : Result ℕ Refusal → Lent → Outcome
ended (Ok made) l =
    outcome_of (made_with (length l.inputs + length l.states) made) l.map (onto (images_in l.map l.nexts) l.next_images)
    (carried_onto (length l.inputs) l.resets l.reset_images) (onto (images_in l.map l.roots) l.root_images) l.gates_out (onto (zeros (scratch_words (circuit_of l))) l.scratch)
ended (Err why) l = cleared l (circuit_of l) why
