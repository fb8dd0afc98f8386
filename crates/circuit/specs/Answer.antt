-- What renumbering answers: what it made, or why the circuit is refused. Assumes nothing.
use Rattle.std.specs.Prelude.{Result}
use Rattle.circuit.specs.declared.Refusal.{Refusal}
use Rattle.circuit.specs.declared.Summary.{Summary}

abbrev pub Answer : Type 0
Answer = Result Summary Refusal
