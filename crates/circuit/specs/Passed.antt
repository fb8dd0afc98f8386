-- What is lent to be read and to be written, as the structs of the code hold it. Assumes nothing.
use Rattle.std.specs.Prelude.{ℕ, List}
use denote.MutBor.{MutBor}
use Rattle.circuit.specs.declared.CircuitRecord.{CircuitRecord}
use Rattle.circuit.specs.declared.CircuitLists.{CircuitLists}
use Rattle.circuit.specs.declared.CircuitRoom.{CircuitRoom}
use Rattle.circuit.specs.Answer.{Answer}
use Rattle.circuit.specs.Outcome.{Lent, lent_of, Outcome, outcome_of}

-- all that is lent: a circuit, its lists, and the lists that are written, as they came in
abbrev pub lent_in : CircuitRecord → CircuitLists → CircuitRoom → Lent
lent_in c l r =
    lent_of c l.inputs.now l.states.now l.nexts.now l.resets.now l.gates.now l.roots.now r.map.now r.next_images.now r.reset_images.now
    r.root_images.now r.gates_out.now r.scratch.now

-- the written lists as a call leaves them, in the order of the struct
abbrev pub RoomLeft : Type 0
RoomLeft =
    MutBor (List ℕ) × (MutBor (List ℕ) × (MutBor (List ℕ) × (MutBor (List ℕ) × (MutBor (List ℕ) × (MutBor (List ℕ) × Unit {0})))))

-- an answer, and the written lists afterwards
abbrev pub left_in : Answer → RoomLeft → Outcome
left_in answer e = outcome_of answer e.0.now e.1.0.now e.1.1.0.now e.1.1.1.0.now e.1.1.1.1.0.now e.1.1.1.1.1.0.now
