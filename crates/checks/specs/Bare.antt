-- A circuit by its record and its lists, with nothing lent to be written. Assumes nothing.
use Rattle.std.specs.Prelude.{ℕ, List, []}
use Rattle.circuit.specs.declared.CircuitRecord.{CircuitRecord}
use Rattle.circuit.specs.declared.CircuitLists.{CircuitLists}
use Rattle.circuit.specs.Circuit.{Circuit}
use Rattle.circuit.specs.Outcome.{Lent, lent_of, circuit_of}

abbrev pub bare : CircuitRecord → List ℕ → List ℕ → List ℕ → List ℕ → List ℕ → List ℕ → Lent
bare circuit inputs states nexts resets gates roots = lent_of circuit inputs states nexts resets gates roots [] [] [] [] [] []

abbrev pub circuit_in : CircuitRecord → List ℕ → List ℕ → List ℕ → List ℕ → List ℕ → List ℕ → Circuit
circuit_in circuit inputs states nexts resets gates roots = circuit_of (bare circuit inputs states nexts resets gates roots)

-- a circuit by its record and its lists, as the struct of the code holds them
abbrev pub circuit_with : CircuitRecord → CircuitLists → Circuit
circuit_with c l = circuit_in c l.inputs.now l.states.now l.nexts.now l.resets.now l.gates.now l.roots.now

-- the same with nothing lent to be written, and no reset seen
abbrev pub unset_with : CircuitRecord → CircuitLists → Lent
unset_with c l = bare c l.inputs.now l.states.now l.nexts.now [] l.gates.now l.roots.now
