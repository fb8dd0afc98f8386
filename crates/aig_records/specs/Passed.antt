-- What is lent where the gates are records, as the structs of the code hold it. Assumes nothing.
use Rattle.circuit.specs.declared.CircuitRecord.{CircuitRecord}
use Rattle.circuit.specs.declared.CircuitRoom.{CircuitRoom}
use Rattle.circuit.specs.Outcome.{Lent, lent_of}
use Rattle.aig_records.specs.declared.RecordLists.{RecordLists}
use Rattle.aig_records.specs.Records.{flat_of}

-- all that is lent, with the records laid flat
abbrev pub lent_in : CircuitRecord → RecordLists → CircuitRoom → Lent
lent_in c l r =
    lent_of c l.inputs.now l.states.now l.nexts.now l.resets.now (flat_of l.gates.now) l.roots.now r.map.now r.next_images.now
    r.reset_images.now r.root_images.now r.gates_out.now r.scratch.now
