-- Gates laid flat. Assumes nothing.
use Rattle.std.specs.Prelude.{ℕ, ◌*◌, List, [], ◌∷◌, ◌++◌, drop, take}
use Rattle.lit.specs.Code.{literal}
use Rattle.aig_records.specs.declared.GateRecord.{GateRecord}

-- the codes of a gate as words: its output, its first input, its second
abbrev pub record_words : GateRecord → List ℕ
record_words g = g.output.0 ∷ g.first.0 ∷ g.second.0 ∷ []

-- gates laid flat, one after the other
abbrev pub flat_of : List GateRecord → List ℕ
flat_of [] = []
flat_of (g ∷ gs) = record_words g ++ flat_of gs

-- the first gates, laid flat, onto the front of words
abbrev pub laid_onto : ℕ → List GateRecord → List ℕ → List ℕ
laid_onto count gs ws = flat_of (take count gs) ++ drop (count * 3) ws

-- what stands past the end of a list of gates: nothing asks for it
abbrev pub no_gate : GateRecord
no_gate = record { output = literal 0; first = literal 0; second = literal 0 }
