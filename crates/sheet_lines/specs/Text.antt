-- The text of an answer: its lines, one after the other. Assumes nothing.
use Rattle.std.specs.Prelude.{ℕ, ◌+◌, List, ◌++◌, length}
use Rattle.circuit.specs.declared.Refusal.{Refusal}
use Rattle.circuit.specs.declared.Summary.{Summary}
use Rattle.circuit.specs.Refusals.{refusal_number, refusal_literal}
use Rattle.circuit.specs.Walk.{Pair, first_code}
use Rattle.circuit.specs.Ordered.{gates_from}
use Rattle.sheet_lines.specs.Lines.{refused_line, ordered_line, gate_line, image_line, next_letter, root_letter, each}

-- a success, by its summary, the number of inputs, the images of next states, the gates made and the images of roots: the first line, then a gate a
-- line, next states, roots
unfoldable pub ordered_text : Summary → ℕ → List ℕ → List Pair → List ℕ → List ℕ
ordered_text s inputs nexts gates roots =
    ordered_line s.top.0 inputs (length nexts) s.made
    ++ (each gate_line (gates_from (first_code (inputs + length nexts)) gates)
    ++ (each (image_line next_letter) nexts ++ each (image_line root_letter) roots))

-- a refusal, and the literal at fault; 0 beside 1 to 3
unfoldable pub refused_text : Refusal → List ℕ
refused_text why = refused_line (refusal_number why) (refusal_literal why).0
