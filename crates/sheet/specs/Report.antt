-- What the report program writes, as one function of the bytes that it is given. Assumes nothing.
use Rattle.std.specs.Prelude.{ℕ, ◌≡◌, ⊤, List, [], ◌∷◌, ◌++◌, Result, Ok, Err}
use Rattle.circuit.specs.Walk.{Out, reached, stopped}
use Rattle.circuit.specs.Circuit.{Circuit, renumber}
use Rattle.circuit.specs.Ordered.{Ordered, ordered_of}
use Rattle.circuit.specs.Outcome.{summary_of}
use Rattle.sheet_read.specs.declared.Faulty.{Faulty}
use Rattle.sheet_lines.specs.Lines.{refused_line}
use Rattle.sheet_lines.specs.Text.{ordered_text, refused_text}
use Rattle.sheet_read.specs.Sheet.{read_of}
use Rattle.sheet.specs.Circuit.{circuit_on}

-- an ordered circuit
unfoldable pub text_of : Ordered → List ℕ
text_of O = ordered_text (summary_of O) O.inputs O.nexts O.gates O.roots

-- what renumbering comes to
abbrev pub out_text : Circuit → Out → List ℕ
out_text C (reached w) = text_of (ordered_of C w)
out_text C (stopped why) = refused_text why

-- a faulty sheet is refused; a whole one has a circuit, which is renumbered
abbrev pub read_text : Result ⊤ Faulty → Circuit → List ℕ
read_text (Err e) C = refused_line e.number e.beside
read_text (Ok u) C = out_text C (renumber C)

-- the text for a sheet
unfoldable pub report_of : List ℕ → List ℕ
report_of s = read_text (read_of s).reading (circuit_on (read_of s).header (read_of s).codes)

-- a newline stands last
pub record Ends (bs : List ℕ) : Type 0 where
  pub front : List ℕ
  pub last : bs ≡ front ++ (10 ∷ [])
