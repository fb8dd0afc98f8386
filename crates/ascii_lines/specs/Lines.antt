-- What the text form of an AIGER file has beside what both forms share: lines that define a literal, of inputs, latches and gates. Assumes nothing.
use Rattle.std.specs.Prelude.{ℕ, true, List, map}
use Rattle.token.specs.Answer.{lit_at}
use Rattle.circuit.specs.Graph.{Gate}
use Rattle.lines.specs.Reading.{Read, got, ◌▸◌, row_at}
use Rattle.lines.specs.Lines.{space_at, newline_at, number_of, latch_at}
use Rattle.lines.specs.Sections.{count_at}

-- a literal that a line defines: a number, not 0 (13), not odd (14), and then within the limit (12)
unfoldable pub defined_at : List ℕ → ℕ → ℕ → Read ℕ
defined_at s limit at = number_of at (lit_at s at limit true)

-- inputs

-- an input's line
unfoldable pub input_at : List ℕ → ℕ → ℕ → Read ℕ
input_at s limit at = defined_at s limit at ▸ λ v at₁. newline_at s at₁ ▸ λ _ at₂. got v at₂

-- n such lines
unfoldable pub inputs_at : List ℕ → ℕ → ℕ → ℕ → Read (List ℕ)
inputs_at s limit n at = row_at (λ k. input_at s limit) 0 n at

-- latches

-- what a latch's line holds: its state, its next state and its reset
pub record Stated : Type 0 where
  pub state : ℕ
  pub next : ℕ
  pub reset : ℕ

abbrev pub stated_latch : ℕ → ℕ → ℕ → Stated
stated_latch state next reset = record { state = state; next = next; reset = reset }

-- the states of latch lines, their next states, and their resets
abbrev pub states_of : List Stated → List ℕ
states_of ls = map (λ l. l.state) ls

abbrev pub nexts_of : List Stated → List ℕ
nexts_of ls = map (λ l. l.next) ls

abbrev pub resets_of : List Stated → List ℕ
resets_of ls = map (λ l. l.reset) ls

-- a latch's line: its state, a space, and the rest as in the binary form, where the state is the latch's literal: its next state, and its reset
unfoldable pub stated_at : List ℕ → ℕ → ℕ → Read Stated
stated_at s limit at =
    defined_at s limit at ▸ λ state at₁.
    space_at s at₁ ▸ λ _ at₂.
    latch_at s limit state at₂ ▸ λ l at₃.
    got (stated_latch state l.next l.reset) at₃

-- n such lines
unfoldable pub latches_at : List ℕ → ℕ → ℕ → ℕ → Read (List Stated)
latches_at s limit n at = row_at (λ k. stated_at s limit) 0 n at

-- gates

abbrev pub gate_with : ℕ → ℕ → ℕ → Gate
gate_with output first second = record { output = output; first = first; second = second }

-- the rest of a gate's line behind its output: its two inputs, a space before each, and the newline
unfoldable pub input_pair_at : List ℕ → ℕ → ℕ → ℕ → Read Gate
input_pair_at s limit output at =
    count_at s limit at ▸ λ first at₁.
    count_at s limit at₁ ▸ λ second at₂.
    newline_at s at₂ ▸ λ _ at₃.
    got (gate_with output first second) at₃

-- a gate's line: its output, which it defines, and its two inputs
unfoldable pub gate_at : List ℕ → ℕ → ℕ → Read Gate
gate_at s limit at = defined_at s limit at ▸ λ output at₁. input_pair_at s limit output at₁

-- m such lines, in any order
unfoldable pub gates_at : List ℕ → ℕ → ℕ → ℕ → Read (List Gate)
gates_at s limit m at = row_at (λ k. gate_at s limit) 0 m at
