-- Writing a text AIGER file: the bytes of an ordered circuit as we spell it, and what writing answers and leaves. Assumes nothing.
use Rattle.std.specs.Prelude.{ℕ, ◌+◌, List, [], ◌∷◌, ◌++◌}
use Rattle.token.specs.Format.{digits_of}
use Rattle.circuit.specs.Walk.{Pair, first_code}
use Rattle.circuit.specs.Ordered.{first_latch, count_from, sources_of}
use Rattle.lines.specs.declared.Header.{Header}
use Rattle.lines.specs.Sections.{roots_of}
use Rattle.sections.specs.Bytes.{lines_bytes, count_bytes, latch_bytes, header_bytes, roots_bytes}
use Rattle.ordered.specs.Check.{Words, checked}
use Rattle.binary.specs.File.{File}
use Rattle.binary.specs.Write.{header_for, file_in, Writing, written_as}
use Rattle.ascii.specs.Tag.{tag}

-- the lines of n inputs: 2, 4, ..
unfoldable pub input_lines : ℕ → List ℕ
input_lines n = lines_bytes (count_from 2 n)

-- a latch's line: the digits of its state, a space, and the rest as in the binary form
unfoldable pub stated_bytes : ℕ → ℕ → ℕ → List ℕ
stated_bytes state next reset = digits_of state ++ (32 ∷ latch_bytes next reset)

-- the lines of latches whose states are t, t + 2, .., from next states and resets side by side, as long as both last
abbrev pub stated_lines : ℕ → List ℕ → List ℕ → List ℕ
stated_lines t [] resets = []
stated_lines t (n ∷ ns) [] = []
stated_lines t (n ∷ ns) (r ∷ rs) = stated_bytes t n r ++ stated_lines (t + 2) ns rs

-- a gate's line: the digits of its output, its two inputs with a space before each, a newline
unfoldable pub gate_line : ℕ → ℕ → ℕ → List ℕ
gate_line output first second = digits_of output ++ (count_bytes first ++ (count_bytes second ++ (10 ∷ [])))

-- the lines of gates whose outputs are t, t + 2, ..
abbrev pub gate_lines : ℕ → List Pair → List ℕ
gate_lines t [] = []
gate_lines t (p ∷ ps) = gate_line t p.larger p.smaller ++ gate_lines (t + 2) ps

-- all parts in a row: header, input lines, latch lines with a reset only where it is not 0, the root section, the lines of gates after n inputs and latches
unfoldable pub parts_of : Header → List ℕ → List ℕ → List ℕ → List ℕ → ℕ → List Pair → List ℕ
parts_of h nexts resets sizes roots n gates =
    header_bytes tag h
    ++ (input_lines h.inputs
    ++ (stated_lines (first_latch h.inputs) nexts resets ++ (roots_bytes h (roots_of sizes roots) ++ gate_lines (first_code n) gates)))

-- the whole text of an ordered circuit with its justice sizes
abbrev pub text_of : File → List ℕ
text_of f =
    parts_of (header_for f) f.ordered.nexts f.ordered.resets f.sizes f.ordered.roots (sources_of f.ordered) f.ordered.gates

-- the whole: what writing the circuit into these bytes answers, and what the bytes are afterwards; refusals as of the binary form
unfoldable pub writing : Words → List ℕ → Writing
writing w out = written_as (checked w 0) (text_of (file_in w)) out
