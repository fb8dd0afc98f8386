-- Writing a binary AIGER file: the bytes of a circuit as we spell it, and what writing answers and leaves. Assumes nothing.
use Rattle.std.specs.Prelude.{ℕ, ◌+◌, ◌-◌, cond, List, [], ◌∷◌, ◌++◌, ltb, length, get_or, Result, Ok, Err}
use Rattle.token.specs.Format.{shortest}
use Rattle.circuit.specs.Walk.{Pair, first_code}
use Rattle.circuit.specs.Ordered.{sources_of}
use Rattle.circuit.specs.Outcome.{onto}
use Rattle.lines.specs.declared.Header.{Header}
use Rattle.lines.specs.Sections.{roots_of}
use Rattle.sections.specs.Bytes.{latches_bytes, header_bytes, roots_bytes}
use Rattle.ordered.specs.declared.given.Fault.{Fault}
use Rattle.ordered.specs.declared.given.Fault.TheVariants.{Short}
use Rattle.ordered.specs.Check.{Words, circuit_in, checked}
use Rattle.binary.specs.declared.Unwritten.{Unwritten}
use Rattle.binary.specs.File.{tag, File}

-- the header of a circuit with I inputs, this row of counts, L latches, A gates and J justice sets: M is V, which is computed
abbrev pub header_with : ℕ → List ℕ → ℕ → ℕ → ℕ → Header
header_with i counts l a j =
    record {
      top = i + l + a;
      inputs = i;
      latches = l;
      outputs = get_or counts 0 0;
      gates = a;
      bad = get_or counts 1 0;
      constraints = get_or counts 2 0;
      justice = j;
      fairness = get_or counts 3 0;
    }

abbrev pub header_for : File → Header
header_for f = header_with f.ordered.inputs f.ordered.counts (length f.ordered.nexts) (length f.ordered.gates) (length f.sizes)

-- a gate: the first input from its code, the second from the first, each delta in its fewest bytes
abbrev pub gate_bytes : ℕ → Pair → List ℕ
gate_bytes code p = shortest (code - p.larger) ++ shortest (p.larger - p.smaller)

-- gates whose codes are t, t + 2, ..
abbrev pub gates_bytes : ℕ → List Pair → List ℕ
gates_bytes t [] = []
gates_bytes t (p ∷ ps) = gate_bytes t p ++ gates_bytes (t + 2) ps

-- all parts in a row: header, latch lines with a reset only where it is not 0, the root section, gates after n inputs and latches
unfoldable pub parts_of : Header → List ℕ → List ℕ → List ℕ → List ℕ → ℕ → List Pair → List ℕ
parts_of h nexts resets sizes roots n gates =
    header_bytes tag h ++ (latches_bytes nexts resets ++ (roots_bytes h (roots_of sizes roots) ++ gates_bytes (first_code n) gates))

-- the whole file
abbrev pub file_of : File → List ℕ
file_of f =
    parts_of (header_for f) f.ordered.nexts f.ordered.resets f.sizes f.ordered.roots (sources_of f.ordered) f.ordered.gates

-- the circuit that is lent, with its sizes
abbrev pub file_in : Words → File
file_in w = record { ordered = circuit_in w; sizes = w.sizes }

-- why nothing is written, and how many bytes are needed
abbrev pub unwritten : Fault → ℕ → Result ℕ Unwritten
unwritten why needed = Err (record { why = why; needed = needed })

-- the answer, and the lent bytes afterwards
pub record Writing : Type 0 where
  pub answer : Result ℕ Unwritten
  pub bytes : List ℕ

abbrev pub wrote : Result ℕ Unwritten → List ℕ → Writing
wrote answer bytes = record { answer = answer; bytes = bytes }

-- bytes onto the front of the lent ones where they fit; else 3, how many they are, and nothing is written
abbrev pub written_to : List ℕ → List ℕ → Writing
written_to file out = cond (ltb (length out) (length file)) (wrote (unwritten Short (length file)) out) (wrote (Ok (length file)) (onto file out))

-- what is not an ordered circuit is refused, and nothing is written
abbrev pub written_as : Result (Unit {0}) Fault → List ℕ → List ℕ → Writing
written_as (Ok u) file out = written_to file out
written_as (Err why) file out = wrote (unwritten why 0) out

-- the whole: what writing the circuit into these bytes answers, and what the bytes are afterwards
unfoldable pub writing : Words → List ℕ → Writing
writing w out = written_as (checked w 0) (file_of (file_in w)) out
