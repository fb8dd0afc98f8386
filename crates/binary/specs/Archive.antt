-- The archive: what renumbering leaves is written, and read back; and the whole way from one file to another. Assumes nothing.
use Rattle.std.specs.Prelude.{ℕ, ◌≤◌, ◌≡◌, List, length, take, Result, Ok}
use Rattle.circuit.specs.declared.Summary.{Summary}
use Rattle.circuit.specs.Outcome as C
use Rattle.circuit.specs.Outcome.{held}
use Rattle.lines.specs.declared.Fault.{Fault}
use Rattle.lines.specs.Reading.{got, no}
use Rattle.ordered.specs.declared.given.Fault.TheVariants.{Short}
use Rattle.ordered.specs.Check.{words_of}
use Rattle.ordered.specs.Keeps.{Keeps}
use Rattle.binary.specs.declared.Unwritten.{Unwritten}
use Rattle.binary.specs.File.{File, Room, read_file}
use Rattle.binary.specs.Promise.{room_of, left, outcome}
use Rattle.binary.specs.Write.{file_of, unwritten, Writing, writing}
use Rattle.binary.specs.Way.{Lending, handed_from}
use Rattle.binary.specs.Sound.{result_with}

-- a circuit with its sizes is written into the lent bytes
abbrev pub archiving : File → List ℕ → Writing
archiving f out = writing (words_of f.ordered f.sizes) out

-- nothing but too few bytes can be wrong: its bytes are written, or 3 says how many they are
pub data FitsOrShort (f : File) : Result ℕ Unwritten → Type 0 where
  fits : FitsOrShort f (Ok (length (file_of f)))
  short : FitsOrShort f (unwritten Short (length (file_of f)))

-- n bytes are written, and reading these with lists that hold the circuit gives it back, every byte used
pub record ReadsBack (f : File) (out : List ℕ) (room : Room) : Type 0 where
  pub bytes : ℕ
  pub written : (archiving f out).answer ≡ Ok bytes
  pub read : read_file (take bytes (archiving f out).bytes) room ≡ got f bytes

-- it is written where the bytes suffice, and then it reads back
pub record Stored (f : File) (out : List ℕ) (room : Room) : Type 0 where
  pub answer : FitsOrShort f (archiving f out).answer
  pub reads_back : length (file_of f) ≤ length out → ReadsBack f out room

-- file in, file out: the bytes are refused, and the lists that they are read into cleared; or they are read as f and renumbered, and the result is stored
-- with f's sizes and reads back into the same lists: an ordered circuit in which each next state and root has the value that f gives it, and each latch its first value
pub data Archived (bytes : List ℕ) (g : Lending) (out : List ℕ) : Type 0 where
  refused : (why : Fault) (place : ℕ) → outcome bytes g.file ≡ left (no why place) g.file → Archived bytes g out
  archived : (f : File) (used : ℕ) → read_file bytes (room_of g.file) ≡ got f used → (s : Summary)
      → (C.outcome (handed_from bytes g)).answer ≡ Ok s → Stored (result_with (handed_from bytes g) s f.sizes) out (room_of g.file)
      → Keeps f.ordered (held (handed_from bytes g) s (C.outcome (handed_from bytes g))) → Archived bytes g out
