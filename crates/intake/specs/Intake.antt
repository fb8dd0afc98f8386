-- The words of what intake promises, said of bytes: proofs/Intake.antt has the theorems. Assumes nothing.
use Rattle.std.specs.Prelude.{ℕ, ◌+◌, ◌*◌, ◌/◌, ◌<◌, ◌≤◌, ◌≡◌, ◌≢◌, true, List, length, get_or, take}
use Rattle.lit.specs.Code.{is_odd}
use Rattle.circuit.specs.declared.Refusal.TheVariants as R
use Rattle.circuit.specs.Walk.{Work, reached}
use Rattle.circuit.specs.Circuit.{Circuit, renumber}
use Rattle.circuit.specs.Ordered.{sources_of, given, ordered_of, no_pair, InOrder}
use Rattle.circuit.specs.Outcome.{limit}
use Rattle.lines.specs.Reading.{no}
use Rattle.ordered.specs.declared.given.Fault.TheVariants as G
use Rattle.ordered.specs.WellOrdered.{variables_of}
use Rattle.binary.specs.File.{File, Room, read_file}
use Rattle.binary.specs.Promise.{room_of}
use Rattle.binary.specs.Spelling.{Spells}
use Rattle.binary.specs.Known as K
use Rattle.binary.specs.Sound.{Holds}
use Rattle.binary.specs.Plain.{Plain}
use Rattle.binary.specs.Write.{file_of}
use Rattle.intake.specs.Order.{Lists, OrderAnswer, Ordered, Unread, Unordered, Unstored}

-- lists of the limits, which hold every file
abbrev pub limits : Room
limits = record { nexts = limit; resets = limit; gates = 2 * limit; sizes = limit; roots = limit }

-- the bytes begin with a file in the paper's form within the limits, n bytes long, and f is what it holds
abbrev pub Begins : List ℕ → File → ℕ → Type 0
Begins bytes f n = (n ≤ length bytes) × Spells limits f (take n bytes)

-- the circuit of a file, with the flags trim 1, hash 2 and fold 4
abbrev pub circuit_for : ℕ → File → Circuit
circuit_for flags f = given f.ordered (is_odd flags) (is_odd (flags / 2)) (is_odd (flags / 4))

-- d is f renumbered with these flags, as document 01 says it, and its justice sizes are those of f
pub record Orders (flags : ℕ) (f d : File) : Type 0 where
  pub work : Work
  pub renumbered : renumber (circuit_for flags f) ≡ reached work
  pub circuit : d.ordered ≡ ordered_of (circuit_for flags f) work
  pub sizes : d.sizes ≡ f.sizes

-- the lists behind the file's are long enough for f: those that its codes are expanded into, and those that renumbering writes
pub record LongBehind (f : File) (l : Lists) : Type 0 where
  pub input_codes : f.ordered.inputs ≤ length l.codes.inputs
  pub state_codes : length f.ordered.nexts ≤ length l.codes.states
  pub triples : 3 * length f.ordered.gates ≤ length l.codes.triples
  pub map : variables_of f.ordered + 1 ≤ length l.images.map
  pub next_images : length f.ordered.nexts ≤ length l.images.next_images
  pub reset_images : length f.ordered.nexts ≤ length l.images.reset_images
  pub root_images : length f.ordered.roots ≤ length l.images.root_images
  pub gates_out : 2 * length f.ordered.gates ≤ length l.images.gates_out
  pub scratch : 3 * variables_of f.ordered + 3 + 3 * length f.ordered.gates ≤ length l.images.scratch

-- all that success asks: flags up to 7; bytes that begin with a file; lists that are long enough for it; and bytes for the ordered file
pub record Orderable (bytes : List ℕ) (flags : ℕ) (l : Lists) : Type 0 where
  pub flags_known : flags ≤ 7
  pub file : File
  pub used : ℕ
  pub begins : Begins bytes file used
  pub holds : Holds (room_of l.file) file
  pub behind : LongBehind file l
  pub ordered : File
  pub orders : Orders flags file ordered
  pub fits : length (file_of ordered) ≤ length l.bytes

-- what an answer says
abbrev pub Says : List ℕ → ℕ → Lists → OrderAnswer → Type 0
-- success: the first bytes are a file, and those written are the file that it is renumbered to
Says bytes flags l (Ordered used written) =
    (f : File) × (d : File) × Begins bytes f used × Orders flags f d × (written ≡ length (file_of d)) × Holds (room_of l.file) f × LongBehind f l
    × (flags ≤ 7) × (written ≤ length l.bytes)
-- the file's own refusal, which comes first
Says bytes flags l (Unread why place) = read_file bytes (room_of l.file) ≡ no why place
-- 2: there is a file, and the flags are over 7
Says bytes flags l (Unordered R.Misshapen) = (f : File) × (n : ℕ) × Begins bytes f n × Holds (room_of l.file) f × (7 < flags)
-- 3 of renumbering: there is a file, the flags are taken, and a list behind the file's is too short for it
Says bytes flags l (Unordered R.Short) =
    (f : File) × (n : ℕ) × Begins bytes f n × Holds (room_of l.file) f × (flags ≤ 7) × (LongBehind f l → ⊥)
-- 3 of writing: all that is lent is long enough but for the bytes, and so many are needed
Says bytes flags l (Unstored G.Short needed) =
    (f : File) × (n : ℕ) × (d : File) × Begins bytes f n × Orders flags f d × (needed ≡ length (file_of d)) × Holds (room_of l.file) f × LongBehind f l
    × (flags ≤ 7) × (length l.bytes < needed)
-- no other refusal of renumbering or writing comes
Says bytes flags l (Unordered R.TooBig) = ⊥
Says bytes flags l (Unordered (R.Over d)) = ⊥
Says bytes flags l (Unordered (R.Reset d)) = ⊥
Says bytes flags l (Unordered (R.Again d)) = ⊥
Says bytes flags l (Unordered (R.StateAgain d)) = ⊥
Says bytes flags l (Unordered (R.Undefined d)) = ⊥
Says bytes flags l (Unordered (R.Cycle d)) = ⊥
Says bytes flags l (Unstored G.TooBig needed) = ⊥
Says bytes flags l (Unstored G.Misshapen needed) = ⊥
Says bytes flags l (Unstored (G.Over d) needed) = ⊥
Says bytes flags l (Unstored (G.Reset d) needed) = ⊥
Says bytes flags l (Unstored (G.Disordered d) needed) = ⊥

-- of the file that is written: every gate's code exceeds its first input, which is not below its second; no optional count, reset field or delta is longer than it
-- has to be, so that no bytes that spell it are fewer; and with hashing no two gates are alike
pub record IsOrdered (flags : ℕ) (d : File) (w : List ℕ) : Type 0 where
  pub in_order : InOrder (sources_of d.ordered) d.ordered.gates
  pub plain : (t : Spells limits d w) → Plain limits d w t
  pub fewest : (v : List ℕ) → Spells limits d v → length w ≤ length v
  pub no_twins : is_odd (flags / 2) ≡ true → (i j : ℕ) → i < j → j < length d.ordered.gates
      → get_or d.ordered.gates i no_pair ≢ get_or d.ordered.gates j no_pair

-- lists and bytes that are long enough for every file: as many words as the limits ask, and 76 + 8 * 4 * 1,048,575 bytes
pub record Ample (l : Lists) : Type 0 where
  pub file : K.Ample (room_of l.file)
  pub input_codes : limit ≤ length l.codes.inputs
  pub state_codes : limit ≤ length l.codes.states
  pub triples : 3 * limit ≤ length l.codes.triples
  pub map : limit + 1 ≤ length l.images.map
  pub next_images : limit ≤ length l.images.next_images
  pub reset_images : limit ≤ length l.images.reset_images
  pub root_images : limit ≤ length l.images.root_images
  pub gates_out : 2 * limit ≤ length l.images.gates_out
  pub scratch : 6 * limit + 3 ≤ length l.images.scratch
  pub bytes : 76 + 8 * (4 * limit) ≤ length l.bytes
