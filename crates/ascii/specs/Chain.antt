-- From the bytes of a text to those of a binary file, and back: the text is read, its lists are lent to renumbering, the result is written as binary, and that
-- is read; and how it ends. Assumes nothing.
use Rattle.std.specs.Prelude.{ℕ, ◌+◌, ◌*◌, ◌<◌, ◌≤◌, ◌≡◌, Bool, false, List, length, take, get_or, Ok, Err}
use Rattle.lit.specs.Code.{variable}
use Rattle.circuit.specs.declared.Refusal.{Refusal}
use Rattle.circuit.specs.declared.Summary.{Summary}
use Rattle.circuit.specs.Graph.{Graph}
use Rattle.circuit.specs.Walk.{stopped}
use Rattle.circuit.specs.Circuit.{graph, renumber}
use Rattle.circuit.specs.Ordered.{Ordered, ordered_graph}
use Rattle.circuit.specs.Outcome as C
use Rattle.circuit.specs.Outcome.{Lent, lent_of, total, held}
use Rattle.circuit.specs.Claims.{first_value, SameValue, Late}
use Rattle.lines.specs.declared.Fault.{Fault}
use Rattle.lines.specs.Reading.{got, no}
use Rattle.binary.specs.File as B
use Rattle.binary.specs.Sound.{result_with}
use Rattle.binary.specs.Write.{file_of}
use Rattle.binary.specs.Archive.{archiving, FitsOrShort}
use Rattle.ascii.specs.declared.TextRead.{TextRead}
use Rattle.ascii.specs.Text.{Text, circuit_in, read_text}
use Rattle.ascii.specs.Promise.{Lists, room_of, numbers, Outcome, left, outcome}

-- what a caller lends on the way beside the bytes: the lists of the text, those that renumbering writes, the flags; and how many cells the lists have into
-- which the binary file is read back
pub record Lending : Type 0 where
  pub text : Lists
  pub map : List ℕ
  pub next_images : List ℕ
  pub reset_images : List ℕ
  pub root_images : List ℕ
  pub gates_out : List ℕ
  pub scratch : List ℕ
  pub trim : Bool
  pub hash : Bool
  pub fold : Bool
  pub back : B.Room

-- after a reading that left r renumbering is lent the numbers that reading answered, the fronts of the lists that it left, and the lists to be written: V is M
abbrev pub handed : Outcome → Lending → Lent
handed r g =
    let n = numbers r.read in
    lent_of (record { top = variable n.top; counts = n.counts; trim = g.trim; hash = g.hash; fold = g.fold })
    (take n.inputs r.lists.inputs) (take n.latches r.lists.states) (take n.latches r.lists.nexts)
    (take n.latches r.lists.resets) (take (3 * n.gates) r.lists.gates) (take (total n.counts) r.lists.roots) g.map
    g.next_images g.reset_images g.root_images g.gates_out g.scratch

abbrev pub handed_from : List ℕ → Lending → Lent
handed_from bytes g = handed (outcome bytes g.text) g

-- the lists behind the text's are long enough for what was read
pub record Enough (r : TextRead) (g : Lending) : Type 0 where
  pub map : r.top + 1 ≤ length g.map
  pub nexts : r.latches ≤ length g.next_images
  pub resets : r.latches ≤ length g.reset_images
  pub roots : total r.counts ≤ length g.root_images
  pub gates : 2 * r.gates ≤ length g.gates_out
  pub scratch : 3 * r.top + 3 + 3 * r.gates ≤ length g.scratch
  pub back_nexts : r.latches ≤ g.back.nexts
  pub back_resets : r.latches ≤ g.back.resets
  pub back_gates : 2 * r.gates ≤ g.back.gates
  pub back_sizes : r.sets ≤ g.back.sizes
  pub back_roots : total r.counts ≤ g.back.roots

-- what means something of a text, under any flags
abbrev pub text_graph : Text → Graph
text_graph t = graph (circuit_in t false false false)

-- D has the text's numbers of inputs, latches and roots; each next state and root of it has, under every setting of inputs and latches, the value of the one
-- at its place in the text; and each latch has the first value that it has there: 0, 1 or free
pub record KeepsText (t : Text) (D : Ordered) : Type 0 where
  pub inputs : D.inputs ≡ length t.inputs
  pub latches : length D.nexts ≡ length t.states
  pub counts : D.counts ≡ t.counts
  pub root_count : length D.roots ≡ length t.roots
  pub firsts : (j : ℕ) → j < length t.states → first_value (get_or D.resets j 0) ≡ first_value (get_or t.resets j 0)
  pub nexts : (given : ℕ → Bool) (j : ℕ) → j < length t.states
      → SameValue (text_graph t) (ordered_graph D) given (get_or t.nexts j 0) (get_or D.nexts j 0)
  pub roots : (given : ℕ → Bool) (j : ℕ) → j < length t.roots
      → SameValue (text_graph t) (ordered_graph D) given (get_or t.roots j 0) (get_or D.roots j 0)

-- n bytes are written of what was made, and reading these gives a file that keeps the text, with its justice sizes
pub record Returns (t : Text) (made : B.File) (out : List ℕ) (room : B.Room) : Type 0 where
  pub bytes : ℕ
  pub file : B.File
  pub written : (archiving made out).answer ≡ Ok bytes
  pub read : B.read_file (take bytes (archiving made out).bytes) room ≡ got file bytes
  pub keeps : KeepsText t file.ordered
  pub sizes : file.sizes ≡ t.sizes

-- the three ends
pub data Chain (bytes : List ℕ) (g : Lending) (out : List ℕ) : Type 0 where
  -- the text is refused, and its lists are cleared
  refused : (why : Fault) (place : ℕ) → outcome bytes g.text ≡ left (no why place) g.text → Chain bytes g out
  -- it is read as t, and renumbering refuses t's lists as document 01 does: by 5, 6, 7 or 8, with its literal
  unordered : (t : Text) (used : ℕ) → read_text bytes (room_of g.text) ≡ got t used → (r : Refusal)
      → renumber (circuit_in t g.trim g.hash g.fold) ≡ stopped r → Late r → (C.outcome (handed_from bytes g)).answer ≡ Err r → Chain bytes g out
  -- it is read as t and renumbered, and what is made keeps t; with t's justice sizes nothing but too few bytes can be wrong with writing it, and where they
  -- suffice it returns
  archived : (t : Text) (used : ℕ) → read_text bytes (room_of g.text) ≡ got t used → (s : Summary)
      → (C.outcome (handed_from bytes g)).answer ≡ Ok s → KeepsText t (held (handed_from bytes g) s (C.outcome (handed_from bytes g)))
      → FitsOrShort (result_with (handed_from bytes g) s t.sizes) (archiving (result_with (handed_from bytes g) s t.sizes) out).answer
      → (length (file_of (result_with (handed_from bytes g) s t.sizes)) ≤ length out → Returns t (result_with (handed_from bytes g) s t.sizes) out g.back)
      → Chain bytes g out
