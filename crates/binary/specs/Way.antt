-- From the bytes of a file to an ordered result: the file is read, its gates are expanded, all is lent to renumbering; and how that ends. Assumes nothing.
use Rattle.std.specs.Prelude.{ℕ, ◌+◌, ◌*◌, ◌≤◌, ◌≡◌, Bool, List, length, take, Ok}
use Rattle.lit.specs.Code.{variable}
use Rattle.circuit.specs.declared.Summary.{Summary}
use Rattle.circuit.specs.Ordered.{Ordered, sources_of, InOrder}
use Rattle.circuit.specs.Outcome as C
use Rattle.circuit.specs.Outcome.{Lent, lent_of, total, held}
use Rattle.lines.specs.declared.Fault.{Fault}
use Rattle.lines.specs.Reading.{got, no}
use Rattle.ordered.specs.Expand as E
use Rattle.ordered.specs.Keeps.{Keeps}
use Rattle.binary.specs.declared.FileRead.{FileRead}
use Rattle.binary.specs.File.{File, read_file}
use Rattle.binary.specs.Promise.{Lists, room_of, numbers, Outcome, left, outcome}

-- what a caller lends on the way beside the bytes: the lists of the file, those that its codes are expanded into, those that renumbering writes; and
-- the flags
pub record Lending : Type 0 where
  pub file : Lists
  pub codes : E.Lists
  pub map : List ℕ
  pub next_images : List ℕ
  pub reset_images : List ℕ
  pub root_images : List ℕ
  pub gates_out : List ℕ
  pub scratch : List ℕ
  pub trim : Bool
  pub hash : Bool
  pub fold : Bool

-- V: a variable for each input, latch and gate that was read
abbrev pub top_of : FileRead → ℕ
top_of r = r.inputs + r.latches + r.gates

-- after a reading that left r: its gates are expanded
abbrev pub expanded : Outcome → Lending → E.Outcome
expanded r g =
    let n = numbers r.read in
    E.expansion n.inputs n.latches (take (2 * n.gates) r.lists.gates) g.codes

-- and renumbering is lent the numbers that reading answered, the fronts of the lists that reading and expanding left, and the lists that it writes
abbrev pub handed : Outcome → E.Outcome → Lending → Lent
handed r x g =
    let n = numbers r.read in
    lent_of (record { top = variable (top_of n); counts = n.counts; trim = g.trim; hash = g.hash; fold = g.fold })
    (take n.inputs x.lists.inputs) (take n.latches x.lists.states) (take n.latches r.lists.nexts)
    (take n.latches r.lists.resets) (take (3 * n.gates) x.lists.triples) (take (total n.counts) r.lists.roots) g.map
    g.next_images g.reset_images g.root_images g.gates_out g.scratch

-- the whole way from the bytes
abbrev pub handed_from : List ℕ → Lending → Lent
handed_from bytes g = handed (outcome bytes g.file) (expanded (outcome bytes g.file) g) g

-- the lists behind the file's are long enough for what was read
pub record Enough (r : FileRead) (g : Lending) : Type 0 where
  pub inputs : r.inputs ≤ length g.codes.inputs
  pub states : r.latches ≤ length g.codes.states
  pub triples : 3 * r.gates ≤ length g.codes.triples
  pub map : top_of r + 1 ≤ length g.map
  pub nexts : r.latches ≤ length g.next_images
  pub resets : r.latches ≤ length g.reset_images
  pub roots : total r.counts ≤ length g.root_images
  pub gates : 2 * r.gates ≤ length g.gates_out
  pub scratch : 3 * top_of r + 3 + 3 * r.gates ≤ length g.scratch

-- what is lent is renumbered; the ordered result has no more gates than O, each gate's code exceeds its first input, which is not below its second, and
-- each next state and root has, under every setting, the value that O gives it, and each latch its first value
pub record Arrives (O : Ordered) (l : Lent) : Type 0 where
  pub summary : Summary
  pub renumbered : (C.outcome l).answer ≡ Ok summary
  pub no_more : length (held l summary (C.outcome l)).gates ≤ length O.gates
  pub in_order : InOrder (sources_of (held l summary (C.outcome l))) (held l summary (C.outcome l)).gates
  pub keeps : Keeps O (held l summary (C.outcome l))

-- the two ends: the file is refused, and its lists are cleared; or it is read, and arrives as an ordered circuit
pub data End (bytes : List ℕ) (g : Lending) : Type 0 where
  refused : (why : Fault) (place : ℕ) → outcome bytes g.file ≡ left (no why place) g.file → End bytes g
  ordered : (f : File) (used : ℕ) → read_file bytes (room_of g.file) ≡ got f used → Arrives f.ordered (handed_from bytes g) → End bytes g
