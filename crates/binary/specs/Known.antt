-- What holds of every file that is read; and lists that no file is too large for. Assumes nothing.
use Rattle.std.specs.Prelude.{ℕ, ◌*◌, ◌≤◌, ◌≡◌, List, [], ◌∷◌, length}
use Rattle.circuit.specs.Outcome.{limit, total}
use Rattle.lines.specs.declared.Header.{Header}
use Rattle.lines.specs.Reading.{got}
use Rattle.lines.specs.Sections.{header_at}
use Rattle.ordered.specs.WellOrdered.{variables_of, WellOrdered}
use Rattle.binary.specs.File.{File, Room, tag}

pub record Known (s : List ℕ) (room : Room) (f : File) : Type 0 where
  -- every variable is an input, a latch or a gate: V is the header's M
  pub top : (h : Header) (at : ℕ) → header_at s tag ≡ got h at → h.top ≡ variables_of f.ordered
  -- V and R are within the limit, the five counts sum to the roots, no next state or root is over 2V + 1, each reset is 0, 1 or its latch's own literal, and each gate's code exceeds its first
  -- input, which is not below its second
  pub well_ordered : WellOrdered f.ordered
  -- all of it fits its lists
  pub nexts_fit : length f.ordered.nexts ≤ room.nexts
  pub resets_fit : length f.ordered.resets ≤ room.resets
  pub gates_fit : 2 * length f.ordered.gates ≤ room.gates
  pub sizes_fit : length f.sizes ≤ room.sizes
  pub roots_fit : length f.ordered.roots ≤ room.roots
  -- no more justice sets than the limit, and their sizes sum to the fifth count
  pub sets : length f.sizes ≤ limit
  pub sizes : (o b c j k : ℕ) → f.ordered.counts ≡ o ∷ b ∷ c ∷ j ∷ k ∷ [] → total f.sizes ≡ k

-- lists as long as the limits: a cell for each variable or root that there may be, two for a gate
pub record Ample (room : Room) : Type 0 where
  pub nexts : limit ≤ room.nexts
  pub resets : limit ≤ room.resets
  pub gates : 2 * limit ≤ room.gates
  pub sizes : limit ≤ room.sizes
  pub roots : limit ≤ room.roots
