-- What a file has to be, so that it can be written; lists that hold it; and the file of what renumbering leaves. Assumes nothing.
use Rattle.std.specs.Prelude.{ℕ, ◌*◌, ◌≤◌, ◌≡◌, List, length, get_or}
use Rattle.circuit.specs.declared.Summary.{Summary}
use Rattle.circuit.specs.Outcome.{Lent, limit, total, held, outcome}
use Rattle.ordered.specs.WellOrdered.{WellOrdered}
use Rattle.binary.specs.File.{File, Room}

-- its circuit is well ordered, it has a count for each of the five kinds of roots, the sizes of its justice sets sum to the fifth count, and there are not too
-- many of these sets
pub record Sound (f : File) : Type 0 where
  pub well_ordered : WellOrdered f.ordered
  pub five : length f.ordered.counts ≡ 5
  pub sizes : total f.sizes ≡ get_or f.ordered.counts 4 0
  pub sets : length f.sizes ≤ limit

-- there are as many cells as its lists ask for, two for a gate
pub record Holds (room : Room) (f : File) : Type 0 where
  pub nexts : length f.ordered.nexts ≤ room.nexts
  pub resets : length f.ordered.resets ≤ room.resets
  pub gates : 2 * length f.ordered.gates ≤ room.gates
  pub sizes : length f.sizes ≤ room.sizes
  pub roots : length f.ordered.roots ≤ room.roots

-- the ordered circuit that renumbering leaves of what is lent, after a success that answered s, with these justice sizes
abbrev pub result_with : Lent → Summary → List ℕ → File
result_with l s sizes = record { ordered = held l s (outcome l); sizes = sizes }
