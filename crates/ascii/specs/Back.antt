-- What reading gives of the text that is written of an ordered circuit: the circuit as `given` has it, list by list. Assumes nothing.
use Rattle.std.specs.Prelude.{◌*◌, ◌≤◌, length}
use Rattle.circuit.specs.Walk.{first_code}
use Rattle.circuit.specs.Ordered.{first_latch, count_from, gates_from, sources_of}
use Rattle.ordered.specs.WellOrdered.{variables_of}
use Rattle.binary.specs.File.{File}
use Rattle.ascii.specs.Text.{Text, Room}

-- inputs 2, 4, .., then the latches' states, then the gates' outputs; all else as it is
abbrev pub text_for : File → Text
text_for f =
    record {
      top = variables_of f.ordered;
      inputs = count_from 2 f.ordered.inputs;
      states = count_from (first_latch f.ordered.inputs) (length f.ordered.nexts);
      nexts = f.ordered.nexts;
      resets = f.ordered.resets;
      gates = gates_from (first_code (sources_of f.ordered)) f.ordered.gates;
      counts = f.ordered.counts;
      sizes = f.sizes;
      roots = f.ordered.roots;
    }

-- there are as many cells as its lists ask for, three for a gate
pub record Holds (room : Room) (f : File) : Type 0 where
  pub inputs : f.ordered.inputs ≤ room.inputs
  pub states : length f.ordered.nexts ≤ room.states
  pub nexts : length f.ordered.nexts ≤ room.nexts
  pub resets : length f.ordered.nexts ≤ room.resets
  pub gates : 3 * length f.ordered.gates ≤ room.gates
  pub sizes : length f.sizes ≤ room.sizes
  pub roots : length f.ordered.roots ≤ room.roots
