-- What holds of every text that is read; and lists that no text is too large for. Assumes nothing.
use Rattle.std.specs.Prelude.{ℕ, ◌+◌, ◌*◌, ◌%◌, ◌≤◌, ◌≡◌, List, map, ◌++◌, length, get_or}
use Rattle.circuit.specs.Graph.{In}
use Rattle.circuit.specs.Outcome.{limit, total}
use Rattle.circuit.specs.Claims.{AllWithin, AllReset}
use Rattle.ascii.specs.Text.{Text, Room}

-- an even literal that is not 0
pub record IsDefined (c : ℕ) : Type 0 where
  pub large : 1 ≤ c
  pub even : c % 2 ≡ 0

-- the literals that a text defines: inputs, latch states, gate outputs
abbrev pub defined_in : Text → List ℕ
defined_in t = t.inputs ++ (t.states ++ map (λ g. g.output) t.gates)

pub record Known (room : Room) (t : Text) : Type 0 where
  -- M is within the limit, and no fewer than the inputs, latches and gates
  pub top : t.top ≤ limit
  pub enough : length t.inputs + length t.states + length t.gates ≤ t.top
  -- every latch has a next state and a reset
  pub nexts : length t.nexts ≡ length t.states
  pub resets : length t.resets ≡ length t.states
  -- every literal that is defined is even and not 0; each reset is 0, 1 or its latch's own literal
  pub defined : (c : ℕ) → In c (defined_in t) → IsDefined c
  pub all_reset : AllReset t.states t.resets
  -- no literal is over 2M + 1
  pub inputs_within : AllWithin (2 * t.top + 1) t.inputs
  pub states_within : AllWithin (2 * t.top + 1) t.states
  pub nexts_within : AllWithin (2 * t.top + 1) t.nexts
  pub resets_within : AllWithin (2 * t.top + 1) t.resets
  pub outputs_within : AllWithin (2 * t.top + 1) (map (λ g. g.output) t.gates)
  pub firsts_within : AllWithin (2 * t.top + 1) (map (λ g. g.first) t.gates)
  pub seconds_within : AllWithin (2 * t.top + 1) (map (λ g. g.second) t.gates)
  pub roots_within : AllWithin (2 * t.top + 1) t.roots
  -- the five counts sum to the roots, which are within the limit; the sizes sum to the fifth count, and there are no more than the limit of them
  pub five : length t.counts ≡ 5
  pub roots : total t.counts ≡ length t.roots
  pub few : length t.roots ≤ limit
  pub sizes : total t.sizes ≡ get_or t.counts 4 0
  pub sets : length t.sizes ≤ limit
  -- all of it fits its lists
  pub inputs_fit : length t.inputs ≤ room.inputs
  pub states_fit : length t.states ≤ room.states
  pub nexts_fit : length t.nexts ≤ room.nexts
  pub resets_fit : length t.resets ≤ room.resets
  pub gates_fit : 3 * length t.gates ≤ room.gates
  pub sizes_fit : length t.sizes ≤ room.sizes
  pub roots_fit : length t.roots ≤ room.roots

-- lists as long as the limits: a cell for each variable or root that there may be, three for a gate
pub record Ample (room : Room) : Type 0 where
  pub inputs : limit ≤ room.inputs
  pub states : limit ≤ room.states
  pub nexts : limit ≤ room.nexts
  pub resets : limit ≤ room.resets
  pub gates : 3 * limit ≤ room.gates
  pub sizes : limit ≤ room.sizes
  pub roots : limit ≤ room.roots
