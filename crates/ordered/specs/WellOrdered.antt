-- Ordered circuits within the limits whose gates are in order. Assumes nothing.
use Rattle.std.specs.Prelude.{ℕ, ◌+◌, ◌*◌, ◌≤◌, ◌≡◌, List, length}
use Rattle.circuit.specs.Ordered.{Ordered, first_latch, count_from, sources_of, InOrder}
use Rattle.circuit.specs.Outcome.{limit, total}
use Rattle.circuit.specs.Claims.{AllWithin, AllReset}

-- V: a variable for each input, latch and gate
abbrev pub variables_of : Ordered → ℕ
variables_of O = sources_of O + length O.gates

-- the literals of an ordered circuit's latches, after those of its inputs
abbrev pub latches_of : Ordered → List ℕ
latches_of O = count_from (first_latch O.inputs) (length O.nexts)

-- an ordered circuit within the limits whose gates are in order: V and R within the limit, counts that sum to the roots, no next state or root over
-- 2V + 1, a reset for each latch that is 0, 1 or the latch's own literal, and each gate's code exceeds its first input, which is not below its second
pub record WellOrdered (O : Ordered) : Type 0 where
  pub variables : variables_of O ≤ limit
  pub few : length O.roots ≤ limit
  pub counts : total O.counts ≡ length O.roots
  pub nexts : AllWithin (2 * variables_of O + 1) O.nexts
  pub reset_count : length O.nexts ≡ length O.resets
  pub resets : AllReset (latches_of O) O.resets
  pub roots : AllWithin (2 * variables_of O + 1) O.roots
  pub gates : InOrder (sources_of O) O.gates
