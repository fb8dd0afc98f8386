-- What it is that one ordered circuit keeps the values of another. Assumes nothing.
use Rattle.std.specs.Prelude.{ℕ, ◌<◌, ◌≡◌, Bool, length, get_or}
use Rattle.circuit.specs.Ordered.{Ordered, ordered_graph}
use Rattle.circuit.specs.Claims.{first_value, SameValue}

-- D has as many next states and roots as O, and each has under every setting of inputs and latches the value of the one at its place in O; and each latch
-- has the first value that it has in O: 0, 1 or free
pub record Keeps (O D : Ordered) : Type 0 where
  pub latches : length D.nexts ≡ length O.nexts
  pub firsts : (j : ℕ) → j < length O.nexts → first_value (get_or D.resets j 0) ≡ first_value (get_or O.resets j 0)
  pub root_count : length D.roots ≡ length O.roots
  pub nexts : (given : ℕ → Bool) (j : ℕ) → j < length O.nexts
      → SameValue (ordered_graph O) (ordered_graph D) given (get_or O.nexts j 0) (get_or D.nexts j 0)
  pub roots : (given : ℕ → Bool) (j : ℕ) → j < length O.roots
      → SameValue (ordered_graph O) (ordered_graph D) given (get_or O.roots j 0) (get_or D.roots j 0)
