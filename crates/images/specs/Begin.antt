-- The map at the start and the resets carried over, of whatever is lent. Assumes nothing.
use Rattle.std.specs.Prelude.{ℕ, cond, ◌||◌, List, ◌++◌, ltb, length, replicate}
use Rattle.circuit.specs.Map.{no_image, store}
use Rattle.circuit.specs.Circuit.{store_from}
use Rattle.circuit.specs.Ordered.{carried_from, first_latch}
use Rattle.circuit.specs.Outcome.{limit, onto}

-- the constant is 0, inputs and then latch states get 2, 4, .., and nothing else has an image
abbrev pub beginning : List ℕ → List ℕ → List ℕ
beginning m sources = store_from (store (replicate (length m) no_image) 0 0) 2 sources

-- so it is unless there are more inputs or latches than check 1 lets by: then the map stays
unfoldable pub begun : List ℕ → List ℕ → List ℕ → List ℕ
begun m inputs states = cond (ltb limit (length inputs) || ltb limit (length states)) m (beginning m (inputs ++ states))

-- the resets of latches after so many inputs, onto the front of a list; unless there are more inputs or latches than check 1 lets by: then it stays
unfoldable pub carried_onto : ℕ → List ℕ → List ℕ → List ℕ
carried_onto inputs resets out = cond (ltb limit inputs || ltb limit (length resets)) out (onto (carried_from (first_latch inputs) resets) out)
