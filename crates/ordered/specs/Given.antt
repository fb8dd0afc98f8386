-- What the answers to an ordered circuit say: what is true of it where it fits, and where a check refuses it. Assumes nothing.
use Rattle.std.specs.Prelude.{ℕ, ◌+◌, ◌*◌, ◌/◌, ◌%◌, ◌<◌, ◌≤◌, ◌≡◌, List, [], ◌∷◌, length, get_or, Ok, Err}
use Rattle.circuit.specs.Graph.{In}
use Rattle.circuit.specs.Walk.{Pair, first_code}
use Rattle.circuit.specs.Ordered.{sources_of, no_pair}
use Rattle.circuit.specs.Outcome.{limit, total}
use Rattle.circuit.specs.Claims.{AllWithin, AllReset, FirstOver, FirstStray}
use Rattle.ordered.specs.declared.given.Fault.TheVariants.{TooBig, Misshapen, Over, Reset, Disordered, Short}
use Rattle.ordered.specs.WellOrdered.{variables_of, latches_of, WellOrdered}
use Rattle.ordered.specs.Check.{Checked, Words, circuit_in, codes_in}

-- an ordered circuit is lent: it is well ordered, there are not too many justice sets, their sizes sum to the fifth count, and no word of gates is left over
pub record Given (w : Words) : Type 0 where
  pub ordered : WellOrdered (circuit_in w)
  pub sets : length w.sizes ≤ limit
  pub sizes : total w.sizes ≡ get_or w.counts 4 0
  pub whole : length w.gates % 2 ≡ 0

-- what check 1 holds to the limit: I, L, G, R, V and the number of justice sets
abbrev pub limited : Words → List ℕ
limited w =
    w.inputs ∷ length w.nexts ∷ (length w.gates / 2) ∷ length w.roots ∷ (w.inputs + length w.nexts + length w.gates / 2) ∷ length w.sizes
    ∷ []

-- check 2 is passed: the counts sum to R, the sizes to the fifth count, each latch has a next state and a reset, and the gates have two words each
pub record Even (w : Words) : Type 0 where
  pub roots : total w.counts ≡ length w.roots
  pub justice : total w.sizes ≡ get_or w.counts 4 0
  pub latches : length w.nexts ≡ length w.resets
  pub words : length w.gates % 2 ≡ 0

-- gate j is in order, where the first has the code t: its code exceeds its first input, which is not below its second
abbrev pub GateInOrder : ℕ → List Pair → ℕ → Type 0
GateInOrder t gates j = ((get_or gates j no_pair).smaller ≤ (get_or gates j no_pair).larger) × ((get_or gates j no_pair).larger < t + 2 * j)

-- d is the code of the first gate that is not in order
pub record FirstLoose (t : ℕ) (gates : List Pair) (d : ℕ) : Type 0 where
  pub place : ℕ
  pub inside : place < length gates
  pub code : d ≡ t + 2 * place
  pub is_loose : GateInOrder t gates place → ⊥
  pub before : (j : ℕ) → j < place → GateInOrder t gates j

-- what is true where a circuit is answered so, with the code that is asked: the checks before are passed, and this one is not. 3 is a caller's answer
abbrev pub Says : Words → ℕ → Checked → Type 0
Says w asked (Ok t) = Given w × (asked ≤ 2 * variables_of (circuit_in w) + 1)
Says w asked (Err TooBig) = (n : ℕ) × In n (limited w) × (limit < n)
Says w asked (Err Misshapen) = AllWithin limit (limited w) × (Even w → ⊥)
Says w asked (Err (Over d)) = AllWithin limit (limited w) × Even w × FirstOver (2 * variables_of (circuit_in w) + 1) (codes_in w asked) d.0
Says w asked (Err (Reset d)) =
    AllWithin limit (limited w) × Even w × AllWithin (2 * variables_of (circuit_in w) + 1) (codes_in w asked)
    × FirstStray (latches_of (circuit_in w)) w.resets d.0
Says w asked (Err (Disordered d)) =
    AllWithin limit (limited w) × Even w × AllWithin (2 * variables_of (circuit_in w) + 1) (codes_in w asked)
    × AllReset (latches_of (circuit_in w)) w.resets × FirstLoose (first_code (sources_of (circuit_in w))) (circuit_in w).gates d.0
Says w asked (Err Short) = ⊥
