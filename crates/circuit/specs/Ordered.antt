-- The ordered circuit that comes of a renumbering: inputs have the codes 2, 4, .., then come latch states, then gates. Assumes nothing.
use Rattle.std.specs.Prelude.{ℕ, zero, suc, ◌+◌, ◌*◌, ◌<◌, ◌≤◌, Bool, true, false, cond, not, ◌&&◌, List, [], ◌∷◌, ◌++◌, map, leb, length, get_or}
use Rattle.lit.specs.Code.{var, is_odd}
use Rattle.circuit.specs.Graph.{Gate, Graph}
use Rattle.circuit.specs.Map.{image_in, code_of}
use Rattle.circuit.specs.Walk.{Pair, Work, first_code}
use Rattle.circuit.specs.Circuit.{Circuit, graph}

-- the number of inputs, next states (as many as latches), resets (as many too), gates by their inputs, the row of root counts, roots
pub record Ordered : Type 0 where
  pub inputs : ℕ
  pub nexts : List ℕ
  pub resets : List ℕ
  pub gates : List Pair
  pub counts : List ℕ
  pub roots : List ℕ

-- C, ordered, with these next states, resets, gates and roots
abbrev pub ordered_with : Circuit → List ℕ → List ℕ → List Pair → List ℕ → Ordered
ordered_with C nexts resets gates roots =
    record { inputs = length C.inputs; nexts = nexts; resets = resets; gates = gates; counts = C.counts; roots = roots }

-- the images of literals
unfoldable pub images_in : List ℕ → List ℕ → List ℕ
images_in m cs = map (λ c. code_of (image_in m c)) cs

-- a reset carried over: 0 stays 0, 1 stays 1, and that of an unset latch is its new literal
abbrev pub carried : ℕ → ℕ → ℕ
carried own r = cond (leb r 1) r own

-- so with all, where the latches have the new literals t, t + 2, ..
abbrev pub carried_from : ℕ → List ℕ → List ℕ
carried_from t [] = []
carried_from t (r ∷ rs) = carried t r ∷ carried_from (t + 2) rs

-- the new literal of the first latch after n inputs
abbrev pub first_latch : ℕ → ℕ
first_latch n = 2 + 2 * n

-- C, ordered by a walk
unfoldable pub ordered_of : Circuit → Work → Ordered
ordered_of C w =
    ordered_with C (images_in w.images C.nexts) (carried_from (first_latch (length C.inputs)) C.resets) w.made
    (images_in w.images C.roots)

-- the even codes t, t + 2, ..
abbrev pub count_from : ℕ → ℕ → List ℕ
count_from t zero = []
count_from t (suc n) = t ∷ count_from (t + 2) n

-- gates whose outputs are t, t + 2, ..
abbrev pub gates_from : ℕ → List Pair → List Gate
gates_from t [] = []
gates_from t (p ∷ ps) = record { output = t; first = p.larger; second = p.smaller } ∷ gates_from (t + 2) ps

-- inputs and latches of an ordered circuit
abbrev pub sources_of : Ordered → ℕ
sources_of O = O.inputs + length O.nexts

-- an ordered circuit as a circuit, with the flags trim, hash and fold
unfoldable pub given : Ordered → Bool → Bool → Bool → Circuit
given O trim hash fold =
    record {
      top = sources_of O + length O.gates;
      inputs = count_from 2 O.inputs;
      states = count_from (first_latch O.inputs) (length O.nexts);
      nexts = O.nexts;
      resets = O.resets;
      gates = gates_from (first_code (sources_of O)) O.gates;
      counts = O.counts;
      roots = O.roots;
      trim = trim;
      hash = hash;
      fold = fold;
    }

-- what means something of it, under any flags
unfoldable pub ordered_graph : Ordered → Graph
ordered_graph O = graph (given O false false false)

-- what a lookup past the gates gives
abbrev pub no_pair : Pair
no_pair = record { larger = 0; smaller = 0 }

-- where there are n sources: each gate's code exceeds its first input, which is not below its second
abbrev pub InOrder : ℕ → List Pair → Type 0
InOrder n gates =
    (j : ℕ) → j < length gates → ((get_or gates j no_pair).smaller ≤ (get_or gates j no_pair).larger) × ((get_or gates j no_pair).larger < first_code n + 2 * j)

-- the other bit if the first is set
unfoldable pub flip_if : Bool → Bool → Bool
flip_if true x = not x
flip_if false x = x

-- the bit of a literal, where each variable has its bit in the list
unfoldable pub bit_of : List Bool → ℕ → Bool
bit_of bits t = flip_if (is_odd t) (get_or bits (var t) false)

-- the bits of the gates after those in the list, one gate after another
unfoldable pub run_gates : List Bool → List Pair → List Bool
run_gates bits [] = bits
run_gates bits (p ∷ ps) = run_gates (bits ++ ((bit_of bits p.larger && bit_of bits p.smaller) ∷ [])) ps

-- a bit for every variable of an ordered circuit, from those of its sources
unfoldable pub values_of : List Pair → List Bool → List Bool
values_of gates bits = run_gates (false ∷ bits) gates

-- the bits `given k`, `given (k + 1)`, .. as a list of n
unfoldable pub given_from : (ℕ → Bool) → ℕ → ℕ → List Bool
given_from given k zero = []
given_from given k (suc n) = given k ∷ given_from given (suc k) n
