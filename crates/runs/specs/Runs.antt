-- What a solver is asked of a file: its roots by their kinds, runs of its circuit, and the verdicts on them, in the words of the AIGER 1.9 paper. Assumes nothing.
use Rattle.std.specs.Prelude.{ℕ, suc, ◌-◌, ◌<◌, ◌≤◌, ◌≡◌, Bool, true, cond, List, ltb, length, get_or, take, drop, Option, Some, None}
use Rattle.circuit.specs.Graph.{Graph, Means}
use Rattle.circuit.specs.Ordered.{ordered_graph}
use Rattle.circuit.specs.Outcome.{total}
use Rattle.circuit.specs.Claims.{first_value}
use Rattle.binary.specs.File.{File}

-- of what stands in a row, so many of each kind, those of the k-th kind
abbrev pub kind_in : List ℕ → List ℕ → ℕ → List ℕ
kind_in counts row k = take (get_or counts k 0) (drop (total (take k counts)) row)

-- the next states, one a latch; and the roots by their kinds
abbrev pub nexts_of : File → List ℕ
nexts_of f = f.ordered.nexts

abbrev pub outputs_of : File → List ℕ
outputs_of f = kind_in f.ordered.counts f.ordered.roots 0

abbrev pub bad_of : File → List ℕ
bad_of f = kind_in f.ordered.counts f.ordered.roots 1

abbrev pub constraints_of : File → List ℕ
constraints_of f = kind_in f.ordered.counts f.ordered.roots 2

abbrev pub fairness_of : File → List ℕ
fairness_of f = kind_in f.ordered.counts f.ordered.roots 3

abbrev pub justice_of : File → List ℕ
justice_of f = kind_in f.ordered.counts f.ordered.roots 4

-- the literals of the q-th justice set
abbrev pub set_of : File → ℕ → List ℕ
set_of f q = kind_in f.sizes (justice_of f) q

-- what gives the literals of a file their meaning
abbrev pub graph_of : File → Graph
graph_of f = ordered_graph f.ordered

-- bits by place: of the inputs, or of the latches
abbrev pub Bits : Type 0
Bits = ℕ → Bool

-- a setting of n inputs and of the latches after them
abbrev pub setting : ℕ → Bits → Bits → ℕ → Bool
setting n inputs latches k = cond (ltb k n) (inputs k) (latches (k - n))

-- a literal of the file has the bit b, where inputs and latches have these bits
abbrev pub Has : File → Bits → Bits → ℕ → Bool → Type 0
Has f inputs latches c b = Means (graph_of f) (setting f.ordered.inputs inputs latches) c b

-- the first value of a latch, 0, 1 or free, allows it to begin with the bit b
abbrev pub Allows : Option Bool → Bool → Type 0
Allows None b = Unit {0}
Allows (Some v) b = b ≡ v

-- a run: bits of the inputs and of the latches at every step. It begins in a state that the resets allow, and each latch has at the next step the bit that its
-- next state has at this one
pub record Run (f : File) (inputs latches : ℕ → Bits) : Type 0 where
  pub begins : (j : ℕ) → j < length (nexts_of f) → Allows (first_value (get_or f.ordered.resets j 0)) (latches 0 j)
  pub goes_on : (t j : ℕ) → j < length (nexts_of f) → Has f (inputs t) (latches t) (get_or (nexts_of f) j 0) (latches (suc t) j)

-- at a step of a run all literals of the list are 1
abbrev pub AllHold : File → Bits → Bits → List ℕ → Type 0
AllHold f inputs latches cs = (j : ℕ) → j < length cs → Has f inputs latches (get_or cs j 0) true

-- along a run each literal of the list is 1 again and again
abbrev pub AgainAndAgain : File → (ℕ → Bits) → (ℕ → Bits) → List ℕ → Type 0
AgainAndAgain f inputs latches cs = (j : ℕ) → j < length cs → (t : ℕ) → (u : ℕ) × (t ≤ u) × Has f (inputs u) (latches u) (get_or cs j 0) true

-- the i-th literal of a list is reached within k steps: at a step of some run it is 1, and every constraint has held up to and with that step. The list is that of the
-- bad states, or, where a file has none, as before AIGER 1.9, that of the outputs
pub record Reaches (f : File) (cs : List ℕ) (i k : ℕ) : Type 0 where
  pub inputs : ℕ → Bits
  pub latches : ℕ → Bits
  pub run : Run f inputs latches
  pub step : ℕ
  pub soon : step ≤ k
  pub is_there : i < length cs
  pub bad : Has f (inputs step) (latches step) (get_or cs i 0) true
  pub constrained : (t : ℕ) → t ≤ step → AllHold f (inputs t) (latches t) (constraints_of f)

-- a run meets the q-th justice set: its literals and the fairness literals are 1 again and again, and every constraint holds at every step
pub record Meets (f : File) (q : ℕ) (inputs latches : ℕ → Bits) : Type 0 where
  pub run : Run f inputs latches
  pub is_set : q < length f.sizes
  pub justice : AgainAndAgain f inputs latches (set_of f q)
  pub fairness : AgainAndAgain f inputs latches (fairness_of f)
  pub constrained : (t : ℕ) → AllHold f (inputs t) (latches t) (constraints_of f)
