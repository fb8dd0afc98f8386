-- That one file asks of a solver what another asks: nothing cut, nothing bent, and the verdicts are the same. Assumes nothing.
use Rattle.std.specs.Prelude.{ℕ, ◌<◌, ◌≡◌, Bool, ◌↔◌, List, length, get_or}
use Rattle.circuit.specs.Claims.{first_value, SameValue}
use Rattle.binary.specs.File.{File}
use Rattle.runs.specs.Runs.{nexts_of, outputs_of, bad_of, constraints_of, fairness_of, justice_of, set_of, graph_of, Bits, Has, Run, AgainAndAgain, Reaches, Meets}

-- literals of f and literals of d: there are as many, and under every setting of inputs and latches those at the same place have one bit each, and it is the same
pub record Alike (f d : File) (cs ds : List ℕ) : Type 0 where
  pub count : length ds ≡ length cs
  pub values : (given : ℕ → Bool) (j : ℕ) → j < length cs → SameValue (graph_of f) (graph_of d) given (get_or cs j 0) (get_or ds j 0)

-- nothing is cut and nothing is bent from f to d: as many inputs and latches; each next state, output, bad state, constraint, fairness literal and justice literal,
-- in its order and in its set, has the value that it has in f; each latch has its first value, 0, 1 or free
pub record SameQuestions (f d : File) : Type 0 where
  pub inputs : d.ordered.inputs ≡ f.ordered.inputs
  pub nexts : Alike f d (nexts_of f) (nexts_of d)
  pub outputs : Alike f d (outputs_of f) (outputs_of d)
  pub bad_states : Alike f d (bad_of f) (bad_of d)
  pub constraints : Alike f d (constraints_of f) (constraints_of d)
  pub fairness : Alike f d (fairness_of f) (fairness_of d)
  pub justice : Alike f d (justice_of f) (justice_of d)
  pub sizes : d.sizes ≡ f.sizes
  pub sets : (q : ℕ) → Alike f d (set_of f q) (set_of d q)
  pub firsts : (j : ℕ) → j < length (nexts_of f) → first_value (get_or d.ordered.resets j 0) ≡ first_value (get_or f.ordered.resets j 0)

-- at every step the literals of two lists, place by place, have the same bits in both files
abbrev pub SameBits : File → File → List ℕ → List ℕ → Type 0
SameBits f d cs ds =
    (inputs latches : Bits) (j : ℕ) → j < length cs → (b : Bool) → Has f inputs latches (get_or cs j 0) b ↔ Has d inputs latches (get_or ds j 0) b

-- the verdicts on d are those on f: they have the same runs; in each state of one each root has the same bit in both; within any number of steps each bad state, and each
-- output, is reached in the one exactly when in the other, and a run meets a justice set of the one exactly when it meets that of the other
pub record SameVerdicts (f d : File) : Type 0 where
  pub runs : (inputs latches : ℕ → Bits) → Run f inputs latches ↔ Run d inputs latches
  pub outputs : SameBits f d (outputs_of f) (outputs_of d)
  pub bad_states : SameBits f d (bad_of f) (bad_of d)
  pub constraints : SameBits f d (constraints_of f) (constraints_of d)
  pub fairness : SameBits f d (fairness_of f) (fairness_of d)
  pub justice : SameBits f d (justice_of f) (justice_of d)
  pub reaches : (i k : ℕ) → Reaches f (bad_of f) i k ↔ Reaches d (bad_of d) i k
  pub reaches_outputs : (i k : ℕ) → Reaches f (outputs_of f) i k ↔ Reaches d (outputs_of d) i k
  pub again : (q : ℕ) (inputs latches : ℕ → Bits)
      → (AgainAndAgain f inputs latches (set_of f q) × AgainAndAgain f inputs latches (fairness_of f))
      ↔ (AgainAndAgain d inputs latches (set_of d q) × AgainAndAgain d inputs latches (fairness_of d))
  pub meets : (q : ℕ) (inputs latches : ℕ → Bits) → Meets f q inputs latches ↔ Meets d q inputs latches

-- runs are there: from every first state that the resets allow, with all inputs, there is a run, and there is no other
pub record Runs (f : File) (inputs : ℕ → Bits) (first : Bits) : Type 0 where
  pub latches : ℕ → Bits
  pub run : Run f inputs latches
  pub starts : (j : ℕ) → j < length (nexts_of f) → latches 0 j ≡ first j
  pub only : (others : ℕ → Bits) → Run f inputs others → ((j : ℕ) → j < length (nexts_of f) → others 0 j ≡ first j)
      → (t j : ℕ) → j < length (nexts_of f) → others t j ≡ latches t j
