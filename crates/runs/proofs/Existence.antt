-- A file whose circuit is well ordered has a run from each first state that the resets allow, and no other: at each step every next state means the bit that is
-- computed from the gates in their order, and no other; and a meaning rests on the bits of the inputs and latches alone. Assumes nothing.
use Prim.Native.Nat.{ℕ, zero, suc, ◌+◌, ◌-◌, ◌<◌}
use mathlib.Core.Path.{◌≡◌, refl, subst⁻¹}
use mathlib.Core.Bool.{Bool, cond}
use native.Mathlib.Omega.{arith}
use lib.Dec.{ltb}
use lib.ListN.{length, get_or, length-append}
use Rattle.circuit.specs.Graph.{Graph, Means, constant, source, gate, negation}
use Rattle.circuit.specs.Walk.{first_code, next_code}
use Rattle.circuit.specs.Ordered.{first_latch, count_from, sources_of, given, ordered_graph, bit_of, values_of, given_from}
use Rattle.circuit.specs.Claims.{first_value}
use Rattle.circuit.proofs.Tests.{AtMost, at_most, above, le_test}
use Rattle.circuit.proofs.Lists.{In-getD}
use Rattle.circuit.proofs.Ordered.{count_from-length, values_mean, values_only}
use Rattle.ordered.specs.WellOrdered.{WellOrdered}
use Rattle.binary.specs.File.{File}
use Rattle.runs.specs.Runs.{nexts_of, graph_of, Bits, setting, Allows, Run}
use Rattle.runs.specs.Carries.{Runs}

-- a literal means what it means whatever is given beyond the sources
same_sources : (G : Graph) (given given' : ℕ → Bool) → ((k : ℕ) → k < length G.sources → given k ≡ given' k) → {c : ℕ} {b : Bool}
    → Means G given c b → Means G given' c b
same_sources G given given' e constant = constant
same_sources G given given' e (source k h) = subst⁻¹ (Means G given' (get_or G.sources k 0)) (e k h) (source k h)
same_sources G given given' e (gate g i m n) = gate g i (same_sources G given given' e m) (same_sources G given given' e n)
same_sources G given given' e (negation m) = negation (same_sources G given given' e m)

-- settings of n inputs with the same bits, and of latches that agree up to the l-th, agree on these n + l places
same_setting : (n l : ℕ) (inputs latches latches' : Bits) → ((j : ℕ) → j < l → latches j ≡ latches' j) → (k : ℕ) → k < n + l
    → setting n inputs latches k ≡ setting n inputs latches' k
same_setting n l inputs latches latches' e k h = go (ltb k n) (le_test (suc k) n)
  where
    go : (b : Bool) → AtMost (suc k) n b → cond b (inputs k) (latches (k - n)) ≡ cond b (inputs k) (latches' (k - n))
    go b (at_most p) = refl
    go b (above p) = e (k - n) (omega arith)

-- the latches at each step, from the first state on: those of the next are computed from those of this one
unfoldable pub state_at : File → (ℕ → Bits) → Bits → ℕ → Bits
state_at f inputs first zero j = first j
state_at f inputs first (suc t) j =
    bit_of (values_of f.ordered.gates (given_from (setting f.ordered.inputs (inputs t) (state_at f inputs first t)) 0 (sources_of f.ordered)))
    (get_or (nexts_of f) j 0)

-- the sources are the inputs and the latches
source_count_lem : (f : File) → length (graph_of f).sources ≡ f.ordered.inputs + length (nexts_of f)
unfolding ordered_graph given
source_count_lem f =
    let O = f.ordered in
    omega (
      arith,
      length-append (count_from 2 O.inputs) (count_from (first_latch O.inputs) (length O.nexts)),
      count_from-length 2 O.inputs,
      count_from-length (first_latch O.inputs) (length O.nexts),
    )

module _ (f : File) (w : WellOrdered f.ordered) (inputs : ℕ → Bits) (first : Bits) where
  abbrev state : ℕ → Bits
  state = state_at f inputs first

  -- no next state is over 2V + 1
  next_low : (j : ℕ) → j < length (nexts_of f) → get_or (nexts_of f) j 0 < next_code (sources_of f.ordered) f.ordered.gates
  unfolding next_code first_code
  next_low j h = omega (arith, w.nexts (get_or (nexts_of f) j 0) (In-getD (nexts_of f) j 0 h))

  -- what is computed is a run: each next state means its computed bit
  computed_run : ((j : ℕ) → j < length (nexts_of f) → Allows (first_value (get_or f.ordered.resets j 0)) (first j)) → Run f inputs state
  unfolding state_at
  computed_run allowed =
      record {
        begins = allowed;
        goes_on = λ t j h.
            values_mean f.ordered w.gates (setting f.ordered.inputs (inputs t) (state t)) (get_or (nexts_of f) j 0) (next_low j h);
      }

  -- another run from there has the same latches at each step, since it has at the step before
  only_run : (others : ℕ → Bits) → Run f inputs others → ((j : ℕ) → j < length (nexts_of f) → others 0 j ≡ first j) → (t j : ℕ)
      → j < length (nexts_of f) → others t j ≡ state t j
  unfolding state_at
  only_run others run starts zero j h = starts j h
  only_run others run starts (suc t) j h =
      let n = f.ordered.inputs in
      let agree = same_setting n (length (nexts_of f)) (inputs t) (others t) (state t) (only_run others run starts t) in
      values_only f.ordered w.gates (setting n (inputs t) (state t)) (get_or (nexts_of f) j 0) (others (suc t) j) (next_low j h)
      (same_sources (graph_of f) (setting n (inputs t) (others t)) (setting n (inputs t) (state t))
      (λ k l. agree k (omega (arith, source_count_lem f))) (run.goes_on t j h))

pub runs_exist : (f : File) → WellOrdered f.ordered → (inputs : ℕ → Bits) (first : Bits)
    → ((j : ℕ) → j < length (nexts_of f) → Allows (first_value (get_or f.ordered.resets j 0)) (first j)) → Runs f inputs first
unfolding state_at
runs_exist f w inputs first allowed =
    record {
      latches = state_at f inputs first;
      run = computed_run f w inputs first allowed;
      starts = λ j h. refl;
      only = only_run f w inputs first;
    }
