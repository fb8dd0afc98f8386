-- The definitions by example, each the smallest on which a neighbouring definition answers otherwise: kinds, first values and settings by computation; and the
-- verdicts on circuits of one latch without inputs or gates, whose literal 2 has the latch's bit and no other. Assumes nothing.
use Prim.Native.Nat.{ℕ, zero, suc, ◌<◌, ◌≤◌}
use mathlib.Core.Path.{◌≡◌, refl, sym, ◌∙◌, ap, subst, subst⁻¹}
use mathlib.Core.Logic.{inl, inr}
use mathlib.Core.Bool.{Bool, true, false, not}
use mathlib.Core.List.{List, [], ◌∷◌}
use native.Mathlib.Omega.{arith}
use lib.Dec.{T}
use lib.ListN.{get_or}
use Rattle.lit.specs.Code.{flipped}
use Rattle.circuit.specs.Graph.{In, Graph, DefinedOnce, Means, constant, source, negation}
use Rattle.circuit.specs.Ordered.{given, ordered_graph}
use Rattle.circuit.specs.Claims.{first_value}
use Rattle.circuit.proofs.Meaning.{means_one}
use Rattle.binary.specs.File.{File}
use Rattle.runs.specs.Runs.{kind_in, nexts_of, outputs_of, bad_of, constraints_of, fairness_of, justice_of, set_of, Bits, setting, Allows, Run, Reaches, Meets}

-- next states, resets, root counts, roots and justice sizes, with no inputs and no gates
abbrev file_of : List ℕ → List ℕ → List ℕ → List ℕ → List ℕ → File
file_of nexts resets counts roots sizes =
    record { ordered = record { inputs = 0; nexts = nexts; resets = resets; gates = []; counts = counts; roots = roots }; sizes = sizes }

-- one output, two bad states, no constraint, one fairness literal, three justice literals in sets of one and two
abbrev kinds : File
kinds = file_of (3 ∷ []) (0 ∷ []) (1 ∷ 2 ∷ 0 ∷ 1 ∷ 3 ∷ []) (10 ∷ 11 ∷ 12 ∷ 13 ∷ 14 ∷ 15 ∷ 16 ∷ []) (1 ∷ 2 ∷ [])

pub kinds_pinned :
    (nexts_of kinds ≡ (3 ∷ []))
    × (outputs_of kinds ≡ (10 ∷ []))
    × (bad_of kinds ≡ (11 ∷ 12 ∷ []))
    × (constraints_of kinds ≡ [])
    × (fairness_of kinds ≡ (13 ∷ []))
    × (justice_of kinds ≡ (14 ∷ 15 ∷ 16 ∷ []))
    × (set_of kinds 0 ≡ (14 ∷ []))
    × (set_of kinds 1 ≡ (15 ∷ 16 ∷ []))
    × (set_of kinds 2 ≡ [])
    -- of more kinds than are counted, and of a row that is too short
    × (kind_in (1 ∷ 2 ∷ []) (10 ∷ 11 ∷ 12 ∷ 13 ∷ []) 2 ≡ [])
    × (kind_in (1 ∷ 2 ∷ []) (10 ∷ 11 ∷ []) 1 ≡ (11 ∷ []))
kinds_pinned = (refl, refl, refl, refl, refl, refl, refl, refl, refl, refl, refl)

-- the resets 0 and 1 allow one bit each, and any other, as a latch's own literal 2, allows both
pub firsts_pinned :
    Allows (first_value 0) false
    × (Allows (first_value 0) true → ⊥)
    × Allows (first_value 1) true
    × (Allows (first_value 1) false → ⊥)
    × Allows (first_value 2) false
    × Allows (first_value 2) true
firsts_pinned = (refl, λ e. subst T e tt, refl, λ e. subst T (sym e) tt, tt, tt)

-- where there are two inputs: the last input, and the first two latches
pub setting_pinned : (inputs latches : Bits)
    → (setting 2 inputs latches 1 ≡ inputs 1) × (setting 2 inputs latches 2 ≡ latches 0) × (setting 2 inputs latches 3 ≡ latches 1)
setting_pinned inputs latches = (refl, refl, refl)

-- circuits of one latch: its next state, its reset, root counts, roots and sizes. They have one graph

abbrev latch_of : ℕ → ℕ → List ℕ → List ℕ → List ℕ → File
latch_of next reset counts roots sizes = file_of (next ∷ []) (reset ∷ []) counts roots sizes

abbrev latch : Graph
latch = record { sources = 2 ∷ []; gates = [] }

-- the literal 2 has the latch's bit, and 3 the other
has_latch : (given : ℕ → Bool) → Means latch given 2 (given 0)
has_latch given = source 0 (omega arith)

has_negation : (given : ℕ → Bool) → Means latch given 3 (not (given 0))
unfolding flipped
has_negation given = negation (has_latch given)

-- 2 has no other bit, since 0 and the latch's variable are defined once each
latch_once : DefinedOnce latch
latch_once = (zero_once, (λ h. h, tt))
  where
    zero_once : In {A = ℕ} 0 (1 ∷ []) → ⊥
    zero_once (inl e) = omega arith
    zero_once (inr h) = h

only_latch : (given : ℕ → Bool) (b : Bool) → Means latch given 2 b → b ≡ given 0
only_latch given b m = means_one latch latch_once given m (has_latch given)

-- what holds of the one latch makes a run
run_of : (next reset : ℕ) (counts roots sizes : List ℕ) (inputs latches : ℕ → Bits) → Allows (first_value reset) (latches 0 0)
    → ((t : ℕ) → Means latch (setting 0 (inputs t) (latches t)) next (latches (suc t) 0)) → Run (latch_of next reset counts roots sizes) inputs latches
unfolding ordered_graph given
run_of next reset counts roots sizes inputs latches begins goes_on = record { begins = first; goes_on = later }
  where
    first : (j : ℕ) → j < 1 → Allows (first_value (get_or (reset ∷ []) j 0)) (latches 0 j)
    first zero h = begins
    first (suc j) h = absurd (omega arith)

    later : (t j : ℕ) → j < 1 → Means latch (setting 0 (inputs t) (latches t)) (get_or (next ∷ []) j 0) (latches (suc t) j)
    later t zero h = goes_on t
    later t (suc j) h = absurd (omega arith)

-- the toggle flip-flop: its next state is its negation, and it begins with 0
abbrev toggle : List ℕ → List ℕ → List ℕ → File
toggle = latch_of 3 0

-- inputs that are 0, for there are none; and a latch that is 0, 1, 0, ..
abbrev off : ℕ → Bits
off t k = false

abbrev flips : ℕ → Bits
flips zero j = false
flips (suc t) j = not (flips t j)

toggles : (counts roots sizes : List ℕ) → Run (toggle counts roots sizes) off flips
toggles counts roots sizes = run_of 3 0 counts roots sizes off flips refl (λ t. has_negation (setting 0 (off t) (flips t)))

-- its literal 2 is 0 at first, in every run
begins_low : (counts roots sizes : List ℕ) (inputs latches : ℕ → Bits) → Run (toggle counts roots sizes) inputs latches
    → Means latch (setting 0 (inputs 0) (latches 0)) 2 true → ⊥
begins_low counts roots sizes inputs latches run m =
    subst T (only_latch (setting 0 (inputs 0) (latches 0)) true m ∙ run.begins 0 (omega arith)) tt

-- the bad state 2 is reached within one step, and not within none; and there is no second bad state

abbrev rises : File
rises = toggle (0 ∷ 1 ∷ 0 ∷ 0 ∷ 0 ∷ []) (2 ∷ []) []

pub reached : Reaches rises (bad_of rises) 0 1
unfolding ordered_graph given
reached =
    record {
      inputs = off;
      latches = flips;
      run = toggles (0 ∷ 1 ∷ 0 ∷ 0 ∷ 0 ∷ []) (2 ∷ []) [];
      step = 1;
      soon = omega arith;
      is_there = omega arith;
      bad = has_latch (setting 0 (off 1) (flips 1));
      constrained = λ t h j k. absurd (omega arith);
    }

pub not_at_once : Reaches rises (bad_of rises) 0 0 → ⊥
unfolding ordered_graph given
not_at_once r =
    let now : r.step ≡ 0 = omega (arith, r.soon) in
    begins_low (0 ∷ 1 ∷ 0 ∷ 0 ∷ 0 ∷ []) (2 ∷ []) [] r.inputs r.latches r.run
    (subst (λ (t : ℕ). Means latch (setting 0 (r.inputs t) (r.latches t)) 2 true) now r.bad)

pub no_second : (k : ℕ) → Reaches rises (bad_of rises) 1 k → ⊥
no_second k r = omega (arith, r.is_there)

-- a constraint has to hold up to the step and with it, and no longer: under the constraint 3 the bad state 3 is reached at once, though the constraint fails at
-- the next step; the bad state 2 is never reached under the constraint 3, which fails at its step, nor under the constraint 2, which fails at a step before it

abbrev constrains : ℕ → ℕ → File
constrains bad constraint = toggle (0 ∷ 1 ∷ 1 ∷ 0 ∷ 0 ∷ []) (bad ∷ constraint ∷ []) []

pub reached_first : Reaches (constrains 3 3) (bad_of (constrains 3 3)) 0 0
unfolding ordered_graph given
reached_first =
    record {
      inputs = off;
      latches = flips;
      run = toggles (0 ∷ 1 ∷ 1 ∷ 0 ∷ 0 ∷ []) (3 ∷ 3 ∷ []) [];
      step = 0;
      soon = omega arith;
      is_there = omega arith;
      bad = has_negation (setting 0 (off 0) (flips 0));
      constrained = λ t h. holds t (omega arith);
    }
  where
    holds : (t : ℕ) → t ≡ 0 → (j : ℕ) → j < 1 → Means latch (setting 0 (off t) (flips t)) (get_or (3 ∷ []) j 0) true
    holds t e zero h = subst⁻¹ (λ (u : ℕ). Means latch (setting 0 (off u) (flips u)) 3 true) e (has_negation (setting 0 (off 0) (flips 0)))
    holds t e (suc j) h = absurd (omega arith)

pub barred_with : (k : ℕ) → Reaches (constrains 2 3) (bad_of (constrains 2 3)) 0 k → ⊥
unfolding ordered_graph given flipped
barred_with k r =
    let bits = setting 0 (r.inputs r.step) (r.latches r.step) in
    let low : Means latch bits 2 false = negation (r.constrained r.step (omega arith) 0 (omega arith)) in
    subst T (only_latch bits true r.bad ∙ sym (only_latch bits false low)) tt

pub barred_before : (k : ℕ) → Reaches (constrains 2 2) (bad_of (constrains 2 2)) 0 k → ⊥
unfolding ordered_graph given
barred_before k r =
    begins_low (0 ∷ 1 ∷ 1 ∷ 0 ∷ 0 ∷ []) (2 ∷ 2 ∷ []) [] r.inputs r.latches r.run (r.constrained 0 (omega arith) 0 (omega arith))

-- the toggle is 1 again and again, and so is its negation: it meets the set of the justice literal 2 with the fairness literal 3; and there is no second set

abbrev fair : File
fair = toggle (0 ∷ 0 ∷ 0 ∷ 1 ∷ 1 ∷ []) (3 ∷ 2 ∷ []) (1 ∷ [])

-- it has either bit now or at the next step
turns : (b : Bool) (t : ℕ) → (u : ℕ) × (t ≤ u) × (flips u 0 ≡ b)
turns b t = go b (flips t 0) refl
  where
    go : (b c : Bool) → flips t 0 ≡ c → (u : ℕ) × (t ≤ u) × (flips u 0 ≡ b)
    go true true e = (t, omega arith, e)
    go true false e = (suc t, omega arith, ap not e)
    go false true e = (suc t, omega arith, ap not e)
    go false false e = (t, omega arith, e)

pub met : Meets fair 0 off flips
unfolding ordered_graph given
met =
    record {
      run = toggles (0 ∷ 0 ∷ 0 ∷ 1 ∷ 1 ∷ []) (3 ∷ 2 ∷ []) (1 ∷ []);
      is_set = omega arith;
      justice = high;
      fairness = low;
      constrained = λ t j h. absurd (omega arith);
    }
  where
    high : (j : ℕ) → j < 1 → (t : ℕ) → (u : ℕ) × (t ≤ u) × Means latch (setting 0 (off u) (flips u)) (get_or (2 ∷ []) j 0) true
    high zero h t =
        let r = turns true t in
        (r.0, r.1, subst (Means latch (setting 0 (off r.0) (flips r.0)) 2) r.2 (has_latch (setting 0 (off r.0) (flips r.0))))
    high (suc j) h t = absurd (omega arith)

    low : (j : ℕ) → j < 1 → (t : ℕ) → (u : ℕ) × (t ≤ u) × Means latch (setting 0 (off u) (flips u)) (get_or (3 ∷ []) j 0) true
    low zero h t =
        let r = turns false t in (
          r.0,
          r.1,
          subst (Means latch (setting 0 (off r.0) (flips r.0)) 3) (ap not r.2) (has_negation (setting 0 (off r.0) (flips r.0))),
        )
    low (suc j) h t = absurd (omega arith)

pub no_second_set : (inputs latches : ℕ → Bits) → Meets fair 1 inputs latches → ⊥
no_second_set inputs latches m = omega (arith, m.is_set)

-- a latch that begins with 1 and has 0 for its next state is 1 once: no run of it meets the set of the justice literal 2
pub once_is_not_again : (inputs latches : ℕ → Bits) → Meets (latch_of 0 1 (0 ∷ 0 ∷ 0 ∷ 0 ∷ 1 ∷ []) (2 ∷ []) (1 ∷ [])) 0 inputs latches → ⊥
unfolding ordered_graph given
once_is_not_again inputs latches m = let r = m.justice 0 (omega arith) 1 in falls r.0 r.1 r.2
  where
    falls : (u : ℕ) → 1 ≤ u → Means latch (setting 0 (inputs u) (latches u)) 2 true → ⊥
    falls zero h high = absurd (omega arith)
    falls (suc u) h high =
        let zero-next : latches (suc u) 0 ≡ false
        = means_one latch latch_once (setting 0 (inputs u) (latches u)) (m.run.goes_on u 0 (omega arith)) constant in
        subst T (only_latch (setting 0 (inputs (suc u)) (latches (suc u))) true high ∙ zero-next) tt
