-- Whether what is lent is an ordered circuit: checks 1, 2, 4, 22 and 23, in this order, and what they answer. Assumes nothing.
use Rattle.std.specs.Prelude.{ℕ, ◌+◌, ◌*◌, ◌%◌, Bool, cond, not, ◌||◌, List, [], ◌∷◌, ◌++◌, eqb, leb, ltb, length, get_or, Option, Some, None, Result, Ok, Err}
use Rattle.lit.specs.Code.{literal}
use Rattle.lit.specs.declared.Lit.{Lit}
use Rattle.circuit.specs.Walk.{Pair, first_code}
use Rattle.circuit.specs.Circuit.{first_over, first_stray}
use Rattle.circuit.specs.Ordered.{Ordered, sources_of}
use Rattle.circuit.specs.Outcome.{limit, total, pairs_of, pair_words}
use Rattle.circuit.specs.Resets.{side_by_side}
use Rattle.ordered.specs.declared.given.Fault.{Fault}
use Rattle.ordered.specs.declared.given.Fault.TheVariants.{TooBig, Misshapen, Over, Reset, Disordered, Short}
use Rattle.ordered.specs.WellOrdered.{variables_of, latches_of}

-- what the checks answer: that the circuit fits, or a fault
abbrev pub Checked : Type 0
Checked = Result (Unit {0}) Fault

abbrev pub fits : Checked
fits = Ok tt

-- the number of a fault
abbrev pub fault_number : Fault → ℕ
fault_number TooBig = 1
fault_number Misshapen = 2
fault_number (Over l) = 4
fault_number (Reset l) = 22
fault_number (Disordered l) = 23
fault_number Short = 3

-- the code that a fault names; 0 where it names none
abbrev pub fault_literal : Fault → ℕ
fault_literal TooBig = 0
fault_literal Misshapen = 0
fault_literal (Over l) = l.0
fault_literal (Reset l) = l.0
fault_literal (Disordered l) = l.0
fault_literal Short = 0

-- an ordered circuit as it is lent: I, the five root counts in walk order, next states, resets, gates two words each (first, second), the sizes of the
-- justice sets, roots
pub record Words : Type 0 where
  pub inputs : ℕ
  pub counts : List ℕ
  pub nexts : List ℕ
  pub resets : List ℕ
  pub gates : List ℕ
  pub sizes : List ℕ
  pub roots : List ℕ

-- the circuit that is lent; a word of gates that is left over is none
abbrev pub circuit_in : Words → Ordered
circuit_in w =
    record { inputs = w.inputs; nexts = w.nexts; resets = w.resets; gates = pairs_of w.gates; counts = w.counts; roots = w.roots }

-- an ordered circuit and its sizes, as they are lent
abbrev pub words_of : Ordered → List ℕ → Words
words_of O sizes =
    record {
      inputs = O.inputs;
      counts = O.counts;
      nexts = O.nexts;
      resets = O.resets;
      gates = pair_words O.gates;
      sizes = sizes;
      roots = O.roots;
    }

-- check 1, of V, R and the number of justice sets: one is over the limit. I, L and G are parts of V
unfoldable pub too_large : ℕ → ℕ → ℕ → Bool
too_large variables roots sets = ltb limit variables || ltb limit roots || ltb limit sets

-- check 2, of the counts, R, the sizes and the numbers of next states, resets and gate words: the counts do not sum to R, or the sizes to the fifth count, or
-- there are not as many resets as next states, or a word is left over
unfoldable pub uneven : List ℕ → ℕ → List ℕ → ℕ → ℕ → ℕ → Bool
uneven counts roots sizes nexts resets words =
    not (eqb (total counts) roots) || not (eqb (total sizes) (get_or counts 4 0)) || not (eqb nexts resets) || not (eqb (words % 2) 0)

-- the same of what is lent
abbrev pub uneven_in : Words → Bool
uneven_in w = uneven w.counts (length w.roots) w.sizes (length w.nexts) (length w.resets) (length w.gates)

-- check 4 goes through the gates, each by its first and second input, then the latches, each by its next state and reset, roots, and the code that is asked
abbrev pub codes_of : List ℕ → List ℕ → List ℕ → List ℕ → ℕ → List ℕ
codes_of gates nexts resets roots asked = gates ++ (side_by_side nexts resets ++ (roots ++ (asked ∷ [])))

-- the same of what is lent
abbrev pub codes_in : Words → ℕ → List ℕ
codes_in w asked = codes_of w.gates w.nexts w.resets w.roots asked

-- check 23, of a gate's own code and its inputs: the code is not above the first, or the first is below the second
abbrev pub breaks_order : ℕ → Pair → Bool
breaks_order code p = leb code p.larger || ltb p.larger p.smaller

-- the code of the first gate that is not in order; the first of the list has the code t
abbrev pub first_disordered : ℕ → List Pair → Option ℕ
first_disordered t [] = None
first_disordered t (p ∷ ps) = cond (breaks_order t p) (Some t) (first_disordered (t + 2) ps)

-- a check that found a code answers it; else what comes after
abbrev pub fault_at : Option ℕ → (Lit → Fault) → Checked → Checked
fault_at (Some c) why after = Err (why (literal c))
fault_at None why after = after

-- what checks 4, 22 and 23 find, each a literal or none: the first of them that finds one
abbrev pub first_fault : Option Lit → Option Lit → Option Lit → Checked
first_fault (Some l) stray loose = Err (Over l)
first_fault None (Some l) loose = Err (Reset l)
first_fault None None (Some l) = Err (Disordered l)
first_fault None None None = fits

-- the checks in their order
unfoldable pub checked : Words → ℕ → Checked
checked w asked =
    cond (too_large (variables_of (circuit_in w)) (length w.roots) (length w.sizes)) (Err TooBig)
    (cond (uneven_in w) (Err Misshapen)
    (fault_at (first_over (2 * variables_of (circuit_in w) + 1) (codes_in w asked)) Over
    (fault_at (first_stray (latches_of (circuit_in w)) w.resets) Reset
    (fault_at (first_disordered (first_code (sources_of (circuit_in w))) (circuit_in w).gates) Disordered fits))))
