-- What the contracts of this crate promise: any two outcomes that they allow for the same arguments are equal, the answer and each lent word; what `check`
-- answers is true, and what is true is answered; and what `expand` leaves of an ordered circuit is, lent to renumbering, that circuit; a well ordered one is
-- always renumbered, and comes out as it went in where every flag is off. Assumes nothing.
use Rattle.std.specs.Prelude.{Ok, Err}
use Prim.Native.Nat.{ℕ, ◌+◌, ◌*◌, ◌<◌, ◌≤◌}
use mathlib.Core.Path.{◌≡◌, sym, ap, ◌∙◌}
use mathlib.Core.Logic.{◌≢◌, ◌↔◌}
use mathlib.Core.Bool.{Bool, false}
use mathlib.Core.List.{List}
use lib.ListN.{length, get_or}
use Rattle.promise.specs.Determined.{Determines, DeterminesCells}
use Rattle.lit.specs.declared.Lit.{Lit}
use Rattle.circuit.specs.Graph.{In, DefinedOnce}
use Rattle.circuit.specs.Walk.{Work, reached, first_code}
use Rattle.circuit.specs.Circuit.{graph, renumber}
use Rattle.circuit.specs.Ordered.{Ordered, first_latch, ordered_of, sources_of, given, InOrder}
use Rattle.circuit.specs.declared.Summary.{Summary}
use Rattle.circuit.specs.Outcome as C
use Rattle.circuit.specs.Outcome.{Lent, circuit_of, limit, total, pair_words, held}
use Rattle.circuit.specs.Claims.{Within, Roomy, Bounded, AllReset, Passes, AllGrounded, AllWithin, FirstOver, FirstStray}
use Rattle.circuit.proofs.Ordered.{count_from-length}
use Rattle.ordered.specs.WellOrdered.{variables_of, latches_of, WellOrdered}
use Rattle.ordered.specs.Keeps.{Keeps}
use Rattle.ordered.proofs.Passing as passing
use Rattle.ordered.proofs.Again as again
use Rattle.ordered.specs.Expand.{expanded, Lists, Outcome, expansion, Lends}
use Rattle.ordered.specs.declared.given.Fault.TheVariants.{TooBig, Misshapen, Over, Reset, Disordered, Short}
use Rattle.ordered.specs.Check.{Checked, fits, Words, circuit_in, words_of, codes_in, checked}
use Rattle.ordered.specs.Given.{Given, limited, Even, FirstLoose, Says}
use Rattle.ordered.proofs.Exactly as lent
use Rattle.ordered.proofs.Expansions as expansions
use Rattle.ordered.proofs.number.Kinds as number-kinds
use Rattle.ordered.proofs.number.Reads as number-contract
use Rattle.ordered.proofs.U32FromUnexpanded.from.Kinds as reason-number-kinds
use Rattle.ordered.proofs.U32FromUnexpanded.from.Reads as reason-number-contract
use Rattle.ordered.proofs.given.U32FromFault.from.Kinds as fault-number-kinds
use Rattle.ordered.proofs.given.U32FromFault.from.Reads as fault-number-contract
use Rattle.ordered.proofs.given.fault_literal.Kinds as fault-literal-kinds
use Rattle.ordered.proofs.given.fault_literal.Reads as fault-literal-contract
use Rattle.ordered.proofs.given.check.Kinds as check-kinds
use Rattle.ordered.proofs.given.check.Reads as check-contract
use Rattle.ordered.proofs.expand.Kinds as expand-kinds
use Rattle.ordered.proofs.expand.Reads as expand-contract

pub one_number : Determines 0 number-kinds.ps number-kinds.r number-contract.Learnt
one_number κs a x y e f p q = p ∙ sym q

pub one_reason_number : Determines 0 reason-number-kinds.ps reason-number-kinds.r reason-number-contract.Learnt
one_reason_number κs a x y e f p q = p ∙ sym q

pub one_expand : DeterminesCells 4 expand-kinds.ps expand-kinds.r expand-contract.Learnt {A = Lists}
    (λ κs e. record { inputs = e.1.1.1.0.now; states = e.1.1.1.1.0.now; triples = e.1.1.1.1.1.0.now })
one_expand κs a x y e f p q = (ap (λ (o : Outcome). o.answer) (p ∙ sym q), ap (λ (o : Outcome). o.lists) (p ∙ sym q))

pub one_fault_number : Determines 0 fault-number-kinds.ps fault-number-kinds.r fault-number-contract.Learnt
one_fault_number κs a x y e f p q = p ∙ sym q

pub one_fault_literal : Determines 0 fault-literal-kinds.ps fault-literal-kinds.r fault-literal-contract.Learnt
one_fault_literal κs a x y e f p q = p ∙ sym q

pub one_check : Determines 5 check-kinds.ps check-kinds.r check-contract.Learnt
one_check κs a x y e f p q = p ∙ sym q

-- what `check` answers, where w is lent and the code c is asked: an answer is given exactly where what it says is true
module _ (w : Words) (c : ℕ) where
  pub exactly : (a : Checked) → (checked w c ≡ a) ↔ Says w c a
  exactly = lent.exactly w c

  -- an ordered circuit fits, and no other
  pub fits_exactly : (checked w c ≡ fits) ↔ (Given w × (c ≤ 2 * variables_of (circuit_in w) + 1))
  fits_exactly = exactly fits

  -- 1: one of the sizes is over the limit
  pub too_big_exactly : (checked w c ≡ Err TooBig) ↔ ((n : ℕ) × In n (limited w) × (limit < n))
  too_big_exactly = exactly (Err TooBig)

  -- 2: the sizes are within the limit, and the sums or the words of gates do not agree
  pub misshapen_exactly : (checked w c ≡ Err Misshapen) ↔ (AllWithin limit (limited w) × (Even w → ⊥))
  misshapen_exactly = exactly (Err Misshapen)

  -- 4: 1 and 2 are passed, and the code named is the first over 2V + 1
  pub over_exactly : (d : Lit) → (checked w c ≡ Err (Over d))
      ↔ (AllWithin limit (limited w) × Even w × FirstOver (2 * variables_of (circuit_in w) + 1) (codes_in w c) d.0)
  over_exactly d = exactly (Err (Over d))

  -- 22: 1, 2 and 4 are passed, and the reset named is the first that is not 0, 1 or its latch's literal
  pub reset_exactly : (d : Lit) → (checked w c ≡ Err (Reset d))
      ↔ (AllWithin limit (limited w) × Even w × AllWithin (2 * variables_of (circuit_in w) + 1) (codes_in w c)
      × FirstStray (latches_of (circuit_in w)) w.resets d.0)
  reset_exactly d = exactly (Err (Reset d))

  -- 23: 1, 2, 4 and 22 are passed, and the code named is that of the first gate that is not in order
  pub disordered_exactly : (d : Lit) → (checked w c ≡ Err (Disordered d))
      ↔ (AllWithin limit (limited w) × Even w × AllWithin (2 * variables_of (circuit_in w) + 1) (codes_in w c)
      × AllReset (latches_of (circuit_in w)) w.resets × FirstLoose (first_code (sources_of (circuit_in w))) (circuit_in w).gates d.0)
  disordered_exactly d = exactly (Err (Disordered d))

  -- 3 is a caller's answer
  pub never_short : checked w c ≢ Err Short
  never_short e = (exactly (Err Short)).0 e

-- a well ordered circuit fits, lent as its words, with sizes that sum to the fifth count
pub always_fits : (O : Ordered) (sizes : List ℕ) → WellOrdered O → length sizes ≤ limit → total sizes ≡ get_or O.counts 4 0
    → (c : ℕ) → c ≤ 2 * variables_of O + 1 → checked (words_of O sizes) c ≡ fits
always_fits = lent.always_fits

-- where an ordered circuit is lent, what is lent is its words
pub given_words : (w : Words) → Given w → words_of (circuit_in w) w.sizes ≡ w
given_words = lent.given_words

-- and none of its codes is over 2V + 1
pub given-within : (w : Words) (c : ℕ) → Given w → c ≤ 2 * variables_of (circuit_in w) + 1
    → AllWithin (2 * variables_of (circuit_in w) + 1) (codes_in w c)
given-within = lent.given-within

-- of an ordered circuit whose gates are lent as words, a success leaves the lists of the circuit `given`
pub expanded-given : (O : Ordered) (lists : Lists) (o : Outcome) → o ≡ expansion O.inputs (length O.nexts) (pair_words O.gates) lists
    → o.answer ≡ expanded → (trim hash fold : Bool) (l : Lent) → Lends O trim hash fold o.lists l → circuit_of l ≡ given O trim hash fold
expanded-given = expansions.expanded-given

-- a well ordered circuit passes check 1, check 2 but for the words that are lent, and checks 4 and 22 as it is given, under any flags
pub given_passes : (O : Ordered) → WellOrdered O → (trim hash fold : Bool) → Within (given O trim hash fold) × Bounded (given O trim hash fold)
    × (total (given O trim hash fold).counts ≡ length (given O trim hash fold).roots)
    × (length (given O trim hash fold).states ≡ length (given O trim hash fold).nexts)
    × (length (given O trim hash fold).nexts ≡ length (given O trim hash fold).resets)
    × AllReset (given O trim hash fold).states (given O trim hash fold).resets
unfolding given
given_passes O k trim hash fold = (
  passing.within O k trim hash fold,
  passing.bounded O k trim hash fold,
  k.counts,
  count_from-length (first_latch O.inputs) (length O.nexts),
  k.reset_count,
  k.resets,
)

-- and under any flags it defines no variable twice, and all that is walked of it is grounded
pub given_grounded : (O : Ordered) → WellOrdered O → (trim hash fold : Bool)
    → DefinedOnce (graph (given O trim hash fold)) × AllGrounded (given O trim hash fold)
given_grounded O k trim hash fold = (passing.once O k trim hash fold, passing.grounded O k trim hash fold)

-- `expand` fills its lists of such a circuit where they are long enough
pub fills : (O : Ordered) → WellOrdered O → (lists : Lists) → O.inputs ≤ length lists.inputs → length O.nexts ≤ length lists.states
    → 3 * length O.gates ≤ length lists.triples → (expansion O.inputs (length O.nexts) (pair_words O.gates) lists).answer ≡ expanded
fills = passing.fills

module _ (O : Ordered) (ordered : WellOrdered O) (trim hash fold : Bool) (lists : Lists) (o : Outcome)
    (left : o ≡ expansion O.inputs (length O.nexts) (pair_words O.gates) lists) (filled : o.answer ≡ expanded) (l : Lent)
    (lends : Lends O trim hash fold o.lists l) where
  -- lists to be written that are long enough for the ordered circuit are long enough for what is lent
  pub long_enough_lem : variables_of O + 1 ≤ length l.map → length O.nexts ≤ length l.next_images → length O.nexts ≤ length l.reset_images
      → length O.roots ≤ length l.root_images → 2 * length O.gates ≤ length l.gates_out → 3 * variables_of O + 3 + 3 * length O.gates ≤ length l.scratch → Roomy l (circuit_of l)
  long_enough_lem = passing.roomy O ordered trim hash fold lists o left filled l lends

  -- lent with lists that are long enough to be written, it passes checks 1 to 4 and 22
  pub lent_passes : Roomy l (circuit_of l) → Passes l
  lent_passes = passing.passes O ordered trim hash fold lists o left filled l lends

  -- and renumbering succeeds: an ordered circuit, expanded and lent with lists long enough, is renumbered under every setting of the flags
  pub always_renumbers : Roomy l (circuit_of l) → (s : Summary) × ((C.outcome l).answer ≡ Ok s)
  always_renumbers = passing.renumbers O ordered trim hash fold lists o left filled l lends

  -- no gate is added
  pub no_more_gates : (r : C.Outcome) → r ≡ C.outcome l → (s : Summary) → r.answer ≡ Ok s → length (held l s r).gates ≤ length O.gates
  no_more_gates = passing.no_more O ordered trim hash fold lists o left filled l lends

  -- where renumbering succeeds, its next states and roots keep their values, and its latches their first values
  pub values_kept : (r : C.Outcome) → r ≡ C.outcome l → (s : Summary) → r.answer ≡ Ok s → Keeps O (held l s r)
  values_kept = passing.keeps O ordered trim hash fold lists o left filled l lends

  -- and the gates of the result are in order
  pub result_in_order : (r : C.Outcome) → r ≡ C.outcome l → (s : Summary) → r.answer ≡ Ok s
      → InOrder (sources_of (held l s r)) (held l s r).gates
  result_in_order = passing.in_order O ordered trim hash fold lists o left filled l lends

-- what renumbering leaves after a success is well ordered, whatever was lent
pub result_well_ordered : (l : Lent) (s : Summary) → (C.outcome l).answer ≡ Ok s → WellOrdered (held l s (C.outcome l))
result_well_ordered = passing.result

-- with trim, hash and fold off a well ordered circuit comes out of renumbering as it went in
pub comes_back : (O : Ordered) → WellOrdered O
    → (w : Work) × (renumber (given O false false false) ≡ reached w) × (ordered_of (given O false false false) w ≡ O)
comes_back = again.comes_back
