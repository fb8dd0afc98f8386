-- Ordered circuits that are checked by example: each the smallest on which a neighbouring definition answers otherwise; two faults at a time, in the order
-- of the checks; and each bound, at it and one past it. By computation. Assumes nothing.
use Prim.Native.Nat.{ℕ, zero, suc, ◌+◌, ◌<◌, ◌≤◌}
use Rattle.std.specs.Prelude.{Err}
use mathlib.Core.Path.{◌≡◌, refl}
use mathlib.Core.Bool.{true, false}
use mathlib.Core.List.{List, [], ◌∷◌}
use native.Mathlib.Omega.{arith}
use lib.ListN.{length, replicate, length-replicate}
use borrow.Author.Tests.{lt-ltb, le-ltb, eq-eqb, ne_eqb}
use Rattle.lit.specs.Code.{literal}
use Rattle.circuit.specs.Walk.{Pair, first_code}
use Rattle.circuit.specs.Outcome.{total}
use Rattle.ordered.specs.declared.given.Fault.TheVariants.{TooBig, Misshapen, Over, Reset, Disordered, Short}
use Rattle.ordered.specs.Check.{Checked, fits, fault_number, fault_literal, Words, circuit_in, words_of, too_large, uneven, checked}

pub faults_pinned :
    (fault_number TooBig ≡ 1)
    × (fault_number Misshapen ≡ 2)
    × (fault_number Short ≡ 3)
    × (fault_number (Over (literal 9)) ≡ 4)
    × (fault_number (Reset (literal 9)) ≡ 22)
    × (fault_number (Disordered (literal 9)) ≡ 23)
    × (fault_literal TooBig ≡ 0)
    × (fault_literal Misshapen ≡ 0)
    × (fault_literal Short ≡ 0)
    × (fault_literal (Over (literal 9)) ≡ 9)
    × (fault_literal (Reset (literal 7)) ≡ 7)
    × (fault_literal (Disordered (literal 8)) ≡ 8)
faults_pinned = (refl, refl, refl, refl, refl, refl, refl, refl, refl, refl, refl, refl)

-- what is lent: I, counts, next states, resets, gates, sizes, roots
abbrev words_with : ℕ → List ℕ → List ℕ → List ℕ → List ℕ → List ℕ → List ℕ → Words
words_with inputs counts nexts resets gates sizes roots =
    record { inputs = inputs; counts = counts; nexts = nexts; resets = resets; gates = gates; sizes = sizes; roots = roots }

-- the same with every reset 0
abbrev words : ℕ → List ℕ → List ℕ → List ℕ → List ℕ → List ℕ → Words
words inputs counts nexts gates sizes roots = words_with inputs counts nexts (replicate (length nexts) 0) gates sizes roots

abbrev over : ℕ → Checked
over c = Err (Over (literal c))

abbrev disordered : ℕ → Checked
disordered c = Err (Disordered (literal c))

abbrev pair : ℕ → ℕ → Pair
pair a b = record { larger = a; smaller = b }

-- no roots, and n outputs
abbrev none : List ℕ
none = (0 ∷ 0 ∷ 0 ∷ 0 ∷ 0 ∷ [])

abbrev outputs : ℕ → List ℕ
outputs n = (n ∷ 0 ∷ 0 ∷ 0 ∷ 0 ∷ [])

-- n inputs and these gates, and nothing else
abbrev gated : ℕ → List ℕ → Words
gated n gates = words n none [] gates [] []

-- one input, one latch, one gate, 6, and one output, where no code is over 7: the gate's inputs, the next state, the root
abbrev single : ℕ → ℕ → ℕ → ℕ → Words
single first second next root = words 1 (outputs 1) (next ∷ []) (first ∷ second ∷ []) [] (root ∷ [])

-- one input, one latch, and two gates, 6 and 8, where no code is over 9
abbrev double : List ℕ → Words
double gates = words 1 none (0 ∷ []) gates [] []

pub words_pinned :
    -- the gates are pairs of words, and one that is left over is none
    (circuit_in (words_with 3 (1 ∷ 0 ∷ 0 ∷ 0 ∷ 0 ∷ []) (8 ∷ 3 ∷ []) (1 ∷ 10 ∷ []) (6 ∷ 2 ∷ 3 ∷ 9 ∷ 5 ∷ []) (4 ∷ []) (14 ∷ []))
    ≡ record {
      inputs = 3;
      nexts = (8 ∷ 3 ∷ []);
      resets = (1 ∷ 10 ∷ []);
      gates = pair 6 2 ∷ pair 3 9 ∷ [];
      counts = (1 ∷ 0 ∷ 0 ∷ 0 ∷ 0 ∷ []);
      roots = (14 ∷ []);
    })
    × (words_of
    (record {
      inputs = 3;
      nexts = (8 ∷ 3 ∷ []);
      resets = (1 ∷ 10 ∷ []);
      gates = pair 6 2 ∷ pair 3 9 ∷ [];
      counts = (1 ∷ 0 ∷ 0 ∷ 0 ∷ 1 ∷ []);
      roots = (14 ∷ 15 ∷ []);
    }) (1 ∷ [])
    ≡ words_with 3 (1 ∷ 0 ∷ 0 ∷ 0 ∷ 1 ∷ []) (8 ∷ 3 ∷ []) (1 ∷ 10 ∷ []) (6 ∷ 2 ∷ 3 ∷ 9 ∷ []) (1 ∷ []) (14 ∷ 15 ∷ []))
words_pinned = (refl, refl)

-- circuits that fit
pub fits_pinned :
    -- nothing at all, where no code is over 1; inputs and latches alone
    (checked (gated 0 []) 0 ≡ fits)
    × (checked (gated 0 []) 1 ≡ fits)
    × (checked (words 2 none (0 ∷ 7 ∷ []) [] [] []) 9 ≡ fits)
    -- each code at 2V + 1, the code asked too; a first input one below its gate's code, and both inputs equal
    × (checked (single 5 2 7 7) 7 ≡ fits)
    × (checked (single 5 5 0 0) 0 ≡ fits)
    × (checked (single 1 0 7 7) 0 ≡ fits)
    -- a gate of a gate; a gate with no inputs and no latches
    × (checked (double (5 ∷ 2 ∷ 7 ∷ 6 ∷ [])) 9 ≡ fits)
    × (checked (gated 0 (1 ∷ 1 ∷ [])) 3 ≡ fits)
    -- roots of all five kinds, and sizes that sum to the last, in any number of sets
    × (checked (words 0 (1 ∷ 1 ∷ 1 ∷ 1 ∷ 1 ∷ []) [] [] (1 ∷ []) (0 ∷ 1 ∷ 0 ∷ 1 ∷ 0 ∷ [])) 0 ≡ fits)
    × (checked (words 0 (0 ∷ 0 ∷ 0 ∷ 0 ∷ 3 ∷ []) [] [] (2 ∷ 0 ∷ 1 ∷ []) (0 ∷ 1 ∷ 1 ∷ [])) 0 ≡ fits)
    × (checked (words 0 (0 ∷ 0 ∷ 0 ∷ 1 ∷ 0 ∷ []) [] [] [] (0 ∷ [])) 0 ≡ fits)
    -- of a row with no fifth count there are no justice literals
    × (checked (words 0 (1 ∷ []) [] [] [] (0 ∷ [])) 0 ≡ fits)
unfolding checked too_large uneven first_code
fits_pinned = (refl, refl, refl, refl, refl, refl, refl, refl, refl, refl, refl, refl)

-- 1: I, V and the other sizes at 1,048,575, and one over it
pub limits_pinned :
    (checked (gated 1048575 []) 0 ≡ fits)
    × (checked (gated 1048576 []) 0 ≡ Err TooBig)
    × (checked (gated 4294967295 []) 0 ≡ Err TooBig)
    × (checked (words 1048574 none (2097151 ∷ []) [] [] []) 2097151 ≡ fits)
    × (checked (words 1048575 none (0 ∷ []) [] [] []) 0 ≡ Err TooBig)
    × (checked (gated 1048574 (2097149 ∷ 0 ∷ [])) 2097151 ≡ fits)
    × (checked (gated 1048575 (0 ∷ 0 ∷ [])) 0 ≡ Err TooBig)
    × (checked (words 1048574 none (0 ∷ []) (0 ∷ 0 ∷ []) [] []) 0 ≡ Err TooBig)
    -- a word of gates that is left over counts for none
    × (checked (gated 1048575 (0 ∷ [])) 0 ≡ Err Misshapen)
    -- each of V, R and the number of justice sets
    × (too_large 1048575 1048575 1048575 ≡ false)
    × (too_large 1048576 0 0 ≡ true)
    × (too_large 0 1048576 0 ≡ true)
    × (too_large 0 0 1048576 ≡ true)
unfolding checked too_large uneven first_code
limits_pinned = (refl, refl, refl, refl, refl, refl, refl, refl, refl, refl, refl, refl, refl)

-- 2: one output more or less, with a sum of 2 ^ 32 for none; the sizes against the last count and no other; words that are left over
pub sums_pinned :
    (checked (words 0 (outputs 1) [] [] [] []) 0 ≡ Err Misshapen)
    × (checked (words 0 none [] [] [] (0 ∷ [])) 0 ≡ Err Misshapen)
    × (checked (words 0 (4294967295 ∷ 1 ∷ 0 ∷ 0 ∷ 0 ∷ []) [] [] [] []) 0 ≡ Err Misshapen)
    × (checked (words 0 (0 ∷ 0 ∷ 0 ∷ 0 ∷ 1 ∷ []) [] [] [] (0 ∷ [])) 0 ≡ Err Misshapen)
    × (checked (words 0 (0 ∷ 0 ∷ 0 ∷ 0 ∷ 1 ∷ []) [] [] (0 ∷ 2 ∷ []) (0 ∷ [])) 0 ≡ Err Misshapen)
    × (checked (words 0 (0 ∷ 0 ∷ 0 ∷ 0 ∷ 1 ∷ []) [] [] (4294967295 ∷ 2 ∷ []) (0 ∷ [])) 0 ≡ Err Misshapen)
    × (checked (words 0 (0 ∷ 0 ∷ 0 ∷ 1 ∷ 0 ∷ []) [] [] (1 ∷ []) (0 ∷ [])) 0 ≡ Err Misshapen)
    × (checked (words 0 (outputs 1) [] [] (1 ∷ []) (0 ∷ [])) 0 ≡ Err Misshapen)
    × (checked (gated 1 (2 ∷ [])) 0 ≡ Err Misshapen)
    × (checked (gated 1 (2 ∷ 2 ∷ 2 ∷ [])) 0 ≡ Err Misshapen)
unfolding checked too_large uneven first_code
sums_pinned = (refl, refl, refl, refl, refl, refl, refl, refl, refl, refl)

-- 4: each code at 2V + 2, and the first that is over: first and second input, gate by gate, next states, roots, the code asked
pub codes_pinned :
    (checked (gated 0 []) 2 ≡ over 2)
    × (checked (single 8 2 0 0) 0 ≡ over 8)
    × (checked (single 5 8 0 0) 0 ≡ over 8)
    × (checked (single 5 2 8 0) 0 ≡ over 8)
    × (checked (single 5 2 0 8) 0 ≡ over 8)
    × (checked (single 5 2 0 0) 8 ≡ over 8)
    × (checked (single 8 9 10 11) 12 ≡ over 8)
    × (checked (single 5 9 10 11) 12 ≡ over 9)
    × (checked (single 5 2 10 11) 12 ≡ over 10)
    × (checked (single 5 2 0 11) 12 ≡ over 11)
    × (checked (single 9 8 0 0) 0 ≡ over 9)
    × (checked (double (5 ∷ 11 ∷ 10 ∷ 2 ∷ [])) 0 ≡ over 11)
    × (checked (double (5 ∷ 2 ∷ 11 ∷ 10 ∷ [])) 0 ≡ over 11)
    × (checked (words 0 none (4294967295 ∷ 6 ∷ []) [] [] []) 0 ≡ over 4294967295)
unfolding checked too_large uneven first_code
codes_pinned = (refl, refl, refl, refl, refl, refl, refl, refl, refl, refl, refl, refl, refl, refl)

-- two inputs and two latches, 6 and 8, with these next states and resets, where no code is over 9
abbrev latched : List ℕ → List ℕ → Words
latched nexts resets = words_with 2 none nexts resets [] [] []

abbrev stray : ℕ → Checked
stray c = Err (Reset (literal c))

-- resets: 0, 1, the latch's own literal; 22 for the other latch's, the own one negated, an input's; the first that is at fault; each at its place
pub resets_pinned :
    (checked (latched (0 ∷ 9 ∷ []) (0 ∷ 1 ∷ [])) 0 ≡ fits)
    × (checked (latched (0 ∷ 9 ∷ []) (6 ∷ 8 ∷ [])) 0 ≡ fits)
    × (checked (latched (0 ∷ 9 ∷ []) (8 ∷ 8 ∷ [])) 0 ≡ stray 8)
    × (checked (latched (0 ∷ 9 ∷ []) (6 ∷ 6 ∷ [])) 0 ≡ stray 6)
    × (checked (latched (0 ∷ 9 ∷ []) (7 ∷ 9 ∷ [])) 0 ≡ stray 7)
    × (checked (latched (0 ∷ 9 ∷ []) (0 ∷ 9 ∷ [])) 0 ≡ stray 9)
    × (checked (latched (0 ∷ 9 ∷ []) (2 ∷ 3 ∷ [])) 0 ≡ stray 2)
    -- 2: one more, one fewer; 2 before 4 and before 22
    × (checked (latched (0 ∷ 9 ∷ []) (0 ∷ [])) 0 ≡ Err Misshapen)
    × (checked (latched (0 ∷ 9 ∷ []) (0 ∷ 0 ∷ 0 ∷ [])) 0 ≡ Err Misshapen)
    × (checked (latched (0 ∷ 10 ∷ []) (2 ∷ [])) 0 ≡ Err Misshapen)
    -- 4 goes latch by latch, next state and reset; 4 before 22, by a later latch, a root, the code asked
    × (checked (latched (0 ∷ 9 ∷ []) (0 ∷ 10 ∷ [])) 0 ≡ over 10)
    × (checked (latched (11 ∷ 9 ∷ []) (10 ∷ 0 ∷ [])) 0 ≡ over 11)
    × (checked (latched (0 ∷ 11 ∷ []) (10 ∷ 0 ∷ [])) 0 ≡ over 10)
    × (checked (latched (0 ∷ 10 ∷ []) (2 ∷ 0 ∷ [])) 0 ≡ over 10)
    × (checked (words_with 2 (outputs 1) (0 ∷ 9 ∷ []) (2 ∷ 0 ∷ []) [] [] (10 ∷ [])) 0 ≡ over 10)
    × (checked (latched (0 ∷ 9 ∷ []) (2 ∷ 0 ∷ [])) 10 ≡ over 10)
    -- 22 before 23
    × (checked (words_with 1 none (0 ∷ []) (2 ∷ []) (2 ∷ 3 ∷ []) [] []) 0 ≡ stray 2)
    × (checked (words_with 1 none (0 ∷ []) (4 ∷ []) (2 ∷ 3 ∷ []) [] []) 0 ≡ disordered 6)
unfolding checked too_large uneven first_code
resets_pinned = (refl, refl, refl, refl, refl, refl, refl, refl, refl, refl, refl, refl, refl, refl, refl, refl, refl, refl)

-- 23: the gate's own code as its first input, and the first below the second; the first gate of two, whichever half it breaks, and the second
pub order_pinned :
    (checked (single 6 2 0 0) 0 ≡ disordered 6)
    × (checked (single 7 2 0 0) 0 ≡ disordered 6)
    × (checked (single 2 3 0 0) 0 ≡ disordered 6)
    × (checked (single 6 7 0 0) 0 ≡ disordered 6)
    × (checked (double (2 ∷ 3 ∷ 8 ∷ 2 ∷ [])) 0 ≡ disordered 6)
    × (checked (double (6 ∷ 2 ∷ 2 ∷ 3 ∷ [])) 0 ≡ disordered 6)
    × (checked (double (5 ∷ 2 ∷ 8 ∷ 2 ∷ [])) 0 ≡ disordered 8)
    × (checked (double (5 ∷ 2 ∷ 2 ∷ 3 ∷ [])) 0 ≡ disordered 8)
    -- the first gate's code after no inputs and no latches, after two inputs, after two latches
    × (checked (gated 0 (2 ∷ 0 ∷ [])) 0 ≡ disordered 2)
    × (checked (gated 2 (6 ∷ 0 ∷ [])) 0 ≡ disordered 6)
    × (checked (words 0 none (0 ∷ 0 ∷ []) (6 ∷ 0 ∷ []) [] []) 0 ≡ disordered 6)
unfolding checked too_large uneven first_code
order_pinned = (refl, refl, refl, refl, refl, refl, refl, refl, refl, refl, refl)

-- two faults at a time, in the order 1, 2, 4, 23; with 22 among them above
pub order_of_checks_pinned :
    -- 1 before 2, by a word that is left over and by each sum; before 4, by each list; before 23
    (checked (gated 1048576 (0 ∷ [])) 0 ≡ Err TooBig)
    × (checked (words 1048576 none [] [] [] (0 ∷ [])) 0 ≡ Err TooBig)
    × (checked (words 1048576 none [] [] (1 ∷ []) []) 0 ≡ Err TooBig)
    × (checked (gated 1048576 (4294967295 ∷ 0 ∷ [])) 0 ≡ Err TooBig)
    × (checked (words 1048576 none (4294967295 ∷ []) [] [] []) 0 ≡ Err TooBig)
    × (checked (words 1048576 (outputs 1) [] [] [] (4294967295 ∷ [])) 0 ≡ Err TooBig)
    × (checked (gated 1048576 []) 4294967295 ≡ Err TooBig)
    × (checked (gated 1048576 (2 ∷ 3 ∷ [])) 0 ≡ Err TooBig)
    -- 2 before 4 and before 23
    × (checked (gated 1 (8 ∷ [])) 0 ≡ Err Misshapen)
    × (checked (words 1 none [] [] [] (8 ∷ [])) 0 ≡ Err Misshapen)
    × (checked (words 1 none (8 ∷ []) [] (1 ∷ []) []) 8 ≡ Err Misshapen)
    × (checked (gated 1 (2 ∷ 3 ∷ 2 ∷ [])) 0 ≡ Err Misshapen)
    × (checked (words 1 none [] (2 ∷ 3 ∷ []) (1 ∷ []) []) 0 ≡ Err Misshapen)
    -- 4 before 23: in the gate that is not in order, in a later one, in the other lists
    × (checked (single 2 8 0 0) 0 ≡ over 8)
    × (checked (double (2 ∷ 3 ∷ 10 ∷ 2 ∷ [])) 0 ≡ over 10)
    × (checked (single 2 3 8 0) 0 ≡ over 8)
    × (checked (single 2 3 0 8) 0 ≡ over 8)
    × (checked (single 2 3 0 0) 8 ≡ over 8)
unfolding checked too_large uneven first_code
order_of_checks_pinned = (refl, refl, refl, refl, refl, refl, refl, refl, refl, refl, refl, refl, refl, refl, refl, refl, refl, refl)

-- lists of any length: of next states, of roots, of justice sets, those within the limit pass check 1, and longer ones do not
pub many_pinned :
    ((n : ℕ) → n ≤ 1048575 → checked (words 0 none (replicate n 0) (0 ∷ []) [] []) 0 ≡ Err Misshapen)
    × ((n : ℕ) → 1048575 < n → checked (words 0 none (replicate n 0) (0 ∷ []) [] []) 0 ≡ Err TooBig)
    × ((n : ℕ) → n ≤ 1048575 → checked (words 0 (outputs 4294967295) [] [] [] (replicate n 0)) 0 ≡ Err Misshapen)
    × ((n : ℕ) → 1048575 < n → checked (words 0 (outputs 4294967295) [] [] [] (replicate n 0)) 0 ≡ Err TooBig)
    × ((n : ℕ) → n ≤ 1048575 → checked (words 0 none [] [] (replicate n 0) []) 0 ≡ fits)
    × ((n : ℕ) → 1048575 < n → checked (words 0 none [] [] (replicate n 0) []) 0 ≡ Err TooBig)
unfolding checked too_large uneven first_code
many_pinned = (
  λ n h. rw (length-replicate {A = ℕ} n 0, length-replicate {A = ℕ} n 0, eq-eqb n n refl, le-ltb 1048575 (0 + n + 0) (omega arith)),
  λ n h. rw (length-replicate {A = ℕ} n 0, lt-ltb 1048575 (0 + n + 0) (omega arith)),
  λ n h. rw (length-replicate {A = ℕ} n 0, le-ltb 1048575 n h, ne_eqb 4294967295 n (omega arith)),
  λ n h. rw (length-replicate {A = ℕ} n 0, lt-ltb 1048575 n h),
  λ n h. rw (length-replicate {A = ℕ} n 0, le-ltb 1048575 n h, no_sum n),
  λ n h. rw (length-replicate {A = ℕ} n 0, lt-ltb 1048575 n h),
)
  where
    no_sum : (n : ℕ) → total (replicate n 0) ≡ 0
    no_sum zero = refl
    no_sum (suc n) = omega (arith, no_sum n)
