-- The other circuits of document 01, the paper's half adder, and the smallest circuits that tell the definitions from their neighbours: one theorem, by
-- computation. Assumes nothing.
use Rattle.std.specs.Prelude.{Some, None, Ok}
use Prim.Native.Nat.{ℕ}
use mathlib.Core.Path.{◌≡◌, refl}
use mathlib.Core.Bool.{false}
use mathlib.Core.List.{List, [], ◌∷◌, map}
use lib.ListN.{replicate}
use Rattle.lit.specs.Code.{literal, variable, flipped}
use Rattle.circuit.specs.declared.Refusal.TheVariants.{TooBig, Misshapen, Short, Over, Reset, Again, StateAgain, Undefined, Cycle}
use Rattle.circuit.specs.Refusals.{refusal_number, refusal_literal}
use Rattle.circuit.specs.Map.{entry_image, image_in, image_of, store, code_of}
use Rattle.circuit.specs.Walk.{first_code, next_code, folded, already, settle_as, settle_on, settle, look, through_inputs, walk, walk_all}
use Rattle.circuit.specs.Circuit.{codes, start, walked, numbered, renumber}
use Rattle.circuit.specs.Ordered.{images_in, ordered_of}
use Rattle.circuit.specs.Outcome.{Lent, lent_of, outcome_of, too_big, misshapen, too_short, conclusion, after, outcome}
use Rattle.circuit.specs.Lending.{plain, trimming, hashing, folding, lend_with, lend, circuit, Example, success, success_with, refusal, early_refusal}

-- the root counts: outputs, bad states, constraints, fairness, justice
abbrev pub outputs : ℕ → List ℕ
outputs n = n ∷ 0 ∷ 0 ∷ 0 ∷ 0 ∷ []

-- the unstarred lines
abbrev unstarred : List Example
unstarred =
    -- gate 2(2,4), V = 2, root 2: 8, literal 2; gate 2(4,2): 7, literal 4
    refusal (circuit plain 2 [] (2 ∷ 2 ∷ 4 ∷ []) (2 ∷ [])) (Cycle (literal 2))
    ∷ refusal (circuit plain 2 [] (2 ∷ 4 ∷ 2 ∷ []) (2 ∷ [])) (Undefined (literal 4))
    -- inputs 2, 3: 5, literal 3; input 0: 5, literal 0
    ∷ refusal (circuit plain 1 (2 ∷ 3 ∷ []) [] []) (Again (literal 3))
    ∷ refusal (circuit plain 0 (0 ∷ []) [] []) (Again (literal 0))
    -- input 2, latch state 2, next 0: 6, literal 2
    ∷ refusal (lend plain 1 (2 ∷ []) (2 ∷ []) (0 ∷ []) [] (outputs 0) []) (StateAgain (literal 2))
    -- inputs 2, 4, gates 6(2,4), 8(2,5), trim, fairness 8, justice 6: images 6, 8
    ∷ success (lend trimming 4 (2 ∷ 4 ∷ []) [] [] (6 ∷ 2 ∷ 4 ∷ 8 ∷ 2 ∷ 5 ∷ []) (0 ∷ 0 ∷ 0 ∷ 1 ∷ 1 ∷ []) (8 ∷ 6 ∷ [])) 2 4
    (0 ∷ 2 ∷ 4 ∷ 8 ∷ 6 ∷ []) [] (5 ∷ 2 ∷ 4 ∷ 2 ∷ []) (6 ∷ 8 ∷ [])
    -- the half adder: outputs 10 and 6, gates 6(4,2), 8(5,3), 10(9,7)
    ∷ success (circuit plain 7 (2 ∷ 4 ∷ []) (6 ∷ 13 ∷ 15 ∷ 12 ∷ 2 ∷ 4 ∷ 14 ∷ 3 ∷ 5 ∷ []) (6 ∷ 12 ∷ [])) 3 5
    (0 ∷ 2 ∷ 4 ∷ 10 ∷ 4294967295 ∷ 4294967295 ∷ 6 ∷ 8 ∷ []) [] (4 ∷ 2 ∷ 5 ∷ 3 ∷ 9 ∷ 7 ∷ []) (10 ∷ 6 ∷ [])
    ∷ []

-- the order of the walk, and what it names
abbrev walks : List Example
walks =
    -- gates 2(4,0), 4(2,0), root 2, trim: 8, literal 4, where marking the path would say 2
    refusal (circuit trimming 2 [] (2 ∷ 4 ∷ 0 ∷ 4 ∷ 2 ∷ 0 ∷ []) (2 ∷ [])) (Cycle (literal 4))
    -- gates 2(4,0), 4(6,0), 6(5,0), root 2, trim: 8, literal 6, where a comparison without signs would say 5
    ∷ refusal (circuit trimming 3 [] (2 ∷ 4 ∷ 0 ∷ 4 ∷ 6 ∷ 0 ∷ 6 ∷ 5 ∷ 0 ∷ []) (2 ∷ [])) (Cycle (literal 6))
    -- gate 2(2,0), root 3, trim, no folding: 8, literal 2
    ∷ refusal (circuit trimming 1 [] (2 ∷ 2 ∷ 0 ∷ []) (3 ∷ [])) (Cycle (literal 2))
    -- gate 2(5,2), V = 2, root 2: 7, literal 5 as used
    ∷ refusal (circuit plain 2 [] (2 ∷ 5 ∷ 2 ∷ []) (2 ∷ [])) (Undefined (literal 5))
    -- input 2, gate 4(0,6), fold, root 4: 7, literal 6; gate 4(0,4): 8, literal 4. The second input is walked behind a 0
    ∷ refusal (circuit folding 3 (2 ∷ []) (4 ∷ 0 ∷ 6 ∷ []) (4 ∷ [])) (Undefined (literal 6))
    ∷ refusal (circuit folding 2 (2 ∷ []) (4 ∷ 0 ∷ 4 ∷ []) (4 ∷ [])) (Cycle (literal 4))
    -- input 2, gate 4(2,1), fold, root 4: no gate, image 2; the same for 4(1,2)
    ∷ success (circuit folding 2 (2 ∷ []) (4 ∷ 2 ∷ 1 ∷ []) (4 ∷ [])) 0 1 (0 ∷ 2 ∷ 2 ∷ []) [] (0 ∷ 0 ∷ []) (2 ∷ [])
    ∷ success (circuit folding 2 (2 ∷ []) (4 ∷ 1 ∷ 2 ∷ []) (4 ∷ [])) 0 1 (0 ∷ 2 ∷ 2 ∷ []) [] (0 ∷ 0 ∷ []) (2 ∷ [])
    -- inputs 2, 4, gates 6(2,4), 8(2,5), roots 8, 6, trim off: gates before roots
    ∷ success (circuit plain 4 (2 ∷ 4 ∷ []) (6 ∷ 2 ∷ 4 ∷ 8 ∷ 2 ∷ 5 ∷ []) (8 ∷ 6 ∷ [])) 2 4 (0 ∷ 2 ∷ 4 ∷ 6 ∷ 8 ∷ []) [] (4 ∷ 2 ∷ 5 ∷ 2 ∷ []) (8 ∷ 6 ∷ [])
    -- input 2, latch (4,8), gates 6(2,4), 8(2,5), root 6, trim: next states before roots
    ∷ success (lend trimming 4 (2 ∷ []) (4 ∷ []) (8 ∷ []) (6 ∷ 2 ∷ 4 ∷ 8 ∷ 2 ∷ 5 ∷ []) (outputs 1) (6 ∷ [])) 2 4
    (0 ∷ 2 ∷ 4 ∷ 8 ∷ 6 ∷ []) (6 ∷ []) (5 ∷ 2 ∷ 4 ∷ 2 ∷ []) (8 ∷ [])
    -- inputs 2, 4, gates 6(2,4), 9(4,2), hash, roots 8, 9: one gate, images 7, 6
    ∷ success (circuit hashing 4 (2 ∷ 4 ∷ []) (6 ∷ 2 ∷ 4 ∷ 9 ∷ 4 ∷ 2 ∷ []) (8 ∷ 9 ∷ [])) 1 3 (0 ∷ 2 ∷ 4 ∷ 6 ∷ 7 ∷ []) [] (4 ∷ 2 ∷ 0 ∷ 0 ∷ []) (7 ∷ 6 ∷ [])
    ∷ []

-- the order of the checks, and what they name
abbrev checks : List Example
checks =
    -- input 2, gate 3(0,0): 5, literal 3; inputs 4, 5 and latch state 0: 5, literal 5
    refusal (circuit plain 1 (2 ∷ []) (3 ∷ 0 ∷ 0 ∷ []) []) (Again (literal 3))
    ∷ refusal (lend plain 2 (4 ∷ 5 ∷ []) (0 ∷ []) (0 ∷ []) [] (outputs 0) []) (Again (literal 5))
    -- input 2, latch state 3: 6, literal 3; latch states 2, 3: 6, literal 3; latch state 0: 6, literal 0
    ∷ refusal (lend plain 1 (2 ∷ []) (3 ∷ []) (0 ∷ []) [] (outputs 0) []) (StateAgain (literal 3))
    ∷ refusal (lend plain 1 [] (2 ∷ 3 ∷ []) (0 ∷ 0 ∷ []) [] (outputs 0) []) (StateAgain (literal 3))
    ∷ refusal (lend plain 0 [] (0 ∷ []) (0 ∷ []) [] (outputs 0) []) (StateAgain (literal 0))
    -- V = 1: latch (8,9) is 4, literal 8; gate 2(9,8) is 4, literal 9; inputs 2, 2 and root 9 is 4, literal 9
    ∷ early_refusal (lend plain 1 [] (8 ∷ []) (9 ∷ []) [] (outputs 0) []) (Over (literal 8))
    ∷ early_refusal (circuit plain 1 [] (2 ∷ 9 ∷ 8 ∷ []) []) (Over (literal 9))
    ∷ early_refusal (circuit plain 1 (2 ∷ 2 ∷ []) [] (9 ∷ [])) (Over (literal 9))
    -- V = 1: gate 2(8,2) and latch (9,2) is 4, literal 8; latch (9,2) and root 8 is 4, literal 9; input 4 and gate 5(2,2) is 4, literal 4
    ∷ early_refusal (lend plain 1 [] (9 ∷ []) (2 ∷ []) (2 ∷ 8 ∷ 2 ∷ []) (outputs 0) []) (Over (literal 8))
    ∷ early_refusal (lend plain 1 [] (9 ∷ []) (2 ∷ []) [] (outputs 1) (8 ∷ [])) (Over (literal 9))
    ∷ early_refusal (circuit plain 1 (4 ∷ []) (5 ∷ 2 ∷ 2 ∷ []) []) (Over (literal 4))
    -- root counts that do not sum to R; unlike latch lists; four words of gates
    ∷ early_refusal (lend plain 0 [] [] [] [] (outputs 1) []) Misshapen
    ∷ early_refusal (lend plain 1 [] (2 ∷ []) [] [] (outputs 0) []) Misshapen
    ∷ early_refusal (circuit plain 1 [] (2 ∷ 0 ∷ 0 ∷ 4 ∷ []) []) Misshapen
    ∷ []

-- lists of so many cells lent for a circuit with a latch, a gate and a root, which needs 3, 1, 1, 1, 2 and 12
abbrev lends : ℕ → ℕ → ℕ → ℕ → ℕ → ℕ → Lent
lends m n t r g s =
    lent_of (record { top = variable 2; counts = outputs 1; trim = false; hash = false; fold = false }) [] (2 ∷ []) (4 ∷ []) (1 ∷ []) (4 ∷ 2 ∷ 3 ∷ []) (5 ∷ [])
    (replicate m 77) (replicate n 77) (replicate t 77) (replicate r 77) (replicate g 77) (replicate s 77)

-- the largest variable top, root counts that sum to n, and nothing lent
abbrev bare : ℕ → ℕ → Lent
bare top n = lent_of (record { top = variable top; counts = outputs n; trim = false; hash = false; fold = false }) [] [] [] [] [] [] [] [] [] [] [] []

-- each list one cell short is 3, and just enough is success; V at its limit passes 1, and one more does not; 1 before 2, and 2 before 3
abbrev sizes : List Example
sizes =
    record {
      lent = lends 3 1 1 1 2 12;
      expected = outcome_of (Ok (record { made = 1; top = variable 2 })) (0 ∷ 2 ∷ 4 ∷ []) (4 ∷ []) (1 ∷ []) (5 ∷ []) (3 ∷ 2 ∷ []) (replicate 12 0);
    }
    ∷ early_refusal (lends 2 1 1 1 2 12) Short
    ∷ early_refusal (lends 3 0 1 1 2 12) Short
    ∷ early_refusal (lends 3 1 0 1 2 12) Short
    ∷ early_refusal (lends 3 1 1 0 2 12) Short
    ∷ early_refusal (lends 3 1 1 1 1 12) Short
    ∷ early_refusal (lends 3 1 1 1 2 11) Short
    ∷ early_refusal (bare 1048575 0) Short
    ∷ early_refusal (bare 1048576 0) TooBig
    ∷ early_refusal (bare 1048576 1) TooBig
    ∷ early_refusal (bare 1048575 1) Misshapen
    ∷ []

abbrev pub Computes : List Example → Type 0
Computes xs = map (λ x. outcome x.lent) xs ≡ map (λ x. x.expected) xs

-- resets: V, latch states, next states and resets of a circuit with input 2 and root 2
abbrev latched : ℕ → List ℕ → List ℕ → List ℕ → Lent
latched top states nexts resets = lend_with plain top (2 ∷ []) states nexts resets [] (outputs 1) (2 ∷ [])

abbrev resets : List Example
resets =
    -- latches 4, 7 and 8 with next states 2, 4, 5 and resets 1, 7, 0: the first starts at 1, the second is unset, the third starts at 0
    success_with (latched 4 (4 ∷ 7 ∷ 8 ∷ []) (2 ∷ 4 ∷ 5 ∷ []) (1 ∷ 7 ∷ 0 ∷ [])) 0 4 (0 ∷ 2 ∷ 4 ∷ 7 ∷ 8 ∷ []) (2 ∷ 4 ∷ 5 ∷ []) (1 ∷ 6 ∷ 0 ∷ []) [] (2 ∷ [])
    -- an odd state: 5 with reset 5 is unset, with reset 4 it is 22; and so 4 with reset 5
    ∷ success_with (latched 2 (5 ∷ []) (0 ∷ []) (5 ∷ [])) 0 2 (0 ∷ 2 ∷ 5 ∷ []) (0 ∷ []) (4 ∷ []) [] (2 ∷ [])
    ∷ success_with (lend_with plain 2 (4 ∷ []) (2 ∷ []) (0 ∷ []) (2 ∷ []) [] (outputs 0) []) 0 2 (0 ∷ 4 ∷ 2 ∷ []) (0 ∷ []) (4 ∷ []) [] []
    ∷ early_refusal (latched 2 (5 ∷ []) (0 ∷ []) (4 ∷ [])) (Reset (literal 4))
    ∷ early_refusal (latched 2 (4 ∷ []) (0 ∷ []) (5 ∷ [])) (Reset (literal 5))
    -- the input's literal is no reset, and that of another latch is none; the first of two is named
    ∷ early_refusal (latched 2 (4 ∷ []) (0 ∷ []) (2 ∷ [])) (Reset (literal 2))
    ∷ early_refusal (latched 3 (4 ∷ 6 ∷ []) (0 ∷ 0 ∷ []) (4 ∷ 4 ∷ [])) (Reset (literal 4))
    ∷ early_refusal (latched 3 (4 ∷ 6 ∷ []) (0 ∷ 0 ∷ []) (6 ∷ 4 ∷ [])) (Reset (literal 6))
    -- 4 before 22: a root over 2V + 1, and a later latch's next state; the reset itself over it is 4, after its latch's next state
    ∷ early_refusal (lend_with plain 1 [] (2 ∷ []) (0 ∷ []) (3 ∷ []) [] (outputs 1) (4 ∷ [])) (Over (literal 4))
    -- the second latch's reset over 7, and its next state before it
    ∷ early_refusal (latched 3 (4 ∷ 6 ∷ []) (0 ∷ 0 ∷ []) (0 ∷ 8 ∷ [])) (Over (literal 8))
    ∷ early_refusal (latched 3 (4 ∷ 6 ∷ []) (0 ∷ 9 ∷ []) (0 ∷ 8 ∷ [])) (Over (literal 9))
    ∷ early_refusal (latched 3 (4 ∷ 6 ∷ []) (0 ∷ 8 ∷ []) (2 ∷ 0 ∷ [])) (Over (literal 8))
    ∷ early_refusal (latched 2 (4 ∷ []) (0 ∷ []) (6 ∷ [])) (Over (literal 6))
    ∷ early_refusal (latched 2 (4 ∷ []) (7 ∷ []) (6 ∷ [])) (Over (literal 7))
    ∷ early_refusal (latched 3 (4 ∷ 9 ∷ []) (0 ∷ 0 ∷ []) (8 ∷ 0 ∷ [])) (Over (literal 8))
    -- 22 before 5, before 6 and before 7
    ∷ early_refusal (lend_with plain 2 (2 ∷ 2 ∷ []) (4 ∷ []) (0 ∷ []) (2 ∷ []) [] (outputs 0) []) (Reset (literal 2))
    ∷ early_refusal (latched 2 (2 ∷ []) (0 ∷ []) (4 ∷ [])) (Reset (literal 4))
    ∷ early_refusal (latched 3 (4 ∷ []) (6 ∷ []) (6 ∷ [])) (Reset (literal 6))
    -- and without it 5, 6 and 7 are given, and clear the reset images
    ∷ refusal (lend_with plain 2 (2 ∷ 2 ∷ []) (4 ∷ []) (0 ∷ []) (4 ∷ []) [] (outputs 0) []) (Again (literal 2))
    ∷ refusal (latched 2 (2 ∷ []) (0 ∷ []) (2 ∷ [])) (StateAgain (literal 2))
    ∷ refusal (latched 3 (4 ∷ []) (6 ∷ []) (4 ∷ [])) (Undefined (literal 6))
    -- 2: a reset too few, a reset too many; and 2 before 22
    ∷ early_refusal (latched 2 (4 ∷ []) (0 ∷ []) []) Misshapen
    ∷ early_refusal (latched 2 (4 ∷ []) (0 ∷ []) (0 ∷ 0 ∷ [])) Misshapen
    ∷ early_refusal (latched 2 (4 ∷ []) (0 ∷ []) (2 ∷ 0 ∷ [])) Misshapen
    ∷ []

pub examples : Computes unstarred × Computes walks × Computes checks × Computes sizes × Computes resets
unfolding outcome conclusion too_big misshapen too_short after renumber numbered codes walk_all walked start store flipped walk look image_in entry_image
    through_inputs settle settle_on settle_as already next_code first_code folded code_of ordered_of images_in
examples = (refl, refl, refl, refl, refl)

-- a code over 2V + 1, or past the map, or of a variable whose entry is the word for no image, has no image; an odd code flips the entry's low bit
pub lookups :
    (image_of 0 (0 ∷ 2 ∷ []) 2 ≡ None) × (image_of 2 (0 ∷ 2 ∷ []) 4 ≡ None) × (image_of 1 (0 ∷ 4294967295 ∷ []) 3 ≡ None)
    × (image_of 1 (0 ∷ 5 ∷ []) 2 ≡ Some (literal 5)) × (image_of 1 (0 ∷ 5 ∷ []) 3 ≡ Some (literal 4)) × (image_of 0 (0 ∷ 2 ∷ []) 1 ≡ Some (literal 1))
unfolding image_of image_in entry_image flipped
lookups = (refl, refl, refl, refl, refl, refl)

-- document 01's numbers, and the literal beside each
pub numbers :
    (map refusal_number
    (TooBig ∷ Misshapen ∷ Short ∷ Over (literal 9) ∷ Reset (literal 9) ∷ Again (literal 9) ∷ StateAgain (literal 9) ∷ Undefined (literal 9)
    ∷ Cycle (literal 9) ∷ [])
    ≡ (1 ∷ 2 ∷ 3 ∷ 4 ∷ 22 ∷ 5 ∷ 6 ∷ 7 ∷ 8 ∷ []))
    × (map (λ r. (refusal_literal r).0)
    (TooBig ∷ Misshapen ∷ Short ∷ Over (literal 9) ∷ Reset (literal 9) ∷ Again (literal 9) ∷ StateAgain (literal 9) ∷ Undefined (literal 9)
    ∷ Cycle (literal 9) ∷ [])
    ≡ (0 ∷ 0 ∷ 0 ∷ 9 ∷ 9 ∷ 9 ∷ 9 ∷ 9 ∷ 9 ∷ []))
numbers = (refl, refl)
