-- Circuits that pin the definitions cell by cell, by computation: each is the smallest on which a neighbouring definition answers otherwise. The lent lists
-- are dirty and three cells longer than asked, and the cells past those named are seen to stay. Assumes nothing.
use Rattle.std.specs.Prelude.{Some, None, Ok, Err}
use Prim.Native.Nat.{ℕ, zero, suc, ◌+◌, ◌*◌, ◌/◌, ◌≤◌}
use mathlib.Core.Path.{◌≡◌, refl, sym, ◌∙◌, ap}
use mathlib.Core.Logic.{◌⊎◌, inl, inr}
use mathlib.Core.Bool.{Bool, true, false, not}
use mathlib.Core.List.{List, [], ◌∷◌, ◌++◌, map}
use native.Mathlib.Omega.{arith}
use lib.ListN.{length, replicate}
use Rattle.lit.specs.Code.{var, literal, variable, is_odd, flipped}
use Rattle.circuit.specs.declared.Refusal.{Refusal}
use Rattle.circuit.specs.declared.Refusal.TheVariants.{Misshapen, Short, Over, Reset, Again, StateAgain, Undefined, Cycle}
use Rattle.circuit.specs.Graph.{In, Distinct, Gate, out_var, Graph, defined, gate_for, Step, to_first, to_second, Reach, here, via, Loop, Grounded, Uses, itself, first_of, second_of, negated, Means, constant, source, negation}
use Rattle.circuit.specs.Graph as graphs
use Rattle.circuit.specs.Map.{entry_image, image_in, store, code_of}
use Rattle.circuit.specs.Walk.{Net, Pair, Work, reached, stopped, first_code, next_code, folded, made_before, already, settle_as, settle_on, settle, look, through_inputs, walk, stack_room, walk_all}
use Rattle.circuit.specs.Circuit.{Circuit, codes, start, walked, numbered, renumber}
use Rattle.circuit.specs.Ordered.{Ordered, images_in, ordered_of, sources_of, given, ordered_graph, no_pair, InOrder, flip_if, bit_of, run_gates, values_of, given_from}
use Rattle.circuit.specs.Outcome.{Lent, lent_of, outcome_of, gates_of, too_big, misshapen, too_short, onto, pair_words, pairs_of, cleared, conclusion, after, outcome, held}
use Rattle.circuit.specs.Machine.{Frame, At, transfer, back, Machine, goes, ends, path_of, step_look, step_back, step_at, step, stack_words}
use Rattle.circuit.specs.Lending.{Flags, plain, trimming, hashing, folding, lend_with, lend, circuit, Example, success, refusal, early_refusal}
use Rattle.circuit.proofs.Examples.{outputs, Computes}

-- the word for no image
abbrev gone : ℕ
gone = 4294967295

abbrev gate : ℕ → ℕ → ℕ → Gate
gate o a b = record { output = o; first = a; second = b }

abbrev pair : ℕ → ℕ → Pair
pair a b = record { larger = a; smaller = b }

-- n dirty cells, and three more
abbrev dirty : ℕ → List ℕ
dirty n = replicate n 88 ++ (91 ∷ 92 ∷ 93 ∷ [])

-- the words over the front of such a list
abbrev over : List ℕ → List ℕ
over ws = ws ++ (91 ∷ 92 ∷ 93 ∷ [])

-- input, latch, gate and root are all there: flags, V, inputs, latch states, next states, resets, gates (flat), root counts, roots
abbrev whole_with : Flags → ℕ → List ℕ → List ℕ → List ℕ → List ℕ → List ℕ → List ℕ → List ℕ → Lent
whole_with f top inputs states nexts resets gates counts roots =
    lent_of (record { top = variable top; counts = counts; trim = f.trim; hash = f.hash; fold = f.fold }) inputs states nexts resets gates roots
    (dirty (top + 1)) (dirty (length states)) (dirty (length states)) (dirty (length roots)) (dirty (2 * (length gates / 3)))
    (dirty (3 * top + 3 + 3 * (length gates / 3)))

-- the same with every reset 0
abbrev whole : Flags → ℕ → List ℕ → List ℕ → List ℕ → List ℕ → List ℕ → List ℕ → Lent
whole f top inputs states nexts gates counts roots = whole_with f top inputs states nexts (replicate (length states) 0) gates counts roots

-- answered: map, next images, reset images, gates out, root images; and a scratch of so many words
abbrev gives_with : Lent → ℕ → ℕ → List ℕ → List ℕ → List ℕ → List ℕ → List ℕ → ℕ → Example
gives_with l made top map nexts resets gates roots scratch =
    record {
      lent = l;
      expected =
          outcome_of (Ok (record { made = made; top = variable top })) (over map) (over nexts) (over resets) (over roots) (over gates)
          (over (replicate scratch 0));
    }

abbrev gives : Lent → ℕ → ℕ → List ℕ → List ℕ → List ℕ → List ℕ → ℕ → Example
gives l made top map nexts gates roots scratch = gives_with l made top map nexts (replicate (length nexts) 0) gates roots scratch

-- refused by 5 to 8: so many cells of the map hold the word for no image, and so many next and reset images, root images, gate words and scratch words hold 0
abbrev clears : Lent → Refusal → ℕ → ℕ → ℕ → ℕ → ℕ → Example
clears l why map nexts roots gates scratch =
    record {
      lent = l;
      expected =
          outcome_of (Err why) (over (replicate map gone)) (over (replicate nexts 0)) (over (replicate nexts 0)) (over (replicate roots 0))
          (over (replicate gates 0)) (over (replicate scratch 0));
    }

-- refused by 1 to 4 or 22: so many dirty cells of each stay
abbrev stays : Lent → Refusal → ℕ → ℕ → ℕ → ℕ → ℕ → Example
stays l why map nexts roots gates scratch =
    record { lent = l; expected = outcome_of (Err why) (dirty map) (dirty nexts) (dirty nexts) (dirty roots) (dirty gates) (dirty scratch) }

-- input 2, latch (4,7), gate 6(2,5), root 7, each with one thing wrong
abbrev cells : List Example
cells =
    -- nothing wrong
    gives (whole plain 3 (2 ∷ []) (4 ∷ []) (7 ∷ []) (6 ∷ 2 ∷ 5 ∷ []) (outputs 1) (6 ∷ [])) 1 3 (0 ∷ 2 ∷ 4 ∷ 6 ∷ []) (7 ∷ []) (5 ∷ 2 ∷ []) (6 ∷ []) 15
    -- 5: a second input 3; the gate's output 4, where the latch is not looked at yet; the gate's output 2
    ∷ clears (whole plain 3 (2 ∷ 3 ∷ []) (4 ∷ []) (7 ∷ []) (6 ∷ 2 ∷ 5 ∷ []) (outputs 1) (6 ∷ [])) (Again (literal 3)) 4 1 1 2 15
    ∷ clears (whole plain 3 (2 ∷ []) (4 ∷ []) (7 ∷ []) (2 ∷ 2 ∷ 5 ∷ []) (outputs 1) (6 ∷ [])) (Again (literal 2)) 4 1 1 2 15
    ∷ clears (whole plain 3 (2 ∷ []) (4 ∷ []) (7 ∷ []) (6 ∷ 2 ∷ 5 ∷ 7 ∷ 0 ∷ 0 ∷ []) (outputs 1) (6 ∷ [])) (Again (literal 7)) 4 1 1 4 18
    -- 6: the latch state 3, where 2 is an input; 7, where 6 is the gate; a second latch state 5
    ∷ clears (whole plain 3 (2 ∷ []) (3 ∷ []) (7 ∷ []) (6 ∷ 2 ∷ 5 ∷ []) (outputs 1) (6 ∷ [])) (StateAgain (literal 3)) 4 1 1 2 15
    ∷ clears (whole plain 3 (2 ∷ []) (7 ∷ []) (7 ∷ []) (6 ∷ 2 ∷ 5 ∷ []) (outputs 1) (6 ∷ [])) (StateAgain (literal 7)) 4 1 1 2 15
    ∷ clears (whole plain 3 (2 ∷ []) (4 ∷ 5 ∷ []) (7 ∷ 0 ∷ []) (6 ∷ 2 ∷ 5 ∷ []) (outputs 1) (6 ∷ [])) (StateAgain (literal 5)) 4 2 1 2 15
    -- 7: the gate's second input is 8, which is not defined; then the next state; then the root
    ∷ clears (whole plain 4 (2 ∷ []) (4 ∷ []) (7 ∷ []) (6 ∷ 2 ∷ 8 ∷ []) (outputs 1) (6 ∷ [])) (Undefined (literal 8)) 5 1 1 2 18
    ∷ clears (whole plain 4 (2 ∷ []) (4 ∷ []) (9 ∷ []) (6 ∷ 2 ∷ 5 ∷ []) (outputs 1) (8 ∷ [])) (Undefined (literal 9)) 5 1 1 2 18
    ∷ clears (whole plain 4 (2 ∷ []) (4 ∷ []) (7 ∷ []) (6 ∷ 2 ∷ 5 ∷ []) (outputs 1) (8 ∷ [])) (Undefined (literal 8)) 5 1 1 2 18
    -- 8: the gate's second input is the gate
    ∷ clears (whole plain 3 (2 ∷ []) (4 ∷ []) (7 ∷ []) (6 ∷ 2 ∷ 6 ∷ []) (outputs 1) (6 ∷ [])) (Cycle (literal 6)) 4 1 1 2 15
    -- 4: the root, the next state, the state, the second input, the first, the output, the input, each alone over 7
    ∷ stays (whole plain 3 (2 ∷ []) (4 ∷ []) (7 ∷ []) (6 ∷ 2 ∷ 5 ∷ []) (outputs 1) (8 ∷ [])) (Over (literal 8)) 4 1 1 2 15
    ∷ stays (whole plain 3 (2 ∷ []) (4 ∷ []) (8 ∷ []) (6 ∷ 2 ∷ 5 ∷ []) (outputs 1) (6 ∷ [])) (Over (literal 8)) 4 1 1 2 15
    ∷ stays (whole plain 3 (2 ∷ []) (8 ∷ []) (7 ∷ []) (6 ∷ 2 ∷ 5 ∷ []) (outputs 1) (6 ∷ [])) (Over (literal 8)) 4 1 1 2 15
    ∷ stays (whole plain 3 (2 ∷ []) (4 ∷ []) (7 ∷ []) (6 ∷ 2 ∷ 8 ∷ []) (outputs 1) (6 ∷ [])) (Over (literal 8)) 4 1 1 2 15
    ∷ stays (whole plain 3 (2 ∷ []) (4 ∷ []) (7 ∷ []) (6 ∷ 8 ∷ 5 ∷ []) (outputs 1) (6 ∷ [])) (Over (literal 8)) 4 1 1 2 15
    ∷ stays (whole plain 3 (2 ∷ []) (4 ∷ []) (7 ∷ []) (8 ∷ 2 ∷ 5 ∷ []) (outputs 1) (6 ∷ [])) (Over (literal 8)) 4 1 1 2 15
    ∷ stays (whole plain 3 (8 ∷ []) (4 ∷ []) (7 ∷ []) (6 ∷ 2 ∷ 5 ∷ []) (outputs 1) (6 ∷ [])) (Over (literal 8)) 4 1 1 2 15
    -- the largest code, 7, passes everywhere
    ∷ gives (whole plain 3 (7 ∷ []) (5 ∷ []) (7 ∷ []) (3 ∷ 7 ∷ 7 ∷ []) (outputs 1) (7 ∷ [])) 1 3 (0 ∷ 7 ∷ 5 ∷ 3 ∷ []) (2 ∷ []) (2 ∷ 2 ∷ []) (2 ∷ []) 15
    -- 2: no next state; no reset
    ∷ stays (whole plain 3 (2 ∷ []) (4 ∷ []) [] (6 ∷ 2 ∷ 5 ∷ []) (outputs 1) (6 ∷ [])) Misshapen 4 1 1 2 15
    ∷ stays (whole_with plain 3 (2 ∷ []) (4 ∷ []) (7 ∷ []) [] (6 ∷ 2 ∷ 5 ∷ []) (outputs 1) (6 ∷ [])) Misshapen 4 1 1 2 15
    -- 22: the reset is the next state, the latch's literal negated, the input; it is the latch's literal, or 1, and carried over
    ∷ stays (whole_with plain 3 (2 ∷ []) (4 ∷ []) (7 ∷ []) (7 ∷ []) (6 ∷ 2 ∷ 5 ∷ []) (outputs 1) (6 ∷ [])) (Reset (literal 7)) 4 1 1 2 15
    ∷ stays (whole_with plain 3 (2 ∷ []) (4 ∷ []) (7 ∷ []) (5 ∷ []) (6 ∷ 2 ∷ 5 ∷ []) (outputs 1) (6 ∷ [])) (Reset (literal 5)) 4 1 1 2 15
    ∷ stays (whole_with plain 3 (2 ∷ []) (4 ∷ []) (7 ∷ []) (2 ∷ []) (6 ∷ 2 ∷ 5 ∷ []) (outputs 1) (6 ∷ [])) (Reset (literal 2)) 4 1 1 2 15
    ∷ gives_with (whole_with plain 3 (2 ∷ []) (4 ∷ []) (7 ∷ []) (4 ∷ []) (6 ∷ 2 ∷ 5 ∷ []) (outputs 1) (6 ∷ [])) 1 3 (0 ∷ 2 ∷ 4 ∷ 6 ∷ []) (7 ∷ [])
    (4 ∷ []) (5 ∷ 2 ∷ []) (6 ∷ []) 15
    ∷ gives_with (whole_with plain 3 (2 ∷ []) (4 ∷ []) (7 ∷ []) (1 ∷ []) (6 ∷ 2 ∷ 5 ∷ []) (outputs 1) (6 ∷ [])) 1 3 (0 ∷ 2 ∷ 4 ∷ 6 ∷ []) (7 ∷ [])
    (1 ∷ []) (5 ∷ 2 ∷ []) (6 ∷ []) 15
    ∷ []

-- check 4 goes gate by gate and latch by latch, and through later ones too
abbrev order : List Example
order =
    -- V = 1: gates 2(2,8), 9(0,0) is 8; gates 2(2,2), 2(2,8) is 8; latches (2,8), (9,2) is 8; latches (2,2), (2,8) is 8
    early_refusal (circuit plain 1 [] (2 ∷ 2 ∷ 8 ∷ 9 ∷ 0 ∷ 0 ∷ []) []) (Over (literal 8))
    ∷ early_refusal (circuit plain 1 [] (2 ∷ 2 ∷ 2 ∷ 2 ∷ 2 ∷ 8 ∷ []) []) (Over (literal 8))
    ∷ early_refusal (lend plain 1 [] (2 ∷ 9 ∷ []) (8 ∷ 2 ∷ []) [] (outputs 0) []) (Over (literal 8))
    ∷ early_refusal (lend plain 1 [] (2 ∷ 2 ∷ []) (2 ∷ 8 ∷ []) [] (outputs 0) []) (Over (literal 8))
    -- gate 8(9,10) is 8, and gate 2(8,9) is 8
    ∷ early_refusal (circuit plain 1 [] (8 ∷ 9 ∷ 10 ∷ []) []) (Over (literal 8))
    ∷ early_refusal (circuit plain 1 [] (2 ∷ 8 ∷ 9 ∷ []) []) (Over (literal 8))
    -- input 2, latches (4,10), (6,8), gates 8(2,4), 10(2,6), trim: the first latch's next state is walked first
    ∷ success (lend trimming 5 (2 ∷ []) (4 ∷ 6 ∷ []) (10 ∷ 8 ∷ []) (8 ∷ 2 ∷ 4 ∷ 10 ∷ 2 ∷ 6 ∷ []) (outputs 0) []) 2 5
    (0 ∷ 2 ∷ 4 ∷ 6 ∷ 10 ∷ 8 ∷ []) (8 ∷ 10 ∷ []) (6 ∷ 2 ∷ 4 ∷ 2 ∷ []) []
    -- input 6, latches (4,2), (2,4): inputs first, then latch states in their order
    ∷ success (lend plain 3 (6 ∷ []) (4 ∷ 2 ∷ []) (2 ∷ 4 ∷ []) [] (outputs 0) []) 0 3 (0 ∷ 6 ∷ 4 ∷ 2 ∷ []) (6 ∷ 4 ∷ []) [] []
    -- inputs 2, 4, one root of each kind, trim: outputs, bad states, constraints, fairness, justice, in this order
    ∷ success (lend trimming 7 (2 ∷ 4 ∷ []) [] [] (6 ∷ 2 ∷ 4 ∷ 8 ∷ 2 ∷ 5 ∷ 10 ∷ 3 ∷ 4 ∷ 12 ∷ 3 ∷ 5 ∷ 14 ∷ 2 ∷ 3 ∷ []) (1 ∷ 1 ∷ 1 ∷ 1 ∷ 1 ∷ [])
    (14 ∷ 12 ∷ 10 ∷ 8 ∷ 6 ∷ []))
    5 7 (0 ∷ 2 ∷ 4 ∷ 14 ∷ 12 ∷ 10 ∷ 8 ∷ 6 ∷ []) [] (3 ∷ 2 ∷ 5 ∷ 3 ∷ 4 ∷ 3 ∷ 5 ∷ 2 ∷ 4 ∷ 2 ∷ []) (6 ∷ 8 ∷ 10 ∷ 12 ∷ 14 ∷ [])
    -- each of the five counts is summed: one root, counted by each kind alone; and counted twice
    ∷ success (lend plain 0 [] [] [] [] (1 ∷ 0 ∷ 0 ∷ 0 ∷ 0 ∷ []) (1 ∷ [])) 0 0 (0 ∷ []) [] [] (1 ∷ [])
    ∷ success (lend plain 0 [] [] [] [] (0 ∷ 1 ∷ 0 ∷ 0 ∷ 0 ∷ []) (1 ∷ [])) 0 0 (0 ∷ []) [] [] (1 ∷ [])
    ∷ success (lend plain 0 [] [] [] [] (0 ∷ 0 ∷ 1 ∷ 0 ∷ 0 ∷ []) (1 ∷ [])) 0 0 (0 ∷ []) [] [] (1 ∷ [])
    ∷ success (lend plain 0 [] [] [] [] (0 ∷ 0 ∷ 0 ∷ 1 ∷ 0 ∷ []) (1 ∷ [])) 0 0 (0 ∷ []) [] [] (1 ∷ [])
    ∷ success (lend plain 0 [] [] [] [] (0 ∷ 0 ∷ 0 ∷ 0 ∷ 1 ∷ []) (1 ∷ [])) 0 0 (0 ∷ []) [] [] (1 ∷ [])
    ∷ early_refusal (lend plain 0 [] [] [] [] (0 ∷ 0 ∷ 0 ∷ 0 ∷ 1 ∷ []) []) Misshapen
    ∷ early_refusal (lend plain 0 [] [] [] [] (1 ∷ 0 ∷ 0 ∷ 0 ∷ 1 ∷ []) (1 ∷ [])) Misshapen
    ∷ early_refusal (lend plain 0 [] [] [] [] (0 ∷ 0 ∷ 0 ∷ 0 ∷ 0 ∷ []) (1 ∷ [])) Misshapen
    ∷ []

-- inputs 2, 4, twin gates 6(2,4), 8(4,2), gate 10(2,1), roots 6, 8, 10; and gate 12(5,3), which no root reaches
abbrev twins : Bool → Bool → Bool → Lent
twins trim hash fold =
    lend (record { trim = trim; hash = hash; fold = fold }) 6 (2 ∷ 4 ∷ []) [] [] (6 ∷ 2 ∷ 4 ∷ 8 ∷ 4 ∷ 2 ∷ 10 ∷ 2 ∷ 1 ∷ 12 ∷ 5 ∷ 3 ∷ []) (outputs 3)
    (6 ∷ 8 ∷ 10 ∷ [])

-- under each setting of the flags: hashing alone joins the twins, folding alone takes gate 10, trimming alone leaves gate 12 out
abbrev settings : List Example
settings =
    success (twins false false false) 4 6 (0 ∷ 2 ∷ 4 ∷ 6 ∷ 8 ∷ 10 ∷ 12 ∷ []) [] (4 ∷ 2 ∷ 4 ∷ 2 ∷ 2 ∷ 1 ∷ 5 ∷ 3 ∷ []) (6 ∷ 8 ∷ 10 ∷ [])
    ∷ success (twins false false true) 3 5 (0 ∷ 2 ∷ 4 ∷ 6 ∷ 8 ∷ 2 ∷ 10 ∷ []) [] (4 ∷ 2 ∷ 4 ∷ 2 ∷ 5 ∷ 3 ∷ 0 ∷ 0 ∷ []) (6 ∷ 8 ∷ 2 ∷ [])
    ∷ success (twins false true false) 3 5 (0 ∷ 2 ∷ 4 ∷ 6 ∷ 6 ∷ 8 ∷ 10 ∷ []) [] (4 ∷ 2 ∷ 2 ∷ 1 ∷ 5 ∷ 3 ∷ 0 ∷ 0 ∷ []) (6 ∷ 6 ∷ 8 ∷ [])
    ∷ success (twins false true true) 2 4 (0 ∷ 2 ∷ 4 ∷ 6 ∷ 6 ∷ 2 ∷ 8 ∷ []) [] (4 ∷ 2 ∷ 5 ∷ 3 ∷ 0 ∷ 0 ∷ 0 ∷ 0 ∷ []) (6 ∷ 6 ∷ 2 ∷ [])
    ∷ success (twins true false false) 3 5 (0 ∷ 2 ∷ 4 ∷ 6 ∷ 8 ∷ 10 ∷ gone ∷ []) [] (4 ∷ 2 ∷ 4 ∷ 2 ∷ 2 ∷ 1 ∷ 0 ∷ 0 ∷ []) (6 ∷ 8 ∷ 10 ∷ [])
    ∷ success (twins true false true) 2 4 (0 ∷ 2 ∷ 4 ∷ 6 ∷ 8 ∷ 2 ∷ gone ∷ []) [] (4 ∷ 2 ∷ 4 ∷ 2 ∷ 0 ∷ 0 ∷ 0 ∷ 0 ∷ []) (6 ∷ 8 ∷ 2 ∷ [])
    ∷ success (twins true true false) 2 4 (0 ∷ 2 ∷ 4 ∷ 6 ∷ 6 ∷ 8 ∷ gone ∷ []) [] (4 ∷ 2 ∷ 2 ∷ 1 ∷ 0 ∷ 0 ∷ 0 ∷ 0 ∷ []) (6 ∷ 6 ∷ 8 ∷ [])
    ∷ success (twins true true true) 1 3 (0 ∷ 2 ∷ 4 ∷ 6 ∷ 6 ∷ 2 ∷ gone ∷ []) [] (4 ∷ 2 ∷ 0 ∷ 0 ∷ 0 ∷ 0 ∷ 0 ∷ 0 ∷ []) (6 ∷ 6 ∷ 2 ∷ [])
    ∷ []

-- the folding rows: the image of the gate 4(a,b) over the input 2, where a row takes the pair; no gate is made
abbrev row_gives : ℕ → ℕ → ℕ → Example
row_gives a b t = success (circuit folding 2 (2 ∷ []) (4 ∷ a ∷ b ∷ []) (4 ∷ [])) 0 1 (0 ∷ 2 ∷ t ∷ []) [] (0 ∷ 0 ∷ []) (t ∷ [])

-- and where none does
abbrev row_leaves : ℕ → ℕ → ℕ → ℕ → Example
row_leaves a b hi lo = success (circuit folding 2 (2 ∷ []) (4 ∷ a ∷ b ∷ []) (4 ∷ [])) 1 2 (0 ∷ 2 ∷ 4 ∷ []) [] (hi ∷ lo ∷ []) (4 ∷ [])

abbrev rows : List Example
rows =
    row_gives 0 0 0 ∷ row_gives 0 1 0 ∷ row_gives 1 0 0 ∷ row_gives 0 2 0 ∷ row_gives 2 0 0 ∷ row_gives 0 3 0 ∷ row_gives 3 0 0
    ∷ row_gives 1 1 1 ∷ row_gives 1 2 2 ∷ row_gives 2 1 2 ∷ row_gives 1 3 3 ∷ row_gives 3 1 3
    -- equal inputs, even and odd
    ∷ row_gives 2 2 2 ∷ row_gives 3 3 3
    -- a literal and its negation
    ∷ row_leaves 2 3 3 2 ∷ row_leaves 3 2 3 2
    -- input 2, gates 4(2,0), 6(2,1), folding: no gate is made, and all four words of the gates are 0
    ∷ gives (whole folding 3 (2 ∷ []) [] [] (4 ∷ 2 ∷ 0 ∷ 6 ∷ 2 ∷ 1 ∷ []) (outputs 2) (4 ∷ 6 ∷ [])) 0 1 (0 ∷ 2 ∷ 0 ∷ 2 ∷ []) [] (0 ∷ 0 ∷ 0 ∷ 0 ∷ [])
    (0 ∷ 2 ∷ []) 18
    -- the same gates, trim, no roots: none is reached
    ∷ gives (whole trimming 3 (2 ∷ []) [] [] (4 ∷ 2 ∷ 0 ∷ 6 ∷ 2 ∷ 1 ∷ []) (outputs 0) []) 0 1 (0 ∷ 2 ∷ gone ∷ gone ∷ []) [] (0 ∷ 0 ∷ 0 ∷ 0 ∷ []) [] 18
    ∷ []

-- three definitions apart: inputs 2, 4, 3 and inputs 2, 4, gates 6(0,0), 5(0,0); latch states 2, 4, 3
abbrev again : List Example
again =
    refusal (circuit plain 2 (2 ∷ 4 ∷ 3 ∷ []) [] []) (Again (literal 3))
    ∷ refusal (circuit plain 3 (2 ∷ 4 ∷ []) (6 ∷ 0 ∷ 0 ∷ 5 ∷ 0 ∷ 0 ∷ []) []) (Again (literal 5))
    ∷ refusal (lend plain 2 [] (2 ∷ 4 ∷ 3 ∷ []) (0 ∷ 0 ∷ 0 ∷ []) [] (outputs 0) []) (StateAgain (literal 3))
    ∷ []

-- hashing: inputs 2, 4, 6, gates 8(2,4), 10(2,6), 12(4,6) that share an input, two by two, and their twins 14(6,4), 16(6,2), 18(4,2), in the other order
abbrev shared : List Example
shared =
    success
    (circuit hashing 9 (2 ∷ 4 ∷ 6 ∷ []) (8 ∷ 2 ∷ 4 ∷ 10 ∷ 2 ∷ 6 ∷ 12 ∷ 4 ∷ 6 ∷ 14 ∷ 6 ∷ 4 ∷ 16 ∷ 6 ∷ 2 ∷ 18 ∷ 4 ∷ 2 ∷ []) (14 ∷ 16 ∷ 18 ∷ []))
    3 6 (0 ∷ 2 ∷ 4 ∷ 6 ∷ 8 ∷ 10 ∷ 12 ∷ 12 ∷ 10 ∷ 8 ∷ []) [] (4 ∷ 2 ∷ 6 ∷ 2 ∷ 6 ∷ 4 ∷ 0 ∷ 0 ∷ 0 ∷ 0 ∷ 0 ∷ 0 ∷ []) (12 ∷ 10 ∷ 8 ∷ [])
    -- input 2, gates 4(2,0), 6(2,1), 8(2,2), 10(3,2): no two share both
    ∷ success (circuit hashing 5 (2 ∷ []) (4 ∷ 2 ∷ 0 ∷ 6 ∷ 2 ∷ 1 ∷ 8 ∷ 2 ∷ 2 ∷ 10 ∷ 3 ∷ 2 ∷ []) []) 4 5
    (0 ∷ 2 ∷ 4 ∷ 6 ∷ 8 ∷ 10 ∷ []) [] (2 ∷ 0 ∷ 2 ∷ 1 ∷ 2 ∷ 2 ∷ 3 ∷ 2 ∷ []) []
    ∷ []

-- a size alone over its limit, by one, is 1, and at its limit passes: largest variable, inputs, latches, gates, roots
abbrev sized : ℕ → List ℕ → List ℕ → List Gate → List ℕ → Circuit
sized top inputs states gates roots =
    record {
      top = top;
      inputs = inputs;
      states = states;
      nexts = [];
      resets = [];
      gates = gates;
      counts = [];
      roots = roots;
      trim = false;
      hash = false;
      fold = false;
    }

pub limits_pinned : (cs over : List ℕ) (gs overs : List Gate) → length cs ≡ 1048575 → length over ≡ 1048576 → length gs ≡ 1048575 → length overs ≡ 1048576
    → (too_big (sized 1048576 [] [] [] []) ≡ true) × (too_big (sized 0 over [] [] []) ≡ true) × (too_big (sized 0 [] over [] []) ≡ true)
    × (too_big (sized 0 [] [] overs []) ≡ true) × (too_big (sized 0 [] [] [] over) ≡ true) × (too_big (sized 1048575 cs cs gs cs) ≡ false)
unfolding too_big
limits_pinned cs over gs overs c o g p = (refl, rw o, rw o, rw p, rw o, rw (c, g))

-- L is the length of the list of states, whether or not there are as many next states or resets. With the latch state 2, no next state and no reset: no next
-- image lent is too few, no reset image is, and one of each is enough; of two a refusal clears one; and of two one belongs to the ordered circuit
abbrev latched : List ℕ → List ℕ → Lent
latched next_images reset_images =
    lent_of (record { top = variable 0; counts = []; trim = false; hash = false; fold = false }) [] (2 ∷ []) [] [] [] [] (88 ∷ []) next_images reset_images [] []
    (replicate 3 88)

pub latches_pinned :
    (too_short (latched [] (88 ∷ [])) (sized 0 [] (2 ∷ []) [] []) ≡ true) × (too_short (latched (88 ∷ []) []) (sized 0 [] (2 ∷ []) [] []) ≡ true)
    × (too_short (latched (88 ∷ []) (88 ∷ [])) (sized 0 [] (2 ∷ []) [] []) ≡ false)
    × ((cleared (latched (88 ∷ 89 ∷ []) []) (sized 0 [] (2 ∷ []) [] []) Short).next_images ≡ 0 ∷ 89 ∷ [])
    × ((cleared (latched [] (88 ∷ 89 ∷ [])) (sized 0 [] (2 ∷ []) [] []) Short).reset_images ≡ 0 ∷ 89 ∷ [])
    × ((held (latched [] []) (record { made = 0; top = variable 0 }) (outcome_of (Err Short) [] (88 ∷ 89 ∷ []) [] [] [] [])).nexts ≡ 88 ∷ [])
    × ((held (latched [] []) (record { made = 0; top = variable 0 }) (outcome_of (Err Short) [] [] (88 ∷ 89 ∷ []) [] [] [])).resets ≡ 88 ∷ [])
unfolding too_short held
latches_pinned = (refl, refl, refl, refl, refl, refl, refl)

-- what is lent and what comes of it, field by field; flat gates, with none, one or two words left over; pairs of words
pub fields_pinned :
    (lent_of (record { top = variable 9; counts = 8 ∷ []; trim = true; hash = false; fold = false }) (1 ∷ []) (2 ∷ []) (3 ∷ []) (11 ∷ [])
    (4 ∷ []) (5 ∷ []) (6 ∷ []) (7 ∷ []) (12 ∷ []) (8 ∷ []) (9 ∷ []) (10 ∷ [])
    ≡ record {
      circuit = record { top = variable 9; counts = 8 ∷ []; trim = true; hash = false; fold = false };
      inputs = 1 ∷ [];
      states = 2 ∷ [];
      nexts = 3 ∷ [];
      resets = 11 ∷ [];
      gates = 4 ∷ [];
      roots = 5 ∷ [];
      map = 6 ∷ [];
      next_images = 7 ∷ [];
      reset_images = 12 ∷ [];
      root_images = 8 ∷ [];
      gates_out = 9 ∷ [];
      scratch = 10 ∷ [];
    })
    × (outcome_of (Err Short) (1 ∷ []) (2 ∷ []) (6 ∷ []) (3 ∷ []) (4 ∷ []) (5 ∷ [])
    ≡ record {
      answer = Err Short;
      map = 1 ∷ [];
      next_images = 2 ∷ [];
      reset_images = 6 ∷ [];
      root_images = 3 ∷ [];
      gates_out = 4 ∷ [];
      scratch = 5 ∷ [];
    })
    × (gates_of (1 ∷ 2 ∷ 3 ∷ 4 ∷ 5 ∷ 6 ∷ []) ≡ gate 1 2 3 ∷ gate 4 5 6 ∷ [])
    × (gates_of (1 ∷ 2 ∷ 3 ∷ 4 ∷ []) ≡ gate 1 2 3 ∷ [])
    × (gates_of (1 ∷ 2 ∷ 3 ∷ 4 ∷ 5 ∷ []) ≡ gate 1 2 3 ∷ [])
    × (pairs_of (1 ∷ 2 ∷ 3 ∷ 4 ∷ []) ≡ pair 1 2 ∷ pair 3 4 ∷ [])
    × (pairs_of (1 ∷ 2 ∷ 3 ∷ []) ≡ pair 1 2 ∷ [])
    × (pair_words (pair 1 2 ∷ pair 3 4 ∷ []) ≡ (1 ∷ 2 ∷ 3 ∷ 4 ∷ []))
    × (code_of None ≡ 0) × (code_of (Some (literal 7)) ≡ 7)
unfolding code_of
fields_pinned = (refl, refl, refl, refl, refl, refl, refl, refl, refl, refl)

-- inputs 2, 4, latch (6,8) unset, gates 8(2,4), 10(9,6), 12(2,10), roots 13, 8, 10, 1: what the lists hold afterwards
abbrev ordered : Lent
ordered =
    lend_with plain 6 (2 ∷ 4 ∷ []) (6 ∷ []) (8 ∷ []) (6 ∷ []) (8 ∷ 2 ∷ 4 ∷ 10 ∷ 9 ∷ 6 ∷ 12 ∷ 2 ∷ 10 ∷ []) (1 ∷ 0 ∷ 3 ∷ 0 ∷ 0 ∷ [])
    (13 ∷ 8 ∷ 10 ∷ 1 ∷ [])

abbrev D : Ordered
D =
    record {
      inputs = 2;
      nexts = 8 ∷ [];
      resets = 6 ∷ [];
      gates = pair 4 2 ∷ pair 9 6 ∷ pair 10 2 ∷ [];
      counts = 1 ∷ 0 ∷ 3 ∷ 0 ∷ 0 ∷ [];
      roots = 13 ∷ 8 ∷ 10 ∷ 1 ∷ [];
    }

-- it is that ordered circuit, whose sources are 2, 4, 6 and whose gates are 8(4,2), 10(9,6), 12(10,2)
pub ordered_pinned :
    (held ordered (record { made = 3; top = variable 6 }) (outcome ordered) ≡ D)
    × ((held ordered (record { made = 2; top = variable 6 }) (outcome ordered)).gates ≡ pair 4 2 ∷ pair 9 6 ∷ [])
    × (given D true false false
    ≡ record {
      top = 6;
      inputs = 2 ∷ 4 ∷ [];
      states = 6 ∷ [];
      nexts = 8 ∷ [];
      resets = 6 ∷ [];
      gates = gate 8 4 2 ∷ gate 10 9 6 ∷ gate 12 10 2 ∷ [];
      counts = 1 ∷ 0 ∷ 3 ∷ 0 ∷ 0 ∷ [];
      roots = 13 ∷ 8 ∷ 10 ∷ 1 ∷ [];
      trim = true;
      hash = false;
      fold = false;
    })
    × ((given D false true false).trim ≡ false) × ((given D false true false).hash ≡ true) × ((given D false true false).fold ≡ false)
    × ((given D false false true).trim ≡ false) × ((given D false false true).hash ≡ false) × ((given D false false true).fold ≡ true)
    × (ordered_graph D ≡ record { sources = 2 ∷ 4 ∷ 6 ∷ []; gates = gate 8 4 2 ∷ gate 10 9 6 ∷ gate 12 10 2 ∷ [] })
    × (sources_of D ≡ 3)
    -- three inputs and a latch
    × ((given (record { inputs = 3; nexts = 0 ∷ []; resets = 1 ∷ []; gates = []; counts = []; roots = [] }) false false false).inputs ≡ (2 ∷ 4 ∷ 6 ∷ []))
    × ((given (record { inputs = 3; nexts = 0 ∷ []; resets = 1 ∷ []; gates = []; counts = []; roots = [] }) false false false).states ≡ (8 ∷ []))
    × ((given (record { inputs = 3; nexts = 0 ∷ []; resets = 1 ∷ []; gates = []; counts = []; roots = [] }) false false false).resets ≡ (1 ∷ []))
    -- the latches are as many as the next states
    × (sources_of (record { inputs = 3; nexts = 0 ∷ []; resets = []; gates = []; counts = []; roots = [] }) ≡ 4)
    × ((given (record { inputs = 3; nexts = 0 ∷ []; resets = []; gates = []; counts = []; roots = [] }) false false false).states ≡ (8 ∷ []))
unfolding outcome conclusion too_big misshapen too_short after renumber numbered codes walk_all walked start store flipped walk look image_in entry_image
    through_inputs settle settle_on settle_as already next_code first_code folded code_of ordered_of images_in held given ordered_graph
ordered_pinned = (refl, refl, refl, refl, refl, refl, refl, refl, refl, refl, refl, refl, refl, refl, refl, refl)

-- ordered over one source: larger codes first and equal ones allowed, each below its gate's code, 4 and then 6; and three lists that are not
pub order_pinned :
    InOrder 1 (pair 3 2 ∷ pair 5 5 ∷ []) × (InOrder 1 (pair 2 3 ∷ []) → ⊥) × (InOrder 1 (pair 4 2 ∷ []) → ⊥) × (InOrder 1 (pair 3 2 ∷ pair 6 2 ∷ []) → ⊥)
unfolding first_code
order_pinned = (ok, λ h. omega (arith, (h 0 (omega arith)).0), λ h. omega (arith, (h 0 (omega arith)).1), λ h. omega (arith, (h 1 (omega arith)).1))
  where
    ok : InOrder 1 (pair 3 2 ∷ pair 5 5 ∷ [])
    ok zero h = (omega arith, omega arith)
    ok (suc zero) h = (omega arith, omega arith)
    ok (suc (suc j)) h = absurd (omega arith)

-- what stands in a list, and what stands there once
abbrev Among : ℕ → List ℕ → Type 0
Among x xs = In x xs

pub members_pinned : Among 2 (1 ∷ 2 ∷ []) × (Among 3 (1 ∷ 2 ∷ []) → ⊥) × Distinct (1 ∷ 2 ∷ 3 ∷ []) × (Distinct (1 ∷ 2 ∷ 1 ∷ []) → ⊥)
members_pinned = (inr (inl refl), absent, (one, (two, (λ h. h, tt))), λ d. d.0 (inr (inl refl)))
  where
    absent : Among 3 (1 ∷ 2 ∷ []) → ⊥
    absent (inl e) = omega arith
    absent (inr (inl e)) = omega arith
    absent (inr (inr h)) = h

    one : Among 1 (2 ∷ 3 ∷ []) → ⊥
    one (inl e) = omega arith
    one (inr (inl e)) = omega arith
    one (inr (inr h)) = h

    two : Among 2 (3 ∷ []) → ⊥
    two (inl e) = omega arith
    two (inr h) = h

-- graphs: the gate 6(2,5) over the sources 2, 4; the gates 2(4,1), 4(7,1), of which 6 is not defined; and the gates 2(4,1), 4(0,3), a cycle
abbrev single : Graph
single = record { sources = 2 ∷ 4 ∷ []; gates = gate 6 2 5 ∷ [] }

abbrev chain : Graph
chain = record { sources = []; gates = gate 2 4 1 ∷ gate 4 7 1 ∷ [] }

abbrev cycle : Graph
cycle = record { sources = []; gates = gate 2 4 1 ∷ gate 4 0 3 ∷ [] }

-- in the first, the only steps lead from 3 to 1 and 2, and nothing else is reached
only_steps : {u v : ℕ} → Step single u v → (u ≡ 3) × ((v ≡ 1) ⊎ (v ≡ 2))
only_steps (to_first g (inl e) p q) = (sym p ∙ ap out_var e, inl (sym q ∙ ap (λ (h : Gate). var h.first) e))
only_steps (to_first g (inr h) p q) = absurd h
only_steps (to_second g (inl e) p q) = (sym p ∙ ap out_var e, inr (sym q ∙ ap (λ (h : Gate). var h.second) e))
only_steps (to_second g (inr h) p q) = absurd h

stays_put : {u v : ℕ} → Reach single u v → (u ≡ 3 → ⊥) → u ≡ v
stays_put (here e) n = e
stays_put (via s r) n = absurd (n (only_steps s).0)

-- from 3 single comes to 1, to 2 and by no step to 3; from 1 not to 2
pub reach_pinned :
    Step single 3 1 × Step single 3 2 × (Step single 1 3 → ⊥) × Reach chain 1 3 × Reach single 3 3 × (Reach single 1 2 → ⊥)
reach_pinned = (
  to_first (gate 6 2 5) (inl refl) refl refl,
  to_second (gate 6 2 5) (inl refl) refl refl,
  λ s. omega (arith, (only_steps s).0),
  via (to_first (gate 2 4 1) (inl refl) refl refl) (via (to_first (gate 4 7 1) (inr (inl refl)) refl refl) (here refl)),
  here refl,
  λ r. omega (arith, stays_put r (λ e. omega arith)),
)

-- 1 reaches itself in the cycle, by way of 2
looping : Loop cycle 1
looping =
    record {
      next = 2;
      step = to_first (gate 2 4 1) (inl refl) refl refl;
      back = via (to_second (gate 4 0 3) (inr (inl refl)) refl refl) (here refl);
    }

-- 3 is grounded: what it reaches is defined and does not reach itself; 1 is not in the chain, whose end is not defined, nor in the cycle
pub grounded_pinned : Grounded single 3 × (Grounded chain 1 → ⊥) × (Grounded cycle 1 → ⊥)
grounded_pinned = (record { known = known; no_loop = no_loop }, λ g. undefined (g.known 3 reach_pinned.3), λ g. g.no_loop 1 (here refl) looping)
  where
    member : (u t : ℕ) → Reach single t u → (t ≡ 1) ⊎ (t ≡ 2) → Among u (defined single)
    member u t r (inl e) = inr (inl (sym (stays_put r (λ k. omega (arith, e, k))) ∙ e))
    member u t r (inr e) = inr (inr (inl (sym (stays_put r (λ k. omega (arith, e, k))) ∙ e)))

    known : (u : ℕ) → Reach single 3 u → Among u (defined single)
    known u (here e) = inr (inr (inr (inl (sym e))))
    known u (via {t = t} s r) = member u t r (only_steps s).1

    turns : (u t : ℕ) → u ≡ 3 → (t ≡ 1) ⊎ (t ≡ 2) → Reach single t u → ⊥
    turns u t e (inl k) r = omega (arith, e, k, stays_put r (λ h. omega (arith, k, h)))
    turns u t e (inr k) r = omega (arith, e, k, stays_put r (λ h. omega (arith, k, h)))

    no_loop : (u : ℕ) → Reach single 3 u → Loop single u → ⊥
    no_loop u r l = turns u l.next (only_steps l.step).0 (only_steps l.step).1 l.back

    undefined : Among 3 (defined chain) → ⊥
    undefined (inl e) = omega arith
    undefined (inr (inl e)) = omega arith
    undefined (inr (inr (inl e))) = omega arith
    undefined (inr (inr (inr h))) = h

-- used from 3 in the chain: 3 itself, and 7 and 1, as the second gate has them; from 2 the literal 4 is not used in the first graph
pub uses_pinned : Uses chain 3 3 × Uses chain 3 7 × Uses chain 3 1 × (Uses single 2 4 → ⊥)
uses_pinned = (
  itself refl,
  first_of (gate 4 7 1) (inr (inl refl)) to_second_lem refl,
  second_of (gate 4 7 1) (inr (inl refl)) to_second_lem refl,
  unused,
)
  where
    to_second_lem : Reach chain 1 2
    to_second_lem = via (to_first (gate 2 4 1) (inl refl) refl refl) (here refl)

    apart : (g : Gate) → In g single.gates → Reach single 1 (out_var g) → ⊥
    apart g (inl e) r = omega (arith, ap out_var e, stays_put r (λ k. omega arith))
    apart g (inr h) r = h

    unused : Uses single 2 4 → ⊥
    unused (itself e) = omega arith
    unused (first_of g h r e) = apart g h r
    unused (second_of g h r e) = apart g h r

-- where the source 2 has the bit true and the source 9 the bit false: the gates 4(2,3) and 6(3,2) are false; the negation of a literal has the other bit;
-- and the constants have one bit each
abbrev opposed : Graph
opposed = record { sources = 2 ∷ 9 ∷ []; gates = gate 4 2 3 ∷ gate 6 3 2 ∷ [] }

abbrev bits : ℕ → Bool
bits zero = true
bits (suc k) = false

abbrev Bit : ℕ → Bool → Type 0
Bit c b = Means opposed bits c b

pub means_pinned :
    Bit 0 false × Bit 1 true × Bit 2 true × Bit 9 false × Bit 3 false × Bit 8 true × Bit 4 false × Bit 6 false × Bit 7 true
    × ((b : Bool) → Bit 0 b → b ≡ false) × ((b : Bool) → Bit 1 b → b ≡ true)
unfolding flipped
means_pinned = (
  constant,
  negation constant,
  set,
  unset,
  negation set,
  negation unset,
  graphs.gate (gate 4 2 3) (inl refl) set (negation set),
  graphs.gate (gate 6 3 2) (inr (inl refl)) (negation set) set,
  negation (graphs.gate (gate 6 3 2) (inr (inl refl)) (negation set) set),
  λ b m. (constants m).0 refl,
  λ b m. (constants m).1 refl,
)
  where
    set : Bit 2 true
    set = source 0 (omega arith)

    unset : Bit 9 false
    unset = source 1 (omega arith)

    from_gate : (g : Gate) → In g opposed.gates → 2 ≤ g.output
    from_gate g (inl e) = omega (arith, ap (λ (h : Gate). h.output) e)
    from_gate g (inr (inl e)) = omega (arith, ap (λ (h : Gate). h.output) e)
    from_gate g (inr (inr h)) = absurd h

    constants : {c : ℕ} {b : Bool} → Bit c b → (c ≡ 0 → b ≡ false) × (c ≡ 1 → b ≡ true)
    constants constant = (λ e. refl, λ e. absurd (omega arith))
    constants (source zero h) = (λ e. absurd (omega arith), λ e. absurd (omega arith))
    constants (source (suc zero) h) = (λ e. absurd (omega arith), λ e. absurd (omega arith))
    constants (source (suc (suc k)) h) = absurd (omega arith)
    constants (graphs.gate g h m n) = (λ e. absurd (omega (arith, e, from_gate g h)), λ e. absurd (omega (arith, e, from_gate g h)))
    constants (negation {c = c} m) = (λ e. ap not ((constants m).1 (omega (arith, e))), λ e. ap not ((constants m).0 (omega (arith, e))))

-- the folding rows by themselves: either is 0; the larger is 1, or both are equal; the smaller is 1; none of these
pub folded_pinned :
    (folded 0 3 ≡ Some 0) × (folded 3 0 ≡ Some 0) × (folded 1 3 ≡ Some 3) × (folded 3 3 ≡ Some 3) × (folded 3 1 ≡ Some 3) × (folded 4 3 ≡ None)
unfolding folded
folded_pinned = (refl, refl, refl, refl, refl, refl)

-- the search among the gates made, the first of which has the code 6: both inputs count, and of two alike the last is found
pub made_pinned :
    (made_before (pair 4 2 ∷ pair 5 2 ∷ pair 4 3 ∷ []) 6 4 3 ≡ Some 10) × (made_before (pair 4 2 ∷ pair 5 2 ∷ pair 4 3 ∷ []) 6 5 3 ≡ None)
    × (made_before (pair 4 2 ∷ pair 5 2 ∷ pair 4 2 ∷ []) 6 4 2 ≡ Some 10)
made_pinned = (refl, refl, refl)

-- the gate of a variable by either sign, what is defined, a negation; bits of gates over two sources, and of a literal past them; what a lookup past
-- the gates gives; the room of the stack for three gates, and two words of it
pub words_pinned :
    (gate_for (gate 3 1 2 ∷ gate 4 5 6 ∷ []) 1 ≡ Some (gate 3 1 2)) × (gate_for (gate 3 1 2 ∷ gate 4 5 6 ∷ []) 2 ≡ Some (gate 4 5 6))
    × (gate_for (gate 3 1 2 ∷ gate 4 5 6 ∷ []) 3 ≡ None)
    × (defined (record { sources = 2 ∷ 5 ∷ []; gates = gate 7 1 2 ∷ [] }) ≡ (0 ∷ 1 ∷ 2 ∷ 3 ∷ [])) × (negated 4 ≡ 5) × (negated 5 ≡ 4)
    × (values_of (pair 4 2 ∷ pair 7 2 ∷ []) (true ∷ true ∷ []) ≡ (false ∷ true ∷ true ∷ true ∷ false ∷ []))
    × (values_of (pair 5 2 ∷ pair 7 3 ∷ []) (true ∷ false ∷ []) ≡ (false ∷ true ∷ false ∷ true ∷ false ∷ []))
    × (values_of (pair 5 3 ∷ []) (true ∷ false ∷ []) ≡ (false ∷ true ∷ false ∷ false ∷ []))
    × (bit_of (true ∷ []) 2 ≡ false) × (bit_of (true ∷ []) 3 ≡ true) × (no_pair ≡ pair 0 0)
    × (stack_room (record { graph = record { sources = 2 ∷ []; gates = gate 4 2 2 ∷ gate 6 2 2 ∷ gate 8 2 2 ∷ [] }; hash = false; fold = false }) ≡ 6)
    × (stack_words (record { lit = 5; on_second = true } ∷ record { lit = 3; on_second = false } ∷ []) ≡ (6 ∷ 11 ∷ []))
    × (path_of (record { lit = 5; on_second = true } ∷ record { lit = 3; on_second = false } ∷ []) ≡ (3 ∷ 5 ∷ []))
unfolding flipped values_of run_gates bit_of flip_if is_odd
words_pinned = (refl, refl, refl, refl, refl, refl, refl, refl, refl, refl, refl, refl, refl, refl, refl)

-- the machine, over the graph of one gate: entered and not left are literals with their first input under way, or their second
abbrev frame : ℕ → Bool → Frame
frame c on_second = record { lit = c; on_second = on_second }

abbrev plain_net : Net
plain_net = record { graph = single; hash = false; fold = false }

-- before the gate is made, and after
abbrev begun : Work
begun = record { images = 0 ∷ 2 ∷ 4 ∷ gone ∷ []; made = [] }

abbrev done : Work
done = record { images = 0 ∷ 2 ∷ 4 ∷ 6 ∷ []; made = pair 5 2 ∷ [] }

abbrev machine : List Frame → At → Work → Machine
machine fs at w = record { frames = fs; at = at; work = w }

pub machine_pinned :
    -- 7 is looked at below 3: its gate is entered; and below two entries, since no limit is set
    (step plain_net (machine (frame 3 true ∷ []) (transfer 7) begun) ≡ goes (machine (frame 7 false ∷ frame 3 true ∷ []) (transfer 2) begun))
    × (step plain_net (machine (frame 3 true ∷ frame 8 false ∷ []) (transfer 7) begun) ≡ goes
    (machine (frame 7 false ∷ frame 3 true ∷ frame 8 false ∷ []) (transfer 2) begun))
    -- 5 has its image, 9 no gate; 7 is the newer of two entries, which is the middle one
    × (step plain_net (machine (frame 7 true ∷ []) (transfer 5) begun) ≡ goes (machine (frame 7 true ∷ []) back begun))
    × (step plain_net (machine (frame 7 true ∷ []) (transfer 9) begun) ≡ ends (stopped (Undefined (literal 9))))
    × (step plain_net (machine (frame 7 false ∷ frame 3 true ∷ []) (transfer 7) begun) ≡ ends (stopped (Cycle (literal 7))))
    -- back from the first input of 7, from its second, from a literal without a gate, and from all
    × (step plain_net (machine (frame 7 false ∷ frame 3 true ∷ []) back begun) ≡ goes (machine (frame 7 true ∷ frame 3 true ∷ []) (transfer 5) begun))
    × (step plain_net (machine (frame 7 true ∷ frame 3 true ∷ []) back begun) ≡ goes (machine (frame 3 true ∷ []) back done))
    × (step plain_net (machine (frame 9 true ∷ []) back begun) ≡ ends (stopped (Undefined (literal 9))))
    × (step plain_net (machine [] back done) ≡ ends (reached done))
unfolding step step_at step_back step_look look image_in entry_image flipped settle settle_on settle_as already next_code first_code folded code_of store
machine_pinned = (refl, refl, refl, refl, refl, refl, refl, refl, refl)

-- words onto the front of a list: one that is longer, one that is as long, one that is shorter, and none
pub onto_pinned :
    (onto (1 ∷ 2 ∷ []) (7 ∷ 8 ∷ 9 ∷ []) ≡ 1 ∷ 2 ∷ 9 ∷ []) × (onto (1 ∷ 2 ∷ []) (7 ∷ 8 ∷ []) ≡ 1 ∷ 2 ∷ [])
    × (onto (1 ∷ 2 ∷ 3 ∷ []) (7 ∷ 8 ∷ []) ≡ 1 ∷ 2 ∷ []) × (onto (1 ∷ []) [] ≡ []) × (onto [] (7 ∷ 8 ∷ []) ≡ 7 ∷ 8 ∷ [])
onto_pinned = (refl, refl, refl, refl, refl)

pub givens_pinned : (given : ℕ → Bool) → given_from given 3 2 ≡ given 3 ∷ given 4 ∷ []
unfolding given_from
givens_pinned given = refl

pub pins : Computes cells × Computes order × Computes settings × Computes rows × Computes again × Computes shared
unfolding outcome conclusion too_big misshapen too_short after renumber numbered codes walk_all walked start store flipped walk look image_in entry_image
    through_inputs settle settle_on settle_as already next_code first_code folded code_of ordered_of images_in
pins = (refl, refl, refl, refl, refl, refl)
