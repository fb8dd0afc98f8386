-- Whole sheets and their whole texts by example, worked out from document 01, and the circuit on a sheet field by field: each is one on which a neighbouring
-- definition answers otherwise. By computation. Assumes nothing.
use Prim.Native.Nat.{ℕ, zero, suc}
use mathlib.Core.Path.{◌≡◌, refl, ap}
use mathlib.Core.Bool.{Bool, true, false}
use mathlib.Core.List.{List, [], ◌∷◌, ◌++◌}
use native.Mathlib.Omega.{arith}
use lib.ListN.{length, get_or, replicate, length-append}
use Rattle.token.specs.Format.{digits_of}
use Rattle.token.specs.Answer.{binary_at, go_on_at}
use Rattle.lit.specs.Code.{is_odd, variable, flipped}
use Rattle.circuit.specs.declared.CircuitRecord.{CircuitRecord}
use Rattle.circuit.specs.Map.{entry_image, image_in, store, code_of}
use Rattle.circuit.specs.Graph.{Gate}
use Rattle.circuit.specs.Walk.{walk_all, walk, look, through_inputs, settle, settle_on, settle_as, already, next_code, first_code, folded}
use Rattle.circuit.specs.Circuit.{Circuit, renumber, numbered, codes, walked, start}
use Rattle.circuit.specs.Ordered.{ordered_of, images_in}
use Rattle.sheet_lines.proofs.Pins.{bytes}
use Rattle.sheet_lines.specs.Lines.{refused_line, ordered_line, gate_line, image_line}
use Rattle.sheet_lines.specs.Text.{ordered_text, refused_text}
use Rattle.sheet_read.specs.Sheet.{numbers_at, root_count, too_large, code_count, lists_read, sheet_read, read_of}
use Rattle.sheet.specs.Circuit.{states_of, nexts_of, input_codes, gate_words, latch_words, root_codes, record_on, circuit_on}
use Rattle.sheet.specs.Report.{text_of, report_of, Ends}
use Rattle.sheet_read.specs.Promise.{Taken}
use Rattle.sheet.specs.Promise.{Words, circuit_in, Shaped, Roomy}

-- 1. Document 01's sheet, and its text.

pub told :
    report_of (0x03 ∷ 0x02 ∷ 0x00 ∷ 0x01 ∷ 0x01 ∷ 0x00 ∷ 0x00 ∷ 0x00 ∷ 0x00 ∷ 0x00 ∷ 0x02 ∷ 0x04 ∷ 0x06 ∷ 0x02 ∷ 0x04 ∷ 0x06 ∷ [])
    ≡ bytes "ordered 3 2 0 1\n6 4 2\nr 6\n"
unfolding report_of read_of sheet_read lists_read numbers_at binary_at go_on_at too_large root_count code_count circuit_on is_odd renumber numbered codes walk_all walked start
    store flipped walk look image_in entry_image through_inputs settle settle_on settle_as already next_code first_code folded code_of ordered_of images_in text_of
    ordered_text ordered_line gate_line image_line digits_of
told = refl

-- 2. A sheet with all lists, under each setting of the flags.

-- every number is below 128, so each is its own byte: V = 11, three inputs, two latches, five gates, four roots (an output, two constraints, a justice literal)
abbrev sheet : ℕ → List ℕ → List ℕ → List ℕ → List ℕ → List ℕ
sheet flags inputs gates latches roots = 11 ∷ 3 ∷ 2 ∷ 5 ∷ 1 ∷ 0 ∷ 2 ∷ 0 ∷ 1 ∷ flags ∷ (inputs ++ (gates ++ (latches ++ roots)))

-- inputs 4, 2, 7; twins 20(2,4) and 13(4,2), the second of which defines 13; 16(20,1), which folds; 18(10,9); 22(18,13), which nothing reaches;
-- latches (10,19), (8,20), the first of which reaches a later gate than the second; roots 16, 12, 18, 3
abbrev inputs : List ℕ
inputs = 4 ∷ 2 ∷ 7 ∷ []

abbrev gates : List ℕ
gates = 20 ∷ 2 ∷ 4 ∷ 13 ∷ 4 ∷ 2 ∷ 16 ∷ 20 ∷ 1 ∷ 18 ∷ 10 ∷ 9 ∷ 22 ∷ 18 ∷ 13 ∷ []

abbrev latches : List ℕ
latches = 10 ∷ 19 ∷ 8 ∷ 20 ∷ []

abbrev roots : List ℕ
roots = 16 ∷ 12 ∷ 18 ∷ 3 ∷ []

-- new codes: 4, 2, 7 are 2, 4, 6, the latch states 10, 8 are 8, 10, and gates begin at 12. Trim (1) numbers 18 first, since the first next state
-- reaches it, and
-- leaves 22 out; hash (2) makes one gate of the twins, so that 12 is that gate negated; fold (4) gives 16 the image of 20
pub settings_pinned :
    (report_of (sheet 0 inputs gates latches roots)
    ≡ bytes "ordered 10 3 2 5\n12 4 2\n14 4 2\n16 12 1\n18 11 8\n20 18 14\nn 19\nn 12\nr 16\nr 15\nr 18\nr 5\n")
    × (report_of (sheet 1 inputs gates latches roots)
    ≡ bytes "ordered 9 3 2 4\n12 11 8\n14 4 2\n16 14 1\n18 4 2\nn 13\nn 14\nr 16\nr 19\nr 12\nr 5\n")
    × (report_of (sheet 2 inputs gates latches roots)
    ≡ bytes "ordered 9 3 2 4\n12 4 2\n14 12 1\n16 11 8\n18 16 12\nn 17\nn 12\nr 14\nr 13\nr 16\nr 5\n")
    × (report_of (sheet 3 inputs gates latches roots)
    ≡ bytes "ordered 8 3 2 3\n12 11 8\n14 4 2\n16 14 1\nn 13\nn 14\nr 16\nr 15\nr 12\nr 5\n")
    × (report_of (sheet 4 inputs gates latches roots)
    ≡ bytes "ordered 9 3 2 4\n12 4 2\n14 4 2\n16 11 8\n18 16 14\nn 17\nn 12\nr 12\nr 15\nr 16\nr 5\n")
    × (report_of (sheet 5 inputs gates latches roots)
    ≡ bytes "ordered 8 3 2 3\n12 11 8\n14 4 2\n16 4 2\nn 13\nn 14\nr 14\nr 17\nr 12\nr 5\n")
    × (report_of (sheet 6 inputs gates latches roots)
    ≡ bytes "ordered 8 3 2 3\n12 4 2\n14 11 8\n16 14 12\nn 15\nn 12\nr 12\nr 13\nr 14\nr 5\n")
    × (report_of (sheet 7 inputs gates latches roots)
    ≡ bytes "ordered 7 3 2 2\n12 11 8\n14 4 2\nn 13\nn 14\nr 14\nr 15\nr 12\nr 5\n")
unfolding report_of read_of sheet_read lists_read numbers_at binary_at go_on_at too_large root_count code_count circuit_on is_odd renumber numbered codes walk_all walked start
    store flipped walk look image_in entry_image through_inputs settle settle_on settle_as already next_code first_code folded code_of ordered_of images_in text_of
    ordered_text ordered_line gate_line image_line digits_of
settings_pinned = (refl, refl, refl, refl, refl, refl, refl, refl)

-- 3. Roots of all five kinds: two outputs, three bad states, four constraints, five fairness and six justice literals are one list of twenty, in this order.
-- V = 9, trim, inputs 2, 4, gates 12(2,4), 14(3,5), 16(12,7), 18(14,16), latches (6,6), (8,9), (10,0), which reach no gate; the first root reaches all gates.

pub kinds_pinned :
    report_of
    (9 ∷ 2 ∷ 3 ∷ 4 ∷ 2 ∷ 3 ∷ 4 ∷ 5 ∷ 6 ∷ 1
    ∷ 2 ∷ 4 ∷ 12 ∷ 2 ∷ 4 ∷ 14 ∷ 3 ∷ 5 ∷ 16 ∷ 12 ∷ 7 ∷ 18 ∷ 14 ∷ 16 ∷ 6 ∷ 6 ∷ 8 ∷ 9 ∷ 10 ∷ 0
    ∷ 18 ∷ 2 ∷ 12 ∷ 15 ∷ 7 ∷ 16 ∷ 17 ∷ 0 ∷ 1 ∷ 3 ∷ 4 ∷ 5 ∷ 8 ∷ 9 ∷ 10 ∷ 11 ∷ 13 ∷ 14 ∷ 19 ∷ 6 ∷ [])
    ≡ bytes "ordered 9 2 3 4\n12 5 3\n14 4 2\n16 14 7\n18 16 12\nn 6\nn 9\nn 0\nr 18\nr 2\n"
    ++ bytes "r 14\nr 13\nr 7\nr 16\nr 17\nr 0\nr 1\nr 3\nr 4\nr 5\nr 8\nr 9\nr 10\nr 11\nr 15\nr 12\nr 19\nr 6\n"
unfolding report_of read_of sheet_read lists_read numbers_at binary_at go_on_at too_large root_count code_count circuit_on is_odd renumber numbered codes walk_all walked start
    store flipped walk look image_in entry_image through_inputs settle settle_on settle_as already next_code first_code folded code_of ordered_of images_in text_of
    ordered_text ordered_line gate_line image_line digits_of
kinds_pinned = refl

-- 4. Sheets that are refused, in the order of the tests.

pub pinned :
    -- no byte at all; nine of the ten numbers; seven bytes that go on, and eight
    (report_of [] ≡ bytes "refused 15 0\n")
    × (report_of (replicate 9 0x00) ≡ bytes "refused 15 9\n")
    × (report_of (replicate 7 0x80) ≡ bytes "refused 15 0\n")
    × (report_of (replicate 8 0x80) ≡ bytes "refused 16 0\n")
    -- V = 1024 and flags 8: the sizes are tested first
    × (report_of (0x80 ∷ 0x08 ∷ 0x00 ∷ 0x00 ∷ 0x00 ∷ 0x00 ∷ 0x00 ∷ 0x00 ∷ 0x00 ∷ 0x00 ∷ 0x08 ∷ []) ≡ bytes "refused 1 0\n")
    -- no root count over its limit, but R
    × (report_of (0x00 ∷ 0x00 ∷ 0x00 ∷ 0x00 ∷ 0x80 ∷ 0x04 ∷ 0x80 ∷ 0x04 ∷ 0x00 ∷ 0x00 ∷ 0x00 ∷ 0x00 ∷ []) ≡ bytes "refused 1 0\n")
    -- flags 8, before a code that is cut
    × (report_of (0x01 ∷ 0x01 ∷ 0x00 ∷ 0x00 ∷ 0x00 ∷ 0x00 ∷ 0x00 ∷ 0x00 ∷ 0x00 ∷ 0x08 ∷ []) ≡ bytes "refused 2 0\n")
    -- a code that is cut, at its place; a byte left, before a code that is too big
    × (report_of (0x01 ∷ 0x01 ∷ 0x00 ∷ 0x00 ∷ 0x00 ∷ 0x00 ∷ 0x00 ∷ 0x00 ∷ 0x00 ∷ 0x00 ∷ 0x80 ∷ []) ≡ bytes "refused 15 10\n")
    × (report_of (0x01 ∷ 0x01 ∷ 0x00 ∷ 0x00 ∷ 0x00 ∷ 0x00 ∷ 0x00 ∷ 0x00 ∷ 0x00 ∷ 0x00 ∷ 0x04 ∷ 0x00 ∷ []) ≡ bytes "refused 2 0\n")
    -- an input code 2 ^ 32, in full; a code over 2V + 1; an input defined twice
    × (report_of (0x01 ∷ 0x01 ∷ 0x00 ∷ 0x00 ∷ 0x00 ∷ 0x00 ∷ 0x00 ∷ 0x00 ∷ 0x00 ∷ 0x00 ∷ 0x80 ∷ 0x80 ∷ 0x80 ∷ 0x80 ∷ 0x10 ∷ [])
    ≡ bytes "refused 4 4294967296\n")
    × (report_of (0x01 ∷ 0x01 ∷ 0x00 ∷ 0x00 ∷ 0x00 ∷ 0x00 ∷ 0x00 ∷ 0x00 ∷ 0x00 ∷ 0x00 ∷ 0x04 ∷ []) ≡ bytes "refused 4 4\n")
    × (report_of (0x01 ∷ 0x02 ∷ 0x00 ∷ 0x00 ∷ 0x00 ∷ 0x00 ∷ 0x00 ∷ 0x00 ∷ 0x00 ∷ 0x00 ∷ 0x02 ∷ 0x03 ∷ []) ≡ bytes "refused 5 3\n")
unfolding report_of read_of sheet_read lists_read numbers_at binary_at go_on_at too_large root_count code_count circuit_on is_odd renumber numbered codes refused_text
    refused_line digits_of
pinned = (refl, refl, refl, refl, refl, refl, refl, refl, refl, refl, refl, refl)

-- the sheet with all lists, each time with something wrong
pub refusals_pinned :
    -- flags 8; the last root cut, at place 35, and too long; a byte left
    (report_of (sheet 8 inputs gates latches roots) ≡ bytes "refused 2 0\n")
    × (report_of (sheet 0 inputs gates latches (16 ∷ 12 ∷ 18 ∷ 0x83 ∷ [])) ≡ bytes "refused 15 35\n")
    × (report_of (sheet 0 inputs gates latches (16 ∷ 12 ∷ 18 ∷ replicate 8 0x83)) ≡ bytes "refused 16 35\n")
    × (report_of (sheet 0 inputs gates latches (16 ∷ 12 ∷ 18 ∷ 3 ∷ 0 ∷ [])) ≡ bytes "refused 2 0\n")
    -- 4: a root alone; a latch's next state before it; a gate's second input before a latch's state; an input before a root; the largest code, 23, passes
    × (report_of (sheet 0 inputs gates latches (16 ∷ 12 ∷ 18 ∷ 24 ∷ [])) ≡ bytes "refused 4 24\n")
    × (report_of (sheet 0 inputs gates (10 ∷ 19 ∷ 8 ∷ 27 ∷ []) (16 ∷ 12 ∷ 18 ∷ 24 ∷ [])) ≡ bytes "refused 4 27\n")
    × (report_of (sheet 0 inputs (20 ∷ 2 ∷ 4 ∷ 13 ∷ 4 ∷ 2 ∷ 16 ∷ 20 ∷ 1 ∷ 18 ∷ 10 ∷ 9 ∷ 22 ∷ 18 ∷ 26 ∷ []) (24 ∷ 19 ∷ 8 ∷ 20 ∷ []) roots) ≡ bytes
    "refused 4 26\n")
    × (report_of (sheet 0 (4 ∷ 2 ∷ 25 ∷ []) gates latches (16 ∷ 12 ∷ 18 ∷ 24 ∷ [])) ≡ bytes "refused 4 25\n")
    × (report_of (sheet 7 inputs gates latches (16 ∷ 12 ∷ 18 ∷ 23 ∷ []))
    ≡ bytes "ordered 8 3 2 3\n12 11 8\n14 4 2\n16 14 12\nn 13\nn 14\nr 14\nr 15\nr 12\nr 17\n")
    -- 5: the input 5, where 4 is one; the gate 6(18,13), where the input 7 is there
    × (report_of (sheet 0 (4 ∷ 2 ∷ 5 ∷ []) gates latches roots) ≡ bytes "refused 5 5\n")
    × (report_of (sheet 0 inputs (20 ∷ 2 ∷ 4 ∷ 13 ∷ 4 ∷ 2 ∷ 16 ∷ 20 ∷ 1 ∷ 18 ∷ 10 ∷ 9 ∷ 6 ∷ 18 ∷ 13 ∷ []) latches roots) ≡ bytes "refused 5 6\n")
    -- 6: the second latch's state 11, where the first one's is 10
    × (report_of (sheet 0 inputs gates (10 ∷ 19 ∷ 11 ∷ 20 ∷ []) roots) ≡ bytes "refused 6 11\n")
    -- 7: gate 18(10,15), where variable 7 is not defined
    × (report_of (sheet 0 inputs (20 ∷ 2 ∷ 4 ∷ 13 ∷ 4 ∷ 2 ∷ 16 ∷ 20 ∷ 1 ∷ 18 ∷ 10 ∷ 15 ∷ 22 ∷ 18 ∷ 13 ∷ []) latches roots) ≡ bytes "refused 7 15\n")
    -- 8: gate 20(2,17), where 16(20,1): the path is 20, 17, 20 and then 17 is its middle
    × (report_of (sheet 0 inputs (20 ∷ 2 ∷ 17 ∷ 13 ∷ 4 ∷ 2 ∷ 16 ∷ 20 ∷ 1 ∷ 18 ∷ 10 ∷ 9 ∷ 22 ∷ 18 ∷ 13 ∷ []) latches roots) ≡ bytes "refused 8 17\n")
unfolding report_of read_of sheet_read lists_read numbers_at binary_at go_on_at too_large root_count code_count circuit_on is_odd renumber numbered codes walk_all walked start
    store flipped walk look image_in entry_image through_inputs settle settle_on settle_as already next_code first_code folded code_of ordered_of images_in text_of
    ordered_text ordered_line gate_line image_line refused_text refused_line digits_of
refusals_pinned = (refl, refl, refl, refl, refl, refl, refl, refl, refl, refl, refl, refl, refl, refl)

-- twenty zeros and whatever follows them: 60,000 bytes are too many for the empty circuit, and 60,001 for any
pub longest_pinned : (rest over : List ℕ) → length rest ≡ 59980 → length over ≡ 59981
    → (report_of (replicate 20 0x00 ++ rest) ≡ bytes "refused 2 0\n") × (report_of (replicate 20 0x00 ++ over) ≡ bytes "refused 1 0\n")
unfolding report_of read_of sheet_read lists_read numbers_at binary_at go_on_at too_large root_count code_count refused_line digits_of
longest_pinned rest over r o = (rw r, rw o)

-- 5. The circuit on a sheet, field by field; and its parts.

abbrev gate : ℕ → ℕ → ℕ → Gate
gate o a b = record { output = o; first = a; second = b }

-- V = 11, three inputs, two latches, four gates, root counts 2, 0, 1, 3, 4 and ten roots
abbrev header : ℕ → List ℕ
header flags = 11 ∷ 3 ∷ 2 ∷ 4 ∷ 2 ∷ 0 ∷ 1 ∷ 3 ∷ 4 ∷ flags ∷ []

abbrev words : List ℕ
words =
    4 ∷ 2 ∷ 7
    ∷ 20 ∷ 12 ∷ 14 ∷ 13 ∷ 5 ∷ 8 ∷ 16 ∷ 21 ∷ 1 ∷ 18 ∷ 10 ∷ 9
    ∷ 30 ∷ 19 ∷ 32 ∷ 22
    ∷ 41 ∷ 42 ∷ 43 ∷ 44 ∷ 45 ∷ 46 ∷ 47 ∷ 48 ∷ 49 ∷ 50 ∷ []

-- that circuit with the flags trim, hash and fold
abbrev circuit : Bool → Bool → Bool → Circuit
circuit trim hash fold =
    record {
      top = 11;
      inputs = 4 ∷ 2 ∷ 7 ∷ [];
      states = 30 ∷ 32 ∷ [];
      nexts = 19 ∷ 22 ∷ [];
      resets = 0 ∷ 0 ∷ [];
      gates = gate 20 12 14 ∷ gate 13 5 8 ∷ gate 16 21 1 ∷ gate 18 10 9 ∷ [];
      counts = 2 ∷ 0 ∷ 1 ∷ 3 ∷ 4 ∷ [];
      roots = 41 ∷ 42 ∷ 43 ∷ 44 ∷ 45 ∷ 46 ∷ 47 ∷ 48 ∷ 49 ∷ 50 ∷ [];
      trim = trim;
      hash = hash;
      fold = fold;
    }

-- the same but for its lists
abbrev numbers : Bool → Bool → Bool → CircuitRecord
numbers trim hash fold = record { top = variable 11; counts = 2 ∷ 0 ∷ 1 ∷ 3 ∷ 4 ∷ []; trim = trim; hash = hash; fold = fold }

pub circuit_pinned :
    -- each of the eight settings: trim 1, hash 2, fold 4
    (circuit_on (header 0) words ≡ circuit false false false) × (circuit_on (header 1) words ≡ circuit true false false)
    × (circuit_on (header 2) words ≡ circuit false true false) × (circuit_on (header 3) words ≡ circuit true true false)
    × (circuit_on (header 4) words ≡ circuit false false true) × (circuit_on (header 5) words ≡ circuit true false true)
    × (circuit_on (header 6) words ≡ circuit false true true) × (circuit_on (header 7) words ≡ circuit true true true)
    × (record_on (header 0) ≡ numbers false false false) × (record_on (header 1) ≡ numbers true false false)
    × (record_on (header 2) ≡ numbers false true false) × (record_on (header 3) ≡ numbers true true false)
    × (record_on (header 4) ≡ numbers false false true) × (record_on (header 5) ≡ numbers true false true)
    × (record_on (header 6) ≡ numbers false true true) × (record_on (header 7) ≡ numbers true true true)
    -- the same circuit of its lists
    × (circuit_in (header 6) (4 ∷ 2 ∷ 7 ∷ []) (30 ∷ 32 ∷ []) (19 ∷ 22 ∷ []) (20 ∷ 12 ∷ 14 ∷ 13 ∷ 5 ∷ 8 ∷ 16 ∷ 21 ∷ 1 ∷ 18 ∷ 10 ∷ 9 ∷ [])
    (41 ∷ 42 ∷ 43 ∷ 44 ∷ 45 ∷ 46 ∷ 47 ∷ 48 ∷ 49 ∷ 50 ∷ [])
    ≡ circuit false true true)
    -- a reset for each state, also where there are fewer next states
    × ((circuit_in (header 6) [] (30 ∷ 32 ∷ 34 ∷ []) (19 ∷ []) [] []).resets ≡ 0 ∷ 0 ∷ 0 ∷ [])
    -- the words of each list
    × (input_codes (header 0) words ≡ 4 ∷ 2 ∷ 7 ∷ [])
    × (gate_words (header 0) words ≡ 20 ∷ 12 ∷ 14 ∷ 13 ∷ 5 ∷ 8 ∷ 16 ∷ 21 ∷ 1 ∷ 18 ∷ 10 ∷ 9 ∷ [])
    × (latch_words (header 0) words ≡ 30 ∷ 19 ∷ 32 ∷ 22 ∷ [])
    × (root_codes (header 0) words ≡ 41 ∷ 42 ∷ 43 ∷ 44 ∷ 45 ∷ 46 ∷ 47 ∷ 48 ∷ 49 ∷ 50 ∷ [])
    -- latches in turn; a word left over is none
    × (states_of (30 ∷ 19 ∷ 32 ∷ 22 ∷ []) ≡ 30 ∷ 32 ∷ []) × (nexts_of (30 ∷ 19 ∷ 32 ∷ 22 ∷ []) ≡ 19 ∷ 22 ∷ [])
    × (states_of (30 ∷ 19 ∷ 32 ∷ []) ≡ 30 ∷ []) × (nexts_of (30 ∷ 19 ∷ 32 ∷ []) ≡ 19 ∷ [])
    × (states_of (30 ∷ []) ≡ []) × (nexts_of (30 ∷ []) ≡ []) × (states_of [] ≡ []) × (nexts_of [] ≡ [])
unfolding circuit_on is_odd
circuit_pinned = (
  refl,
  refl,
  refl,
  refl,
  refl,
  refl,
  refl,
  refl,
  refl,
  refl,
  refl,
  refl,
  refl,
  refl,
  refl,
  refl,
  refl,
  refl,
  refl,
  refl,
  refl,
  refl,
  refl,
  refl,
  refl,
  refl,
  refl,
  refl,
  refl,
  refl,
)

-- 6. The words of the library's order: lists as long as a header says, room for the largest circuit on a sheet, and words of 32 bits.

pub shapes_pinned : (is ss ns gs rs : List ℕ) → Shaped (header 7) is ss ns gs rs
    → Taken (header 7) × (length is ≡ 3) × (length ss ≡ 2) × (length ns ≡ 2) × (length gs ≡ 12) × (length rs ≡ 10)
unfolding root_count
shapes_pinned is ss ns gs rs s = (s.taken, s.inputs, s.states, s.nexts, s.gates, s.roots)

pub shapes_taken : Shaped (header 7) (replicate 3 5) (replicate 2 6) (replicate 2 7) (replicate 12 8) (replicate 10 9)
unfolding too_large root_count
shapes_taken = record { taken = record { ten = refl; within = refl }; inputs = refl; states = refl; nexts = refl; gates = refl; roots = refl }

pub rooms_pinned : (m ns zs rs gs ws : List ℕ) → Roomy m ns zs rs gs ws
    → (length m ≡ 1024) × (length ns ≡ 1023) × (length zs ≡ 1023) × (length rs ≡ 1023) × (length gs ≡ 2046) × (length ws ≡ 6141)
rooms_pinned m ns zs rs gs ws r = (r.map, r.next_images, r.reset_images, r.root_images, r.gates_out, r.scratch)

pub words_pinned : Words (4294967295 ∷ 7 ∷ []) × (Words (7 ∷ 4294967296 ∷ []) → ⊥)
words_pinned = (fit, λ w. omega (arith, w 1 (omega arith)))
  where
    fit : Words (4294967295 ∷ 7 ∷ [])
    fit zero h = omega arith
    fit (suc zero) h = omega arith
    fit (suc (suc i)) h = absurd (omega arith)

-- a newline last, with bytes before it and alone; and one that is not last
pub ends_pinned : Ends (7 ∷ 10 ∷ []) × Ends (10 ∷ []) × (Ends (10 ∷ 7 ∷ []) → ⊥)
ends_pinned = (record { front = 7 ∷ []; last = refl }, record { front = []; last = refl }, λ e. other e.front e.last)
  where
    other : (front : List ℕ) → 10 ∷ 7 ∷ [] ≡ front ++ (10 ∷ []) → ⊥
    other [] e = let z : ◌≡◌ {A = ℕ} 2 1 = ap length e in omega arith
    other (x ∷ []) e = let z : ◌≡◌ {A = ℕ} 7 10 = ap (λ (l : List ℕ). get_or l 1 0) e in omega arith
    other (x ∷ y ∷ front) e = let n = ap length e in omega (arith, length-append front (10 ∷ []))
