-- Writing a text by example, worked out from document 02: lines, whole texts, and every refusal with the lent bytes as they were. By computation: nothing here
-- leans on a proof. Assumes nothing.
use Prim.Native.Nat.{ℕ}
use mathlib.Core.Path.{◌≡◌, refl}
use mathlib.Core.List.{List, [], ◌∷◌, ◌++◌}
use lib.ListN.{replicate}
use Rattle.token.specs.Format.{digits_of}
use Rattle.lit.specs.Code.{literal}
use Rattle.circuit.specs.Walk.{first_code}
use Rattle.sections.specs.Bytes.{line_bytes, count_bytes, reset_bytes, latch_bytes, after_tag, roots_bytes}
use Rattle.ordered.specs.declared.given.Fault.TheVariants.{TooBig, Misshapen, Over, Reset, Disordered, Short}
use Rattle.ordered.specs.Check.{too_large, uneven, checked}
use Rattle.std.specs.Prelude.{Ok}
use Rattle.binary.specs.File.{File}
use Rattle.binary.specs.Write.{unwritten, wrote}
use Rattle.binary.proofs.Pins.{pair, file, small_file}
use Rattle.binary.proofs.WritePins.{bare, none, words, small_words}
use Rattle.ascii.specs.Tag.{tag}
use Rattle.ascii.specs.Write.{input_lines, stated_bytes, stated_lines, gate_line, gate_lines, parts_of, text_of, writing}

-- 1. Lines.

pub lines_pinned :
    (tag ≡ (97 ∷ 97 ∷ 103 ∷ []))
    -- inputs: none, and five, the last of two digits
    × (input_lines 0 ≡ [])
    × (input_lines 5 ≡ (50 ∷ 10 ∷ 52 ∷ 10 ∷ 54 ∷ 10 ∷ 56 ∷ 10 ∷ 49 ∷ 48 ∷ 10 ∷ []))
    -- a latch's line: 0 is not written, 1 and the latch's own literal are
    × (stated_bytes 12 3 0 ≡ (49 ∷ 50 ∷ 32 ∷ 51 ∷ 10 ∷ []))
    × (stated_bytes 12 3 1 ≡ (49 ∷ 50 ∷ 32 ∷ 51 ∷ 32 ∷ 49 ∷ 10 ∷ []))
    × (stated_bytes 12 3 12 ≡ (49 ∷ 50 ∷ 32 ∷ 51 ∷ 32 ∷ 49 ∷ 50 ∷ 10 ∷ []))
    -- states step by two; as many lines as both lists have
    × (stated_lines 6 (9 ∷ 4 ∷ []) (0 ∷ 8 ∷ []) ≡ (54 ∷ 32 ∷ 57 ∷ 10 ∷ 56 ∷ 32 ∷ 52 ∷ 32 ∷ 56 ∷ 10 ∷ []))
    × (stated_lines 6 (9 ∷ 4 ∷ []) (0 ∷ []) ≡ (54 ∷ 32 ∷ 57 ∷ 10 ∷ []))
    × (stated_lines 6 (9 ∷ []) (0 ∷ 8 ∷ []) ≡ (54 ∷ 32 ∷ 57 ∷ 10 ∷ []))
    -- a gate's line: its output, the larger input, the smaller; with equal inputs, and with the largest codes
    × (gate_line 6 4 2 ≡ (54 ∷ 32 ∷ 52 ∷ 32 ∷ 50 ∷ 10 ∷ []))
    × (gate_line 6 4 4 ≡ (54 ∷ 32 ∷ 52 ∷ 32 ∷ 52 ∷ 10 ∷ []))
    × (gate_line 2097150 2097149 0 ≡ (50 ∷ 48 ∷ 57 ∷ 55 ∷ 49 ∷ 53 ∷ 48 ∷ 32 ∷ 50 ∷ 48 ∷ 57 ∷ 55 ∷ 49 ∷ 52 ∷ 57 ∷ 32 ∷ 48 ∷ 10 ∷ []))
    -- outputs step by two
    × (gate_lines 8 (pair 6 2 ∷ pair 8 3 ∷ []) ≡ (56 ∷ 32 ∷ 54 ∷ 32 ∷ 50 ∷ 10 ∷ 49 ∷ 48 ∷ 32 ∷ 56 ∷ 32 ∷ 51 ∷ 10 ∷ []))
    × (gate_lines 8 [] ≡ [])
unfolding digits_of line_bytes count_bytes reset_bytes latch_bytes input_lines stated_bytes gate_line
lines_pinned = (refl, refl, refl, refl, refl, refl, refl, refl, refl, refl, refl, refl, refl, refl)

-- 2. Whole texts.

-- aag 0 0 0 0 0 and the rest
abbrev none_then : List ℕ → List ℕ
none_then rest = (97 ∷ 97 ∷ 103 ∷ 32 ∷ 48 ∷ 32 ∷ 48 ∷ 32 ∷ 48 ∷ 32 ∷ 48 ∷ 32 ∷ 48 ∷ rest)

abbrev empty : List ℕ
empty = none_then (10 ∷ [])

-- two inputs, and a gate of these inputs, which is the output
abbrev gated : ℕ → ℕ → File
gated a b = file 2 [] [] (pair a b ∷ []) (1 ∷ 0 ∷ 0 ∷ 0 ∷ 0 ∷ []) (6 ∷ []) []

-- aag 3 2 0 1 1\n2\n4\n6\n and the line
abbrev gated_text : List ℕ → List ℕ
gated_text line =
    (97 ∷ 97 ∷ 103 ∷ 32 ∷ 51 ∷ 32 ∷ 50 ∷ 32 ∷ 48 ∷ 32 ∷ 49 ∷ 32 ∷ 49 ∷ 10 ∷ 50 ∷ 10 ∷ 52 ∷ 10 ∷ 54 ∷ 10 ∷ line)

-- a latch whose next state is its negation, with this reset; it and its negation are outputs
abbrev toggle : ℕ → File
toggle reset = file 0 (3 ∷ []) (reset ∷ []) [] (2 ∷ 0 ∷ 0 ∷ 0 ∷ 0 ∷ []) (2 ∷ 3 ∷ []) []

-- aag 1 0 1 2 0\n, the line, and 2\n3\n
abbrev toggle_text : List ℕ → List ℕ
toggle_text line = (97 ∷ 97 ∷ 103 ∷ 32 ∷ 49 ∷ 32 ∷ 48 ∷ 32 ∷ 49 ∷ 32 ∷ 50 ∷ 32 ∷ 48 ∷ 10 ∷ line) ++ (50 ∷ 10 ∷ 51 ∷ 10 ∷ [])

-- aag 6 2 1 2 3 1 1 2 1, inputs 2 and 4, latch 6 with next state 8 and reset 1, outputs 12 and 13, bad 9, constraint 3, sizes 2 and 1, justice 6 and 11 and 5,
-- fairness 7, then 8(6,2), 10(8,3) and 12(10,9)
abbrev small : List ℕ
small =
    (97 ∷ 97 ∷ 103 ∷ 32 ∷ 54 ∷ 32 ∷ 50 ∷ 32 ∷ 49 ∷ 32 ∷ 50 ∷ 32 ∷ 51 ∷ 32 ∷ 49 ∷ 32 ∷ 49 ∷ 32 ∷ 50 ∷ 32 ∷ 49 ∷ 10 ∷ 50 ∷ 10 ∷ 52 ∷ 10 ∷ 54 ∷ 32 ∷ 56 ∷
    32 ∷ 49 ∷ 10 ∷ 49 ∷ 50 ∷ 10 ∷ 49 ∷ 51 ∷ 10 ∷ 57 ∷ 10 ∷ 51 ∷ 10 ∷ 50 ∷ 10 ∷ 49 ∷ 10 ∷ 54 ∷ 10 ∷ 49 ∷ 49 ∷ 10 ∷ 53 ∷ 10 ∷ 55 ∷ 10 ∷ 56 ∷ 32 ∷ 54 ∷ 32 ∷
    50 ∷ 10 ∷ 49 ∷ 48 ∷ 32 ∷ 56 ∷ 32 ∷ 51 ∷ 10 ∷ 49 ∷ 50 ∷ 32 ∷ 49 ∷ 48 ∷ 32 ∷ 57 ∷ 10 ∷ [])

-- aag 2 2 0 0 0 0 0 1 2\n2\n4\n2\n5\n4\n2\n3\n
abbrev fair : List ℕ
fair =
    (97 ∷ 97 ∷ 103 ∷ 32 ∷ 50 ∷ 32 ∷ 50 ∷ 32 ∷ 48 ∷ 32 ∷ 48 ∷ 32 ∷ 48 ∷ 32 ∷ 48 ∷ 32 ∷ 48 ∷ 32 ∷ 49 ∷ 32 ∷ 50 ∷ 10 ∷
    50 ∷ 10 ∷ 52 ∷ 10 ∷ 50 ∷ 10 ∷ 53 ∷ 10 ∷ 52 ∷ 10 ∷ 50 ∷ 10 ∷ 51 ∷ 10 ∷ [])

pub texts_pinned :
    (text_of (bare none [] []) ≡ empty)
    × (text_of (gated 4 2) ≡ gated_text (54 ∷ 32 ∷ 52 ∷ 32 ∷ 50 ∷ 10 ∷ []))
    × (text_of (gated 4 4) ≡ gated_text (54 ∷ 32 ∷ 52 ∷ 32 ∷ 52 ∷ 10 ∷ []))
    × (text_of (toggle 0) ≡ toggle_text (50 ∷ 32 ∷ 51 ∷ 10 ∷ []))
    × (text_of (toggle 1) ≡ toggle_text (50 ∷ 32 ∷ 51 ∷ 32 ∷ 49 ∷ 10 ∷ []))
    × (text_of (toggle 2) ≡ toggle_text (50 ∷ 32 ∷ 51 ∷ 32 ∷ 50 ∷ 10 ∷ []))
    × (text_of small_file ≡ small)
    -- of the roots 2, 3, 5 and 4 the first two are fairness, and stand behind the justice set of the others
    × (text_of (file 2 [] [] [] (0 ∷ 0 ∷ 0 ∷ 2 ∷ 2 ∷ []) (2 ∷ 3 ∷ 5 ∷ 4 ∷ []) (2 ∷ [])) ≡ fair)
    -- one optional count, and so the ones before it: B, C, J with a set of size 0, F
    × (text_of (bare (0 ∷ 1 ∷ 0 ∷ 0 ∷ 0 ∷ []) (1 ∷ []) []) ≡ none_then (32 ∷ 49 ∷ 10 ∷ 49 ∷ 10 ∷ []))
    × (text_of (bare (0 ∷ 0 ∷ 1 ∷ 0 ∷ 0 ∷ []) (0 ∷ []) []) ≡ none_then (32 ∷ 48 ∷ 32 ∷ 49 ∷ 10 ∷ 48 ∷ 10 ∷ []))
    × (text_of (bare none [] (0 ∷ [])) ≡ none_then (32 ∷ 48 ∷ 32 ∷ 48 ∷ 32 ∷ 49 ∷ 10 ∷ 48 ∷ 10 ∷ []))
    × (text_of (bare (0 ∷ 0 ∷ 0 ∷ 1 ∷ 0 ∷ []) (1 ∷ []) []) ≡ none_then (32 ∷ 48 ∷ 32 ∷ 48 ∷ 32 ∷ 48 ∷ 32 ∷ 49 ∷ 10 ∷ 49 ∷ 10 ∷ []))
    -- an input and a latch behind it, whose state is 4, in a circuit without justice sets
    × (text_of (file 1 (2 ∷ []) (0 ∷ []) [] none [] [])
    ≡ (97 ∷ 97 ∷ 103 ∷ 32 ∷ 50 ∷ 32 ∷ 49 ∷ 32 ∷ 49 ∷ 32 ∷ 48 ∷ 32 ∷ 48 ∷ 10 ∷ 50 ∷ 10 ∷ 52 ∷ 32 ∷ 50 ∷ 10 ∷ []))
unfolding digits_of line_bytes count_bytes reset_bytes latch_bytes after_tag roots_bytes first_code input_lines stated_bytes gate_line parts_of
texts_pinned = (refl, refl, refl, refl, refl, refl, refl, refl, refl, refl, refl, refl, refl)

-- 3. Answers, and the lent bytes afterwards.

-- aag 2 1 0 0 1\n2\n4 3 2\n
abbrev mended : List ℕ
mended = (97 ∷ 97 ∷ 103 ∷ 32 ∷ 50 ∷ 32 ∷ 49 ∷ 32 ∷ 48 ∷ 32 ∷ 48 ∷ 32 ∷ 49 ∷ 10 ∷ 50 ∷ 10 ∷ 52 ∷ 32 ∷ 51 ∷ 32 ∷ 50 ∷ 10 ∷ [])

pub writing_pinned :
    -- the small circuit, with three bytes behind it; one byte short; the empty circuit into just as many, and into none: 3 names how many are needed
    (writing small_words (replicate 76 99 ++ (1 ∷ 2 ∷ 3 ∷ [])) ≡ wrote (Ok 76) (small ++ (1 ∷ 2 ∷ 3 ∷ [])))
    × (writing small_words (replicate 75 99) ≡ wrote (unwritten Short 76) (replicate 75 99))
    × (writing (words 0 none [] [] [] [] []) (replicate 14 99) ≡ wrote (Ok 14) empty)
    × (writing (words 0 none [] [] [] [] []) [] ≡ wrote (unwritten Short 14) [])
    -- 2 for counts, for sizes, for a reset that is missing and for a word that is left over; 4; 22, by the latch's literal negated; 23, by the first input and
    -- by the second; each where the bytes are too few as well, so that 3 is answered after them all
    × (writing (words 0 none [] [] [] [] (0 ∷ [])) (7 ∷ 8 ∷ []) ≡ wrote (unwritten Misshapen 0) (7 ∷ 8 ∷ []))
    × (writing (words 0 none [] [] [] (1 ∷ []) []) (7 ∷ 8 ∷ []) ≡ wrote (unwritten Misshapen 0) (7 ∷ 8 ∷ []))
    × (writing (words 1 none (2 ∷ []) [] [] [] []) (7 ∷ 8 ∷ []) ≡ wrote (unwritten Misshapen 0) (7 ∷ 8 ∷ []))
    × (writing (words 1 none [] [] (2 ∷ []) [] []) (7 ∷ 8 ∷ []) ≡ wrote (unwritten Misshapen 0) (7 ∷ 8 ∷ []))
    × (writing (words 1 (1 ∷ 0 ∷ 0 ∷ 0 ∷ 0 ∷ []) [] [] [] [] (4 ∷ [])) (7 ∷ 8 ∷ []) ≡ wrote (unwritten (Over (literal 4)) 0) (7 ∷ 8 ∷ []))
    × (writing (words 1 none (2 ∷ []) (5 ∷ []) [] [] []) (7 ∷ 8 ∷ []) ≡ wrote (unwritten (Reset (literal 5)) 0) (7 ∷ 8 ∷ []))
    × (writing (words 1 none [] [] (4 ∷ 2 ∷ []) [] []) (7 ∷ 8 ∷ []) ≡ wrote (unwritten (Disordered (literal 4)) 0) (7 ∷ 8 ∷ []))
    × (writing (words 1 none [] [] (2 ∷ 3 ∷ []) [] []) (7 ∷ 8 ∷ []) ≡ wrote (unwritten (Disordered (literal 4)) 0) (7 ∷ 8 ∷ []))
    -- the gate mended, it is 3; with just as many bytes it is written, and the gate as it was is not
    × (writing (words 1 none [] [] (3 ∷ 2 ∷ []) [] []) (7 ∷ 8 ∷ []) ≡ wrote (unwritten Short 22) (7 ∷ 8 ∷ []))
    × (writing (words 1 none [] [] (3 ∷ 2 ∷ []) [] []) (replicate 22 99) ≡ wrote (Ok 22) mended)
    × (writing (words 1 none [] [] (2 ∷ 3 ∷ []) [] []) (replicate 22 99) ≡ wrote (unwritten (Disordered (literal 4)) 0) (replicate 22 99))
unfolding digits_of line_bytes count_bytes reset_bytes latch_bytes after_tag roots_bytes first_code input_lines stated_bytes gate_line parts_of checked too_large uneven
    writing
writing_pinned = (refl, refl, refl, refl, refl, refl, refl, refl, refl, refl, refl, refl, refl, refl, refl)

-- 1, before 3 too
pub too_big_pinned : writing (words 1048576 none [] [] [] [] []) (7 ∷ 8 ∷ []) ≡ wrote (unwritten TooBig 0) (7 ∷ 8 ∷ [])
unfolding checked too_large writing
too_big_pinned = refl
