-- Writing by example, worked out from document 02: whole files, deltas where their number of bytes changes, and every refusal with the lent bytes as they
-- were. By computation: nothing here leans on a proof. Assumes nothing.
use Prim.Native.Nat.{ℕ}
use mathlib.Core.Path.{◌≡◌, refl}
use mathlib.Core.List.{List, [], ◌∷◌, ◌++◌}
use lib.ListN.{replicate}
use Rattle.token.specs.Format.{digits_of, shortest}
use Rattle.token.specs.Answer.{digits_at, uint_at, go_on_at, binary_at, delta_at, header_field_at, pair_at}
use Rattle.lit.specs.Code.{literal}
use Rattle.circuit.specs.Walk.{first_code}
use Rattle.lines.specs.Reading.{got}
use Rattle.lines.specs.Lines.{is_byte, byte_at, tag_at, number_at, line_at, lines_at, reset_line_at, reset_at, latch_at, latches_at}
use Rattle.lines.specs.Sections.{count_at, others_at, counts_at, header_at, root_room_at, properties_at, sizes_at, roots_at}
use Rattle.sections.specs.Bytes.{line_bytes, count_bytes, reset_bytes, latch_bytes, after_tag, roots_bytes}
use Rattle.ordered.specs.declared.given.Fault.TheVariants.{TooBig, Misshapen, Over, Reset, Disordered, Short}
use Rattle.std.specs.Prelude.{Ok, Err}
use Rattle.ordered.specs.Check.{Words, fits, too_large, uneven, checked}
use Rattle.binary.specs.File.{File, gate_at, gates_at, sized_at, lists_at, body_at, read_file}
use Rattle.binary.specs.Write.{header_with, header_for, gate_bytes, gates_bytes, parts_of, file_of, file_in, unwritten, wrote, written_to, written_as, writing}
use Rattle.binary.proofs.Pins.{pair, room, file, small, small_file, rootless, rootless_file}

-- 1. Whole files.

-- no variable; the counts O B C F and the justice literals, roots and sizes
abbrev pub bare : List ℕ → List ℕ → List ℕ → File
bare counts roots sizes = file 0 [] [] [] counts roots sizes

abbrev pub none : List ℕ
none = 0 ∷ 0 ∷ 0 ∷ 0 ∷ 0 ∷ []

-- aig 0 0 0 0 0\n
abbrev empty : List ℕ
empty = (97 ∷ 105 ∷ 103 ∷ 32 ∷ 48 ∷ 32 ∷ 48 ∷ 32 ∷ 48 ∷ 32 ∷ 48 ∷ 32 ∷ 48 ∷ 10 ∷ [])

-- one input and one latch, 4, with the next state 2 and this reset; and its bytes: 0 is not written, 1 and the latch's own literal are
abbrev pub latched : ℕ → File
latched reset = file 1 (2 ∷ []) (reset ∷ []) [] none [] []

-- aig 2 1 1 0 0\n and the line
abbrev pub latched_bytes : List ℕ → List ℕ
latched_bytes line = (97 ∷ 105 ∷ 103 ∷ 32 ∷ 50 ∷ 32 ∷ 49 ∷ 32 ∷ 49 ∷ 32 ∷ 48 ∷ 32 ∷ 48 ∷ 10 ∷ line)

pub files_pinned :
    -- M is computed; each count of the row has its place
    (header_with 21 (24 ∷ 26 ∷ 27 ∷ 29 ∷ 30 ∷ []) 22 23 28
    ≡ record { top = 66; inputs = 21; latches = 22; outputs = 24; gates = 23; bad = 26; constraints = 27; justice = 28; fairness = 29 })
    -- a count that the row does not have is 0
    × (header_with 21 [] 22 23 28
    ≡ record { top = 66; inputs = 21; latches = 22; outputs = 0; gates = 23; bad = 0; constraints = 0; justice = 28; fairness = 0 })
    -- L, A and J are counted
    × (header_for small_file
    ≡ record { top = 6; inputs = 2; latches = 1; outputs = 2; gates = 3; bad = 1; constraints = 1; justice = 2; fairness = 1 })
    × (file_of small_file ≡ small)
    × (file_of rootless_file ≡ rootless)
    × (file_of (latched 0) ≡ latched_bytes (50 ∷ 10 ∷ []))
    × (file_of (latched 1) ≡ latched_bytes (50 ∷ 32 ∷ 49 ∷ 10 ∷ []))
    × (file_of (latched 4) ≡ latched_bytes (50 ∷ 32 ∷ 52 ∷ 10 ∷ []))
    × (file_of (bare none [] []) ≡ empty)
    -- one optional count, and so the ones before it: B, C, J with a set of size 0, F
    × (file_of (bare (0 ∷ 1 ∷ 0 ∷ 0 ∷ 0 ∷ []) (1 ∷ []) []) ≡ (97 ∷ 105 ∷ 103 ∷ 32 ∷ 48 ∷ 32 ∷ 48 ∷ 32 ∷ 48 ∷ 32 ∷ 48 ∷ 32 ∷ 48 ∷ 32 ∷ 49 ∷ 10 ∷ 49 ∷ 10 ∷ []))
    × (file_of (bare (0 ∷ 0 ∷ 1 ∷ 0 ∷ 0 ∷ []) (0 ∷ []) []) ≡ (97 ∷ 105 ∷ 103 ∷ 32 ∷ 48 ∷ 32 ∷ 48 ∷ 32 ∷ 48 ∷ 32 ∷ 48 ∷ 32 ∷ 48 ∷ 32 ∷ 48 ∷ 32 ∷ 49 ∷ 10 ∷
    48 ∷ 10 ∷ []))
    × (file_of (bare none [] (0 ∷ [])) ≡ (97 ∷ 105 ∷ 103 ∷ 32 ∷ 48 ∷ 32 ∷ 48 ∷ 32 ∷ 48 ∷ 32 ∷ 48 ∷ 32 ∷ 48 ∷ 32 ∷ 48 ∷ 32 ∷ 48 ∷ 32 ∷ 49 ∷ 10 ∷ 48 ∷ 10 ∷ []))
    × (file_of (bare (0 ∷ 0 ∷ 0 ∷ 1 ∷ 0 ∷ []) (1 ∷ []) []) ≡ (97 ∷ 105 ∷ 103 ∷ 32 ∷ 48 ∷ 32 ∷ 48 ∷ 32 ∷ 48 ∷ 32 ∷ 48 ∷ 32 ∷ 48 ∷ 32 ∷ 48 ∷ 32 ∷ 48 ∷ 32 ∷
    48 ∷ 32 ∷ 49 ∷ 10 ∷ 49 ∷ 10 ∷ []))
unfolding digits_of line_bytes count_bytes reset_bytes latch_bytes after_tag roots_bytes first_code shortest parts_of
files_pinned = (refl, refl, refl, refl, refl, refl, refl, refl, refl, refl, refl, refl, refl)

-- what is written is read, whatever follows
pub back_pinned :
    (read_file (small ++ (7 ∷ [])) (room 1 1 6 2 8) ≡ got small_file 55)
    × (read_file empty (room 0 0 0 0 0) ≡ got (bare none [] []) 14)
unfolding digits_of digits_at uint_at go_on_at binary_at delta_at header_field_at pair_at first_code is_byte byte_at tag_at number_at line_at lines_at reset_line_at reset_at latch_at
    latches_at count_at others_at counts_at header_at root_room_at properties_at sizes_at roots_at gate_at gates_at sized_at lists_at body_at read_file
back_pinned = (refl, refl)

-- 2. Gates: deltas of 127, 128, 16383 and 16384, first and second; and codes that step by two.

pub gates_pinned :
    (gate_bytes 130 (pair 3 3) ≡ (127 ∷ 0 ∷ []))
    × (gate_bytes 130 (pair 2 2) ≡ (128 ∷ 1 ∷ 0 ∷ []))
    × (gate_bytes 16386 (pair 3 3) ≡ (255 ∷ 127 ∷ 0 ∷ []))
    × (gate_bytes 16386 (pair 2 2) ≡ (128 ∷ 128 ∷ 1 ∷ 0 ∷ []))
    × (gate_bytes 20000 (pair 19999 19872) ≡ (1 ∷ 127 ∷ []))
    × (gate_bytes 20000 (pair 19999 19871) ≡ (1 ∷ 128 ∷ 1 ∷ []))
    × (gate_bytes 20000 (pair 19999 3616) ≡ (1 ∷ 255 ∷ 127 ∷ []))
    × (gate_bytes 20000 (pair 19999 3615) ≡ (1 ∷ 128 ∷ 128 ∷ 1 ∷ []))
    × (gates_bytes 8 (pair 6 2 ∷ pair 8 3 ∷ pair 10 9 ∷ []) ≡ (2 ∷ 4 ∷ 2 ∷ 5 ∷ 2 ∷ 1 ∷ []))
    × (gates_bytes 8 [] ≡ [])
unfolding shortest
gates_pinned = (refl, refl, refl, refl, refl, refl, refl, refl, refl, refl)

-- 3. Answers, and the lent bytes afterwards.

-- inputs, counts, next states, resets, gates, sizes, roots
abbrev pub words : ℕ → List ℕ → List ℕ → List ℕ → List ℕ → List ℕ → List ℕ → Words
words inputs counts nexts resets gates sizes roots =
    record { inputs = inputs; counts = counts; nexts = nexts; resets = resets; gates = gates; sizes = sizes; roots = roots }

-- the small file as it is lent
abbrev pub small_words : Words
small_words = words 2 (2 ∷ 1 ∷ 1 ∷ 1 ∷ 3 ∷ []) (8 ∷ []) (1 ∷ []) (6 ∷ 2 ∷ 8 ∷ 3 ∷ 10 ∷ 9 ∷ []) (2 ∷ 1 ∷ []) (12 ∷ 13 ∷ 9 ∷ 3 ∷ 7 ∷ 6 ∷ 11 ∷ 5 ∷ [])

pub answers_pinned :
    (file_in small_words ≡ small_file)
    -- onto the front of longer bytes, which are kept behind; just as many; one too few, and none: 3 names how many are needed
    × (written_to (7 ∷ 8 ∷ []) (1 ∷ 2 ∷ 3 ∷ []) ≡ wrote (Ok 2) (7 ∷ 8 ∷ 3 ∷ []))
    × (written_to (7 ∷ 8 ∷ []) (1 ∷ 2 ∷ []) ≡ wrote (Ok 2) (7 ∷ 8 ∷ []))
    × (written_to (7 ∷ 8 ∷ []) (1 ∷ []) ≡ wrote (unwritten Short 2) (1 ∷ []))
    × (written_to (7 ∷ 8 ∷ []) [] ≡ wrote (unwritten Short 2) [])
    × (written_as fits (7 ∷ 8 ∷ []) (1 ∷ 2 ∷ 3 ∷ []) ≡ wrote (Ok 2) (7 ∷ 8 ∷ 3 ∷ []))
    × (written_as (Err TooBig) (7 ∷ 8 ∷ []) (1 ∷ 2 ∷ 3 ∷ []) ≡ wrote (unwritten TooBig 0) (1 ∷ 2 ∷ 3 ∷ []))
answers_pinned = (refl, refl, refl, refl, refl, refl, refl)

pub writing_pinned :
    -- the small file, with three bytes behind it; one byte short; the empty circuit into just as many
    (writing small_words (replicate 55 99 ++ (1 ∷ 2 ∷ 3 ∷ [])) ≡ wrote (Ok 55) (small ++ (1 ∷ 2 ∷ 3 ∷ [])))
    × (writing small_words (replicate 54 99) ≡ wrote (unwritten Short 55) (replicate 54 99))
    × (writing (words 0 none [] [] [] [] []) (replicate 14 99) ≡ wrote (Ok 14) empty)
    × (writing (words 0 none [] [] [] [] []) [] ≡ wrote (unwritten Short 14) [])
    -- 22, by the latch's literal negated; 2 for a reset that is missing
    × (writing (words 1 none (2 ∷ []) (5 ∷ []) [] [] []) (7 ∷ 8 ∷ []) ≡ wrote (unwritten (Reset (literal 5)) 0) (7 ∷ 8 ∷ []))
    × (writing (words 1 none (2 ∷ []) [] [] [] []) (7 ∷ 8 ∷ []) ≡ wrote (unwritten Misshapen 0) (7 ∷ 8 ∷ []))
    -- 1; 2 for counts, for sizes and for a word that is left over; 4; 23, by the first input and by the second
    × (writing (words 1048576 none [] [] [] [] []) (7 ∷ 8 ∷ []) ≡ wrote (unwritten TooBig 0) (7 ∷ 8 ∷ []))
    × (writing (words 0 none [] [] [] [] (0 ∷ [])) (7 ∷ 8 ∷ []) ≡ wrote (unwritten Misshapen 0) (7 ∷ 8 ∷ []))
    × (writing (words 0 none [] [] [] (1 ∷ []) []) (7 ∷ 8 ∷ []) ≡ wrote (unwritten Misshapen 0) (7 ∷ 8 ∷ []))
    × (writing (words 1 none [] [] (2 ∷ []) [] []) (7 ∷ 8 ∷ []) ≡ wrote (unwritten Misshapen 0) (7 ∷ 8 ∷ []))
    × (writing (words 1 (1 ∷ 0 ∷ 0 ∷ 0 ∷ 0 ∷ []) [] [] [] [] (4 ∷ [])) (7 ∷ 8 ∷ []) ≡ wrote (unwritten (Over (literal 4)) 0) (7 ∷ 8 ∷ []))
    × (writing (words 1 none [] [] (4 ∷ 2 ∷ []) [] []) (7 ∷ 8 ∷ []) ≡ wrote (unwritten (Disordered (literal 4)) 0) (7 ∷ 8 ∷ []))
    × (writing (words 1 none [] [] (2 ∷ 3 ∷ []) [] []) (7 ∷ 8 ∷ []) ≡ wrote (unwritten (Disordered (literal 4)) 0) (7 ∷ 8 ∷ []))
unfolding digits_of line_bytes count_bytes reset_bytes latch_bytes after_tag roots_bytes first_code shortest parts_of checked too_large uneven writing
writing_pinned = (refl, refl, refl, refl, refl, refl, refl, refl, refl, refl, refl, refl, refl)
