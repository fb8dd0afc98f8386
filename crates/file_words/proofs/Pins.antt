-- Files read for C by example, worked out from document 02: the number, each word of the five lists, and the answer words. The lists are dirty, each with
-- numbers of its own, and longer than asked; the words past those asked for are seen to stay, and every word of a refused file's lists to be 0. By
-- computation. Assumes nothing.
use Prim.Native.Nat.{ℕ}
use mathlib.Core.Path.{◌≡◌, refl}
use mathlib.Core.List.{List, [], ◌∷◌}
use lib.ListN.{replicate}
use Rattle.token.specs.Format.{digits_of}
use Rattle.token.specs.Answer.{digits_at, uint_at, go_on_at, binary_at, delta_at, header_field_at, pair_at}
use Rattle.circuit.specs.Walk.{first_code}
use Rattle.lines.specs.Lines.{is_byte, byte_at, tag_at, number_at, line_at, lines_at, reset_line_at, reset_at, latch_at, latches_at}
use Rattle.lines.specs.Sections.{count_at, others_at, counts_at, header_at, root_room_at, properties_at, sizes_at, roots_at}
use Rattle.binary.specs.File.{gate_at, gates_at, sized_at, lists_at, body_at, read_file}
use Rattle.binary.specs.Promise.{Lists}
use Rattle.std.specs.Prelude.{Result, Ok}
use Rattle.lines.specs.declared.Broken.{Broken}
use Rattle.lines.specs.declared.Fault.TheVariants.{Above}
use Rattle.lines.specs.Promise.{broken}
use Rattle.binary.specs.declared.FileRead.{FileRead}
use Rattle.file_words.specs.Read.{Seen, top_of, answer_words, read_seen}

-- next states, resets, gates, sizes, roots
abbrev lists : List ℕ → List ℕ → List ℕ → List ℕ → List ℕ → Lists
lists nexts resets gates sizes roots = record { nexts = nexts; resets = resets; gates = gates; sizes = sizes; roots = roots }

-- what C sees: the number, next states, resets, gates, sizes, roots, answer words
abbrev sees : ℕ → List ℕ → List ℕ → List ℕ → List ℕ → List ℕ → List ℕ → Seen
sees number nexts resets gates sizes roots words =
    record { number = number; nexts = nexts; resets = resets; gates = gates; sizes = sizes; roots = roots; words = words }

-- two inputs, a latch, two gates, a root of each kind but two justice literals of one set:
-- aig 5 2 1 1 2 1 1 1 1, latch 8 with reset 1, output 10, bad 9, constraint 3, size 2, justice 6 and 11, fairness 7, then 8(6,2) and 10(8,3)
abbrev small : List ℕ
small =
    97 ∷ 105 ∷ 103 ∷ 32 ∷ 53 ∷ 32 ∷ 50 ∷ 32 ∷ 49 ∷ 32 ∷ 49 ∷ 32 ∷ 50 ∷ 32 ∷ 49 ∷ 32 ∷ 49 ∷ 32 ∷ 49 ∷ 32 ∷ 49 ∷ 10 ∷ 56 ∷ 32 ∷ 49 ∷ 10 ∷ 49 ∷ 48 ∷ 10 ∷
    57 ∷ 10 ∷ 51 ∷ 10 ∷ 50 ∷ 10 ∷ 54 ∷ 10 ∷ 49 ∷ 49 ∷ 10 ∷ 55 ∷ 10 ∷ 2 ∷ 4 ∷ 2 ∷ 5 ∷ []

-- lists that are longer than it asks
abbrev dirty : Lists
dirty =
    lists (21 ∷ 22 ∷ []) (71 ∷ 72 ∷ 73 ∷ []) (23 ∷ 24 ∷ 25 ∷ 26 ∷ 27 ∷ 28 ∷ []) (31 ∷ 32 ∷ []) (41 ∷ 42 ∷ 43 ∷ 44 ∷ 45 ∷ 46 ∷ 47 ∷ 48 ∷ [])

-- twelve answer words
abbrev pub words : List ℕ
words = 51 ∷ 52 ∷ 53 ∷ 54 ∷ 55 ∷ 56 ∷ 57 ∷ 58 ∷ 59 ∷ 60 ∷ 61 ∷ 62 ∷ []

-- a refusal in lists of n, t, g, z and r words: its number and its place, and nothing else but the twelfth answer word
abbrev cleared : ℕ → ℕ → ℕ → ℕ → ℕ → ℕ → ℕ → Seen
cleared n t g z r number place =
    sees number (replicate n 0) (replicate t 0) (replicate g 0) (replicate z 0) (replicate r 0) (place ∷ 0 ∷ 0 ∷ 0 ∷ 0 ∷ 0 ∷ 0 ∷ 0 ∷ 0 ∷ 0 ∷ 0 ∷ 62 ∷ [])

-- the same in the dirty ones
abbrev refused : ℕ → ℕ → Seen
refused number place = cleared 2 3 6 2 8 number place

-- ten answer words, and what is seen of the dirty lists where nothing is written
abbrev pub ten : List ℕ
ten = 51 ∷ 52 ∷ 53 ∷ 54 ∷ 55 ∷ 56 ∷ 57 ∷ 58 ∷ 59 ∷ 60 ∷ []

abbrev untouched : ℕ → List ℕ → Seen
untouched number left = sees number dirty.nexts dirty.resets dirty.gates dirty.sizes dirty.roots left

-- the numbers of a file that is taken, all of them different
abbrev pub numbers : Result FileRead Broken
numbers = Ok (record { used = 99; inputs = 2; latches = 30; gates = 400; counts = 5 ∷ 6 ∷ 7 ∷ 8 ∷ 9 ∷ []; sets = 10 })

-- which word is which; M of a binary file is the sum of three; a refusal has but its place
pub words_pinned :
    (answer_words 700 numbers ≡ 99 ∷ 700 ∷ 2 ∷ 30 ∷ 400 ∷ 5 ∷ 6 ∷ 7 ∷ 8 ∷ 9 ∷ 10 ∷ []) × (top_of numbers ≡ 432)
    × (answer_words 0 (broken Above 7) ≡ 7 ∷ replicate 10 0) × (top_of (broken Above 7) ≡ 0)
words_pinned = (refl, refl, refl, refl)

-- a file that is taken: all is there, its reset too, fairness before justice, and 46 bytes are used
pub taken_pinned :
    -- in lists that are longer, whose other words stay
    (read_seen small dirty words
    ≡ sees 0 (8 ∷ 22 ∷ []) (1 ∷ 72 ∷ 73 ∷ []) (6 ∷ 2 ∷ 8 ∷ 3 ∷ 27 ∷ 28 ∷ []) (2 ∷ 32 ∷ []) (10 ∷ 9 ∷ 3 ∷ 7 ∷ 6 ∷ 11 ∷ 47 ∷ 48 ∷ []) (46 ∷ 5 ∷ 2 ∷ 1 ∷ 2 ∷ 1 ∷ 1 ∷ 1 ∷ 1 ∷ 2 ∷
    1 ∷ 62 ∷ []))
    -- in lists that are just long enough
    × (read_seen small (lists (9 ∷ []) (9 ∷ []) (9 ∷ 9 ∷ 9 ∷ 9 ∷ []) (9 ∷ []) (9 ∷ 9 ∷ 9 ∷ 9 ∷ 9 ∷ 9 ∷ [])) (replicate 11 9)
    ≡ sees 0 (8 ∷ []) (1 ∷ []) (6 ∷ 2 ∷ 8 ∷ 3 ∷ []) (2 ∷ []) (10 ∷ 9 ∷ 3 ∷ 7 ∷ 6 ∷ 11 ∷ []) (46 ∷ 5 ∷ 2 ∷ 1 ∷ 2 ∷ 1 ∷ 1 ∷ 1 ∷ 1 ∷ 2 ∷ 1 ∷ []))
    -- the empty circuit, and a byte after it: the file ends before that byte
    × (read_seen (97 ∷ 105 ∷ 103 ∷ 32 ∷ 48 ∷ 32 ∷ 48 ∷ 32 ∷ 48 ∷ 32 ∷ 48 ∷ 32 ∷ 48 ∷ 10 ∷ 0 ∷ []) dirty words
    ≡ sees 0 dirty.nexts dirty.resets dirty.gates dirty.sizes dirty.roots (14 ∷ 0 ∷ 0 ∷ 0 ∷ 0 ∷ 0 ∷ 0 ∷ 0 ∷ 0 ∷ 0 ∷ 0 ∷ 62 ∷ []))
unfolding read_seen digits_of digits_at uint_at go_on_at binary_at delta_at header_field_at pair_at first_code is_byte byte_at tag_at number_at line_at lines_at reset_line_at
    reset_at latch_at latches_at count_at others_at counts_at header_at root_room_at properties_at sizes_at roots_at gate_at gates_at sized_at lists_at body_at read_file
taken_pinned = (refl, refl, refl)

-- each kind of refusal, with its place; every word of the lists is 0
pub refusals_pinned :
    -- no byte
    (read_seen [] dirty words ≡ refused 18 0)
    -- aig 5 without a second space
    × (read_seen (97 ∷ 105 ∷ 103 ∷ 32 ∷ 53 ∷ []) dirty words ≡ refused 18 5)
    -- aig, a space, no digit: the place is where the digit should be
    × (read_seen (97 ∷ 105 ∷ 103 ∷ 32 ∷ 120 ∷ []) dirty words ≡ refused 10 4)
    -- aig 05
    × (read_seen (97 ∷ 105 ∷ 103 ∷ 32 ∷ 48 ∷ 53 ∷ []) dirty words ≡ refused 11 4)
    -- aig 1048576
    × (read_seen (97 ∷ 105 ∷ 103 ∷ 32 ∷ 49 ∷ 48 ∷ 52 ∷ 56 ∷ 53 ∷ 55 ∷ 54 ∷ []) dirty words ≡ refused 12 4)
    -- aig 3 1 0 0 1: variable 3 is not defined
    × (read_seen (97 ∷ 105 ∷ 103 ∷ 32 ∷ 51 ∷ 32 ∷ 49 ∷ 32 ∷ 48 ∷ 32 ∷ 48 ∷ 32 ∷ 49 ∷ 10 ∷ []) dirty words ≡ refused 19 14)
    -- two justice sizes that sum to 1048576
    × (read_seen (97 ∷ 105 ∷ 103 ∷ 32 ∷ 48 ∷ 32 ∷ 48 ∷ 32 ∷ 48 ∷ 32 ∷ 48 ∷ 32 ∷ 48 ∷ 32 ∷ 48 ∷ 32 ∷ 48 ∷ 32 ∷ 50 ∷ 10 ∷ 49 ∷ 48 ∷ 52 ∷ 56 ∷ 53 ∷ 55 ∷ 53 ∷
    10 ∷ 49 ∷ 10 ∷ []) dirty words
    ≡ refused 1 30)
    -- a gate cut after its first delta
    × (read_seen (97 ∷ 105 ∷ 103 ∷ 32 ∷ 51 ∷ 32 ∷ 50 ∷ 32 ∷ 48 ∷ 32 ∷ 49 ∷ 32 ∷ 49 ∷ 10 ∷ 54 ∷ 10 ∷ 0 ∷ []) dirty words ≡ refused 15 17)
    -- a delta of nine bytes
    × (read_seen (97 ∷ 105 ∷ 103 ∷ 32 ∷ 51 ∷ 32 ∷ 50 ∷ 32 ∷ 48 ∷ 32 ∷ 49 ∷ 32 ∷ 49 ∷ 10 ∷ 54 ∷ 10 ∷ 128 ∷ 128 ∷ 128 ∷ 128 ∷ 128 ∷ 128 ∷ 128 ∷ 128 ∷ 0 ∷
    []) dirty words
    ≡ refused 16 16)
    -- a second delta above the first input
    × (read_seen (97 ∷ 105 ∷ 103 ∷ 32 ∷ 51 ∷ 32 ∷ 50 ∷ 32 ∷ 48 ∷ 32 ∷ 49 ∷ 32 ∷ 49 ∷ 10 ∷ 54 ∷ 10 ∷ 0 ∷ 7 ∷ []) dirty words ≡ refused 17 17)
    -- aig 2 1 1 0 0, a latch with the reset 5, its own literal negated; and with 3, where the file ends behind it
    × (read_seen (97 ∷ 105 ∷ 103 ∷ 32 ∷ 50 ∷ 32 ∷ 49 ∷ 32 ∷ 49 ∷ 32 ∷ 48 ∷ 32 ∷ 48 ∷ 10 ∷ 50 ∷ 32 ∷ 53 ∷ 10 ∷ []) dirty words ≡ refused 22 16)
    × (read_seen (97 ∷ 105 ∷ 103 ∷ 32 ∷ 50 ∷ 32 ∷ 49 ∷ 32 ∷ 49 ∷ 32 ∷ 48 ∷ 32 ∷ 48 ∷ 10 ∷ 50 ∷ 32 ∷ 51 ∷ []) dirty words ≡ refused 22 16)
    -- a carriage return for a newline
    × (read_seen (97 ∷ 105 ∷ 103 ∷ 32 ∷ 48 ∷ 32 ∷ 48 ∷ 32 ∷ 48 ∷ 32 ∷ 48 ∷ 32 ∷ 48 ∷ 13 ∷ 10 ∷ []) dirty words ≡ refused 18 13)
unfolding read_seen digits_of digits_at uint_at go_on_at binary_at delta_at header_field_at pair_at first_code is_byte byte_at tag_at number_at line_at lines_at reset_line_at
    reset_at latch_at latches_at count_at others_at counts_at header_at root_room_at properties_at sizes_at roots_at gate_at gates_at sized_at lists_at body_at read_file
refusals_pinned = (refl, refl, refl, refl, refl, refl, refl, refl, refl, refl, refl, refl, refl)

-- a list a word too short, and what comes before
pub rooms_pinned :
    -- no word for the next state
    (read_seen small (lists [] dirty.resets dirty.gates dirty.sizes dirty.roots) words ≡ cleared 0 3 6 2 8 3 22)
    -- no word for the reset
    × (read_seen small (lists dirty.nexts [] dirty.gates dirty.sizes dirty.roots) words ≡ cleared 2 0 6 2 8 3 22)
    -- three words for two gates
    × (read_seen small (lists dirty.nexts dirty.resets (23 ∷ 24 ∷ 25 ∷ []) dirty.sizes dirty.roots) words ≡ cleared 2 3 3 2 8 3 22)
    -- no word for the size
    × (read_seen small (lists dirty.nexts dirty.resets dirty.gates [] dirty.roots) words ≡ cleared 2 3 6 0 8 3 22)
    -- five words for six roots: told where the sizes end
    × (read_seen small (lists dirty.nexts dirty.resets dirty.gates dirty.sizes (41 ∷ 42 ∷ 43 ∷ 44 ∷ 45 ∷ [])) words ≡ cleared 2 3 6 2 5 3 35)
    -- 19 before 3
    × (read_seen (97 ∷ 105 ∷ 103 ∷ 32 ∷ 51 ∷ 32 ∷ 49 ∷ 32 ∷ 48 ∷ 32 ∷ 48 ∷ 32 ∷ 49 ∷ 10 ∷ []) (lists [] [] [] [] []) words ≡ cleared 0 0 0 0 0 19 14)
    -- 1 before 3
    × (read_seen (97 ∷ 105 ∷ 103 ∷ 32 ∷ 48 ∷ 32 ∷ 48 ∷ 32 ∷ 48 ∷ 32 ∷ 48 ∷ 32 ∷ 48 ∷ 32 ∷ 48 ∷ 32 ∷ 48 ∷ 32 ∷ 50 ∷ 10 ∷ 49 ∷ 48 ∷ 52 ∷ 56 ∷ 53 ∷ 55 ∷ 53 ∷
    10 ∷ 49 ∷ 10 ∷ []) (lists [] [] [] (31 ∷ 32 ∷ []) []) words
    ≡ cleared 0 0 0 2 0 1 30)
    -- ten answer words: nothing is read and nothing written, whatever the file
    × (read_seen small dirty ten ≡ untouched 3 ten)
    -- no byte
    × (read_seen [] dirty ten ≡ untouched 3 ten)
unfolding read_seen digits_of digits_at uint_at go_on_at binary_at delta_at header_field_at pair_at first_code is_byte byte_at tag_at number_at line_at lines_at reset_line_at
    reset_at latch_at latches_at count_at others_at counts_at header_at root_room_at properties_at sizes_at roots_at gate_at gates_at sized_at lists_at body_at read_file
rooms_pinned = (refl, refl, refl, refl, refl, refl, refl, refl, refl)
