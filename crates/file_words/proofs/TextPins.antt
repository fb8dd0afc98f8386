-- Texts read for C by example, worked out from document 02: the number, each word of the seven lists, and the answer words. The lists are dirty, each with
-- numbers of its own, and longer than asked; the words past those asked for are seen to stay, and every word of a refused text's lists to be 0. By
-- computation. Assumes nothing.
use Prim.Native.Nat.{ℕ}
use mathlib.Core.Path.{◌≡◌, refl}
use mathlib.Core.List.{List, [], ◌∷◌}
use lib.ListN.{replicate}
use Rattle.token.specs.Answer.{digits_at, uint_at, header_field_at, lit_at}
use Rattle.lines.specs.Lines.{is_byte, byte_at, tag_at, number_at, line_at, lines_at, reset_line_at, reset_at, latch_at}
use Rattle.lines.specs.Sections.{count_at, others_at, counts_at, header_at, root_room_at, properties_at, sizes_at, roots_at}
use Rattle.std.specs.Prelude.{Ok}
use Rattle.ascii_lines.specs.Lines.{defined_at, input_at, inputs_at, stated_at, latches_at, input_pair_at, gate_at, gates_at}
use Rattle.ascii.specs.Text.{sized_at, lists_at, body_at, read_text}
use Rattle.ascii.specs.Promise.{Lists, lists_of}
use Rattle.file_words.specs.Text.{TextSeen, file_read, read_text_seen}
use Rattle.file_words.proofs.Pins.{words, ten, numbers}

-- what C sees: the number, inputs, states, next states, resets, gates, sizes, roots, answer words
abbrev sees : ℕ → List ℕ → List ℕ → List ℕ → List ℕ → List ℕ → List ℕ → List ℕ → List ℕ → TextSeen
sees number inputs states nexts resets gates sizes roots words =
    record {
      number = number;
      inputs = inputs;
      states = states;
      nexts = nexts;
      resets = resets;
      gates = gates;
      sizes = sizes;
      roots = roots;
      words = words;
    }

-- an AND of two inputs, with M above what is defined: aag 7 2 0 1 1, inputs 2 and 4, output 6, gate 6 2 4
abbrev and_text : List ℕ
and_text =
    97 ∷ 97 ∷ 103 ∷ 32 ∷ 55 ∷ 32 ∷ 50 ∷ 32 ∷ 48 ∷ 32 ∷ 49 ∷ 32 ∷ 49 ∷ 10 ∷ 50 ∷ 10 ∷ 52 ∷ 10 ∷ 54 ∷ 10 ∷ 54 ∷ 32 ∷ 50 ∷ 32 ∷ 52 ∷ 10 ∷ []

-- aag 9 2 1 1 2 1 1 1 1, inputs 4 and 2, latch 8 with next state 10 and its own literal as reset, output 12, bad 9, constraint 3, size 2, justice 4 and 13,
-- fairness 11, then 12(10,5) before 10(8,3), which it uses
abbrev small : List ℕ
small =
    97 ∷ 97 ∷ 103 ∷ 32 ∷ 57 ∷ 32 ∷ 50 ∷ 32 ∷ 49 ∷ 32 ∷ 49 ∷ 32 ∷ 50 ∷ 32 ∷ 49 ∷ 32 ∷ 49 ∷ 32 ∷ 49 ∷ 32 ∷ 49 ∷ 10 ∷ 52 ∷ 10 ∷ 50 ∷ 10 ∷ 56 ∷ 32 ∷ 49 ∷ 48 ∷
    32 ∷ 56 ∷ 10 ∷ 49 ∷ 50 ∷ 10 ∷ 57 ∷ 10 ∷ 51 ∷ 10 ∷ 50 ∷ 10 ∷ 52 ∷ 10 ∷ 49 ∷ 51 ∷ 10 ∷ 49 ∷ 49 ∷ 10 ∷ 49 ∷ 50 ∷ 32 ∷ 49 ∷ 48 ∷ 32 ∷ 53 ∷ 10 ∷ 49 ∷ 48 ∷
    32 ∷ 56 ∷ 32 ∷ 51 ∷ 10 ∷ []

-- lists that are longer than they ask
abbrev dirty : Lists
dirty =
    lists_of (11 ∷ 12 ∷ 13 ∷ []) (14 ∷ 15 ∷ []) (21 ∷ 22 ∷ []) (71 ∷ 72 ∷ 73 ∷ []) (23 ∷ 24 ∷ 25 ∷ 26 ∷ 27 ∷ 28 ∷ 29 ∷ [])
    (31 ∷ 32 ∷ []) (41 ∷ 42 ∷ 43 ∷ 44 ∷ 45 ∷ 46 ∷ 47 ∷ 48 ∷ [])

-- lists of so many words each
abbrev nines : ℕ → ℕ → ℕ → ℕ → ℕ → ℕ → ℕ → Lists
nines i t n s g z r = lists_of (replicate i 9) (replicate t 9) (replicate n 9) (replicate s 9) (replicate g 9) (replicate z 9) (replicate r 9)

-- a refusal in such lists: its number and its place, and nothing else but the twelfth answer word
abbrev cleared : ℕ → ℕ → ℕ → ℕ → ℕ → ℕ → ℕ → ℕ → ℕ → TextSeen
cleared i t n s g z r number place =
    sees number (replicate i 0) (replicate t 0) (replicate n 0) (replicate s 0) (replicate g 0) (replicate z 0) (replicate r 0) (place ∷ 0 ∷ 0 ∷ 0 ∷ 0 ∷ 0 ∷
    0 ∷ 0 ∷ 0 ∷ 0 ∷ 0 ∷ 62 ∷ [])

-- the same in the dirty ones
abbrev refused : ℕ → ℕ → TextSeen
refused number place = cleared 3 2 2 3 7 2 8 number place

-- what is seen of the dirty lists where nothing is written
abbrev untouched : ℕ → List ℕ → TextSeen
untouched number left =
    sees number dirty.inputs dirty.states dirty.nexts dirty.resets dirty.gates dirty.sizes dirty.roots left

-- the numbers of a text that is taken but for M are those of a binary file
pub text_numbers_pinned :
    file_read (Ok (record { used = 99; top = 700; inputs = 2; latches = 30; gates = 400; counts = 5 ∷ 6 ∷ 7 ∷ 8 ∷ 9 ∷ []; sets = 10 })) ≡ numbers
text_numbers_pinned = refl

-- texts that are taken: M is the header's, gates are as they are written, fairness stands before justice
pub text_taken_pinned :
    -- the AND gate, in lists that are longer, whose other words stay
    (read_text_seen and_text dirty words
    ≡ sees 0 (2 ∷ 4 ∷ 13 ∷ []) dirty.states dirty.nexts dirty.resets (6 ∷ 2 ∷ 4 ∷ 26 ∷ 27 ∷ 28 ∷ 29 ∷ []) dirty.sizes
    (6 ∷ 42 ∷ 43 ∷ 44 ∷ 45 ∷ 46 ∷ 47 ∷ 48 ∷ []) (26 ∷ 7 ∷ 2 ∷ 0 ∷ 1 ∷ 1 ∷ 0 ∷ 0 ∷ 0 ∷ 0 ∷ 0 ∷ 62 ∷ []))
    -- each list in use
    × (read_text_seen small dirty words
    ≡ sees 0 (4 ∷ 2 ∷ 13 ∷ []) (8 ∷ 15 ∷ []) (10 ∷ 22 ∷ []) (8 ∷ 72 ∷ 73 ∷ []) (12 ∷ 10 ∷ 5 ∷ 10 ∷ 8 ∷ 3 ∷ 29 ∷ []) (2 ∷ 32 ∷ [])
    (12 ∷ 9 ∷ 3 ∷ 11 ∷ 4 ∷ 13 ∷ 47 ∷ 48 ∷ []) (65 ∷ 9 ∷ 2 ∷ 1 ∷ 2 ∷ 1 ∷ 1 ∷ 1 ∷ 1 ∷ 2 ∷ 1 ∷ 62 ∷ []))
    -- in lists that are just long enough
    × (read_text_seen small (nines 2 1 1 1 6 1 6) (replicate 11 9)
    ≡ sees 0 (4 ∷ 2 ∷ []) (8 ∷ []) (10 ∷ []) (8 ∷ []) (12 ∷ 10 ∷ 5 ∷ 10 ∷ 8 ∷ 3 ∷ []) (2 ∷ []) (12 ∷ 9 ∷ 3 ∷ 11 ∷ 4 ∷ 13 ∷ [])
    (65 ∷ 9 ∷ 2 ∷ 1 ∷ 2 ∷ 1 ∷ 1 ∷ 1 ∷ 1 ∷ 2 ∷ 1 ∷ []))
    -- the empty circuit, and a byte after it: the text ends before that byte
    × (read_text_seen (97 ∷ 97 ∷ 103 ∷ 32 ∷ 48 ∷ 32 ∷ 48 ∷ 32 ∷ 48 ∷ 32 ∷ 48 ∷ 32 ∷ 48 ∷ 10 ∷ 0 ∷ []) dirty words
    ≡ untouched 0 (14 ∷ 0 ∷ 0 ∷ 0 ∷ 0 ∷ 0 ∷ 0 ∷ 0 ∷ 0 ∷ 0 ∷ 0 ∷ 62 ∷ []))
unfolding read_text_seen digits_at uint_at header_field_at lit_at is_byte byte_at tag_at number_at line_at lines_at reset_line_at reset_at latch_at count_at others_at counts_at
    header_at root_room_at properties_at sizes_at roots_at defined_at input_at inputs_at stated_at latches_at input_pair_at gate_at gates_at sized_at lists_at body_at read_text
text_taken_pinned = (refl, refl, refl, refl)

-- each kind of refusal, with its place; every word of the lists is 0
pub text_refusals_pinned :
    -- no byte
    (read_text_seen [] dirty words ≡ refused 18 0)
    -- the binary form's tag
    × (read_text_seen (97 ∷ 105 ∷ 103 ∷ 32 ∷ 48 ∷ 32 ∷ 48 ∷ 32 ∷ 48 ∷ 32 ∷ 48 ∷ 32 ∷ 48 ∷ 10 ∷ []) dirty words ≡ refused 18 0)
    -- aag, a space, no digit
    × (read_text_seen (97 ∷ 97 ∷ 103 ∷ 32 ∷ 120 ∷ []) dirty words ≡ refused 10 4)
    -- aag 05
    × (read_text_seen (97 ∷ 97 ∷ 103 ∷ 32 ∷ 48 ∷ 53 ∷ []) dirty words ≡ refused 11 4)
    -- aag 1048576
    × (read_text_seen (97 ∷ 97 ∷ 103 ∷ 32 ∷ 49 ∷ 48 ∷ 52 ∷ 56 ∷ 53 ∷ 55 ∷ 54 ∷ []) dirty words ≡ refused 12 4)
    -- aag 18446744073709551616: over 64 bits
    × (read_text_seen (97 ∷ 97 ∷ 103 ∷ 32 ∷ 49 ∷ 56 ∷ 52 ∷ 52 ∷ 54 ∷ 55 ∷ 52 ∷ 52 ∷ 48 ∷ 55 ∷ 51 ∷ 55 ∷ 48 ∷ 57 ∷ 53 ∷ 53 ∷ 49 ∷ 54 ∷ 49 ∷ 54 ∷ []) dirty words
    ≡ refused 21 4)
    -- an input 0; an odd input; one over 2M + 1
    × (read_text_seen (97 ∷ 97 ∷ 103 ∷ 32 ∷ 49 ∷ 32 ∷ 49 ∷ 32 ∷ 48 ∷ 32 ∷ 48 ∷ 32 ∷ 48 ∷ 10 ∷ 48 ∷ 10 ∷ []) dirty words ≡ refused 13 14)
    × (read_text_seen (97 ∷ 97 ∷ 103 ∷ 32 ∷ 49 ∷ 32 ∷ 49 ∷ 32 ∷ 48 ∷ 32 ∷ 48 ∷ 32 ∷ 48 ∷ 10 ∷ 51 ∷ 10 ∷ []) dirty words ≡ refused 14 14)
    × (read_text_seen (97 ∷ 97 ∷ 103 ∷ 32 ∷ 49 ∷ 32 ∷ 49 ∷ 32 ∷ 48 ∷ 32 ∷ 48 ∷ 32 ∷ 48 ∷ 10 ∷ 52 ∷ 10 ∷ []) dirty words ≡ refused 12 14)
    -- a latch 5; a latch 4 with the reset 5, its own literal negated
    × (read_text_seen (97 ∷ 97 ∷ 103 ∷ 32 ∷ 50 ∷ 32 ∷ 49 ∷ 32 ∷ 49 ∷ 32 ∷ 48 ∷ 32 ∷ 48 ∷ 10 ∷ 50 ∷ 10 ∷ 53 ∷ 32 ∷ 50 ∷ 10 ∷ []) dirty words ≡ refused 14 16)
    × (read_text_seen (97 ∷ 97 ∷ 103 ∷ 32 ∷ 50 ∷ 32 ∷ 49 ∷ 32 ∷ 49 ∷ 32 ∷ 48 ∷ 32 ∷ 48 ∷ 10 ∷ 50 ∷ 10 ∷ 52 ∷ 32 ∷ 50 ∷ 32 ∷ 53 ∷ 10 ∷ []) dirty words
    ≡ refused 22 20)
    -- a gate that defines 0; one whose second input is missing
    × (read_text_seen (97 ∷ 97 ∷ 103 ∷ 32 ∷ 51 ∷ 32 ∷ 50 ∷ 32 ∷ 48 ∷ 32 ∷ 48 ∷ 32 ∷ 49 ∷ 10 ∷ 50 ∷ 10 ∷ 52 ∷ 10 ∷ 48 ∷ 32 ∷ 50 ∷ 32 ∷ 52 ∷ 10 ∷ []) dirty words
    ≡ refused 13 18)
    × (read_text_seen (97 ∷ 97 ∷ 103 ∷ 32 ∷ 51 ∷ 32 ∷ 50 ∷ 32 ∷ 48 ∷ 32 ∷ 48 ∷ 32 ∷ 49 ∷ 10 ∷ 50 ∷ 10 ∷ 52 ∷ 10 ∷ 54 ∷ 32 ∷ 50 ∷ 10 ∷ []) dirty words
    ≡ refused 18 21)
    -- two justice sizes that sum to 1048576
    × (read_text_seen (97 ∷ 97 ∷ 103 ∷ 32 ∷ 48 ∷ 32 ∷ 48 ∷ 32 ∷ 48 ∷ 32 ∷ 48 ∷ 32 ∷ 48 ∷ 32 ∷ 48 ∷ 32 ∷ 48 ∷ 32 ∷ 50 ∷ 10 ∷ 49 ∷ 48 ∷ 52 ∷ 56 ∷ 53 ∷ 55 ∷ 53 ∷
    10 ∷ 49 ∷ 10 ∷ []) dirty words ≡ refused 1 30)
    -- a carriage return for a newline
    × (read_text_seen (97 ∷ 97 ∷ 103 ∷ 32 ∷ 48 ∷ 32 ∷ 48 ∷ 32 ∷ 48 ∷ 32 ∷ 48 ∷ 32 ∷ 48 ∷ 13 ∷ 10 ∷ []) dirty words ≡ refused 18 13)
unfolding read_text_seen digits_at uint_at header_field_at lit_at is_byte byte_at tag_at number_at line_at lines_at reset_line_at reset_at latch_at count_at others_at counts_at
    header_at root_room_at properties_at sizes_at roots_at defined_at input_at inputs_at stated_at latches_at input_pair_at gate_at gates_at sized_at lists_at body_at read_text
text_refusals_pinned = (refl, refl, refl, refl, refl, refl, refl, refl, refl, refl, refl, refl, refl, refl, refl)

-- a list a word too short, each in turn: told where the header ends, of the roots where the sizes end; and too few answer words
pub text_rooms_pinned :
    (read_text_seen small (nines 1 2 2 3 7 2 8) words ≡ cleared 1 2 2 3 7 2 8 3 22)
    × (read_text_seen small (nines 3 0 2 3 7 2 8) words ≡ cleared 3 0 2 3 7 2 8 3 22)
    × (read_text_seen small (nines 3 2 0 3 7 2 8) words ≡ cleared 3 2 0 3 7 2 8 3 22)
    × (read_text_seen small (nines 3 2 2 0 7 2 8) words ≡ cleared 3 2 2 0 7 2 8 3 22)
    × (read_text_seen small (nines 3 2 2 3 5 2 8) words ≡ cleared 3 2 2 3 5 2 8 3 22)
    × (read_text_seen small (nines 3 2 2 3 7 0 8) words ≡ cleared 3 2 2 3 7 0 8 3 22)
    × (read_text_seen small (nines 3 2 2 3 7 2 5) words ≡ cleared 3 2 2 3 7 2 5 3 42)
    -- ten answer words: nothing is read and nothing written, whatever the text
    × (read_text_seen small dirty ten ≡ untouched 3 ten)
    × (read_text_seen [] dirty ten ≡ untouched 3 ten)
unfolding read_text_seen digits_at uint_at header_field_at lit_at is_byte byte_at tag_at number_at line_at lines_at reset_line_at reset_at latch_at count_at others_at counts_at
    header_at root_room_at properties_at sizes_at roots_at defined_at input_at inputs_at stated_at latches_at input_pair_at gate_at gates_at sized_at lists_at body_at read_text
text_rooms_pinned = (refl, refl, refl, refl, refl, refl, refl, refl, refl)
