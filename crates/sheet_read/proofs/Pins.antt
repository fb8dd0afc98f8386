-- Readings by example: numbers in a row, headers, and whole sheets, each the smallest on which a neighbouring definition answers otherwise. By
-- computation; the sheets at the limit of 60,000 bytes by their length. Assumes nothing.
use Prim.Native.Nat.{ℕ}
use mathlib.Core.Path.{◌≡◌, refl}
use Rattle.std.specs.Prelude.{⊤, Result, Ok, Err}
use mathlib.Core.List.{List, [], ◌∷◌, ◌++◌}
use native.Mathlib.Omega.{arith}
use lib.ListN.{length, replicate}
use Rattle.token.specs.declared.Reason.TheVariants.{Cut, TooLong}
use Rattle.token.specs.Answer.{refused, binary_at, go_on_at}
use Rattle.token.specs.declared.Refused.{Refused}
use Rattle.sheet_read.specs.declared.Faulty.{Faulty}
use Rattle.sheet_read.specs.Sheet.{Run, numbers_at, top_of, input_count, latch_count, gate_count, root_counts, root_count, flags_of, too_large, code_count, announced, whole, faulty, faulty_number, Read, lists_read, sheet_read, read_of}
use Rattle.sheet_read.specs.Promise.{Fills, Reads, ReadsCodes, Small, Taken}

-- numbers that were read, and how they ended; a sheet that was read
abbrev run : List ℕ → Result ℕ Refused → Run
run numbers ended = record { numbers = numbers; ended = ended }

abbrev read : Result ⊤ Faulty → List ℕ → List ℕ → Read
read reading header codes = record { reading = reading; header = header; codes = codes }

-- 1. Numbers in a row.

-- 5, 129, 0, 32,768, and a byte that goes on and is the last
abbrev row : List ℕ
row = 0x05 ∷ 0x81 ∷ 0x01 ∷ 0x00 ∷ 0x80 ∷ 0x80 ∷ 0x02 ∷ 0xff ∷ []

pub numbers_pinned :
    -- two from the first byte on, three from the second on; none at all, from a byte that goes on, and from past the end
    (numbers_at row 0 2 ≡ run (5 ∷ 129 ∷ []) (Ok 3))
    × (numbers_at row 1 3 ≡ run (129 ∷ 0 ∷ 32768 ∷ []) (Ok 7))
    × (numbers_at row 7 0 ≡ run [] (Ok 7))
    × (numbers_at row 9 0 ≡ run [] (Ok 9))
    -- five: the fifth is cut, at its own place, and the four before it are read; past the end every number is cut where it is asked for
    × (numbers_at row 0 5 ≡ run (5 ∷ 129 ∷ 0 ∷ 32768 ∷ []) (refused Cut 7))
    × (numbers_at row 9 2 ≡ run [] (refused Cut 9))
    -- after two numbers eight bytes that go on, whatever follows them; seven, and the eighth ends the number 2 ^ 49
    × (numbers_at (0x05 ∷ 0x06 ∷ (replicate 8 0x80 ++ (0x01 ∷ []))) 0 3 ≡ run (5 ∷ 6 ∷ []) (refused TooLong 2))
    × (numbers_at (0x05 ∷ 0x06 ∷ (replicate 7 0x80 ++ (0x01 ∷ []))) 0 3 ≡ run (5 ∷ 6 ∷ 562949953421312 ∷ []) (Ok 10))
unfolding numbers_at binary_at go_on_at
numbers_pinned = (refl, refl, refl, refl, refl, refl, refl, refl)

-- 2. The header's ten numbers.

-- V, I, L, G, the five root counts, flags: ten different numbers
abbrev ten : List ℕ
ten = 11 ∷ 3 ∷ 2 ∷ 5 ∷ 7 ∷ 13 ∷ 17 ∷ 19 ∷ 23 ∷ 6 ∷ []

-- which is which; the codes are 3 inputs, 3 of each of 5 gates, 2 of each of 2 latches, and 79 roots; and numbers that are not there are 0
pub header_pinned :
    (top_of ten ≡ 11) × (input_count ten ≡ 3) × (latch_count ten ≡ 2) × (gate_count ten ≡ 5)
    × (root_counts ten ≡ 7 ∷ 13 ∷ 17 ∷ 19 ∷ 23 ∷ []) × (root_count ten ≡ 79) × (flags_of ten ≡ 6) × (code_count ten ≡ 101)
    × (top_of [] ≡ 0) × (input_count [] ≡ 0) × (latch_count [] ≡ 0) × (gate_count [] ≡ 0) × (flags_of [] ≡ 0)
unfolding root_count code_count
header_pinned = (refl, refl, refl, refl, refl, refl, refl, refl, refl, refl, refl, refl, refl)

-- what a list of any numbers announces: nothing where there are nine of them, or eleven, or V or R is 1,024; the flags are not looked at
pub announced_pinned :
    (announced ten ≡ 101)
    × (announced (11 ∷ 3 ∷ 2 ∷ 5 ∷ 7 ∷ 13 ∷ 17 ∷ 19 ∷ 23 ∷ []) ≡ 0)
    × (announced (11 ∷ 3 ∷ 2 ∷ 5 ∷ 7 ∷ 13 ∷ 17 ∷ 19 ∷ 23 ∷ 6 ∷ 4 ∷ []) ≡ 0)
    × (announced (1024 ∷ 3 ∷ 2 ∷ 5 ∷ 7 ∷ 13 ∷ 17 ∷ 19 ∷ 23 ∷ 6 ∷ []) ≡ 0)
    × (announced (11 ∷ 3 ∷ 2 ∷ 5 ∷ 200 ∷ 201 ∷ 202 ∷ 203 ∷ 218 ∷ 6 ∷ []) ≡ 0)
    × (announced (1023 ∷ 1023 ∷ 1023 ∷ 1023 ∷ 200 ∷ 201 ∷ 202 ∷ 203 ∷ 217 ∷ 4000 ∷ []) ≡ 7161)
unfolding announced too_large root_count code_count
announced_pinned = (refl, refl, refl, refl, refl, refl)

-- 3. Whole sheets.

-- V = 11, inputs 4, 2, 7, gates 20(2,4), 13(4,2), 16(20,1), 18(10,9), 22(18,13), latches (10,19), (8,20), an output, two constraints, a justice literal;
-- the flags, and then what stands after the root 12
abbrev sheet : ℕ → List ℕ → List ℕ
sheet flags rest =
    0x0b ∷ 0x03 ∷ 0x02 ∷ 0x05 ∷ 0x01 ∷ 0x00 ∷ 0x02 ∷ 0x00 ∷ 0x01 ∷ flags
    ∷ 0x04 ∷ 0x02 ∷ 0x07 ∷ 0x14 ∷ 0x02 ∷ 0x04 ∷ 0x0d ∷ 0x04 ∷ 0x02 ∷ 0x10 ∷ 0x14 ∷ 0x01 ∷ 0x12 ∷ 0x0a ∷ 0x09 ∷ 0x16 ∷ 0x12 ∷ 0x0d
    ∷ 0x0a ∷ 0x13 ∷ 0x08 ∷ 0x14 ∷ 0x10 ∷ 0x0c ∷ rest

-- its ten numbers; its codes up to the root 12, and those after it
abbrev header : ℕ → List ℕ
header flags = 11 ∷ 3 ∷ 2 ∷ 5 ∷ 1 ∷ 0 ∷ 2 ∷ 0 ∷ 1 ∷ flags ∷ []

abbrev codes : List ℕ → List ℕ
codes rest =
    4 ∷ 2 ∷ 7 ∷ 20 ∷ 2 ∷ 4 ∷ 13 ∷ 4 ∷ 2 ∷ 16 ∷ 20 ∷ 1 ∷ 18 ∷ 10 ∷ 9 ∷ 22 ∷ 18 ∷ 13 ∷ 10 ∷ 19 ∷ 8 ∷ 20 ∷ 16 ∷ 12 ∷ rest

pub readings_pinned :
    -- roots 18 and 3 after the 12: the sheet is whole; also where the 18 takes three bytes; and with flags 7
    (read_of (sheet 5 (0x12 ∷ 0x03 ∷ [])) ≡ read whole (header 5) (codes (18 ∷ 3 ∷ [])))
    × (read_of (sheet 5 (0x92 ∷ 0x80 ∷ 0x00 ∷ 0x03 ∷ [])) ≡ read whole (header 5) (codes (18 ∷ 3 ∷ [])))
    × (read_of (sheet 7 (0x12 ∷ 0x03 ∷ [])) ≡ read whole (header 7) (codes (18 ∷ 3 ∷ [])))
    -- flags 8 are 2, and no code is read, also where one is cut
    × (read_of (sheet 8 (0x12 ∷ 0x03 ∷ [])) ≡ read (faulty 2 0) (header 8) [])
    × (read_of (sheet 8 (0x12 ∷ 0x80 ∷ [])) ≡ read (faulty 2 0) (header 8) [])
    -- the flags are the tenth number, whichever byte they are: flags 8 in the eleventh byte; and a tenth byte 8, which counts justice literals that are missed
    × (read_of (0x8b ∷ 0x00 ∷ (replicate 8 0x00 ++ (0x08 ∷ []))) ≡ read (faulty 2 0) (11 ∷ (replicate 8 0 ++ (8 ∷ []))) [])
    × (read_of (0x8b ∷ 0x00 ∷ (replicate 7 0x00 ++ (0x08 ∷ 0x00 ∷ []))) ≡ read (faulty 15 11) (11 ∷ (replicate 7 0 ++ (8 ∷ 0 ∷ []))) [])
    -- one byte left, and two
    × (read_of (sheet 5 (0x12 ∷ 0x03 ∷ 0x00 ∷ [])) ≡ read (faulty 2 0) (header 5) (codes (18 ∷ 3 ∷ [])))
    × (read_of (sheet 5 (0x12 ∷ 0x03 ∷ 0x00 ∷ 0x80 ∷ [])) ≡ read (faulty 2 0) (header 5) (codes (18 ∷ 3 ∷ [])))
    -- the last root cut, or not there: 15 at its place; too long: 16; the codes before it are read
    × (read_of (sheet 5 (0x12 ∷ 0x83 ∷ [])) ≡ read (faulty 15 35) (header 5) (codes (18 ∷ [])))
    × (read_of (sheet 5 (0x12 ∷ [])) ≡ read (faulty 15 35) (header 5) (codes (18 ∷ [])))
    × (read_of (sheet 5 (replicate 8 0x92 ++ (0x03 ∷ []))) ≡ read (faulty 16 34) (header 5) (codes []))
    -- the header broken in the middle: no byte at all, nine numbers, the fourth cut, the third too long; the numbers before it are read
    × (read_of [] ≡ read (faulty 15 0) [] [])
    × (read_of (0x0b ∷ 0x03 ∷ 0x02 ∷ 0x05 ∷ 0x01 ∷ 0x00 ∷ 0x02 ∷ 0x00 ∷ 0x01 ∷ []) ≡ read (faulty 15 9) (11 ∷ 3 ∷ 2 ∷ 5 ∷ 1 ∷ 0 ∷ 2 ∷ 0 ∷ 1 ∷ []) [])
    × (read_of (0x8b ∷ 0x00 ∷ 0x03 ∷ 0x02 ∷ 0x85 ∷ []) ≡ read (faulty 15 4) (11 ∷ 3 ∷ 2 ∷ []) [])
    × (read_of (0x0b ∷ 0x03 ∷ (replicate 9 0xff ++ replicate 9 0x00)) ≡ read (faulty 16 2) (11 ∷ 3 ∷ []) [])
unfolding read_of sheet_read lists_read numbers_at binary_at go_on_at too_large root_count code_count
readings_pinned = (refl, refl, refl, refl, refl, refl, refl, refl, refl, refl, refl, refl, refl, refl, refl, refl)

-- a header of zeros, but for one number of two bytes at the place of V (0) to justice literals (8); no codes
abbrev alone : ℕ → ℕ → ℕ → ℕ → List ℕ
alone before low high after = replicate before 0x00 ++ (low ∷ high ∷ replicate after 0x00)

abbrev alone_read : ℕ → ℕ → ℕ → List ℕ
alone_read before number after = replicate before 0 ++ (number ∷ replicate after 0)

-- each of the nine alone at 1,023 passes: for V the sheet is whole, and for the others the first of their codes is missed, at place 11. At 1,024 each is 1
pub sizes_pinned :
    (read_of (alone 0 0xff 0x07 9) ≡ read whole (alone_read 0 1023 9) [])
    × (read_of (alone 1 0xff 0x07 8) ≡ read (faulty 15 11) (alone_read 1 1023 8) [])
    × (read_of (alone 2 0xff 0x07 7) ≡ read (faulty 15 11) (alone_read 2 1023 7) [])
    × (read_of (alone 3 0xff 0x07 6) ≡ read (faulty 15 11) (alone_read 3 1023 6) [])
    × (read_of (alone 4 0xff 0x07 5) ≡ read (faulty 15 11) (alone_read 4 1023 5) [])
    × (read_of (alone 5 0xff 0x07 4) ≡ read (faulty 15 11) (alone_read 5 1023 4) [])
    × (read_of (alone 6 0xff 0x07 3) ≡ read (faulty 15 11) (alone_read 6 1023 3) [])
    × (read_of (alone 7 0xff 0x07 2) ≡ read (faulty 15 11) (alone_read 7 1023 2) [])
    × (read_of (alone 8 0xff 0x07 1) ≡ read (faulty 15 11) (alone_read 8 1023 1) [])
    × (read_of (alone 0 0x80 0x08 9) ≡ read (faulty 1 0) (alone_read 0 1024 9) [])
    × (read_of (alone 1 0x80 0x08 8) ≡ read (faulty 1 0) (alone_read 1 1024 8) [])
    × (read_of (alone 2 0x80 0x08 7) ≡ read (faulty 1 0) (alone_read 2 1024 7) [])
    × (read_of (alone 3 0x80 0x08 6) ≡ read (faulty 1 0) (alone_read 3 1024 6) [])
    × (read_of (alone 4 0x80 0x08 5) ≡ read (faulty 1 0) (alone_read 4 1024 5) [])
    × (read_of (alone 5 0x80 0x08 4) ≡ read (faulty 1 0) (alone_read 5 1024 4) [])
    × (read_of (alone 6 0x80 0x08 3) ≡ read (faulty 1 0) (alone_read 6 1024 3) [])
    × (read_of (alone 7 0x80 0x08 2) ≡ read (faulty 1 0) (alone_read 7 1024 2) [])
    × (read_of (alone 8 0x80 0x08 1) ≡ read (faulty 1 0) (alone_read 8 1024 1) [])
    -- flags 1,024 are no size: 2; with V = 1,024 beside them it is 1
    × (read_of (alone 9 0x80 0x08 0) ≡ read (faulty 2 0) (alone_read 9 1024 0) [])
    × (read_of (alone 0 0x80 0x08 8 ++ (0x08 ∷ [])) ≡ read (faulty 1 0) (alone_read 0 1024 8 ++ (8 ∷ [])) [])
    -- R of all five kinds: 200 + 201 + 202 + 203 + 217 is 1,023, and one more is 1
    × (read_of (replicate 4 0x00 ++ (0xc8 ∷ 0x01 ∷ 0xc9 ∷ 0x01 ∷ 0xca ∷ 0x01 ∷ 0xcb ∷ 0x01 ∷ 0xd9 ∷ 0x01 ∷ 0x00 ∷ []))
    ≡ read (faulty 15 15) (replicate 4 0 ++ (200 ∷ 201 ∷ 202 ∷ 203 ∷ 217 ∷ 0 ∷ [])) [])
    × (read_of (replicate 4 0x00 ++ (0xc8 ∷ 0x01 ∷ 0xc9 ∷ 0x01 ∷ 0xca ∷ 0x01 ∷ 0xcb ∷ 0x01 ∷ 0xda ∷ 0x01 ∷ 0x00 ∷ []))
    ≡ read (faulty 1 0) (replicate 4 0 ++ (200 ∷ 201 ∷ 202 ∷ 203 ∷ 218 ∷ 0 ∷ [])) [])
unfolding read_of sheet_read lists_read numbers_at binary_at go_on_at too_large root_count code_count
sizes_pinned = (refl, refl, refl, refl, refl, refl, refl, refl, refl, refl, refl, refl, refl, refl, refl, refl, refl, refl, refl, refl, refl, refl)

-- twenty zeros and whatever follows them: of 60,000 bytes ten are read and the others are left; 60,001 are 1, and nothing is read
pub longest_pinned : (rest over : List ℕ) → length rest ≡ 59980 → length over ≡ 59981
    → (read_of (replicate 20 0x00 ++ rest) ≡ read (faulty 2 0) (replicate 10 0) []) × (read_of (replicate 20 0x00 ++ over) ≡ read (faulty 1 0) [] [])
unfolding read_of sheet_read lists_read numbers_at binary_at go_on_at too_large root_count code_count
longest_pinned rest over r o = (rw r, rw o)

-- 4. The words of the contracts: the answer is that of the definition, and what was read stands at the front of the lists, whose other cells stay.

pub words_pinned :
    (r : Result ℕ Refused) (s : Result ⊤ Faulty) (list header codes : List ℕ)
    → (◌≡◌ {A = Type 0} (Fills (run (1 ∷ 2 ∷ []) (Ok 5)) r (7 ∷ 8 ∷ 9 ∷ []) list) ((r ≡ Ok 5) × (list ≡ 1 ∷ 2 ∷ 9 ∷ [])))
    × (◌≡◌ {A = Type 0} (Reads (read whole (1 ∷ 2 ∷ []) (3 ∷ [])) s (7 ∷ 8 ∷ 9 ∷ []) header (4 ∷ 5 ∷ []) codes)
    ((s ≡ whole) × (header ≡ 1 ∷ 2 ∷ 9 ∷ []) × (codes ≡ 3 ∷ 5 ∷ [])))
    × (◌≡◌ {A = Type 0} (ReadsCodes (read whole (1 ∷ 2 ∷ []) (3 ∷ [])) s (4 ∷ 5 ∷ []) codes) ((s ≡ whole) × (codes ≡ 3 ∷ 5 ∷ [])))
    × (◌≡◌ {A = Result ⊤ Faulty} (Err (faulty_number (record { why = TooLong; place = 7 }))) (faulty 16 7))
words_pinned r s list header codes = (refl, refl, refl, refl)

-- headers that pass the first nine sizes, and those that are taken: ten numbers; nine and eleven are not. With flags over their limit and R over its own the
-- nine pass, and the header is not taken; the eighth root count is one of the nine
pub headers_pinned :
    Small (1023 ∷ 0 ∷ 0 ∷ 0 ∷ 1023 ∷ 0 ∷ 0 ∷ 0 ∷ 1 ∷ 1024 ∷ [])
    × (Small (1023 ∷ 0 ∷ 0 ∷ 0 ∷ 1023 ∷ 0 ∷ 0 ∷ 0 ∷ 1 ∷ []) → ⊥)
    × (Small (1023 ∷ 0 ∷ 0 ∷ 0 ∷ 1023 ∷ 0 ∷ 0 ∷ 0 ∷ 1 ∷ 0 ∷ 0 ∷ []) → ⊥)
    × (Small (1024 ∷ 0 ∷ 0 ∷ 0 ∷ 0 ∷ 0 ∷ 0 ∷ 0 ∷ 0 ∷ 0 ∷ []) → ⊥)
    × (Small (0 ∷ 0 ∷ 0 ∷ 0 ∷ 0 ∷ 0 ∷ 0 ∷ 0 ∷ 1024 ∷ 0 ∷ []) → ⊥)
    × Taken (1023 ∷ 0 ∷ 0 ∷ 0 ∷ 1022 ∷ 0 ∷ 0 ∷ 0 ∷ 1 ∷ 1024 ∷ [])
    × (Taken (1023 ∷ 0 ∷ 0 ∷ 0 ∷ 1022 ∷ 0 ∷ 0 ∷ 0 ∷ 1 ∷ []) → ⊥)
    × (Taken (1023 ∷ 0 ∷ 0 ∷ 0 ∷ 1022 ∷ 0 ∷ 0 ∷ 0 ∷ 1 ∷ 0 ∷ 0 ∷ []) → ⊥)
    × (Taken (1023 ∷ 0 ∷ 0 ∷ 0 ∷ 1023 ∷ 0 ∷ 0 ∷ 0 ∷ 1 ∷ 0 ∷ []) → ⊥)
unfolding too_large root_count
headers_pinned = (
  record { ten = refl; nine = refl },
  λ s. omega (arith, s.ten),
  λ s. omega (arith, s.ten),
  λ s. let z : ◌≡◌ {A = ℕ} 0 1 = cc s.nine in omega arith,
  λ s. let z : ◌≡◌ {A = ℕ} 0 1 = cc s.nine in omega arith,
  record { ten = refl; within = refl },
  λ s. omega (arith, s.ten),
  λ s. omega (arith, s.ten),
  λ s. let z : ◌≡◌ {A = ℕ} 0 1 = cc s.within in omega arith,
)
