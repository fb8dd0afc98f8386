-- What both forms of an AIGER file are made of, by example: each the smallest on which a neighbouring definition answers otherwise. The bytes are written
-- above or beside each as text; where they begin with an x, the place asked for is 1. By computation. Assumes nothing.
use Prim.Native.Nat.{ℕ, zero, suc, ◌+◌}
use Rattle.std.specs.Prelude.{Result, Ok}
use mathlib.Core.Path.{◌≡◌, refl}
use mathlib.Core.Bool.{true, false}
use mathlib.Core.List.{List, [], ◌∷◌}
use Rattle.token.specs.Format.{digits_of}
use Rattle.token.specs.Answer.{value, refused, digits_at, uint_at, header_field_at}
use Rattle.token.specs.declared.Reason.TheVariants.{NoDigit, LeadingZero, OverLimit, Cut, TooLong}
use Rattle.lines.specs.declared.Fault.TheVariants.{Number, Missing, Above, Reset, TooMany, Short}
use Rattle.lines.specs.declared.Header.{Header}
use Rattle.lines.specs.Numbers.{fault_number}
use Rattle.lines.specs.declared.Broken.{Broken}
use Rattle.lines.specs.declared.Reading.{Reading}
use Rattle.lines.specs.Reading.{Read, got, no, ◌▸◌, row_at}
use Rattle.lines.specs.Lines.{is_byte, byte_at, space_at, newline_at, begins, tag_of, tag_at, number_of, number_at, line_at, lines_at}
use Rattle.lines.specs.Lines.{latch_line, nexts_of, resets_of, reset_line_at, reset_at, latch_at, latches_at, word_of}
use Rattle.lines.specs.Sections.{count_at, options_at, header_of, others_at, counts_at, header_at, top_code}
use Rattle.lines.specs.Sections.{Roots, roots_of, first_roots, root_count, root_room_at, properties_at, sizes_at, roots_at}
use Rattle.lines.specs.Promise.{broken, ended, reading, latch_read, first_line, LatchLists, latch_lists, LatchesLeft, latches_seen, latches_left, StoresLatches}
use Rattle.lines.specs.Promise.{Left, seen, roots_left, Stores, StoresSizes, StoresRoots}

-- 1. Reading forward.

-- a thing that is its own number and place, and takes three bytes; and one that is there only as the first
abbrev thing : ℕ → ℕ → Read (List ℕ)
thing k at = got (k ∷ at ∷ []) (at + 3)

abbrev first : ℕ → ℕ → Read (List ℕ)
first zero at = got [] (at + 1)
first (suc k) at = no Missing at

pub forward_pinned :
    -- what is read leads on, with the place after it; a refusal ends all
    (◌▸◌ {A = ℕ} {B = List ℕ} (got 5 7) thing ≡ got (5 ∷ 7 ∷ []) 10)
    × (◌▸◌ {A = ℕ} {B = List ℕ} (no Above 7) thing ≡ no Above 7)
    -- three in a row, the first the fourth; none
    × (row_at thing 4 3 10 ≡ got ((4 ∷ 10 ∷ []) ∷ (5 ∷ 13 ∷ []) ∷ (6 ∷ 16 ∷ []) ∷ []) 19)
    × (row_at thing 4 0 10 ≡ got [] 10)
    -- the first is refused, and the second
    × (row_at first 4 3 10 ≡ no Missing 10)
    × (row_at first 0 3 10 ≡ no Missing 11)
forward_pinned = (refl, refl, refl, refl, refl, refl)

-- 2. Bytes and the tag.

pub bytes_pinned :
    -- the byte 9 stands at place 1 and not at place 0, and 7 stands at place 0; past the end stands none
    (is_byte (7 ∷ 9 ∷ []) 9 1 ≡ true)
    × (is_byte (7 ∷ 9 ∷ []) 9 0 ≡ false)
    × (is_byte (7 ∷ 9 ∷ []) 7 0 ≡ true)
    × (is_byte (7 ∷ 9 ∷ []) 0 2 ≡ false)
    -- a byte that must stand there
    × (byte_at (7 ∷ 9 ∷ []) 9 1 ≡ got tt 2)
    × (byte_at (7 ∷ 9 ∷ []) 7 1 ≡ no Missing 1)
    × (byte_at (7 ∷ 9 ∷ []) 0 2 ≡ no Missing 2)
    -- a space is 32, a newline 10 and not 13
    × (space_at (10 ∷ 32 ∷ []) 1 ≡ got tt 2)
    × (space_at (10 ∷ 32 ∷ []) 0 ≡ no Missing 0)
    × (newline_at (32 ∷ 10 ∷ []) 1 ≡ got tt 2)
    × (newline_at (13 ∷ 10 ∷ []) 0 ≡ no Missing 0)
    -- the tag
    × (tag_of 9 ≡ (97 ∷ 9 ∷ 103 ∷ []))
    × (begins [] (5 ∷ []) ≡ true)
    × (begins (5 ∷ 6 ∷ []) (5 ∷ 6 ∷ []) ≡ true)
    × (begins (5 ∷ 6 ∷ []) (5 ∷ 7 ∷ 6 ∷ []) ≡ false)
    × (begins (5 ∷ 6 ∷ []) (4 ∷ 6 ∷ []) ≡ false)
    × (begins (5 ∷ 6 ∷ []) (5 ∷ []) ≡ false)
    × (tag_at (97 ∷ 105 ∷ 103 ∷ 32 ∷ []) (tag_of 105) ≡ got tt 3)
    × (tag_at (97 ∷ 97 ∷ 103 ∷ 32 ∷ []) (tag_of 105) ≡ no Missing 0)
unfolding is_byte byte_at tag_at
bytes_pinned = (refl, refl, refl, refl, refl, refl, refl, refl, refl, refl, refl, refl, refl, refl, refl, refl, refl, refl, refl)

-- 3. Numbers and lines.

pub numbers_pinned :
    -- a token with its place
    (number_of 5 (value 9 2) ≡ got 9 7)
    × (number_of 5 (refused Cut 3) ≡ no (Number Cut) 3)
    -- x12y up to 12, and up to 11; no digit; a leading zero
    × (number_at (120 ∷ 49 ∷ 50 ∷ 121 ∷ []) 12 1 ≡ got 12 3)
    × (number_at (120 ∷ 49 ∷ 50 ∷ 121 ∷ []) 11 1 ≡ no (Number OverLimit) 1)
    × (number_at (120 ∷ 49 ∷ 50 ∷ 121 ∷ []) 12 0 ≡ no (Number NoDigit) 0)
    × (number_at (120 ∷ 48 ∷ 53 ∷ 121 ∷ []) 12 1 ≡ no (Number LeadingZero) 1)
    -- x12\n up to 12, and up to more; a byte before the newline, and the end
    × (line_at (120 ∷ 49 ∷ 50 ∷ 10 ∷ []) 12 1 ≡ got 12 4)
    × (line_at (120 ∷ 49 ∷ 50 ∷ 10 ∷ []) 99 1 ≡ got 12 4)
    × (line_at (120 ∷ 49 ∷ 50 ∷ 10 ∷ []) 11 1 ≡ no (Number OverLimit) 1)
    × (line_at (120 ∷ 49 ∷ 50 ∷ 13 ∷ 10 ∷ []) 12 1 ≡ no Missing 3)
    × (line_at (120 ∷ 49 ∷ 50 ∷ []) 12 1 ≡ no Missing 3)
    -- x12\n3\n45\n: three lines, two, none; the third over the limit
    × (lines_at (120 ∷ 49 ∷ 50 ∷ 10 ∷ 51 ∷ 10 ∷ 52 ∷ 53 ∷ 10 ∷ []) 45 3 1 ≡ got (12 ∷ 3 ∷ 45 ∷ []) 9)
    × (lines_at (120 ∷ 49 ∷ 50 ∷ 10 ∷ 51 ∷ 10 ∷ 52 ∷ 53 ∷ 10 ∷ []) 45 2 1 ≡ got (12 ∷ 3 ∷ []) 6)
    × (lines_at (120 ∷ 49 ∷ 50 ∷ 10 ∷ 51 ∷ 10 ∷ 52 ∷ 53 ∷ 10 ∷ []) 45 0 1 ≡ got [] 1)
    × (lines_at (120 ∷ 49 ∷ 50 ∷ 10 ∷ 51 ∷ 10 ∷ 52 ∷ 53 ∷ 10 ∷ []) 44 3 1 ≡ no (Number OverLimit) 6)
unfolding digits_of digits_at uint_at header_field_at is_byte byte_at number_at line_at lines_at
numbers_pinned = (refl, refl, refl, refl, refl, refl, refl, refl, refl, refl, refl, refl, refl, refl, refl)

-- the literal of the latch is 4 and the limit 5, unless another is said
pub resets_pinned :
    -- after the 12 of `12 3\n` the reset 3 as the latch's own literal, up to 3 and up to 2; none; no newline; no digit
    (reset_at (49 ∷ 50 ∷ 32 ∷ 51 ∷ 10 ∷ []) 3 3 2 ≡ got 3 5)
    × (reset_at (49 ∷ 50 ∷ 32 ∷ 51 ∷ 10 ∷ []) 2 3 2 ≡ no (Number OverLimit) 3)
    × (reset_at (49 ∷ 50 ∷ 10 ∷ []) 3 3 2 ≡ got 0 3)
    × (reset_at (49 ∷ 50 ∷ 120 ∷ []) 3 3 2 ≡ no Missing 2)
    × (reset_at (49 ∷ 50 ∷ 32 ∷ 51 ∷ 120 ∷ []) 3 3 2 ≡ no Missing 4)
    × (reset_at (49 ∷ 50 ∷ 32 ∷ 10 ∷ []) 3 3 2 ≡ no (Number NoDigit) 3)
    × (reset_at (49 ∷ 50 ∷ 32 ∷ 48 ∷ 49 ∷ 10 ∷ []) 3 3 2 ≡ no (Number LeadingZero) 3)
    -- after a space, `1\n` and `3\n` alone
    × (reset_line_at (49 ∷ 10 ∷ []) 5 4 0 ≡ got 1 2)
    × (reset_line_at (51 ∷ 10 ∷ []) 5 4 0 ≡ no Reset 0)
    -- `2\n`, `2 0\n`, `2 1\n`, `2 4\n`: none, which is 0, and each that may be
    × (latch_at (50 ∷ 10 ∷ []) 5 4 0 ≡ got (latch_line 2 0) 2)
    × (latch_at (50 ∷ 32 ∷ 48 ∷ 10 ∷ []) 5 4 0 ≡ got (latch_line 2 0) 4)
    × (latch_at (50 ∷ 32 ∷ 49 ∷ 10 ∷ []) 5 4 0 ≡ got (latch_line 2 1) 4)
    × (latch_at (50 ∷ 32 ∷ 52 ∷ 10 ∷ []) 5 4 0 ≡ got (latch_line 2 4) 4)
    -- `2 2\n`, `2 3\n`, and `2 5\n`, the literal negated: 22 at the number
    × (latch_at (50 ∷ 32 ∷ 50 ∷ 10 ∷ []) 5 4 0 ≡ no Reset 2)
    × (latch_at (50 ∷ 32 ∷ 51 ∷ 10 ∷ []) 5 4 0 ≡ no Reset 2)
    × (latch_at (50 ∷ 32 ∷ 53 ∷ 10 ∷ []) 5 4 0 ≡ no Reset 2)
    -- `2 3` at the end of the file: 22 before 18; `2 4`: 18
    × (latch_at (50 ∷ 32 ∷ 51 ∷ []) 5 4 0 ≡ no Reset 2)
    × (latch_at (50 ∷ 32 ∷ 52 ∷ []) 5 4 0 ≡ no Missing 3)
    -- `2 6\n`: 12 before 22; `2 \n`: 10
    × (latch_at (50 ∷ 32 ∷ 54 ∷ 10 ∷ []) 5 4 0 ≡ no (Number OverLimit) 2)
    × (latch_at (50 ∷ 32 ∷ 10 ∷ []) 5 4 0 ≡ no (Number NoDigit) 2)
unfolding digits_of digits_at uint_at header_field_at is_byte byte_at number_at reset_line_at reset_at latch_at
resets_pinned = (
  refl,
  refl,
  refl,
  refl,
  refl,
  refl,
  refl,
  refl,
  refl,
  refl,
  refl,
  refl,
  refl,
  refl,
  refl,
  refl,
  refl,
  refl,
  refl,
  refl,
)

pub latches_pinned :
    -- x12 3\n and x12\n up to 12; up to 11 at the next state, and a reset over 12
    (latch_at (120 ∷ 49 ∷ 50 ∷ 32 ∷ 51 ∷ 10 ∷ []) 12 3 1 ≡ got (latch_line 12 3) 6)
    × (latch_at (120 ∷ 49 ∷ 50 ∷ 10 ∷ []) 12 3 1 ≡ got (latch_line 12 0) 4)
    × (latch_at (120 ∷ 49 ∷ 50 ∷ 32 ∷ 51 ∷ 10 ∷ []) 11 3 1 ≡ no (Number OverLimit) 1)
    × (latch_at (120 ∷ 49 ∷ 32 ∷ 49 ∷ 51 ∷ 10 ∷ []) 12 13 1 ≡ no (Number OverLimit) 3)
    -- which is which
    × (latch_line 5 7 ≡ record { next = 5; reset = 7 })
    × (nexts_of (latch_line 5 7 ∷ latch_line 6 8 ∷ []) ≡ (5 ∷ 6 ∷ []))
    × (resets_of (latch_line 5 7 ∷ latch_line 6 8 ∷ []) ≡ (7 ∷ 8 ∷ []))
    -- x12 1\n4\n15 8\n of latches 4, 6, 8: two, three, none; the third over the limit
    × (latches_at (120 ∷ 49 ∷ 50 ∷ 32 ∷ 49 ∷ 10 ∷ 52 ∷ 10 ∷ 49 ∷ 53 ∷ 32 ∷ 56 ∷ 10 ∷ []) 12 4 2 1 ≡ got (latch_line 12 1 ∷ latch_line 4 0 ∷ []) 8)
    × (latches_at (120 ∷ 49 ∷ 50 ∷ 32 ∷ 49 ∷ 10 ∷ 52 ∷ 10 ∷ 49 ∷ 53 ∷ 32 ∷ 56 ∷ 10 ∷ []) 15 4 3 1
    ≡ got (latch_line 12 1 ∷ latch_line 4 0 ∷ latch_line 15 8 ∷ []) 13)
    × (latches_at (120 ∷ 49 ∷ 50 ∷ 32 ∷ 49 ∷ 10 ∷ 52 ∷ 10 ∷ 49 ∷ 53 ∷ 32 ∷ 56 ∷ 10 ∷ []) 12 4 0 1 ≡ got [] 1)
    × (latches_at (120 ∷ 49 ∷ 50 ∷ 32 ∷ 49 ∷ 10 ∷ 52 ∷ 10 ∷ 49 ∷ 53 ∷ 32 ∷ 56 ∷ 10 ∷ []) 14 4 3 1 ≡ no (Number OverLimit) 8)
    -- the same lines of latches 2, 4, 6: the third has no such literal
    × (latches_at (120 ∷ 49 ∷ 50 ∷ 32 ∷ 49 ∷ 10 ∷ 52 ∷ 10 ∷ 49 ∷ 53 ∷ 32 ∷ 56 ∷ 10 ∷ []) 15 2 3 1 ≡ no Reset 11)
    -- the largest word, and one more
    × (word_of 4294967295 ≡ 4294967295)
    × (word_of 4294967296 ≡ 0)
unfolding digits_of digits_at uint_at header_field_at is_byte byte_at number_at reset_line_at reset_at latch_at latches_at word_of
latches_pinned = (refl, refl, refl, refl, refl, refl, refl, refl, refl, refl, refl, refl, refl, refl)

-- 4. The header.

-- M I L O A B C J F
abbrev header : ℕ → ℕ → ℕ → ℕ → ℕ → ℕ → ℕ → ℕ → ℕ → Header
header m i l o a b c j f =
    record { top = m; inputs = i; latches = l; outputs = o; gates = a; bad = b; constraints = c; justice = j; fairness = f }

pub counts_pinned :
    -- x 12 up to 12, and up to 11; no space
    (count_at (120 ∷ 32 ∷ 49 ∷ 50 ∷ 10 ∷ []) 12 1 ≡ got 12 4)
    × (count_at (120 ∷ 32 ∷ 49 ∷ 50 ∷ 10 ∷ []) 11 1 ≡ no (Number OverLimit) 2)
    × (count_at (120 ∷ 49 ∷ 50 ∷ 10 ∷ []) 12 1 ≡ no Missing 1)
    -- up to four counts more, and up to none
    × (options_at (120 ∷ 10 ∷ []) 4 1 ≡ got [] 2)
    × (options_at (120 ∷ 32 ∷ 49 ∷ 53 ∷ 10 ∷ []) 4 1 ≡ got (15 ∷ []) 5)
    × (options_at (120 ∷ 32 ∷ 49 ∷ 53 ∷ 32 ∷ 54 ∷ 10 ∷ []) 4 1 ≡ got (15 ∷ 6 ∷ []) 7)
    × (options_at (120 ∷ 32 ∷ 49 ∷ 53 ∷ 32 ∷ 54 ∷ 32 ∷ 55 ∷ 10 ∷ []) 4 1 ≡ got (15 ∷ 6 ∷ 7 ∷ []) 9)
    × (options_at (120 ∷ 32 ∷ 49 ∷ 53 ∷ 32 ∷ 54 ∷ 32 ∷ 55 ∷ 32 ∷ 56 ∷ 10 ∷ []) 4 1 ≡ got (15 ∷ 6 ∷ 7 ∷ 8 ∷ []) 11)
    × (options_at (120 ∷ 32 ∷ 49 ∷ 53 ∷ 32 ∷ 54 ∷ 32 ∷ 55 ∷ 32 ∷ 56 ∷ 32 ∷ 57 ∷ 10 ∷ []) 4 1 ≡ no Missing 10)
    × (options_at (120 ∷ 10 ∷ []) 0 1 ≡ got [] 2)
    × (options_at (120 ∷ 32 ∷ 53 ∷ 10 ∷ []) 0 1 ≡ no Missing 1)
    × (options_at (120 ∷ 13 ∷ 10 ∷ []) 4 1 ≡ no Missing 1)
    -- held to 1,048,575
    × (options_at (120 ∷ 32 ∷ 49 ∷ 48 ∷ 52 ∷ 56 ∷ 53 ∷ 55 ∷ 53 ∷ 10 ∷ []) 1 1 ≡ got (1048575 ∷ []) 10)
    × (options_at (120 ∷ 32 ∷ 49 ∷ 48 ∷ 52 ∷ 56 ∷ 53 ∷ 55 ∷ 54 ∷ 10 ∷ []) 1 1 ≡ no (Number OverLimit) 2)
    -- which is which, and one that is not there is 0
    × (header_of 21 22 23 24 25 (26 ∷ 27 ∷ 28 ∷ 29 ∷ []) ≡ header 21 22 23 24 25 26 27 28 29)
    × (header_of 21 22 23 24 25 [] ≡ header 21 22 23 24 25 0 0 0 0)
    × (top_code (header 21 22 23 24 25 26 27 28 29) ≡ 43)
unfolding digits_of digits_at uint_at header_field_at is_byte byte_at number_at count_at
counts_pinned = (refl, refl, refl, refl, refl, refl, refl, refl, refl, refl, refl, refl, refl, refl, refl, refl, refl)

pub headers_pinned :
    -- M = 10, I = 2, L = 3: A is up to 5, and O up to 1,048,575
    (others_at (120 ∷ 32 ∷ 50 ∷ 52 ∷ 32 ∷ 53 ∷ 32 ∷ 54 ∷ 32 ∷ 55 ∷ 32 ∷ 56 ∷ 32 ∷ 57 ∷ 10 ∷ []) 10 2 3 1 ≡ got (header 10 2 3 24 5 6 7 8 9) 15)
    × (others_at (120 ∷ 32 ∷ 50 ∷ 52 ∷ 32 ∷ 54 ∷ 10 ∷ []) 10 2 3 1 ≡ no (Number OverLimit) 5)
    × (others_at (120 ∷ 32 ∷ 49 ∷ 48 ∷ 52 ∷ 56 ∷ 53 ∷ 55 ∷ 53 ∷ 32 ∷ 53 ∷ 10 ∷ []) 10 2 3 1 ≡ got (header 10 2 3 1048575 5 0 0 0 0) 12)
    × (others_at (120 ∷ 32 ∷ 49 ∷ 48 ∷ 52 ∷ 56 ∷ 53 ∷ 55 ∷ 54 ∷ 32 ∷ 53 ∷ 10 ∷ []) 10 2 3 1 ≡ no (Number OverLimit) 2)
    -- no fifth count, no newline, a fifth count more
    × (others_at (120 ∷ 32 ∷ 50 ∷ 52 ∷ 10 ∷ []) 10 2 3 1 ≡ no Missing 4)
    × (others_at (120 ∷ 32 ∷ 50 ∷ 52 ∷ 32 ∷ 53 ∷ []) 10 2 3 1 ≡ no Missing 6)
    × (others_at (120 ∷ 32 ∷ 50 ∷ 52 ∷ 32 ∷ 53 ∷ 32 ∷ 54 ∷ 32 ∷ 55 ∷ 32 ∷ 56 ∷ 32 ∷ 57 ∷ 32 ∷ 49 ∷ 10 ∷ []) 10 2 3 1 ≡ no Missing 14)
    -- all counts: nine, and five
    × (counts_at (120 ∷ 32 ∷ 49 ∷ 48 ∷ 32 ∷ 50 ∷ 32 ∷ 51 ∷ 32 ∷ 50 ∷ 52 ∷ 32 ∷ 53 ∷ 32 ∷ 54 ∷ 32 ∷ 55 ∷ 32 ∷ 56 ∷ 32 ∷ 57 ∷ 10 ∷ []) 1
    ≡ got (header 10 2 3 24 5 6 7 8 9) 22)
    × (counts_at (120 ∷ 32 ∷ 49 ∷ 50 ∷ 32 ∷ 50 ∷ 32 ∷ 51 ∷ 32 ∷ 49 ∷ 32 ∷ 52 ∷ 10 ∷ []) 1 ≡ got (header 12 2 3 1 4 0 0 0 0) 13)
    -- M up to 1,048,575; I up to M; L up to M - I; A up to M - I - L
    × (counts_at (120 ∷ 32 ∷ 49 ∷ 48 ∷ 52 ∷ 56 ∷ 53 ∷ 55 ∷ 53 ∷ 32 ∷ 48 ∷ 32 ∷ 48 ∷ 32 ∷ 48 ∷ 32 ∷ 48 ∷ 10 ∷ []) 1 ≡ got (header 1048575 0 0 0 0 0 0 0 0) 18)
    × (counts_at (120 ∷ 32 ∷ 49 ∷ 48 ∷ 52 ∷ 56 ∷ 53 ∷ 55 ∷ 54 ∷ 32 ∷ 48 ∷ 32 ∷ 48 ∷ 32 ∷ 48 ∷ 32 ∷ 48 ∷ 10 ∷ []) 1 ≡ no (Number OverLimit) 2)
    × (counts_at (120 ∷ 32 ∷ 53 ∷ 32 ∷ 53 ∷ 32 ∷ 48 ∷ 32 ∷ 48 ∷ 32 ∷ 48 ∷ 10 ∷ []) 1 ≡ got (header 5 5 0 0 0 0 0 0 0) 12)
    × (counts_at (120 ∷ 32 ∷ 53 ∷ 32 ∷ 54 ∷ 32 ∷ 48 ∷ 32 ∷ 48 ∷ 32 ∷ 48 ∷ 10 ∷ []) 1 ≡ no (Number OverLimit) 4)
    × (counts_at (120 ∷ 32 ∷ 55 ∷ 32 ∷ 50 ∷ 32 ∷ 53 ∷ 32 ∷ 48 ∷ 32 ∷ 48 ∷ 10 ∷ []) 1 ≡ got (header 7 2 5 0 0 0 0 0 0) 12)
    × (counts_at (120 ∷ 32 ∷ 55 ∷ 32 ∷ 50 ∷ 32 ∷ 54 ∷ 32 ∷ 48 ∷ 32 ∷ 48 ∷ 10 ∷ []) 1 ≡ no (Number OverLimit) 6)
    × (counts_at (120 ∷ 32 ∷ 53 ∷ 32 ∷ 49 ∷ 32 ∷ 50 ∷ 32 ∷ 48 ∷ 32 ∷ 50 ∷ 10 ∷ []) 1 ≡ got (header 5 1 2 0 2 0 0 0 0) 12)
    × (counts_at (120 ∷ 32 ∷ 53 ∷ 32 ∷ 49 ∷ 32 ∷ 50 ∷ 32 ∷ 48 ∷ 32 ∷ 51 ∷ 10 ∷ []) 1 ≡ no (Number OverLimit) 10)
    -- the whole line; the other form's tag
    × (header_at (97 ∷ 105 ∷ 103 ∷ 32 ∷ 49 ∷ 48 ∷ 32 ∷ 50 ∷ 32 ∷ 51 ∷ 32 ∷ 50 ∷ 52 ∷ 32 ∷ 53 ∷ 32 ∷ 54 ∷ 32 ∷ 55 ∷ 32 ∷ 56 ∷ 32 ∷ 57 ∷ 10 ∷ []) (tag_of 105)
    ≡ got (header 10 2 3 24 5 6 7 8 9) 24)
    × (header_at (97 ∷ 97 ∷ 103 ∷ 32 ∷ 49 ∷ 48 ∷ 32 ∷ 50 ∷ 32 ∷ 51 ∷ 32 ∷ 50 ∷ 52 ∷ 32 ∷ 53 ∷ 32 ∷ 54 ∷ 32 ∷ 55 ∷ 32 ∷ 56 ∷ 32 ∷ 57 ∷ 10 ∷ []) (tag_of 105)
    ≡ no Missing 0)
    × (header_at (97 ∷ 105 ∷ 103 ∷ 49 ∷ 48 ∷ 32 ∷ 50 ∷ 32 ∷ 51 ∷ 32 ∷ 50 ∷ 52 ∷ 32 ∷ 53 ∷ 10 ∷ []) (tag_of 105) ≡ no Missing 3)
unfolding digits_of digits_at uint_at header_field_at is_byte byte_at tag_at number_at count_at others_at counts_at header_at
headers_pinned = (refl, refl, refl, refl, refl, refl, refl, refl, refl, refl, refl, refl, refl, refl, refl, refl, refl, refl, refl, refl)

-- 5. The root section.

-- an output, a bad state, a constraint, three justice sets, two fairness literals
abbrev sample : Header
sample = header 50 11 12 1 13 1 1 3 2

-- one justice set and nothing else
abbrev one_set : Header
one_set = header 50 0 0 0 0 0 0 1 0

-- x6\n17\n8\n5\n9\n4\n
abbrev literals : List ℕ
literals = (120 ∷ 54 ∷ 10 ∷ 49 ∷ 55 ∷ 10 ∷ 56 ∷ 10 ∷ 53 ∷ 10 ∷ 57 ∷ 10 ∷ 52 ∷ 10 ∷ [])

-- x2\n0\n2\n6\n7\n8\n5\n9\n4\n
abbrev sets : List ℕ
sets = (120 ∷ 50 ∷ 10 ∷ 48 ∷ 10 ∷ 50 ∷ 10 ∷ 54 ∷ 10 ∷ 55 ∷ 10 ∷ 56 ∷ 10 ∷ 53 ∷ 10 ∷ 57 ∷ 10 ∷ 52 ∷ 10 ∷ [])

-- x30\n31\n33\n2\n0\n2\n6\n7\n8\n5\n29\n4\n
abbrev section : List ℕ
section =
    (120 ∷ 51 ∷ 48 ∷ 10 ∷ 51 ∷ 49 ∷ 10 ∷ 51 ∷ 51 ∷ 10 ∷ 50 ∷ 10 ∷ 48 ∷ 10 ∷ 50 ∷ 10 ∷ 54 ∷ 10 ∷ 55 ∷ 10 ∷ 56 ∷ 10 ∷ 53 ∷ 10 ∷ 50 ∷ 57 ∷ 10 ∷ 52 ∷ 10 ∷ [])

pub roots_pinned :
    -- how many roots
    (first_roots (header 21 22 23 100 25 1000 10000 28 29) ≡ 11100)
    × (root_count (header 21 22 23 100 25 1000 10000 28 100000) 1000000 ≡ 1111100)
    -- where the sizes end: up to 1,048,575 roots, up to as many as there is room; 1 before 3
    × (root_room_at 1048575 1048575 7 ≡ got tt 7)
    × (root_room_at 1048576 1048576 7 ≡ no TooMany 7)
    × (root_room_at 5 5 7 ≡ got tt 7)
    × (root_room_at 5 4 7 ≡ no Short 7)
    × (root_room_at 1048576 4 7 ≡ no TooMany 7)
    -- four justice literals and then two of fairness, which stand first; nine roots and no room for the ninth; a literal over the limit; one missing
    × (properties_at literals sample 17 4 9 1 ≡ got (9 ∷ 4 ∷ 6 ∷ 17 ∷ 8 ∷ 5 ∷ []) 14)
    × (properties_at literals sample 17 4 8 1 ≡ no Short 1)
    × (properties_at literals sample 16 4 9 1 ≡ no (Number OverLimit) 3)
    × (properties_at (120 ∷ 54 ∷ 10 ∷ 49 ∷ 55 ∷ 10 ∷ 56 ∷ 10 ∷ 53 ∷ 10 ∷ 57 ∷ 10 ∷ 49 ∷ 56 ∷ 10 ∷ []) sample 17 4 9 1 ≡ no (Number OverLimit) 12)
    × (properties_at (120 ∷ 54 ∷ 10 ∷ 49 ∷ 55 ∷ 10 ∷ 56 ∷ 10 ∷ 53 ∷ 10 ∷ 57 ∷ 10 ∷ []) sample 17 4 9 1 ≡ no (Number NoDigit) 12)
    -- sizes 2, 0 and 2 before them; the sizes are not held to the largest literal; the room is tested before the literals
    × (sizes_at sets sample 9 9 1 ≡ got (roots_of (2 ∷ 0 ∷ 2 ∷ []) (9 ∷ 4 ∷ 6 ∷ 7 ∷ 8 ∷ 5 ∷ [])) 19)
    × (sizes_at (120 ∷ 50 ∷ 10 ∷ 48 ∷ 10 ∷ 50 ∷ 10 ∷ 49 ∷ 10 ∷ 48 ∷ 10 ∷ 49 ∷ 10 ∷ 49 ∷ 10 ∷ 49 ∷ 10 ∷ 48 ∷ 10 ∷ []) sample 1 9 1
    ≡ got (roots_of (2 ∷ 0 ∷ 2 ∷ []) (1 ∷ 0 ∷ 1 ∷ 0 ∷ 1 ∷ 1 ∷ [])) 19)
    × (sizes_at sets sample 9 8 1 ≡ no Short 7)
    × (sizes_at sets sample 8 9 1 ≡ no (Number OverLimit) 15)
    -- a size up to 1,048,575; a root list that is too short for it; a size over it; sizes that are too many roots
    × (sizes_at (120 ∷ 49 ∷ 48 ∷ 52 ∷ 56 ∷ 53 ∷ 55 ∷ 53 ∷ 10 ∷ []) one_set 9 1048575 1 ≡ no (Number NoDigit) 9)
    × (sizes_at (120 ∷ 49 ∷ 48 ∷ 52 ∷ 56 ∷ 53 ∷ 55 ∷ 53 ∷ 10 ∷ []) one_set 9 1048574 1 ≡ no Short 9)
    × (sizes_at (120 ∷ 49 ∷ 48 ∷ 52 ∷ 56 ∷ 53 ∷ 55 ∷ 54 ∷ 10 ∷ []) one_set 2000000 2000000 1 ≡ no (Number OverLimit) 1)
    × (sizes_at (120 ∷ 49 ∷ 48 ∷ 52 ∷ 56 ∷ 53 ∷ 55 ∷ 53 ∷ 10 ∷ 49 ∷ 10 ∷ 48 ∷ 10 ∷ []) sample 9 2000000 1 ≡ no TooMany 13)
    -- the whole: output 30, bad state 31, constraint 33, sizes 2, 0 and 2, justice 6, 7, 8 and 5, fairness 29 and 4
    × (roots_at section sample 33 9 1 ≡ got (roots_of (2 ∷ 0 ∷ 2 ∷ []) (30 ∷ 31 ∷ 33 ∷ 29 ∷ 4 ∷ 6 ∷ 7 ∷ 8 ∷ 5 ∷ [])) 29)
    × (roots_at section sample 33 8 1 ≡ no Short 16)
    × (roots_at section sample 32 9 1 ≡ no (Number OverLimit) 7)
    × (roots_at (120 ∷ 51 ∷ 48 ∷ 10 ∷ 51 ∷ 49 ∷ 10 ∷ 51 ∷ 51 ∷ 10 ∷ 50 ∷ 10 ∷ 48 ∷ 10 ∷ 50 ∷ 10 ∷ 54 ∷ 10 ∷ 55 ∷ 10 ∷ 56 ∷ 10 ∷ 53 ∷ 10 ∷ 57 ∷ 10 ∷ 51 ∷ 52 ∷
    10 ∷ []) sample 33 9 1 ≡ no (Number OverLimit) 26)
    -- no root at all
    × (roots_at (120 ∷ []) (header 50 9 8 0 7 0 0 0 0) 33 0 1 ≡ got (roots_of [] []) 1)
unfolding digits_of digits_at uint_at header_field_at is_byte byte_at number_at line_at lines_at root_room_at properties_at sizes_at roots_at
roots_pinned = (
  refl,
  refl,
  refl,
  refl,
  refl,
  refl,
  refl,
  refl,
  refl,
  refl,
  refl,
  refl,
  refl,
  refl,
  refl,
  refl,
  refl,
  refl,
  refl,
  refl,
  refl,
  refl,
  refl,
  refl,
  refl,
)

-- 6. The words of the contracts.

pub faults_pinned :
    (fault_number (Number NoDigit) ≡ 10)
    × (fault_number (Number TooLong) ≡ 16)
    × (fault_number Missing ≡ 18)
    × (fault_number Above ≡ 19)
    × (fault_number Reset ≡ 22)
    × (fault_number TooMany ≡ 1)
    × (fault_number Short ≡ 3)
faults_pinned = (refl, refl, refl, refl, refl, refl, refl)

-- an answer and the two lists
abbrev leaves : Result Reading Broken → List ℕ → List ℕ → Left
leaves answer sizes roots = record { answer = answer; lists = record { sizes = sizes; roots = roots } }

abbrev latched : Result ℕ Broken → List ℕ → List ℕ → LatchesLeft
latched answer nexts resets = record { answer = answer; lists = record { nexts = nexts; resets = resets } }

pub answers_pinned :
    (ended {A = ℕ} (got 5 7) ≡ Ok 7)
    × (ended {A = ℕ} (no Above 7) ≡ broken Above 7)
    × (reading (got 5 7) ≡ Ok (record { value = 5; after = 7 }))
    × (reading (no Above 7) ≡ broken Above 7)
    × (first_line (got sample 7) ≡ Ok (record { header = sample; after = 7 }))
    × (first_line (no Above 7) ≡ broken Above 7)
    × (latch_read (got (latch_line 5 6) 7) ≡ Ok (record { next = 5; reset = 6; after = 7 }))
    × (latch_read (no Above 7) ≡ broken Above 7)
    -- into longer lists, whose other words stay, and into shorter ones; all 0 where a line is refused
    × (latches_left (got (latch_line 5 15 ∷ latch_line 6 16 ∷ []) 7) (latch_lists (9 ∷ 8 ∷ 7 ∷ []) (19 ∷ [])) ≡ latched (Ok 7) (5 ∷ 6 ∷ 7 ∷ []) (15 ∷ []))
    × (latches_left (got (latch_line 5 15 ∷ latch_line 6 16 ∷ []) 7) (latch_lists (9 ∷ []) (19 ∷ 18 ∷ 17 ∷ [])) ≡ latched (Ok 7) (5 ∷ []) (15 ∷ 16 ∷ 17 ∷ []))
    × (latches_left (no Above 2) (latch_lists (9 ∷ 8 ∷ []) (19 ∷ 18 ∷ 17 ∷ [])) ≡ latched (broken Above 2) (0 ∷ 0 ∷ []) (0 ∷ 0 ∷ 0 ∷ []))
    × (latches_seen (Ok 7) (latch_lists (1 ∷ []) (2 ∷ [])) ≡ latched (Ok 7) (1 ∷ []) (2 ∷ []))
    × (roots_of (1 ∷ []) (2 ∷ []) ≡ record { sizes = (1 ∷ []); roots = (2 ∷ []) })
    × (seen (Ok (record { value = 5; after = 7 })) (roots_of (1 ∷ []) (2 ∷ [])) ≡ leaves (Ok (record { value = 5; after = 7 })) (1 ∷ []) (2 ∷ []))
    -- the answer is the sum of the sizes
    × (roots_left (got (roots_of (4 ∷ 3 ∷ []) (5 ∷ [])) 9) (roots_of (11 ∷ 12 ∷ 13 ∷ []) (14 ∷ 15 ∷ [])) ≡ leaves (Ok (record { value = 7; after = 9 })) (4 ∷ 3 ∷ 13 ∷ []) (5 ∷ 15 ∷ []))
    × (roots_left (no Above 9) (roots_of (11 ∷ 12 ∷ 13 ∷ []) (14 ∷ 15 ∷ [])) ≡ leaves (broken Above 9) (0 ∷ 0 ∷ 0 ∷ []) (0 ∷ 0 ∷ []))
answers_pinned = (refl, refl, refl, refl, refl, refl, refl, refl, refl, refl, refl, refl, refl, refl, refl, refl)

-- what is read stands in the list from a cell on; of a refusal only the answer is told; the sum of the sizes up to one more than the limit
pub stores_pinned : (e : Result ℕ Broken) (r : Result Reading Broken) (list : List ℕ) (lists : LatchLists) (after : Roots)
    → (◌≡◌ {A = Type 0} (Stores (got (5 ∷ 6 ∷ []) 7) e 1 (9 ∷ 8 ∷ 7 ∷ 6 ∷ []) list) ((e ≡ Ok 7) × (list ≡ (9 ∷ 5 ∷ 6 ∷ 6 ∷ []))))
    × (◌≡◌ {A = Type 0} (Stores (no Above 7) e 1 (9 ∷ 8 ∷ 7 ∷ 6 ∷ []) list) (e ≡ broken Above 7))
    × (◌≡◌ {A = Type 0} (StoresLatches (got (latch_line 5 15 ∷ latch_line 6 16 ∷ []) 7) e (latch_lists (9 ∷ 8 ∷ 7 ∷ []) (19 ∷ [])) lists)
    ((e ≡ Ok 7) × (lists.nexts ≡ (5 ∷ 6 ∷ 7 ∷ [])) × (lists.resets ≡ (15 ∷ []))))
    × (◌≡◌ {A = Type 0} (StoresLatches (no Above 7) e (latch_lists (9 ∷ []) (19 ∷ [])) lists) (e ≡ broken Above 7))
    × (◌≡◌ {A = Type 0} (StoresSizes (got (5 ∷ 6 ∷ []) 7) r (9 ∷ 8 ∷ 7 ∷ []) list) ((r ≡ Ok (record { value = 11; after = 7 })) × (list ≡ (5 ∷ 6 ∷ 7 ∷ []))))
    × (◌≡◌ {A = Type 0} (StoresSizes (got (1048575 ∷ 6 ∷ []) 7) r (9 ∷ 8 ∷ 7 ∷ []) list) ((r ≡ Ok (record { value = 1048576; after = 7 })) × (list ≡ (1048575 ∷ 6 ∷ 7 ∷ []))))
    × (◌≡◌ {A = Type 0} (StoresSizes (no Above 7) r (9 ∷ 8 ∷ 7 ∷ []) list) (r ≡ broken Above 7))
    × (◌≡◌ {A = Type 0} (StoresRoots (got (roots_of (4 ∷ 3 ∷ []) (5 ∷ [])) 9) r 1 (roots_of (11 ∷ 12 ∷ 13 ∷ []) (14 ∷ 15 ∷ 16 ∷
    [])) after) ((r ≡ Ok (record { value = 7; after = 9 })) × (after.sizes ≡ (4 ∷ 3 ∷ 13 ∷ [])) × (after.roots ≡ (14 ∷ 5 ∷ 16 ∷ []))))
    × (◌≡◌ {A = Type 0} (StoresRoots (no Above 9) r 1 (roots_of (11 ∷ 12 ∷ 13 ∷ []) (14 ∷ 15 ∷ 16 ∷ [])) after) (r ≡ broken Above 9))
stores_pinned e r list lists after = (refl, refl, refl, refl, refl, refl, refl, refl, refl)
