-- The tokens of document 01, the paper's numbers, and the tokens that pin the definitions, by computation: each is one on which a neighbouring definition
-- answers otherwise. Assumes nothing.
use Prim.Native.Nat.{zero, suc}
use mathlib.Core.Path.{◌≡◌, refl}
use mathlib.Core.Bool.{true, false}
use mathlib.Core.List.{[], ◌∷◌}
use native.Mathlib.Omega.{arith}
use Rattle.std.specs.Prelude.{Ok, Err}
use Rattle.token.specs.Format.{Bytes, is_digit, goes_on, Grouped, final, group, digits_of, shortest}
use Rattle.token.specs.Answer.{reason_number, token_number, pair_number, digits_at, uint_at, go_on_at, binary_at, less, delta_at, within, assigned, header_field_at, lit_at, symbol_index_at, pair_of, pair_second, pair_first, pair_at, inputs, refused, value}
use Rattle.token.specs.declared.Number.{Number}
use Rattle.token.specs.declared.Reason.TheVariants.{NoDigit, LeadingZero, OverWidth, OverLimit, AssignsZero, AssignsOdd, Cut, TooLong, OverReference, ZeroDelta}

-- what the words of the answers stand for, a field a name
pub words_pinned :
    (value 6 1 ≡ Ok (record { value = 6; used = 1 }))
    × (inputs 6 4 2 ≡ Ok (record { first = 6; second = 4; used = 2 }))
    × (refused {A = Number} Cut 3 ≡ Err (record { why = Cut; place = 3 }))
words_pinned = (refl, refl, refl)

-- document 01's tokens; its starred ones are part of the theorem `starred` of the crate circuit, which states the whole starred list
pub told :
    -- `0` is 0
    (uint_at (48 ∷ []) 0 ≡ value 0 1)
    -- `00` and `01` are 11
    × (token_number (uint_at (48 ∷ 48 ∷ []) 0) ≡ 11)
    × (token_number (uint_at (48 ∷ 49 ∷ []) 0) ≡ 11)
    -- the largest number of 64 bits is read, the one after it is 21
    × (uint_at (49 ∷ 56 ∷ 52 ∷ 52 ∷ 54 ∷ 55 ∷ 52 ∷ 52 ∷ 48 ∷ 55 ∷ 51 ∷ 55 ∷ 48 ∷ 57 ∷ 53 ∷ 53 ∷ 49 ∷ 54 ∷ 49 ∷ 53 ∷ []) 0 ≡ value 18446744073709551615 20)
    × (token_number (uint_at (49 ∷ 56 ∷ 52 ∷ 52 ∷ 54 ∷ 55 ∷ 52 ∷ 52 ∷ 48 ∷ 55 ∷ 51 ∷ 55 ∷ 48 ∷ 57 ∷ 53 ∷ 53 ∷ 49 ∷ 54 ∷ 49 ∷ 54 ∷ []) 0) ≡ 21)
    -- assigning, limit 6: `6` is read, `7` is 14, `8` is 12, `0` is 13
    × (lit_at (54 ∷ []) 0 6 true ≡ value 6 1)
    × (token_number (lit_at (55 ∷ []) 0 6 true) ≡ 14)
    × (token_number (lit_at (56 ∷ []) 0 6 true) ≡ 12)
    × (token_number (lit_at (48 ∷ []) 0 6 true) ≡ 13)
    -- a pair for 6: `00 02` is 20 at 0, `02 02` gives (4,2)
    × (pair_at (0x00 ∷ 0x02 ∷ []) 0 6 ≡ refused ZeroDelta 0)
    × (pair_at (0x02 ∷ 0x02 ∷ []) 0 6 ≡ inputs 4 2 2)
unfolding uint_at digits_at lit_at pair_at delta_at binary_at go_on_at
told = (refl, refl, refl, refl, refl, refl, refl, refl, refl, refl, refl)

-- places, ends and the order of tests
pub pinned :
    -- `12x` is 12, with two bytes used
    (uint_at (49 ∷ 50 ∷ 120 ∷ []) 0 ≡ value 12 2)
    -- place 5 of one byte is 10 at 5
    × (uint_at (49 ∷ []) 5 ≡ refused NoDigit 5)
    × (token_number (uint_at (49 ∷ []) 5) ≡ 10)
    -- assigning `00` is 11; assigning an odd number over 64 bits is 21, and not 14 or 12
    × (token_number (lit_at (48 ∷ 48 ∷ []) 0 6 true) ≡ 11)
    × (token_number (lit_at (49 ∷ 56 ∷ 52 ∷ 52 ∷ 54 ∷ 55 ∷ 52 ∷ 52 ∷ 48 ∷ 55 ∷ 51 ∷ 55 ∷ 48 ∷ 57 ∷ 53 ∷ 53 ∷ 49 ∷ 54 ∷ 49 ∷ 55 ∷ []) 0 6 true) ≡ 21)
    -- eight bytes are read, redundant zero groups or not
    × (binary_at (0x80 ∷ 0x80 ∷ 0x80 ∷ 0x80 ∷ 0x80 ∷ 0x80 ∷ 0x80 ∷ 0x00 ∷ []) 0 ≡ value 0 8)
    × (binary_at (0xff ∷ 0xff ∷ 0xff ∷ 0xff ∷ 0xff ∷ 0xff ∷ 0xff ∷ 0x7f ∷ []) 0 ≡ value 72057594037927935 8)
    -- the pair for 6 at place 1 of `ff 02 05` is 17 at 2
    × (pair_at (0xff ∷ 0x02 ∷ 0x05 ∷ []) 1 6 ≡ refused OverReference 2)
    × (pair_number (pair_at (0xff ∷ 0x02 ∷ 0x05 ∷ []) 1 6) ≡ 17)
    -- the pair for 6 in `00` is 15 at 1
    × (pair_at (0x00 ∷ []) 0 6 ≡ refused Cut 1)
    × (pair_number (pair_at (0x00 ∷ []) 0 6) ≡ 15)
unfolding uint_at digits_at lit_at pair_at delta_at binary_at go_on_at
pinned = (refl, refl, refl, refl, refl, refl, refl, refl, refl, refl, refl)

-- the format paper's table of numbers and their bytes
pub papers :
    (shortest 0 ≡ 0x00 ∷ [])
    × (shortest 1 ≡ 0x01 ∷ [])
    × (shortest 127 ≡ 0x7f ∷ [])
    × (shortest 128 ≡ 0x80 ∷ 0x01 ∷ [])
    × (shortest 258 ≡ 0x82 ∷ 0x02 ∷ [])
    × (shortest 16383 ≡ 0xff ∷ 0x7f ∷ [])
    × (shortest 16387 ≡ 0x83 ∷ 0x80 ∷ 0x01 ∷ [])
    × (shortest 268435455 ≡ 0xff ∷ 0xff ∷ 0xff ∷ 0x7f ∷ [])
    × (shortest 268435463 ≡ 0x87 ∷ 0x80 ∷ 0x80 ∷ 0x80 ∷ 0x01 ∷ [])
unfolding shortest
papers = (refl, refl, refl, refl, refl, refl, refl, refl, refl)

-- the limit tested before the sign is an error that looks like an improvement: assigning `7` with the limit 6 would be 12, and is 14
pub limit_before_sign : (token_number (assigned 0 (within 6 0 (uint_at (55 ∷ []) 0))) ≡ 12) × (token_number (lit_at (55 ∷ []) 0 6 true) ≡ 14)
unfolding uint_at digits_at lit_at
limit_before_sign = (refl, refl)

-- document 01's number for each reason; a token or a pair that is read has none
pub numbers :
    (reason_number NoDigit ≡ 10) × (reason_number LeadingZero ≡ 11) × (reason_number OverWidth ≡ 21) × (reason_number OverLimit ≡ 12)
    × (reason_number AssignsZero ≡ 13) × (reason_number AssignsOdd ≡ 14) × (reason_number Cut ≡ 15) × (reason_number TooLong ≡ 16)
    × (reason_number OverReference ≡ 17) × (reason_number ZeroDelta ≡ 20)
    × (token_number (value 5 6) ≡ 0) × (token_number (refused TooLong 3) ≡ 16) × (pair_number (inputs 5 6 7) ≡ 0) × (pair_number (refused TooLong 3) ≡ 16)
numbers = (refl, refl, refl, refl, refl, refl, refl, refl, refl, refl, refl, refl, refl, refl)

-- digits are `0` to `9` and neither `/` nor `:`; a byte goes on from 0x80
pub bytes :
    (is_digit 47 ≡ false) × (is_digit 48 ≡ true) × (is_digit 57 ≡ true) × (is_digit 58 ≡ false) × (goes_on 0x7f ≡ false) × (goes_on 0x80 ≡ true)
bytes = (refl, refl, refl, refl, refl, refl)

-- a list of bytes, 255 the largest; and one in which 256 stands second
pub all_bytes : Bytes (255 ∷ 7 ∷ []) × (Bytes (7 ∷ 256 ∷ []) → ⊥)
all_bytes = (fit, λ b. omega (arith, b 1))
  where
    fit : Bytes (255 ∷ 7 ∷ [])
    fit zero = omega arith
    fit (suc zero) = omega arith
    fit (suc (suc i)) = omega arith

-- decimals behind other bytes
pub decimals :
    -- place 2 of `xx123x` is 123, with three bytes used
    (uint_at (120 ∷ 120 ∷ 49 ∷ 50 ∷ 51 ∷ 120 ∷ []) 2 ≡ value 123 3)
    -- place 1 of `x:` is 10 at 1, and of `x01` 11 at 1
    × (uint_at (120 ∷ 58 ∷ []) 1 ≡ refused NoDigit 1)
    × (uint_at (120 ∷ 48 ∷ 49 ∷ []) 1 ≡ refused LeadingZero 1)
    -- place 1 of `x18446744073709551616` is 21 at 1; with a leading zero it is 11
    × (uint_at (120 ∷ 49 ∷ 56 ∷ 52 ∷ 52 ∷ 54 ∷ 55 ∷ 52 ∷ 52 ∷ 48 ∷ 55 ∷ 51 ∷ 55 ∷ 48 ∷ 57 ∷ 53 ∷ 53 ∷ 49 ∷ 54 ∷ 49 ∷ 54 ∷ []) 1 ≡ refused OverWidth 1)
    × (uint_at (48 ∷ 49 ∷ 56 ∷ 52 ∷ 52 ∷ 54 ∷ 55 ∷ 52 ∷ 52 ∷ 48 ∷ 55 ∷ 51 ∷ 55 ∷ 48 ∷ 57 ∷ 53 ∷ 53 ∷ 49 ∷ 54 ∷ 49 ∷ 54 ∷ []) 0 ≡ refused LeadingZero 0)
    -- place 1 of `x12` with the limit 12 is read, and with the limit 11 is 12 at 1
    × (header_field_at (120 ∷ 49 ∷ 50 ∷ []) 1 12 ≡ value 12 2)
    × (header_field_at (120 ∷ 49 ∷ 50 ∷ []) 1 11 ≡ refused OverLimit 1)
    × (symbol_index_at (120 ∷ 49 ∷ 50 ∷ []) 1 12 ≡ value 12 2)
    × (symbol_index_at (120 ∷ 49 ∷ 50 ∷ []) 1 11 ≡ refused OverLimit 1)
    -- a literal that is not assigned may be odd or 0, and is held to the limit; one that is assigned may not be odd or 0
    × (lit_at (120 ∷ 49 ∷ 51 ∷ []) 1 13 false ≡ value 13 2)
    × (lit_at (120 ∷ 49 ∷ 51 ∷ []) 1 12 false ≡ refused OverLimit 1)
    × (lit_at (48 ∷ []) 0 6 false ≡ value 0 1)
    × (lit_at (120 ∷ 49 ∷ 51 ∷ []) 1 13 true ≡ refused AssignsOdd 1)
    × (lit_at (120 ∷ 48 ∷ []) 1 6 true ≡ refused AssignsZero 1)
    × (lit_at (120 ∷ 49 ∷ 52 ∷ []) 1 12 true ≡ refused OverLimit 1)
unfolding uint_at digits_at header_field_at symbol_index_at lit_at
decimals = (refl, refl, refl, refl, refl, refl, refl, refl, refl, refl, refl, refl, refl, refl, refl)

-- groups of seven bits behind other bytes
pub groups :
    -- place 1 of `ff 82 01 7f` is 130, with two bytes used
    (binary_at (0xff ∷ 0x82 ∷ 0x01 ∷ 0x7f ∷ []) 1 ≡ value 130 2)
    -- place 1 of `ff 80` is 15 at 1, and so is a place past the end; place 1 of `00` and eight `80` is 16 at 1
    × (binary_at (0xff ∷ 0x80 ∷ []) 1 ≡ refused Cut 1)
    × (binary_at (0xff ∷ 0x80 ∷ []) 5 ≡ refused Cut 5)
    × (binary_at (0x00 ∷ 0x80 ∷ 0x80 ∷ 0x80 ∷ 0x80 ∷ 0x80 ∷ 0x80 ∷ 0x80 ∷ 0x80 ∷ []) 1 ≡ refused TooLong 1)
    -- of nine bytes that go on eight are counted
    × (go_on_at (0x80 ∷ 0x80 ∷ 0x80 ∷ 0x80 ∷ 0x80 ∷ 0x80 ∷ 0x80 ∷ 0x80 ∷ 0x80 ∷ []) 0 ≡ 8)
    -- 130 from 300 is 170, from 130 it is 0, from 129 it is 17 at 1
    × (delta_at (0xff ∷ 0x82 ∷ 0x01 ∷ 0x7f ∷ []) 1 300 ≡ value 170 2)
    × (delta_at (0xff ∷ 0x82 ∷ 0x01 ∷ 0x7f ∷ []) 1 130 ≡ value 0 2)
    × (delta_at (0xff ∷ 0x82 ∷ 0x01 ∷ 0x7f ∷ []) 1 129 ≡ refused OverReference 1)
    -- the pair for 300 at place 1 of `ff 82 01 05` is (170,165), with three bytes used
    × (pair_at (0xff ∷ 0x82 ∷ 0x01 ∷ 0x05 ∷ []) 1 300 ≡ inputs 170 165 3)
    -- the pair for 129 there is 17 at 1; a first delta that is cut is 15 at its place
    × (pair_at (0xff ∷ 0x82 ∷ 0x01 ∷ 0x05 ∷ []) 1 129 ≡ refused OverReference 1)
    × (pair_at (0xff ∷ 0x82 ∷ []) 1 300 ≡ refused Cut 1)
unfolding binary_at go_on_at delta_at pair_at
groups = (refl, refl, refl, refl, refl, refl, refl, refl, refl, refl, refl)

-- a first delta of zero is 20, by value, when both deltas are read; a second delta of zero is good
pub zeros :
    -- the pair for 6 in `80 00 02` is 20 at 0, and so behind a byte at 1; the number of it
    (pair_at (0x80 ∷ 0x00 ∷ 0x02 ∷ []) 0 6 ≡ refused ZeroDelta 0)
    × (pair_at (0xff ∷ 0x80 ∷ 0x00 ∷ 0x02 ∷ []) 1 6 ≡ refused ZeroDelta 1)
    × (pair_number (pair_at (0x00 ∷ 0x02 ∷ []) 0 6) ≡ 20)
    -- `00 00` too; `00` and a second delta that is cut, too long or over 6 is the second's
    × (pair_at (0x00 ∷ 0x00 ∷ []) 0 6 ≡ refused ZeroDelta 0)
    × (pair_at (0x00 ∷ 0x80 ∷ []) 0 6 ≡ refused Cut 1)
    × (pair_at (0x00 ∷ 0x80 ∷ 0x80 ∷ 0x80 ∷ 0x80 ∷ 0x80 ∷ 0x80 ∷ 0x80 ∷ 0x80 ∷ []) 0 6 ≡ refused TooLong 1)
    × (pair_at (0x00 ∷ 0x07 ∷ []) 0 6 ≡ refused OverReference 1)
    -- `02 00` gives (4,4), and `06 00` (0,0); a pair for 0 is never read
    × (pair_at (0x02 ∷ 0x00 ∷ []) 0 6 ≡ inputs 4 4 2)
    × (pair_at (0x06 ∷ 0x00 ∷ []) 0 6 ≡ inputs 0 0 2)
    × (pair_at (0x00 ∷ 0x00 ∷ []) 0 0 ≡ refused ZeroDelta 0)
    -- a delta of zero by itself is read
    × (delta_at (0x00 ∷ []) 0 6 ≡ value 6 1)
    × (delta_at (0x80 ∷ 0x00 ∷ []) 0 6 ≡ value 6 2)
unfolding binary_at go_on_at delta_at pair_at
zeros = (refl, refl, refl, refl, refl, refl, refl, refl, refl, refl, refl, refl)

-- a step on what is read: a value that passes stays, one that does not is refused at the place of the step, and a refusal stays as it is
pub steps :
    (within 6 5 (value 6 2) ≡ value 6 2) × (within 6 5 (value 7 2) ≡ refused OverLimit 5) × (within 6 5 (refused Cut 3) ≡ refused Cut 3)
    × (assigned 9 (value 4 2) ≡ value 4 2) × (assigned 9 (value 5 2) ≡ refused AssignsOdd 9) × (assigned 9 (value 0 2) ≡ refused AssignsZero 9)
    × (assigned 9 (refused Cut 3) ≡ refused Cut 3)
    × (less 6 5 (value 6 2) ≡ value 0 2) × (less 6 5 (value 7 2) ≡ refused OverReference 5) × (less 6 5 (refused Cut 3) ≡ refused Cut 3)
    -- the inputs 7 and 5, by 3 bytes and 1, of the gate 90 and of the gate 7
    × (pair_of 90 80 7 3 5 1 ≡ inputs 7 5 4) × (pair_of 7 80 7 3 5 1 ≡ refused ZeroDelta 80) × (pair_second 90 80 7 3 (value 5 1) ≡ inputs 7 5 4)
    × (pair_second 90 80 7 3 (refused Cut 2) ≡ refused Cut 2) × (pair_first [] 90 80 (refused Cut 2) ≡ refused Cut 2)
steps = (refl, refl, refl, refl, refl, refl, refl, refl, refl, refl, refl, refl, refl, refl, refl)

-- numbers as they are written: the smallest and the largest of each length, and the largest of 64 and of 56 bits
pub spelled :
    (digits_of 0 ≡ 48 ∷ []) × (digits_of 9 ≡ 57 ∷ []) × (digits_of 10 ≡ 49 ∷ 48 ∷ []) × (digits_of 123 ≡ 49 ∷ 50 ∷ 51 ∷ [])
    × (digits_of 18446744073709551615
    ≡ 49 ∷ 56 ∷ 52 ∷ 52 ∷ 54 ∷ 55 ∷ 52 ∷ 52 ∷ 48 ∷ 55 ∷ 51 ∷ 55 ∷ 48 ∷ 57 ∷ 53 ∷ 53 ∷ 49 ∷ 54 ∷ 49 ∷ 53 ∷ [])
    × (shortest 72057594037927935 ≡ 0xff ∷ 0xff ∷ 0xff ∷ 0xff ∷ 0xff ∷ 0xff ∷ 0xff ∷ 0x7f ∷ [])
unfolding digits_of shortest
spelled = (refl, refl, refl, refl, refl, refl)

-- bytes that write a number in groups, and bytes that do not: none, `80`, `7f 00`, and a byte that is none
pub grouped :
    Grouped (0x7f ∷ []) × Grouped (0x80 ∷ 0x00 ∷ []) × Grouped (0xff ∷ 0x80 ∷ 0x7f ∷ [])
    × (Grouped [] → ⊥) × (Grouped (0x80 ∷ []) → ⊥) × (Grouped (0x7f ∷ 0x00 ∷ []) → ⊥) × (Grouped (256 ∷ 0x00 ∷ []) → ⊥)
grouped = (
  final {b = 0x7f} (omega arith),
  group {b = 0x80} (omega arith) (omega arith) (final {b = 0x00} (omega arith)),
  group {b = 0xff} (omega arith) (omega arith) (group {b = 0x80} (omega arith) (omega arith) (final {b = 0x7f} (omega arith))),
  empty,
  ends,
  stops,
  big,
)
  where
    empty : Grouped [] → ⊥
    empty = elim [ ]

    ends : Grouped (0x80 ∷ []) → ⊥
    ends (final h) = omega arith
    ends (group l h g) = empty g

    stops : Grouped (0x7f ∷ 0x00 ∷ []) → ⊥
    stops (group l h g) = omega arith

    big : Grouped (256 ∷ 0x00 ∷ []) → ⊥
    big (group l h g) = omega arith
