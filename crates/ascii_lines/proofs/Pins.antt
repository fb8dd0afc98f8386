-- Lines of the text form by example: each the smallest on which a neighbouring definition answers otherwise, so the order in which a line is refused is
-- seen. The bytes are written above each as text; they begin with an x, and the place asked for is 1. By computation. Assumes nothing.
use Prim.Native.Nat.{ℕ}
use Rattle.std.specs.Prelude.{Result, Ok}
use mathlib.Core.Path.{◌≡◌, refl}
use mathlib.Core.List.{List, [], ◌∷◌}
use Rattle.token.specs.Format.{digits_of}
use Rattle.token.specs.Answer.{digits_at, uint_at, header_field_at, lit_at}
use Rattle.token.specs.declared.Reason.TheVariants.{NoDigit, LeadingZero, OverWidth, OverLimit, AssignsZero, AssignsOdd}
use Rattle.lines.specs.declared.Fault.TheVariants.{Number, Missing, Above, Reset}
use Rattle.lines.specs.declared.Broken.{Broken}
use Rattle.lines.specs.Reading.{got, no}
use Rattle.lines.specs.Lines.{is_byte, byte_at, number_at, reset_line_at, reset_at, latch_at}
use Rattle.lines.specs.Sections.{count_at}
use Rattle.lines.specs.Promise.{broken}
use Rattle.ascii_lines.specs.Lines.{defined_at, input_at, inputs_at, stated_latch, states_of, nexts_of, resets_of, stated_at, latches_at}
use Rattle.ascii_lines.specs.Lines.{gate_with, input_pair_at, gate_at, gates_at}
use Rattle.ascii_lines.specs.Promise.{stated_read, gate_read, section_seen, section_left, Stores, put_numbers, no_numbers, put_gates}
use Rattle.ascii_lines.specs.Promise.{LatchLists, latch_lists, put_latches, no_latches}

-- 1. A literal that a line defines. The limit is 3, that of M = 1, unless another is said.

pub literals_pinned :
    -- 2; 2 where the limit is 2; digits up to another byte
    (defined_at (120 ∷ 50 ∷ []) 3 1 ≡ got 2 2)
    × (defined_at (120 ∷ 50 ∷ []) 2 1 ≡ got 2 2)
    × (defined_at (120 ∷ 49 ∷ 50 ∷ 32 ∷ []) 12 1 ≡ got 12 3)
    -- 5, over the limit and odd, is 14 and not 12; 4 is 12; 3 is 14; 0 is 13, at a limit of 0 too
    × (defined_at (120 ∷ 53 ∷ []) 3 1 ≡ no (Number AssignsOdd) 1)
    × (defined_at (120 ∷ 52 ∷ []) 3 1 ≡ no (Number OverLimit) 1)
    × (defined_at (120 ∷ 51 ∷ []) 3 1 ≡ no (Number AssignsOdd) 1)
    × (defined_at (120 ∷ 48 ∷ []) 3 1 ≡ no (Number AssignsZero) 1)
    × (defined_at (120 ∷ 48 ∷ []) 0 1 ≡ no (Number AssignsZero) 1)
    -- 00 is 11, and so is 05; nothing and a letter are 10
    × (defined_at (120 ∷ 48 ∷ 48 ∷ []) 3 1 ≡ no (Number LeadingZero) 1)
    × (defined_at (120 ∷ 48 ∷ 53 ∷ []) 3 1 ≡ no (Number LeadingZero) 1)
    × (defined_at (120 ∷ []) 3 1 ≡ no (Number NoDigit) 1)
    × (defined_at (120 ∷ 97 ∷ []) 3 1 ≡ no (Number NoDigit) 1)
    -- 18446744073709551616 is 21; the odd number before it is 14, and the even one before that 12
    × (defined_at (120 ∷ 49 ∷ 56 ∷ 52 ∷ 52 ∷ 54 ∷ 55 ∷ 52 ∷ 52 ∷ 48 ∷ 55 ∷ 51 ∷ 55 ∷ 48 ∷ 57 ∷ 53 ∷ 53 ∷ 49 ∷ 54 ∷ 49 ∷ 54 ∷ []) 3 1 ≡ no (Number OverWidth) 1)
    × (defined_at (120 ∷ 49 ∷ 56 ∷ 52 ∷ 52 ∷ 54 ∷ 55 ∷ 52 ∷ 52 ∷ 48 ∷ 55 ∷ 51 ∷ 55 ∷ 48 ∷ 57 ∷ 53 ∷ 53 ∷ 49 ∷ 54 ∷ 49 ∷ 53 ∷ []) 3 1 ≡ no (Number AssignsOdd) 1)
    × (defined_at (120 ∷ 49 ∷ 56 ∷ 52 ∷ 52 ∷ 54 ∷ 55 ∷ 52 ∷ 52 ∷ 48 ∷ 55 ∷ 51 ∷ 55 ∷ 48 ∷ 57 ∷ 53 ∷ 53 ∷ 49 ∷ 54 ∷ 49 ∷ 52 ∷ []) 3 1 ≡ no (Number OverLimit) 1)
unfolding digits_of digits_at uint_at lit_at defined_at
literals_pinned = (refl, refl, refl, refl, refl, refl, refl, refl, refl, refl, refl, refl, refl, refl, refl)

-- 2. Input lines.

pub inputs_pinned :
    -- the line; a space behind the literal, a carriage return, and the end: 18 at that place
    (input_at (120 ∷ 50 ∷ 10 ∷ []) 3 1 ≡ got 2 3)
    × (input_at (120 ∷ 50 ∷ 32 ∷ 10 ∷ []) 3 1 ≡ no Missing 2)
    × (input_at (120 ∷ 50 ∷ 13 ∷ 10 ∷ []) 3 1 ≡ no Missing 2)
    × (input_at (120 ∷ 50 ∷ []) 3 1 ≡ no Missing 2)
    -- what is wrong with the literal comes before what is behind it
    × (input_at (120 ∷ 53 ∷ 32 ∷ 10 ∷ []) 3 1 ≡ no (Number AssignsOdd) 1)
    × (input_at (120 ∷ 52 ∷ []) 3 1 ≡ no (Number OverLimit) 1)
    × (input_at (120 ∷ 10 ∷ []) 3 1 ≡ no (Number NoDigit) 1)
    -- 6\n2\n2\n: three lines in their order, one literal twice; two; none; a fourth
    × (inputs_at (120 ∷ 54 ∷ 10 ∷ 50 ∷ 10 ∷ 50 ∷ 10 ∷ []) 7 3 1 ≡ got (6 ∷ 2 ∷ 2 ∷ []) 7)
    × (inputs_at (120 ∷ 54 ∷ 10 ∷ 50 ∷ 10 ∷ 50 ∷ 10 ∷ []) 7 2 1 ≡ got (6 ∷ 2 ∷ []) 5)
    × (inputs_at (120 ∷ 54 ∷ 10 ∷ 50 ∷ 10 ∷ 50 ∷ 10 ∷ []) 7 0 1 ≡ got [] 1)
    × (inputs_at (120 ∷ 54 ∷ 10 ∷ 50 ∷ 10 ∷ 50 ∷ 10 ∷ []) 7 4 1 ≡ no (Number NoDigit) 7)
    -- the second is over the limit
    × (inputs_at (120 ∷ 50 ∷ 10 ∷ 54 ∷ 10 ∷ []) 5 2 1 ≡ no (Number OverLimit) 3)
unfolding digits_of digits_at uint_at lit_at is_byte byte_at defined_at input_at inputs_at
inputs_pinned = (refl, refl, refl, refl, refl, refl, refl, refl, refl, refl, refl, refl)

-- 3. Latch lines. The limit is 5.

pub latches_pinned :
    -- `2 3 2` and `4 3 4`, which are unset, `2 3 1`, `2 3 0`, and `2 3`, whose reset is 0
    (stated_at (120 ∷ 50 ∷ 32 ∷ 51 ∷ 32 ∷ 50 ∷ 10 ∷ []) 5 1 ≡ got (stated_latch 2 3 2) 7)
    × (stated_at (120 ∷ 52 ∷ 32 ∷ 51 ∷ 32 ∷ 52 ∷ 10 ∷ []) 5 1 ≡ got (stated_latch 4 3 4) 7)
    × (stated_at (120 ∷ 50 ∷ 32 ∷ 51 ∷ 32 ∷ 49 ∷ 10 ∷ []) 5 1 ≡ got (stated_latch 2 3 1) 7)
    × (stated_at (120 ∷ 50 ∷ 32 ∷ 51 ∷ 32 ∷ 48 ∷ 10 ∷ []) 5 1 ≡ got (stated_latch 2 3 0) 7)
    × (stated_at (120 ∷ 50 ∷ 32 ∷ 51 ∷ 10 ∷ []) 5 1 ≡ got (stated_latch 2 3 0) 5)
    -- `2 3 4`, and `2 3 3`, the literal negated: 22 at the reset, before 18; `2 3 6`: 12 before 22
    × (stated_at (120 ∷ 50 ∷ 32 ∷ 51 ∷ 32 ∷ 52 ∷ 10 ∷ []) 5 1 ≡ no Reset 5)
    × (stated_at (120 ∷ 50 ∷ 32 ∷ 51 ∷ 32 ∷ 51 ∷ 10 ∷ []) 5 1 ≡ no Reset 5)
    × (stated_at (120 ∷ 50 ∷ 32 ∷ 51 ∷ 32 ∷ 52 ∷ []) 5 1 ≡ no Reset 5)
    × (stated_at (120 ∷ 50 ∷ 32 ∷ 51 ∷ 32 ∷ 54 ∷ 10 ∷ []) 5 1 ≡ no (Number OverLimit) 5)
    -- `2 6`: 12 at the next state; `2  3`: 10 at the second space; `2`: 18 at the newline
    × (stated_at (120 ∷ 50 ∷ 32 ∷ 54 ∷ 10 ∷ []) 5 1 ≡ no (Number OverLimit) 3)
    × (stated_at (120 ∷ 50 ∷ 32 ∷ 32 ∷ 51 ∷ 10 ∷ []) 5 1 ≡ no (Number NoDigit) 3)
    × (stated_at (120 ∷ 50 ∷ 10 ∷ []) 5 1 ≡ no Missing 2)
    -- a next state is not defined, so it may be 0 or odd; a state may not
    × (stated_at (120 ∷ 52 ∷ 32 ∷ 48 ∷ 10 ∷ []) 5 1 ≡ got (stated_latch 4 0 0) 5)
    × (stated_at (120 ∷ 48 ∷ 32 ∷ 50 ∷ 10 ∷ []) 5 1 ≡ no (Number AssignsZero) 1)
    × (stated_at (120 ∷ 55 ∷ 32 ∷ 50 ∷ 10 ∷ []) 5 1 ≡ no (Number AssignsOdd) 1)
    × (stated_at (120 ∷ 54 ∷ 32 ∷ 50 ∷ 10 ∷ []) 5 1 ≡ no (Number OverLimit) 1)
    -- a space behind the reset, a carriage return, the end
    × (stated_at (120 ∷ 50 ∷ 32 ∷ 51 ∷ 32 ∷ 49 ∷ 32 ∷ 10 ∷ []) 5 1 ≡ no Missing 6)
    × (stated_at (120 ∷ 50 ∷ 32 ∷ 51 ∷ 32 ∷ 49 ∷ 13 ∷ 10 ∷ []) 5 1 ≡ no Missing 6)
    × (stated_at (120 ∷ 50 ∷ 32 ∷ 51 ∷ 32 ∷ 49 ∷ []) 5 1 ≡ no Missing 6)
    × (stated_at (120 ∷ 50 ∷ 32 ∷ 51 ∷ []) 5 1 ≡ no Missing 4)
    -- 4 3 1\n2 5\n: two lines in their order, one, none; a third; the second has the first one's literal for its reset
    × (latches_at (120 ∷ 52 ∷ 32 ∷ 51 ∷ 32 ∷ 49 ∷ 10 ∷ 50 ∷ 32 ∷ 53 ∷ 10 ∷ []) 5 2 1 ≡ got (stated_latch 4 3 1 ∷ stated_latch 2 5 0 ∷ []) 11)
    × (latches_at (120 ∷ 52 ∷ 32 ∷ 51 ∷ 32 ∷ 49 ∷ 10 ∷ 50 ∷ 32 ∷ 53 ∷ 10 ∷ []) 5 1 1 ≡ got (stated_latch 4 3 1 ∷ []) 7)
    × (latches_at (120 ∷ 52 ∷ 32 ∷ 51 ∷ 32 ∷ 49 ∷ 10 ∷ 50 ∷ 32 ∷ 53 ∷ 10 ∷ []) 5 0 1 ≡ got [] 1)
    × (latches_at (120 ∷ 52 ∷ 32 ∷ 51 ∷ 32 ∷ 49 ∷ 10 ∷ 50 ∷ 32 ∷ 53 ∷ 10 ∷ []) 5 3 1 ≡ no (Number NoDigit) 11)
    × (latches_at (120 ∷ 52 ∷ 32 ∷ 51 ∷ 32 ∷ 49 ∷ 10 ∷ 50 ∷ 32 ∷ 53 ∷ 32 ∷ 52 ∷ 10 ∷ []) 5 2 1 ≡ no Reset 11)
unfolding digits_of digits_at uint_at lit_at header_field_at is_byte byte_at number_at defined_at reset_line_at reset_at latch_at stated_at latches_at
latches_pinned = (
  refl,
  refl,
  refl,
  refl,
  refl,
  refl,
  refl,
  refl,
  refl,
  refl,
  refl,
  refl,
  refl,
  refl,
  refl,
  refl,
  refl,
  refl,
  refl,
  refl,
  refl,
  refl,
  refl,
  refl,
  refl,
)

-- 4. Gate lines. The limit is 7.

pub gates_pinned :
    -- `6 4 2`; inputs over the output, odd, constant
    (gate_at (120 ∷ 54 ∷ 32 ∷ 52 ∷ 32 ∷ 50 ∷ 10 ∷ []) 7 1 ≡ got (gate_with 6 4 2) 7)
    × (gate_at (120 ∷ 50 ∷ 32 ∷ 55 ∷ 32 ∷ 48 ∷ 10 ∷ []) 7 1 ≡ got (gate_with 2 7 0) 7)
    × (gate_at (120 ∷ 50 ∷ 32 ∷ 48 ∷ 32 ∷ 55 ∷ 10 ∷ []) 7 1 ≡ got (gate_with 2 0 7) 7)
    -- `6 4` and `6`: 18 at the newline; `6 4 2 `: 18 at the space; a carriage return; the end
    × (gate_at (120 ∷ 54 ∷ 32 ∷ 52 ∷ 10 ∷ []) 7 1 ≡ no Missing 4)
    × (gate_at (120 ∷ 54 ∷ 10 ∷ []) 7 1 ≡ no Missing 2)
    × (gate_at (120 ∷ 54 ∷ 32 ∷ 52 ∷ 32 ∷ 50 ∷ 32 ∷ 10 ∷ []) 7 1 ≡ no Missing 6)
    × (gate_at (120 ∷ 54 ∷ 32 ∷ 52 ∷ 32 ∷ 50 ∷ 13 ∷ 10 ∷ []) 7 1 ≡ no Missing 6)
    × (gate_at (120 ∷ 54 ∷ 32 ∷ 52 ∷ 32 ∷ 50 ∷ []) 7 1 ≡ no Missing 6)
    -- `7 4 2`: 14; `8 4 2`: 12 at the output; `6 8 2` and `6 4 8`: 12 at the input; `6  4 2` and `6 4  2`: 10 at the second space
    × (gate_at (120 ∷ 55 ∷ 32 ∷ 52 ∷ 32 ∷ 50 ∷ 10 ∷ []) 7 1 ≡ no (Number AssignsOdd) 1)
    × (gate_at (120 ∷ 56 ∷ 32 ∷ 52 ∷ 32 ∷ 50 ∷ 10 ∷ []) 7 1 ≡ no (Number OverLimit) 1)
    × (gate_at (120 ∷ 54 ∷ 32 ∷ 56 ∷ 32 ∷ 50 ∷ 10 ∷ []) 7 1 ≡ no (Number OverLimit) 3)
    × (gate_at (120 ∷ 54 ∷ 32 ∷ 52 ∷ 32 ∷ 56 ∷ 10 ∷ []) 7 1 ≡ no (Number OverLimit) 5)
    × (gate_at (120 ∷ 54 ∷ 32 ∷ 32 ∷ 52 ∷ 32 ∷ 50 ∷ 10 ∷ []) 7 1 ≡ no (Number NoDigit) 3)
    × (gate_at (120 ∷ 54 ∷ 32 ∷ 52 ∷ 32 ∷ 32 ∷ 50 ∷ 10 ∷ []) 7 1 ≡ no (Number NoDigit) 5)
    -- the rest of a line alone, with its output
    × (input_pair_at (120 ∷ 32 ∷ 52 ∷ 32 ∷ 50 ∷ 10 ∷ []) 7 9 1 ≡ got (gate_with 9 4 2) 6)
    -- 6 4 2\n4 2 3\n: two lines in their order, the other way round, one, none; a third
    × (gates_at (120 ∷ 54 ∷ 32 ∷ 52 ∷ 32 ∷ 50 ∷ 10 ∷ 52 ∷ 32 ∷ 50 ∷ 32 ∷ 51 ∷ 10 ∷ []) 7 2 1 ≡ got (gate_with 6 4 2 ∷ gate_with 4 2 3 ∷ []) 13)
    × (gates_at (120 ∷ 52 ∷ 32 ∷ 50 ∷ 32 ∷ 51 ∷ 10 ∷ 54 ∷ 32 ∷ 52 ∷ 32 ∷ 50 ∷ 10 ∷ []) 7 2 1 ≡ got (gate_with 4 2 3 ∷ gate_with 6 4 2 ∷ []) 13)
    × (gates_at (120 ∷ 54 ∷ 32 ∷ 52 ∷ 32 ∷ 50 ∷ 10 ∷ 52 ∷ 32 ∷ 50 ∷ 32 ∷ 51 ∷ 10 ∷ []) 7 1 1 ≡ got (gate_with 6 4 2 ∷ []) 7)
    × (gates_at (120 ∷ 54 ∷ 32 ∷ 52 ∷ 32 ∷ 50 ∷ 10 ∷ 52 ∷ 32 ∷ 50 ∷ 32 ∷ 51 ∷ 10 ∷ []) 7 0 1 ≡ got [] 1)
    × (gates_at (120 ∷ 54 ∷ 32 ∷ 52 ∷ 32 ∷ 50 ∷ 10 ∷ 52 ∷ 32 ∷ 50 ∷ 32 ∷ 51 ∷ 10 ∷ []) 7 3 1 ≡ no (Number NoDigit) 13)
    -- the second is over the limit
    × (gates_at (120 ∷ 54 ∷ 32 ∷ 52 ∷ 32 ∷ 50 ∷ 10 ∷ 56 ∷ 32 ∷ 50 ∷ 32 ∷ 51 ∷ 10 ∷ []) 7 2 1 ≡ no (Number OverLimit) 7)
unfolding digits_of digits_at uint_at lit_at header_field_at is_byte byte_at number_at count_at defined_at input_pair_at gate_at gates_at
gates_pinned = (refl, refl, refl, refl, refl, refl, refl, refl, refl, refl, refl, refl, refl, refl, refl, refl, refl, refl, refl, refl, refl)

-- 5. The words of the contracts.

pub answers_pinned :
    (stated_latch 5 6 7 ≡ record { state = 5; next = 6; reset = 7 })
    × (states_of (stated_latch 5 6 7 ∷ stated_latch 15 16 17 ∷ []) ≡ (5 ∷ 15 ∷ []))
    × (nexts_of (stated_latch 5 6 7 ∷ stated_latch 15 16 17 ∷ []) ≡ (6 ∷ 16 ∷ []))
    × (resets_of (stated_latch 5 6 7 ∷ stated_latch 15 16 17 ∷ []) ≡ (7 ∷ 17 ∷ []))
    × (gate_with 5 6 7 ≡ record { output = 5; first = 6; second = 7 })
    × (stated_read (got (stated_latch 5 6 7) 9) ≡ Ok (record { state = 5; next = 6; reset = 7; after = 9 }))
    × (stated_read (no Above 9) ≡ broken Above 9)
    × (gate_read (got (gate_with 5 6 7) 9) ≡ Ok (record { output = 5; first = 6; second = 7; after = 9 }))
    × (gate_read (no Above 9) ≡ broken Above 9)
    × (latch_lists (1 ∷ []) (2 ∷ []) (3 ∷ []) ≡ record { states = (1 ∷ []); nexts = (2 ∷ []); resets = (3 ∷ []) })
    × (section_seen {L = List ℕ} (Ok 7) (1 ∷ []) ≡ record { answer = Ok 7; lists = (1 ∷ []) })
    -- into a longer list, whose other words stay, and into a shorter one; all 0 where a line is refused
    × (section_left put_numbers no_numbers (got (5 ∷ 6 ∷ []) 7) (9 ∷ 8 ∷ 4 ∷ []) ≡ section_seen (Ok 7) (5 ∷ 6 ∷ 4 ∷ []))
    × (section_left put_numbers no_numbers (got (5 ∷ 6 ∷ []) 7) (9 ∷ []) ≡ section_seen (Ok 7) (5 ∷ []))
    × (section_left put_numbers no_numbers (no Above 2) (9 ∷ 8 ∷ 4 ∷ []) ≡ section_seen (broken Above 2) (0 ∷ 0 ∷ 0 ∷ []))
    -- three words a gate
    × (section_left put_gates no_numbers (got (gate_with 6 4 2 ∷ []) 7) (9 ∷ 8 ∷ 5 ∷ 3 ∷ []) ≡ section_seen (Ok 7) (6 ∷ 4 ∷ 2 ∷ 3 ∷ []))
    × (section_left put_gates no_numbers (got (gate_with 6 4 2 ∷ gate_with 10 11 12 ∷ []) 7) (9 ∷ 8 ∷ 5 ∷ 3 ∷ 1 ∷ []) ≡ section_seen (Ok 7)
    (6 ∷ 4 ∷ 2 ∷ 10 ∷ 11 ∷ []))
    -- each of a latch's three in its list
    × (section_left put_latches no_latches (got (stated_latch 5 15 25 ∷ stated_latch 6 16 26 ∷ []) 7)
    (latch_lists (9 ∷ 8 ∷ 7 ∷ []) (19 ∷ []) (29 ∷ 28 ∷ 27 ∷ 20 ∷ []))
    ≡ section_seen (Ok 7) (latch_lists (5 ∷ 6 ∷ 7 ∷ []) (15 ∷ []) (25 ∷ 26 ∷ 27 ∷ 20 ∷ [])))
    × (section_left put_latches no_latches (no Above 2) (latch_lists (9 ∷ []) (19 ∷ 18 ∷ []) (29 ∷ 28 ∷ 27 ∷ []))
    ≡ section_seen (broken Above 2) (latch_lists (0 ∷ []) (0 ∷ 0 ∷ []) (0 ∷ 0 ∷ 0 ∷ [])))
answers_pinned = (refl, refl, refl, refl, refl, refl, refl, refl, refl, refl, refl, refl, refl, refl, refl, refl, refl, refl)

-- what is read is put into the list; of a refusal only the answer is told
pub stores_pinned : (e : Result ℕ Broken) (list : List ℕ) (lists : LatchLists)
    → (◌≡◌ {A = Type 0} (Stores put_numbers (got (5 ∷ 6 ∷ []) 7) e (9 ∷ 8 ∷ 4 ∷ []) list) ((e ≡ Ok 7) × (list ≡ (5 ∷ 6 ∷ 4 ∷ []))))
    × (◌≡◌ {A = Type 0} (Stores put_numbers (no Above 7) e (9 ∷ 8 ∷ 4 ∷ []) list) (e ≡ broken Above 7))
    × (◌≡◌ {A = Type 0} (Stores put_latches (got (stated_latch 5 15 25 ∷ []) 7) e (latch_lists (9 ∷ []) (19 ∷ []) (29 ∷ [])) lists)
    ((e ≡ Ok 7) × (lists ≡ latch_lists (5 ∷ []) (15 ∷ []) (25 ∷ []))))
stores_pinned e list lists = (refl, refl, refl)
