-- Texts by example, worked out from document 02: what is tested right after the header, texts by their parts and whole, and what is left of every list and
-- number. The lists are dirty, each with numbers of its own, and longer than asked; the words past those asked for are seen to stay, and every word of a
-- refused text's lists to be 0. By computation. Assumes nothing.
use Prim.Native.Nat.{ℕ}
use mathlib.Core.Path.{◌≡◌, refl}
use mathlib.Core.Bool.{true, false}
use mathlib.Core.List.{List, [], ◌∷◌}
use native.Mathlib.Omega.{arith}
use Rattle.token.specs.Format.{digits_of}
use Rattle.token.specs.Answer.{digits_at, uint_at, header_field_at, lit_at}
use Rattle.token.specs.declared.Reason.TheVariants.{NoDigit, LeadingZero, OverLimit, AssignsZero, AssignsOdd}
use Rattle.circuit.specs.Graph.{Gate}
use Rattle.lines.specs.declared.Fault.{Fault}
use Rattle.lines.specs.declared.Fault.TheVariants.{Number, Missing, Above, TooMany, Short, Reset}
use Rattle.lines.specs.declared.Header.{Header}
use Rattle.std.specs.Prelude.{Result, Ok}
use Rattle.lines.specs.declared.Broken.{Broken}
use Rattle.lines.specs.declared.Reading.{Reading}
use Rattle.lines.specs.Promise.{broken, reading_of}
use Rattle.lines.specs.Reading.{got, no}
use Rattle.lines.specs.Lines.{is_byte, byte_at, tag_at, number_at, line_at, lines_at, reset_line_at, reset_at, latch_at}
use Rattle.lines.specs.Sections.{roots_of, count_at, others_at, counts_at, header_at, root_room_at, properties_at, sizes_at, roots_at}
use Rattle.ascii_lines.specs.Lines.{defined_at, input_at, inputs_at, stated_latch, stated_at, latches_at, input_pair_at, gate_with, gate_at, gates_at}
use Rattle.ascii.specs.Tag.{tag}
use Rattle.ascii.specs.Text.{Text, circuit_in, Room, room_for, text_with, sized_at, lists_at, body_at, read_text}
use Rattle.ascii.specs.Known.{defined_in}
use Rattle.ascii.specs.Promise.{Lists, lists_of, room_of, written, cleared, StoresText, answered, numbers, Outcome, seen, left, outcome, Roomy}

-- 1. Right after the header.

-- M I L O A B C J F
abbrev header : ℕ → ℕ → ℕ → ℕ → ℕ → ℕ → ℕ → ℕ → ℕ → Header
header m i l o a b c j f =
    record { top = m; inputs = i; latches = l; outputs = o; gates = a; bad = b; constraints = c; justice = j; fairness = f }

-- cells for inputs, states, next states, resets, gates, sizes, roots
abbrev room : ℕ → ℕ → ℕ → ℕ → ℕ → ℕ → ℕ → Room
room inputs states nexts resets gates sizes roots =
    record { inputs = inputs; states = states; nexts = nexts; resets = resets; gates = gates; sizes = sizes; roots = roots }

-- M, inputs, states, next states, resets, gates, counts, sizes, roots
abbrev text : ℕ → List ℕ → List ℕ → List ℕ → List ℕ → List Gate → List ℕ → List ℕ → List ℕ → Text
text top inputs states nexts resets gates counts sizes roots =
    record {
      top = top;
      inputs = inputs;
      states = states;
      nexts = nexts;
      resets = resets;
      gates = gates;
      counts = counts;
      sizes = sizes;
      roots = roots;
    }

pub sized_pinned :
    (tag ≡ (97 ∷ 97 ∷ 103 ∷ []))
    × (room_for 5 8 6 7 9 4 ≡ room 5 8 6 7 9 4 0)
    × (text_with (header 21 22 23 24 25 26 27 28 29) (31 ∷ 32 ∷ []) (stated_latch 1 2 3 ∷ stated_latch 6 7 8 ∷ []) (roots_of (4 ∷ 3 ∷ []) (5 ∷ []))
    (gate_with 41 42 43 ∷ [])
    ≡ text 21 (31 ∷ 32 ∷ []) (1 ∷ 6 ∷ []) (2 ∷ 7 ∷ []) (3 ∷ 8 ∷ []) (gate_with 41 42 43 ∷ []) (24 ∷ 26 ∷ 27 ∷ 29 ∷ 7 ∷ []) (4 ∷ 3 ∷ []) (5 ∷ []))
    -- I = 2, L = 3, A = 5, four justice sets: M = 10, and 11; every list but the roots' just long enough, and each a cell too short
    × (sized_at (header 10 2 3 9 5 9 9 4 9) (room 2 3 3 3 15 4 0) 7 ≡ got tt 7)
    × (sized_at (header 11 2 3 9 5 9 9 4 9) (room 2 3 3 3 15 4 0) 7 ≡ got tt 7)
    × (sized_at (header 10 2 3 9 5 9 9 4 9) (room 1 3 3 3 15 4 0) 7 ≡ no Short 7)
    × (sized_at (header 10 2 3 9 5 9 9 4 9) (room 2 2 3 3 15 4 0) 7 ≡ no Short 7)
    × (sized_at (header 10 2 3 9 5 9 9 4 9) (room 2 3 2 3 15 4 0) 7 ≡ no Short 7)
    × (sized_at (header 10 2 3 9 5 9 9 4 9) (room 2 3 3 2 15 4 0) 7 ≡ no Short 7)
    × (sized_at (header 10 2 3 9 5 9 9 4 9) (room 2 3 3 3 14 4 0) 7 ≡ no Short 7)
    × (sized_at (header 10 2 3 9 5 9 9 4 9) (room 2 3 3 3 15 3 0) 7 ≡ no Short 7)
unfolding sized_at
sized_pinned = (refl, refl, refl, refl, refl, refl, refl, refl, refl, refl, refl)

-- lists that are long enough for it, and each a cell too short
pub roomy_pinned :
    Roomy (header 10 2 3 9 5 9 9 4 9) (room 2 3 3 3 15 4 0)
    × (Roomy (header 10 2 3 9 5 9 9 4 9) (room 1 4 4 4 16 5 0) → ⊥)
    × (Roomy (header 10 2 3 9 5 9 9 4 9) (room 3 2 4 4 16 5 0) → ⊥)
    × (Roomy (header 10 2 3 9 5 9 9 4 9) (room 3 4 2 4 16 5 0) → ⊥)
    × (Roomy (header 10 2 3 9 5 9 9 4 9) (room 3 4 4 2 16 5 0) → ⊥)
    × (Roomy (header 10 2 3 9 5 9 9 4 9) (room 3 4 4 4 14 5 0) → ⊥)
    × (Roomy (header 10 2 3 9 5 9 9 4 9) (room 3 4 4 4 16 3 0) → ⊥)
roomy_pinned = (
  record {
    inputs_fit = omega arith;
    states_fit = omega arith;
    nexts_fit = omega arith;
    resets_fit = omega arith;
    gates_fit = omega arith;
    sizes_fit = omega arith;
  },
  λ r. omega (arith, r.inputs_fit),
  λ r. omega (arith, r.states_fit),
  λ r. omega (arith, r.nexts_fit),
  λ r. omega (arith, r.resets_fit),
  λ r. omega (arith, r.gates_fit),
  λ r. omega (arith, r.sizes_fit),
)

-- 2. A text by its parts.

-- aag 9 2 1 2 3 1 1 2 1, inputs 4 and 18, latch 6 with next state 8 and reset 1, outputs 12 and 13, bad 9, constraint 5, sizes 2 and 1, justice 6 and 11 and
-- 5, fairness 7, then 12 10 9, 8 6 4 and 10 8 19: gates in no order, and M above I + L + A
abbrev small : List ℕ
small =
    (97 ∷ 97 ∷ 103 ∷ 32 ∷ 57 ∷ 32 ∷ 50 ∷ 32 ∷ 49 ∷ 32 ∷ 50 ∷ 32 ∷ 51 ∷ 32 ∷ 49 ∷ 32 ∷ 49 ∷ 32 ∷ 50 ∷ 32 ∷ 49 ∷ 10 ∷ 52 ∷ 10 ∷ 49 ∷ 56 ∷ 10 ∷ 54 ∷ 32 ∷ 56 ∷
    32 ∷ 49 ∷ 10 ∷ 49 ∷ 50 ∷ 10 ∷ 49 ∷ 51 ∷ 10 ∷ 57 ∷ 10 ∷ 53 ∷ 10 ∷ 50 ∷ 10 ∷ 49 ∷ 10 ∷ 54 ∷ 10 ∷ 49 ∷ 49 ∷ 10 ∷ 53 ∷ 10 ∷ 55 ∷ 10 ∷ 49 ∷ 50 ∷ 32 ∷ 49 ∷
    48 ∷ 32 ∷ 57 ∷ 10 ∷ 56 ∷ 32 ∷ 54 ∷ 32 ∷ 52 ∷ 10 ∷ 49 ∷ 48 ∷ 32 ∷ 56 ∷ 32 ∷ 49 ∷ 57 ∷ 10 ∷ [])

abbrev small_text : Text
small_text =
    text 9 (4 ∷ 18 ∷ []) (6 ∷ []) (8 ∷ []) (1 ∷ []) (gate_with 12 10 9 ∷ gate_with 8 6 4 ∷ gate_with 10 8 19 ∷ []) (2 ∷ 1 ∷ 1 ∷ 1 ∷ 3 ∷ []) (2 ∷ 1 ∷ [])
    (12 ∷ 13 ∷ 9 ∷ 5 ∷ 7 ∷ 6 ∷ 11 ∷ 5 ∷ [])

abbrev small_header : Header
small_header = header 9 2 1 2 3 1 1 2 1

-- aag 6 1 2 0 1, input 2, latch 4 with next state 8 and no reset, latch 6 with next state 5 and unset, and 8 6 2: no root
abbrev rootless : List ℕ
rootless =
    (97 ∷ 97 ∷ 103 ∷ 32 ∷ 54 ∷ 32 ∷ 49 ∷ 32 ∷ 50 ∷ 32 ∷ 48 ∷ 32 ∷ 49 ∷ 10 ∷ 50 ∷ 10 ∷ 52 ∷ 32 ∷ 56 ∷ 10 ∷ 54 ∷ 32 ∷ 53 ∷ 32 ∷ 54 ∷ 10 ∷ 56 ∷ 32 ∷ 54 ∷ 32 ∷
    50 ∷ 10 ∷ [])

abbrev rootless_text : Text
rootless_text = text 6 (2 ∷ []) (4 ∷ 6 ∷ []) (8 ∷ 5 ∷ []) (0 ∷ 6 ∷ []) (gate_with 8 6 2 ∷ []) (0 ∷ 0 ∷ 0 ∷ 0 ∷ 0 ∷ []) [] []

-- from the end of the header on, and the whole, into lists that are just long enough, and too short for the roots; the text as a circuit
pub parts_pinned :
    (lists_at small 8 small_header 22 ≡ got small_text 78)
    × (lists_at small 7 small_header 22 ≡ no Short 47)
    × (lists_at rootless 0 (header 6 1 2 0 1 0 0 0 0) 14 ≡ got rootless_text 32)
    × (body_at small (room 2 1 1 1 9 2 8) small_header 22 ≡ got small_text 78)
    × (body_at small (room 9 9 9 9 9 9 7) small_header 22 ≡ no Short 47)
    × (body_at small (room 9 9 9 9 8 9 9) small_header 22 ≡ no Short 22)
    × (read_text small (room 2 1 1 1 9 2 8) ≡ got small_text 78)
    × (read_text small (room 9 9 9 9 9 1 9) ≡ no Short 22)
    × (defined_in small_text ≡ (4 ∷ 18 ∷ 6 ∷ 12 ∷ 8 ∷ 10 ∷ []))
    × (circuit_in small_text true false true
    ≡ record {
      top = 9;
      inputs = 4 ∷ 18 ∷ [];
      states = 6 ∷ [];
      nexts = 8 ∷ [];
      resets = 1 ∷ [];
      gates = gate_with 12 10 9 ∷ gate_with 8 6 4 ∷ gate_with 10 8 19 ∷ [];
      counts = 2 ∷ 1 ∷ 1 ∷ 1 ∷ 3 ∷ [];
      roots = 12 ∷ 13 ∷ 9 ∷ 5 ∷ 7 ∷ 6 ∷ 11 ∷ 5 ∷ [];
      trim = true;
      hash = false;
      fold = true;
    })
    × ((circuit_in small_text false true false).trim ≡ false)
    × ((circuit_in small_text false true false).hash ≡ true)
    × ((circuit_in small_text false true false).fold ≡ false)
unfolding digits_of digits_at uint_at header_field_at lit_at is_byte byte_at tag_at number_at line_at lines_at reset_line_at reset_at latch_at count_at others_at counts_at
    header_at root_room_at properties_at sizes_at roots_at defined_at input_at inputs_at stated_at latches_at input_pair_at gate_at gates_at sized_at lists_at body_at read_text
parts_pinned = (refl, refl, refl, refl, refl, refl, refl, refl, refl, refl, refl, refl, refl)

-- 3. What a text is read as.

-- lists that are long enough for each
abbrev wide : Room
wide = room 9 9 9 9 9 9 9

-- five counts that are 0
abbrev none : List ℕ
none = 0 ∷ 0 ∷ 0 ∷ 0 ∷ 0 ∷ []

pub texts_pinned :
    -- the empty one
    -- aag 0 0 0 0 0\n
    (read_text (97 ∷ 97 ∷ 103 ∷ 32 ∷ 48 ∷ 32 ∷ 48 ∷ 32 ∷ 48 ∷ 32 ∷ 48 ∷ 32 ∷ 48 ∷ 10 ∷ []) wide ≡ got (text 0 [] [] [] [] [] none [] []) 14)
    -- an input; one variable defined twice; M above the variables that are defined
    -- aag 1 1 0 0 0\n2\n
    × (read_text (97 ∷ 97 ∷ 103 ∷ 32 ∷ 49 ∷ 32 ∷ 49 ∷ 32 ∷ 48 ∷ 32 ∷ 48 ∷ 32 ∷ 48 ∷ 10 ∷ 50 ∷ 10 ∷ []) wide ≡ got (text 1 (2 ∷ []) [] [] [] [] none [] []) 16)
    -- aag 2 2 0 0 0\n2\n2\n
    × (read_text (97 ∷ 97 ∷ 103 ∷ 32 ∷ 50 ∷ 32 ∷ 50 ∷ 32 ∷ 48 ∷ 32 ∷ 48 ∷ 32 ∷ 48 ∷ 10 ∷ 50 ∷ 10 ∷ 50 ∷ 10 ∷ []) wide
    ≡ got (text 2 (2 ∷ 2 ∷ []) [] [] [] [] none [] []) 18)
    -- aag 7 1 0 0 0\n2\n
    × (read_text (97 ∷ 97 ∷ 103 ∷ 32 ∷ 55 ∷ 32 ∷ 49 ∷ 32 ∷ 48 ∷ 32 ∷ 48 ∷ 32 ∷ 48 ∷ 10 ∷ 50 ∷ 10 ∷ []) wide ≡ got (text 7 (2 ∷ []) [] [] [] [] none [] []) 16)
    -- a latch that is unset, that starts at 1, at 0, and at 0 with no reset there
    -- aag 1 0 1 0 0\n2 3 2\n
    × (read_text (97 ∷ 97 ∷ 103 ∷ 32 ∷ 49 ∷ 32 ∷ 48 ∷ 32 ∷ 49 ∷ 32 ∷ 48 ∷ 32 ∷ 48 ∷ 10 ∷ 50 ∷ 32 ∷ 51 ∷ 32 ∷ 50 ∷ 10 ∷ []) wide
    ≡ got (text 1 [] (2 ∷ []) (3 ∷ []) (2 ∷ []) [] none [] []) 20)
    -- aag 1 0 1 0 0\n2 3 1\n
    × (read_text (97 ∷ 97 ∷ 103 ∷ 32 ∷ 49 ∷ 32 ∷ 48 ∷ 32 ∷ 49 ∷ 32 ∷ 48 ∷ 32 ∷ 48 ∷ 10 ∷ 50 ∷ 32 ∷ 51 ∷ 32 ∷ 49 ∷ 10 ∷ []) wide
    ≡ got (text 1 [] (2 ∷ []) (3 ∷ []) (1 ∷ []) [] none [] []) 20)
    -- aag 1 0 1 0 0\n2 3 0\n
    × (read_text (97 ∷ 97 ∷ 103 ∷ 32 ∷ 49 ∷ 32 ∷ 48 ∷ 32 ∷ 49 ∷ 32 ∷ 48 ∷ 32 ∷ 48 ∷ 10 ∷ 50 ∷ 32 ∷ 51 ∷ 32 ∷ 48 ∷ 10 ∷ []) wide
    ≡ got (text 1 [] (2 ∷ []) (3 ∷ []) (0 ∷ []) [] none [] []) 20)
    -- aag 1 0 1 0 0\n2 3\n
    × (read_text (97 ∷ 97 ∷ 103 ∷ 32 ∷ 49 ∷ 32 ∷ 48 ∷ 32 ∷ 49 ∷ 32 ∷ 48 ∷ 32 ∷ 48 ∷ 10 ∷ 50 ∷ 32 ∷ 51 ∷ 10 ∷ []) wide
    ≡ got (text 1 [] (2 ∷ []) (3 ∷ []) (0 ∷ []) [] none [] []) 18)
    -- an AND of two inputs, and the same with bytes behind it, which are not read
    -- aag 3 2 0 1 1\n2\n4\n6\n6 4 2\n
    × (read_text (97 ∷ 97 ∷ 103 ∷ 32 ∷ 51 ∷ 32 ∷ 50 ∷ 32 ∷ 48 ∷ 32 ∷ 49 ∷ 32 ∷ 49 ∷ 10 ∷ 50 ∷ 10 ∷ 52 ∷ 10 ∷ 54 ∷ 10 ∷ 54 ∷ 32 ∷ 52 ∷ 32 ∷ 50 ∷ 10 ∷
    []) wide ≡ got (text 3 (2 ∷ 4 ∷ []) [] [] [] (gate_with 6 4 2 ∷ []) (1 ∷ 0 ∷ 0 ∷ 0 ∷ 0 ∷ []) [] (6 ∷ [])) 26)
    -- aag 3 2 0 1 1\n2\n4\n6\n6 4 2\ni0 a\n
    × (read_text (97 ∷ 97 ∷ 103 ∷ 32 ∷ 51 ∷ 32 ∷ 50 ∷ 32 ∷ 48 ∷ 32 ∷ 49 ∷ 32 ∷ 49 ∷ 10 ∷ 50 ∷ 10 ∷ 52 ∷ 10 ∷ 54 ∷ 10 ∷ 54 ∷ 32 ∷ 52 ∷ 32 ∷ 50 ∷ 10 ∷ 105 ∷
    48 ∷ 32 ∷ 97 ∷ 10 ∷ []) wide ≡ got (text 3 (2 ∷ 4 ∷ []) [] [] [] (gate_with 6 4 2 ∷ []) (1 ∷ 0 ∷ 0 ∷ 0 ∷ 0 ∷ []) [] (6 ∷ [])) 26)
    -- gates in the order of the text, whichever reads the other, and their inputs as they are written; a gate that reads itself
    -- aag 3 1 0 1 2\n2\n6\n6 4 2\n4 2 2\n
    × (read_text (97 ∷ 97 ∷ 103 ∷ 32 ∷ 51 ∷ 32 ∷ 49 ∷ 32 ∷ 48 ∷ 32 ∷ 49 ∷ 32 ∷ 50 ∷ 10 ∷ 50 ∷ 10 ∷ 54 ∷ 10 ∷ 54 ∷ 32 ∷ 52 ∷ 32 ∷ 50 ∷ 10 ∷ 52 ∷ 32 ∷ 50 ∷ 32 ∷
    50 ∷ 10 ∷ []) wide ≡ got (text 3 (2 ∷ []) [] [] [] (gate_with 6 4 2 ∷ gate_with 4 2 2 ∷ []) (1 ∷ 0 ∷ 0 ∷ 0 ∷ 0 ∷ []) [] (6 ∷ [])) 30)
    -- aag 3 1 0 1 2\n2\n6\n4 2 2\n6 2 4\n
    × (read_text (97 ∷ 97 ∷ 103 ∷ 32 ∷ 51 ∷ 32 ∷ 49 ∷ 32 ∷ 48 ∷ 32 ∷ 49 ∷ 32 ∷ 50 ∷ 10 ∷ 50 ∷ 10 ∷ 54 ∷ 10 ∷ 52 ∷ 32 ∷ 50 ∷ 32 ∷ 50 ∷ 10 ∷ 54 ∷ 32 ∷ 50 ∷ 32 ∷
    52 ∷ 10 ∷ []) wide ≡ got (text 3 (2 ∷ []) [] [] [] (gate_with 4 2 2 ∷ gate_with 6 2 4 ∷ []) (1 ∷ 0 ∷ 0 ∷ 0 ∷ 0 ∷ []) [] (6 ∷ [])) 30)
    -- aag 1 0 0 0 1\n2 2 2\n
    × (read_text (97 ∷ 97 ∷ 103 ∷ 32 ∷ 49 ∷ 32 ∷ 48 ∷ 32 ∷ 48 ∷ 32 ∷ 48 ∷ 32 ∷ 49 ∷ 10 ∷ 50 ∷ 32 ∷ 50 ∷ 32 ∷ 50 ∷ 10 ∷ []) wide
    ≡ got (text 1 [] [] [] [] (gate_with 2 2 2 ∷ []) none [] []) 20)
    -- justice before fairness in the text, and behind it among the roots
    -- aag 4 2 0 0 2 0 0 1 1\n2\n4\n1\n6\n8\n6 4 2\n8 6 4\n
    × (read_text (97 ∷ 97 ∷ 103 ∷ 32 ∷ 52 ∷ 32 ∷ 50 ∷ 32 ∷ 48 ∷ 32 ∷ 48 ∷ 32 ∷ 50 ∷ 32 ∷ 48 ∷ 32 ∷ 48 ∷ 32 ∷ 49 ∷ 32 ∷ 49 ∷ 10 ∷ 50 ∷ 10 ∷ 52 ∷ 10 ∷ 49 ∷ 10 ∷
    54 ∷ 10 ∷ 56 ∷ 10 ∷ 54 ∷ 32 ∷ 52 ∷ 32 ∷ 50 ∷ 10 ∷ 56 ∷ 32 ∷ 54 ∷ 32 ∷ 52 ∷ 10 ∷ []) wide
    ≡ got (text 4 (2 ∷ 4 ∷ []) [] [] [] (gate_with 6 4 2 ∷ gate_with 8 6 4 ∷ []) (0 ∷ 0 ∷ 0 ∷ 1 ∷ 1 ∷ []) (1 ∷ []) (8 ∷ 6 ∷ [])) 44)
    -- 1 and 3 for the roots where the sizes end, 1 before 3; and only there: an output that is missing comes before the list that is too short for ten
    -- aag 0 0 0 0 0 0 0 2\n1048575\n1\n
    × (read_text (97 ∷ 97 ∷ 103 ∷ 32 ∷ 48 ∷ 32 ∷ 48 ∷ 32 ∷ 48 ∷ 32 ∷ 48 ∷ 32 ∷ 48 ∷ 32 ∷ 48 ∷ 32 ∷ 48 ∷ 32 ∷ 50 ∷ 10 ∷ 49 ∷ 48 ∷ 52 ∷ 56 ∷ 53 ∷ 55 ∷ 53 ∷ 10 ∷
    49 ∷ 10 ∷ []) wide ≡ no TooMany 30)
    -- aag 0 0 0 0 0 0 0 2\n9\n1\n
    × (read_text (97 ∷ 97 ∷ 103 ∷ 32 ∷ 48 ∷ 32 ∷ 48 ∷ 32 ∷ 48 ∷ 32 ∷ 48 ∷ 32 ∷ 48 ∷ 32 ∷ 48 ∷ 32 ∷ 48 ∷ 32 ∷ 50 ∷ 10 ∷ 57 ∷ 10 ∷ 49 ∷ 10 ∷ []) wide
    ≡ no Short 24)
    -- aag 0 0 0 10 0\n
    × (read_text (97 ∷ 97 ∷ 103 ∷ 32 ∷ 48 ∷ 32 ∷ 48 ∷ 32 ∷ 48 ∷ 32 ∷ 49 ∷ 48 ∷ 32 ∷ 48 ∷ 10 ∷ []) wide ≡ no (Number NoDigit) 15)
unfolding digits_of digits_at uint_at header_field_at lit_at is_byte byte_at tag_at number_at line_at lines_at reset_line_at reset_at latch_at count_at others_at counts_at
    header_at root_room_at properties_at sizes_at roots_at defined_at input_at inputs_at stated_at latches_at input_pair_at gate_at gates_at sized_at lists_at body_at read_text
texts_pinned = (refl, refl, refl, refl, refl, refl, refl, refl, refl, refl, refl, refl, refl, refl, refl, refl, refl)

-- 4. What is left of a reading.

abbrev lists : List ℕ → List ℕ → List ℕ → List ℕ → List ℕ → List ℕ → List ℕ → Lists
lists inputs states nexts resets gates sizes roots =
    record { inputs = inputs; states = states; nexts = nexts; resets = resets; gates = gates; sizes = sizes; roots = roots }

-- lists that are longer than the text asks
abbrev dirty : Lists
dirty =
    lists (61 ∷ 62 ∷ 63 ∷ []) (71 ∷ 72 ∷ []) (21 ∷ 22 ∷ []) (51 ∷ 52 ∷ []) (81 ∷ 82 ∷ 83 ∷ 84 ∷ 85 ∷ 86 ∷ 87 ∷ 88 ∷ 89 ∷ 90 ∷ []) (31 ∷ 32 ∷ 33 ∷ [])
    (41 ∷ 42 ∷ 43 ∷ 44 ∷ 45 ∷ 46 ∷ 47 ∷ 48 ∷ 49 ∷ 50 ∷ [])

-- what is left of them: the text at their fronts
abbrev filled : Lists
filled =
    lists (4 ∷ 18 ∷ 63 ∷ []) (6 ∷ 72 ∷ []) (8 ∷ 22 ∷ []) (1 ∷ 52 ∷ []) (12 ∷ 10 ∷ 9 ∷ 8 ∷ 6 ∷ 4 ∷ 10 ∷ 8 ∷ 19 ∷ 90 ∷ []) (2 ∷ 1 ∷ 33 ∷ [])
    (12 ∷ 13 ∷ 9 ∷ 5 ∷ 7 ∷ 6 ∷ 11 ∷ 5 ∷ 49 ∷ 50 ∷ [])

abbrev clean : Lists
clean =
    lists (0 ∷ 0 ∷ 0 ∷ []) (0 ∷ 0 ∷ []) (0 ∷ 0 ∷ []) (0 ∷ 0 ∷ []) (0 ∷ 0 ∷ 0 ∷ 0 ∷ 0 ∷ 0 ∷ 0 ∷ 0 ∷ 0 ∷ 0 ∷ []) (0 ∷ 0 ∷ 0 ∷ [])
    (0 ∷ 0 ∷ 0 ∷ 0 ∷ 0 ∷ 0 ∷ 0 ∷ 0 ∷ 0 ∷ 0 ∷ [])

-- the bytes used, M, inputs, latches, gates, counts, sets, and the lists
abbrev leaves : ℕ → ℕ → ℕ → ℕ → ℕ → List ℕ → ℕ → Lists → Outcome
leaves used top inputs latches gates counts sets after =
    record {
      read = Ok (record { used = used; top = top; inputs = inputs; latches = latches; gates = gates; counts = counts; sets = sets });
      lists = after;
    }

-- a refusal: nothing but why and where, and these lists
abbrev refused : Fault → ℕ → Lists → Outcome
refused why place after = record { read = broken why place; lists = after }

pub left_pinned :
    (lists_of (1 ∷ []) (2 ∷ []) (3 ∷ []) (4 ∷ []) (5 ∷ []) (6 ∷ []) (7 ∷ []) ≡ lists (1 ∷ []) (2 ∷ []) (3 ∷ []) (4 ∷ []) (5 ∷ []) (6 ∷ []) (7 ∷ []))
    × (room_of (lists [] (1 ∷ []) (1 ∷ 2 ∷ []) (1 ∷ 2 ∷ 3 ∷ []) (1 ∷ 2 ∷ 3 ∷ 4 ∷ []) (1 ∷ 2 ∷ 3 ∷ 4 ∷ 5 ∷ []) (1 ∷ 2 ∷ 3 ∷ 4 ∷ 5 ∷ 6 ∷ [])) ≡ room 0 1 2 3 4 5 6)
    × (written small_text dirty ≡ filled)
    × (cleared dirty ≡ clean)
    × (answered (got small_text 78) ≡ (leaves 78 9 2 1 3 (2 ∷ 1 ∷ 1 ∷ 1 ∷ 3 ∷ []) 2 dirty).read)
    × (answered (no Above 7) ≡ (refused Above 7 dirty).read)
    × (Ok (numbers (answered (got small_text 78))) ≡ (leaves 78 9 2 1 3 (2 ∷ 1 ∷ 1 ∷ 1 ∷ 3 ∷ []) 2 dirty).read)
    × (Ok (numbers (answered (no Above 7))) ≡ (leaves 0 0 0 0 0 none 0 dirty).read)
    × (seen (answered (no Above 7)) clean ≡ refused Above 7 clean)
    × (left (got small_text 78) dirty ≡ leaves 78 9 2 1 3 (2 ∷ 1 ∷ 1 ∷ 1 ∷ 3 ∷ []) 2 filled)
    × (left (no Above 7) dirty ≡ refused Above 7 clean)
left_pinned = (refl, refl, refl, refl, refl, refl, refl, refl, refl, refl, refl)

-- inside: all but the header, with the number of justice literals; of a refusal only the answer is told
pub stores_pinned : (r : Result Reading Broken) (after : Lists)
    → (◌≡◌ {A = Type 0} (StoresText (got small_text 78) r dirty after) ((r ≡ Ok (reading_of 3 78)) × (after ≡ filled)))
    × (◌≡◌ {A = Type 0} (StoresText (no Above 7) r dirty after) (r ≡ broken Above 7))
stores_pinned r after = (refl, refl)

-- 5. Whole texts.

pub outcomes_pinned :
    -- the text, and into lists that are just long enough
    (outcome small dirty ≡ leaves 78 9 2 1 3 (2 ∷ 1 ∷ 1 ∷ 1 ∷ 3 ∷ []) 2 filled)
    × (outcome small
    (lists (9 ∷ 9 ∷ []) (9 ∷ []) (9 ∷ []) (9 ∷ []) (9 ∷ 9 ∷ 9 ∷ 9 ∷ 9 ∷ 9 ∷ 9 ∷ 9 ∷ 9 ∷ []) (9 ∷ 9 ∷ []) (9 ∷ 9 ∷ 9 ∷ 9 ∷ 9 ∷ 9 ∷ 9 ∷ 9 ∷ []))
    ≡ leaves 78 9 2 1 3 (2 ∷ 1 ∷ 1 ∷ 1 ∷ 3 ∷ []) 2
    (lists (4 ∷ 18 ∷ []) (6 ∷ []) (8 ∷ []) (1 ∷ []) (12 ∷ 10 ∷ 9 ∷ 8 ∷ 6 ∷ 4 ∷ 10 ∷ 8 ∷ 19 ∷ []) (2 ∷ 1 ∷ []) (12 ∷ 13 ∷ 9 ∷ 5 ∷ 7 ∷ 6 ∷ 11 ∷ 5 ∷ [])))
    -- each list a cell too short; the roots where the sizes end
    × (outcome small (lists (1 ∷ []) dirty.states dirty.nexts dirty.resets dirty.gates dirty.sizes dirty.roots)
    ≡ refused Short 22 (lists (0 ∷ []) clean.states clean.nexts clean.resets clean.gates clean.sizes clean.roots))
    × (outcome small (lists dirty.inputs [] dirty.nexts dirty.resets dirty.gates dirty.sizes dirty.roots)
    ≡ refused Short 22 (lists clean.inputs [] clean.nexts clean.resets clean.gates clean.sizes clean.roots))
    × (outcome small (lists dirty.inputs dirty.states [] dirty.resets dirty.gates dirty.sizes dirty.roots)
    ≡ refused Short 22 (lists clean.inputs clean.states [] clean.resets clean.gates clean.sizes clean.roots))
    × (outcome small (lists dirty.inputs dirty.states dirty.nexts [] dirty.gates dirty.sizes dirty.roots)
    ≡ refused Short 22 (lists clean.inputs clean.states clean.nexts [] clean.gates clean.sizes clean.roots))
    × (outcome small (lists dirty.inputs dirty.states dirty.nexts dirty.resets (1 ∷ 2 ∷ 3 ∷ 4 ∷ 5 ∷ 6 ∷ 7 ∷ 8 ∷ []) dirty.sizes dirty.roots)
    ≡ refused Short 22
    (lists clean.inputs clean.states clean.nexts clean.resets (0 ∷ 0 ∷ 0 ∷ 0 ∷ 0 ∷ 0 ∷ 0 ∷ 0 ∷ []) clean.sizes clean.roots))
    × (outcome small (lists dirty.inputs dirty.states dirty.nexts dirty.resets dirty.gates (1 ∷ []) dirty.roots)
    ≡ refused Short 22 (lists clean.inputs clean.states clean.nexts clean.resets clean.gates (0 ∷ []) clean.roots))
    × (outcome small (lists dirty.inputs dirty.states dirty.nexts dirty.resets dirty.gates dirty.sizes (1 ∷ 2 ∷ 3 ∷ 4 ∷ 5 ∷ 6 ∷ 7 ∷ []))
    ≡ refused Short 47 (lists clean.inputs clean.states clean.nexts clean.resets clean.gates clean.sizes (0 ∷ 0 ∷ 0 ∷ 0 ∷ 0 ∷ 0 ∷ 0 ∷ [])))
    -- nothing announced, nothing touched
    -- aag 0 0 0 0 0\n
    × (outcome (97 ∷ 97 ∷ 103 ∷ 32 ∷ 48 ∷ 32 ∷ 48 ∷ 32 ∷ 48 ∷ 32 ∷ 48 ∷ 32 ∷ 48 ∷ 10 ∷ []) dirty ≡ leaves 14 0 0 0 0 none 0 dirty)
    -- an input, with M above it
    -- aag 7 1 0 0 0\n14\n
    × (outcome (97 ∷ 97 ∷ 103 ∷ 32 ∷ 55 ∷ 32 ∷ 49 ∷ 32 ∷ 48 ∷ 32 ∷ 48 ∷ 32 ∷ 48 ∷ 10 ∷ 49 ∷ 52 ∷ 10 ∷ []) dirty
    ≡ leaves 17 7 1 0 0 none 0 (lists (14 ∷ 62 ∷ 63 ∷ []) dirty.states dirty.nexts dirty.resets dirty.gates dirty.sizes dirty.roots))
    -- no byte; another tag; a number that begins with 0; a carriage return
    -- no byte
    × (outcome [] dirty ≡ refused Missing 0 clean)
    -- aig 0 0 0 0 0\n
    × (outcome (97 ∷ 105 ∷ 103 ∷ 32 ∷ 48 ∷ 32 ∷ 48 ∷ 32 ∷ 48 ∷ 32 ∷ 48 ∷ 32 ∷ 48 ∷ 10 ∷ []) dirty ≡ refused Missing 0 clean)
    -- aag 05
    × (outcome (97 ∷ 97 ∷ 103 ∷ 32 ∷ 48 ∷ 53 ∷ []) dirty ≡ refused (Number LeadingZero) 4 clean)
    -- aag 0 0 0 0 0\r\n
    × (outcome (97 ∷ 97 ∷ 103 ∷ 32 ∷ 48 ∷ 32 ∷ 48 ∷ 32 ∷ 48 ∷ 32 ∷ 48 ∷ 32 ∷ 48 ∷ 13 ∷ 10 ∷ []) dirty ≡ refused Missing 13 clean)
    -- an input that is odd, over 2M + 1, 0; a second one
    -- aag 1 1 0 0 0\n5\n
    × (outcome (97 ∷ 97 ∷ 103 ∷ 32 ∷ 49 ∷ 32 ∷ 49 ∷ 32 ∷ 48 ∷ 32 ∷ 48 ∷ 32 ∷ 48 ∷ 10 ∷ 53 ∷ 10 ∷ []) dirty ≡ refused (Number AssignsOdd) 14 clean)
    -- aag 1 1 0 0 0\n4\n
    × (outcome (97 ∷ 97 ∷ 103 ∷ 32 ∷ 49 ∷ 32 ∷ 49 ∷ 32 ∷ 48 ∷ 32 ∷ 48 ∷ 32 ∷ 48 ∷ 10 ∷ 52 ∷ 10 ∷ []) dirty ≡ refused (Number OverLimit) 14 clean)
    -- aag 1 1 0 0 0\n0\n
    × (outcome (97 ∷ 97 ∷ 103 ∷ 32 ∷ 49 ∷ 32 ∷ 49 ∷ 32 ∷ 48 ∷ 32 ∷ 48 ∷ 32 ∷ 48 ∷ 10 ∷ 48 ∷ 10 ∷ []) dirty ≡ refused (Number AssignsZero) 14 clean)
    -- aag 2 2 0 0 0\n2\n3\n
    × (outcome (97 ∷ 97 ∷ 103 ∷ 32 ∷ 50 ∷ 32 ∷ 50 ∷ 32 ∷ 48 ∷ 32 ∷ 48 ∷ 32 ∷ 48 ∷ 10 ∷ 50 ∷ 10 ∷ 51 ∷ 10 ∷ []) dirty ≡ refused (Number AssignsOdd) 16 clean)
    -- two justice sizes that sum to 1048576, where the root list is too short besides
    -- aag 0 0 0 0 0 0 0 2\n1048575\n1\n
    × (outcome (97 ∷ 97 ∷ 103 ∷ 32 ∷ 48 ∷ 32 ∷ 48 ∷ 32 ∷ 48 ∷ 32 ∷ 48 ∷ 32 ∷ 48 ∷ 32 ∷ 48 ∷ 32 ∷ 48 ∷ 32 ∷ 50 ∷ 10 ∷ 49 ∷ 48 ∷ 52 ∷ 56 ∷ 53 ∷ 55 ∷ 53 ∷ 10 ∷
    49 ∷ 10 ∷ []) dirty
    ≡ refused TooMany 30 clean)
    -- a latch: unset, at 1, at 0 with no reset there; a reset that is the negated literal, with its newline and without; another latch's literal
    -- aag 2 1 1 0 0\n2\n4 5 4\n
    × (outcome (97 ∷ 97 ∷ 103 ∷ 32 ∷ 50 ∷ 32 ∷ 49 ∷ 32 ∷ 49 ∷ 32 ∷ 48 ∷ 32 ∷ 48 ∷ 10 ∷ 50 ∷ 10 ∷ 52 ∷ 32 ∷ 53 ∷ 32 ∷ 52 ∷ 10 ∷ []) dirty
    ≡ leaves 22 2 1 1 0 none 0 (lists (2 ∷ 62 ∷ 63 ∷ []) (4 ∷ 72 ∷ []) (5 ∷ 22 ∷ []) (4 ∷ 52 ∷ []) dirty.gates dirty.sizes dirty.roots))
    -- aag 2 1 1 0 0\n2\n4 5 1\n
    × (outcome (97 ∷ 97 ∷ 103 ∷ 32 ∷ 50 ∷ 32 ∷ 49 ∷ 32 ∷ 49 ∷ 32 ∷ 48 ∷ 32 ∷ 48 ∷ 10 ∷ 50 ∷ 10 ∷ 52 ∷ 32 ∷ 53 ∷ 32 ∷ 49 ∷ 10 ∷ []) dirty
    ≡ leaves 22 2 1 1 0 none 0 (lists (2 ∷ 62 ∷ 63 ∷ []) (4 ∷ 72 ∷ []) (5 ∷ 22 ∷ []) (1 ∷ 52 ∷ []) dirty.gates dirty.sizes dirty.roots))
    -- aag 2 1 1 0 0\n2\n4 5\n
    × (outcome (97 ∷ 97 ∷ 103 ∷ 32 ∷ 50 ∷ 32 ∷ 49 ∷ 32 ∷ 49 ∷ 32 ∷ 48 ∷ 32 ∷ 48 ∷ 10 ∷ 50 ∷ 10 ∷ 52 ∷ 32 ∷ 53 ∷ 10 ∷ []) dirty
    ≡ leaves 20 2 1 1 0 none 0 (lists (2 ∷ 62 ∷ 63 ∷ []) (4 ∷ 72 ∷ []) (5 ∷ 22 ∷ []) (0 ∷ 52 ∷ []) dirty.gates dirty.sizes dirty.roots))
    -- aag 2 1 1 0 0\n2\n4 5 5\n
    × (outcome (97 ∷ 97 ∷ 103 ∷ 32 ∷ 50 ∷ 32 ∷ 49 ∷ 32 ∷ 49 ∷ 32 ∷ 48 ∷ 32 ∷ 48 ∷ 10 ∷ 50 ∷ 10 ∷ 52 ∷ 32 ∷ 53 ∷ 32 ∷ 53 ∷ 10 ∷ []) dirty
    ≡ refused Reset 20 clean)
    -- aag 2 1 1 0 0\n2\n4 5 5
    × (outcome (97 ∷ 97 ∷ 103 ∷ 32 ∷ 50 ∷ 32 ∷ 49 ∷ 32 ∷ 49 ∷ 32 ∷ 48 ∷ 32 ∷ 48 ∷ 10 ∷ 50 ∷ 10 ∷ 52 ∷ 32 ∷ 53 ∷ 32 ∷ 53 ∷ []) dirty ≡ refused Reset 20 clean)
    -- aag 2 1 1 0 0\n2\n4 5 2\n
    × (outcome (97 ∷ 97 ∷ 103 ∷ 32 ∷ 50 ∷ 32 ∷ 49 ∷ 32 ∷ 49 ∷ 32 ∷ 48 ∷ 32 ∷ 48 ∷ 10 ∷ 50 ∷ 10 ∷ 52 ∷ 32 ∷ 53 ∷ 32 ∷ 50 ∷ 10 ∷ []) dirty
    ≡ refused Reset 20 clean)
    -- a gate that comes first and reads the other; one that is odd, over 2M + 1, 0, and one that is cut
    -- aag 3 1 0 1 2\n2\n6\n6 4 2\n4 2 3\n
    × (outcome (97 ∷ 97 ∷ 103 ∷ 32 ∷ 51 ∷ 32 ∷ 49 ∷ 32 ∷ 48 ∷ 32 ∷ 49 ∷ 32 ∷ 50 ∷ 10 ∷ 50 ∷ 10 ∷ 54 ∷ 10 ∷ 54 ∷ 32 ∷ 52 ∷ 32 ∷ 50 ∷ 10 ∷ 52 ∷ 32 ∷ 50 ∷ 32 ∷
    51 ∷ 10 ∷ []) dirty
    ≡ leaves 30 3 1 0 2 (1 ∷ 0 ∷ 0 ∷ 0 ∷ 0 ∷ []) 0
    (lists (2 ∷ 62 ∷ 63 ∷ []) dirty.states dirty.nexts dirty.resets (6 ∷ 4 ∷ 2 ∷ 4 ∷ 2 ∷ 3 ∷ 87 ∷ 88 ∷ 89 ∷ 90 ∷ []) dirty.sizes
    (6 ∷ 42 ∷ 43 ∷ 44 ∷ 45 ∷ 46 ∷ 47 ∷ 48 ∷ 49 ∷ 50 ∷ [])))
    -- aag 3 1 0 1 2\n2\n6\n6 4 2\n5 2 3\n
    × (outcome (97 ∷ 97 ∷ 103 ∷ 32 ∷ 51 ∷ 32 ∷ 49 ∷ 32 ∷ 48 ∷ 32 ∷ 49 ∷ 32 ∷ 50 ∷ 10 ∷ 50 ∷ 10 ∷ 54 ∷ 10 ∷ 54 ∷ 32 ∷ 52 ∷ 32 ∷ 50 ∷ 10 ∷ 53 ∷ 32 ∷ 50 ∷ 32 ∷
    51 ∷ 10 ∷ []) dirty
    ≡ refused (Number AssignsOdd) 24 clean)
    -- aag 3 1 0 1 2\n2\n6\n6 4 2\n8 2 3\n
    × (outcome (97 ∷ 97 ∷ 103 ∷ 32 ∷ 51 ∷ 32 ∷ 49 ∷ 32 ∷ 48 ∷ 32 ∷ 49 ∷ 32 ∷ 50 ∷ 10 ∷ 50 ∷ 10 ∷ 54 ∷ 10 ∷ 54 ∷ 32 ∷ 52 ∷ 32 ∷ 50 ∷ 10 ∷ 56 ∷ 32 ∷ 50 ∷ 32 ∷
    51 ∷ 10 ∷ []) dirty
    ≡ refused (Number OverLimit) 24 clean)
    -- aag 3 1 0 1 2\n2\n6\n6 4 2\n0 2 3\n
    × (outcome (97 ∷ 97 ∷ 103 ∷ 32 ∷ 51 ∷ 32 ∷ 49 ∷ 32 ∷ 48 ∷ 32 ∷ 49 ∷ 32 ∷ 50 ∷ 10 ∷ 50 ∷ 10 ∷ 54 ∷ 10 ∷ 54 ∷ 32 ∷ 52 ∷ 32 ∷ 50 ∷ 10 ∷ 48 ∷ 32 ∷ 50 ∷ 32 ∷
    51 ∷ 10 ∷ []) dirty
    ≡ refused (Number AssignsZero) 24 clean)
    -- aag 3 1 0 1 2\n2\n6\n6 4 2\n4 2 3
    × (outcome (97 ∷ 97 ∷ 103 ∷ 32 ∷ 51 ∷ 32 ∷ 49 ∷ 32 ∷ 48 ∷ 32 ∷ 49 ∷ 32 ∷ 50 ∷ 10 ∷ 50 ∷ 10 ∷ 54 ∷ 10 ∷ 54 ∷ 32 ∷ 52 ∷ 32 ∷ 50 ∷ 10 ∷ 52 ∷ 32 ∷ 50 ∷ 32 ∷
    51 ∷ []) dirty
    ≡ refused Missing 29 clean)
    -- an output over 2M + 1
    -- aag 3 1 0 1 2\n2\n8\n6 4 2\n4 2 3\n
    × (outcome (97 ∷ 97 ∷ 103 ∷ 32 ∷ 51 ∷ 32 ∷ 49 ∷ 32 ∷ 48 ∷ 32 ∷ 49 ∷ 32 ∷ 50 ∷ 10 ∷ 50 ∷ 10 ∷ 56 ∷ 10 ∷ 54 ∷ 32 ∷ 52 ∷ 32 ∷ 50 ∷ 10 ∷ 52 ∷ 32 ∷ 50 ∷ 32 ∷
    51 ∷ 10 ∷ []) dirty
    ≡ refused (Number OverLimit) 16 clean)
unfolding digits_of digits_at uint_at header_field_at lit_at is_byte byte_at tag_at number_at line_at lines_at reset_line_at reset_at latch_at count_at others_at counts_at
    header_at root_room_at properties_at sizes_at roots_at defined_at input_at inputs_at stated_at latches_at input_pair_at gate_at gates_at sized_at lists_at body_at read_text
outcomes_pinned = (
  refl,
  refl,
  refl,
  refl,
  refl,
  refl,
  refl,
  refl,
  refl,
  refl,
  refl,
  refl,
  refl,
  refl,
  refl,
  refl,
  refl,
  refl,
  refl,
  refl,
  refl,
  refl,
  refl,
  refl,
  refl,
  refl,
  refl,
  refl,
  refl,
  refl,
  refl,
  refl,
)

-- the flags of a text's circuit, each by itself
pub flags_pinned : (t : Text)
    → ((circuit_in t true false false).trim ≡ true) × ((circuit_in t true false false).hash ≡ false) × ((circuit_in t true false false).fold ≡ false)
    × ((circuit_in t false true false).hash ≡ true) × ((circuit_in t false false true).fold ≡ true) × ((circuit_in t false false true).trim ≡ false)
flags_pinned t = (refl, refl, refl, refl, refl, refl)
