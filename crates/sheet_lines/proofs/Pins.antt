-- The report's lines and texts by example, each as the bytes that are printed. By computation. Assumes nothing.
use Prim.Native.Nat.{ℕ}
use Prim.Native.Char.{code}
use Prim.Native.String.{String, [] as nothing, ◌∷◌ as ◌then◌}
use mathlib.Core.Path.{◌≡◌, refl}
use mathlib.Core.List.{List, [], ◌∷◌}
use Rattle.token.specs.Format.{digits_of}
use Rattle.lit.specs.Code.{variable, literal}
use Rattle.circuit.specs.declared.Refusal.TheVariants.{TooBig, Misshapen, Short, Over, Reset, Again, StateAgain, Undefined, Cycle}
use Rattle.circuit.specs.Graph.{Gate}
use Rattle.circuit.specs.Walk.{Pair, first_code}
use Rattle.sheet_lines.specs.Lines.{spaced, ended, ordered_word, refused_word, refused_line, ordered_line, gate_line, image_line, next_letter, root_letter, each}
use Rattle.sheet_lines.specs.Text.{ordered_text, refused_text}
use Rattle.text.specs.Put.{Puts}

-- a text as bytes, a byte a character, since all of them are ASCII
abbrev pub bytes : String → List ℕ
bytes nothing = []
bytes (c then s) = code c ∷ bytes s

-- the bytes of `n 10`, a newline and `r 29`
pub bytes_pinned : bytes "n 10\nr 29" ≡ 110 ∷ 32 ∷ 49 ∷ 48 ∷ 10 ∷ 114 ∷ 32 ∷ 50 ∷ 57 ∷ []
bytes_pinned = refl

abbrev gate : ℕ → ℕ → ℕ → Gate
gate o a b = record { output = o; first = a; second = b }

abbrev pair : ℕ → ℕ → Pair
pair a b = record { larger = a; smaller = b }

-- 1. Each line.

pub lines_pinned :
    -- numbers with a space or a newline after them; the first words
    (spaced 305 ≡ bytes "305 ") × (spaced 0 ≡ bytes "0 ") × (ended 670 ≡ bytes "670\n") × (ended 0 ≡ bytes "0\n")
    × (ordered_word ≡ bytes "ordered ") × (refused_word ≡ bytes "refused ")
    -- a refusal; the largest number of 64 bits is printed in full
    × (refused_line 15 906 ≡ bytes "refused 15 906\n")
    × (refused_line 4 18446744073709551615 ≡ bytes "refused 4 18446744073709551615\n")
    -- a success: the new largest variable, inputs, latches, new gates
    × (ordered_line 215 18 22 175 ≡ bytes "ordered 215 18 22 175\n")
    -- a gate: output, larger and smaller input
    × (gate_line (gate 82 41 6) ≡ bytes "82 41 6\n")
    -- an image after a letter; the letters of next states and of roots
    × (image_line 120 207 ≡ bytes "x 207\n") × (image_line next_letter 93 ≡ bytes "n 93\n") × (image_line root_letter 48 ≡ bytes "r 48\n")
    -- a line for each of a list, in its order
    × (each ended [] ≡ []) × (each ended (5 ∷ 40 ∷ 17 ∷ []) ≡ bytes "5\n40\n17\n")
unfolding refused_line ordered_line gate_line image_line digits_of
lines_pinned = (refl, refl, refl, refl, refl, refl, refl, refl, refl, refl, refl, refl, refl, refl, refl)

-- 2. The text of a success.

-- a summary of 41 gates made and the largest variable 52, 3 inputs, next states' images 19, 12, gates (4,2), (11,8), (14,1), roots' images 15, 14, 5, 12: each
-- number is printed where it belongs, and gates are numbered from 12 on, after 3 inputs and 2 latches
pub success_pinned :
    ordered_text (record { made = 41; top = variable 52 }) 3 (19 ∷ 12 ∷ []) (pair 4 2 ∷ pair 11 8 ∷ pair 14 1 ∷ []) (15 ∷ 14 ∷ 5 ∷ 12 ∷ [])
    ≡ bytes "ordered 52 3 2 41\n12 4 2\n14 11 8\n16 14 1\nn 19\nn 12\nr 15\nr 14\nr 5\nr 12\n"
unfolding ordered_text ordered_line gate_line image_line digits_of first_code
success_pinned = refl

-- 3. The line of each refusal: 1 to 3 have no literal; 4, 22 and 5 to 8 have it.

pub refusals_pinned :
    (refused_text TooBig ≡ bytes "refused 1 0\n")
    × (refused_text Misshapen ≡ bytes "refused 2 0\n")
    × (refused_text Short ≡ bytes "refused 3 0\n")
    × (refused_text (Over (literal 24)) ≡ bytes "refused 4 24\n")
    × (refused_text (Reset (literal 13)) ≡ bytes "refused 22 13\n")
    × (refused_text (Again (literal 5)) ≡ bytes "refused 5 5\n")
    × (refused_text (StateAgain (literal 11)) ≡ bytes "refused 6 11\n")
    × (refused_text (Undefined (literal 15)) ≡ bytes "refused 7 15\n")
    × (refused_text (Cycle (literal 17)) ≡ bytes "refused 8 17\n")
unfolding refused_text refused_line digits_of
refusals_pinned = (refl, refl, refl, refl, refl, refl, refl, refl, refl)

-- 4. The word of the contracts: two bytes put at place 1 of five stand there and the others stay, and the place after them is 3; past the end nothing is
-- written, and the place goes on. Two outcomes that it allows are what it says, and it allows them.

pub put_pinned : (after : List ℕ) (place : ℕ)
    → (Puts (6 ∷ 7 ∷ 8 ∷ 9 ∷ 5 ∷ []) 1 (1 ∷ 2 ∷ []) after place → (after ≡ 6 ∷ 1 ∷ 2 ∷ 9 ∷ 5 ∷ []) × (place ≡ 3))
    × ((after ≡ 6 ∷ 1 ∷ 2 ∷ 9 ∷ 5 ∷ []) × (place ≡ 3) → Puts (6 ∷ 7 ∷ 8 ∷ 9 ∷ 5 ∷ []) 1 (1 ∷ 2 ∷ []) after place)
    × (Puts (6 ∷ 7 ∷ []) 1 (1 ∷ 2 ∷ 3 ∷ []) after place → (after ≡ 6 ∷ 1 ∷ []) × (place ≡ 4))
put_pinned after place = (λ p. p, λ e. e, λ p. p)
