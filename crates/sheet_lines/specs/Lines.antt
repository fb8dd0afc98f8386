-- The lines of the report, as bytes. Assumes nothing.
use Rattle.std.specs.Prelude.{ℕ, List, [], ◌∷◌, ◌++◌}
use Rattle.token.specs.Format.{digits_of}
use Rattle.circuit.specs.Graph.{Gate}

-- a number in decimal with a space after it, and one with a newline after it
abbrev pub spaced : ℕ → List ℕ
spaced v = digits_of v ++ (32 ∷ [])

abbrev pub ended : ℕ → List ℕ
ended v = digits_of v ++ (10 ∷ [])

-- `ordered ` and `refused `
abbrev pub ordered_word : List ℕ
ordered_word = 111 ∷ 114 ∷ 100 ∷ 101 ∷ 114 ∷ 101 ∷ 100 ∷ 32 ∷ []

abbrev pub refused_word : List ℕ
refused_word = 114 ∷ 101 ∷ 102 ∷ 117 ∷ 115 ∷ 101 ∷ 100 ∷ 32 ∷ []

-- `refused N K`
unfoldable pub refused_line : ℕ → ℕ → List ℕ
refused_line n k = refused_word ++ (spaced n ++ ended k)

-- `ordered T I L g`: the new largest variable, inputs, latches, new gates
unfoldable pub ordered_line : ℕ → ℕ → ℕ → ℕ → List ℕ
ordered_line top inputs latches made = ordered_word ++ (spaced top ++ (spaced inputs ++ (spaced latches ++ ended made)))

-- a gate: its output, its larger and its smaller input
unfoldable pub gate_line : Gate → List ℕ
gate_line g = spaced g.output ++ (spaced g.first ++ ended g.second)

-- an image, after the letter of its list: `n` of next states, `r` of roots
unfoldable pub image_line : ℕ → ℕ → List ℕ
image_line letter t = letter ∷ 32 ∷ ended t

abbrev pub next_letter : ℕ
next_letter = 110

abbrev pub root_letter : ℕ
root_letter = 114

-- a line for each of a list, in its order
abbrev pub each : {A : Type 0} → (A → List ℕ) → List A → List ℕ
each line [] = []
each line (x ∷ xs) = line x ++ each line xs
