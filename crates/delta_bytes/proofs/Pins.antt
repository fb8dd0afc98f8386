-- Deltas in nine bytes: document 01's starred ones, and those that pin the definitions, by computation. Assumes nothing.
use Prim.Native.Nat.{ℕ}
use mathlib.Core.Path.{◌≡◌, refl}
use mathlib.Core.List.{List, [], ◌∷◌}
use Rattle.token.specs.Answer.{go_on_at, binary_at, delta_at}
use Rattle.delta_bytes.specs.Delta.{delta_number, delta_bytes}

-- what the contract of `put_delta` says of an answer r and of the lent bytes o afterwards
abbrev pub Allowed : List ℕ → ℕ → ℕ → List ℕ → ℕ → List ℕ → Type 0
Allowed s at reference out r o = (r ≡ delta_number s at reference out) × (o ≡ delta_bytes s at reference out)

-- ten lent bytes, all 0xee
abbrev pub lent : List ℕ
lent = 0xee ∷ 0xee ∷ 0xee ∷ 0xee ∷ 0xee ∷ 0xee ∷ 0xee ∷ 0xee ∷ 0xee ∷ 0xee ∷ []

-- reference 6: `02` gives 4, low byte first, with one byte used, and the tenth byte stays; `80 00` gives 6 with two
pub shown :
    Allowed (0x02 ∷ []) 0 6 lent 0 (4 ∷ 0 ∷ 0 ∷ 0 ∷ 0 ∷ 0 ∷ 0 ∷ 0 ∷ 1 ∷ 0xee ∷ [])
    × Allowed (0x80 ∷ 0x00 ∷ []) 0 6 lent 0 (6 ∷ 0 ∷ 0 ∷ 0 ∷ 0 ∷ 0 ∷ 0 ∷ 0 ∷ 2 ∷ 0xee ∷ [])
    × Allowed (0x07 ∷ []) 0 6 lent 17 lent
    × Allowed (0x80 ∷ []) 0 6 lent 15 lent
    × Allowed (0x80 ∷ 0x80 ∷ 0x80 ∷ 0x80 ∷ 0x80 ∷ 0x80 ∷ 0x80 ∷ 0x80 ∷ []) 0 6 lent 16 lent
    × Allowed (0x07 ∷ []) 0 6 [] 3 []
unfolding delta_number delta_bytes delta_at binary_at go_on_at
shown = ((refl, refl), (refl, refl), (refl, refl), (refl, refl), (refl, refl), (refl, refl))

-- nine lent bytes
abbrev nine : List ℕ
nine = 0xee ∷ 0xee ∷ 0xee ∷ 0xee ∷ 0xee ∷ 0xee ∷ 0xee ∷ 0xee ∷ 0xee ∷ []

-- places, every byte of a value, and the number of lent bytes
pub pinned :
    -- place 1 of `07 82 01` from 0x0807060504030283 is 0x0807060504030201, two bytes used
    Allowed (0x07 ∷ 0x82 ∷ 0x01 ∷ []) 1 0x0807060504030283 lent 0 (1 ∷ 2 ∷ 3 ∷ 4 ∷ 5 ∷ 6 ∷ 7 ∷ 8 ∷ 2 ∷ 0xee ∷ [])
    -- place 1 of `07 82 01` from 3 is 17
    × Allowed (0x07 ∷ 0x82 ∷ 0x01 ∷ []) 1 3 lent 17 lent
    -- nine lent bytes are enough, eight are 3, whatever the delta
    × Allowed (0x02 ∷ []) 0 6 nine 0 (4 ∷ 0 ∷ 0 ∷ 0 ∷ 0 ∷ 0 ∷ 0 ∷ 0 ∷ 1 ∷ [])
    × Allowed (0x02 ∷ []) 0 6 (1 ∷ 2 ∷ 3 ∷ 4 ∷ 5 ∷ 6 ∷ 7 ∷ 8 ∷ []) 3 (1 ∷ 2 ∷ 3 ∷ 4 ∷ 5 ∷ 6 ∷ 7 ∷ 8 ∷ [])
    -- a value over 256 in its low byte alone
    × Allowed (0x00 ∷ []) 0 257 nine 0 (1 ∷ 1 ∷ 0 ∷ 0 ∷ 0 ∷ 0 ∷ 0 ∷ 0 ∷ 1 ∷ [])
unfolding delta_number delta_bytes delta_at binary_at go_on_at
pinned = ((refl, refl), (refl, refl), (refl, refl), (refl, refl), (refl, refl))
