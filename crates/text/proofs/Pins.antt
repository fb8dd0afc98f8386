-- What a writer leaves, by example: two bytes put at place 1 of five stand there and the others stay, and the place after them is 3; past the end nothing
-- is written, and the place goes on. Two outcomes that it allows are what it says, and it allows them. By computation. Assumes nothing.
use Rattle.std.specs.Prelude.{ℕ, ◌≡◌, List, [], ◌∷◌}
use Rattle.text.specs.Put.{Puts}

pub put_pinned : (after : List ℕ) (place : ℕ)
    → (Puts (6 ∷ 7 ∷ 8 ∷ 9 ∷ 5 ∷ []) 1 (3 ∷ 4 ∷ []) after place → (after ≡ 6 ∷ 3 ∷ 4 ∷ 9 ∷ 5 ∷ []) × (place ≡ 3))
    × ((after ≡ 6 ∷ 3 ∷ 4 ∷ 9 ∷ 5 ∷ []) × (place ≡ 3) → Puts (6 ∷ 7 ∷ 8 ∷ 9 ∷ 5 ∷ []) 1 (3 ∷ 4 ∷ []) after place)
    × (Puts (6 ∷ 7 ∷ []) 1 (3 ∷ 4 ∷ 2 ∷ []) after place → (after ≡ 6 ∷ 3 ∷ []) × (place ≡ 4))
put_pinned after place = (λ p. p, λ e. e, λ p. p)
