-- Calls of the C entry for expanding by example, worked out from its promise: the number, and each word of the three lists. The lists are dirty, each with a
-- number of its own, and longer than asked; the words past those asked for are seen to stay. By computation. Assumes nothing.
use Prim.Native.Nat.{ℕ}
use mathlib.Core.Path.{◌≡◌, refl}
use mathlib.Core.List.{List, [], ◌∷◌}
use lib.ListN.{replicate}
use Rattle.circuit.specs.Walk.{first_code}
use Rattle.ordered.specs.Expand.{Lists, expansion}
use Rattle.capi.specs.Expand.{Seen, expand_seen}

-- the three lists that are lent, and what C sees of them
abbrev lists : List ℕ → List ℕ → List ℕ → Lists
lists inputs states triples = record { inputs = inputs; states = states; triples = triples }

abbrev sees : ℕ → List ℕ → List ℕ → List ℕ → Seen
sees number input_codes state_codes triples = record { number = number; input_codes = input_codes; state_codes = state_codes; triples = triples }

-- two gates, 8(6,2) and 10(9,3) where there are two inputs and a latch; the second has its inputs as they are given
abbrev gates : List ℕ
gates = 6 ∷ 2 ∷ 3 ∷ 9 ∷ []

-- lists that are longer than they ask
abbrev dirty : Lists
dirty = lists (21 ∷ 22 ∷ 23 ∷ []) (31 ∷ 32 ∷ []) (41 ∷ 42 ∷ 43 ∷ 44 ∷ 45 ∷ 46 ∷ 47 ∷ [])

-- what is seen of them where nothing is written
abbrev left : ℕ → Seen
left number = sees number (21 ∷ 22 ∷ 23 ∷ []) (31 ∷ 32 ∷ []) (41 ∷ 42 ∷ 43 ∷ 44 ∷ 45 ∷ 46 ∷ 47 ∷ [])

pub expanded_pinned :
    -- inputs 2, 4, the latch's state 6, gates 8 and 10; the word past each stays
    (expand_seen 2 1 gates dirty ≡ sees 0 (2 ∷ 4 ∷ 23 ∷ []) (6 ∷ 32 ∷ []) (8 ∷ 6 ∷ 2 ∷ 10 ∷ 3 ∷ 9 ∷ 47 ∷ []))
    -- lists that are just long enough
    × (expand_seen 2 1 gates (lists (replicate 2 9) (replicate 1 9) (replicate 6 9)) ≡ sees 0 (2 ∷ 4 ∷ []) (6 ∷ []) (8 ∷ 6 ∷ 2 ∷ 10 ∷ 3 ∷ 9 ∷ []))
    -- nothing at all
    × (expand_seen 0 0 [] dirty ≡ left 0)
    -- 1,048,576 inputs, latches, and 1,048,574 of both with two gates: 1, before the odd list and the short ones
    × (expand_seen 1048576 0 (6 ∷ []) dirty ≡ left 1)
    × (expand_seen 0 1048576 (6 ∷ []) dirty ≡ left 1)
    × (expand_seen 1048570 4 gates dirty ≡ left 1)
    -- with one gate less it is not over the limit, and the lists are too short
    × (expand_seen 1048570 4 (6 ∷ 2 ∷ []) dirty ≡ left 3)
    -- three words of gates: 2, before the short lists
    × (expand_seen 2 1 (6 ∷ 2 ∷ 3 ∷ []) dirty ≡ left 2)
    × (expand_seen 9 9 (6 ∷ 2 ∷ 3 ∷ []) dirty ≡ left 2)
    -- a word too few for inputs, states and gates
    × (expand_seen 4 1 gates dirty ≡ left 3)
    × (expand_seen 2 3 gates dirty ≡ left 3)
    × (expand_seen 2 1 (6 ∷ 2 ∷ 3 ∷ 9 ∷ 4 ∷ 4 ∷ []) dirty ≡ left 3)
unfolding expansion first_code
expanded_pinned = (refl, refl, refl, refl, refl, refl, refl, refl, refl, refl, refl, refl)
