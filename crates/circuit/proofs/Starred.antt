-- The starred list of document 01, whole, as one theorem, by computation: of its circuits the answer and every lent list afterwards, and its tokens.
-- Assumes nothing.
use mathlib.Core.Path.{◌≡◌, refl}
use mathlib.Core.List.{List, [], ◌∷◌, map}
use Rattle.lit.specs.Code.{literal, flipped}
use Rattle.token.specs.Answer.{go_on_at, binary_at, delta_at, token_number, value}
use Rattle.circuit.specs.declared.Refusal.TheVariants.{TooBig, Cycle}
use Rattle.circuit.specs.Map.{entry_image, image_in, store, code_of}
use Rattle.circuit.specs.Walk.{first_code, next_code, folded, already, settle_as, settle_on, settle, stopped, look, through_inputs, walk, walk_all}
use Rattle.circuit.specs.Circuit.{net, codes, start, walked, numbered, renumber}
use Rattle.circuit.specs.Ordered.{images_in, ordered_of}
use Rattle.circuit.specs.Outcome.{Lent, circuit_of, too_big, misshapen, too_short, conclusion, after, outcome}
use Rattle.circuit.specs.Lending.{plain, hashing, folding, trim_folding, circuit, Example, success, refusal}

-- gate 2(2,0), root 3, trim and folding
abbrev two_deep : Lent
two_deep = circuit trim_folding 1 [] (2 ∷ 2 ∷ 0 ∷ []) (3 ∷ [])

abbrev pub starred_examples : List Example
starred_examples =
    -- empty: map entry 0 is 0
    success (circuit plain 0 [] [] []) 0 0 (0 ∷ []) [] [] []
    -- inputs 4, 2, gate 6(2,4), root 6: gate (4,2), image 6
    ∷ success (circuit plain 3 (4 ∷ 2 ∷ []) (6 ∷ 2 ∷ 4 ∷ []) (6 ∷ [])) 1 3 (0 ∷ 4 ∷ 2 ∷ 6 ∷ []) [] (4 ∷ 2 ∷ []) (6 ∷ [])
    -- input 3, root 2: image 3
    ∷ success (circuit plain 1 (3 ∷ []) [] (2 ∷ [])) 0 1 (0 ∷ 3 ∷ []) [] [] (3 ∷ [])
    -- input 2, gate 5(2,2), root 4: gate (2,2), image 5
    ∷ success (circuit plain 2 (2 ∷ []) (5 ∷ 2 ∷ 2 ∷ []) (4 ∷ [])) 1 2 (0 ∷ 2 ∷ 5 ∷ []) [] (2 ∷ 2 ∷ []) (5 ∷ [])
    -- folding: no gate, image 3
    ∷ success (circuit folding 2 (2 ∷ []) (5 ∷ 2 ∷ 2 ∷ []) (4 ∷ [])) 0 1 (0 ∷ 2 ∷ 3 ∷ []) [] (0 ∷ 0 ∷ []) (3 ∷ [])
    -- input 2, gate 4(2,3), folding: gate (3,2) stays
    ∷ success (circuit folding 2 (2 ∷ []) (4 ∷ 2 ∷ 3 ∷ []) []) 1 2 (0 ∷ 2 ∷ 4 ∷ []) [] (3 ∷ 2 ∷ []) []
    -- gate 2(2,0), root 2, folding: 8, literal 2
    ∷ refusal (circuit folding 1 [] (2 ∷ 2 ∷ 0 ∷ []) (2 ∷ [])) (Cycle (literal 2))
    -- trim and root 3: 8, literal 2
    ∷ refusal two_deep (Cycle (literal 2))
    -- trim, no root: success
    ∷ success (circuit trim_folding 1 [] (2 ∷ 2 ∷ 0 ∷ []) []) 0 0 (0 ∷ 4294967295 ∷ []) [] (0 ∷ 0 ∷ []) []
    -- inputs 2, 4, gates 6(2,4), 8(4,2), roots 6, 8: hashing one gate, images 6, 6
    ∷ success (circuit hashing 4 (2 ∷ 4 ∷ []) (6 ∷ 2 ∷ 4 ∷ 8 ∷ 4 ∷ 2 ∷ []) (6 ∷ 8 ∷ [])) 1 3 (0 ∷ 2 ∷ 4 ∷ 6 ∷ 6 ∷ []) [] (4 ∷ 2 ∷ 0 ∷ 0 ∷ []) (6 ∷ 6 ∷ [])
    -- else 6, 8
    ∷ success (circuit plain 4 (2 ∷ 4 ∷ []) (6 ∷ 2 ∷ 4 ∷ 8 ∷ 4 ∷ 2 ∷ []) (6 ∷ 8 ∷ [])) 2 4 (0 ∷ 2 ∷ 4 ∷ 6 ∷ 8 ∷ []) [] (4 ∷ 2 ∷ 4 ∷ 2 ∷ []) (6 ∷ 8 ∷ [])
    -- inputs 2, 4, gates 6(2,4), 8(6,0), root 8, trim and folding: gate (4,2) stays, image 0
    ∷ success (circuit trim_folding 4 (2 ∷ 4 ∷ []) (6 ∷ 2 ∷ 4 ∷ 8 ∷ 6 ∷ 0 ∷ []) (8 ∷ [])) 1 3 (0 ∷ 2 ∷ 4 ∷ 6 ∷ 0 ∷ []) [] (4 ∷ 2 ∷ 0 ∷ 0 ∷ []) (0 ∷ [])
    ∷ []

pub starred :
    -- every starred circuit has its outcome
    (map (λ x. outcome x.lent) starred_examples ≡ map (λ x. x.expected) starred_examples)
    -- the one named so is two entries deep: one entry is no room for it
    × (walk (net (circuit_of two_deep)) 1 [] (start 1 []) 3 ≡ stopped TooBig)
    -- deltas from the reference 6: `02` gives 4; `80 00` gives 6; `07` is 17; `80` is 15; eight `80` is 16
    × (delta_at (0x02 ∷ []) 0 6 ≡ value 4 1)
    × (delta_at (0x80 ∷ 0x00 ∷ []) 0 6 ≡ value 6 2)
    × (token_number (delta_at (0x07 ∷ []) 0 6) ≡ 17)
    × (token_number (delta_at (0x80 ∷ []) 0 6) ≡ 15)
    × (token_number (delta_at (0x80 ∷ 0x80 ∷ 0x80 ∷ 0x80 ∷ 0x80 ∷ 0x80 ∷ 0x80 ∷ 0x80 ∷ []) 0 6) ≡ 16)
unfolding outcome conclusion too_big misshapen too_short after renumber numbered codes walk_all walked start store flipped walk look image_in entry_image
    through_inputs settle settle_on settle_as already next_code first_code folded code_of ordered_of images_in delta_at binary_at go_on_at
starred = (refl, refl, refl, refl, refl, refl, refl)
