-- Every step-th literal of a list, as a place that goes on by the step comes to them. Assumes nothing.
use Rattle.std.proofs.Common.{◌≡◌, ℕ, zero, suc, ◌+◌, ◌-◌, ◌≤◌, ◌<◌, List, [], ◌∷◌, length, get_or, refl, ap, ◌∙◌, arith}
use lib.ListN.{drop, drop_of_length-le}
use lib.Seq.{drop-cons, drop-drop}
use Rattle.aig.specs.Walks.{every_from}

-- passing over the literals between
passed_over : (step k : ℕ) (l : List ℕ) → every_from step k l ≡ every_from step 0 (drop k l)
passed_over step zero l = refl
passed_over step (suc k) [] = refl
passed_over step (suc k) (c ∷ cs) = passed_over step k cs

pub every_at : (step i : ℕ) (l : List ℕ) → 0 < step → i < length l → every_from step 0 (drop i l) ≡ get_or l i 0 ∷ every_from step 0 (drop (i + step) l)
every_at step i l some there =
    let after : suc i + (step - 1) ≡ i + step = omega (arith, some) in
    ap (every_from step 0) (drop-cons l i 0 there)
    ∙ ap (λ (r : List ℕ). get_or l i 0 ∷ r) (passed_over step (step - 1) (drop (suc i) l)
    ∙ ap (every_from step 0) (drop-drop (step - 1) (suc i) l ∙ ap (λ (m : ℕ). drop m l) after))

pub every_past : (step i : ℕ) (l : List ℕ) → length l ≤ i → every_from step 0 (drop i l) ≡ []
every_past step i l past = ap (every_from step 0) (drop_of_length-le l past)
