-- Outcomes by their parts. Assumes nothing.
use Prim.Native.Nat.{ℕ}
use mathlib.Core.Path.{◌≡◌, ap, ◌∙◌}
use mathlib.Core.List.{List}
use Rattle.circuit.specs.Answer.{Answer}
use Rattle.circuit.specs.Outcome.{outcome_of}

-- outcomes with the same answer and the same lists are the same
pub outcome_eq : (a : Answer) {m m' n n' t t' r r' g g' s s' : List ℕ} → m ≡ m' → n ≡ n' → t ≡ t' → r ≡ r' → g ≡ g' → s ≡ s'
    → outcome_of a m n t r g s ≡ outcome_of a m' n' t' r' g' s'
outcome_eq a {m} {m'} {n} {n'} {t} {t'} {r} {r'} {g} {g'} {s} {s'} p q k e f h =
    ap (λ (x : List ℕ). outcome_of a x n t r g s) p ∙ ap (λ (x : List ℕ). outcome_of a m' x t r g s) q ∙ ap (λ (x : List ℕ). outcome_of a m' n' x r g s) k
    ∙ ap (λ (x : List ℕ). outcome_of a m' n' t' x g s) e ∙ ap (λ (x : List ℕ). outcome_of a m' n' t' r' x s) f
    ∙ ap (λ (x : List ℕ). outcome_of a m' n' t' r' g' x) h
