-- A list that is written over another, a cell a turn, and the two halves of a list of latches. Assumes nothing.
use Prim.Native.Nat.{ℕ, zero, suc, ◌+◌, ◌*◌, ◌/◌, ◌<◌}
use mathlib.Core.Path.{◌≡◌, refl, sym, ap, ◌∙◌}
use mathlib.Core.List.{List, [], ◌∷◌, ◌++◌}
use native.Mathlib.Numerals.{add-one}
use native.Mathlib.Omega.{arith}
use lib.ListN.{length, get_or, set, take, length-set}
use lib.Seq.{take-suc, take-suc-set}
use Rattle.sheet.specs.Circuit.{states_of, nexts_of}

-- the first i cells of `to` are those of `from`, which is as long
pub record Copied (from to : List ℕ) (i : ℕ) : Type 0 where
  pub same : length to ≡ length from
  pub front : take i to ≡ take i from

pub copied_none : (from to : List ℕ) → length to ≡ length from → Copied from to 0
copied_none from to e = record { same = e; front = refl }

pub copied_more : (from to : List ℕ) (i v : ℕ) → Copied from to i → i < length from → v ≡ get_or from i 0 → Copied from (set to i v) (i + 1)
copied_more from to i v c h e =
    record {
      same = length-set to i v ∙ c.same;
      front =
          ap (λ (k : ℕ). take k (set to i v)) (add-one i) ∙ take-suc-set to i v (omega (arith, c.same)) ∙ ap (λ (l : List ℕ). l ++ (v ∷ [])) c.front
          ∙ ap (λ (x : ℕ). take i from ++ (x ∷ [])) e ∙ sym (take-suc from i 0 h) ∙ ap (λ (k : ℕ). take k from) (sym (add-one i));
    }

pub states_length : (ws : List ℕ) → length (states_of ws) ≡ length ws / 2
states_length [] = refl
states_length (a ∷ []) = refl
states_length (a ∷ b ∷ ws) = let e = states_length ws in omega arith

pub nexts_length : (ws : List ℕ) → length (nexts_of ws) ≡ length ws / 2
nexts_length [] = refl
nexts_length (a ∷ []) = refl
nexts_length (a ∷ b ∷ ws) = let e = nexts_length ws in omega arith

pub states_at : (ws : List ℕ) (j : ℕ) → j < length ws / 2 → get_or ws (2 * j) 0 ≡ get_or (states_of ws) j 0
states_at [] j h = absurd (omega arith)
states_at (a ∷ []) j h = absurd (omega arith)
states_at (a ∷ b ∷ ws) zero h = refl
states_at (a ∷ b ∷ ws) (suc j) h =
    let e : 2 * suc j ≡ suc (suc (2 * j)) = omega arith in ap (λ (k : ℕ). get_or (a ∷ b ∷ ws) k 0) e ∙ states_at ws j (omega arith)

pub nexts_at : (ws : List ℕ) (j : ℕ) → j < length ws / 2 → get_or ws (2 * j + 1) 0 ≡ get_or (nexts_of ws) j 0
nexts_at [] j h = absurd (omega arith)
nexts_at (a ∷ []) j h = absurd (omega arith)
nexts_at (a ∷ b ∷ ws) zero h = refl
nexts_at (a ∷ b ∷ ws) (suc j) h =
    let e : 2 * suc j + 1 ≡ suc (suc (2 * j + 1)) = omega arith in ap (λ (k : ℕ). get_or (a ∷ b ∷ ws) k 0) e ∙ nexts_at ws j (omega arith)
