-- The gates made, as the words of the lent gate list and linked in the scratch words. Assumes nothing.
use Rattle.std.specs.Prelude.{ℕ, ◌+◌, ◌*◌, ◌-◌, ◌≤◌, ◌≡◌, Bool, true, ◌&&◌, List, ◌++◌, eqb, length, get_or, set}
use Rattle.lit.specs.Code.{literal}
use Rattle.lit.specs.declared.Lit.{Lit}
use Rattle.circuit.specs.Walk as walk
use Rattle.circuit.specs.Outcome.{pair_words, zeros}
use Rattle.aig.specs.declared.shape.Shape.{Shape}
use Rattle.fold.specs.declared.Pair.{Pair}
use Rattle.aig.specs.Layout.{Room, links_of}
use Rattle.aig.specs.Trie.{Trie}

-- where gate k's words are
abbrev pub larger_at : ℕ → ℕ
larger_at k = 2 * k

abbrev pub smaller_at : ℕ → ℕ
smaller_at k = 2 * k + 1

-- whether gate k's words are the pair
unfoldable pub pair_at : List ℕ → ℕ → Pair → Bool
pair_at out k p = eqb (get_or out (smaller_at k) 0) p.smaller.0 && eqb (get_or out (larger_at k) 0) p.larger.0

-- the words with gate k put in
abbrev pub with_gate : List ℕ → ℕ → Pair → List ℕ
with_gate out k p = set (set out (larger_at k) p.larger.0) (smaller_at k) p.smaller.0

-- the code of gate k
abbrev pub code_at : Shape → ℕ → Lit
code_at s k = literal (walk.first_code s.sources + 2 * k)

-- the gates made stand in the lent gate list, zeros after them, and with hashing they are linked
pub record MadeIn (s : Shape) (made : List walk.Pair) (out scratch : List ℕ) : Type 0 where
  pub room : Room s scratch
  pub fits : length made ≤ s.gates
  pub words : out ≡ pair_words made ++ zeros (2 * (s.gates - length made))
  pub trie : s.hash ≡ true → Trie s.vars made (links_of s scratch)
