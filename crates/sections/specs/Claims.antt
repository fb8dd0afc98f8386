-- The words of the theorems about what is written: whether a spelling is ours, said of what it has. Assumes nothing.
use Rattle.std.specs.Prelude.{ℕ, suc, ◌+◌, ◌*◌, ◌^◌, ◌≤◌, ◌<◌, ◌≡◌, ◌⊎◌, List, [], ◌∷◌, length}
use Rattle.std.proofs.Common.{inl, inr}
use Rattle.circuit.specs.Graph.{In}
use Rattle.lines.specs.declared.Header.{Header}
use Rattle.lines.specs.Lines.{LatchLine, latch_line}
use Rattle.lines.specs.Spelling.{Row, Latch, HeaderCounts}

-- numbers of 64 bits
abbrev pub Fit : List ℕ → Type 0
Fit vs = (v : ℕ) → In v vs → v < 2 ^ 64

-- a spelling is no shorter than ours, and where it is as long it is ours
pub record Least (ours w : List ℕ) : Type 0 where
  pub fewest : length ours ≤ length w
  pub only : length w ≡ length ours → w ≡ ours

-- latch lines, of next states and resets side by side, as long as both last
abbrev pub latch_lines_of : List ℕ → List ℕ → List LatchLine
latch_lines_of [] resets = []
latch_lines_of (n ∷ ns) [] = []
latch_lines_of (n ∷ ns) (r ∷ rs) = latch_line n r ∷ latch_lines_of ns rs

-- of a way with a reset field and one without: the field is there only where the reset is not 0
abbrev pub Needed : {A B : Type 0} → ℕ → A ⊎ B → Type 0
Needed reset (inl field) = reset ≡ 0 → ⊥
Needed reset (inr none) = Unit {0}

-- latch lines, the first the k-th, in which a reset field is there only where the reset is not 0
abbrev pub ResetsNeeded : (most first : ℕ) (ls : List LatchLine) (k : ℕ) (w : List ℕ) → Row (λ j. Latch most (first + 2 * j)) k ls w → Type 0
ResetsNeeded most first [] k w t = Unit {0}
ResetsNeeded most first (l ∷ ls) k w (x, y, t, u, e) = Needed l.reset t.second.first × ResetsNeeded most first ls (suc k) y u

-- the optional counts that a header spells, after M I L O A
abbrev pub spelled_options : (h : Header) (w : List ℕ) → HeaderCounts h w → List ℕ
spelled_options h w t = t.second.second.second.second.second.middle
