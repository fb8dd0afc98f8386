-- Whether a file is spelled as we spell it, said of what its bytes hold. Assumes nothing.
use Rattle.std.specs.Prelude.{ℕ, suc, ◌+◌, ◌≡◌, List, [], ◌∷◌, length}
use Rattle.token.specs.Format.{groups_value, shortest}
use Rattle.circuit.specs.Walk.{Pair}
use Rattle.circuit.specs.Ordered.{first_latch}
use Rattle.lines.specs.declared.Header.{Header}
use Rattle.lines.specs.Sections.{top_code}
use Rattle.lines.specs.Spelling.{Row}
use Rattle.sections.specs.Bytes.{up_to_last}
use Rattle.sections.specs.Claims.{ResetsNeeded, spelled_options}
use Rattle.binary.specs.File.{File, Room}
use Rattle.binary.specs.Spelling.{Gate, Listed, Spells}

-- the bytes of a delta are as many as the fewest that write its number
abbrev pub Fewest : List ℕ → Type 0
Fewest w = length w ≡ length (shortest (groups_value w))

-- both deltas of a gate are in their fewest bytes
abbrev pub ShortestGate : (n k : ℕ) (p : Pair) (w : List ℕ) → Gate n k p w → Type 0
ShortestGate n k p w t = Fewest t.1.front × Fewest t.1.second.front

-- and so are those of gates in a row, the first the k-th after n inputs and latches
abbrev pub ShortestGates : (n : ℕ) (gs : List Pair) (k : ℕ) (w : List ℕ) → Row (Gate n) k gs w → Type 0
ShortestGates n [] k w t = Unit {0}
ShortestGates n (p ∷ ps) k w (x, y, t, u, e) = ShortestGate n k p x t × ShortestGates n ps (suc k) y u

-- the header that a file spells, the optional counts that stand in it, and what stands behind it
abbrev pub header_in : (room : Room) (f : File) (w : List ℕ) → Spells room f w → Header
header_in room f w t = t.2.middle

abbrev pub options_in : (room : Room) (f : File) (w : List ℕ) → Spells room f w → List ℕ
options_in room f w t = spelled_options t.2.middle t.2.front t.2.first

abbrev pub lists_in : (room : Room) (f : File) (w : List ℕ) (t : Spells room f w) → Listed room (header_in room f w t) f t.2.second.back
lists_in room f w t = t.2.second.second

-- a latch line of a file has a reset field only where the reset is not 0
abbrev pub ResetsPlain : (room : Room) (h : Header) (f : File) (w : List ℕ) → Listed room h f w → Type 0
ResetsPlain room h f w t = ResetsNeeded (top_code h) (first_latch h.inputs) t.middle 0 t.front t.first.1

-- every delta of a file is in its fewest bytes
abbrev pub ShortestDeltas : (room : Room) (h : Header) (f : File) (w : List ℕ) → Listed room h f w → Type 0
ShortestDeltas room h f w t =
    ShortestGates (h.inputs + h.latches) t.second.second.middle 0 t.second.second.front t.second.second.first.1

-- the bytes of a file are spelled as we spell them
pub record Plain (room : Room) (f : File) (w : List ℕ) (t : Spells room f w) : Type 0 where
  -- the header has no optional count past the last that is not zero
  pub options : up_to_last (options_in room f w t) ≡ options_in room f w t
  -- a latch line has a reset field only where the reset is not 0
  pub resets : ResetsPlain room (header_in room f w t) f t.2.second.back (lists_in room f w t)
  -- every delta is in its fewest bytes
  pub deltas : ShortestDeltas room (header_in room f w t) f t.2.second.back (lists_in room f w t)
