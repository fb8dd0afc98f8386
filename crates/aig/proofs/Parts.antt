-- A part of a list of words: what stands in it, and what a store inside and outside does to it. Assumes nothing.
use Prim.Native.Nat.{ℕ, ◌+◌, ◌-◌, ◌<◌, ◌≤◌}
use mathlib.Core.Path.{◌≡◌, ◌∙◌, ap}
use mathlib.Core.List.{List}
use native.Mathlib.Omega.{arith}
use lib.ListN.{length, get_or, set, take, drop, length-take, length-drop}
use lib.Seq.{get_or-take, get_or-drop, drop-set-lt, drop-set-add, take-set-le, take-set-lt}
use Rattle.aig.specs.Layout.{part}

pub part_length : (from size : ℕ) (ws : List ℕ) → from + size ≤ length ws → length (part from size ws) ≡ size
part_length from size ws h = simp (length-take, length-drop) (omega arith)

pub part_at : (from size : ℕ) (ws : List ℕ) (i : ℕ) → i < size → get_or (part from size ws) i 0 ≡ get_or ws (from + i) 0
part_at from size ws i h = get_or-take size (drop from ws) i 0 h ∙ get_or-drop from ws i 0

pub part-set : (from size : ℕ) (ws : List ℕ) (i v : ℕ) → i < size → part from size (set ws (from + i) v) ≡ set (part from size ws) i v
part-set from size ws i v h = ap (take size) (drop-set-add from ws i v) ∙ take-set-lt size (drop from ws) i v h

pub part_before : (from size : ℕ) (ws : List ℕ) (i v : ℕ) → i < from → part from size (set ws i v) ≡ part from size ws
part_before from size ws i v h = ap (take size) (drop-set-lt from ws i v h)

pub part-after : (from size : ℕ) (ws : List ℕ) (i v : ℕ) → from + size ≤ i → part from size (set ws i v) ≡ part from size ws
part-after from size ws i v h =
    let e : i ≡ from + (i - from) = omega arith in
    ap (λ (j : ℕ). part from size (set ws j v)) e ∙ ap (take size) (drop-set-add from ws (i - from) v)
    ∙ take-set-le size (drop from ws) (i - from) v (omega arith)
