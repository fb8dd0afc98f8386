-- The bytes from a place on, as a slice of lent bytes: a loop goes over them. Assumes nothing.
use mathlib.Core.Path.{◌≡◌, ◌∙◌}
use mathlib.Core.List.{List}
use Prim.Native.Nat.{ℕ, ◌+◌, ◌-◌, ◌≤◌, ◌<◌}
use native.Mathlib.Omega.{arith}
use lib.ListN.{length, get_or, take, drop, length-take, length-drop}
use lib.Seq.{get_or-take, get_or-drop}

-- what stands in s from a place on
abbrev pub rest_at : List ℕ → ℕ → List ℕ
rest_at s at = take (length s - at) (drop at s)

pub length_rest : (s : List ℕ) (at : ℕ) → length (rest_at s at) ≡ length s - at
length_rest s at = simp (length-take, length-drop) (omega arith)

module _ (s : List ℕ) (at : ℕ) {n : ℕ} where
  -- the byte at n of them is the one n further in s
  module _ (more : n < length (rest_at s at)) where
    pub rest_there : at + n < length s
    rest_there = omega (arith, length_rest s at)

    pub rest_byte : get_or (rest_at s at) n 0 ≡ get_or s (at + n) 0
    rest_byte = get_or-take (length s - at) (drop at s) n 0 (omega (arith, length_rest s at)) ∙ get_or-drop at s n 0

  pub rest_past : length (rest_at s at) ≤ n → length s ≤ at + n
  rest_past h = omega (arith, length_rest s at)
