-- What `prepare` hands on stays as long as it was. Assumes nothing.
use Prim.Native.Nat.{ℕ}
use mathlib.Core.Path.{◌≡◌}
use mathlib.Core.List.{List, ◌++◌}
use native.Mathlib.Omega.{arith}
use lib.ListN.{length, take, drop, length-append, length-take, length-drop}

-- a front and what stood past it are as long as the list
pub whole : (n : ℕ) (x y : List ℕ) → length y ≡ length (take n x) → length (y ++ drop n x) ≡ length x
whole n x y e = omega (arith, e, length-append y (drop n x), length-take n x, length-drop n x)
