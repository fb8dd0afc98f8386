-- The length of a room of equal cells, by a law: a check that counts the cells is slow, and stops before a million. Assumes nothing.
use Prim.Native.Nat.{ℕ}
use mathlib.Core.Path.{◌≡◌, sym}
use lib.ListN.{length, replicate, length-replicate}

pub filled : (n b : ℕ) → n ≡ length (replicate n b)
filled n b = sym (length-replicate n b)
