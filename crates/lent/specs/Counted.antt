-- A word as a number. Assumes nothing.
use Rattle.std.specs.Prelude.{ℕ, ◌^◌, ◌<◌, ◌≡◌}

-- the number is the word, and it is a word's, so that a few of them can be added up
pub record Counted (word r : ℕ) : Type 0 where
  pub same : r ≡ word
  pub fits : r < 2 ^ 32
