-- A latch's line whose reset is refused. Assumes nothing.
use Rattle.std.specs.Prelude.{ℕ, ◌+◌, ◌≡◌, true, List}
use Rattle.circuit.specs.Claims.{IsReset}
use Rattle.lines.specs.Reading.{got}
use Rattle.lines.specs.Lines.{is_byte, number_at}

-- the line at `at` of a latch with the literal `own` has a next state, a space and, at `place`, a number within the limit that is not 0, 1 or the literal
pub record Stray (s : List ℕ) (most own at place : ℕ) : Type 0 where
  pub next : ℕ
  pub space : ℕ
  pub reset : ℕ
  pub after : ℕ
  pub number : number_at s most at ≡ got next space
  pub spaced : is_byte s 32 space ≡ true
  pub behind : place ≡ space + 1
  pub field : number_at s most place ≡ got reset after
  pub stray : IsReset own reset → ⊥
