-- Places in lent bytes. Assumes nothing.
use Rattle.std.specs.Prelude.{ℕ, ◌+◌, min}

-- the largest place of 64 bits: no slice reaches it, so it reads as the end
abbrev pub last : ℕ
last = 18446744073709551615

-- the place n bytes further, or the largest where there is no such place
abbrev pub further : ℕ → ℕ → ℕ
further at n = min (at + n) last
