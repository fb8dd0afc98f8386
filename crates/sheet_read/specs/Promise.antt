-- The words of the contracts: what a function leaves of what it was lent, and headers that are taken. Assumes nothing.
use Rattle.std.specs.Prelude.{ℕ, ◌≡◌, ⊤, false, List, length, take, None, Result}
use Rattle.circuit.specs.Circuit.{first_over}
use Rattle.circuit.specs.Outcome.{onto}
use Rattle.token.specs.declared.Refused.{Refused}
use Rattle.sheet_read.specs.declared.Faulty.{Faulty}
use Rattle.sheet_read.specs.Sheet.{Run, Read, size_limit, too_large}

-- numbers were read into a list: how they ended, and what the list is then
abbrev pub Fills : Run → Result ℕ Refused → List ℕ → List ℕ → Type 0
Fills run r before after = (r ≡ run.ended) × (after ≡ onto run.numbers before)

-- a sheet was read into two lists
abbrev pub Reads : Read → Result ⊤ Faulty → List ℕ → List ℕ → List ℕ → List ℕ → Type 0
Reads read r header header' codes codes' = (r ≡ read.reading) × (header' ≡ onto read.header header) × (codes' ≡ onto read.codes codes)

-- the same of its codes alone
abbrev pub ReadsCodes : Read → Result ⊤ Faulty → List ℕ → List ℕ → Type 0
ReadsCodes read r codes codes' = (r ≡ read.reading) × (codes' ≡ onto read.codes codes)

-- ten numbers, the first nine within their limit
pub record Small (h : List ℕ) : Type 0 where
  pub ten : length h ≡ 10
  pub nine : first_over size_limit (take 9 h) ≡ None

-- a header that is taken: ten numbers, none but the flags over its limit, nor R
pub record Taken (h : List ℕ) : Type 0 where
  pub ten : length h ≡ 10
  pub within : too_large h ≡ false
