-- Where a token reader stands: at the first byte, and past what was read. Assumes nothing.
use Rattle.std.specs.Prelude.{ℕ, List, Result, Ok, Err}
use Rattle.std.specs.Borrow.{Bor}
use Rattle.place.specs.Place.{further}
use Rattle.token.specs.declared.Number.{Number}
use Rattle.token.specs.declared.Inputs.{Inputs}
use Rattle.token.specs.declared.Refused.{Refused}
use Rattle.token.specs.Answer.{Token, PairToken}
use Rattle.token_reader.specs.declared.TokenReader.{TokenReader}

-- the place past what was read, by the bytes that it took; a refusal leaves the place
abbrev pub past : {T : Type 0} → (T → ℕ) → ℕ → Result T Refused → ℕ
past used at (Ok t) = further at (used t)
past used at (Err e) = at

-- the place past a number
abbrev pub place_after : ℕ → Token → ℕ
place_after = past (λ (number : Number). number.used)

-- the same of a pair
abbrev pub place_after_pair : ℕ → PairToken → ℕ
place_after_pair = past (λ (inputs : Inputs). inputs.used)

-- a reader at the first of the bytes
abbrev pub starting : Bor (List ℕ) → TokenReader
starting bytes = record { bytes = bytes; at = 0 }

-- a reader of the same bytes at another place
abbrev pub placed : TokenReader → ℕ → TokenReader
placed r at = record { bytes = r.bytes; at = at }

-- the reader past what was read, by the bytes that it took
abbrev pub moved_by : {T : Type 0} → (T → ℕ) → TokenReader → Result T Refused → TokenReader
moved_by used r t = placed r (past used r.at t)

-- the reader past a number
abbrev pub moved_past : TokenReader → Token → TokenReader
moved_past r t = placed r (place_after r.at t)

-- the same after a pair
abbrev pub moved_past_pair : TokenReader → PairToken → TokenReader
moved_past_pair r t = placed r (place_after_pair r.at t)
