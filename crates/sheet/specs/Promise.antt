-- The words of the contracts: what the functions below the public one are handed. Assumes nothing.
use Rattle.std.specs.Prelude.{ℕ, ◌*◌, ◌^◌, ◌<◌, ◌≡◌, List, [], length, get_or}
use Rattle.circuit.specs.Circuit.{Circuit}
use Rattle.circuit.specs.Outcome.{lent_of, circuit_of, zeros}
use Rattle.sheet_read.specs.Sheet.{root_count, input_count, latch_count, gate_count}
use Rattle.sheet.specs.Circuit.{record_on}
use Rattle.sheet_read.specs.Promise.{Taken}

-- every number of a list is one of 32 bits
abbrev pub Words : List ℕ → Type 0
Words ns = (i : ℕ) → i < length ns → get_or ns i 0 < 2 ^ 32

-- the circuit of a header and lists of words, every reset 0
abbrev pub circuit_in : List ℕ → List ℕ → List ℕ → List ℕ → List ℕ → List ℕ → Circuit
circuit_in h inputs states nexts gates roots = circuit_of (lent_of (record_on h) inputs states nexts (zeros (length states)) gates roots [] [] [] [] [] [])

-- lists as long as their header says
pub record Shaped (h is ss ns gs rs : List ℕ) : Type 0 where
  pub taken : Taken h
  pub inputs : length is ≡ input_count h
  pub states : length ss ≡ latch_count h
  pub nexts : length ns ≡ latch_count h
  pub gates : length gs ≡ 3 * gate_count h
  pub roots : length rs ≡ root_count h

-- room for the largest circuit on a sheet
pub record Roomy (m ns zs rs gs ws : List ℕ) : Type 0 where
  pub map : length m ≡ 1024
  pub next_images : length ns ≡ 1023
  pub reset_images : length zs ≡ 1023
  pub root_images : length rs ≡ 1023
  pub gates_out : length gs ≡ 2046
  pub scratch : length ws ≡ 6141
