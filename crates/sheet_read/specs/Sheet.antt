-- Reading a sheet: ten numbers, then the codes of the lists they announce, and not a byte more. Assumes nothing.
use Rattle.std.specs.Prelude.{ℕ, zero, suc, ◌+◌, ◌*◌, Bool, cond, ◌||◌, List, [], ◌∷◌, eqb, ltb, length, get_or, take, drop, ⊤, is_some, Result, Ok, Err}
use Rattle.token.specs.Answer.{Token, reason_number, binary_at}
use Rattle.token.specs.declared.Refused.{Refused}
use Rattle.circuit.specs.Circuit.{first_over}
use Rattle.circuit.specs.Outcome.{total}
use Rattle.sheet_read.specs.declared.Faulty.{Faulty}

-- numbers in groups of seven bits, one after the other

-- the numbers read, and the place after them, or why the next one is refused and where it stands
pub record Run : Type 0 where
  pub numbers : List ℕ
  pub ended : Result ℕ Refused

abbrev pub run_of : List ℕ → Result ℕ Refused → Run
run_of ns e = record { numbers = ns; ended = e }

abbrev pub prepended : ℕ → Run → Run
prepended v r = run_of (v ∷ r.numbers) r.ended

-- a number as it is read: a refusal ends the run, else the number and the bytes it took lead on
abbrev pub onward : Token → (ℕ → ℕ → Run) → Run
onward (Ok t) go = go t.value t.used
onward (Err e) go = run_of [] (Err e)

-- n numbers from a place on
unfoldable pub numbers_at : List ℕ → ℕ → ℕ → Run
numbers_at s at zero = run_of [] (Ok at)
numbers_at s at (suc n) = onward (binary_at s at) (λ v used. prepended v (numbers_at s (at + used) n))

-- the header's ten numbers

-- V, I, L, G
abbrev pub top_of : List ℕ → ℕ
top_of h = get_or h 0 0

abbrev pub input_count : List ℕ → ℕ
input_count h = get_or h 1 0

abbrev pub latch_count : List ℕ → ℕ
latch_count h = get_or h 2 0

abbrev pub gate_count : List ℕ → ℕ
gate_count h = get_or h 3 0

-- the five root counts, and R
abbrev pub root_counts : List ℕ → List ℕ
root_counts h = take 5 (drop 4 h)

unfoldable pub root_count : List ℕ → ℕ
root_count h = total (root_counts h)

-- the flags: trim 1, hash 2, fold 4
abbrev pub flags_of : List ℕ → ℕ
flags_of h = get_or h 9 0

-- the longest sheet, and the largest V, I, L, G and R on it
abbrev pub sheet_limit : ℕ
sheet_limit = 60000

abbrev pub size_limit : ℕ
size_limit = 1023

-- one of the first nine numbers, or R, is over 1,023
unfoldable pub too_large : List ℕ → Bool
too_large h = is_some (first_over size_limit (take 9 h)) || ltb size_limit (root_count h)

-- how many codes follow: inputs, three of each gate, two of each latch, roots
unfoldable pub code_count : List ℕ → ℕ
code_count h = input_count h + 3 * gate_count h + 2 * latch_count h + root_count h

-- the same for a list of any numbers: none where they are not ten, or one is over its limit
unfoldable pub announced : List ℕ → ℕ
announced h = cond (eqb (length h) 10) (cond (too_large h) 0 (code_count h)) 0

-- the whole sheet

-- it is taken
abbrev pub whole : Result ⊤ Faulty
whole = Ok tt

-- or it is not: a refusal's number, and what is printed beside it
abbrev pub faulty : ℕ → ℕ → Result ⊤ Faulty
faulty number beside = Err (record { number = number; beside = beside })

-- a number that is refused: its reason's number, and its place beside it
abbrev pub faulty_number : Refused → Faulty
faulty_number e = record { number = reason_number e.why; beside = e.place }

-- whether it is taken, the header's numbers and the codes as far as they were read
pub record Read : Type 0 where
  pub reading : Result ⊤ Faulty
  pub header : List ℕ
  pub codes : List ℕ

abbrev pub read_as : Result ⊤ Faulty → List ℕ → List ℕ → Read
read_as reading header codes = record { reading = reading; header = header; codes = codes }

-- the codes are read: a byte that is left is 2
abbrev pub codes_read : List ℕ → List ℕ → List ℕ → Result ℕ Refused → Read
codes_read s h cs (Ok at) = cond (ltb at (length s)) (read_as (faulty 2 0) h cs) (read_as whole h cs)
codes_read s h cs (Err e) = read_as (Err (faulty_number e)) h cs

-- the header is passed: then the codes, all in a row
unfoldable pub lists_read : List ℕ → List ℕ → Run → Read
lists_read s h r = codes_read s h r.numbers r.ended

-- the ten numbers are read: sizes over their limit are 1, then flags over 7 are 2
abbrev pub header_read : List ℕ → List ℕ → Result ℕ Refused → Read
header_read s h (Ok at) =
    cond (too_large h) (read_as (faulty 1 0) h [])
    (cond (ltb 7 (flags_of h)) (read_as (faulty 2 0) h []) (lists_read s h (numbers_at s at (code_count h))))
header_read s h (Err e) = read_as (Err (faulty_number e)) h []

-- a sheet over 60,000 bytes is 1; then the ten numbers
unfoldable pub sheet_read : List ℕ → Run → Read
sheet_read s r = cond (ltb sheet_limit (length s)) (read_as (faulty 1 0) [] []) (header_read s r.numbers r.ended)

unfoldable pub read_of : List ℕ → Read
read_of s = sheet_read s (numbers_at s 0 10)
