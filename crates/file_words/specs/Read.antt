-- What the C entry for reading a binary file answers, and what it leaves in each lent list. Assumes nothing.
use Rattle.std.specs.Prelude.{ℕ, ◌+◌, cond, List, [], ◌∷◌, ◌++◌, ltb, length, Result, Ok, Err}
use Rattle.circuit.specs.Outcome.{onto}
use Rattle.lines.specs.Numbers.{fault_number}
use Rattle.lines.specs.declared.Broken.{Broken}
use Rattle.binary.specs.declared.FileRead.{FileRead}
use Rattle.binary.specs.Promise.{Lists, numbers, Outcome, outcome}

-- all that C sees afterwards: the number answered, the five lists that reading writes, and the answer words
pub record Seen : Type 0 where
  pub number : ℕ
  pub nexts : List ℕ
  pub resets : List ℕ
  pub gates : List ℕ
  pub sizes : List ℕ
  pub roots : List ℕ
  pub words : List ℕ

abbrev pub seen_of : ℕ → Lists → List ℕ → Seen
seen_of number l words =
    record { number = number; nexts = l.nexts; resets = l.resets; gates = l.gates; sizes = l.sizes; roots = l.roots; words = words }

-- what C sees when a call returns, as the contract writes it down, a field a line
abbrev pub file_seen : Seen → Seen
file_seen s = s

-- 0 for a file that is taken, document 02's number for a refusal
abbrev pub file_number : Result FileRead Broken → ℕ
file_number (Ok r) = 0
file_number (Err e) = fault_number e.why

-- the first answer word: the bytes used, or the place of the refusal
abbrev pub first_word : Result FileRead Broken → ℕ
first_word (Ok r) = r.used
first_word (Err e) = e.place

-- M of a binary file: I + L + A
abbrev pub top_of : Result FileRead Broken → ℕ
top_of r =
    let n = numbers r in
    n.inputs + n.latches + n.gates

-- the eleven answer words: after the first M, I, L, A, the five root counts in walk order, the number of justice sets; those of a refusal are 0
abbrev pub answer_words : ℕ → Result FileRead Broken → List ℕ
answer_words top r =
    let n = numbers r in
    first_word r ∷ top ∷ n.inputs ∷ n.latches ∷ n.gates ∷ (n.counts ++ n.sets ∷ [])

-- an outcome as C sees it; words past the eleventh stay
abbrev pub as_seen : Outcome → List ℕ → Seen
as_seen o words = seen_of (file_number o.read) o.lists (onto (answer_words (top_of o.read) o.read) words)

-- fewer than eleven answer words is refusal 3, tested first, and leaves every list; else it is the outcome of reading the bytes into the lists
unfoldable pub read_seen : List ℕ → Lists → List ℕ → Seen
read_seen bytes l words = cond (ltb (length words) 11) (seen_of 3 l words) (as_seen (outcome bytes l) words)
