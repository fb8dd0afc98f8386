-- What a C entry for writing a file answers, and what it leaves in the lent bytes and words: of either form, and of the binary one. Assumes nothing.
use Rattle.std.specs.Prelude.{ℕ, cond, List, [], ◌∷◌, eqb, ltb, length, Result, Ok, Err}
use Rattle.circuit.specs.Outcome.{onto}
use Rattle.ordered.specs.declared.given.Fault.TheVariants.{Misshapen}
use Rattle.ordered.specs.declared.given.Shape.{Shape}
use Rattle.ordered.specs.Check.{Words, fault_number, fault_literal}
use Rattle.binary.specs.declared.Unwritten.{Unwritten}
use Rattle.binary.specs.Write.{unwritten, Writing, wrote, writing}

-- all that C sees afterwards: the number answered, the bytes that writing writes, and the answer words
pub record Seen : Type 0 where
  pub number : ℕ
  pub bytes : List ℕ
  pub words : List ℕ

abbrev pub seen_of : ℕ → List ℕ → List ℕ → Seen
seen_of number bytes words = record { number = number; bytes = bytes; words = words }

-- what C sees when a call returns, as the contract writes it down, a field a line
abbrev pub bytes_seen : Seen → Seen
bytes_seen s = s

-- the circuit but for its lists, from C's numbers
abbrev pub shape_of : ℕ → List ℕ → Shape
shape_of inputs counts = record { inputs = inputs; counts = counts }

-- 0 for a file that is written, the fault's number for a refusal
abbrev pub written_number : Result ℕ Unwritten → ℕ
written_number (Ok n) = 0
written_number (Err u) = fault_number u.why

-- the two answer words: the literal at fault; the bytes written, or those needed where they are too few
abbrev pub written_words : Result ℕ Unwritten → List ℕ
written_words (Ok n) = 0 ∷ n ∷ []
written_words (Err u) = fault_literal u.why ∷ u.needed ∷ []

-- what writing does as C sees it; words past the second stay
abbrev pub as_seen : Writing → List ℕ → Seen
as_seen w words = seen_of (written_number w.answer) w.bytes (onto (written_words w.answer) words)

-- what is refused before there is a circuit to check, as a number that is 0 where nothing is; and the answer words after it
unfoldable pub first_number : List ℕ → List ℕ → ℕ
first_number counts words = cond (ltb (length words) 2) 3 (cond (eqb (length counts) 5) 0 2)

unfoldable pub first_words : List ℕ → List ℕ → List ℕ
first_words counts words = cond (ltb (length words) 2) words (cond (eqb (length counts) 5) words (onto (0 ∷ 0 ∷ []) words))

-- fewer than two answer words is refusal 3, tested first, and leaves everything; then counts that are not five are refusal 2, and leave the bytes; else it is
-- what writing the circuit into the bytes does, by the form's own writing
unfoldable pub seen_by : (Words → List ℕ → Writing) → Words → List ℕ → List ℕ → Seen
seen_by form w out words =
    cond (ltb (length words) 2) (seen_of 3 out words)
    (as_seen (cond (eqb (length w.counts) 5) (form w out) (wrote (unwritten Misshapen 0) out)) words)

-- of a binary file
abbrev pub write_seen : Words → List ℕ → List ℕ → Seen
write_seen w out words = seen_by writing w out words
