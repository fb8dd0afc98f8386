-- Intake as one call, as C sees it: the number answered, the fourteen answer words, and what is left in each lent list. Assumes nothing.
use Rattle.std.specs.Prelude.{ℕ, cond, List, [], ◌∷◌, ◌++◌, ltb, length, Result, Ok, Err}
use Rattle.circuit.specs.Outcome.{onto}
use Rattle.circuit.specs.Refusals.{refusal_number}
use Rattle.lines.specs.Numbers as reading
use Rattle.lines.specs.declared.Broken.{Broken}
use Rattle.ordered.specs.Check as writing
use Rattle.binary.specs.declared.FileRead.{FileRead}
use Rattle.file_words.specs.Read.{top_of, answer_words}
use Rattle.intake.specs.declared.OrderFault.TheVariants.{Unread, Unordered, Unstored}
use Rattle.intake.specs.Order.{Ordering, Lists, Outcome, ordering}

-- all that C sees afterwards: the number answered, the fourteen lent lists and the lent bytes, and the answer words
pub record OrderSeen : Type 0 where
  pub number : ℕ
  pub lists : Lists
  pub words : List ℕ

-- what C sees when a call returns, as the contract writes it down, a field a line
abbrev pub order_seen : OrderSeen → OrderSeen
order_seen s = s

-- 0 for a file that is ordered; else the refusal's number, of the file, of renumbering or of writing
abbrev pub order_number : Ordering → ℕ
order_number (Ok o) = 0
order_number (Err (Unread e)) = reading.fault_number e.why
order_number (Err (Unordered why read)) = refusal_number why
order_number (Err (Unstored u read made)) = writing.fault_number u.why

-- who refused: nobody, the file, renumbering, writing
abbrev pub refuser : Ordering → ℕ
refuser (Ok o) = 0
refuser (Err (Unread e)) = 1
refuser (Err (Unordered why read)) = 2
refuser (Err (Unstored u read made)) = 3

-- the gates made; 0 where none was
abbrev pub made_count : Ordering → ℕ
made_count (Ok o) = o.made
made_count (Err (Unread e)) = 0
made_count (Err (Unordered why read)) = 0
made_count (Err (Unstored u read made)) = made

-- the bytes written, or those needed where the lent ones are too few; else 0
abbrev pub byte_count : Ordering → ℕ
byte_count (Ok o) = o.written
byte_count (Err (Unread e)) = 0
byte_count (Err (Unordered why read)) = 0
byte_count (Err (Unstored u read made)) = u.needed

-- the file that was read, or its own refusal
abbrev pub file_of : Ordering → Result FileRead Broken
file_of (Ok o) = Ok o.read
file_of (Err (Unread e)) = Err e
file_of (Err (Unordered why read)) = Ok read
file_of (Err (Unstored u read made)) = Ok read

-- the fourteen answer words: the eleven of the file that was read, as reading it alone has them; then the gates made, the bytes, and who refused
abbrev pub order_words : Ordering → List ℕ
order_words s = answer_words (top_of (file_of s)) (file_of s) ++ made_count s ∷ byte_count s ∷ refuser s ∷ []

-- an outcome as C sees it; words past the fourteenth stay
abbrev pub as_order_seen : Outcome → List ℕ → OrderSeen
as_order_seen o words = record { number = order_number o.said; lists = o.lists; words = onto (order_words o.said) words }

-- fewer than fourteen answer words is refusal 3, tested first, and leaves everything; else it is the outcome of ordering the file in these bytes, by the
-- flags, with what is lent
unfoldable pub ordering_seen : List ℕ → ℕ → Lists → List ℕ → OrderSeen
ordering_seen bytes flags l words =
    cond (ltb (length words) 14) (record { number = 3; lists = l; words = words }) (as_order_seen (ordering bytes flags l) words)
