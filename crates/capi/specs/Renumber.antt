-- What the C entry for renumbering answers, and what it leaves in each lent list. Assumes nothing.
use Rattle.std.specs.Prelude.{ℕ, ◌/◌, Bool, cond, not, ◌||◌, List, [], ◌∷◌, eqb, ltb, length, Ok, Err}
use Rattle.lit.specs.Code.{is_odd, variable}
use Rattle.circuit.specs.declared.Refusal.TheVariants.{Misshapen}
use Rattle.circuit.specs.Answer.{Answer}
use Rattle.circuit.specs.declared.CircuitRecord.{CircuitRecord}
use Rattle.circuit.specs.Refusals.{refusal_number, refusal_literal}
use Rattle.circuit.specs.Outcome.{Lent, Outcome, onto, untouched, outcome}

-- all that C sees afterwards: the number answered, the six lists that renumbering writes, and the answer words
pub record Seen : Type 0 where
  pub number : ℕ
  pub map : List ℕ
  pub next_images : List ℕ
  pub reset_images : List ℕ
  pub root_images : List ℕ
  pub gates_out : List ℕ
  pub scratch : List ℕ
  pub words : List ℕ

abbrev pub seen_of : ℕ → List ℕ → List ℕ → List ℕ → List ℕ → List ℕ → List ℕ → List ℕ → Seen
seen_of number map next_images reset_images root_images gates_out scratch words =
    record {
      number = number;
      map = map;
      next_images = next_images;
      reset_images = reset_images;
      root_images = root_images;
      gates_out = gates_out;
      scratch = scratch;
      words = words;
    }

-- the circuit but for its lists, from C's numbers; the flags are trim 1, hash 2, fold 4
abbrev pub record_of : ℕ → List ℕ → ℕ → CircuitRecord
record_of top counts flags =
    record { top = variable top; counts = counts; trim = is_odd flags; hash = is_odd (flags / 2); fold = is_odd (flags / 4) }

-- what C sees when a call returns, as the contract writes it down, a field a line
abbrev pub seen : Seen → Seen
seen s = s

-- there are not five counts, or the flags are over 7
unfoldable pub misgiven : List ℕ → ℕ → Bool
misgiven counts flags = not (eqb (length counts) 5) || ltb 7 flags

-- what is refused before there is a circuit to check, as a number that is 0 where nothing is; and the answer words after it
unfoldable pub first_number : List ℕ → ℕ → List ℕ → ℕ
first_number counts flags words = cond (ltb (length words) 3) 3 (cond (misgiven counts flags) 2 0)

unfoldable pub first_words : List ℕ → ℕ → List ℕ → List ℕ
first_words counts flags words = cond (ltb (length words) 3) words (cond (misgiven counts flags) (onto (0 ∷ 0 ∷ 0 ∷ []) words) words)

-- 0 for a success, document 01's number for a refusal
abbrev pub answer_number : Answer → ℕ
answer_number (Ok s) = 0
answer_number (Err why) = refusal_number why

-- the three answer words: the literal at fault, the gates made, the new largest variable
abbrev pub answer_words : Answer → List ℕ
answer_words (Ok s) = 0 ∷ s.made ∷ s.top.0 ∷ []
answer_words (Err why) = (refusal_literal why).0 ∷ 0 ∷ 0 ∷ []

-- an outcome as C sees it; words past the third stay
abbrev pub as_seen : Outcome → List ℕ → Seen
as_seen o words =
    seen_of (answer_number o.answer) o.map o.next_images o.reset_images o.root_images o.gates_out o.scratch
    (onto (answer_words o.answer) words)

-- fewer than three answer words is refusal 3, tested first, and leaves every list; then counts or flags that can't be taken are refusal 2, and
-- leave the six lists; else it is the outcome of renumbering what is lent
unfoldable pub renumber_seen : List ℕ → ℕ → Lent → List ℕ → Seen
renumber_seen counts flags l words =
    cond (ltb (length words) 3) (seen_of 3 l.map l.next_images l.reset_images l.root_images l.gates_out l.scratch words)
    (as_seen (cond (misgiven counts flags) (untouched l Misshapen) (outcome l)) words)
