-- The bytes of what both forms of an AIGER file share, as we write them: a line, a latch's line, the header, the root section. Assumes nothing.
use Rattle.std.specs.Prelude.{ℕ, ◌+◌, cond, List, [], ◌∷◌, ◌++◌, eqb, take, drop}
use Rattle.token.specs.Format.{digits_of}
use Rattle.lines.specs.declared.Header.{Header}
use Rattle.lines.specs.Sections.{Roots, first_roots}

-- the bytes of numbers in a row, each by its own
abbrev pub row_bytes : (ℕ → List ℕ) → List ℕ → List ℕ
row_bytes each [] = []
row_bytes each (v ∷ vs) = each v ++ row_bytes each vs

-- a line with a number: its digits and a newline
unfoldable pub line_bytes : ℕ → List ℕ
line_bytes v = digits_of v ++ (10 ∷ [])

abbrev pub lines_bytes : List ℕ → List ℕ
lines_bytes vs = row_bytes line_bytes vs

-- a count of the header: a space and its digits
unfoldable pub count_bytes : ℕ → List ℕ
count_bytes v = 32 ∷ digits_of v

abbrev pub counts_bytes : List ℕ → List ℕ
counts_bytes vs = row_bytes count_bytes vs

-- a latch's reset: a space and its digits, or nothing where it is 0
unfoldable pub reset_bytes : ℕ → List ℕ
reset_bytes reset = cond (eqb reset 0) [] (32 ∷ digits_of reset)

-- a latch's line: the digits of its next state, its reset, a newline
unfoldable pub latch_bytes : ℕ → ℕ → List ℕ
latch_bytes next reset = digits_of next ++ (reset_bytes reset ++ (10 ∷ []))

-- latch lines, from next states and resets side by side, as long as both last
abbrev pub latches_bytes : List ℕ → List ℕ → List ℕ
latches_bytes [] resets = []
latches_bytes (n ∷ ns) [] = []
latches_bytes (n ∷ ns) (r ∷ rs) = latch_bytes n r ++ latches_bytes ns rs

-- a count and those that are kept behind it: where none is, a zero is not kept either
abbrev pub kept_before : ℕ → List ℕ → List ℕ
kept_before v [] = cond (eqb v 0) [] (v ∷ [])
kept_before v (w ∷ ws) = v ∷ w ∷ ws

-- counts up to the last that is not zero
abbrev pub up_to_last : List ℕ → List ℕ
up_to_last [] = []
up_to_last (v ∷ vs) = kept_before v (up_to_last vs)

-- B C J F, which a header may leave out
abbrev pub optional : Header → List ℕ
optional h = h.bad ∷ h.constraints ∷ h.justice ∷ h.fairness ∷ []

-- the counts of a header: M I L O A, and the optional ones up to the last that is not zero
abbrev pub counts_of : Header → List ℕ
counts_of h = h.top ∷ h.inputs ∷ h.latches ∷ h.outputs ∷ h.gates ∷ up_to_last (optional h)

-- the first line: what stands after the tag of the file's form, and all of it
unfoldable pub after_tag : Header → List ℕ
after_tag h = counts_bytes (counts_of h) ++ (10 ∷ [])

abbrev pub header_bytes : List ℕ → Header → List ℕ
header_bytes tag h = tag ++ after_tag h

-- the root section: outputs, bad states and constraints; justice sizes; justice literals; fairness. In the list of roots fairness stands before justice
unfoldable pub roots_bytes : Header → Roots → List ℕ
roots_bytes h r =
    lines_bytes (take (first_roots h) r.roots)
    ++ (lines_bytes r.sizes
    ++ (lines_bytes (drop (first_roots h + h.fairness) r.roots) ++ lines_bytes (take h.fairness (drop (first_roots h) r.roots))))
