-- The words of the contracts: a code's answer for what is read, and what a section leaves of its lent lists. Assumes nothing.
use Rattle.std.specs.Prelude.{ℕ, ◌≡◌, List, length, Result, Ok}
use Rattle.text.specs.Put.{put_all}
use Rattle.circuit.specs.Graph.{Gate}
use Rattle.circuit.specs.Outcome.{zeros}
use Rattle.lines.specs.declared.Broken.{Broken}
use Rattle.lines.specs.Reading.{Read, got, no}
use Rattle.lines.specs.Promise.{broken, answered}
use Rattle.ordered.specs.Expand.{gate_words}
use Rattle.ascii_lines.specs.declared.StatedRead.{StatedRead}
use Rattle.ascii_lines.specs.declared.GateRead.{GateRead}
use Rattle.ascii_lines.specs.Lines.{Stated, states_of, nexts_of, resets_of}

-- a latch's line that is read
abbrev pub stated_read_of : Stated → ℕ → StatedRead
stated_read_of l at = record { state = l.state; next = l.next; reset = l.reset; after = at }

abbrev pub stated_read : Read Stated → Result StatedRead Broken
stated_read = answered stated_read_of

-- a gate's line that is read
abbrev pub gate_read_of : Gate → ℕ → GateRead
gate_read_of g at = record { output = g.output; first = g.first; second = g.second; after = at }

abbrev pub gate_read : Read Gate → Result GateRead Broken
gate_read = answered gate_read_of

-- what a section leaves: its answer, and its lent lists
pub record SectionLeft (L : Type 0) : Type 0 where
  pub answer : Result ℕ Broken
  pub lists : L

abbrev pub section_seen : {L : Type 0} → Result ℕ Broken → L → SectionLeft L
section_seen answer lists = record { answer = answer; lists = lists }

-- what is read is put into the lists; where it is refused they are cleared
abbrev pub section_left : {A L : Type 0} → (A → L → L) → (L → L) → Read A → L → SectionLeft L
section_left put clear (got a at) l = section_seen (Ok at) (put a l)
section_left put clear (no why place) l = section_seen (broken why place) (clear l)

-- inside, where a refusal says nothing of the lists yet
abbrev pub Stores : {A L : Type 0} → (A → L → L) → Read A → Result ℕ Broken → L → L → Type 0
Stores put (got a at) r before after = (r ≡ Ok at) × (after ≡ put a before)
Stores put (no why place) r before after = r ≡ broken why place

-- numbers onto the front of a list, as far as there is room; and every cell 0
abbrev pub put_numbers : List ℕ → List ℕ → List ℕ
put_numbers vs list = put_all list 0 vs

abbrev pub no_numbers : List ℕ → List ℕ
no_numbers list = zeros (length list)

-- so with gates, three words each
abbrev pub put_gates : List Gate → List ℕ → List ℕ
put_gates gs list = put_numbers (gate_words gs) list

-- so with latches: states, next states and resets each in a list
pub record LatchLists : Type 0 where
  pub states : List ℕ
  pub nexts : List ℕ
  pub resets : List ℕ

abbrev pub latch_lists : List ℕ → List ℕ → List ℕ → LatchLists
latch_lists states nexts resets = record { states = states; nexts = nexts; resets = resets }

abbrev pub put_latches : List Stated → LatchLists → LatchLists
put_latches ls l = latch_lists (put_numbers (states_of ls) l.states) (put_numbers (nexts_of ls) l.nexts) (put_numbers (resets_of ls) l.resets)

abbrev pub no_latches : LatchLists → LatchLists
no_latches l = latch_lists (no_numbers l.states) (no_numbers l.nexts) (no_numbers l.resets)
