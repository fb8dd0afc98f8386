-- The words of the contracts: the answer for what is read, and what is left of each lent list. Assumes nothing.
use Rattle.std.specs.Prelude.{ℕ, ◌*◌, ◌≤◌, ◌≡◌, List, [], ◌∷◌, length, Result, Ok, Err}
use Rattle.circuit.specs.Outcome.{total, onto, zeros}
use Rattle.lines.specs.declared.Header.{Header}
use Rattle.lines.specs.declared.Broken.{Broken}
use Rattle.lines.specs.declared.Reading.{Reading}
use Rattle.lines.specs.Reading.{Read, got, no}
use Rattle.lines.specs.Promise.{broken, reading_of}
use Rattle.ordered.specs.Expand.{gate_words}
use Rattle.ascii.specs.declared.TextRead.{TextRead}
use Rattle.ascii.specs.Text.{Text, Room, read_text}

-- the seven lent lists
pub record Lists : Type 0 where
  pub inputs : List ℕ
  pub states : List ℕ
  pub nexts : List ℕ
  pub resets : List ℕ
  pub gates : List ℕ
  pub sizes : List ℕ
  pub roots : List ℕ

abbrev pub lists_of : List ℕ → List ℕ → List ℕ → List ℕ → List ℕ → List ℕ → List ℕ → Lists
lists_of inputs states nexts resets gates sizes roots =
    record { inputs = inputs; states = states; nexts = nexts; resets = resets; gates = gates; sizes = sizes; roots = roots }

abbrev pub room_of : Lists → Room
room_of l =
    record {
      inputs = length l.inputs;
      states = length l.states;
      nexts = length l.nexts;
      resets = length l.resets;
      gates = length l.gates;
      sizes = length l.sizes;
      roots = length l.roots;
    }

-- what the text holds written onto the front of each list, three words a gate, and the cells past it as they were
abbrev pub written : Text → Lists → Lists
written t l =
    record {
      inputs = onto t.inputs l.inputs;
      states = onto t.states l.states;
      nexts = onto t.nexts l.nexts;
      resets = onto t.resets l.resets;
      gates = onto (gate_words t.gates) l.gates;
      sizes = onto t.sizes l.sizes;
      roots = onto t.roots l.roots;
    }

-- every cell of every list 0
abbrev pub cleared : Lists → Lists
cleared l =
    record {
      inputs = zeros (length l.inputs);
      states = zeros (length l.states);
      nexts = zeros (length l.nexts);
      resets = zeros (length l.resets);
      gates = zeros (length l.gates);
      sizes = zeros (length l.sizes);
      roots = zeros (length l.roots);
    }

-- the text but for its header is stored, and the number of justice literals is answered
abbrev pub StoresText : Read Text → Result Reading Broken → Lists → Lists → Type 0
StoresText (got t at) r before after = (r ≡ Ok (reading_of (total t.sizes) at)) × (after ≡ written t before)
StoresText (no why place) r before after = r ≡ broken why place

-- the bytes that a text took, and its numbers
abbrev pub text_read : Text → ℕ → TextRead
text_read t at =
    record {
      used = at;
      top = t.top;
      inputs = length t.inputs;
      latches = length t.states;
      gates = length t.gates;
      counts = t.counts;
      sets = length t.sizes;
    }

-- the answer
abbrev pub answered : Read Text → Result TextRead Broken
answered (got t at) = Ok (text_read t at)
answered (no why place) = broken why place

-- the numbers of what is taken; all 0 for a refusal
abbrev pub numbers : Result TextRead Broken → TextRead
numbers (Ok r) = r
numbers (Err e) = record { used = 0; top = 0; inputs = 0; latches = 0; gates = 0; counts = 0 ∷ 0 ∷ 0 ∷ 0 ∷ 0 ∷ []; sets = 0 }

-- the whole text is stored and answered
abbrev pub StoresRead : Read Text → Result TextRead Broken → Lists → Lists → Type 0
StoresRead (got t at) r before after = (r ≡ Ok (text_read t at)) × (after ≡ written t before)
StoresRead (no why place) r before after = r ≡ broken why place

-- the answer and the lent lists afterwards
pub record Outcome : Type 0 where
  pub read : Result TextRead Broken
  pub lists : Lists

abbrev pub seen : Result TextRead Broken → Lists → Outcome
seen read lists = record { read = read; lists = lists }

-- what is left of a reading: the text in the lists; all lists cleared where it is refused
abbrev pub left : Read Text → Lists → Outcome
left (got t at) l = seen (answered (got t at)) (written t l)
left (no why place) l = seen (answered (no why place)) (cleared l)

-- the whole: what reading these bytes into these lists answers, and what each list is afterwards
abbrev pub outcome : List ℕ → Lists → Outcome
outcome s l = left (read_text s (room_of l)) l

-- the lists are long enough for what a header announces but for the roots, which are counted later
pub record Roomy (h : Header) (room : Room) : Type 0 where
  pub inputs_fit : h.inputs ≤ room.inputs
  pub states_fit : h.latches ≤ room.states
  pub nexts_fit : h.latches ≤ room.nexts
  pub resets_fit : h.latches ≤ room.resets
  pub gates_fit : 3 * h.gates ≤ room.gates
  pub sizes_fit : h.justice ≤ room.sizes
