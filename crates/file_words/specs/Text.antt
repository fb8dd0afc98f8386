-- What the C entries for reading and for writing a text file answer, and what they leave in each lent list. Assumes nothing.
use Rattle.std.specs.Prelude.{ℕ, cond, List, ltb, length, Result, Ok, Err}
use Rattle.circuit.specs.Outcome.{onto}
use Rattle.ordered.specs.Check.{Words}
use Rattle.binary.specs.declared.FileRead.{FileRead}
use Rattle.ascii.specs.declared.TextRead.{TextRead}
use Rattle.lines.specs.declared.Broken.{Broken}
use Rattle.ascii.specs.Promise.{Lists, numbers, Outcome, outcome}
use Rattle.ascii.specs.Write.{writing}
use Rattle.file_words.specs.Read.{file_number, answer_words}
use Rattle.file_words.specs.Write.{Seen, seen_by}

-- all that C sees after reading a text: the number answered, the seven lists that reading writes, and the answer words
pub record TextSeen : Type 0 where
  pub number : ℕ
  pub inputs : List ℕ
  pub states : List ℕ
  pub nexts : List ℕ
  pub resets : List ℕ
  pub gates : List ℕ
  pub sizes : List ℕ
  pub roots : List ℕ
  pub words : List ℕ

abbrev pub text_seen_of : ℕ → Lists → List ℕ → TextSeen
text_seen_of number l words =
    record {
      number = number;
      inputs = l.inputs;
      states = l.states;
      nexts = l.nexts;
      resets = l.resets;
      gates = l.gates;
      sizes = l.sizes;
      roots = l.roots;
      words = words;
    }

-- what C sees when a call returns, as the contract writes it down, a field a line
abbrev pub text_seen : TextSeen → TextSeen
text_seen s = s

-- what is answered of a text but for its M, as of a binary file
abbrev pub file_read : Result TextRead Broken → Result FileRead Broken
file_read (Ok r) = Ok (record { used = r.used; inputs = r.inputs; latches = r.latches; gates = r.gates; counts = r.counts; sets = r.sets })
file_read (Err e) = Err e

-- M of a text: its header's
abbrev pub text_top : Result TextRead Broken → ℕ
text_top r = (numbers r).top

-- an outcome as C sees it; words past the eleventh stay
abbrev pub as_text_seen : Outcome → List ℕ → TextSeen
as_text_seen o words = text_seen_of (file_number (file_read o.read)) o.lists (onto (answer_words (text_top o.read) (file_read o.read)) words)

-- fewer than eleven answer words is refusal 3, tested first, and leaves every list; else it is the outcome of reading the bytes into the lists
unfoldable pub read_text_seen : List ℕ → Lists → List ℕ → TextSeen
read_text_seen bytes l words = cond (ltb (length words) 11) (text_seen_of 3 l words) (as_text_seen (outcome bytes l) words)

-- writing a text, seen as writing a binary file is
abbrev pub write_text_seen : Words → List ℕ → List ℕ → Seen
write_text_seen w out words = seen_by writing w out words
