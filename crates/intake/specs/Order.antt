-- From the bytes of a file to those of the ordered file: reading, expanding, renumbering and writing one after the other, what that answers, and what each lent
-- list and the lent bytes are afterwards. Assumes nothing.
use Rattle.std.specs.Prelude.{ℕ, ◌*◌, ◌/◌, ◌≤◌, cond, List, ltb, length, take, Result, Ok, Err}
use Rattle.lit.specs.Code.{is_odd, variable}
use Rattle.circuit.specs.declared.Refusal.{Refusal}
use Rattle.circuit.specs.declared.Refusal.TheVariants as R
use Rattle.circuit.specs.declared.CircuitRecord.{CircuitRecord}
use Rattle.circuit.specs.Answer.{Answer}
use Rattle.circuit.specs.Outcome as C
use Rattle.circuit.specs.Outcome.{Lent, lent_of, limit, total, untouched}
use Rattle.lines.specs.declared.Broken.{Broken}
use Rattle.lines.specs.declared.Fault.{Fault}
use Rattle.ordered.specs.declared.given.Fault as G
use Rattle.ordered.specs.declared.Unexpanded.{Unexpanded}
use Rattle.ordered.specs.declared.Unexpanded.TheVariants.{TooBig, Misshapen, Short}
use Rattle.ordered.specs.Expand as E
use Rattle.ordered.specs.Expand.{Expansion, expansion}
use Rattle.ordered.specs.Check.{Words}
use Rattle.binary.specs.declared.FileRead.{FileRead}
use Rattle.binary.specs.declared.Unwritten as U
use Rattle.binary.specs.Promise as B
use Rattle.binary.specs.Way.{top_of}
use Rattle.binary.specs.Write.{Writing, writing}
use Rattle.intake.specs.declared.Ordered as D
use Rattle.intake.specs.declared.OrderFault.{OrderFault}
use Rattle.intake.specs.declared.OrderFault.TheVariants as F

-- how the call ends: a file that is ordered, or why none is written
abbrev pub Ordering : Type 0
Ordering = Result D.Ordered OrderFault

-- the same but for the numbers beside it, of the file that was read and of the gates made: the bytes that the file took and those that were written; or the file's own
-- refusal, with its place; or renumbering's; or that of writing, with how many bytes are needed
pub data OrderAnswer : Type 0 where
  Ordered : ℕ → ℕ → OrderAnswer
  Unread : Fault → ℕ → OrderAnswer
  Unordered : Refusal → OrderAnswer
  Unstored : G.Fault → ℕ → OrderAnswer

abbrev pub answer_of : Ordering → OrderAnswer
answer_of (Ok o) = Ordered o.read.used o.written
answer_of (Err (F.Unread e)) = Unread e.why e.place
answer_of (Err (F.Unordered why read)) = Unordered why
answer_of (Err (F.Unstored u read made)) = Unstored u.why u.needed

-- the lists that renumbering writes
pub record Images : Type 0 where
  pub map : List ℕ
  pub next_images : List ℕ
  pub reset_images : List ℕ
  pub root_images : List ℕ
  pub gates_out : List ℕ
  pub scratch : List ℕ

-- what is lent beside the file's bytes: the lists that it is read into, those that its codes are expanded into, those that renumbering writes, and the bytes
-- that the ordered file is written into
pub record Lists : Type 0 where
  pub file : B.Lists
  pub codes : E.Lists
  pub images : Images
  pub bytes : List ℕ

-- of the lists that a file was read into, those that renumbering takes as they are
pub record Taken : Type 0 where
  pub nexts : List ℕ
  pub resets : List ℕ
  pub roots : List ℕ

abbrev pub taken_of : B.Lists → Taken
taken_of file = record { nexts = file.nexts; resets = file.resets; roots = file.roots }

-- the circuit but for its lists, from what reading answered; the flags are trim 1, hash 2, fold 4
abbrev pub record_of : FileRead → ℕ → CircuitRecord
record_of r flags =
    record { top = variable (top_of r); counts = r.counts; trim = is_odd flags; hash = is_odd (flags / 2); fold = is_odd (flags / 4) }

-- what renumbering is lent: that record, the fronts of the lists that the file was read into and its codes expanded into, and the lists that it writes
abbrev pub handed : FileRead → ℕ → Taken → E.Lists → Images → Lent
handed r flags c codes m =
    lent_of (record_of r flags) (take r.inputs codes.inputs) (take r.latches codes.states) (take r.latches c.nexts)
    (take r.latches c.resets) (take (3 * r.gates) codes.triples) (take (total r.counts) c.roots) m.map m.next_images
    m.reset_images m.root_images m.gates_out m.scratch

-- what is not expanded is refused by the reason of that name
abbrev pub refusal_of : Unexpanded → Refusal
refusal_of TooBig = R.TooBig
refusal_of Misshapen = R.Misshapen
refusal_of Short = R.Short

-- where the codes could not be expanded nothing is renumbered
abbrev pub unless_expanded : Expansion → Lent → C.Outcome
unless_expanded (Ok t) given = C.outcome given
unless_expanded (Err why) given = untouched given (refusal_of why)

-- what expanding and renumbering leave: the codes, and the outcome of renumbering
pub record Renumbering : Type 0 where
  pub codes : E.Lists
  pub outcome : C.Outcome

abbrev pub leaving : E.Lists → C.Outcome → Renumbering
leaving codes outcome = record { codes = codes; outcome = outcome }

abbrev pub after_expanding : FileRead → ℕ → Taken → Images → E.Outcome → Renumbering
after_expanding r flags c m x = leaving x.lists (unless_expanded x.answer (handed r flags c x.lists m))

-- of what was read: its gates are expanded, and the circuit is renumbered
unfoldable pub renumbering : FileRead → ℕ → List ℕ → Taken → E.Lists → Images → Renumbering
renumbering r flags gates c codes m = after_expanding r flags c m (expansion r.inputs r.latches (take (2 * r.gates) gates) codes)

-- what writing is lent of so many gates made: the numbers that reading answered, the fronts of the lists that renumbering wrote, and the file's justice sizes
abbrev pub handed_on : FileRead → ℕ → List ℕ → Images → Words
handed_on r made sizes m =
    record {
      inputs = r.inputs;
      counts = r.counts;
      nexts = take r.latches m.next_images;
      resets = take r.latches m.reset_images;
      gates = take (2 * made) m.gates_out;
      sizes = take r.sets sizes;
      roots = take (total r.counts) m.root_images;
    }

-- what is lent, after each step
abbrev pub lists : B.Lists → E.Lists → Images → List ℕ → Lists
lists file codes images bytes = record { file = file; codes = codes; images = images; bytes = bytes }

abbrev pub images_in : C.Outcome → Images
images_in o =
    record {
      map = o.map;
      next_images = o.next_images;
      reset_images = o.reset_images;
      root_images = o.root_images;
      gates_out = o.gates_out;
      scratch = o.scratch;
    }

-- the answer, and all that is lent afterwards
pub record Outcome : Type 0 where
  pub said : Ordering
  pub lists : Lists

abbrev pub seen : Ordering → Lists → Outcome
seen said lists = record { said = said; lists = lists }

-- what writing so many gates made answered, of a file that was read
abbrev pub stored : FileRead → ℕ → Result ℕ U.Unwritten → Ordering
stored r made (Ok n) = Ok (record { read = r; made = made; written = n })
stored r made (Err e) = Err (F.Unstored e r made)

abbrev pub after_writing : FileRead → ℕ → B.Lists → E.Lists → Images → Writing → Outcome
after_writing r made file codes m w = seen (stored r made w.answer) (lists file codes m w.bytes)

-- what renumbering answered: its refusal is the answer; or what was made is written
abbrev pub after_answer : Answer → FileRead → B.Lists → E.Lists → Images → List ℕ → Outcome
after_answer (Err why) r file codes m bytes = seen (Err (F.Unordered why r)) (lists file codes m bytes)
after_answer (Ok s) r file codes m bytes =
    after_writing r s.made file codes m (writing (handed_on r s.made file.sizes m) bytes)

abbrev pub after_renumbering : FileRead → Lists → Renumbering → Outcome
after_renumbering r l m = after_answer m.outcome.answer r l.file m.codes (images_in m.outcome) l.bytes

-- a file that is taken, its lists filled: flags over 7 are 2; else it is renumbered
unfoldable pub onwards : FileRead → ℕ → Lists → Outcome
onwards r flags l =
    cond (ltb 7 flags) (seen (Err (F.Unordered R.Misshapen r)) l)
    (after_renumbering r l (renumbering r flags l.file.gates (taken_of l.file) l.codes l.images))

-- what reading answered: the file's own refusal is the answer
abbrev pub after_answer_of : Result FileRead Broken → ℕ → Lists → Outcome
after_answer_of (Err e) flags l = seen (Err (F.Unread e)) l
after_answer_of (Ok r) flags l = onwards r flags l

abbrev pub after_reading : B.Outcome → ℕ → Lists → Outcome
after_reading r flags l = after_answer_of r.read flags (lists r.lists l.codes l.images l.bytes)

-- the whole: what ordering the file in these bytes answers, and what all that is lent is afterwards
unfoldable pub ordering : List ℕ → ℕ → Lists → Outcome
ordering bytes flags l = after_reading (B.outcome bytes l.file) flags l

-- what the inner functions ask: the lists hold the fronts that the numbers name, and there are not too many variables
pub record Held (r : FileRead) (c : Taken) : Type 0 where
  pub few : top_of r ≤ limit
  pub nexts : r.latches ≤ length c.nexts
  pub resets : r.latches ≤ length c.resets
  pub roots : total r.counts ≤ length c.roots

pub record Coded (r : FileRead) (codes : E.Lists) : Type 0 where
  pub inputs : r.inputs ≤ length codes.inputs
  pub states : r.latches ≤ length codes.states
  pub triples : 3 * r.gates ≤ length codes.triples

pub record Filled (r : FileRead) (made : ℕ) (ss ns rs us gs : List ℕ) : Type 0 where
  pub sizes : r.sets ≤ length ss
  pub nexts : r.latches ≤ length ns
  pub resets : r.latches ≤ length rs
  pub roots : total r.counts ≤ length us
  pub gates : 2 * made ≤ length gs
