-- What intake promises, for an auditor to read first: the bytes of a file come in, the bytes of the ordered file go out, and no solver can be asked something easier.
-- By its contract `order` leaves `ordering bytes flags l` of the bytes, the flags and all that is lent (src/lib.rt, specs/Order.antt). The words stand in
-- specs/Intake.antt; runs, questions and verdicts in crates/runs/specs; which bytes spell a file in crates/binary/specs/Spelling.antt. Assumes nothing.
use Prim.Native.Nat.{ℕ, ◌<◌, ◌≤◌}
use mathlib.Core.Path.{◌≡◌}
use mathlib.Core.Logic.{◌⊎◌, ◌≢◌, ◌↔◌}
use mathlib.Core.List.{List}
use lib.ListN.{length, get_or, take}
use Rattle.token.specs.Format.{Bytes}
use Rattle.circuit.specs.Claims.{first_value}
use Rattle.lines.specs.declared.Fault.{Fault}
use Rattle.lines.specs.declared.Fault.TheVariants.{Short}
use Rattle.binary.specs.File.{File}
use Rattle.binary.specs.Spelling.{Spells}
use Rattle.binary.specs.Plain.{Plain}
use Rattle.binary.proofs.Theorems.{read_known}
use Rattle.runs.specs.Runs.{Bits, nexts_of, Allows}
use Rattle.runs.specs.Carries.{SameQuestions, SameVerdicts, Runs}
use Rattle.runs.proofs.Theorems as runs
use Rattle.intake.specs.Order.{OrderAnswer, Ordered, Unread, answer_of, Lists, ordering}
use Rattle.intake.specs.Intake.{limits, Begins, Orderable, Says, IsOrdered, Ample}
use Rattle.intake.proofs.Ends as ends
use Rattle.intake.proofs.After as after

-- any bytes (each number of the list is below 256, as in every slice of bytes), any flags, and any lists and bytes lent
module _ (bytes : List ℕ) (flags : ℕ) (l : Lists) (are : Bytes bytes) where
  -- what is answered, and the lent bytes afterwards
  abbrev answer : OrderAnswer
  answer = answer_of (ordering bytes flags l).said

  abbrev out : List ℕ
  out = (ordering bytes flags l).lists.bytes

  -- EXACTLY WHEN. The answer is a success exactly when the bytes begin with a file in the paper's form within the limits, the flags are at most 7, and what is lent is
  -- long enough.
  pub exactly_when : ((used : ℕ) × (written : ℕ) × (answer ≡ Ordered used written)) ↔ Orderable bytes flags l
  exactly_when = after.exactly_when bytes flags l are

  -- Every answer is given exactly where what it says is true. So the file's own refusals come first; of renumbering's there are two, 2 for flags over 7 and 3; of
  -- writing's one, 3 with the bytes needed.
  pub answers_exactly : (a : OrderAnswer) → (answer ≡ a) ↔ Says bytes flags l a
  answers_exactly = ends.exactly bytes flags l are

  -- In lists and bytes of the limits nothing is refused but by the file's own refusals, and these are never 3.
  pub never_short : Ample l → flags ≤ 7 → ((why : Fault) × (place : ℕ) × (answer ≡ Unread why place) × (why ≢ Short))
      ⊎ ((used : ℕ) × (written : ℕ) × (answer ≡ Ordered used written))
  never_short = after.two_ends bytes flags l are

  -- after a success
  module _ (used written : ℕ) (success : answer ≡ Ordered used written) where
    -- A file came in, in the first bytes; a file of the paper's form went out, in the bytes written; and bytes past these are as they were.
    pub came_in_lem : (f : File) × Begins bytes f used
    came_in_lem = after.came_in_lem bytes flags l are used written success

    pub went_out_lem : (d : File) × Begins out d written
    went_out_lem = after.went_out_lem bytes flags l are used written success

    pub past_stays : (i : ℕ) → written ≤ i → get_or out i 0 ≡ get_or l.bytes i 0
    past_stays = after.past_stays bytes flags l are used written success

    -- whatever files the bytes that came in and those that went out begin with
    module _ (f d : File) (n m : ℕ) (came : Begins bytes f n) (went : Begins out d m) where
      -- NOTHING CUT, NOTHING BENT. As many inputs, latches, outputs, bad states, constraints and fairness literals, the justice sets with their sizes, each in its order;
      -- under every setting of inputs and latches each of these and each next state has the same value in both; each latch has the same first value.
      pub nothing_bent : SameQuestions f d
      nothing_bent = after.questions bytes flags l are used written success f d n m came went

      -- VERDICTS CARRY OVER. They have the same runs; at every step each root has the same bit in both; within any number of steps each bad state, and each output, is
      -- reached in the one exactly when in the other, every constraint holding so far; and a justice set with the fairness literals holds again and again along a run of the
      -- one exactly when along that of the other. So no solver can be asked something easier.
      pub verdicts_carry_over : SameVerdicts f d
      verdicts_carry_over = runs.same_verdicts f d nothing_bent

      -- ORDERED. Every gate's code exceeds its first input, which is not below its second; nothing is longer than it has to be; with hashing no two gates are alike.
      pub ordered : IsOrdered flags d (take m out)
      ordered = after.is_ordered bytes flags l are used written success f d n m came went

      -- AGAIN. With trim, hash and fold off a plain file comes out byte for byte as it went in.
      pub again : flags ≡ 0 → (t : Spells limits f (take n bytes)) → Plain limits f (take n bytes) t → take m out ≡ take n bytes
      again = after.again bytes flags l are used written success f d n m came went

-- The bytes begin with one file only.
pub one_file : (bytes : List ℕ) (f g : File) (n m : ℕ) → Begins bytes f n → Begins bytes g m → (f ≡ g) × (n ≡ m)
one_file = ends.one_file

-- And its runs are there: from each first state that the resets allow, with any inputs, there is a run, and no other. So no verdict is said of nothing.
pub runs_exist : (bytes : List ℕ) (f : File) (n : ℕ) → Begins bytes f n → (inputs : ℕ → Bits) (first : Bits)
    → ((j : ℕ) → j < length (nexts_of f) → Allows (first_value (get_or f.ordered.resets j 0)) (first j)) → Runs f inputs first
runs_exist bytes f n b = runs.runs_exist f (read_known bytes limits f n (ends.read_in bytes limits f n b.0 b.1)).well_ordered
