-- What follows of the contract of reading for C: it allows one outcome, gives these refusals and no others, none past the end, and with lists of the limits
-- never 3. That of writing allows one outcome too, and with bytes for every file it never gives 3. The examples stand in Pins.antt and WritePins.antt.
-- Assumes nothing.
use Prim.Native.Nat.{ℕ, ◌+◌, ◌*◌, ◌≤◌}
use mathlib.Core.Path.{◌≡◌, refl, sym, ◌∙◌, ap}
use mathlib.Core.Logic.{◌≢◌}
use mathlib.Core.Bool.{Bool, true, false, cond, ◌||◌}
use mathlib.Core.List.{List, [], ◌∷◌}
use native.Mathlib.Omega.{arith}
use lib.Dec.{eqb}
use lib.ListN.{length}
use borrow.Author.Tests.{le-ltb}
use Rattle.promise.specs.Determined.{Determines, DeterminesCells}
use Rattle.lines.specs.Numbers.{fault_number}
use Rattle.token.specs.declared.Reason.TheVariants.{NoDigit, LeadingZero, OverWidth, OverLimit, AssignsZero, AssignsOdd}
use Rattle.token.specs.declared.Reason.TheVariants.{Cut, TooLong, OverReference, ZeroDelta}
use Rattle.lines.specs.declared.Fault.{Fault}
use Rattle.lines.specs.declared.Fault.TheVariants.{Number, Missing, Above, TooMany, Short, Reset}
use Rattle.lines.specs.Reading.{Read, got, no}
use Rattle.binary.specs.File.{File, Room, read_file}
use Rattle.binary.specs.Known.{Ample}
use Rattle.binary.specs.Promise.{Lists, room_of, left}
use Rattle.std.specs.Prelude.{Result, Ok, Err}
use Rattle.binary.specs.Write.{unwritten, file_of, file_in, wrote, written_as, writing}
use Rattle.binary.proofs.Theorems.{never_short}
use Rattle.ordered.specs.declared.given.Fault as given
use Rattle.ordered.specs.declared.given.Fault.TheVariants as lent
use Rattle.ordered.specs.WellOrdered.{variables_of}
use Rattle.ordered.specs.Check.{Words, circuit_in, checked}
use Rattle.ordered.specs.Given as ordered
use Rattle.ordered.proofs.Theorems.{exactly, fits_exactly}
use Rattle.file_words.specs.Read.{Seen, file_number, read_seen}
use Rattle.file_words.specs.Write as write
use Rattle.file_words.specs.Write.{written_number, as_seen, seen_by, write_seen}
use Rattle.binary.proofs.Most as most
use Rattle.file_words.proofs.Refusals.{only_refused, only_taken}
use Rattle.file_words.proofs.FileRefusals.{HasFile, only-read}
use Rattle.file_words.proofs.answered.top_of.Kinds as top-kinds
use Rattle.file_words.proofs.answered.top_of.Reads as top-promise
use Rattle.file_words.proofs.answered.words_of.Kinds as words-kinds
use Rattle.file_words.proofs.answered.words_of.Reads as words-promise
use Rattle.file_words.proofs.read.Kinds as read-kinds
use Rattle.file_words.proofs.read.Reads as read-promise
use Rattle.file_words.proofs.write.Kinds as write-kinds
use Rattle.file_words.proofs.write.Reads as write-promise

-- any two outcomes that the contract of `read` allows for the same arguments are equal: the number, each of the five lists, and the answer words
pub one_read :
    DeterminesCells 7 read-kinds.ps read-kinds.r read-promise.Learnt {A = List ℕ × List ℕ × List ℕ × List ℕ × List ℕ × List ℕ}
    (λ κs e. (
      e.1.0.now,
      e.1.1.0.now,
      e.1.1.1.0.now,
      e.1.1.1.1.0.now,
      e.1.1.1.1.1.0.now,
      e.1.1.1.1.1.1.0.now,
    ))
one_read κs a x y e f p q =
    (ap (λ (s : Seen). s.number) (p ∙ sym q), ap (λ (s : Seen). (s.nexts, s.resets, s.gates, s.sizes, s.roots, s.words)) (p ∙ sym q))

-- M of a file, and the eleven words
pub one_top_of : Determines 0 top-kinds.ps top-kinds.r top-promise.Learnt
one_top_of κs a x y e f p q = p ∙ sym q

pub one_words_of : Determines 0 words-kinds.ps words-kinds.r words-promise.Learnt
one_words_of κs a x y e f p q = p ∙ sym q

-- of `write` the number, each lent byte, and the answer words
pub one_write :
    DeterminesCells 8 write-kinds.ps write-kinds.r write-promise.Learnt {A = List ℕ × List ℕ}
    (λ κs e. (e.1.1.1.1.1.1.1.0.now, e.1.1.1.1.1.1.1.1.0.now))
one_write κs a x y e f p q =
    (ap (λ (s : write.Seen). s.number) (p ∙ sym q), ap (λ (s : write.Seen). (s.bytes, s.words)) (p ∙ sym q))

-- whether a number is one of a list
abbrev pub among : ℕ → List ℕ → Bool
among n [] = false
among n (m ∷ ms) = eqb n m || among n ms

-- a file is refused by one of these numbers, whatever the lists
abbrev pub Given : Fault → Type 0
Given why = among (fault_number why) (1 ∷ 3 ∷ 10 ∷ 11 ∷ 12 ∷ 15 ∷ 16 ∷ 17 ∷ 18 ∷ 19 ∷ 20 ∷ 21 ∷ 22 ∷ []) ≡ true

has_given : HasFile Given
has_given =
    record {
      both =
          record {
            no_digit = refl;
            leading_zero = refl;
            over_width = refl;
            over-limit = refl;
            missing = refl;
            too_many = refl;
            short = refl;
            reset = refl;
          };
      cut = refl;
      too_long = refl;
      over_reference = refl;
      zero_delta = refl;
      above = refl;
    }

-- and its place is not past the end of the bytes
pub refusals_given : (bytes : List ℕ) (room : Room) (why : Fault) (place : ℕ) → read_file bytes room ≡ no why place → Given why × (place ≤ length bytes)
refusals_given bytes room why place e = only_refused bytes Given (read_file bytes room) why place (only-read bytes room Given has_given) e

-- nor are there more bytes used than there are
pub bytes_used : (bytes : List ℕ) (room : Room) (f : File) (n : ℕ) → read_file bytes room ≡ got f n → n ≤ length bytes
bytes_used bytes room f n e = only_taken bytes Given (read_file bytes room) f n (only-read bytes room Given has_given) e

-- 3 is told of a list that is too short, and of nothing else
pub three_is_short : (why : Fault) → fault_number why ≡ 3 → why ≡ Short
three_is_short (Number NoDigit) e = absurd (omega arith)
three_is_short (Number LeadingZero) e = absurd (omega arith)
three_is_short (Number OverWidth) e = absurd (omega arith)
three_is_short (Number OverLimit) e = absurd (omega arith)
three_is_short (Number AssignsZero) e = absurd (omega arith)
three_is_short (Number AssignsOdd) e = absurd (omega arith)
three_is_short (Number Cut) e = absurd (omega arith)
three_is_short (Number TooLong) e = absurd (omega arith)
three_is_short (Number OverReference) e = absurd (omega arith)
three_is_short (Number ZeroDelta) e = absurd (omega arith)
three_is_short Missing e = absurd (omega arith)
three_is_short Above e = absurd (omega arith)
three_is_short TooMany e = absurd (omega arith)
three_is_short Reset e = absurd (omega arith)
three_is_short Short e = refl

-- with room for the answer and lists of the limits, 1,048,575 words for next states, resets, sizes and roots, 2,097,150 for gates, no file is answered 3
pub never_three : (bytes : List ℕ) (l : Lists) (words : List ℕ) → 11 ≤ length words → Ample (room_of l) → (read_seen bytes l words).number ≢ 3
unfolding read_seen
never_three bytes l words room ample = rw (le-ltb (length words) 11 room) (go (read_file bytes (room_of l)) refl)
  where
    go : (R : Read File) → read_file bytes (room_of l) ≡ R → file_number (left R l).read ≢ 3
    go (got f at) e = omega arith
    go (no why place) e = λ three. never_short bytes (room_of l) ample place (e ∙ ap (λ (w : Fault). no w place) (three_is_short why three))

-- what is written of an ordered circuit of V variables, L latches, R roots and J justice sets has at most 76 + 8 (V + L + R + J) bytes
pub file_most : (w : Words) → ordered.Given w
    → length (file_of (file_in w)) ≤ 76 + 8 * (variables_of (circuit_in w) + length w.nexts + length w.roots + length w.sizes)
file_most = most.file_most

-- where as many bytes are lent as either form's writing has, and two answer words, 3 is not answered
pub not_short : (form : File → List ℕ) (w : Words) (out words : List ℕ) → 2 ≤ length words → (ordered.Given w → length (form (file_in w)) ≤ length out)
    → (seen_by (λ v. written_as (checked v 0) (form (file_in v))) w out words).number ≢ 3
unfolding seen_by
not_short form w out words room fits = rw (le-ltb (length words) 2 room) (five (eqb (length w.counts) 5))
  where
    go : (c : Result (Unit {0}) given.Fault) → checked w 0 ≡ c → written_number (written_as c (form (file_in w)) out).answer ≢ 3
    go (Ok fits_all) e = rw (le-ltb (length out) (length (form (file_in w))) (fits ((fits_exactly w 0).0 e).0)) (omega arith)
    go (Err lent.TooBig) e = omega arith
    go (Err lent.Misshapen) e = omega arith
    go (Err (lent.Over l)) e = omega arith
    go (Err (lent.Reset l)) e = omega arith
    go (Err (lent.Disordered l)) e = omega arith
    go (Err lent.Short) e = absurd ((exactly w 0 (Err lent.Short)).0 e)

    five : (b : Bool) → (as_seen (cond b (written_as (checked w 0) (form (file_in w)) out) (wrote (unwritten lent.Misshapen 0) out)) words).number ≢ 3
    five true = go (checked w 0) refl
    five false = omega arith

-- so with 76 + 8 (V + L + R + J) bytes it is not, and with 33,554,476 bytes it never is
pub enough_bytes : (w : Words) (out words : List ℕ) → 2 ≤ length words
    → 76 + 8 * (variables_of (circuit_in w) + length w.nexts + length w.roots + length w.sizes) ≤ length out → (write_seen w out words).number ≢ 3
unfolding writing
enough_bytes w out words room h = not_short file_of w out words room (λ g. omega (arith, file_most w g, h))

pub never_three_written : (w : Words) (out words : List ℕ) → 2 ≤ length words → 33554476 ≤ length out → (write_seen w out words).number ≢ 3
unfolding writing
never_three_written w out words room h =
    not_short file_of w out words room (λ g. omega (arith, file_most w g, h, g.ordered.variables, g.ordered.few, g.sets))
