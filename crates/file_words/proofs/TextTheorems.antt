-- What follows of the contracts of reading and of writing a text for C: each allows one outcome; reading gives these refusals and no others, none past the end;
-- with lists of the limits reading never gives 3, and with bytes for every text writing does not. The examples stand in TextPins.antt. Assumes nothing.
use Prim.Native.Nat.{ℕ, ◌+◌, ◌*◌, ◌≤◌}
use mathlib.Core.Path.{◌≡◌, refl, sym, ◌∙◌, ap}
use mathlib.Core.Logic.{◌≢◌}
use mathlib.Core.Bool.{true}
use mathlib.Core.List.{List, [], ◌∷◌}
use native.Mathlib.Omega.{arith}
use lib.ListN.{length}
use borrow.Author.Tests.{le-ltb}
use Rattle.promise.specs.Determined.{DeterminesCells}
use Rattle.lines.specs.declared.Fault.{Fault}
use Rattle.lines.specs.Numbers.{fault_number}
use Rattle.lines.specs.Reading.{Read, got, no}
use Rattle.ordered.specs.WellOrdered.{variables_of}
use Rattle.ordered.specs.Check.{Words, circuit_in}
use Rattle.ordered.specs.Given as goal
use Rattle.binary.specs.Write.{file_in}
use Rattle.ascii.specs.Text.{Text, Room, read_text}
use Rattle.ascii.specs.Promise.{Lists, room_of, left}
use Rattle.ascii.specs.Known.{Ample}
use Rattle.ascii.specs.Write.{text_of, writing}
use Rattle.ascii.proofs.Theorems.{never_short}
use Rattle.ascii.proofs.WriteMost as most
use Rattle.file_words.specs.Write.{Seen}
use Rattle.file_words.specs.Read.{file_number}
use Rattle.file_words.specs.Text.{TextSeen, file_read, read_text_seen, write_text_seen}
use Rattle.file_words.proofs.Refusals.{only_refused, only_taken}
use Rattle.file_words.proofs.TextRefusals.{HasText, only_text}
use Rattle.file_words.proofs.Theorems.{among, three_is_short, not_short}
use Rattle.file_words.proofs.read_text.Kinds as read-kinds
use Rattle.file_words.proofs.read_text.Reads as read-promise
use Rattle.file_words.proofs.write_text.Kinds as write-kinds
use Rattle.file_words.proofs.write_text.Reads as write-promise

-- any two outcomes that the contract of `read_text` allows for the same arguments are equal: the number, each of the seven lists, and the answer words
pub one_read_text :
    DeterminesCells 9 read-kinds.ps read-kinds.r read-promise.Learnt
    {A = List ℕ × List ℕ × List ℕ × List ℕ × List ℕ × List ℕ × List ℕ × List ℕ}
    (λ κs e. (
      e.1.0.now,
      e.1.1.0.now,
      e.1.1.1.0.now,
      e.1.1.1.1.0.now,
      e.1.1.1.1.1.0.now,
      e.1.1.1.1.1.1.0.now,
      e.1.1.1.1.1.1.1.0.now,
      e.1.1.1.1.1.1.1.1.0.now,
    ))
one_read_text κs a x y e f p q = (
  ap (λ (s : TextSeen). s.number) (p ∙ sym q),
  ap (λ (s : TextSeen). (s.inputs, s.states, s.nexts, s.resets, s.gates, s.sizes, s.roots, s.words)) (p ∙ sym q),
)

-- of `write_text` the number, each lent byte, and the answer words
pub one_write_text :
    DeterminesCells 8 write-kinds.ps write-kinds.r write-promise.Learnt {A = List ℕ × List ℕ}
    (λ κs e. (e.1.1.1.1.1.1.1.0.now, e.1.1.1.1.1.1.1.1.0.now))
one_write_text κs a x y e f p q = (ap (λ (s : Seen). s.number) (p ∙ sym q), ap (λ (s : Seen). (s.bytes, s.words)) (p ∙ sym q))

-- a text is refused by one of these numbers, whatever the lists
abbrev pub TextGiven : Fault → Type 0
TextGiven why = among (fault_number why) (1 ∷ 3 ∷ 10 ∷ 11 ∷ 12 ∷ 13 ∷ 14 ∷ 18 ∷ 21 ∷ 22 ∷ []) ≡ true

has_given : HasText TextGiven
has_given =
    record {
      both =
          record {
            no_digit = refl;
            leading_zero = refl;
            over_width = refl;
            over-limit = refl;
            missing = refl;
            too_many = refl;
            short = refl;
            reset = refl;
          };
      assigns_zero = refl;
      assigns_odd = refl;
    }

-- and its place is not past the end of the bytes
pub texts_refused_given : (bytes : List ℕ) (room : Room) (why : Fault) (place : ℕ) → read_text bytes room ≡ no why place
    → TextGiven why × (place ≤ length bytes)
texts_refused_given bytes room why place e = only_refused bytes TextGiven (read_text bytes room) why place (only_text bytes room TextGiven has_given) e

-- nor are there more bytes used than there are
pub text_bytes_used : (bytes : List ℕ) (room : Room) (t : Text) (n : ℕ) → read_text bytes room ≡ got t n → n ≤ length bytes
text_bytes_used bytes room t n e = only_taken bytes TextGiven (read_text bytes room) t n (only_text bytes room TextGiven has_given) e

-- with room for the answer and lists of the limits, 1,048,575 words for inputs, states, next states, resets, sizes and roots, 3,145,725 for gates, no text is
-- answered 3
pub never_three_text : (bytes : List ℕ) (l : Lists) (words : List ℕ) → 11 ≤ length words → Ample (room_of l) → (read_text_seen bytes l words).number ≢ 3
unfolding read_text_seen
never_three_text bytes l words room ample = rw (le-ltb (length words) 11 room) (go (read_text bytes (room_of l)) refl)
  where
    go : (R : Read Text) → read_text bytes (room_of l) ≡ R → file_number (file_read (left R l).read) ≢ 3
    go (got t at) e = omega arith
    go (no why place) e = λ three. never_short bytes (room_of l) ample place (e ∙ ap (λ (w : Fault). no w place) (three_is_short why three))

-- what is written of an ordered circuit of V variables, R roots and J justice sets has at most 76 + 8 (3 V + R + J) bytes
pub text_most : (w : Words) → goal.Given w
    → length (text_of (file_in w)) ≤ 76 + 8 * (3 * variables_of (circuit_in w) + length w.roots + length w.sizes)
text_most = most.text_most

-- so with these bytes, and two answer words, 3 is not answered, and with 41,943,076 bytes it never is
pub enough_bytes_text : (w : Words) (out words : List ℕ) → 2 ≤ length words
    → 76 + 8 * (3 * variables_of (circuit_in w) + length w.roots + length w.sizes) ≤ length out → (write_text_seen w out words).number ≢ 3
unfolding writing
enough_bytes_text w out words room h = not_short text_of w out words room (λ g. omega (arith, text_most w g, h))

pub never_three_text_written : (w : Words) (out words : List ℕ) → 2 ≤ length words → 41943076 ≤ length out → (write_text_seen w out words).number ≢ 3
unfolding writing
never_three_text_written w out words room h =
    not_short text_of w out words room (λ g. omega (arith, text_most w g, h, g.ordered.variables, g.ordered.few, g.sets))
