-- The theorems of reading and writing a text, and of the chain from a text to a binary file and back. Assumes nothing.
use Prim.Native.Nat.{ℕ, ◌≤◌}
use mathlib.Core.Path.{◌≡◌, sym, ap, ◌∙◌}
use mathlib.Core.Bool.{Bool}
use mathlib.Core.List.{List, ◌++◌}
use mathlib.Core.Logic.{◌≢◌, ◌↔◌}
use lib.ListN.{length, take}
use Rattle.promise.specs.Determined.{DeterminesCells}
use Rattle.token.specs.Format.{Bytes}
use Rattle.circuit.specs.Outcome.{total}
use Rattle.circuit.specs.Claims.{Within, Bounded, AllReset}
use Rattle.lines.specs.declared.Fault.TheVariants.{Short}
use Rattle.lines.specs.Reading.{got, no}
use Rattle.circuit.specs.Ordered.{given}
use Rattle.ordered.specs.declared.given.Fault.{Fault}
use Rattle.ordered.specs.Check.{Words}
use Rattle.std.specs.Prelude.{Ok}
use Rattle.binary.specs.File.{File}
use Rattle.binary.specs.Sound.{Sound}
use Rattle.binary.specs.Write.{unwritten, file_in, Writing, wrote}
use Rattle.ascii.specs.Text.{Text, Room, circuit_in, read_text}
use Rattle.ascii.specs.Promise.{Lists, lists_of, numbers, Outcome, outcome}
use Rattle.ascii.specs.Spelling.{Spells}
use Rattle.ascii.specs.Known.{Known, Ample}
use Rattle.ascii.specs.Write.{text_of, writing}
use Rattle.ascii.specs.Back.{text_for, Holds}
use Rattle.ascii.specs.Chain.{Lending, Enough, Chain}
use Rattle.ascii.proofs.Reading as reading
use Rattle.ascii.proofs.Known as known
use Rattle.ascii.proofs.NeverShort as short
use Rattle.ascii.proofs.WriteSpelled as spelled
use Rattle.ascii.proofs.Written as written
use Rattle.ascii.proofs.Chain as chain
use Rattle.ascii.proofs.read.Kinds as read-kinds
use Rattle.ascii.proofs.read.Reads as read-contract
use Rattle.ascii.proofs.write.Kinds as write-kinds
use Rattle.ascii.proofs.write.Reads as write-contract

-- 1. Each contract determines the answer and every lent cell afterwards: those of the seven lists, and those of the bytes that are written.
pub one_read : DeterminesCells 8 read-kinds.ps read-kinds.r read-contract.Learnt {A = Lists}
    (λ κs e. lists_of e.1.0.now e.1.1.0.now e.1.1.1.0.now e.1.1.1.1.0.now e.1.1.1.1.1.0.now
    e.1.1.1.1.1.1.0.now e.1.1.1.1.1.1.1.0.now)
one_read κs a x y e f p q = (ap (λ (o : Outcome). o.read) (p ∙ sym q), ap (λ (o : Outcome). o.lists) (p ∙ sym q))

pub one_write : DeterminesCells 6 write-kinds.ps write-kinds.r write-contract.Learnt (λ κs e. e.1.1.1.1.1.1.0.now)
one_write κs a x y e f p q = (ap (λ (o : Writing). o.answer) (p ∙ sym q), ap (λ (o : Writing). o.bytes) (p ∙ sym q))

-- 2. Nothing good is refused, whatever bytes follow.
pub nothing_good_refused : (room : Room) (t : Text) (w after : List ℕ) → Spells room t w → read_text (w ++ after) room ≡ got t (length w)
nothing_good_refused = reading.nothing_good_refused

-- 3. Read as t with n bytes used exactly when the first n bytes are a spelling of t.
pub exactly_spelled : (s : List ℕ) (room : Room) (t : Text) (n : ℕ) → Bytes s → (read_text s room ≡ got t n) ↔ ((n ≤ length s) × Spells room t (take n s))
exactly_spelled = reading.exactly_spelled

-- 4. What is read is within the limits and fits its lists, each literal that it defines is even and not 0, no literal is over 2M + 1, and its counts agree.
pub read_known : (s : List ℕ) (room : Room) (t : Text) (end : ℕ) → read_text s room ≡ got t end → Known room t
read_known = known.read_known

-- So it passes as a circuit, under any flags, check 1, check 2 of its root counts and latches, and checks 4 and 22.
pub read_passes : (s : List ℕ) (room : Room) (t : Text) (end : ℕ) → read_text s room ≡ got t end → (trim hash fold : Bool)
    → Within (circuit_in t trim hash fold) × Bounded (circuit_in t trim hash fold) × (total t.counts ≡ length t.roots)
    × (length t.states ≡ length t.nexts) × (length t.states ≡ length t.resets) × AllReset t.states t.resets
read_passes s room t end e = known.known_passes room t (read_known s room t end e)

-- 5. Lists as long as the limits are never too short, so no call is needed to measure a text.
pub never_short : (s : List ℕ) (room : Room) → Ample room → (place : ℕ) → read_text s room ≢ no Short place
never_short = short.never_short

-- 6. Writing. What is written of an ordered circuit spells it as it is given, so it is read back so: inputs 2, 4, .., then states, then gate outputs, all else
-- as it was; all its bytes are used, and whatever follows is not read.
pub text_spelled : (room : Room) (f : File) → Sound f → Holds room f → Spells room (text_for f) (text_of f)
text_spelled room f k fits = spelled.text_spelled f k room fits

pub reads_back_lem : (room : Room) (f : File) → Sound f → Holds room f → (after : List ℕ) → read_text (text_of f ++ after) room ≡ got (text_for f) (length (text_of f))
reads_back_lem = written.reads_back_lem

-- The circuit of that text is the ordered circuit as it is given.
pub text_given : (f : File) (trim hash fold : Bool) → circuit_in (text_for f) trim hash fold ≡ given f.ordered trim hash fold
text_given = spelled.text_given

-- So bytes that writing left are read as the circuit that was lent, and a refusal leaves them as they were.
pub written_is_read : (w : Words) (out bytes : List ℕ) (n : ℕ) → writing w out ≡ wrote (Ok n) bytes → length w.counts ≡ 5
    → (room : Room) → Holds room (file_in w) → read_text bytes room ≡ got (text_for (file_in w)) n
written_is_read = written.written_is_read

pub refusals_keep : (w : Words) (out bytes : List ℕ) (why : Fault) (needed : ℕ) → writing w out ≡ wrote (unwritten why needed) bytes → bytes ≡ out
refusals_keep = written.refusals_keep

-- 7. The chain. Bytes are read as a text, lent to renumbering under any flags, written as a binary file and read again, with lists that are long enough. Then the
-- text is refused; or renumbering refuses its lists as document 01 does, by 5, 6, 7 or 8 with its literal; or what is made can be written, and where the lent
-- bytes suffice the file that is read back has the text's numbers of inputs, latches and roots and its justice sizes, each root and next state of it has, under
-- every setting, the value of the one at its place in the text, and each latch the first value: 0, 1 or free.
pub text_to_file : (bytes : List ℕ) (g : Lending) (out : List ℕ) → Enough (numbers (outcome bytes g.text).read) g → Chain bytes g out
text_to_file = chain.text_to_file
