-- What is written of an ordered circuit is read back as it is given; and what writing leaves of the bytes. Assumes nothing.
use Prim.Native.Nat.{ℕ}
use mathlib.Core.Path.{◌≡◌, ap, ◌∙◌}
use mathlib.Core.List.{List, ◌++◌}
use lib.ListN.{length, drop}
use Rattle.lines.specs.Reading.{got}
use Rattle.ordered.specs.declared.given.Fault.{Fault}
use Rattle.ordered.specs.Check.{Words, checked}
use Rattle.ordered.proofs.Theorems.{fits_exactly}
use Rattle.std.specs.Prelude.{Ok}
use Rattle.binary.specs.File.{File}
use Rattle.binary.specs.Sound.{Sound}
use Rattle.binary.specs.Write.{unwritten, file_in, wrote}
use Rattle.binary.proofs.Written.{given_sound, written_front, refused_keeps}
use Rattle.ascii.specs.Text.{Room, read_text}
use Rattle.ascii.specs.Write.{text_of, writing}
use Rattle.ascii.specs.Back.{text_for, Holds}
use Rattle.ascii.proofs.Reading.{nothing_good_refused}
use Rattle.ascii.proofs.WriteSpelled.{text_spelled}

pub reads_back_lem : (room : Room) (f : File) → Sound f → Holds room f → (after : List ℕ) → read_text (text_of f ++ after) room ≡ got (text_for f) (length (text_of f))
reads_back_lem room f k fits after = nothing_good_refused room (text_for f) (text_of f) after (text_spelled f k room fits)

pub written_is_read : (w : Words) (out bytes : List ℕ) (n : ℕ) → writing w out ≡ wrote (Ok n) bytes → length w.counts ≡ 5
    → (room : Room) → Holds room (file_in w) → read_text bytes room ≡ got (text_for (file_in w)) n
unfolding writing
written_is_read w out bytes n e five room fits =
    let t = written_front (checked w 0) (text_of (file_in w)) out bytes n e in
    let sound = given_sound w ((fits_exactly w 0).0 t.0).0 five in
    ap (λ (l : List ℕ). read_text l room) t.2 ∙ reads_back_lem room (file_in w) sound fits (drop (length (text_of (file_in w))) out)
    ∙ ap (got (text_for (file_in w))) t.1

pub refusals_keep : (w : Words) (out bytes : List ℕ) (why : Fault) (needed : ℕ) → writing w out ≡ wrote (unwritten why needed) bytes → bytes ≡ out
unfolding writing
refusals_keep w = refused_keeps (checked w 0) (text_of (file_in w))
