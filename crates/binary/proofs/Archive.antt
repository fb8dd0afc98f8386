-- A sound circuit is written where the bytes suffice, and reads back; so does what renumbering leaves, and so the whole way from file to file. Assumes
-- nothing.
use Prim.Native.Nat.{ℕ, ◌≤◌}
use mathlib.Core.Path.{◌≡◌, refl, sym, ap, ◌∙◌, subst⁻¹}
use mathlib.Core.Bool.{Bool, true, false, cond}
use mathlib.Core.List.{List, [], append-nil}
use native.Mathlib.Omega.{arith}
use lib.Dec.{ltb}
use lib.ListN.{length, get_or, take}
use borrow.Author.Tests.{le-ltb}
use Rattle.circuit.specs.Outcome.{onto}
use Rattle.circuit.proofs.Outcome.{onto-take}
use Rattle.lines.specs.Reading.{Read, got}
use Rattle.ordered.specs.declared.given.Fault.TheVariants.{Short}
use Rattle.std.specs.Prelude.{Ok}
use Rattle.binary.specs.File.{File, Room, read_file}
use Rattle.binary.specs.Promise.{room_of, numbers, left, outcome}
use Rattle.binary.specs.Sound.{Sound, Holds, result_with}
use Rattle.binary.specs.Write.{file_of, unwritten, Writing, wrote}
use Rattle.binary.specs.Way as W
use Rattle.binary.specs.Way.{Lending, handed_from, Enough, Arrives, End}
use Rattle.binary.specs.Archive.{archiving, FitsOrShort, fits, short, ReadsBack, Stored, Archived, refused, archived}
use Rattle.binary.proofs.Written.{read_sound, read_holds, sound_written, reads_back_lem}
use Rattle.binary.proofs.Across.{result_sound}
use Rattle.binary.proofs.Way.{two_ends}

module _ (f : File) (sound : Sound f) where
  -- it fits, or it is short
  pub only_short : (out : List ℕ) → FitsOrShort f (archiving f out).answer
  only_short out = subst⁻¹ (λ (w : Writing). FitsOrShort f w.answer) (sound_written f sound out) (go (ltb (length out) (length (file_of f))))
    where
      go : (b : Bool)
          → FitsOrShort f (cond b (wrote (unwritten Short (length (file_of f))) out) (wrote (Ok (length (file_of f))) (onto (file_of f) out))).answer
      go true = short
      go false = fits

  pub stored : (out : List ℕ) (room : Room) → Holds room f → Stored f out room
  stored out room holds = record { answer = only_short out; reads_back = back }
    where
      back : length (file_of f) ≤ length out → ReadsBack f out room
      back enough =
          let all : archiving f out ≡ wrote (Ok (length (file_of f))) (onto (file_of f) out)
          = sound_written f sound out ∙ rw (le-ltb (length out) (length (file_of f)) enough) in
          let bytes : take (length (file_of f)) (archiving f out).bytes ≡ file_of f
          = ap (λ (w : Writing). take (length (file_of f)) w.bytes) all ∙ onto-take (file_of f) out (length (file_of f)) refl enough in
          let read : read_file (file_of f) room ≡ got f (length (file_of f))
          = ap (λ (s : List ℕ). read_file s room) (sym (append-nil (file_of f))) ∙ reads_back_lem f sound room holds [] in
          record {
            bytes = length (file_of f);
            written = ap (λ (w : Writing). w.answer) all;
            read = ap (λ (s : List ℕ). read_file s room) bytes ∙ read;
          }

-- from file to file

pub file_to_file : (bytes : List ℕ) (g : Lending) → Enough (numbers (outcome bytes g.file).read) g → (out : List ℕ) → Archived bytes g out
file_to_file bytes g enough out = go (two_ends bytes g enough)
  where
    go : End bytes g → Archived bytes g out
    go (W.refused why place e) = refused why place e
    go (W.ordered f used e a) = archived f used e a.summary a.renumbered (stored R its out room hold) a.keeps
      where
        R : File
        R = result_with (handed_from bytes g) a.summary f.sizes

        room : Room
        room = room_of g.file

        sound : Sound f
        sound = read_sound bytes (room_of g.file) f used e

        counts : (handed_from bytes g).circuit.counts ≡ f.ordered.counts
        counts = ap (λ (r : Read File). (numbers (left r g.file).read).counts) e

        its : Sound (result_with (handed_from bytes g) a.summary f.sizes)
        its =
            result_sound (handed_from bytes g) a.summary a.renumbered f.sizes (ap length counts ∙ sound.five)
            (sound.sizes ∙ ap (λ (cs : List ℕ). get_or cs 4 0) (sym counts)) sound.sets

        hold : Holds (room_of g.file) (result_with (handed_from bytes g) a.summary f.sizes)
        hold =
            let fit = read_holds bytes (room_of g.file) f used e in
            record {
              nexts = omega (arith, fit.nexts, a.keeps.latches);
              resets = omega (arith, fit.nexts, fit.resets, a.keeps.latches, sound.well_ordered.reset_count, its.well_ordered.reset_count);
              gates = omega (arith, fit.gates, a.no_more);
              sizes = fit.sizes;
              roots = omega (arith, fit.roots, a.keeps.root_count);
            }
