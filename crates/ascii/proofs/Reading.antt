-- The theorem of reading: a text is read as t with n bytes used exactly when the first n bytes are a spelling of t. Assumes nothing.
use Prim.Native.Nat.{ℕ, ◌≤◌}
use mathlib.Core.Path.{◌≡◌, refl}
use mathlib.Core.List.{List, [], ◌++◌}
use mathlib.Core.Logic.{◌↔◌}
use lib.ListN.{length, take}
use Rattle.token.specs.Format.{Bytes}
use Rattle.lines.specs.declared.Header.{Header}
use Rattle.lines.specs.Reading.{got, ◌▸◌}
use Rattle.lines.specs.Sections.{counts_at, top_code}
use Rattle.lines.proofs.Exactly.{Exactly, Anything, nothing, tested}
use Rattle.lines.proofs.Spelled.{also, counts, roots}
use Rattle.lines.proofs.Tagged.{tagged_taken, tagged_only, tagged_exactly}
use Rattle.ascii_lines.proofs.Spelled.{inputs, latches, gates}
use Rattle.ascii.specs.Tag.{tag}
use Rattle.ascii.specs.Text.{Text, Room, text_with, sized_at, lists_at, body_at, read_text}
use Rattle.ascii.specs.Spelling.{Sized, Listed, Body, Spells}
use Rattle.ascii.proofs.Whole.{sized_taken, sized_roomy}

-- right after the header no byte is read
sized : (h : Header) (room : Room) → Exactly (λ s at. sized_at h room at) (Sized h room) Anything
sized h room = tested (sized_at h room) passes (λ at u end e. (sized_roomy h room at u end e, refl))
  where
    passes : (u : Unit {0}) (w : List ℕ) → Sized h room u w → (w ≡ []) × ((at : ℕ) → sized_at h room at ≡ got tt at)
    passes u w (r, e) = (e, λ at. sized_taken h room at r)

lists : (room : Room) (h : Header) → Exactly (λ s at. lists_at s room.roots h at) (Listed room h) Anything
unfolding lists_at
lists room h =
    also (inputs (top_code h) h.inputs) (λ vs. also (latches (top_code h) h.latches) (λ ls. also (roots h (top_code h) room.roots) (λ rs.
    also (gates (top_code h) h.gates) (λ gs. nothing (text_with h vs ls rs gs)))))

body : (room : Room) → Exactly (λ s at. counts_at s at ▸ λ h at₁. body_at s room h at₁) (Body room) Anything
unfolding body_at
body room = also counts (λ h. also (sized h room) (λ _. lists room h))

-- nothing good is refused, whatever bytes follow
pub nothing_good_refused : (room : Room) (t : Text) (w after : List ℕ) → Spells room t w → read_text (w ++ after) room ≡ got t (length w)
unfolding read_text
nothing_good_refused room = tagged_taken tag (λ s. body_at s room) (Body room) (body room)

-- nothing bad is taken: what is read is spelled by the bytes used
pub nothing_bad_taken : (s : List ℕ) (room : Room) (t : Text) (n : ℕ) → Bytes s → read_text s room ≡ got t n
    → (w : List ℕ) × (after : List ℕ) × Spells room t w × (s ≡ w ++ after) × (n ≡ length w)
unfolding read_text
nothing_bad_taken s room = tagged_only tag (λ l. body_at l room) (Body room) (body room) s

-- so: read as t with n bytes used exactly when the first n bytes spell t
pub exactly_spelled : (s : List ℕ) (room : Room) (t : Text) (n : ℕ) → Bytes s → (read_text s room ≡ got t n) ↔ ((n ≤ length s) × Spells room t (take n s))
unfolding read_text
exactly_spelled s room = tagged_exactly tag (λ l. body_at l room) (Body room) (body room) s
