-- What can be written, and files that are not spelled as ours, by example. These lean on proofs: that what is read can be written, and that a plain spelling is
-- the one that is written. Assumes nothing.
use Prim.Native.Nat.{ℕ}
use mathlib.Core.Path.{◌≡◌, refl, ap, subst, subst⁻¹}
use mathlib.Core.List.{List, [], ◌∷◌, ◌++◌}
use native.Mathlib.Omega.{arith}
use lib.ListN.{length}
use Rattle.token.specs.Format.{digits_of, shortest}
use Rattle.token.specs.Answer.{digits_at, uint_at, go_on_at, binary_at, delta_at, header_field_at, pair_at}
use Rattle.circuit.specs.Walk.{Pair, first_code}
use Rattle.lines.specs.Reading.{got}
use Rattle.lines.specs.Lines.{is_byte, byte_at, tag_at, number_at, line_at, lines_at, reset_line_at, reset_at, latch_at, latches_at}
use Rattle.lines.specs.Sections.{count_at, others_at, counts_at, header_at, root_room_at, properties_at, sizes_at, roots_at}
use Rattle.sections.specs.Bytes.{line_bytes, count_bytes, reset_bytes, latch_bytes, after_tag, roots_bytes}
use Rattle.binary.specs.File.{File, Room, gate_at, gates_at, sized_at, lists_at, body_at, read_file}
use Rattle.binary.specs.Spelling.{Gate, Spells}
use Rattle.binary.specs.Write.{parts_of}
use Rattle.binary.specs.Sound.{Sound, Holds}
use Rattle.binary.specs.Plain.{Fewest, ShortestGate, ShortestGates, Plain}
use Rattle.binary.proofs.Written.{read_sound}
use Rattle.binary.proofs.Same.{plain_exactly}
use Rattle.binary.proofs.Pins.{pair, room, file, small, small_file}
use Rattle.binary.proofs.WritePins.{bare, none, latched, latched_bytes}

-- 1. What can be written.

pub sound_pinned :
    Sound small_file
    -- four counts, and six; sizes that do not sum to the fifth
    × (Sound (bare (0 ∷ 0 ∷ 0 ∷ 0 ∷ []) [] []) → ⊥)
    × (Sound (bare (0 ∷ 0 ∷ 0 ∷ 0 ∷ 0 ∷ 0 ∷ []) [] []) → ⊥)
    × (Sound (bare none [] (1 ∷ [])) → ⊥)
    -- lists that are just long enough, and each a cell too short
    × Holds (room 1 1 6 2 8) small_file
    × (Holds (room 0 9 9 9 9) small_file → ⊥)
    × (Holds (room 9 0 9 9 9) small_file → ⊥)
    × (Holds (room 9 9 5 9 9) small_file → ⊥)
    × (Holds (room 9 9 9 1 9) small_file → ⊥)
    × (Holds (room 9 9 9 9 7) small_file → ⊥)
unfolding digits_of digits_at uint_at go_on_at binary_at delta_at header_field_at pair_at first_code is_byte byte_at tag_at number_at line_at lines_at reset_line_at reset_at latch_at
    latches_at count_at others_at counts_at header_at root_room_at properties_at sizes_at roots_at gate_at gates_at sized_at lists_at body_at read_file
sound_pinned = (
  read_sound small (room 1 1 6 2 8) small_file 55 refl,
  λ k. omega (arith, k.five),
  λ k. omega (arith, k.five),
  λ k. omega (arith, k.sizes),
  record { nexts = omega arith; resets = omega arith; gates = omega arith; sizes = omega arith; roots = omega arith },
  λ k. omega (arith, k.nexts),
  λ k. omega (arith, k.resets),
  λ k. omega (arith, k.gates),
  λ k. omega (arith, k.sizes),
  λ k. omega (arith, k.roots),
)

-- 2. Plain spellings.

-- one group for 0 and 127, two for 128; 0 by `80 00`, 5 by `85 00` and 127 by `ff 00` are not the fewest
pub fewest_pinned :
    Fewest (0 ∷ [])
    × Fewest (127 ∷ [])
    × Fewest (128 ∷ 1 ∷ [])
    × (Fewest (128 ∷ 0 ∷ []) → ⊥)
    × (Fewest (133 ∷ 0 ∷ []) → ⊥)
    × (Fewest (255 ∷ 0 ∷ []) → ⊥)
unfolding shortest
fewest_pinned = (refl, refl, refl, λ e. omega (arith, e), λ e. omega (arith, e), λ e. omega (arith, e))

-- a gate whose deltas stand in these bytes: `82 00` for its first, `80 00` for its second, and `02 00`; and two gates in a row, the second the next
pub shortest_pinned : (p q : Pair) (x y : List ℕ) (t : Gate 2 0 p x) (u : Gate 2 1 q y)
    → (t.1.front ≡ 130 ∷ 0 ∷ [] → ShortestGate 2 0 p x t → ⊥)
    × (t.1.second.front ≡ 128 ∷ 0 ∷ [] → ShortestGate 2 0 p x t → ⊥)
    × (t.1.front ≡ 2 ∷ [] → t.1.second.front ≡ 0 ∷ [] → ShortestGate 2 0 p x t)
    × (◌≡◌ {A = Type 0} (ShortestGates 2 (p ∷ q ∷ []) 0 (x ++ (y ++ [])) (x, y ++ [], t, (y, [], u, refl, refl), refl))
    (ShortestGate 2 0 p x t × (ShortestGate 2 1 q y u × Unit {0})))
unfolding shortest
shortest_pinned p q x y t u = (
  λ e s. let more : ◌≡◌ {A = ℕ} 2 1 = subst Fewest e s.0 in omega arith,
  λ e s. let more : ◌≡◌ {A = ℕ} 2 1 = subst Fewest e s.1 in omega arith,
  λ e g. (subst⁻¹ Fewest e refl, subst⁻¹ Fewest g refl),
  refl,
)

abbrev small_room : Room
small_room = room 1 1 6 2 8

-- aig 0 0 0 0 0 0\n
abbrev zero_count : List ℕ
zero_count = (97 ∷ 105 ∷ 103 ∷ 32 ∷ 48 ∷ 32 ∷ 48 ∷ 32 ∷ 48 ∷ 32 ∷ 48 ∷ 32 ∷ 48 ∷ 32 ∷ 48 ∷ 10 ∷ [])

-- aig 3 2 0 0 1\n and 6(4,4), the second delta by `80 00`, and by `00`
abbrev gate_file : File
gate_file = file 2 [] [] (pair 4 4 ∷ []) none [] []

abbrev long_delta : List ℕ
long_delta = (97 ∷ 105 ∷ 103 ∷ 32 ∷ 51 ∷ 32 ∷ 50 ∷ 32 ∷ 48 ∷ 32 ∷ 48 ∷ 32 ∷ 49 ∷ 10 ∷ 2 ∷ 128 ∷ 0 ∷ [])

abbrev short_delta : List ℕ
short_delta = (97 ∷ 105 ∷ 103 ∷ 32 ∷ 51 ∷ 32 ∷ 50 ∷ 32 ∷ 48 ∷ 32 ∷ 48 ∷ 32 ∷ 49 ∷ 10 ∷ 2 ∷ 0 ∷ [])

-- aig 2 1 1 0 0\n2 0\n, and with nothing, a 1 and a 4 in the place of the 0
abbrev zero_reset : List ℕ
zero_reset = latched_bytes (50 ∷ 32 ∷ 48 ∷ 10 ∷ [])

abbrev no_reset : List ℕ
no_reset = latched_bytes (50 ∷ 10 ∷ [])

abbrev one_reset : List ℕ
one_reset = latched_bytes (50 ∷ 32 ∷ 49 ∷ 10 ∷ [])

abbrev own_reset : List ℕ
own_reset = latched_bytes (50 ∷ 32 ∷ 52 ∷ 10 ∷ [])

-- whatever spelling is seen in the bytes: a reset field with 0, an optional count 0 at the end, and a delta `80 00` are not plain; ours is, and so are the reset
-- fields 1 and the latch's own literal
pub plain_pinned :
    ((t : Spells small_room (latched 0) zero_reset) → Plain small_room (latched 0) zero_reset t → ⊥)
    × ((t : Spells small_room (latched 0) no_reset) → Plain small_room (latched 0) no_reset t)
    × ((t : Spells small_room (latched 1) one_reset) → Plain small_room (latched 1) one_reset t)
    × ((t : Spells small_room (latched 4) own_reset) → Plain small_room (latched 4) own_reset t)
    × ((t : Spells small_room small_file small) → Plain small_room small_file small t)
    × ((t : Spells small_room (bare none [] []) zero_count) → Plain small_room (bare none [] []) zero_count t → ⊥)
    × ((t : Spells small_room gate_file long_delta) → Plain small_room gate_file long_delta t → ⊥)
    × ((t : Spells small_room gate_file short_delta) → Plain small_room gate_file short_delta t)
unfolding digits_of line_bytes count_bytes reset_bytes latch_bytes after_tag roots_bytes first_code shortest parts_of
plain_pinned = (
  λ t p. let e : ◌≡◌ {A = ℕ} 18 16 = ap length ((plain_exactly small_room (latched 0) zero_reset t).1 p) in omega arith,
  λ t. (plain_exactly small_room (latched 0) no_reset t).0 refl,
  λ t. (plain_exactly small_room (latched 1) one_reset t).0 refl,
  λ t. (plain_exactly small_room (latched 4) own_reset t).0 refl,
  λ t. (plain_exactly small_room small_file small t).0 refl,
  λ t p. let e : ◌≡◌ {A = ℕ} 16 14 = ap length ((plain_exactly small_room (bare none [] []) zero_count t).1 p) in omega arith,
  λ t p. let e : ◌≡◌ {A = ℕ} 17 16 = ap length ((plain_exactly small_room gate_file long_delta t).1 p) in omega arith,
  λ t. (plain_exactly small_room gate_file short_delta t).0 refl,
)

-- there are such spellings: these bytes are read
pub plain_read_pinned :
    (read_file zero_count small_room ≡ got (bare none [] []) 16)
    × (read_file zero_reset small_room ≡ got (latched 0) 18)
    × (read_file no_reset small_room ≡ got (latched 0) 16)
    × (read_file one_reset small_room ≡ got (latched 1) 18)
    × (read_file own_reset small_room ≡ got (latched 4) 18)
    × (read_file long_delta small_room ≡ got gate_file 17)
    × (read_file short_delta small_room ≡ got gate_file 16)
unfolding digits_of digits_at uint_at go_on_at binary_at delta_at header_field_at pair_at first_code is_byte byte_at tag_at number_at line_at lines_at reset_line_at reset_at latch_at
    latches_at count_at others_at counts_at header_at root_room_at properties_at sizes_at roots_at gate_at gates_at sized_at lists_at body_at read_file
plain_read_pinned = (refl, refl, refl, refl, refl, refl, refl)
