-- Binary files by example, worked out from document 02: a gate, gates in a row, what is tested right after the header, and whole files with every list and
-- number. The lists are dirty, each with numbers of its own, and longer than asked; the words past those asked for are seen to stay, and every word of a
-- refused file's lists to be 0. By computation. Assumes nothing.
use Prim.Native.Nat.{ℕ}
use mathlib.Core.Path.{◌≡◌, refl}
use mathlib.Core.Bool.{true, false}
use mathlib.Core.List.{List, [], ◌∷◌}
use native.Mathlib.Omega.{arith}
use lib.ListN.{replicate}
use Rattle.token.specs.Format.{digits_of}
use Rattle.token.specs.Answer.{inputs, refused, digits_at, uint_at, go_on_at, binary_at, delta_at, header_field_at, pair_at}
use Rattle.token.specs.declared.Reason.TheVariants.{LeadingZero, OverLimit, Cut, TooLong, OverReference, ZeroDelta}
use Rattle.lit.specs.Code.{variable}
use Rattle.circuit.specs.Walk.{Pair, first_code}
use Rattle.circuit.specs.Outcome.{lent_of}
use Rattle.lines.specs.declared.Fault.{Fault}
use Rattle.lines.specs.declared.Fault.TheVariants.{Number, Missing, Above, TooMany, Short, Reset}
use Rattle.lines.specs.declared.Header.{Header}
use Rattle.std.specs.Prelude.{Result, Ok}
use Rattle.lines.specs.declared.Broken.{Broken}
use Rattle.lines.specs.declared.Reading.{Reading}
use Rattle.lines.specs.Promise.{broken, reading_of}
use Rattle.lines.specs.Reading.{got, no}
use Rattle.lines.specs.Lines.{is_byte, byte_at, tag_at, number_at, line_at, lines_at, latch_line, reset_line_at, reset_at, latch_at, latches_at}
use Rattle.lines.specs.Sections.{roots_of, count_at, others_at, counts_at, header_at, root_room_at, properties_at, sizes_at, roots_at}
use Rattle.ordered.specs.Expand.{expansion}
use Rattle.binary.specs.declared.FileRead.{FileRead}
use Rattle.binary.specs.File.{tag, gate_of, gate_at, gates_at, File, Room, room_for, counts_of, file_with, sized_at, lists_at, body_at, read_file}
use Rattle.binary.specs.Promise.{StoresGates, Lists, lists_of, room_of, written, cleared, StoresFile, answered, numbers, StoresRead, Outcome, seen, left, outcome, Roomy}
use Rattle.binary.specs.Way.{Lending, handed_from, Enough}

-- 1. Gates.

abbrev pub pair : ℕ → ℕ → Pair
pair a b = record { larger = a; smaller = b }

pub gates_pinned :
    -- a pair with its place
    (gate_of 5 (inputs 9 7 2) ≡ got (pair 9 7) 7)
    × (gate_of 5 (refused Cut 3) ≡ no (Number Cut) 3)
    -- over three sources the first gate's code is 8; over four the third gate's is 14
    × (gate_at (255 ∷ 2 ∷ 4 ∷ []) 3 0 1 ≡ got (pair 6 2) 3)
    × (gate_at (255 ∷ 2 ∷ 4 ∷ []) 4 2 1 ≡ got (pair 12 8) 3)
    × (gate_at (255 ∷ 2 ∷ []) 3 0 1 ≡ no (Number Cut) 2)
    -- over three sources 8(6,2), 10(8,3), 12(10,9): three, two, none; the third cut; a fourth
    × (gates_at (255 ∷ 2 ∷ 4 ∷ 2 ∷ 5 ∷ 2 ∷ 1 ∷ []) 3 3 1 ≡ got (pair 6 2 ∷ pair 8 3 ∷ pair 10 9 ∷ []) 7)
    × (gates_at (255 ∷ 2 ∷ 4 ∷ 2 ∷ 5 ∷ 2 ∷ 1 ∷ []) 3 2 1 ≡ got (pair 6 2 ∷ pair 8 3 ∷ []) 5)
    × (gates_at (255 ∷ 2 ∷ 4 ∷ 2 ∷ 5 ∷ 2 ∷ 1 ∷ []) 3 0 1 ≡ got [] 1)
    × (gates_at (255 ∷ 2 ∷ 4 ∷ 2 ∷ 5 ∷ 2 ∷ []) 3 3 1 ≡ no (Number Cut) 6)
    × (gates_at (255 ∷ 2 ∷ 4 ∷ 2 ∷ 5 ∷ 2 ∷ 1 ∷ []) 3 4 1 ≡ no (Number Cut) 7)
unfolding go_on_at binary_at delta_at pair_at first_code gate_at gates_at
gates_pinned = (refl, refl, refl, refl, refl, refl, refl, refl, refl, refl)

-- 2. Right after the header.

-- M I L O A B C J F
abbrev header : ℕ → ℕ → ℕ → ℕ → ℕ → ℕ → ℕ → ℕ → ℕ → Header
header m i l o a b c j f =
    record { top = m; inputs = i; latches = l; outputs = o; gates = a; bad = b; constraints = c; justice = j; fairness = f }

-- cells for next states, resets, gates, sizes, roots
abbrev pub room : ℕ → ℕ → ℕ → ℕ → ℕ → Room
room nexts resets gates sizes roots = record { nexts = nexts; resets = resets; gates = gates; sizes = sizes; roots = roots }

-- an ordered circuit with its counts, and justice sizes
abbrev pub file : ℕ → List ℕ → List ℕ → List Pair → List ℕ → List ℕ → List ℕ → File
file inputs nexts resets gates counts roots sizes =
    record { ordered = record { inputs = inputs; nexts = nexts; resets = resets; gates = gates; counts = counts; roots = roots }; sizes = sizes }

pub sized_pinned :
    (tag ≡ (97 ∷ 105 ∷ 103 ∷ []))
    × (room_for 5 8 6 7 ≡ room 5 8 6 7 0)
    × (counts_of (header 21 22 23 24 25 26 27 28 29) (4 ∷ 3 ∷ []) ≡ (24 ∷ 26 ∷ 27 ∷ 29 ∷ 7 ∷ []))
    × (file_with (header 21 22 23 24 25 26 27 28 29) (latch_line 1 2 ∷ latch_line 6 7 ∷ []) (roots_of (4 ∷ 3 ∷ []) (5 ∷ [])) (pair 8 9 ∷ [])
    ≡ file 22 (1 ∷ 6 ∷ []) (2 ∷ 7 ∷ []) (pair 8 9 ∷ []) (24 ∷ 26 ∷ 27 ∷ 29 ∷ 7 ∷ []) (5 ∷ []) (4 ∷ 3 ∷ []))
    -- I = 2, L = 3, A = 5, four justice sets: M = 10, and 11; every list but the roots' just long enough, and each a cell too short; 19 before 3
    × (sized_at (header 10 2 3 9 5 9 9 4 9) (room 3 3 10 4 0) 7 ≡ got tt 7)
    × (sized_at (header 11 2 3 9 5 9 9 4 9) (room 3 3 10 4 0) 7 ≡ no Above 7)
    × (sized_at (header 10 2 3 9 5 9 9 4 9) (room 2 3 10 4 0) 7 ≡ no Short 7)
    × (sized_at (header 10 2 3 9 5 9 9 4 9) (room 3 2 10 4 0) 7 ≡ no Short 7)
    × (sized_at (header 10 2 3 9 5 9 9 4 9) (room 3 3 9 4 0) 7 ≡ no Short 7)
    × (sized_at (header 10 2 3 9 5 9 9 4 9) (room 3 3 10 3 0) 7 ≡ no Short 7)
    × (sized_at (header 11 2 3 9 5 9 9 4 9) (room 0 0 0 0 0) 7 ≡ no Above 7)
unfolding sized_at
sized_pinned = (refl, refl, refl, refl, refl, refl, refl, refl, refl, refl, refl)

-- lists that are long enough for it, and each a cell too short
pub roomy_pinned :
    Roomy (header 10 2 3 9 5 9 9 4 9) 3 3 10 4
    × (Roomy (header 10 2 3 9 5 9 9 4 9) 2 4 11 5 → ⊥)
    × (Roomy (header 10 2 3 9 5 9 9 4 9) 4 2 11 5 → ⊥)
    × (Roomy (header 10 2 3 9 5 9 9 4 9) 4 4 9 5 → ⊥)
    × (Roomy (header 10 2 3 9 5 9 9 4 9) 4 4 11 3 → ⊥)
roomy_pinned = (
  record { nexts_fit = omega arith; resets_fit = omega arith; gates_fit = omega arith; sizes_fit = omega arith },
  λ r. omega (arith, r.nexts_fit),
  λ r. omega (arith, r.resets_fit),
  λ r. omega (arith, r.gates_fit),
  λ r. omega (arith, r.sizes_fit),
)

-- 3. A file by its parts.

-- aig 6 2 1 2 3 1 1 2 1, latch 8 with reset 1, outputs 12 and 13, bad 9, constraint 3, sizes 2 and 1, justice 6 and 11 and 5, fairness 7, then 8(6,2), 10(8,3)
-- and 12(10,9)
abbrev pub small : List ℕ
small =
    (97 ∷ 105 ∷ 103 ∷ 32 ∷ 54 ∷ 32 ∷ 50 ∷ 32 ∷ 49 ∷ 32 ∷ 50 ∷ 32 ∷ 51 ∷ 32 ∷ 49 ∷ 32 ∷ 49 ∷ 32 ∷ 50 ∷ 32 ∷ 49 ∷ 10 ∷ 56 ∷ 32 ∷ 49 ∷ 10 ∷ 49 ∷ 50 ∷ 10 ∷ 49 ∷
    51 ∷ 10 ∷ 57 ∷ 10 ∷ 51 ∷ 10 ∷ 50 ∷ 10 ∷ 49 ∷ 10 ∷ 54 ∷ 10 ∷ 49 ∷ 49 ∷ 10 ∷ 53 ∷ 10 ∷ 55 ∷ 10 ∷ 2 ∷ 4 ∷ 2 ∷ 5 ∷ 2 ∷ 1 ∷ [])

abbrev pub small_file : File
small_file = file 2 (8 ∷ []) (1 ∷ []) (pair 6 2 ∷ pair 8 3 ∷ pair 10 9 ∷ []) (2 ∷ 1 ∷ 1 ∷ 1 ∷ 3 ∷ []) (12 ∷ 13 ∷ 9 ∷ 3 ∷ 7 ∷ 6 ∷ 11 ∷ 5 ∷ []) (2 ∷ 1 ∷ [])

abbrev small_header : Header
small_header = header 6 2 1 2 3 1 1 2 1

-- aig 6 1 2 0 3, latch 8, latch 5 with reset 1, and the same gates: no root
abbrev pub rootless : List ℕ
rootless = (97 ∷ 105 ∷ 103 ∷ 32 ∷ 54 ∷ 32 ∷ 49 ∷ 32 ∷ 50 ∷ 32 ∷ 48 ∷ 32 ∷ 51 ∷ 10 ∷ 56 ∷ 10 ∷ 53 ∷ 32 ∷ 49 ∷ 10 ∷ 2 ∷ 4 ∷ 2 ∷ 5 ∷ 2 ∷ 1 ∷ [])

abbrev pub rootless_file : File
rootless_file = file 1 (8 ∷ 5 ∷ []) (0 ∷ 1 ∷ []) (pair 6 2 ∷ pair 8 3 ∷ pair 10 9 ∷ []) (0 ∷ 0 ∷ 0 ∷ 0 ∷ 0 ∷ []) [] []

-- from the end of the header on, and the whole, into lists that are just long enough, and too short for the roots
pub parts_pinned :
    (lists_at small 8 small_header 22 ≡ got small_file 55)
    × (lists_at small 7 small_header 22 ≡ no Short 40)
    × (lists_at rootless 0 (header 6 1 2 0 3 0 0 0 0) 14 ≡ got rootless_file 26)
    × (body_at small (room 1 1 6 2 8) small_header 22 ≡ got small_file 55)
    × (body_at small (room 9 9 9 9 7) small_header 22 ≡ no Short 40)
    × (body_at small (room 9 9 5 9 9) small_header 22 ≡ no Short 22)
    × (read_file small (room 1 1 6 2 8) ≡ got small_file 55)
    × (read_file small (room 9 9 9 1 9) ≡ no Short 22)
unfolding digits_of digits_at uint_at go_on_at binary_at delta_at header_field_at pair_at first_code is_byte byte_at tag_at number_at line_at lines_at reset_line_at reset_at latch_at
    latches_at count_at others_at counts_at header_at root_room_at properties_at sizes_at roots_at gate_at gates_at sized_at lists_at body_at read_file
parts_pinned = (refl, refl, refl, refl, refl, refl, refl, refl)

-- 4. What is left of a reading.

abbrev lists : List ℕ → List ℕ → List ℕ → List ℕ → List ℕ → Lists
lists nexts resets gates sizes roots = record { nexts = nexts; resets = resets; gates = gates; sizes = sizes; roots = roots }

-- lists that are longer than the file asks
abbrev dirty : Lists
dirty = lists (21 ∷ 22 ∷ []) (51 ∷ 52 ∷ []) (23 ∷ 24 ∷ 25 ∷ 26 ∷ 27 ∷ 28 ∷ 29 ∷ []) (31 ∷ 32 ∷ 33 ∷ []) (41 ∷ 42 ∷ 43 ∷ 44 ∷ 45 ∷ 46 ∷ 47 ∷ 48 ∷ 49 ∷ 50 ∷ [])

-- what is left of them: the file at their fronts
abbrev filled : Lists
filled = lists (8 ∷ 22 ∷ []) (1 ∷ 52 ∷ []) (6 ∷ 2 ∷ 8 ∷ 3 ∷ 10 ∷ 9 ∷ 29 ∷ []) (2 ∷ 1 ∷ 33 ∷ []) (12 ∷ 13 ∷ 9 ∷ 3 ∷ 7 ∷ 6 ∷ 11 ∷ 5 ∷ 49 ∷ 50 ∷ [])

abbrev clean : Lists
clean = lists (0 ∷ 0 ∷ []) (0 ∷ 0 ∷ []) (0 ∷ 0 ∷ 0 ∷ 0 ∷ 0 ∷ 0 ∷ 0 ∷ []) (0 ∷ 0 ∷ 0 ∷ []) (0 ∷ 0 ∷ 0 ∷ 0 ∷ 0 ∷ 0 ∷ 0 ∷ 0 ∷ 0 ∷ 0 ∷ [])

-- the bytes used, inputs, latches, gates, counts and sets
abbrev numbers_of : ℕ → ℕ → ℕ → ℕ → List ℕ → ℕ → FileRead
numbers_of used i l a counts sets = record { used = used; inputs = i; latches = l; gates = a; counts = counts; sets = sets }

-- these as they are answered, and the lists
abbrev leaves : ℕ → ℕ → ℕ → ℕ → List ℕ → ℕ → Lists → Outcome
leaves used i l a counts sets after = record { read = Ok (numbers_of used i l a counts sets); lists = after }

-- a refusal: nothing but why and where, and these lists
abbrev refuses : Fault → ℕ → Lists → Outcome
refuses why place after = record { read = broken why place; lists = after }

pub left_pinned :
    (lists_of (1 ∷ []) (2 ∷ []) (3 ∷ []) (4 ∷ []) (5 ∷ []) ≡ lists (1 ∷ []) (2 ∷ []) (3 ∷ []) (4 ∷ []) (5 ∷ []))
    × (room_of dirty ≡ room 2 2 7 3 10)
    × (written small_file dirty ≡ filled)
    × (cleared dirty ≡ clean)
    × (answered (got small_file 55) ≡ (leaves 55 2 1 3 (2 ∷ 1 ∷ 1 ∷ 1 ∷ 3 ∷ []) 2 dirty).read)
    × (answered (no Above 7) ≡ broken Above 7)
    × (seen (answered (no Above 7)) clean ≡ refuses Above 7 clean)
    × (left (got small_file 55) dirty ≡ leaves 55 2 1 3 (2 ∷ 1 ∷ 1 ∷ 1 ∷ 3 ∷ []) 2 filled)
    × (left (no Above 7) dirty ≡ refuses Above 7 clean)
    -- the numbers of what is taken; all 0 for a refusal
    × (numbers (Ok (numbers_of 55 2 1 3 (2 ∷ 1 ∷ 1 ∷ 1 ∷ 3 ∷ []) 2)) ≡ numbers_of 55 2 1 3 (2 ∷ 1 ∷ 1 ∷ 1 ∷ 3 ∷ []) 2)
    × (numbers (broken Above 7) ≡ numbers_of 0 0 0 0 (0 ∷ 0 ∷ 0 ∷ 0 ∷ 0 ∷ []) 0)
left_pinned = (refl, refl, refl, refl, refl, refl, refl, refl, refl, refl, refl)

-- inside: gates two words each from the list's start on; all but the header, with the number of justice literals; of a refusal only the answer is told
pub stores_pinned : (e : Result ℕ Broken) (r : Result Reading Broken) (t : Result FileRead Broken) (list : List ℕ) (after : Lists)
    → (◌≡◌ {A = Type 0} (StoresGates (got (pair 6 2 ∷ pair 8 3 ∷ []) 9) e (21 ∷ 22 ∷ 23 ∷ 24 ∷ 25 ∷ []) list) ((e ≡ Ok 9) × (list ≡ (6 ∷ 2 ∷ 8 ∷ 3 ∷ 25 ∷
    []))))
    × (◌≡◌ {A = Type 0} (StoresGates (no Above 7) e (21 ∷ 22 ∷ 23 ∷ []) list) (e ≡ broken Above 7))
    × (◌≡◌ {A = Type 0} (StoresFile (got small_file 55) r dirty after) ((r ≡ Ok (reading_of 3 55)) × (after ≡ filled)))
    × (◌≡◌ {A = Type 0} (StoresFile (no Above 7) r dirty after) (r ≡ broken Above 7))
    × (◌≡◌ {A = Type 0} (StoresRead (got small_file 55) t dirty after)
    ((t ≡ Ok (numbers_of 55 2 1 3 (2 ∷ 1 ∷ 1 ∷ 1 ∷ 3 ∷ []) 2)) × (after ≡ filled)))
    × (◌≡◌ {A = Type 0} (StoresRead (no Above 7) t dirty after) (t ≡ broken Above 7))
stores_pinned e r t list after = (refl, refl, refl, refl, refl, refl)

-- 5. Whole files.

pub outcomes_pinned :
    -- the file, and into lists that are just long enough
    (outcome small dirty ≡ leaves 55 2 1 3 (2 ∷ 1 ∷ 1 ∷ 1 ∷ 3 ∷ []) 2 filled)
    × (outcome small (lists (9 ∷ []) (9 ∷ []) (9 ∷ 9 ∷ 9 ∷ 9 ∷ 9 ∷ 9 ∷ []) (9 ∷ 9 ∷ []) (9 ∷ 9 ∷ 9 ∷ 9 ∷ 9 ∷ 9 ∷ 9 ∷ 9 ∷ []))
    ≡ leaves 55 2 1 3 (2 ∷ 1 ∷ 1 ∷ 1 ∷ 3 ∷ []) 2 (lists (8 ∷ []) (1 ∷ []) (6 ∷ 2 ∷ 8 ∷ 3 ∷ 10 ∷ 9 ∷ []) (2 ∷ 1 ∷ []) (12 ∷ 13 ∷ 9 ∷ 3 ∷ 7 ∷ 6 ∷ 11 ∷ 5 ∷ [])))
    -- each list a cell too short; the roots where the sizes end
    × (outcome small (lists [] dirty.resets dirty.gates dirty.sizes dirty.roots)
    ≡ refuses Short 22 (lists [] clean.resets clean.gates clean.sizes clean.roots))
    × (outcome small (lists dirty.nexts [] dirty.gates dirty.sizes dirty.roots)
    ≡ refuses Short 22 (lists clean.nexts [] clean.gates clean.sizes clean.roots))
    × (outcome small (lists dirty.nexts dirty.resets (1 ∷ 2 ∷ 3 ∷ 4 ∷ 5 ∷ []) dirty.sizes dirty.roots)
    ≡ refuses Short 22 (lists clean.nexts clean.resets (0 ∷ 0 ∷ 0 ∷ 0 ∷ 0 ∷ []) clean.sizes clean.roots))
    × (outcome small (lists dirty.nexts dirty.resets dirty.gates (1 ∷ []) dirty.roots)
    ≡ refuses Short 22 (lists clean.nexts clean.resets clean.gates (0 ∷ []) clean.roots))
    × (outcome small (lists dirty.nexts dirty.resets dirty.gates dirty.sizes (1 ∷ 2 ∷ 3 ∷ 4 ∷ 5 ∷ 6 ∷ 7 ∷ []))
    ≡ refuses Short 40 (lists clean.nexts clean.resets clean.gates clean.sizes (0 ∷ 0 ∷ 0 ∷ 0 ∷ 0 ∷ 0 ∷ 0 ∷ [])))
    -- aig 0 0 0 0 0\n
    × (outcome (97 ∷ 105 ∷ 103 ∷ 32 ∷ 48 ∷ 32 ∷ 48 ∷ 32 ∷ 48 ∷ 32 ∷ 48 ∷ 32 ∷ 48 ∷ 10 ∷ []) dirty ≡ leaves 14 0 0 0 (0 ∷ 0 ∷ 0 ∷ 0 ∷ 0 ∷ []) 0 dirty)
    -- no byte; aig 05; aig 3 1 0 0 1\n; two justice sizes that sum to 1048576
    × (outcome [] dirty ≡ refuses Missing 0 clean)
    × (outcome (97 ∷ 105 ∷ 103 ∷ 32 ∷ 48 ∷ 53 ∷ []) dirty ≡ refuses (Number LeadingZero) 4 clean)
    × (outcome (97 ∷ 105 ∷ 103 ∷ 32 ∷ 51 ∷ 32 ∷ 49 ∷ 32 ∷ 48 ∷ 32 ∷ 48 ∷ 32 ∷ 49 ∷ 10 ∷ []) dirty ≡ refuses Above 14 clean)
    × (outcome (97 ∷ 105 ∷ 103 ∷ 32 ∷ 48 ∷ 32 ∷ 48 ∷ 32 ∷ 48 ∷ 32 ∷ 48 ∷ 32 ∷ 48 ∷ 32 ∷ 48 ∷ 32 ∷ 48 ∷ 32 ∷ 50 ∷ 10 ∷ 49 ∷ 48 ∷ 52 ∷ 56 ∷ 53 ∷ 55 ∷ 53 ∷ 10 ∷
    49 ∷ 10 ∷ []) dirty ≡ refuses TooMany 30 clean)
    -- a latch over 2M + 1, and an output: aig 2 1 1 1 0\n6\n, aig 2 1 1 1 0\n5\n6\n
    × (outcome (97 ∷ 105 ∷ 103 ∷ 32 ∷ 50 ∷ 32 ∷ 49 ∷ 32 ∷ 49 ∷ 32 ∷ 49 ∷ 32 ∷ 48 ∷ 10 ∷ 54 ∷ 10 ∷ []) dirty ≡ refuses (Number OverLimit) 14 clean)
    × (outcome (97 ∷ 105 ∷ 103 ∷ 32 ∷ 50 ∷ 32 ∷ 49 ∷ 32 ∷ 49 ∷ 32 ∷ 49 ∷ 32 ∷ 48 ∷ 10 ∷ 53 ∷ 10 ∷ 54 ∷ 10 ∷ []) dirty ≡ refuses (Number OverLimit) 16 clean)
    -- a latch's reset: aig 2 1 1 0 0\n5 and then ` 4`, its own literal, absent, ` 5`, ` 2`; and the newline of ` 3` missing, which is 22 all the same
    × (outcome (97 ∷ 105 ∷ 103 ∷ 32 ∷ 50 ∷ 32 ∷ 49 ∷ 32 ∷ 49 ∷ 32 ∷ 48 ∷ 32 ∷ 48 ∷ 10 ∷ 53 ∷ 32 ∷ 52 ∷ 10 ∷ []) dirty
    ≡ leaves 18 1 1 0 (0 ∷ 0 ∷ 0 ∷ 0 ∷ 0 ∷ []) 0 (lists (5 ∷ 22 ∷ []) (4 ∷ 52 ∷ []) dirty.gates dirty.sizes dirty.roots))
    × (outcome (97 ∷ 105 ∷ 103 ∷ 32 ∷ 50 ∷ 32 ∷ 49 ∷ 32 ∷ 49 ∷ 32 ∷ 48 ∷ 32 ∷ 48 ∷ 10 ∷ 53 ∷ 10 ∷ []) dirty
    ≡ leaves 16 1 1 0 (0 ∷ 0 ∷ 0 ∷ 0 ∷ 0 ∷ []) 0 (lists (5 ∷ 22 ∷ []) (0 ∷ 52 ∷ []) dirty.gates dirty.sizes dirty.roots))
    × (outcome (97 ∷ 105 ∷ 103 ∷ 32 ∷ 50 ∷ 32 ∷ 49 ∷ 32 ∷ 49 ∷ 32 ∷ 48 ∷ 32 ∷ 48 ∷ 10 ∷ 53 ∷ 32 ∷ 53 ∷ 10 ∷ []) dirty ≡ refuses Reset 16 clean)
    × (outcome (97 ∷ 105 ∷ 103 ∷ 32 ∷ 50 ∷ 32 ∷ 49 ∷ 32 ∷ 49 ∷ 32 ∷ 48 ∷ 32 ∷ 48 ∷ 10 ∷ 53 ∷ 32 ∷ 50 ∷ 10 ∷ []) dirty ≡ refuses Reset 16 clean)
    × (outcome (97 ∷ 105 ∷ 103 ∷ 32 ∷ 50 ∷ 32 ∷ 49 ∷ 32 ∷ 49 ∷ 32 ∷ 48 ∷ 32 ∷ 48 ∷ 10 ∷ 53 ∷ 32 ∷ 51 ∷ []) dirty ≡ refuses Reset 16 clean)
    -- aig 3 2 0 1 1\n6\n and a gate that is cut, one with a delta of nine bytes, one with a delta over its reference
    × (outcome (97 ∷ 105 ∷ 103 ∷ 32 ∷ 51 ∷ 32 ∷ 50 ∷ 32 ∷ 48 ∷ 32 ∷ 49 ∷ 32 ∷ 49 ∷ 10 ∷ 54 ∷ 10 ∷ 0 ∷ []) dirty ≡ refuses (Number Cut) 17 clean)
    × (outcome (97 ∷ 105 ∷ 103 ∷ 32 ∷ 51 ∷ 32 ∷ 50 ∷ 32 ∷ 48 ∷ 32 ∷ 49 ∷ 32 ∷ 49 ∷ 10 ∷ 54 ∷ 10 ∷ 128 ∷ 128 ∷ 128 ∷ 128 ∷ 128 ∷ 128 ∷ 128 ∷ 128 ∷ 0 ∷
    []) dirty ≡ refuses (Number TooLong) 16 clean)
    × (outcome (97 ∷ 105 ∷ 103 ∷ 32 ∷ 51 ∷ 32 ∷ 50 ∷ 32 ∷ 48 ∷ 32 ∷ 49 ∷ 32 ∷ 49 ∷ 10 ∷ 54 ∷ 10 ∷ 0 ∷ 7 ∷ []) dirty ≡ refuses (Number OverReference) 17 clean)
    -- aig 4 2 0 0 2\n and a second gate whose first delta is zero, by one byte and by two
    × (outcome (97 ∷ 105 ∷ 103 ∷ 32 ∷ 52 ∷ 32 ∷ 50 ∷ 32 ∷ 48 ∷ 32 ∷ 48 ∷ 32 ∷ 50 ∷ 10 ∷ 2 ∷ 2 ∷ 0 ∷ 2 ∷ []) dirty ≡ refuses (Number ZeroDelta) 16 clean)
    × (outcome (97 ∷ 105 ∷ 103 ∷ 32 ∷ 52 ∷ 32 ∷ 50 ∷ 32 ∷ 48 ∷ 32 ∷ 48 ∷ 32 ∷ 50 ∷ 10 ∷ 2 ∷ 2 ∷ 128 ∷ 0 ∷ 2 ∷ []) dirty ≡ refuses (Number ZeroDelta) 16 clean)
unfolding digits_of digits_at uint_at go_on_at binary_at delta_at header_field_at pair_at first_code is_byte byte_at tag_at number_at line_at lines_at reset_line_at reset_at latch_at
    latches_at count_at others_at counts_at header_at root_room_at properties_at sizes_at roots_at gate_at gates_at sized_at lists_at body_at read_file
outcomes_pinned = (refl, refl, refl, refl, refl, refl, refl, refl, refl, refl, refl, refl, refl, refl, refl, refl, refl, refl, refl, refl, refl, refl, refl, refl)

-- 6. The way from bytes to renumbering, into lists that are just long enough behind the file's.

abbrev lending : Lending
lending =
    record {
      file = dirty;
      codes = record { inputs = 51 ∷ 52 ∷ []; states = 53 ∷ []; triples = 61 ∷ 62 ∷ 63 ∷ 64 ∷ 65 ∷ 66 ∷ 67 ∷ 68 ∷ 69 ∷ [] };
      map = 71 ∷ 72 ∷ 73 ∷ 74 ∷ 75 ∷ 76 ∷ 77 ∷ [];
      next_images = 78 ∷ [];
      reset_images = 79 ∷ [];
      root_images = 81 ∷ 82 ∷ 83 ∷ 84 ∷ 85 ∷ 86 ∷ 87 ∷ 88 ∷ [];
      gates_out = 91 ∷ 92 ∷ 93 ∷ 94 ∷ 95 ∷ 96 ∷ [];
      scratch = replicate 30 99;
      trim = true;
      hash = false;
      fold = true;
    }

-- what is lent has V = 6, the file's counts, the flags, inputs 2 and 4, the latch 6 with its next state and reset, three gates, eight roots
pub way_pinned :
    (handed_from small lending
    ≡ lent_of (record { top = variable 6; counts = 2 ∷ 1 ∷ 1 ∷ 1 ∷ 3 ∷ []; trim = true; hash = false; fold = true }) (2 ∷ 4 ∷ []) (6 ∷ []) (8 ∷ [])
    (1 ∷ []) (8 ∷ 6 ∷ 2 ∷ 10 ∷ 8 ∷ 3 ∷ 12 ∷ 10 ∷ 9 ∷ []) (12 ∷ 13 ∷ 9 ∷ 3 ∷ 7 ∷ 6 ∷ 11 ∷ 5 ∷ []) (71 ∷ 72 ∷ 73 ∷ 74 ∷ 75 ∷ 76 ∷ 77 ∷ []) (78 ∷ []) (79 ∷ [])
    (81 ∷ 82 ∷ 83 ∷ 84 ∷ 85 ∷ 86 ∷ 87 ∷ 88 ∷ []) (91 ∷ 92 ∷ 93 ∷ 94 ∷ 95 ∷ 96 ∷ []) (replicate 30 99))
    × Enough (numbers (outcome small dirty).read) lending
unfolding digits_of digits_at uint_at go_on_at binary_at delta_at header_field_at pair_at first_code is_byte byte_at tag_at number_at line_at lines_at reset_line_at reset_at latch_at
    latches_at count_at others_at counts_at header_at root_room_at properties_at sizes_at roots_at gate_at gates_at sized_at lists_at body_at read_file expansion
way_pinned = (
  refl,
  record {
    inputs = omega arith;
    states = omega arith;
    triples = omega arith;
    map = omega arith;
    nexts = omega arith;
    resets = omega arith;
    roots = omega arith;
    gates = omega arith;
    scratch = omega arith;
  },
)
