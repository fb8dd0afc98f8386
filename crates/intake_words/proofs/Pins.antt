-- Calls of the C entry for intake by example, worked out from documents 01 and 02: the number, each word of the fourteen lists, each byte, and the answer words.
-- All that is lent holds 77 in every cell and is a cell longer than asked; the cell past those asked for is seen to stay. By computation. Assumes nothing.
use Prim.Native.Nat.{ℕ}
use mathlib.Core.Path.{◌≡◌, refl}
use mathlib.Core.List.{List, [], ◌∷◌, ◌++◌}
use lib.ListN.{replicate}
use Rattle.std.specs.Prelude.{Ok, Err}
use Rattle.lit.specs.Code.{is_odd, literal, flipped}
use Rattle.token.specs.Format.{digits_of, shortest}
use Rattle.token.specs.Answer.{digits_at, uint_at, go_on_at, binary_at, delta_at, header_field_at, pair_at}
use Rattle.circuit.specs.declared.Refusal.{Refusal}
use Rattle.circuit.specs.declared.Refusal.TheVariants as R
use Rattle.circuit.specs.Map.{entry_image, image_in, store, code_of}
use Rattle.circuit.specs.Walk.{first_code, next_code, folded, already, settle_as, settle_on, settle, look, through_inputs, walk, walk_all}
use Rattle.circuit.specs.Circuit.{codes, start, walked, numbered, renumber}
use Rattle.circuit.specs.Ordered.{images_in, ordered_of}
use Rattle.circuit.specs.Outcome.{too_big, misshapen, too_short, conclusion, after, outcome}
use Rattle.lines.specs.declared.Fault as L
use Rattle.lines.specs.declared.Fault.TheVariants as F
use Rattle.lines.specs.Lines.{is_byte, byte_at, tag_at, number_at, line_at, lines_at, reset_line_at, reset_at, latch_at, latches_at}
use Rattle.lines.specs.Sections.{count_at, others_at, counts_at, header_at, root_room_at, properties_at, sizes_at, roots_at}
use Rattle.sections.specs.Bytes.{line_bytes, count_bytes, reset_bytes, latch_bytes, after_tag, roots_bytes}
use Rattle.ordered.specs.declared.given.Fault as G
use Rattle.ordered.specs.declared.given.Fault.TheVariants as O
use Rattle.ordered.specs.Check.{too_large, uneven, checked}
use Rattle.ordered.specs.Expand as expand
use Rattle.ordered.specs.Expand.{expansion}
use Rattle.binary.specs.declared.FileRead.{FileRead}
use Rattle.binary.specs.File.{gate_at, gates_at, sized_at, lists_at, body_at, read_file}
use Rattle.binary.specs.Promise as file
use Rattle.binary.specs.Write.{parts_of, writing}
use Rattle.intake.specs.declared.OrderFault.TheVariants.{Unread, Unordered, Unstored}
use Rattle.intake.specs.Order.{Ordering, Images, Lists, renumbering, onwards, ordering}
use Rattle.intake_words.specs.Order.{OrderSeen, order_number, refuser, byte_count, order_words, order_seen, ordering_seen}

-- what C sees: the number, what was lent, the answer words
abbrev sees : ℕ → Lists → List ℕ → OrderSeen
sees number lists words = record { number = number; lists = lists; words = words }

-- the contract's own word for it
pub order_seen_pinned : (lists : Lists) → order_seen (sees 1 lists (7 ∷ [])) ≡ record { number = 1; lists = lists; words = 7 ∷ [] }
order_seen_pinned lists = refl

-- 1. Each answer as a number and words.

-- each way to end, beside the numbers of a file that was taken and the gates made, all of them different
abbrev read : FileRead
read = record { used = 99; inputs = 2; latches = 30; gates = 400; counts = 5 ∷ 6 ∷ 7 ∷ 8 ∷ 9 ∷ []; sets = 10 }

abbrev ordered : ℕ → Ordering
ordered written = Ok (record { read = read; made = 11; written = written })

abbrev unread : L.Fault → ℕ → Ordering
unread why place = Err (Unread (record { why = why; place = place }))

abbrev unordered : Refusal → Ordering
unordered why = Err (Unordered why read)

abbrev unstored : G.Fault → ℕ → Ordering
unstored why needed = Err (Unstored (record { why = why; needed = needed }) read 11)

pub order_answers_pinned :
    (order_number (ordered 88) ≡ 0) × (order_number (unread F.Above 14) ≡ 19) × (order_number (unordered R.Misshapen) ≡ 2)
    × (order_number (unordered (R.Cycle (literal 30))) ≡ 8) × (order_number (unstored (O.Disordered (literal 30)) 0) ≡ 23) × (order_number (unstored O.Short 77) ≡ 3)
    × (byte_count (ordered 88) ≡ 88) × (byte_count (unread F.Above 14) ≡ 0) × (byte_count (unordered R.Short) ≡ 0) × (byte_count (unstored O.Short 77) ≡ 77)
    × (refuser (ordered 88) ≡ 0) × (refuser (unread F.Short 14) ≡ 1) × (refuser (unordered R.Short) ≡ 2) × (refuser (unstored O.Short 77) ≡ 3)
    -- which word is which; M is the sum of three
    × (order_words (ordered 88) ≡ 99 ∷ 432 ∷ 2 ∷ 30 ∷ 400 ∷ 5 ∷ 6 ∷ 7 ∷ 8 ∷ 9 ∷ 10 ∷ 11 ∷ 88 ∷ 0 ∷ [])
    × (order_words (unstored O.Short 77) ≡ 99 ∷ 432 ∷ 2 ∷ 30 ∷ 400 ∷ 5 ∷ 6 ∷ 7 ∷ 8 ∷ 9 ∷ 10 ∷ 11 ∷ 77 ∷ 3 ∷ [])
order_answers_pinned = (refl, refl, refl, refl, refl, refl, refl, refl, refl, refl, refl, refl, refl, refl, refl, refl)

-- 2. The half adder: aig 5 2 0 2 3, outputs 10 and 6, gates 6(4,2), 8(5,3), 10(9,7); 25 bytes.

abbrev half_adder : List ℕ
half_adder =
    97 ∷ 105 ∷ 103 ∷ 32 ∷ 53 ∷ 32 ∷ 50 ∷ 32 ∷ 48 ∷ 32 ∷ 50 ∷ 32 ∷ 51 ∷ 10 ∷ 49 ∷ 48 ∷ 10 ∷ 54 ∷ 10 ∷ 2 ∷ 2 ∷ 3 ∷ 2 ∷ 1 ∷ 2 ∷ []

-- a file that stops after its header: aig 1 0 0 0 0, whose M is above I + L + A
abbrev above : List ℕ
above = 97 ∷ 105 ∷ 103 ∷ 32 ∷ 49 ∷ 32 ∷ 48 ∷ 32 ∷ 48 ∷ 32 ∷ 48 ∷ 32 ∷ 48 ∷ 10 ∷ []

-- the lists that the file is read into, those of its codes, and those that renumbering writes, as they are lent; the map's length is told
abbrev file_lent : file.Lists
file_lent = file.lists_of (77 ∷ []) (77 ∷ []) (replicate 7 77) (77 ∷ []) (replicate 3 77)

abbrev codes_lent : expand.Lists
codes_lent = record { inputs = replicate 3 77; states = 77 ∷ []; triples = replicate 10 77 }

abbrev images_lent : ℕ → Images
images_lent n =
    record {
      map = replicate n 77;
      next_images = 77 ∷ [];
      reset_images = 77 ∷ [];
      root_images = replicate 3 77;
      gates_out = replicate 7 77;
      scratch = replicate 28 77;
    }

-- and as they are where each step is done
abbrev file_read : file.Lists
file_read = file.lists_of (77 ∷ []) (77 ∷ []) (4 ∷ 2 ∷ 5 ∷ 3 ∷ 9 ∷ 7 ∷ 77 ∷ []) (77 ∷ []) (10 ∷ 6 ∷ 77 ∷ [])

abbrev file_refused : file.Lists
file_refused = file.lists_of (0 ∷ []) (0 ∷ []) (replicate 7 0) (0 ∷ []) (replicate 3 0)

abbrev codes_expanded : expand.Lists
codes_expanded =
    record { inputs = 2 ∷ 4 ∷ 77 ∷ []; states = 77 ∷ []; triples = 6 ∷ 4 ∷ 2 ∷ 8 ∷ 5 ∷ 3 ∷ 10 ∷ 9 ∷ 7 ∷ 77 ∷ [] }

abbrev images_made : Images
images_made =
    record {
      map = 0 ∷ 2 ∷ 4 ∷ 6 ∷ 8 ∷ 10 ∷ 77 ∷ [];
      next_images = 77 ∷ [];
      reset_images = 77 ∷ [];
      root_images = 10 ∷ 6 ∷ 77 ∷ [];
      gates_out = 4 ∷ 2 ∷ 5 ∷ 3 ∷ 9 ∷ 7 ∷ 77 ∷ [];
      scratch = replicate 27 0 ++ 77 ∷ [];
    }

-- trimmed, gate 8 is reached before gate 6: they change places, and the second output is 8
abbrev images_trimmed : Images
images_trimmed =
    record {
      map = 0 ∷ 2 ∷ 4 ∷ 8 ∷ 6 ∷ 10 ∷ 77 ∷ [];
      next_images = 77 ∷ [];
      reset_images = 77 ∷ [];
      root_images = 10 ∷ 8 ∷ 77 ∷ [];
      gates_out = 5 ∷ 3 ∷ 4 ∷ 2 ∷ 9 ∷ 7 ∷ 77 ∷ [];
      scratch = replicate 27 0 ++ 77 ∷ [];
    }

abbrev trimmed : List ℕ
trimmed =
    97 ∷ 105 ∷ 103 ∷ 32 ∷ 53 ∷ 32 ∷ 50 ∷ 32 ∷ 48 ∷ 32 ∷ 50 ∷ 32 ∷ 51 ∷ 10 ∷ 49 ∷ 48 ∷ 10 ∷ 56 ∷ 10 ∷ 1 ∷ 2 ∷ 4 ∷ 2 ∷ 1 ∷ 2 ∷ []

-- all that is lent, with so many words for the map and so many bytes
abbrev lent : ℕ → ℕ → Lists
lent words bytes = record { file = file_lent; codes = codes_lent; images = images_lent words; bytes = replicate bytes 77 }

-- what ordering the half adder by those flags with them shows, fifteen answer words being lent
abbrev call : ℕ → ℕ → ℕ → OrderSeen
call flags words bytes = ordering_seen half_adder flags (lent words bytes) (replicate 15 77)

-- the answer words of a file that was read: 25 bytes, M I L A, two outputs; then the gates made, the bytes, and who refused; the fifteenth stays
abbrev told : ℕ → ℕ → ℕ → List ℕ
told made bytes who = 25 ∷ 5 ∷ 2 ∷ 0 ∷ 3 ∷ 2 ∷ 0 ∷ 0 ∷ 0 ∷ 0 ∷ 0 ∷ made ∷ bytes ∷ who ∷ 77 ∷ []

pub orders_pinned :
    -- it comes out as it went in: three gates, 25 bytes
    (call 0 7 26
    ≡ sees 0 (record { file = file_read; codes = codes_expanded; images = images_made; bytes = half_adder ++ 77 ∷ [] }) (told 3 25 0))
    -- trimmed: the gates are numbered as they are reached
    × (call 1 7 26
    ≡ sees 0 (record { file = file_read; codes = codes_expanded; images = images_trimmed; bytes = trimmed ++ 77 ∷ [] }) (told 3 25 0))
    -- flags 8: 2, by renumbering, where the file is read and nothing else written
    × (call 8 7 26 ≡ sees 2 (record { file = file_read; codes = codes_lent; images = images_lent 7; bytes = replicate 26 77 }) (told 0 0 2))
    -- a byte too few: 3, by writing, where all but the bytes is written, and 25 are needed
    × (call 0 7 24 ≡ sees 3 (record { file = file_read; codes = codes_expanded; images = images_made; bytes = replicate 24 77 }) (told 3 25 3))
    -- a word too few for the map: 3, by renumbering, where the file is read and its codes expanded
    × (call 0 5 26 ≡ sees 3 (record { file = file_read; codes = codes_expanded; images = images_lent 5; bytes = replicate 26 77 }) (told 0 0 2))
    -- a file that is refused: 19 at 14, where its own lists are 0 and all else stays
    × (ordering_seen above 0 (lent 7 26) (replicate 15 77)
    ≡ sees 19 (record { file = file_refused; codes = codes_lent; images = images_lent 7; bytes = replicate 26 77 }) (14 ∷ (replicate 12 0 ++ 1 ∷ 77 ∷ [])))
    -- thirteen answer words: 3, before all else, and nothing is written
    × (ordering_seen half_adder 0 (lent 7 26) (replicate 13 77) ≡ sees 3 (lent 7 26) (replicate 13 77))
    × (ordering_seen above 8 (lent 7 26) (replicate 13 77) ≡ sees 3 (lent 7 26) (replicate 13 77))
unfolding ordering_seen ordering onwards renumbering expansion is_odd outcome conclusion too_big misshapen too_short after renumber numbered codes walk_all walked start
    store flipped walk look image_in entry_image through_inputs settle settle_on settle_as already next_code first_code folded code_of ordered_of images_in digits_of
    digits_at uint_at go_on_at binary_at delta_at header_field_at pair_at is_byte byte_at tag_at number_at line_at lines_at reset_line_at reset_at latch_at latches_at count_at
    others_at counts_at header_at root_room_at properties_at sizes_at roots_at gate_at gates_at sized_at lists_at body_at read_file writing checked too_large uneven parts_of
    after_tag count_bytes reset_bytes latch_bytes line_bytes roots_bytes shortest
orders_pinned = (refl, refl, refl, refl, refl, refl, refl, refl)
