-- Closed examples of the whole way: a file with a latch, a gate that stands twice, justice and fairness, ordered under three settings of the flags, with every cell of
-- every list, and each refusal. Lists are a cell longer than they need be and hold 77. Assumes nothing.
use Prim.Native.Nat.{ℕ, ◌+◌}
use mathlib.Core.Path.{◌≡◌, refl}
use mathlib.Core.List.{List, [], ◌∷◌, ◌++◌}
use native.Mathlib.Omega.{arith}
use lib.ListN.{length, replicate}
use Rattle.std.specs.Prelude.{Ok}
use Rattle.lit.specs.Code.{is_odd, flipped}
use Rattle.token.specs.Format.{digits_of, shortest}
use Rattle.token.specs.Answer.{digits_at, uint_at, go_on_at, binary_at, delta_at, header_field_at, pair_at}
use Rattle.circuit.specs.Map.{image_in, entry_image, store, code_of}
use Rattle.circuit.specs.Walk.{first_code, next_code, folded, already, settle_as, settle_on, settle, look, through_inputs, walk, walk_all}
use Rattle.circuit.specs.Circuit.{codes, start, walked, numbered, renumber}
use Rattle.circuit.specs.Ordered.{images_in, ordered_of}
use Rattle.circuit.specs.Outcome.{too_big, misshapen, too_short, conclusion, after, outcome}
use Rattle.circuit.specs.declared.Refusal.TheVariants as R
use Rattle.lines.specs.declared.Fault.TheVariants.{Above}
use Rattle.lines.specs.Lines.{is_byte, byte_at, tag_at, number_at, line_at, lines_at, reset_line_at, reset_at, latch_at, latches_at}
use Rattle.lines.specs.Sections.{count_at, others_at, counts_at, header_at, root_room_at, properties_at, sizes_at, roots_at}
use Rattle.sections.specs.Bytes.{line_bytes, count_bytes, reset_bytes, latch_bytes, after_tag, roots_bytes}
use Rattle.ordered.specs.declared.given.Fault.TheVariants as G
use Rattle.ordered.specs.Check.{too_large, uneven, checked}
use Rattle.ordered.specs.Expand.{expansion}
use Rattle.binary.specs.File.{gate_at, gates_at, sized_at, lists_at, body_at, read_file}
use Rattle.binary.specs.Write.{parts_of, writing}
use Rattle.intake.specs.Intake.{Ample}
use Rattle.intake.specs.Order.{Ordered, Unread, Unordered, Unstored, answer_of, Lists, renumbering, onwards, ordering}

-- n cells and one more
abbrev cells : ℕ → List ℕ
cells n = replicate (n + 1) 77

-- what is lent: so many cells for the codes of inputs and states and for triples, for the map, next, reset and root images, gates and scratch, and bytes
abbrev lend : ℕ → ℕ → ℕ → ℕ → ℕ → ℕ → ℕ → ℕ → ℕ → ℕ → Lists
lend i s t m n r u g w b =
    record {
      file = record { nexts = cells 1; resets = cells 1; gates = cells 6; sizes = cells 1; roots = cells 4 };
      codes = record { inputs = replicate i 77; states = replicate s 77; triples = replicate t 77 };
      images =
          record {
            map = replicate m 77;
            next_images = replicate n 77;
            reset_images = replicate r 77;
            root_images = replicate u 77;
            gates_out = replicate g 77;
            scratch = replicate w 77;
          };
      bytes = replicate b 77;
    }

-- a cell more of each than the file asks
abbrev lent : Lists
lent = lend 2 2 10 7 2 2 5 7 28 60

-- one input, one latch that starts at 1, gates 6(4,2), 8(5,3) and 10(4,2), next state 8, output 10, bad state 9, the justice set 6, fairness 5
abbrev file : List ℕ
file = 97 ∷ 105 ∷ 103 ∷ 32 ∷ 53 ∷ 32 ∷ 49 ∷ 32 ∷ 49 ∷ 32 ∷ 49 ∷ 32 ∷ 51 ∷ 32 ∷ 49 ∷ 32 ∷ 48 ∷ 32 ∷ 49 ∷ 32 ∷ 49 ∷ 10 ∷ 56 ∷ 32 ∷ 49 ∷ 10 ∷ 49 ∷ 48 ∷ 10 ∷ 57 ∷ 10 ∷ 49 ∷ 10 ∷ 54 ∷ 10 ∷ 53 ∷ 10 ∷ 2 ∷ 2 ∷ 3 ∷ 2 ∷ 6 ∷ 2 ∷ []

-- ordered with hashing, two gates are left; with trim the gates are numbered as they are reached
abbrev hashed : List ℕ
hashed = 97 ∷ 105 ∷ 103 ∷ 32 ∷ 52 ∷ 32 ∷ 49 ∷ 32 ∷ 49 ∷ 32 ∷ 49 ∷ 32 ∷ 50 ∷ 32 ∷ 49 ∷ 32 ∷ 48 ∷ 32 ∷ 49 ∷ 32 ∷ 49 ∷ 10 ∷ 56 ∷ 32 ∷ 49 ∷ 10 ∷ 54 ∷ 10 ∷ 57 ∷ 10 ∷ 49 ∷ 10 ∷ 54 ∷ 10 ∷ 53 ∷ 10 ∷ 2 ∷ 2 ∷ 3 ∷ 2 ∷ []

abbrev trimmed : List ℕ
trimmed = 97 ∷ 105 ∷ 103 ∷ 32 ∷ 53 ∷ 32 ∷ 49 ∷ 32 ∷ 49 ∷ 32 ∷ 49 ∷ 32 ∷ 51 ∷ 32 ∷ 49 ∷ 32 ∷ 48 ∷ 32 ∷ 49 ∷ 32 ∷ 49 ∷ 10 ∷ 54 ∷ 32 ∷ 49 ∷ 10 ∷ 56 ∷ 10 ∷ 55 ∷ 10 ∷ 49 ∷ 10 ∷ 49 ∷ 48 ∷ 10 ∷ 53 ∷ 10 ∷ 1 ∷ 2 ∷ 4 ∷ 2 ∷ 6 ∷ 2 ∷ []

-- every cell after three successes, with no flag, with hashing and with trim
pub ordered_pinned :
    (ordering file 0 lent ≡ record {
      said = Ok (record { read = record { used = 43; inputs = 1; latches = 1; gates = 3; counts = 1 ∷ 1 ∷ 0 ∷ 1 ∷ 1 ∷ []; sets = 1 }; made = 3; written = 43 });
      lists = record {
        file = record { nexts = 8 ∷ 77 ∷ []; resets = 1 ∷ 77 ∷ []; gates = 4 ∷ 2 ∷ 5 ∷ 3 ∷ 4 ∷ 2 ∷ 77 ∷ []; sizes = 1 ∷ 77 ∷ []; roots = 10 ∷ 9 ∷ 5 ∷ 6 ∷ 77 ∷ [] };
        codes = record { inputs = 2 ∷ 77 ∷ []; states = 4 ∷ 77 ∷ []; triples = 6 ∷ 4 ∷ 2 ∷ 8 ∷ 5 ∷ 3 ∷ 10 ∷ 4 ∷ 2 ∷ 77 ∷ [] };
        images =
            record {
              map = 0 ∷ 2 ∷ 4 ∷ 6 ∷ 8 ∷ 10 ∷ 77 ∷ [];
              next_images = 8 ∷ 77 ∷ [];
              reset_images = 1 ∷ 77 ∷ [];
              root_images = 10 ∷ 9 ∷ 5 ∷ 6 ∷ 77 ∷ [];
              gates_out = 4 ∷ 2 ∷ 5 ∷ 3 ∷ 4 ∷ 2 ∷ 77 ∷ [];
              scratch = replicate 27 0 ++ (77 ∷ []);
            };
        bytes = file ++ replicate 17 77;
      };
    })
    × (ordering file 2 lent ≡ record {
      said = Ok (record { read = record { used = 43; inputs = 1; latches = 1; gates = 3; counts = 1 ∷ 1 ∷ 0 ∷ 1 ∷ 1 ∷ []; sets = 1 }; made = 2; written = 40 });
      lists = record {
        file = record { nexts = 8 ∷ 77 ∷ []; resets = 1 ∷ 77 ∷ []; gates = 4 ∷ 2 ∷ 5 ∷ 3 ∷ 4 ∷ 2 ∷ 77 ∷ []; sizes = 1 ∷ 77 ∷ []; roots = 10 ∷ 9 ∷ 5 ∷ 6 ∷ 77 ∷ [] };
        codes = record { inputs = 2 ∷ 77 ∷ []; states = 4 ∷ 77 ∷ []; triples = 6 ∷ 4 ∷ 2 ∷ 8 ∷ 5 ∷ 3 ∷ 10 ∷ 4 ∷ 2 ∷ 77 ∷ [] };
        images =
            record {
              map = 0 ∷ 2 ∷ 4 ∷ 6 ∷ 8 ∷ 6 ∷ 77 ∷ [];
              next_images = 8 ∷ 77 ∷ [];
              reset_images = 1 ∷ 77 ∷ [];
              root_images = 6 ∷ 9 ∷ 5 ∷ 6 ∷ 77 ∷ [];
              gates_out = 4 ∷ 2 ∷ 5 ∷ 3 ∷ 0 ∷ 0 ∷ 77 ∷ [];
              scratch = replicate 27 0 ++ (77 ∷ []);
            };
        bytes = hashed ++ replicate 20 77;
      };
    })
    × (ordering file 1 lent ≡ record {
      said = Ok (record { read = record { used = 43; inputs = 1; latches = 1; gates = 3; counts = 1 ∷ 1 ∷ 0 ∷ 1 ∷ 1 ∷ []; sets = 1 }; made = 3; written = 43 });
      lists = record {
        file = record { nexts = 8 ∷ 77 ∷ []; resets = 1 ∷ 77 ∷ []; gates = 4 ∷ 2 ∷ 5 ∷ 3 ∷ 4 ∷ 2 ∷ 77 ∷ []; sizes = 1 ∷ 77 ∷ []; roots = 10 ∷ 9 ∷ 5 ∷ 6 ∷ 77 ∷ [] };
        codes = record { inputs = 2 ∷ 77 ∷ []; states = 4 ∷ 77 ∷ []; triples = 6 ∷ 4 ∷ 2 ∷ 8 ∷ 5 ∷ 3 ∷ 10 ∷ 4 ∷ 2 ∷ 77 ∷ [] };
        images =
            record {
              map = 0 ∷ 2 ∷ 4 ∷ 10 ∷ 6 ∷ 8 ∷ 77 ∷ [];
              next_images = 6 ∷ 77 ∷ [];
              reset_images = 1 ∷ 77 ∷ [];
              root_images = 8 ∷ 7 ∷ 5 ∷ 10 ∷ 77 ∷ [];
              gates_out = 5 ∷ 3 ∷ 4 ∷ 2 ∷ 4 ∷ 2 ∷ 77 ∷ [];
              scratch = replicate 27 0 ++ (77 ∷ []);
            };
        bytes = trimmed ++ replicate 17 77;
      };
    })
unfolding ordering onwards renumbering is_odd expansion outcome conclusion too_big misshapen too_short after renumber numbered codes walk_all walked start store flipped walk look
    image_in entry_image through_inputs settle settle_on settle_as already next_code first_code folded code_of ordered_of images_in digits_of digits_at uint_at go_on_at binary_at delta_at header_field_at
    pair_at is_byte byte_at tag_at number_at line_at lines_at reset_line_at reset_at latch_at latches_at count_at others_at counts_at header_at root_room_at properties_at sizes_at roots_at gate_at gates_at
    sized_at lists_at body_at read_file writing checked too_large uneven parts_of after_tag count_bytes reset_bytes latch_bytes line_bytes roots_bytes shortest
ordered_pinned = (refl, refl, refl)

-- flags over 7 are 2, and the file's own refusal comes before it
pub flags_pinned :
    (answer_of (ordering file 8 lent).said ≡ Unordered R.Misshapen)
    × (answer_of (ordering file 4294967295 (lend 0 0 0 0 0 0 0 0 0 0)).said ≡ Unordered R.Misshapen)
    × (answer_of (ordering (97 ∷ 105 ∷ 103 ∷ 32 ∷ 49 ∷ 32 ∷ 48 ∷ 32 ∷ 48 ∷ 32 ∷ 48 ∷ 32 ∷ 48 ∷ 10 ∷ []) 8 lent).said ≡ Unread Above 14)
unfolding ordering onwards renumbering is_odd expansion outcome conclusion too_big misshapen too_short after renumber numbered codes walk_all walked start store flipped walk look
    image_in entry_image through_inputs settle settle_on settle_as already next_code first_code folded code_of ordered_of images_in digits_of digits_at uint_at go_on_at binary_at delta_at header_field_at
    pair_at is_byte byte_at tag_at number_at line_at lines_at reset_line_at reset_at latch_at latches_at count_at others_at counts_at header_at root_room_at properties_at sizes_at roots_at gate_at gates_at
    sized_at lists_at body_at read_file writing checked too_large uneven parts_of after_tag count_bytes reset_bytes latch_bytes line_bytes roots_bytes shortest
flags_pinned = (refl, refl, refl)

-- each list behind the file's a cell too short is 3 of renumbering; with just as many cells and bytes as are asked it is ordered; a byte too few is 3 of writing, with
-- the bytes needed
pub rooms_pinned :
    (answer_of (ordering file 0 (lend 0 1 9 6 1 1 4 6 27 60)).said ≡ Unordered R.Short)
    × (answer_of (ordering file 0 (lend 1 0 9 6 1 1 4 6 27 60)).said ≡ Unordered R.Short)
    × (answer_of (ordering file 0 (lend 1 1 8 6 1 1 4 6 27 60)).said ≡ Unordered R.Short)
    × (answer_of (ordering file 0 (lend 1 1 9 5 1 1 4 6 27 60)).said ≡ Unordered R.Short)
    × (answer_of (ordering file 0 (lend 1 1 9 6 0 1 4 6 27 60)).said ≡ Unordered R.Short)
    × (answer_of (ordering file 0 (lend 1 1 9 6 1 0 4 6 27 60)).said ≡ Unordered R.Short)
    × (answer_of (ordering file 0 (lend 1 1 9 6 1 1 3 6 27 60)).said ≡ Unordered R.Short)
    × (answer_of (ordering file 0 (lend 1 1 9 6 1 1 4 5 27 60)).said ≡ Unordered R.Short)
    × (answer_of (ordering file 0 (lend 1 1 9 6 1 1 4 6 26 60)).said ≡ Unordered R.Short)
    × (answer_of (ordering file 0 (lend 1 1 9 6 1 1 4 6 27 43)).said ≡ Ordered 43 43)
    × (answer_of (ordering file 0 (lend 1 1 9 6 1 1 4 6 27 42)).said ≡ Unstored G.Short 43)
    × (answer_of (ordering file 2 (lend 1 1 9 6 1 1 4 6 27 0)).said ≡ Unstored G.Short 40)
unfolding ordering onwards renumbering is_odd expansion outcome conclusion too_big misshapen too_short after renumber numbered codes walk_all walked start store flipped walk look
    image_in entry_image through_inputs settle settle_on settle_as already next_code first_code folded code_of ordered_of images_in digits_of digits_at uint_at go_on_at binary_at delta_at header_field_at
    pair_at is_byte byte_at tag_at number_at line_at lines_at reset_line_at reset_at latch_at latches_at count_at others_at counts_at header_at root_room_at properties_at sizes_at roots_at gate_at gates_at
    sized_at lists_at body_at read_file writing checked too_large uneven parts_of after_tag count_bytes reset_bytes latch_bytes line_bytes roots_bytes shortest
rooms_pinned = (refl, refl, refl, refl, refl, refl, refl, refl, refl, refl, refl, refl)

-- after 2 and after 3 for the codes nothing behind the file's lists is written; after 3 of renumbering the codes are; after 3 of writing all but the bytes
pub left_pinned :
    ((ordering file 8 lent).lists.codes ≡ lent.codes)
    × ((ordering file 8 lent).lists.images ≡ lent.images)
    × ((ordering file 0 (lend 2 2 8 7 2 2 5 7 28 60)).lists.codes ≡ (lend 2 2 8 7 2 2 5 7 28 60).codes)
    × ((ordering file 0 (lend 2 2 10 5 2 2 5 7 28 60)).lists.codes.inputs ≡ 2 ∷ 77 ∷ [])
    × ((ordering file 0 (lend 2 2 10 5 2 2 5 7 28 60)).lists.images ≡ (lend 2 2 10 5 2 2 5 7 28 60).images)
    × ((ordering file 0 (lend 2 2 10 7 2 2 5 7 28 9)).lists.images.root_images ≡ 10 ∷ 9 ∷ 5 ∷ 6 ∷ 77 ∷ [])
    × ((ordering file 0 (lend 2 2 10 7 2 2 5 7 28 9)).lists.bytes ≡ replicate 9 77)
unfolding ordering onwards renumbering is_odd expansion outcome conclusion too_big misshapen too_short after renumber numbered codes walk_all walked start store flipped walk look
    image_in entry_image through_inputs settle settle_on settle_as already next_code first_code folded code_of ordered_of images_in digits_of digits_at uint_at go_on_at binary_at delta_at header_field_at
    pair_at is_byte byte_at tag_at number_at line_at lines_at reset_line_at reset_at latch_at latches_at count_at others_at counts_at header_at root_room_at properties_at sizes_at roots_at gate_at gates_at
    sized_at lists_at body_at read_file writing checked too_large uneven parts_of after_tag count_bytes reset_bytes latch_bytes line_bytes roots_bytes shortest
left_pinned = (refl, refl, refl, refl, refl, refl, refl)

-- lists and bytes of exactly these lengths are ample: 1,048,575 words a list, twice that for gates, three times for triples, a word more for the map, six times and three
-- for the scratch, and 33,554,476 bytes
pub ample_pinned : (l : Lists) → length l.file.nexts ≡ 1048575 → length l.file.resets ≡ 1048575 → length l.file.gates ≡ 2097150
    → length l.file.sizes ≡ 1048575 → length l.file.roots ≡ 1048575 → length l.codes.inputs ≡ 1048575 → length l.codes.states ≡ 1048575
    → length l.codes.triples ≡ 3145725 → length l.images.map ≡ 1048576 → length l.images.next_images ≡ 1048575
    → length l.images.reset_images ≡ 1048575 → length l.images.root_images ≡ 1048575 → length l.images.gates_out ≡ 2097150
    → length l.images.scratch ≡ 6291453 → length l.bytes ≡ 33554476 → Ample l
ample_pinned l a b c d e f g h i j k m n o p =
    record {
      file = record { nexts = omega arith; resets = omega arith; gates = omega arith; sizes = omega arith; roots = omega arith };
      input_codes = omega arith;
      state_codes = omega arith;
      triples = omega arith;
      map = omega arith;
      next_images = omega arith;
      reset_images = omega arith;
      root_images = omega arith;
      gates_out = omega arith;
      scratch = omega arith;
      bytes = omega arith;
    }
