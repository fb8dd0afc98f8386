-- Calls of the C entry for renumbering by example, worked out from document 01: the number, each word of the five lists, and the answer words. The lists are
-- dirty, each with a number of its own, and longer than asked; the words past those asked for are seen to stay. By computation. Assumes nothing.
use Prim.Native.Nat.{ℕ}
use mathlib.Core.Path.{◌≡◌, refl}
use mathlib.Core.Bool.{Bool, true, false}
use mathlib.Core.List.{List, [], ◌∷◌, ◌++◌}
use lib.ListN.{replicate}
use Rattle.lit.specs.Code.{is_odd, variable, literal, flipped}
use Rattle.circuit.specs.declared.CircuitRecord.{CircuitRecord}
use Rattle.circuit.specs.declared.Refusal.TheVariants.{TooBig, Cycle}
use Rattle.std.specs.Prelude.{Ok, Err}
use Rattle.circuit.specs.Map.{entry_image, image_in, store, code_of}
use Rattle.circuit.specs.Walk.{first_code, next_code, folded, already, settle_as, settle_on, settle, look, through_inputs, walk, walk_all}
use Rattle.circuit.specs.Circuit.{codes, start, walked, numbered, renumber}
use Rattle.circuit.specs.Ordered.{images_in, ordered_of}
use Rattle.circuit.specs.Outcome.{Lent, lent_of, too_big, misshapen, too_short, conclusion, after, outcome}
use Rattle.capi.specs.Renumber.{Seen, seen_of, record_of, misgiven, first_number, first_words, answer_number, answer_words, renumber_seen}

-- what C sees: the number, map, next images, reset images, root images, gates out, scratch, answer words
abbrev sees : ℕ → List ℕ → List ℕ → List ℕ → List ℕ → List ℕ → List ℕ → List ℕ → Seen
sees number map next_images reset_images root_images gates_out scratch words =
    record {
      number = number;
      map = map;
      next_images = next_images;
      reset_images = reset_images;
      root_images = root_images;
      gates_out = gates_out;
      scratch = scratch;
      words = words;
    }

-- the contract's own word for it
pub seen_pinned :
    seen_of 1 (2 ∷ []) (3 ∷ []) (8 ∷ []) (4 ∷ []) (5 ∷ []) (6 ∷ []) (7 ∷ [])
    ≡ record {
      number = 1;
      map = 2 ∷ [];
      next_images = 3 ∷ [];
      reset_images = 8 ∷ [];
      root_images = 4 ∷ [];
      gates_out = 5 ∷ [];
      scratch = 6 ∷ [];
      words = 7 ∷ [];
    }
seen_pinned = refl

-- 1. C's flags by themselves: trim 1, hash 2, fold 4.

abbrev numbers : Bool → Bool → Bool → CircuitRecord
numbers trim hash fold = record { top = variable 3; counts = 5 ∷ 6 ∷ []; trim = trim; hash = hash; fold = fold }

pub flags_told :
    (record_of 3 (5 ∷ 6 ∷ []) 0 ≡ numbers false false false) × (record_of 3 (5 ∷ 6 ∷ []) 1 ≡ numbers true false false)
    × (record_of 3 (5 ∷ 6 ∷ []) 2 ≡ numbers false true false) × (record_of 3 (5 ∷ 6 ∷ []) 3 ≡ numbers true true false)
    × (record_of 3 (5 ∷ 6 ∷ []) 4 ≡ numbers false false true) × (record_of 3 (5 ∷ 6 ∷ []) 5 ≡ numbers true false true)
    × (record_of 3 (5 ∷ 6 ∷ []) 6 ≡ numbers false true true) × (record_of 3 (5 ∷ 6 ∷ []) 7 ≡ numbers true true true)
unfolding is_odd
flags_told = (refl, refl, refl, refl, refl, refl, refl, refl)

-- 2. A small circuit, and what comes before the library's checks.

-- inputs 2, 4, gate 6(2,4), root 6, V = 3, with lists of nines that are lent, the map's and the reset images' a word longer than they must be
abbrev small : List ℕ → ℕ → Lent
small counts flags =
    lent_of (record_of 3 counts flags) (2 ∷ 4 ∷ []) [] [] [] (6 ∷ 2 ∷ 4 ∷ []) (6 ∷ []) (9 ∷ 9 ∷ 9 ∷ 9 ∷ 9 ∷ []) [] (9 ∷ []) (9 ∷ []) (9 ∷ 9 ∷ [])
    (replicate 15 9)

-- what C sees afterwards of that circuit, given counts, flags and answer words
abbrev small_seen : List ℕ → ℕ → List ℕ → Seen
small_seen counts flags words = renumber_seen counts flags (small counts flags) words

-- what is seen where no list but the answer words was written
abbrev small_left : ℕ → List ℕ → Seen
small_left number words = sees number (9 ∷ 9 ∷ 9 ∷ 9 ∷ 9 ∷ []) [] (9 ∷ []) (9 ∷ []) (9 ∷ 9 ∷ []) (replicate 15 9) words

pub circuits_shown :
    -- one output: one gate made, the new largest variable 3, and the fourth answer word stays
    (small_seen (1 ∷ 0 ∷ 0 ∷ 0 ∷ 0 ∷ []) 0 (9 ∷ 9 ∷ 9 ∷ 9 ∷ [])
    ≡ sees 0 (0 ∷ 2 ∷ 4 ∷ 6 ∷ 9 ∷ []) [] (9 ∷ []) (6 ∷ []) (4 ∷ 2 ∷ []) (replicate 15 0) (0 ∷ 1 ∷ 3 ∷ 9 ∷ []))
    -- flags 8, four counts, six counts: 2, and the answer words say nothing
    × (small_seen (1 ∷ 0 ∷ 0 ∷ 0 ∷ 0 ∷ []) 8 (9 ∷ 9 ∷ 9 ∷ 9 ∷ []) ≡ small_left 2 (0 ∷ 0 ∷ 0 ∷ 9 ∷ []))
    × (small_seen (1 ∷ 0 ∷ 0 ∷ 0 ∷ []) 0 (9 ∷ 9 ∷ 9 ∷ 9 ∷ []) ≡ small_left 2 (0 ∷ 0 ∷ 0 ∷ 9 ∷ []))
    × (small_seen (1 ∷ 0 ∷ 0 ∷ 0 ∷ 0 ∷ 0 ∷ []) 0 (9 ∷ 9 ∷ 9 ∷ 9 ∷ []) ≡ small_left 2 (0 ∷ 0 ∷ 0 ∷ 9 ∷ []))
    -- two answer words: 3, tested before the flags
    × (small_seen (1 ∷ 0 ∷ 0 ∷ 0 ∷ 0 ∷ []) 8 (9 ∷ 9 ∷ []) ≡ small_left 3 (9 ∷ 9 ∷ []))
unfolding is_odd renumber_seen misgiven outcome conclusion too_big misshapen too_short after renumber numbered codes walk_all walked start store flipped walk look image_in
    entry_image through_inputs settle settle_on settle_as already next_code first_code folded code_of ordered_of images_in
circuits_shown = (refl, refl, refl, refl, refl)

-- 3. A circuit with all lists, under each setting of the flags.

-- the word for no image
abbrev gone : ℕ
gone = 4294967295

-- the lists: inputs 4, 2, 7; twins 20(2,4) and 13(4,2), the second of which defines 13; 16(20,1), which folds; 18(10,9); 22(18,13), which nothing
-- reaches; latch states 10, 8 and next states 19, 20, the first of which reaches a later gate than the second; roots 16, 12, 18, 3
abbrev inputs : List ℕ
inputs = 4 ∷ 2 ∷ 7 ∷ []

abbrev states : List ℕ
states = 10 ∷ 8 ∷ []

abbrev nexts : List ℕ
nexts = 19 ∷ 20 ∷ []

-- the first latch is unset, and the second starts at 1
abbrev resets : List ℕ
resets = 10 ∷ 1 ∷ []

abbrev gates : List ℕ
gates = 20 ∷ 2 ∷ 4 ∷ 13 ∷ 4 ∷ 2 ∷ 16 ∷ 20 ∷ 1 ∷ 18 ∷ 10 ∷ 9 ∷ 22 ∷ 18 ∷ 13 ∷ []

abbrev roots : List ℕ
roots = 16 ∷ 12 ∷ 18 ∷ 3 ∷ []

-- an output, two constraints, a justice literal
abbrev counts : List ℕ
counts = 1 ∷ 0 ∷ 2 ∷ 0 ∷ 1 ∷ []

-- what is seen of a call by its V, counts, flags, inputs, states, nexts, resets, gates, roots. The lists lent have 2, 3, 4, 2, 5 and 6 words more than asked
-- for 2 latches, 5 gates and 4 roots under V = 11, and five answer words
abbrev call_with : ℕ → List ℕ → ℕ → List ℕ → List ℕ → List ℕ → List ℕ → List ℕ → List ℕ → Seen
call_with top counts flags inputs states nexts resets gates roots =
    renumber_seen counts flags
    (lent_of (record_of top counts flags) inputs states nexts resets gates roots (replicate 14 21) (replicate 5 22) (replicate 6 31) (replicate 6 23)
    (replicate 15 24) (replicate 57 25))
    (26 ∷ 27 ∷ 28 ∷ 29 ∷ 30 ∷ [])

-- the same with those resets
abbrev call : ℕ → List ℕ → ℕ → List ℕ → List ℕ → List ℕ → List ℕ → List ℕ → Seen
call top counts flags inputs states nexts gates roots = call_with top counts flags inputs states nexts resets gates roots

-- answered: the gates made, the new largest variable; the map, the images of next states and of roots, the gates. The unset latch has its new literal, 8
abbrev answered : ℕ → ℕ → List ℕ → List ℕ → List ℕ → List ℕ → Seen
answered made top map nexts roots gates =
    sees 0 (map ++ replicate 2 21) (nexts ++ replicate 3 22) (8 ∷ 1 ∷ replicate 4 31) (roots ++ replicate 2 23) (gates ++ replicate 5 24)
    (replicate 51 0 ++ replicate 6 25) (0 ∷ made ∷ top ∷ 29 ∷ 30 ∷ [])

-- new codes: 4, 2, 7 are 2, 4, 6, the latch states 10, 8 are 8, 10, and gates begin at 12. Variable 7 is not there. Trim (1) numbers 18 first and
-- leaves 22 out;
-- hash (2) makes one gate of the twins; fold (4) gives 16 the image of 20
pub settings_pinned :
    (call 11 counts 0 inputs states nexts gates roots
    ≡ answered 5 10 (0 ∷ 4 ∷ 2 ∷ 7 ∷ 10 ∷ 8 ∷ 15 ∷ gone ∷ 16 ∷ 18 ∷ 12 ∷ 20 ∷ []) (19 ∷ 12 ∷ []) (16 ∷ 15 ∷ 18 ∷ 5 ∷ [])
    (4 ∷ 2 ∷ 4 ∷ 2 ∷ 12 ∷ 1 ∷ 11 ∷ 8 ∷ 18 ∷ 14 ∷ []))
    × (call 11 counts 1 inputs states nexts gates roots
    ≡ answered 4 9 (0 ∷ 4 ∷ 2 ∷ 7 ∷ 10 ∷ 8 ∷ 19 ∷ gone ∷ 16 ∷ 12 ∷ 14 ∷ gone ∷ []) (13 ∷ 14 ∷ []) (16 ∷ 19 ∷ 12 ∷ 5 ∷ [])
    (11 ∷ 8 ∷ 4 ∷ 2 ∷ 14 ∷ 1 ∷ 4 ∷ 2 ∷ 0 ∷ 0 ∷ []))
    × (call 11 counts 2 inputs states nexts gates roots
    ≡ answered 4 9 (0 ∷ 4 ∷ 2 ∷ 7 ∷ 10 ∷ 8 ∷ 13 ∷ gone ∷ 14 ∷ 16 ∷ 12 ∷ 18 ∷ []) (17 ∷ 12 ∷ []) (14 ∷ 13 ∷ 16 ∷ 5 ∷ [])
    (4 ∷ 2 ∷ 12 ∷ 1 ∷ 11 ∷ 8 ∷ 16 ∷ 12 ∷ 0 ∷ 0 ∷ []))
    × (call 11 counts 3 inputs states nexts gates roots
    ≡ answered 3 8 (0 ∷ 4 ∷ 2 ∷ 7 ∷ 10 ∷ 8 ∷ 15 ∷ gone ∷ 16 ∷ 12 ∷ 14 ∷ gone ∷ []) (13 ∷ 14 ∷ []) (16 ∷ 15 ∷ 12 ∷ 5 ∷ [])
    (11 ∷ 8 ∷ 4 ∷ 2 ∷ 14 ∷ 1 ∷ 0 ∷ 0 ∷ 0 ∷ 0 ∷ []))
    × (call 11 counts 4 inputs states nexts gates roots
    ≡ answered 4 9 (0 ∷ 4 ∷ 2 ∷ 7 ∷ 10 ∷ 8 ∷ 15 ∷ gone ∷ 12 ∷ 16 ∷ 12 ∷ 18 ∷ []) (17 ∷ 12 ∷ []) (12 ∷ 15 ∷ 16 ∷ 5 ∷ [])
    (4 ∷ 2 ∷ 4 ∷ 2 ∷ 11 ∷ 8 ∷ 16 ∷ 14 ∷ 0 ∷ 0 ∷ []))
    × (call 11 counts 5 inputs states nexts gates roots
    ≡ answered 3 8 (0 ∷ 4 ∷ 2 ∷ 7 ∷ 10 ∷ 8 ∷ 17 ∷ gone ∷ 14 ∷ 12 ∷ 14 ∷ gone ∷ []) (13 ∷ 14 ∷ []) (14 ∷ 17 ∷ 12 ∷ 5 ∷ [])
    (11 ∷ 8 ∷ 4 ∷ 2 ∷ 4 ∷ 2 ∷ 0 ∷ 0 ∷ 0 ∷ 0 ∷ []))
    × (call 11 counts 6 inputs states nexts gates roots
    ≡ answered 3 8 (0 ∷ 4 ∷ 2 ∷ 7 ∷ 10 ∷ 8 ∷ 13 ∷ gone ∷ 12 ∷ 14 ∷ 12 ∷ 16 ∷ []) (15 ∷ 12 ∷ []) (12 ∷ 13 ∷ 14 ∷ 5 ∷ [])
    (4 ∷ 2 ∷ 11 ∷ 8 ∷ 14 ∷ 12 ∷ 0 ∷ 0 ∷ 0 ∷ 0 ∷ []))
    × (call 11 counts 7 inputs states nexts gates roots
    ≡ answered 2 7 (0 ∷ 4 ∷ 2 ∷ 7 ∷ 10 ∷ 8 ∷ 15 ∷ gone ∷ 14 ∷ 12 ∷ 14 ∷ gone ∷ []) (13 ∷ 14 ∷ []) (14 ∷ 15 ∷ 12 ∷ 5 ∷ [])
    (11 ∷ 8 ∷ 4 ∷ 2 ∷ 0 ∷ 0 ∷ 0 ∷ 0 ∷ 0 ∷ 0 ∷ []))
unfolding is_odd renumber_seen misgiven outcome conclusion too_big misshapen too_short after renumber numbered codes walk_all walked start store flipped walk look image_in
    entry_image through_inputs settle settle_on settle_as already next_code first_code folded code_of ordered_of images_in
settings_pinned = (refl, refl, refl, refl, refl, refl, refl, refl)

-- 4. The same call, each time with something wrong.

-- refused by 1 to 4 or 22, with a literal or 0: the six lists stay, and the answer words past the third
abbrev left : ℕ → ℕ → Seen
left number literal =
    sees number (replicate 14 21) (replicate 5 22) (replicate 6 31) (replicate 6 23) (replicate 15 24) (replicate 57 25) (literal ∷ 0 ∷ 0 ∷ 29 ∷ 30 ∷ [])

-- refused by 5 to 8: no images in the map and zeros in the other lists, as far as they are asked for
abbrev clear : ℕ → ℕ → Seen
clear number literal =
    sees number (replicate 12 gone ++ replicate 2 21) (replicate 2 0 ++ replicate 3 22) (replicate 2 0 ++ replicate 4 31) (replicate 4 0 ++ replicate 2 23)
    (replicate 10 0 ++ replicate 5 24) (replicate 51 0 ++ replicate 6 25) (literal ∷ 0 ∷ 0 ∷ 29 ∷ 30 ∷ [])

pub refusals_pinned :
    -- 1: V = 1,048,576; with flags 8 it is 2
    (call 1048576 counts 7 inputs states nexts gates roots ≡ left 1 0)
    × (call 1048576 counts 8 inputs states nexts gates roots ≡ left 2 0)
    -- 2: flags 8; four counts and six, that sum to the roots; counts that sum to five; one next state; a word too few of gates
    × (call 11 counts 8 inputs states nexts gates roots ≡ left 2 0)
    × (call 11 (1 ∷ 0 ∷ 2 ∷ 1 ∷ []) 7 inputs states nexts gates roots ≡ left 2 0)
    × (call 11 (1 ∷ 0 ∷ 2 ∷ 0 ∷ 1 ∷ 0 ∷ []) 7 inputs states nexts gates roots ≡ left 2 0)
    × (call 11 (1 ∷ 0 ∷ 2 ∷ 0 ∷ 2 ∷ []) 7 inputs states nexts gates roots ≡ left 2 0)
    × (call 11 counts 7 inputs states (19 ∷ []) gates roots ≡ left 2 0)
    × (call 11 counts 7 inputs states nexts (20 ∷ 2 ∷ 4 ∷ 13 ∷ 4 ∷ 2 ∷ 16 ∷ 20 ∷ 1 ∷ 18 ∷ 10 ∷ 9 ∷ 22 ∷ 18 ∷ []) roots ≡ left 2 0)
    -- 4: a root 24; a next state 27 before it
    × (call 11 counts 7 inputs states nexts gates (16 ∷ 12 ∷ 18 ∷ 24 ∷ []) ≡ left 4 24)
    × (call 11 counts 7 inputs states (19 ∷ 27 ∷ []) gates (16 ∷ 12 ∷ 18 ∷ 24 ∷ []) ≡ left 4 27)
    -- 2: one reset, three resets; 4: a reset 24, before a root 25; 22: the first latch's literal negated, the second's in the first place; before 5 and after 4
    × (call_with 11 counts 7 inputs states nexts (10 ∷ []) gates roots ≡ left 2 0)
    × (call_with 11 counts 7 inputs states nexts (10 ∷ 1 ∷ 0 ∷ []) gates roots ≡ left 2 0)
    × (call_with 11 counts 7 inputs states nexts (24 ∷ 1 ∷ []) gates (16 ∷ 12 ∷ 18 ∷ 25 ∷ []) ≡ left 4 24)
    × (call_with 11 counts 7 inputs states nexts (11 ∷ 1 ∷ []) gates roots ≡ left 22 11)
    × (call_with 11 counts 7 inputs states nexts (8 ∷ 9 ∷ []) gates roots ≡ left 22 8)
    × (call_with 11 counts 7 (4 ∷ 2 ∷ 5 ∷ []) states nexts (0 ∷ 9 ∷ []) gates roots ≡ left 22 9)
    × (call_with 11 counts 7 inputs states nexts (0 ∷ 9 ∷ []) gates (16 ∷ 12 ∷ 18 ∷ 24 ∷ []) ≡ left 4 24)
    -- 5: the input 5, where 4 is one
    × (call 11 counts 7 (4 ∷ 2 ∷ 5 ∷ []) states nexts gates roots ≡ clear 5 5)
    -- 6: the latch state 11, where 10 is one
    × (call 11 counts 7 inputs (10 ∷ 11 ∷ []) nexts gates roots ≡ clear 6 11)
    -- 7: gate 18(10,15), where variable 7 is not defined
    × (call 11 counts 7 inputs states nexts (20 ∷ 2 ∷ 4 ∷ 13 ∷ 4 ∷ 2 ∷ 16 ∷ 20 ∷ 1 ∷ 18 ∷ 10 ∷ 15 ∷ 22 ∷ 18 ∷ 13 ∷ []) roots ≡ clear 7 15)
    -- 8: gate 20(2,17), where 16(20,1)
    × (call 11 counts 7 inputs states nexts (20 ∷ 2 ∷ 17 ∷ 13 ∷ 4 ∷ 2 ∷ 16 ∷ 20 ∷ 1 ∷ 18 ∷ 10 ∷ 9 ∷ 22 ∷ 18 ∷ 13 ∷ []) roots ≡ clear 8 17)
unfolding is_odd renumber_seen misgiven outcome conclusion too_big misshapen too_short after renumber numbered codes walk_all walked start store flipped walk look image_in
    entry_image through_inputs settle settle_on settle_as already next_code first_code folded code_of ordered_of images_in
refusals_pinned = (refl, refl, refl, refl, refl, refl, refl, refl, refl, refl, refl, refl, refl, refl, refl, refl, refl, refl, refl, refl, refl)

-- the circuit with all lists under all three flags, with so many words lent of the map, next images, reset images, root images, gates out and scratch, and these answer words
abbrev lends : ℕ → ℕ → ℕ → ℕ → ℕ → ℕ → ℕ → List ℕ → Seen
lends flags map next_images reset_images root_images gates_out scratch words =
    renumber_seen counts flags
    (lent_of (record_of 11 counts flags) inputs states nexts resets gates roots (replicate map 21) (replicate next_images 22) (replicate reset_images 31)
    (replicate root_images 23) (replicate gates_out 24) (replicate scratch 25))
    words

-- all of it stays but the answer words
abbrev keeps : ℕ → ℕ → ℕ → ℕ → ℕ → ℕ → ℕ → List ℕ → Seen
keeps number map next_images reset_images root_images gates_out scratch words =
    sees number (replicate map 21) (replicate next_images 22) (replicate reset_images 31) (replicate root_images 23) (replicate gates_out 24)
    (replicate scratch 25) words

pub rooms_pinned :
    -- as many words as asked, of each
    (lends 7 12 2 2 4 10 51 (26 ∷ 27 ∷ 28 ∷ [])
    ≡ sees 0 (0 ∷ 4 ∷ 2 ∷ 7 ∷ 10 ∷ 8 ∷ 15 ∷ gone ∷ 14 ∷ 12 ∷ 14 ∷ gone ∷ []) (13 ∷ 14 ∷ []) (8 ∷ 1 ∷ []) (14 ∷ 15 ∷ 12 ∷ 5 ∷ [])
    (11 ∷ 8 ∷ 4 ∷ 2 ∷ 0 ∷ 0 ∷ 0 ∷ 0 ∷ 0 ∷ 0 ∷ []) (replicate 51 0) (0 ∷ 2 ∷ 7 ∷ []))
    -- 3: one word too few, of each in turn; the answer words say nothing
    × (lends 7 11 2 2 4 10 51 (26 ∷ 27 ∷ 28 ∷ []) ≡ keeps 3 11 2 2 4 10 51 (0 ∷ 0 ∷ 0 ∷ []))
    × (lends 7 12 1 2 4 10 51 (26 ∷ 27 ∷ 28 ∷ []) ≡ keeps 3 12 1 2 4 10 51 (0 ∷ 0 ∷ 0 ∷ []))
    × (lends 7 12 2 1 4 10 51 (26 ∷ 27 ∷ 28 ∷ []) ≡ keeps 3 12 2 1 4 10 51 (0 ∷ 0 ∷ 0 ∷ []))
    × (lends 7 12 2 2 3 10 51 (26 ∷ 27 ∷ 28 ∷ []) ≡ keeps 3 12 2 2 3 10 51 (0 ∷ 0 ∷ 0 ∷ []))
    × (lends 7 12 2 2 4 9 51 (26 ∷ 27 ∷ 28 ∷ []) ≡ keeps 3 12 2 2 4 9 51 (0 ∷ 0 ∷ 0 ∷ []))
    × (lends 7 12 2 2 4 10 50 (26 ∷ 27 ∷ 28 ∷ []) ≡ keeps 3 12 2 2 4 10 50 (0 ∷ 0 ∷ 0 ∷ []))
    -- two answer words, or none: 3, and they stay too; also with flags 8
    × (lends 7 12 2 2 4 10 51 (26 ∷ 27 ∷ []) ≡ keeps 3 12 2 2 4 10 51 (26 ∷ 27 ∷ []))
    × (lends 7 12 2 2 4 10 51 [] ≡ keeps 3 12 2 2 4 10 51 [])
    × (lends 8 12 2 2 4 10 51 (26 ∷ 27 ∷ []) ≡ keeps 3 12 2 2 4 10 51 (26 ∷ 27 ∷ []))
    -- flags 8 before a list that is too short: 2
    × (lends 8 11 2 2 4 10 51 (26 ∷ 27 ∷ 28 ∷ []) ≡ keeps 2 11 2 2 4 10 51 (0 ∷ 0 ∷ 0 ∷ []))
unfolding is_odd renumber_seen misgiven outcome conclusion too_big misshapen too_short after renumber numbered codes walk_all walked start store flipped walk look image_in
    entry_image through_inputs settle settle_on settle_as already next_code first_code folded code_of ordered_of images_in
rooms_pinned = (refl, refl, refl, refl, refl, refl, refl, refl, refl, refl, refl)

-- 5. The words of the inner contracts: what is refused before there is a record, and an answer as a number and three words.

pub words_pinned :
    (misgiven counts 7 ≡ false) × (misgiven counts 8 ≡ true) × (misgiven (1 ∷ 0 ∷ 2 ∷ 0 ∷ []) 7 ≡ true) × (misgiven (1 ∷ 0 ∷ 2 ∷ 0 ∷ 1 ∷ 0 ∷ []) 7 ≡ true)
    × (first_number counts 7 (26 ∷ 27 ∷ 28 ∷ []) ≡ 0) × (first_words counts 7 (26 ∷ 27 ∷ 28 ∷ []) ≡ 26 ∷ 27 ∷ 28 ∷ [])
    × (first_number counts 8 (26 ∷ 27 ∷ 28 ∷ 29 ∷ []) ≡ 2) × (first_words counts 8 (26 ∷ 27 ∷ 28 ∷ 29 ∷ []) ≡ 0 ∷ 0 ∷ 0 ∷ 29 ∷ [])
    × (first_number counts 8 (26 ∷ 27 ∷ 28 ∷ []) ≡ 2) × (first_words counts 8 (26 ∷ 27 ∷ 28 ∷ []) ≡ 0 ∷ 0 ∷ 0 ∷ [])
    × (first_number counts 8 (26 ∷ 27 ∷ []) ≡ 3) × (first_words counts 8 (26 ∷ 27 ∷ []) ≡ 26 ∷ 27 ∷ [])
    × (answer_number (Ok (record { made = 5; top = variable 10 })) ≡ 0)
    × (answer_words (Ok (record { made = 5; top = variable 10 })) ≡ 0 ∷ 5 ∷ 10 ∷ [])
    × (answer_number (Err TooBig) ≡ 1) × (answer_words (Err TooBig) ≡ 0 ∷ 0 ∷ 0 ∷ [])
    × (answer_number (Err (Cycle (literal 18))) ≡ 8) × (answer_words (Err (Cycle (literal 18))) ≡ 18 ∷ 0 ∷ 0 ∷ [])
unfolding misgiven first_number first_words
words_pinned = (refl, refl, refl, refl, refl, refl, refl, refl, refl, refl, refl, refl, refl, refl, refl, refl, refl, refl)
