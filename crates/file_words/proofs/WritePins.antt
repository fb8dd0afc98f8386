-- Circuits written for C by example, worked out from the promise: the number, each lent byte, and the answer words. The bytes and words are dirty and more
-- than asked, and those past what is written are seen to stay; a refusal leaves every byte. By computation. Assumes nothing.
use Prim.Native.Nat.{ℕ}
use mathlib.Core.Path.{◌≡◌, refl}
use mathlib.Core.List.{List, [], ◌∷◌, ◌++◌}
use lib.ListN.{length, replicate}
use Rattle.token.specs.Format.{digits_of, shortest}
use Rattle.lit.specs.Code.{literal}
use Rattle.circuit.specs.Walk.{first_code}
use Rattle.sections.specs.Bytes.{line_bytes, count_bytes, reset_bytes, latch_bytes, after_tag, roots_bytes}
use Rattle.ordered.specs.declared.given.Fault.TheVariants.{TooBig, Misshapen, Over, Reset, Disordered, Short}
use Rattle.ordered.specs.Check.{Words, too_large, uneven, checked}
use Rattle.std.specs.Prelude.{Ok}
use Rattle.binary.specs.Write.{unwritten, parts_of, writing}
use Rattle.file_words.specs.Write.{Seen, first_number, first_words, written_number, written_words, seen_by, write_seen}

-- inputs, counts, next states, resets, gates, sizes, roots
abbrev pub given_with : ℕ → List ℕ → List ℕ → List ℕ → List ℕ → List ℕ → List ℕ → Words
given_with inputs counts nexts resets gates sizes roots =
    record { inputs = inputs; counts = counts; nexts = nexts; resets = resets; gates = gates; sizes = sizes; roots = roots }

-- the same with every reset 0
abbrev pub given : ℕ → List ℕ → List ℕ → List ℕ → List ℕ → List ℕ → Words
given inputs counts nexts gates sizes roots = given_with inputs counts nexts (replicate (length nexts) 0) gates sizes roots

-- what C sees: the number, the lent bytes, the answer words
abbrev pub sees : ℕ → List ℕ → List ℕ → Seen
sees number bytes words = record { number = number; bytes = bytes; words = words }

-- two inputs, a latch, gates 8(6,2) and 10(8,3), a root of each kind and a second justice literal of the one set
abbrev pub counts : List ℕ
counts = 1 ∷ 1 ∷ 1 ∷ 1 ∷ 2 ∷ []

abbrev pub gates : List ℕ
gates = 6 ∷ 2 ∷ 8 ∷ 3 ∷ []

abbrev pub roots : List ℕ
roots = 10 ∷ 9 ∷ 3 ∷ 7 ∷ 6 ∷ 11 ∷ []

abbrev pub small : Words
small = given 2 counts (8 ∷ []) gates (2 ∷ []) roots

-- aig 5 2 1 1 2 1 1 1 1, latch 8, output 10, bad 9, constraint 3, size 2, justice 6 and 11, fairness 7, then the gates: 44 bytes
abbrev small_bytes : List ℕ
small_bytes =
    97 ∷ 105 ∷ 103 ∷ 32 ∷ 53 ∷ 32 ∷ 50 ∷ 32 ∷ 49 ∷ 32 ∷ 49 ∷ 32 ∷ 50 ∷ 32 ∷ 49 ∷ 32 ∷ 49 ∷ 32 ∷ 49 ∷ 32 ∷ 49 ∷ 10 ∷ 56 ∷ 10 ∷ 49 ∷ 48 ∷ 10 ∷ 57 ∷ 10 ∷
    51 ∷ 10 ∷ 50 ∷ 10 ∷ 54 ∷ 10 ∷ 49 ∷ 49 ∷ 10 ∷ 55 ∷ 10 ∷ 2 ∷ 4 ∷ 2 ∷ 5 ∷ []

-- three answer words
abbrev pub three : List ℕ
three = 51 ∷ 52 ∷ 53 ∷ []

-- a refusal where n bytes are lent: its number, the literal at fault and the bytes needed; no byte is written, and the third word stays
abbrev pub refused : ℕ → ℕ → ℕ → ℕ → Seen
refused n number literal needed = sees number (replicate n 7) (literal ∷ needed ∷ 53 ∷ [])

-- each answer as a number and two words
pub written_words_pinned :
    (written_number (Ok 99) ≡ 0)
    × (written_words (Ok 99) ≡ 0 ∷ 99 ∷ [])
    × (written_number (unwritten TooBig 0) ≡ 1)
    × (written_words (unwritten TooBig 0) ≡ 0 ∷ 0 ∷ [])
    × (written_number (unwritten Misshapen 0) ≡ 2)
    × (written_words (unwritten Misshapen 0) ≡ 0 ∷ 0 ∷ [])
    × (written_number (unwritten (Over (literal 30)) 0) ≡ 4)
    × (written_words (unwritten (Over (literal 30)) 0) ≡ 30 ∷ 0 ∷ [])
    × (written_number (unwritten (Reset (literal 30)) 0) ≡ 22)
    × (written_words (unwritten (Reset (literal 30)) 0) ≡ 30 ∷ 0 ∷ [])
    × (written_number (unwritten (Disordered (literal 30)) 0) ≡ 23)
    × (written_words (unwritten (Disordered (literal 30)) 0) ≡ 30 ∷ 0 ∷ [])
    × (written_number (unwritten Short 99) ≡ 3)
    × (written_words (unwritten Short 99) ≡ 0 ∷ 99 ∷ [])
written_words_pinned = (refl, refl, refl, refl, refl, refl, refl, refl, refl, refl, refl, refl, refl, refl)

-- what is refused first, as a number and the answer words after it
pub first_pinned :
    (first_number counts three ≡ 0) × (first_words counts three ≡ three)
    × (first_number counts (51 ∷ 52 ∷ []) ≡ 0) × (first_words counts (51 ∷ 52 ∷ []) ≡ 51 ∷ 52 ∷ [])
    × (first_number (1 ∷ 1 ∷ 1 ∷ 3 ∷ []) three ≡ 2) × (first_words (1 ∷ 1 ∷ 1 ∷ 3 ∷ []) three ≡ 0 ∷ 0 ∷ 53 ∷ [])
    × (first_number (1 ∷ 1 ∷ 1 ∷ 1 ∷ 2 ∷ 0 ∷ []) three ≡ 2) × (first_words (1 ∷ 1 ∷ 1 ∷ 1 ∷ 2 ∷ 0 ∷ []) three ≡ 0 ∷ 0 ∷ 53 ∷ [])
    × (first_number (1 ∷ 1 ∷ 1 ∷ 3 ∷ []) (51 ∷ 52 ∷ []) ≡ 2) × (first_words (1 ∷ 1 ∷ 1 ∷ 3 ∷ []) (51 ∷ 52 ∷ []) ≡ 0 ∷ 0 ∷ [])
    × (first_number [] three ≡ 2) × (first_words [] three ≡ 0 ∷ 0 ∷ 53 ∷ [])
    × (first_number [] (51 ∷ []) ≡ 3) × (first_words [] (51 ∷ []) ≡ 51 ∷ [])
    × (first_number counts (51 ∷ []) ≡ 3) × (first_words counts (51 ∷ []) ≡ 51 ∷ [])
unfolding first_number first_words
first_pinned = (refl, refl, refl, refl, refl, refl, refl, refl, refl, refl, refl, refl, refl, refl, refl, refl)

-- circuits that are written
pub written_pinned :
    -- two bytes and a word more than asked, which stay
    (write_seen small (replicate 46 7) three ≡ sees 0 (small_bytes ++ 7 ∷ 7 ∷ []) (0 ∷ 44 ∷ 53 ∷ []))
    -- just enough of both
    × (write_seen small (replicate 44 7) (51 ∷ 52 ∷ []) ≡ sees 0 small_bytes (0 ∷ 44 ∷ []))
    -- aig 3 1 2 0 0, latch 4 with reset 1, latch 6 unset: `2 1` and `3 6`
    × (write_seen (given_with 1 (replicate 5 0) (2 ∷ 3 ∷ []) (1 ∷ 6 ∷ []) [] [] []) (replicate 23 7) three
    ≡ sees 0 (97 ∷ 105 ∷ 103 ∷ 32 ∷ 51 ∷ 32 ∷ 49 ∷ 32 ∷ 50 ∷ 32 ∷ 48 ∷ 32 ∷ 48 ∷ 10 ∷ 50 ∷ 32 ∷ 49 ∷ 10 ∷ 51 ∷ 32 ∷ 54 ∷ 10 ∷ 7 ∷ []) (0 ∷ 22 ∷ 53 ∷ []))
    -- the empty circuit: aig 0 0 0 0 0
    × (write_seen (given 0 (replicate 5 0) [] [] [] []) (replicate 15 7) three
    ≡ sees 0 (97 ∷ 105 ∷ 103 ∷ 32 ∷ 48 ∷ 32 ∷ 48 ∷ 32 ∷ 48 ∷ 32 ∷ 48 ∷ 32 ∷ 48 ∷ 10 ∷ 7 ∷ []) (0 ∷ 14 ∷ 53 ∷ []))
    -- aig 101 100 0 0 1, and the gate 202(10,10): a delta of two bytes, and one of zero
    × (write_seen (given 100 (replicate 5 0) [] (10 ∷ 10 ∷ []) [] []) (replicate 22 7) three
    ≡ sees 0 (97 ∷ 105 ∷ 103 ∷ 32 ∷ 49 ∷ 48 ∷ 49 ∷ 32 ∷ 49 ∷ 48 ∷ 48 ∷ 32 ∷ 48 ∷ 32 ∷ 48 ∷ 32 ∷ 49 ∷ 10 ∷ 192 ∷ 1 ∷ 0 ∷ 7 ∷ []) (0 ∷ 21 ∷ 53 ∷ []))
unfolding seen_by writing checked too_large uneven first_code parts_of after_tag count_bytes reset_bytes latch_bytes line_bytes roots_bytes digits_of shortest
written_pinned = (refl, refl, refl, refl, refl)

-- each refusal, alone and with those that come after it
pub write_refusals_pinned :
    -- one answer word, and none: nothing is written, whatever the circuit
    (write_seen small (replicate 46 7) (51 ∷ []) ≡ sees 3 (replicate 46 7) (51 ∷ []))
    × (write_seen small (replicate 46 7) [] ≡ sees 3 (replicate 46 7) [])
    × (write_seen (given 1048576 [] [] [] [] []) (replicate 46 7) (51 ∷ []) ≡ sees 3 (replicate 46 7) (51 ∷ []))
    -- four counts and six, which sum to the roots; four, and too many inputs
    × (write_seen (given 2 (1 ∷ 1 ∷ 1 ∷ 3 ∷ []) (8 ∷ []) gates [] roots) (replicate 46 7) three ≡ refused 46 2 0 0)
    × (write_seen (given 2 (1 ∷ 1 ∷ 1 ∷ 1 ∷ 2 ∷ 0 ∷ []) (8 ∷ []) gates (2 ∷ []) roots) (replicate 46 7) three ≡ refused 46 2 0 0)
    × (write_seen (given 1048576 (1 ∷ 1 ∷ 1 ∷ 3 ∷ []) (8 ∷ []) gates [] roots) (replicate 46 7) three ≡ refused 46 2 0 0)
    -- 1: too many inputs, and with all that comes after
    × (write_seen (given 1048576 (replicate 5 0) [] [] [] []) (replicate 46 7) three ≡ refused 46 1 0 0)
    × (write_seen (given 1048575 (replicate 5 0) (8 ∷ []) [] [] []) (replicate 46 7) three ≡ refused 46 1 0 0)
    × (write_seen (given 1048576 (replicate 5 9) (9999999 ∷ []) (9 ∷ []) [] []) [] three ≡ refused 0 1 0 0)
    -- 2: counts, sizes, an odd gate word, and with all that comes after
    × (write_seen (given 2 (2 ∷ 1 ∷ 1 ∷ 1 ∷ 2 ∷ []) (8 ∷ []) gates (2 ∷ []) roots) (replicate 46 7) three ≡ refused 46 2 0 0)
    × (write_seen (given 2 counts (8 ∷ []) gates (1 ∷ []) roots) (replicate 46 7) three ≡ refused 46 2 0 0)
    × (write_seen (given 2 counts (8 ∷ []) (6 ∷ 2 ∷ 8 ∷ []) (2 ∷ []) roots) (replicate 46 7) three ≡ refused 46 2 0 0)
    × (write_seen (given 2 counts (12 ∷ []) (8 ∷ 2 ∷ 8 ∷ []) (2 ∷ []) roots) [] three ≡ refused 0 2 0 0)
    -- 4: V is 5, so 12 is over, in a gate, a next state and a root, and before a gate that is not in order
    × (write_seen (given 2 counts (8 ∷ []) (6 ∷ 12 ∷ 8 ∷ 3 ∷ []) (2 ∷ []) roots) (replicate 46 7) three ≡ refused 46 4 12 0)
    × (write_seen (given 2 counts (12 ∷ []) gates (2 ∷ []) roots) (replicate 46 7) three ≡ refused 46 4 12 0)
    × (write_seen (given 2 counts (8 ∷ []) gates (2 ∷ []) (10 ∷ 9 ∷ 3 ∷ 7 ∷ 6 ∷ 12 ∷ [])) (replicate 46 7) three ≡ refused 46 4 12 0)
    × (write_seen (given 2 counts (13 ∷ []) (8 ∷ 2 ∷ 8 ∷ 3 ∷ []) (2 ∷ []) roots) [] three ≡ refused 0 4 13 0)
    -- 22: an input's literal, the own one negated; 4 before it, by a later code; 22 before 23 and before 3
    × (write_seen (given_with 2 counts (8 ∷ []) (2 ∷ []) gates (2 ∷ []) roots) (replicate 46 7) three ≡ refused 46 22 2 0)
    × (write_seen (given_with 2 counts (8 ∷ []) (7 ∷ []) gates (2 ∷ []) roots) (replicate 46 7) three ≡ refused 46 22 7 0)
    × (write_seen (given_with 2 counts (8 ∷ []) (7 ∷ []) gates (2 ∷ []) (10 ∷ 9 ∷ 3 ∷ 7 ∷ 6 ∷ 12 ∷ [])) (replicate 46 7) three ≡ refused 46 4 12 0)
    × (write_seen (given_with 2 counts (8 ∷ []) (7 ∷ []) (8 ∷ 2 ∷ 8 ∷ 3 ∷ []) (2 ∷ []) roots) [] three ≡ refused 0 22 7 0)
    -- 2: a reset too many, and none
    × (write_seen (given_with 2 counts (8 ∷ []) (0 ∷ 0 ∷ []) gates (2 ∷ []) roots) (replicate 46 7) three ≡ refused 46 2 0 0)
    × (write_seen (given_with 2 counts (8 ∷ []) [] gates (2 ∷ []) roots) (replicate 46 7) three ≡ refused 46 2 0 0)
    -- 23, with the gate's own code: a first input that is the gate, one that is below the second, and before the bytes are too few
    × (write_seen (given 2 counts (8 ∷ []) (8 ∷ 2 ∷ 8 ∷ 3 ∷ []) (2 ∷ []) roots) (replicate 46 7) three ≡ refused 46 23 8 0)
    × (write_seen (given 2 counts (8 ∷ []) (6 ∷ 2 ∷ 3 ∷ 8 ∷ []) (2 ∷ []) roots) (replicate 46 7) three ≡ refused 46 23 10 0)
    × (write_seen (given 2 counts (8 ∷ []) (6 ∷ 2 ∷ 11 ∷ 8 ∷ []) (2 ∷ []) roots) [] three ≡ refused 0 23 10 0)
    -- 3: a byte too few, and none at all; the bytes needed are told
    × (write_seen small (replicate 43 7) three ≡ refused 43 3 0 44)
    × (write_seen small [] three ≡ refused 0 3 0 44)
unfolding seen_by writing checked too_large uneven first_code parts_of after_tag count_bytes reset_bytes latch_bytes line_bytes roots_bytes digits_of shortest
write_refusals_pinned = (
  refl,
  refl,
  refl,
  refl,
  refl,
  refl,
  refl,
  refl,
  refl,
  refl,
  refl,
  refl,
  refl,
  refl,
  refl,
  refl,
  refl,
  refl,
  refl,
  refl,
  refl,
  refl,
  refl,
  refl,
  refl,
  refl,
  refl,
  refl,
)
