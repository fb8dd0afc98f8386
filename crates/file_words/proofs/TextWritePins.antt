-- Circuits written as texts for C by example, worked out from the promise: the number, each lent byte, and the answer words. The bytes and words are dirty and
-- more than asked, and those past what is written are seen to stay; a refusal leaves every byte. By computation. Assumes nothing.
use Prim.Native.Nat.{ℕ}
use mathlib.Core.Path.{◌≡◌, refl}
use mathlib.Core.List.{List, [], ◌∷◌}
use lib.ListN.{replicate}
use Rattle.token.specs.Format.{digits_of}
use Rattle.circuit.specs.Walk.{first_code}
use Rattle.sections.specs.Bytes.{line_bytes, count_bytes, reset_bytes, latch_bytes, after_tag, roots_bytes}
use Rattle.ordered.specs.Check.{too_large, uneven, checked}
use Rattle.ascii.specs.Write.{input_lines, stated_bytes, gate_line, parts_of, writing}
use Rattle.file_words.specs.Write.{seen_by}
use Rattle.file_words.specs.Text.{write_text_seen}
use Rattle.file_words.proofs.WritePins.{given_with, given, sees, counts, gates, roots, small, three, refused}

-- aag 5 2 1 1 2 1 1 1 1, inputs 2 and 4, latch 6 with next state 8, output 10, bad 9, constraint 3, size 2, justice 6 and 11, fairness 7, then 8 6 2 and
-- 10 8 3: 59 bytes
abbrev small_text : List ℕ
small_text =
    97 ∷ 97 ∷ 103 ∷ 32 ∷ 53 ∷ 32 ∷ 50 ∷ 32 ∷ 49 ∷ 32 ∷ 49 ∷ 32 ∷ 50 ∷ 32 ∷ 49 ∷ 32 ∷ 49 ∷ 32 ∷ 49 ∷ 32 ∷ 49 ∷ 10 ∷ 50 ∷ 10 ∷ 52 ∷ 10 ∷ 54 ∷ 32 ∷ 56 ∷ 10 ∷
    49 ∷ 48 ∷ 10 ∷ 57 ∷ 10 ∷ 51 ∷ 10 ∷ 50 ∷ 10 ∷ 54 ∷ 10 ∷ 49 ∷ 49 ∷ 10 ∷ 55 ∷ 10 ∷ 56 ∷ 32 ∷ 54 ∷ 32 ∷ 50 ∷ 10 ∷ 49 ∷ 48 ∷ 32 ∷ 56 ∷ 32 ∷ 51 ∷ 10 ∷ []

-- circuits that are written
pub text_written_pinned :
    -- an AND of two inputs: aag 3 2 0 1 1, 2, 4, 6, 6 4 2; a byte and a word more than asked, which stay
    (write_text_seen (given 2 (1 ∷ 0 ∷ 0 ∷ 0 ∷ 0 ∷ []) [] (4 ∷ 2 ∷ []) [] (6 ∷ [])) (replicate 27 7) three
    ≡ sees 0 (97 ∷ 97 ∷ 103 ∷ 32 ∷ 51 ∷ 32 ∷ 50 ∷ 32 ∷ 48 ∷ 32 ∷ 49 ∷ 32 ∷ 49 ∷ 10 ∷ 50 ∷ 10 ∷ 52 ∷ 10 ∷ 54 ∷ 10 ∷ 54 ∷ 32 ∷ 52 ∷ 32 ∷ 50 ∷ 10 ∷ 7 ∷ [])
    (0 ∷ 26 ∷ 53 ∷ []))
    -- each list in use, just enough of both
    × (write_text_seen small (replicate 59 7) (51 ∷ 52 ∷ []) ≡ sees 0 small_text (0 ∷ 59 ∷ []))
    -- aag 3 1 2 0 0, latch 4 with reset 1, latch 6 unset: `4 2 1` and `6 3 6`
    × (write_text_seen (given_with 1 (replicate 5 0) (2 ∷ 3 ∷ []) (1 ∷ 6 ∷ []) [] [] []) (replicate 29 7) three
    ≡ sees 0 (97 ∷ 97 ∷ 103 ∷ 32 ∷ 51 ∷ 32 ∷ 49 ∷ 32 ∷ 50 ∷ 32 ∷ 48 ∷ 32 ∷ 48 ∷ 10 ∷ 50 ∷ 10 ∷ 52 ∷ 32 ∷ 50 ∷ 32 ∷ 49 ∷ 10 ∷ 54 ∷ 32 ∷ 51 ∷ 32 ∷ 54 ∷ 10 ∷
    7 ∷ []) (0 ∷ 28 ∷ 53 ∷ []))
    -- the empty circuit
    × (write_text_seen (given 0 (replicate 5 0) [] [] [] []) (replicate 15 7) three
    ≡ sees 0 (97 ∷ 97 ∷ 103 ∷ 32 ∷ 48 ∷ 32 ∷ 48 ∷ 32 ∷ 48 ∷ 32 ∷ 48 ∷ 32 ∷ 48 ∷ 10 ∷ 7 ∷ []) (0 ∷ 14 ∷ 53 ∷ []))
unfolding seen_by writing checked too_large uneven first_code parts_of after_tag count_bytes reset_bytes latch_bytes line_bytes roots_bytes digits_of input_lines
    stated_bytes gate_line
text_written_pinned = (refl, refl, refl, refl)

-- each refusal; those of a circuit are told of either form alike
pub text_write_refusals_pinned :
    -- one answer word: nothing is written, whatever the circuit
    (write_text_seen small (replicate 70 7) (51 ∷ []) ≡ sees 3 (replicate 70 7) (51 ∷ []))
    × (write_text_seen (given 1048576 [] [] [] [] []) (replicate 70 7) (51 ∷ []) ≡ sees 3 (replicate 70 7) (51 ∷ []))
    -- four counts, which sum to the roots
    × (write_text_seen (given 2 (1 ∷ 1 ∷ 1 ∷ 3 ∷ []) (8 ∷ []) gates [] roots) (replicate 70 7) three ≡ refused 70 2 0 0)
    -- too many inputs; a next state over 2V + 1; an input's literal for a reset; a gate that is its own input
    × (write_text_seen (given 1048576 (replicate 5 0) [] [] [] []) (replicate 70 7) three ≡ refused 70 1 0 0)
    × (write_text_seen (given 2 counts (12 ∷ []) gates (2 ∷ []) roots) (replicate 70 7) three ≡ refused 70 4 12 0)
    × (write_text_seen (given_with 2 counts (8 ∷ []) (2 ∷ []) gates (2 ∷ []) roots) (replicate 70 7) three ≡ refused 70 22 2 0)
    × (write_text_seen (given 2 counts (8 ∷ []) (8 ∷ 2 ∷ 8 ∷ 3 ∷ []) (2 ∷ []) roots) (replicate 70 7) three ≡ refused 70 23 8 0)
    -- a byte too few, and none at all; the bytes needed are told
    × (write_text_seen small (replicate 58 7) three ≡ refused 58 3 0 59)
    × (write_text_seen small [] three ≡ refused 0 3 0 59)
unfolding seen_by writing checked too_large uneven first_code parts_of after_tag count_bytes reset_bytes latch_bytes line_bytes roots_bytes digits_of input_lines
    stated_bytes gate_line
text_write_refusals_pinned = (refl, refl, refl, refl, refl, refl, refl, refl, refl)
