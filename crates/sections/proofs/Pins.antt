-- The bytes that are written, by example: each the smallest on which a neighbouring definition answers otherwise. The bytes stand beside each as text.
-- By computation. Assumes nothing.
use Prim.Native.Nat.{ℕ, ◌*◌}
use mathlib.Core.Path.{◌≡◌, refl}
use mathlib.Core.List.{[], ◌∷◌, map}
use Rattle.token.specs.Format.{digits_of}
use Rattle.lines.specs.declared.Header.{Header}
use Rattle.lines.specs.Lines.{tag_of, latch_line}
use Rattle.lines.specs.Sections.{roots_of}
use Rattle.sections.specs.Bytes.{row_bytes, line_bytes, lines_bytes, count_bytes, counts_bytes, kept_before, up_to_last}
use Rattle.sections.specs.Bytes.{reset_bytes, latch_bytes, latches_bytes}
use Rattle.sections.specs.Bytes.{optional, counts_of, after_tag, header_bytes, roots_bytes}
use Rattle.sections.specs.Claims.{latch_lines_of}

-- 1. Lines, counts, latch lines.

pub rows_pinned :
    -- each by its own bytes, in the order of the list; none
    (row_bytes (λ v. v ∷ (2 * v) ∷ []) (5 ∷ 7 ∷ []) ≡ (5 ∷ 10 ∷ 7 ∷ 14 ∷ []))
    × (row_bytes (λ v. v ∷ []) [] ≡ [])
    -- 0\n, 42\n, 12\n3\n0\n, no line
    × (line_bytes 0 ≡ (48 ∷ 10 ∷ []))
    × (line_bytes 42 ≡ (52 ∷ 50 ∷ 10 ∷ []))
    × (lines_bytes (12 ∷ 3 ∷ 0 ∷ []) ≡ (49 ∷ 50 ∷ 10 ∷ 51 ∷ 10 ∷ 48 ∷ 10 ∷ []))
    × (lines_bytes [] ≡ [])
    -- the same as counts, a space before each
    × (count_bytes 0 ≡ (32 ∷ 48 ∷ []))
    × (count_bytes 42 ≡ (32 ∷ 52 ∷ 50 ∷ []))
    × (counts_bytes (12 ∷ 3 ∷ 0 ∷ []) ≡ (32 ∷ 49 ∷ 50 ∷ 32 ∷ 51 ∷ 32 ∷ 48 ∷ []))
    × (counts_bytes [] ≡ [])
unfolding digits_of line_bytes count_bytes
rows_pinned = (refl, refl, refl, refl, refl, refl, refl, refl, refl, refl)

pub latches_pinned :
    -- a reset: none for 0; the others behind a space
    (reset_bytes 0 ≡ [])
    × (reset_bytes 1 ≡ (32 ∷ 49 ∷ []))
    × (reset_bytes 42 ≡ (32 ∷ 52 ∷ 50 ∷ []))
    -- 12\n, 0\n, 12 1\n, 2 10\n
    × (latch_bytes 12 0 ≡ (49 ∷ 50 ∷ 10 ∷ []))
    × (latch_bytes 0 0 ≡ (48 ∷ 10 ∷ []))
    × (latch_bytes 12 1 ≡ (49 ∷ 50 ∷ 32 ∷ 49 ∷ 10 ∷ []))
    × (latch_bytes 2 10 ≡ (50 ∷ 32 ∷ 49 ∷ 48 ∷ 10 ∷ []))
    -- 12\n3 1\n, each next state with its reset, as long as both lists last; no line
    × (latches_bytes (12 ∷ 3 ∷ []) (0 ∷ 1 ∷ []) ≡ (49 ∷ 50 ∷ 10 ∷ 51 ∷ 32 ∷ 49 ∷ 10 ∷ []))
    × (latches_bytes (12 ∷ 3 ∷ []) (0 ∷ []) ≡ (49 ∷ 50 ∷ 10 ∷ []))
    × (latches_bytes (12 ∷ []) (0 ∷ 1 ∷ []) ≡ (49 ∷ 50 ∷ 10 ∷ []))
    × (latches_bytes [] [] ≡ [])
    -- the same as lines
    × (latch_lines_of (12 ∷ 3 ∷ []) (0 ∷ 1 ∷ []) ≡ (latch_line 12 0 ∷ latch_line 3 1 ∷ []))
    × (latch_lines_of (12 ∷ 3 ∷ []) (5 ∷ []) ≡ (latch_line 12 5 ∷ []))
    × (latch_lines_of (12 ∷ []) (5 ∷ 1 ∷ []) ≡ (latch_line 12 5 ∷ []))
unfolding digits_of reset_bytes latch_bytes
latches_pinned = (refl, refl, refl, refl, refl, refl, refl, refl, refl, refl, refl, refl, refl, refl)

-- 2. Counts up to the last that is not zero.

pub kept_pinned :
    (kept_before 0 [] ≡ [])
    × (kept_before 5 [] ≡ (5 ∷ []))
    × (kept_before 0 (7 ∷ []) ≡ (0 ∷ 7 ∷ []))
    × (kept_before 5 (7 ∷ 8 ∷ []) ≡ (5 ∷ 7 ∷ 8 ∷ []))
    -- none, and four of which each is zero or not: all sixteen
    × (up_to_last [] ≡ [])
    × (map up_to_last ((0 ∷ 0 ∷ 0 ∷ 0 ∷ []) ∷ (0 ∷ 0 ∷ 0 ∷ 9 ∷ []) ∷ (0 ∷ 0 ∷ 8 ∷ 0 ∷ []) ∷ (0 ∷ 0 ∷ 8 ∷ 9 ∷ []) ∷ (0 ∷ 7 ∷ 0 ∷ 0 ∷ []) ∷ (0 ∷ 7 ∷ 0 ∷ 9 ∷ []) ∷
    (0 ∷ 7 ∷ 8 ∷ 0 ∷ []) ∷ (0 ∷ 7 ∷ 8 ∷ 9 ∷ []) ∷ (6 ∷ 0 ∷ 0 ∷ 0 ∷ []) ∷ (6 ∷ 0 ∷ 0 ∷ 9 ∷ []) ∷ (6 ∷ 0 ∷ 8 ∷ 0 ∷ []) ∷ (6 ∷ 0 ∷ 8 ∷ 9 ∷ []) ∷
    (6 ∷ 7 ∷ 0 ∷ 0 ∷ []) ∷ (6 ∷ 7 ∷ 0 ∷ 9 ∷ []) ∷ (6 ∷ 7 ∷ 8 ∷ 0 ∷ []) ∷ (6 ∷ 7 ∷ 8 ∷ 9 ∷ []) ∷ [])
    ≡ ([] ∷ (0 ∷ 0 ∷ 0 ∷ 9 ∷ []) ∷ (0 ∷ 0 ∷ 8 ∷ []) ∷ (0 ∷ 0 ∷ 8 ∷ 9 ∷ []) ∷ (0 ∷ 7 ∷ []) ∷ (0 ∷ 7 ∷ 0 ∷ 9 ∷ []) ∷
    (0 ∷ 7 ∷ 8 ∷ []) ∷ (0 ∷ 7 ∷ 8 ∷ 9 ∷ []) ∷ (6 ∷ []) ∷ (6 ∷ 0 ∷ 0 ∷ 9 ∷ []) ∷ (6 ∷ 0 ∷ 8 ∷ []) ∷ (6 ∷ 0 ∷ 8 ∷ 9 ∷ []) ∷
    (6 ∷ 7 ∷ []) ∷ (6 ∷ 7 ∷ 0 ∷ 9 ∷ []) ∷ (6 ∷ 7 ∷ 8 ∷ []) ∷ (6 ∷ 7 ∷ 8 ∷ 9 ∷ []) ∷ []))
kept_pinned = (refl, refl, refl, refl, refl, refl)

-- 3. The header.

-- M I L O A B C J F
abbrev header : ℕ → ℕ → ℕ → ℕ → ℕ → ℕ → ℕ → ℕ → ℕ → Header
header m i l o a b c j f =
    record { top = m; inputs = i; latches = l; outputs = o; gates = a; bad = b; constraints = c; justice = j; fairness = f }

pub headers_pinned :
    -- which is which
    (optional (header 21 22 23 24 25 26 27 28 29) ≡ (26 ∷ 27 ∷ 28 ∷ 29 ∷ []))
    × (counts_of (header 21 22 23 24 25 26 27 28 29) ≡ (21 ∷ 22 ∷ 23 ∷ 24 ∷ 25 ∷ 26 ∷ 27 ∷ 28 ∷ 29 ∷ []))
    × (counts_of (header 1 0 0 0 0 0 0 8 0) ≡ (1 ∷ 0 ∷ 0 ∷ 0 ∷ 0 ∷ 0 ∷ 0 ∷ 8 ∷ []))
    × (counts_of (header 0 0 0 0 0 0 0 0 0) ≡ (0 ∷ 0 ∷ 0 ∷ 0 ∷ 0 ∷ []))
    -- after the tag 21 22 23 24 25 26\n, and 0 0 0 0 0\n
    × (after_tag (header 21 22 23 24 25 26 0 0 0) ≡ (32 ∷ 50 ∷ 49 ∷ 32 ∷ 50 ∷ 50 ∷ 32 ∷ 50 ∷ 51 ∷ 32 ∷ 50 ∷ 52 ∷ 32 ∷ 50 ∷ 53 ∷ 32 ∷ 50 ∷ 54 ∷ 10 ∷ []))
    × (after_tag (header 0 0 0 0 0 0 0 0 0) ≡ (32 ∷ 48 ∷ 32 ∷ 48 ∷ 32 ∷ 48 ∷ 32 ∷ 48 ∷ 32 ∷ 48 ∷ 10 ∷ []))
    -- aig 10 2 3 24 5 6 0 8\n, aag 7 1 0 1 0\n, and 7 1 0 1 0 0 0 0 9\n with no tag
    × (header_bytes (tag_of 105) (header 10 2 3 24 5 6 0 8 0)
    ≡ (97 ∷ 105 ∷ 103 ∷ 32 ∷ 49 ∷ 48 ∷ 32 ∷ 50 ∷ 32 ∷ 51 ∷ 32 ∷ 50 ∷ 52 ∷ 32 ∷ 53 ∷ 32 ∷ 54 ∷ 32 ∷ 48 ∷ 32 ∷ 56 ∷ 10 ∷ []))
    × (header_bytes (tag_of 97) (header 7 1 0 1 0 0 0 0 0) ≡ (97 ∷ 97 ∷ 103 ∷ 32 ∷ 55 ∷ 32 ∷ 49 ∷ 32 ∷ 48 ∷ 32 ∷ 49 ∷ 32 ∷ 48 ∷ 10 ∷ []))
    × (header_bytes [] (header 7 1 0 1 0 0 0 0 9) ≡ (32 ∷ 55 ∷ 32 ∷ 49 ∷ 32 ∷ 48 ∷ 32 ∷ 49 ∷ 32 ∷ 48 ∷ 32 ∷ 48 ∷ 32 ∷ 48 ∷ 32 ∷ 48 ∷ 32 ∷ 57 ∷ 10 ∷ []))
unfolding digits_of count_bytes after_tag
headers_pinned = (refl, refl, refl, refl, refl, refl, refl, refl, refl)

-- 4. The root section.

-- an output, two bad states, a constraint, two justice sets, two fairness literals
abbrev sample : Header
sample = header 50 11 12 1 13 2 1 2 2

pub roots_pinned :
    -- 30\n31\n32\n33\n, the sizes 2\n1\n, justice 6\n7\n8\n, fairness 29\n4\n
    (roots_bytes sample (roots_of (2 ∷ 1 ∷ []) (30 ∷ 31 ∷ 32 ∷ 33 ∷ 29 ∷ 4 ∷ 6 ∷ 7 ∷ 8 ∷ []))
    ≡ (51 ∷ 48 ∷ 10 ∷ 51 ∷ 49 ∷ 10 ∷ 51 ∷ 50 ∷ 10 ∷ 51 ∷ 51 ∷ 10 ∷ 50 ∷ 10 ∷ 49 ∷ 10 ∷ 54 ∷ 10 ∷ 55 ∷ 10 ∷ 56 ∷ 10 ∷ 50 ∷ 57 ∷ 10 ∷ 52 ∷ 10 ∷ []))
    -- a list that ends before justice, within fairness, within the bad states; no roots at all
    × (roots_bytes sample (roots_of (2 ∷ 1 ∷ []) (30 ∷ 31 ∷ 32 ∷ 33 ∷ 29 ∷ 4 ∷ []))
    ≡ (51 ∷ 48 ∷ 10 ∷ 51 ∷ 49 ∷ 10 ∷ 51 ∷ 50 ∷ 10 ∷ 51 ∷ 51 ∷ 10 ∷ 50 ∷ 10 ∷ 49 ∷ 10 ∷ 50 ∷ 57 ∷ 10 ∷ 52 ∷ 10 ∷ []))
    × (roots_bytes sample (roots_of (2 ∷ 1 ∷ []) (30 ∷ 31 ∷ 32 ∷ 33 ∷ 29 ∷ []))
    ≡ (51 ∷ 48 ∷ 10 ∷ 51 ∷ 49 ∷ 10 ∷ 51 ∷ 50 ∷ 10 ∷ 51 ∷ 51 ∷ 10 ∷ 50 ∷ 10 ∷ 49 ∷ 10 ∷ 50 ∷ 57 ∷ 10 ∷ []))
    × (roots_bytes sample (roots_of (2 ∷ 1 ∷ []) (30 ∷ 31 ∷ []))
    ≡ (51 ∷ 48 ∷ 10 ∷ 51 ∷ 49 ∷ 10 ∷ 50 ∷ 10 ∷ 49 ∷ 10 ∷ []))
    × (roots_bytes sample (roots_of (2 ∷ 1 ∷ []) [])
    ≡ (50 ∷ 10 ∷ 49 ∷ 10 ∷ []))
    -- no sizes
    × (roots_bytes sample (roots_of [] (30 ∷ 31 ∷ 32 ∷ 33 ∷ 29 ∷ 4 ∷ []))
    ≡ (51 ∷ 48 ∷ 10 ∷ 51 ∷ 49 ∷ 10 ∷ 51 ∷ 50 ∷ 10 ∷ 51 ∷ 51 ∷ 10 ∷ 50 ∷ 57 ∷ 10 ∷ 52 ∷ 10 ∷ []))
    -- justice alone, and fairness alone
    × (roots_bytes (header 50 0 0 0 0 0 0 3 0) (roots_of (1 ∷ 0 ∷ 2 ∷ []) (5 ∷ 9 ∷ 4 ∷ []))
    ≡ (49 ∷ 10 ∷ 48 ∷ 10 ∷ 50 ∷ 10 ∷ 53 ∷ 10 ∷ 57 ∷ 10 ∷ 52 ∷ 10 ∷ []))
    × (roots_bytes (header 50 0 0 0 0 0 0 0 2) (roots_of [] (5 ∷ 9 ∷ []))
    ≡ (53 ∷ 10 ∷ 57 ∷ 10 ∷ []))
unfolding digits_of line_bytes roots_bytes
roots_pinned = (refl, refl, refl, refl, refl, refl, refl, refl)
