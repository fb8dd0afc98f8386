-- The theorems of the writer of text. Assumes nothing.
use mathlib.Core.Path.{◌≡◌, refl, sym, ap, ◌∙◌}
use mathlib.Core.List.{List, [], ◌∷◌, ◌++◌}
use Prim.Native.Nat.{ℕ, ◌+◌, ◌-◌, ◌^◌, ◌≤◌, ◌<◌}
use native.Mathlib.Omega.{arith}
use lib.ListN.{length, take, drop}
use lib.Seq.{length-take-le, take-append_seam}
use Rattle.promise.specs.Determined.{DeterminesCells}
use Rattle.place.specs.Place.{last, further}
use Rattle.token.specs.Format.{leading, is_digit, digits_of, shortest}
use Rattle.token.specs.Answer.{value, uint_at, binary_at}
use Rattle.token.proofs.Theorems.{decimal_reads_back, shortest_reads_back}
use Rattle.text.specs.Put.{put_all}
use Rattle.text.proofs.Puts as puts
use Rattle.text.proofs.put.Kinds as put-kinds
use Rattle.text.proofs.put.Reads as put-contract
use Rattle.text.proofs.put_bytes.Kinds as put-bytes-kinds
use Rattle.text.proofs.put_bytes.Reads as put-bytes-contract
use Rattle.text.proofs.put_decimal.Kinds as put-decimal-kinds
use Rattle.text.proofs.put_decimal.Reads as put-decimal-contract
use Rattle.text.proofs.put_groups.Kinds as put-groups-kinds
use Rattle.text.proofs.put_groups.Reads as put-groups-contract

-- 1. Each contract determines the place answered and every lent byte afterwards.

pub one_put : DeterminesCells 1 put-kinds.ps put-kinds.r put-contract.Learnt (λ κs e. e.0.now)
one_put κs a x y e f p q = (p.1 ∙ sym q.1, p.0 ∙ sym q.0)

pub one_put_bytes : DeterminesCells 2 put-bytes-kinds.ps put-bytes-kinds.r put-bytes-contract.Learnt (λ κs e. e.0.now)
one_put_bytes κs a x y e f p q = (p.1 ∙ sym q.1, p.0 ∙ sym q.0)

pub one_put_decimal : DeterminesCells 1 put-decimal-kinds.ps put-decimal-kinds.r put-decimal-contract.Learnt (λ κs e. e.0.now)
one_put_decimal κs a x y e f p q = (p.1 ∙ sym q.1, p.0 ∙ sym q.0)

pub one_put_groups : DeterminesCells 1 put-groups-kinds.ps put-groups-kinds.r put-groups-contract.Learnt (λ κs e. e.0.now)
one_put_groups κs a x y e f p q = (p.1 ∙ sym q.1, p.0 ∙ sym q.0)

-- 2. What is left in the lent bytes: those of the text that fit, and around them what was there.

pub length_kept : (out : List ℕ) (at : ℕ) (bs : List ℕ) → length (put_all out at bs) ≡ length out
length_kept = puts.length_put_all

pub text_put : (out : List ℕ) (at : ℕ) (bs : List ℕ) → at ≤ length out
    → put_all out at bs ≡ take at out ++ (take (length out - at) bs ++ drop (at + length bs) out)
text_put = puts.put_all_is

pub past_the_end : (out : List ℕ) (at : ℕ) (bs : List ℕ) → length out ≤ at → put_all out at bs ≡ out
past_the_end = puts.put_all_past

-- a text that fits, put from the start: the lent bytes begin with it, whole
pub front_is_text : (out bs : List ℕ) → length bs ≤ length out → take (length bs) (put_all out 0 bs) ≡ bs
front_is_text out bs fits =
    ap (take (length bs)) (puts.put_all_fits out 0 bs (omega arith)) ∙ take-append_seam bs (drop (0 + length bs) out)

-- one text after the other, at the place that the first answered, is both in a row, and answers the place after both
pub in_a_row : (out : List ℕ) (at : ℕ) (bs cs : List ℕ) → length out ≤ last
    → (put_all (put_all out at bs) (further at (length bs)) cs ≡ put_all out at (bs ++ cs))
    × (further (further at (length bs)) (length cs) ≡ further at (length (bs ++ cs)))
in_a_row out at bs cs short = (puts.put_all_on out at bs cs short, puts.place_on at bs cs)

-- 3. Measuring: with no room nothing is stored, and from the start the place answered is the text's length.

pub measured : (bs : List ℕ) → length bs ≤ last → (put_all [] 0 bs ≡ []) × (further 0 (length bs) ≡ length bs)
measured bs short = (puts.put_all_past [] 0 bs (omega arith), omega arith)

-- 4. What is printed reads back where it fitted: a decimal if no digit stands after it, groups whatever stands there.

pub printed_reads_back : (out : List ℕ) (at v : ℕ) → v < 2 ^ 64 → at + length (digits_of v) ≤ length out
    → leading is_digit (drop (at + length (digits_of v)) out) ≡ 0
    → uint_at (put_all out at (digits_of v)) at ≡ value v (length (digits_of v))
printed_reads_back out at v fits room stop =
    let before : length (take at out) ≡ at = length-take-le at out (omega arith) in
    ap (λ (l : List ℕ). uint_at l at) (puts.put_all_fits out at (digits_of v) room)
    ∙ ap (uint_at (take at out ++ (digits_of v ++ drop (at + length (digits_of v)) out))) (sym before)
    ∙ decimal_reads_back v fits (take at out) (drop (at + length (digits_of v)) out) stop

pub groups_read_back : (out : List ℕ) (at d : ℕ) → d < 2 ^ 56 → at + length (shortest d) ≤ length out
    → binary_at (put_all out at (shortest d)) at ≡ value d (length (shortest d))
groups_read_back out at d fits room =
    let before : length (take at out) ≡ at = length-take-le at out (omega arith) in
    ap (λ (l : List ℕ). binary_at l at) (puts.put_all_fits out at (shortest d) room)
    ∙ ap (binary_at (take at out ++ (shortest d ++ drop (at + length (shortest d)) out))) (sym before)
    ∙ shortest_reads_back d fits (take at out) (drop (at + length (shortest d)) out)

-- 5. Examples: `42` where there is room, where there is room for one byte, and where there is none; 0, and the largest number.
pub told :
    (put_all (0 ∷ 1 ∷ 2 ∷ 3 ∷ []) 1 (digits_of 42) ≡ 0 ∷ 52 ∷ 50 ∷ 3 ∷ [])
    × (put_all (0 ∷ 1 ∷ []) 1 (digits_of 42) ≡ 0 ∷ 52 ∷ [])
    × (put_all (0 ∷ 1 ∷ []) 2 (digits_of 42) ≡ 0 ∷ 1 ∷ [])
    × (digits_of 0 ≡ 48 ∷ [])
    × (digits_of 18446744073709551615 ≡ 49 ∷ 56 ∷ 52 ∷ 52 ∷ 54 ∷ 55 ∷ 52 ∷ 52 ∷ 48 ∷ 55 ∷ 51 ∷ 55 ∷ 48 ∷ 57 ∷ 53 ∷ 53 ∷ 49 ∷ 54 ∷ 49 ∷ 53 ∷ [])
unfolding digits_of
told = (refl, refl, refl, refl, refl)

-- groups: each number up to which so many bytes do, and the next; the largest of 32 bits; 300 where there is room, for one byte of it, and none
pub groups_told :
    (shortest 0 ≡ 0 ∷ [])
    × (shortest 127 ≡ 127 ∷ [])
    × (shortest 128 ≡ 128 ∷ 1 ∷ [])
    × (shortest 16383 ≡ 255 ∷ 127 ∷ [])
    × (shortest 16384 ≡ 128 ∷ 128 ∷ 1 ∷ [])
    × (shortest 2097151 ≡ 255 ∷ 255 ∷ 127 ∷ [])
    × (shortest 2097152 ≡ 128 ∷ 128 ∷ 128 ∷ 1 ∷ [])
    × (shortest 4294967295 ≡ 255 ∷ 255 ∷ 255 ∷ 255 ∷ 15 ∷ [])
    × (put_all (0 ∷ 1 ∷ 2 ∷ 3 ∷ []) 1 (shortest 300) ≡ 0 ∷ 172 ∷ 2 ∷ 3 ∷ [])
    × (put_all (0 ∷ 1 ∷ []) 1 (shortest 300) ≡ 0 ∷ 172 ∷ [])
    × (put_all (0 ∷ 1 ∷ []) 2 (shortest 300) ≡ 0 ∷ 1 ∷ [])
unfolding shortest
groups_told = (refl, refl, refl, refl, refl, refl, refl, refl, refl, refl, refl)
