-- The numbers of a line read back: each is a decimal with a byte after it that is no digit. Assumes nothing.
use Prim.Native.Nat.{ℕ, ◌+◌, ◌^◌, ◌<◌}
use mathlib.Core.Path.{◌≡◌, refl, sym, ap, ◌∙◌}
use mathlib.Core.Bool.{false}
use mathlib.Core.List.{List, [], ◌∷◌, ◌++◌, append-nil, append_assoc}
use native.Mathlib.Omega.{arith}
use lib.ListN.{length, length-append}
use Rattle.token.specs.Format.{is_digit, digits_of}
use Rattle.token.specs.Answer.{value, uint_at}
use Rattle.token.proofs.Theorems.{decimal_reads_back}
use Rattle.sheet_lines.specs.Lines.{spaced, ended, ordered_word, refused_word, refused_line, ordered_line}

number_reads : (v b : ℕ) → v < 2 ^ 64 → is_digit b ≡ false → (before after : List ℕ)
    → uint_at (before ++ ((digits_of v ++ (b ∷ [])) ++ after)) (length before) ≡ value v (length (digits_of v))
number_reads v b small stop before after =
    ap (λ (l : List ℕ). uint_at (before ++ l) (length before)) (append_assoc (digits_of v) (b ∷ []) after)
    ∙ decimal_reads_back v small before (b ∷ after) (rw stop)

pub spaced_reads : (v : ℕ) → v < 2 ^ 64 → (before after : List ℕ) → uint_at (before ++ (spaced v ++ after)) (length before) ≡ value v (length (digits_of v))
spaced_reads v small before after = number_reads v 32 small refl before after

pub ended_reads : (v : ℕ) → v < 2 ^ 64 → (before after : List ℕ) → uint_at (before ++ (ended v ++ after)) (length before) ≡ value v (length (digits_of v))
ended_reads v small before after = number_reads v 10 small refl before after

-- the same, where the place and the text are otherwise said
at_place : (s before : List ℕ) (rest : List ℕ) (place v n : ℕ) → s ≡ before ++ rest → place ≡ length before
    → uint_at (before ++ rest) (length before) ≡ value v n → uint_at s place ≡ value v n
at_place s before rest place v n e f k = ap (λ (l : List ℕ). uint_at l place) e ∙ ap (uint_at (before ++ rest)) f ∙ k

pub refused_reads : (n k : ℕ) → n < 2 ^ 64 → k < 2 ^ 64
    → (uint_at (refused_line n k) 8 ≡ value n (length (digits_of n))) × (uint_at (refused_line n k) (8 + length (spaced n)) ≡ value k (length (digits_of k)))
unfolding refused_line
refused_reads n k p q = (
  spaced_reads n p refused_word (ended k),
  at_place (refused_word ++ (spaced n ++ ended k)) (refused_word ++ spaced n) (ended k ++ []) (8 + length (spaced n)) k (length (digits_of k))
      (ap (λ (l : List ℕ). refused_word ++ (spaced n ++ l)) (sym (append-nil (ended k))) ∙ sym (append_assoc refused_word (spaced n) (ended k ++ [])))
      (sym (length-append refused_word (spaced n))) (ended_reads k q (refused_word ++ spaced n) []),
)

pub ordered_reads : (t i l g : ℕ) → t < 2 ^ 64 → i < 2 ^ 64 → l < 2 ^ 64 → g < 2 ^ 64 → (after : List ℕ)
    → (uint_at (ordered_line t i l g ++ after) 8 ≡ value t (length (digits_of t)))
    × (uint_at (ordered_line t i l g ++ after) (8 + length (spaced t)) ≡ value i (length (digits_of i)))
    × (uint_at (ordered_line t i l g ++ after) (8 + length (spaced t) + length (spaced i)) ≡ value l (length (digits_of l)))
    × (uint_at (ordered_line t i l g ++ after) (8 + length (spaced t) + length (spaced i) + length (spaced l)) ≡ value g (length (digits_of g)))
unfolding ordered_line
ordered_reads t i l g p q r u after = (
  at_place _ ordered_word (spaced t ++ (spaced i ++ (spaced l ++ (ended g ++ after)))) 8 t (length (digits_of t)) (simp append_assoc) refl
      (spaced_reads t p ordered_word (spaced i ++ (spaced l ++ (ended g ++ after)))),
  at_place _ (ordered_word ++ spaced t) (spaced i ++ (spaced l ++ (ended g ++ after))) (8 + length (spaced t)) i (length (digits_of i)) (simp append_assoc)
      (sym (length-append ordered_word (spaced t))) (spaced_reads i q (ordered_word ++ spaced t) (spaced l ++ (ended g ++ after))),
  at_place _ ((ordered_word ++ spaced t) ++ spaced i) (spaced l ++ (ended g ++ after)) (8 + length (spaced t) + length (spaced i)) l
      (length (digits_of l)) (simp append_assoc)
      (omega (arith, length-append (ordered_word ++ spaced t) (spaced i), length-append ordered_word (spaced t)))
      (spaced_reads l r ((ordered_word ++ spaced t) ++ spaced i) (ended g ++ after)),
  at_place _ (((ordered_word ++ spaced t) ++ spaced i) ++ spaced l) (ended g ++ after) (8 + length (spaced t) + length (spaced i) + length (spaced l))
      g (length (digits_of g)) (simp append_assoc)
      (omega (
        arith,
        length-append ((ordered_word ++ spaced t) ++ spaced i) (spaced l),
        length-append (ordered_word ++ spaced t) (spaced i),
        length-append ordered_word (spaced t),
      ))
      (ended_reads g u (((ordered_word ++ spaced t) ++ spaced i) ++ spaced l) after),
)
