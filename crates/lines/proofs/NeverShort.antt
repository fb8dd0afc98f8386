-- Refusal 3 comes of the tests of the lists alone: no byte, number, line or header is refused by it, and the root section is not where its root list has
-- as many cells as there may be roots. Assumes nothing.
use Prim.Native.Nat.{ℕ, zero, suc, ◌+◌, ◌-◌, ◌*◌, ◌≤◌}
use Rattle.std.specs.Prelude.{Ok, Err}
use mathlib.Core.Path.{◌≡◌, refl, ap}
use mathlib.Core.Bool.{Bool, true, false, cond}
use mathlib.Core.List.{List, [], ◌∷◌, ◌++◌}
use native.Mathlib.Omega.{arith}
use lib.Dec.{ltb}
use lib.ListN.{length}
use borrow.Author.Tests.{le-ltb, ltb-false}
use Rattle.token.specs.Answer.{Token, header_field_at}
use Rattle.circuit.specs.Circuit.{is_reset}
use Rattle.circuit.specs.Outcome.{limit, total}
use Rattle.lines.specs.declared.Fault.{Fault}
use Rattle.lines.specs.declared.Fault.TheVariants.{Number, Missing, Reset, TooMany, Short}
use Rattle.lines.specs.declared.Header.{Header}
use Rattle.lines.specs.Reading.{Read, got, no, ◌▸◌, row_at}
use Rattle.lines.specs.Lines.{is_byte, byte_at, newline_at, space_at, begins, tag_at, number_of, number_at, line_at, lines_at}
use Rattle.lines.specs.Lines.{latch_line, reset_line_at, reset_at, latch_at, latches_at}
use Rattle.lines.specs.Sections.{count_at, options_at, header_of, others_at, counts_at, header_at, roots_of, first_roots, root_count, root_room_at, properties_at, sizes_at, roots_at}

-- the reading is not refused by 3
abbrev pub Never : {A : Type 0} → Read A → Type 0
Never R = (place : ℕ) → R ≡ no Short place → ⊥

pub never_got : {A : Type 0} (a : A) (at : ℕ) → Never (got a at)
never_got a at place e = let z : ◌≡◌ {A = ℕ} 0 1 = cc in omega arith

-- a refusal for another reason
pub never_no : {A : Type 0} (why : Fault) (p : ℕ) → (why ≡ Short → ⊥) → Never {A = A} (no why p)
never_no why p other place e = let w : why ≡ Short = cc in other w

pub never_then : {A B : Type 0} (R : Read A) (f : A → ℕ → Read B) → Never R → ((a : A) (at : ℕ) → R ≡ got a at → Never (f a at)) → Never (R ▸ f)
never_then (got a at) f n m = m a at refl
never_then (no why p) f n m = never_no why p (λ w. n p (ap (λ (x : Fault). no x p) w))

pub never_row : {A : Type 0} (thing : ℕ → ℕ → Read A) → ((k at : ℕ) → Never (thing k at)) → (k n at : ℕ) → Never (row_at thing k n at)
never_row thing each k zero at = never_got [] at
never_row thing each k (suc n) at =
    never_then (thing k at) (λ a at₁. row_at thing (suc k) n at₁ ▸ λ rest at₂. got (a ∷ rest) at₂) (each k at)
    (λ a at₁ _. never_then (row_at thing (suc k) n at₁) (λ rest at₂. got (a ∷ rest) at₂) (never_row thing each (suc k) n at₁)
    (λ rest at₂ _. never_got (a ∷ rest) at₂))

-- bytes, numbers, lines

pub never_byte : (s : List ℕ) (b at : ℕ) → Never (byte_at s b at)
unfolding byte_at
never_byte s b at = go (is_byte s b at)
  where
    go : (t : Bool) → Never {A = Unit {0}} (cond t (got tt (at + 1)) (no Missing at))
    go true = never_got tt (at + 1)
    go false = never_no Missing at (λ w. let z : ◌≡◌ {A = ℕ} 0 1 = cc in omega arith)

pub never_token : (at : ℕ) (t : Token) → Never (number_of at t)
never_token at (Ok t) = never_got t.value (at + t.used)
never_token at (Err x) = never_no (Number x.why) x.place (λ w. let z : ◌≡◌ {A = ℕ} 0 1 = cc in omega arith)

never_number : (s : List ℕ) (most at : ℕ) → Never (number_at s most at)
unfolding number_at
never_number s most at = never_token at (header_field_at s at most)

never_line : (s : List ℕ) (most at : ℕ) → Never (line_at s most at)
unfolding line_at
never_line s most at =
    never_then (number_at s most at) (λ v at₁. newline_at s at₁ ▸ λ _ at₂. got v at₂) (never_number s most at)
    (λ v at₁ _. never_then (newline_at s at₁) (λ _ at₂. got v at₂) (never_byte s 10 at₁) (λ _ at₂ _. never_got v at₂))

never_lines : (s : List ℕ) (most n at : ℕ) → Never (lines_at s most n at)
unfolding lines_at
never_lines s most n at = never_row (λ k. line_at s most) (λ k. never_line s most) 0 n at

never_reset_line : (s : List ℕ) (most own at : ℕ) → Never (reset_line_at s most own at)
unfolding reset_line_at
never_reset_line s most own at =
    never_then (number_at s most at) (λ r at₁. cond (is_reset own r) (newline_at s at₁ ▸ λ _ at₂. got r at₂) (no Reset at)) (never_number s most at)
    (λ r at₁ _. go r at₁ (is_reset own r))
  where
    go : (r at₁ : ℕ) (t : Bool) → Never (cond t (newline_at s at₁ ▸ λ _ at₂. got r at₂) (no Reset at))
    go r at₁ true = never_then (newline_at s at₁) (λ _ at₂. got r at₂) (never_byte s 10 at₁) (λ _ at₂ _. never_got r at₂)
    go r at₁ false = never_no Reset at (λ w. let z : ◌≡◌ {A = ℕ} 0 1 = cc in omega arith)

never_reset : (s : List ℕ) (most own at : ℕ) → Never (reset_at s most own at)
unfolding reset_at
never_reset s most own at = go (is_byte s 32 at)
  where
    go : (t : Bool) → Never (cond t (space_at s at ▸ λ _ at₁. reset_line_at s most own at₁) (newline_at s at ▸ λ _ at₁. got 0 at₁))
    go true = never_then (space_at s at) (λ _ at₁. reset_line_at s most own at₁) (never_byte s 32 at) (λ _ at₁ _. never_reset_line s most own at₁)
    go false = never_then (newline_at s at) (λ _ at₁. got 0 at₁) (never_byte s 10 at) (λ _ at₁ _. never_got 0 at₁)

pub never_latch : (s : List ℕ) (most own at : ℕ) → Never (latch_at s most own at)
unfolding latch_at
never_latch s most own at =
    never_then (number_at s most at) (λ v at₁. reset_at s most own at₁ ▸ λ r at₂. got (latch_line v r) at₂) (never_number s most at)
    (λ v at₁ _. never_then (reset_at s most own at₁) (λ r at₂. got (latch_line v r) at₂) (never_reset s most own at₁)
    (λ r at₂ _. never_got (latch_line v r) at₂))

pub never_latches : (s : List ℕ) (most first n at : ℕ) → Never (latches_at s most first n at)
unfolding latches_at
never_latches s most first n at = never_row (λ k. latch_at s most (first + 2 * k)) (λ k. never_latch s most (first + 2 * k)) 0 n at

-- the header

pub never_count : (s : List ℕ) (most at : ℕ) → Never (count_at s most at)
unfolding count_at
never_count s most at = never_then (space_at s at) (λ _ at₁. number_at s most at₁) (never_byte s 32 at) (λ _ at₁ _. never_number s most at₁)

never_options : (s : List ℕ) (n at : ℕ) → Never (options_at s n at)
never_options s zero at = never_then (newline_at s at) (λ _ at₁. got [] at₁) (never_byte s 10 at) (λ _ at₁ _. never_got [] at₁)
never_options s (suc n) at = go (is_byte s 32 at) (never_options s n)
  where
    go : (t : Bool) → ((p : ℕ) → Never (options_at s n p))
        → Never (cond t (count_at s limit at ▸ λ v at₁. options_at s n at₁ ▸ λ vs at₂. got (v ∷ vs) at₂) (newline_at s at ▸ λ _ at₁. got [] at₁))
    go true rec =
        never_then (count_at s limit at) (λ v at₁. options_at s n at₁ ▸ λ vs at₂. got (v ∷ vs) at₂) (never_count s limit at)
        (λ v at₁ _. never_then (options_at s n at₁) (λ vs at₂. got (v ∷ vs) at₂) (rec at₁) (λ vs at₂ _. never_got (v ∷ vs) at₂))
    go false rec = never_then (newline_at s at) (λ _ at₁. got [] at₁) (never_byte s 10 at) (λ _ at₁ _. never_got [] at₁)

never_others : (s : List ℕ) (m i l at : ℕ) → Never (others_at s m i l at)
unfolding others_at
never_others s m i l at =
    never_then (count_at s limit at) (λ o p. count_at s (m - i - l) p ▸ λ a p₁. options_at s 4 p₁ ▸ λ more p₂. got (header_of m i l o a more) p₂)
    (never_count s limit at)
    (λ o p _. never_then (count_at s (m - i - l) p) (λ a p₁. options_at s 4 p₁ ▸ λ more p₂. got (header_of m i l o a more) p₂) (never_count s (m - i - l) p)
    (λ a p₁ _. never_then (options_at s 4 p₁) (λ more p₂. got (header_of m i l o a more) p₂) (never_options s 4 p₁)
    (λ more p₂ _. never_got (header_of m i l o a more) p₂)))

never_counts : (s : List ℕ) (at : ℕ) → Never (counts_at s at)
unfolding counts_at
never_counts s at =
    never_then (count_at s limit at) (λ m p. count_at s m p ▸ λ i p₁. count_at s (m - i) p₁ ▸ λ l p₂. others_at s m i l p₂) (never_count s limit at)
    (λ m p _. never_then (count_at s m p) (λ i p₁. count_at s (m - i) p₁ ▸ λ l p₂. others_at s m i l p₂) (never_count s m p)
    (λ i p₁ _. never_then (count_at s (m - i) p₁) (λ l p₂. others_at s m i l p₂) (never_count s (m - i) p₁) (λ l p₂ _. never_others s m i l p₂)))

never_tag : (s tag : List ℕ) → Never (tag_at s tag)
unfolding tag_at
never_tag s tag = go (begins tag s)
  where
    go : (t : Bool) → Never {A = Unit {0}} (cond t (got tt (length tag)) (no Missing 0))
    go true = never_got tt (length tag)
    go false = never_no Missing 0 (λ w. let z : ◌≡◌ {A = ℕ} 0 1 = cc in omega arith)

pub never_header : (s tag : List ℕ) → Never (header_at s tag)
unfolding header_at
never_header s tag = never_then (tag_at s tag) (λ _ at. counts_at s at) (never_tag s tag) (λ _ at _. never_counts s at)

-- the root section

never_room : (count room at : ℕ) → limit ≤ room → Never (root_room_at count room at)
unfolding root_room_at
never_room count room at long = go (ltb limit count) refl
  where
    go : (t : Bool) → ltb limit count ≡ t → Never {A = Unit {0}} (cond t (no TooMany at) (cond (ltb room count) (no Short at) (got tt at)))
    go true f = never_no TooMany at (λ w. let z : ◌≡◌ {A = ℕ} 0 1 = cc in omega arith)
    go false f = rw (le-ltb room count (omega (arith, ltb-false limit count f))) (never_got tt at)

module _ (s : List ℕ) (h : Header) (most room : ℕ) (long : limit ≤ room) where
  never_properties : (justice at : ℕ) → Never (properties_at s h most justice room at)
  unfolding properties_at
  never_properties justice at =
      never_then (root_room_at (root_count h justice) room at)
      (λ _ at₁. lines_at s most justice at₁ ▸ λ later at₂. lines_at s most h.fairness at₂ ▸ λ fairness at₃. got (fairness ++ later) at₃)
      (never_room (root_count h justice) room at long)
      (λ _ at₁ _. never_then (lines_at s most justice at₁) (λ later at₂. lines_at s most h.fairness at₂ ▸ λ fairness at₃. got (fairness ++ later) at₃)
      (never_lines s most justice at₁)
      (λ later at₂ _. never_then (lines_at s most h.fairness at₂) (λ fairness at₃. got (fairness ++ later) at₃) (never_lines s most h.fairness at₂)
      (λ fairness at₃ _. never_got (fairness ++ later) at₃)))

  never_sizes : (at : ℕ) → Never (sizes_at s h most room at)
  unfolding sizes_at
  never_sizes at =
      never_then (lines_at s limit h.justice at) (λ ss at₁. properties_at s h most (total ss) room at₁ ▸ λ others at₂. got (roots_of ss others) at₂)
      (never_lines s limit h.justice at)
      (λ ss at₁ _. never_then (properties_at s h most (total ss) room at₁) (λ others at₂. got (roots_of ss others) at₂) (never_properties (total ss) at₁)
      (λ others at₂ _. never_got (roots_of ss others) at₂))

  pub never_roots : (at : ℕ) → Never (roots_at s h most room at)
  unfolding roots_at
  never_roots at =
      never_then (lines_at s most (first_roots h) at)
      (λ first at₁. sizes_at s h most room at₁ ▸ λ rest at₂. got (roots_of rest.sizes (first ++ rest.roots)) at₂) (never_lines s most (first_roots h) at)
      (λ first at₁ _. never_then (sizes_at s h most room at₁) (λ rest at₂. got (roots_of rest.sizes (first ++ rest.roots)) at₂) (never_sizes at₁)
      (λ rest at₂ _. never_got (roots_of rest.sizes (first ++ rest.roots)) at₂))
