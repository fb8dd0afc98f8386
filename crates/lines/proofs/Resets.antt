-- What a latch's reset may be: 0, 1 or its own literal. Refusal 22 is exactly the rest, and resets that are read have no stray among them. Assumes nothing.
use Prim.Native.Nat.{ℕ, zero, suc, ◌+◌, ◌*◌, ◌≤◌, ◌<◌}
use Rattle.std.specs.Prelude.{Some, None, Ok, Err}
use mathlib.Core.Path.{◌≡◌, refl, sym, ap, ◌∙◌}
use mathlib.Core.Bool.{Bool, true, false, cond, ◌||◌}
use mathlib.Core.Logic.{◌↔◌}
use mathlib.Core.List.{List, ◌∷◌}
use native.Mathlib.Omega.{arith}
use lib.Dec.{leb, eqb}
use borrow.Author.Tests.{leb-false, ne_eqb}
use Rattle.circuit.specs.Circuit.{is_reset, first_stray}
use Rattle.circuit.specs.Ordered.{count_from}
use Rattle.circuit.specs.Claims.{IsReset}
use Rattle.circuit.proofs.Checks.{is_stray_lem}
use Rattle.token.specs.Answer.{Token, header_field_at}
use Rattle.lines.specs.declared.Fault.{Fault}
use Rattle.lines.specs.declared.Fault.TheVariants.{Missing, Reset}
use Rattle.lines.specs.Reading.{Read, got, no, ◌▸◌, row_at}
use Rattle.lines.specs.Lines.{is_byte, byte_at, space_at, newline_at, number_of, number_at, line_at}
use Rattle.lines.specs.Lines.{LatchLine, latch_line, resets_of, reset_line_at, reset_at, latch_at, latches_at, word_of}
use Rattle.lines.specs.Stray.{Stray}
use Rattle.lines.proofs.Answers.{byte-is}
use Rattle.lines.proofs.Heads.{two, got_same, number_within}

-- a line with a reset is a line with a number that may be one

pub line_reset : (s : List ℕ) (most own at r end : ℕ) → line_at s most at ≡ got r end → is_reset own r ≡ true → reset_line_at s most own at ≡ got r end
unfolding line_at reset_line_at
line_reset s most own at r end e may =
    let t = two (number_at s most at) (λ v at₁. newline_at s at₁ ▸ λ _ at₂. got v at₂) r end e in
    let u = two (newline_at s t.place) (λ _ at₂. got t.first at₂) r end t.then in
    let same : is_reset own t.first ≡ true = ap (is_reset own) (got_same u.then) ∙ may in
    rw (t.read, same) t.then

pub line_of_reset : (s : List ℕ) (most own at r end : ℕ) → reset_line_at s most own at ≡ got r end → (line_at s most at ≡ got r end) × (is_reset own r ≡ true)
unfolding line_at reset_line_at
line_of_reset s most own at r end e = go (number_at s most at) e
  where
    by : (v p : ℕ) (t : Bool) → is_reset own v ≡ t → cond t (newline_at s p ▸ λ _ at₂. got v at₂) (no Reset at) ≡ got r end
        → ((newline_at s p ▸ λ _ at₂. got v at₂) ≡ got r end) × (is_reset own r ≡ true)
    by v p true f g =
        let u = two (newline_at s p) (λ _ at₂. got v at₂) r end g in
        (g, ap (is_reset own) (sym (got_same u.then)) ∙ f)
    by v p false f g = absurd (let z : ◌≡◌ {A = ℕ} 0 1 = cc in omega arith)

    go : (R : Read ℕ) → (R ▸ λ v at₁. cond (is_reset own v) (newline_at s at₁ ▸ λ _ at₂. got v at₂) (no Reset at)) ≡ got r end
        → ((R ▸ λ v at₁. newline_at s at₁ ▸ λ _ at₂. got v at₂) ≡ got r end) × (is_reset own r ≡ true)
    go (got v p) f = by v p (is_reset own v) refl f
    go (no why p) f = absurd (let z : ◌≡◌ {A = ℕ} 0 1 = cc in omega arith)

-- a literal that is no word serves as 0: no number that is read is as large

word_serves : (n r : ℕ) → r ≤ 4294967295 → is_reset (word_of n) r ≡ is_reset n r
unfolding word_of
word_serves n r small = go (leb n 4294967295) refl
  where
    large : (t : Bool) → leb r 1 ≡ t → 4294967295 < n → (t || eqb r 0) ≡ (t || eqb r n)
    large true f h = refl
    large false f h =
        let some = leb-false r 1 f in
        ne_eqb r 0 (omega arith) ∙ sym (ne_eqb r n (omega arith))

    go : (t : Bool) → leb n 4294967295 ≡ t → is_reset (cond t n 0) r ≡ is_reset n r
    go true f = refl
    go false f = large (leb r 1) refl (leb-false n 4294967295 f)

module _ (s : List ℕ) (most n : ℕ) (small : most ≤ 4294967295) where
  reset_line_word : (at : ℕ) → reset_line_at s most (word_of n) at ≡ reset_line_at s most n at
  unfolding reset_line_at
  reset_line_word at = go (number_at s most at) refl
    where
      go : (R : Read ℕ) → number_at s most at ≡ R
          → (R ▸ λ r at₁. cond (is_reset (word_of n) r) (newline_at s at₁ ▸ λ _ at₂. got r at₂) (no Reset at))
          ≡ (R ▸ λ r at₁. cond (is_reset n r) (newline_at s at₁ ▸ λ _ at₂. got r at₂) (no Reset at))
      go (got r p) e =
          ap (λ (t : Bool). cond t (newline_at s p ▸ λ _ at₂. got r at₂) (no Reset at))
          (word_serves n r (omega (arith, number_within s most at r p e)))
      go (no why p) e = refl

  reset_word : (at : ℕ) → reset_at s most (word_of n) at ≡ reset_at s most n at
  unfolding reset_at
  reset_word at = go (is_byte s 32 at) (space_at s at)
    where
      go : (t : Bool) (R : Read (Unit {0})) → cond t (R ▸ λ _ at₁. reset_line_at s most (word_of n) at₁) (newline_at s at ▸ λ _ at₁. got 0 at₁)
          ≡ cond t (R ▸ λ _ at₁. reset_line_at s most n at₁) (newline_at s at ▸ λ _ at₁. got 0 at₁)
      go true (got u p) = reset_line_word p
      go true (no why p) = refl
      go false R = refl

  pub latch_word : (at : ℕ) → latch_at s most (word_of n) at ≡ latch_at s most n at
  unfolding latch_at
  latch_word at = go (number_at s most at)
    where
      go : (R : Read ℕ) → (R ▸ λ v at₁. reset_at s most (word_of n) at₁ ▸ λ r at₂. got (latch_line v r) at₂)
          ≡ (R ▸ λ v at₁. reset_at s most n at₁ ▸ λ r at₂. got (latch_line v r) at₂)
      go (got v p) = ap (λ (R : Read ℕ). R ▸ λ r at₂. got (latch_line v r) at₂) (reset_word p)
      go (no why p) = refl

-- the code's own literal serves for the one meant
pub own_serves : (s : List ℕ) (most own n at : ℕ) → most ≤ 4294967295 → own ≡ word_of n → latch_at s most n at ≡ latch_at s most own at
own_serves s most own n at small e = sym (ap (λ (o : ℕ). latch_at s most o at) e ∙ latch_word s most n small at)

-- resets that are read have no stray among them

reset_may : (s : List ℕ) (most own at r end : ℕ) → reset_at s most own at ≡ got r end → is_reset own r ≡ true
unfolding reset_at
reset_may s most own at r end e = go (is_byte s 32 at) e
  where
    go : (t : Bool) → cond t (space_at s at ▸ λ _ at₁. reset_line_at s most own at₁) (newline_at s at ▸ λ _ at₁. got 0 at₁) ≡ got r end → is_reset own r ≡ true
    go true f =
        let t = two (space_at s at) (λ _ at₁. reset_line_at s most own at₁) r end f in
        (line_of_reset s most own t.place r end t.then).1
    go false f =
        let t = two (newline_at s at) (λ _ at₁. got 0 at₁) r end f in
        ap (is_reset own) (sym (got_same t.then))

pub latch_may : (s : List ℕ) (most own at : ℕ) (l : LatchLine) (end : ℕ) → latch_at s most own at ≡ got l end → is_reset own l.reset ≡ true
unfolding latch_at
latch_may s most own at l end e =
    let t = two (number_at s most at) (λ v at₁. reset_at s most own at₁ ▸ λ r at₂. got (latch_line v r) at₂) l end e in
    let u = two (reset_at s most own t.place) (λ r at₂. got (latch_line t.first r) at₂) l end t.then in
    ap (λ (x : LatchLine). is_reset own x.reset) (sym (got_same u.then)) ∙ reset_may s most own t.place u.first u.place u.read

row_no_stray : (s : List ℕ) (most first k n at : ℕ) (ls : List LatchLine) (end : ℕ) → row_at (λ j. latch_at s most (first + 2 * j)) k n at ≡ got ls end
    → first_stray (count_from (first + 2 * k) n) (resets_of ls) ≡ None
row_no_stray s most first k zero at ls end e = refl
row_no_stray s most first k (suc n) at ls end e =
    let t =
    two (latch_at s most (first + 2 * k) at) (λ l at₁. row_at (λ j. latch_at s most (first + 2 * j)) (suc k) n at₁ ▸ λ rest at₂. got (l ∷ rest) at₂) ls end e in
    let u = two (row_at (λ j. latch_at s most (first + 2 * j)) (suc k) n t.place) (λ rest at₂. got (t.first ∷ rest) at₂) ls end t.then in
    let rest = row_no_stray s most first (suc k) n t.place u.first u.place u.read in
    let later : first + 2 * suc k ≡ first + 2 * k + 2 = omega arith in
    let may = latch_may s most (first + 2 * k) at t.first t.place t.read in
    ap (λ (x : List LatchLine). first_stray (count_from (first + 2 * k) (suc n)) (resets_of x)) (sym (got_same u.then))
    ∙ ap (λ (b : Bool). cond b (first_stray (count_from (first + 2 * k + 2) n) (resets_of u.first)) (Some t.first.reset)) may
    ∙ ap (λ (c : ℕ). first_stray (count_from c n) (resets_of u.first)) (sym later) ∙ rest

pub latches_no_stray : (s : List ℕ) (most first n at : ℕ) (ls : List LatchLine) (end : ℕ) → latches_at s most first n at ≡ got ls end
    → first_stray (count_from first n) (resets_of ls) ≡ None
unfolding latches_at
latches_no_stray s most first n at ls end e =
    let zeroth : first + 2 * 0 ≡ first = omega arith in
    ap (λ (c : ℕ). first_stray (count_from c n) (resets_of ls)) (sym zeroth) ∙ row_no_stray s most first 0 n at ls end e

-- a line is refused by 22 exactly where its reset is a stray

-- bytes and numbers have other refusals
number_other : (s : List ℕ) (most at place : ℕ) → number_at s most at ≡ no Reset place → ⊥
unfolding number_at
number_other s most at place e = go (header_field_at s at most) e
  where
    go : (t : Token) → number_of at t ≡ no Reset place → ⊥
    go (Ok t) f = let z : ◌≡◌ {A = ℕ} 0 1 = cc in omega arith
    go (Err x) f = let z : ◌≡◌ {A = ℕ} 0 1 = cc in omega arith

byte_other : {A : Type 0} (a : A) (s : List ℕ) (b at place : ℕ) → (byte_at s b at ▸ λ _ at₁. got a at₁) ≡ no Reset place → ⊥
unfolding byte_at
byte_other {A} a s b at place e = go (is_byte s b at) e
  where
    go : (t : Bool) → (◌▸◌ {A = Unit {0}} {B = A} (cond t (got tt (at + 1)) (no Missing at)) (λ _ at₁. got a at₁)) ≡ no Reset place → ⊥
    go true f = let z : ◌≡◌ {A = ℕ} 0 1 = cc in omega arith
    go false f = let z : ◌≡◌ {A = ℕ} 0 1 = cc in omega arith

module _ (s : List ℕ) (most own : ℕ) where
  line_refused : (at place : ℕ) → reset_line_at s most own at ≡ no Reset place
      → (r : ℕ) × (after : ℕ) × (number_at s most at ≡ got r after) × (place ≡ at) × (IsReset own r → ⊥)
  unfolding reset_line_at
  line_refused at place e = go (number_at s most at) refl e
    where
      by : (r p : ℕ) → number_at s most at ≡ got r p → (t : Bool) → is_reset own r ≡ t
          → cond t (newline_at s p ▸ λ _ at₂. got r at₂) (no Reset at) ≡ no Reset place
          → (x : ℕ) × (after : ℕ) × (number_at s most at ≡ got x after) × (place ≡ at) × (IsReset own x → ⊥)
      by r p f true g h = absurd (byte_other r s 10 p place h)
      by r p f false g h = let there : place ≡ at = cc in (r, p, f, there, (is_stray_lem own r).0 g)

      go : (R : Read ℕ) → number_at s most at ≡ R
          → (R ▸ λ r at₁. cond (is_reset own r) (newline_at s at₁ ▸ λ _ at₂. got r at₂) (no Reset at)) ≡ no Reset place
          → (x : ℕ) × (after : ℕ) × (number_at s most at ≡ got x after) × (place ≡ at) × (IsReset own x → ⊥)
      go (got r p) f g = by r p f (is_reset own r) refl g
      go (no why p) f g = absurd (number_other s most at place (f ∙ g))

  rest_refused : (at place : ℕ) → reset_at s most own at ≡ no Reset place → (is_byte s 32 at ≡ true) × (reset_line_at s most own (at + 1) ≡ no Reset place)
  unfolding reset_at
  rest_refused at place e = go (is_byte s 32 at) refl e
    where
      go : (t : Bool) → is_byte s 32 at ≡ t
          → cond t (space_at s at ▸ λ _ at₁. reset_line_at s most own at₁) (newline_at s at ▸ λ _ at₁. got 0 at₁) ≡ no Reset place
          → (t ≡ true) × (reset_line_at s most own (at + 1) ≡ no Reset place)
      go true f g = (refl, sym (ap (λ (R : Read (Unit {0})). R ▸ λ _ at₁. reset_line_at s most own at₁) (byte-is s 32 at f)) ∙ g)
      go false f g = absurd (byte_other 0 s 10 at place g)

  refused_stray : (at place : ℕ) → latch_at s most own at ≡ no Reset place → Stray s most own at place
  unfolding latch_at
  refused_stray at place e = go (number_at s most at) refl e
    where
      made : (v p : ℕ) → number_at s most at ≡ got v p → reset_at s most own p ≡ no Reset place → Stray s most own at place
      made v p f g =
          let rest = rest_refused p place g in
          let (r, after, field, there, stray) = line_refused (p + 1) place rest.1 in
          record {
            next = v;
            space = p;
            reset = r;
            after = after;
            number = f;
            spaced = rest.0;
            behind = there;
            field = ap (number_at s most) there ∙ field;
            stray = stray;
          }

      same : (v : ℕ) (R : Read ℕ) → (R ▸ λ r at₂. got (latch_line v r) at₂) ≡ no Reset place → R ≡ no Reset place
      same v (got r p) f = absurd (let z : ◌≡◌ {A = ℕ} 0 1 = cc in omega arith)
      same v (no why p) f = let a : why ≡ Reset = cc in let b : p ≡ place = cc in ap (λ (x : Fault). no x p) a ∙ ap (no Reset) b

      go : (R : Read ℕ) → number_at s most at ≡ R → (R ▸ λ v at₁. reset_at s most own at₁ ▸ λ r at₂. got (latch_line v r) at₂) ≡ no Reset place
          → Stray s most own at place
      go (got v p) f g = made v p f (same v (reset_at s most own p) g)
      go (no why p) f g =
          let a : why ≡ Reset = cc in
          absurd (number_other s most at p (f ∙ ap (λ (x : Fault). no x p) a))

  stray_refused : (at place : ℕ) → Stray s most own at place → latch_at s most own at ≡ no Reset place
  unfolding latch_at reset_at reset_line_at
  stray_refused at place t =
      let field : number_at s most (t.space + 1) ≡ got t.reset t.after = ap (number_at s most) (sym t.behind) ∙ t.field in
      rw (t.number, t.spaced, byte-is s 32 t.space t.spaced, field, (is_stray_lem own t.reset).1 t.stray) (ap (no Reset) (sym t.behind))

  pub stray_exactly : (at place : ℕ) → (latch_at s most own at ≡ no Reset place) ↔ Stray s most own at place
  stray_exactly at place = (refused_stray at place, stray_refused at place)
