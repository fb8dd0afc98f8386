-- Which refusals reading what both forms of a file share can come to, and where. A file is read forward, so each comes of one of its parts: a decimal number,
-- a byte, the room for the roots. What a part reads stands within the bytes, so no place is past their end. Assumes nothing.
use Prim.Native.Nat.{ℕ, zero, suc, ◌+◌, ◌-◌, ◌≤◌}
use mathlib.Core.Path.{◌≡◌, refl}
use mathlib.Core.Bool.{Bool, true, false, cond, ◌&&◌}
use mathlib.Core.List.{List, [], ◌∷◌, ◌++◌}
use native.Mathlib.Omega.{arith}
use lib.Dec.{ltb, leb, eqb}
use lib.ListN.{length, get_or, take, drop}
use borrow.Author.Tests.{ltb-true}
use Rattle.token.specs.Format.{decimal_value}
use Rattle.std.specs.Prelude.{Ok, Err}
use Rattle.token.specs.Answer.{Token, value, refused, digits_at, uint_at, uint_of, within, header_field_at}
use Rattle.token.specs.declared.Reason.TheVariants.{NoDigit, LeadingZero, OverWidth, OverLimit}
use Rattle.token.specs.declared.Number.{Number}
use Rattle.token.specs.Claims.{NamesPlace}
use Rattle.token.proofs.Refusals.{header_field_place}
use Rattle.circuit.specs.Circuit.{is_reset}
use Rattle.circuit.specs.Outcome.{limit, total}
use Rattle.lines.specs.declared.Fault.{Fault}
use Rattle.lines.specs.declared.Fault.TheVariants as F
use Rattle.lines.specs.declared.Fault.TheVariants.{Missing, TooMany, Short, Reset}
use Rattle.lines.specs.declared.Header.{Header}
use Rattle.lines.specs.Reading.{Read, got, no, ◌▸◌, row_at}
use Rattle.lines.specs.Lines.{is_byte, byte_at, space_at, newline_at, begins, tag_at, number_of, number_at, line_at, lines_at, latch_line, reset_line_at, reset_at, latch_at}
use Rattle.lines.specs.Sections.{count_at, options_at, header_of, others_at, counts_at, header_at}
use Rattle.lines.specs.Sections.{first_roots, root_count, root_room_at, properties_at, sizes_at, roots_of, roots_at}
use Rattle.lines.proofs.Answers.{number_held}

-- a reading ends within the bytes s, and is refused, if at all, for a reason that P has
abbrev pub Only : {A : Type 0} → List ℕ → (Fault → Type 0) → Read A → Type 0
Only s P (got a at) = at ≤ length s
Only s P (no why place) = P why × (place ≤ length s)

-- the same of a token's refusal
abbrev pub OnlyToken : (Fault → Type 0) → Token → Type 0
OnlyToken P (Ok t) = Unit {0}
OnlyToken P (Err e) = P (F.Number e.why)

-- P has every reason that a file of either form may be refused for
pub record Has (P : Fault → Type 0) : Type 0 where
  pub no_digit : P (F.Number NoDigit)
  pub leading_zero : P (F.Number LeadingZero)
  pub over_width : P (F.Number OverWidth)
  pub over-limit : P (F.Number OverLimit)
  pub missing : P Missing
  pub too_many : P TooMany
  pub short : P Short
  pub reset : P Reset

module _ (s : List ℕ) (P : Fault → Type 0) where
  -- steps

  abbrev pub Ends : {A : Type 0} → Read A → Type 0
  Ends R = Only s P R

  pub then : {A B : Type 0} (R : Read A) (f : A → ℕ → Read B) → Ends R → ((a : A) (at : ℕ) → R ≡ got a at → at ≤ length s → Ends (f a at)) → Ends (R ▸ f)
  then (got a at) f h k = k a at refl h
  then (no why place) f h k = h

  pub if : {A : Type 0} (b : Bool) (R S : Read A) → (b ≡ true → Ends R) → (b ≡ false → Ends S) → Ends (cond b R S)
  if true R S h k = h refl
  if false R S h k = k refl

  pub row : {A : Type 0} (thing : ℕ → ℕ → Read A) → ((k at : ℕ) → at ≤ length s → Ends (thing k at)) → (k n at : ℕ) → at ≤ length s → Ends (row_at thing k n at)
  row thing h k zero at i = i
  row thing h k (suc n) at i =
      then (thing k at) (λ a at₁. row_at thing (suc k) n at₁ ▸ λ rest at₂. got (a ∷ rest) at₂) (h k at i)
      (λ a at₁ _ i₁. then (row_at thing (suc k) n at₁) (λ rest at₂. got (a ∷ rest) at₂) (row thing h (suc k) n at₁ i₁) (λ rest at₂ _ i₂. i₂))

  -- what is known of a refusal, and of what is read

  pub only_refused : {A : Type 0} (R : Read A) (why : Fault) (place : ℕ) → Ends R → R ≡ no why place → P why × (place ≤ length s)
  only_refused (got a at) why place h e = absurd (let z : ◌≡◌ {A = ℕ} 0 1 = cc in omega arith)
  only_refused (no w at) why place h e = let same : w ≡ why = cc in let here : at ≡ place = cc in (rw (← same) h.0, omega (arith, h.1, here))

  pub only_taken : {A : Type 0} (R : Read A) (a : A) (n : ℕ) → Ends R → R ≡ got a n → n ≤ length s
  only_taken (got b at) a n h e = let here : at ≡ n = cc in omega (arith, h, here)
  only_taken (no w at) a n h e = absurd (let z : ◌≡◌ {A = ℕ} 0 1 = cc in omega arith)

  -- tokens

  pub number_of_lem : (at : ℕ) (t : Token) → at ≤ length s → OnlyToken P t → NamesPlace at t → ((n : Number) → t ≡ Ok n → at + n.used ≤ length s)
      → Ends (number_of at t)
  number_of_lem at (Ok n) i h p inside = inside n refl
  number_of_lem at (Err e) i h p inside = (h, omega (arith, i, p))

  module _ (has : Has P) where
    digits : (n d v at : ℕ) → OnlyToken P (uint_of n d v at)
    digits n d v at = go (eqb n 0) (leb 2 n && eqb d 48) (ltb v 18446744073709551616)
      where
        go : (a b c : Bool) → OnlyToken P (cond a (refused NoDigit at) (cond b (refused LeadingZero at) (cond c (value v n) (refused OverWidth at))))
        go true b c = has.no_digit
        go false true c = has.leading_zero
        go false false true = tt
        go false false false = has.over_width

    pub uint : (at : ℕ) → OnlyToken P (uint_at s at)
    unfolding uint_at
    uint at = let n = digits_at s at in digits n (get_or s at 0) (decimal_value (take n (drop at s))) at

    pub held : (most at : ℕ) (t : Token) → OnlyToken P t → OnlyToken P (within most at t)
    held most at (Ok t) h = go (leb t.value most)
      where
        go : (b : Bool) → OnlyToken P (cond b (Ok t) (refused OverLimit at))
        go true = tt
        go false = has.over-limit
    held most at (Err e) h = h

    -- numbers, bytes and lines

    number_only : (most at : ℕ) → OnlyToken P (header_field_at s at most)
    unfolding header_field_at uint_at
    number_only most at = held most at (uint_at s at) (uint at)

    number : (most at : ℕ) → at ≤ length s → Ends (number_at s most at)
    unfolding number_at
    number most at i =
        number_of_lem at (header_field_at s at most) i (number_only most at) (header_field_place s at most) (λ n e. (number_held s most at n e).inside)

    pub byte : (b at : ℕ) → at ≤ length s → Ends (byte_at s b at)
    unfolding byte_at is_byte
    byte b at i = go (ltb at (length s)) (eqb (get_or s at 0) b) refl
      where
        go : (x y : Bool) → ltb at (length s) ≡ x → Ends {A = Unit {0}} (cond (x && y) (got tt (at + 1)) (no Missing at))
        go true true e = let less = ltb-true at (length s) e in omega arith
        go true false e = (has.missing, i)
        go false y e = (has.missing, i)

    pub line-end : {A : Type 0} (a : A) (at : ℕ) → at ≤ length s → Ends (newline_at s at ▸ λ _ at₁. got a at₁)
    line-end a at i = then (newline_at s at) (λ _ at₁. got a at₁) (byte 10 at i) (λ _ at₁ _ i₁. i₁)

    line : (most at : ℕ) → at ≤ length s → Ends (line_at s most at)
    unfolding line_at
    line most at i =
        then (number_at s most at) (λ v at₁. newline_at s at₁ ▸ λ _ at₂. got v at₂) (number most at i) (λ v at₁ _ i₁. line-end v at₁ i₁)

    lines : (most n at : ℕ) → at ≤ length s → Ends (lines_at s most n at)
    unfolding lines_at
    lines most n at i = row (λ k. line_at s most) (λ k at₁ i₁. line most at₁ i₁) 0 n at i

    reset_line_lem : (most own at : ℕ) → at ≤ length s → Ends (reset_line_at s most own at)
    unfolding reset_line_at
    reset_line_lem most own at i =
        then (number_at s most at) (λ reset at₁. cond (is_reset own reset) (newline_at s at₁ ▸ λ _ at₂. got reset at₂) (no Reset at)) (number most at i)
        (λ reset at₁ _ i₁. if (is_reset own reset) (newline_at s at₁ ▸ λ _ at₂. got reset at₂) (no Reset at)
        (λ _. line-end reset at₁ i₁) (λ _. (has.reset, i)))

    reset : (most own at : ℕ) → at ≤ length s → Ends (reset_at s most own at)
    unfolding reset_at
    reset most own at i =
        if (is_byte s 32 at) (space_at s at ▸ λ _ at₁. reset_line_at s most own at₁) (newline_at s at ▸ λ _ at₁. got 0 at₁)
        (λ _. then (space_at s at) (λ _ at₁. reset_line_at s most own at₁) (byte 32 at i) (λ _ at₁ _ i₁. reset_line_lem most own at₁ i₁))
        (λ _. line-end 0 at i)

    pub latch : (most own at : ℕ) → at ≤ length s → Ends (latch_at s most own at)
    unfolding latch_at
    latch most own at i =
        then (number_at s most at) (λ next at₁. reset_at s most own at₁ ▸ λ reset at₂. got (latch_line next reset) at₂) (number most at i)
        (λ next at₁ _ i₁. then (reset_at s most own at₁) (λ reset at₂. got (latch_line next reset) at₂) (reset most own at₁ i₁) (λ _ at₂ _ i₂. i₂))

    -- the header

    pub count : (most at : ℕ) → at ≤ length s → Ends (count_at s most at)
    unfolding count_at
    count most at i = then (space_at s at) (λ _ at₁. number_at s most at₁) (byte 32 at i) (λ _ at₁ _ i₁. number most at₁ i₁)

    options : (n at : ℕ) → at ≤ length s → Ends (options_at s n at)
    options zero at i = line-end [] at i
    options (suc n) at i =
        if (is_byte s 32 at) (count_at s limit at ▸ λ v at₁. options_at s n at₁ ▸ λ vs at₂. got (v ∷ vs) at₂) (newline_at s at ▸ λ _ at₁. got [] at₁)
        (λ _. then (count_at s limit at) (λ v at₁. options_at s n at₁ ▸ λ vs at₂. got (v ∷ vs) at₂) (count limit at i)
        (λ v at₁ _ i₁. then (options_at s n at₁) (λ vs at₂. got (v ∷ vs) at₂) (options n at₁ i₁) (λ _ at₂ _ i₂. i₂)))
        (λ _. line-end [] at i)

    others : (m i l at : ℕ) → at ≤ length s → Ends (others_at s m i l at)
    unfolding others_at
    others m i l at j =
        then (count_at s limit at)
        (λ o at₁. count_at s (m - i - l) at₁ ▸ λ a at₂. options_at s 4 at₂ ▸ λ more at₃. got (header_of m i l o a more) at₃) (count limit at j)
        (λ o at₁ _ j₁. then (count_at s (m - i - l) at₁) (λ a at₂. options_at s 4 at₂ ▸ λ more at₃. got (header_of m i l o a more) at₃)
        (count (m - i - l) at₁ j₁)
        (λ a at₂ _ j₂. then (options_at s 4 at₂) (λ more at₃. got (header_of m i l o a more) at₃) (options 4 at₂ j₂) (λ _ at₃ _ j₃. j₃)))

    counts : (at : ℕ) → at ≤ length s → Ends (counts_at s at)
    unfolding counts_at
    counts at j =
        then (count_at s limit at) (λ m at₁. count_at s m at₁ ▸ λ i at₂. count_at s (m - i) at₂ ▸ λ l at₃. others_at s m i l at₃) (count limit at j)
        (λ m at₁ _ j₁. then (count_at s m at₁) (λ i at₂. count_at s (m - i) at₂ ▸ λ l at₃. others_at s m i l at₃) (count m at₁ j₁)
        (λ i at₂ _ j₂. then (count_at s (m - i) at₂) (λ l at₃. others_at s m i l at₃) (count (m - i) at₂ j₂) (λ l at₃ _ j₃. others m i l at₃ j₃)))

    begun : (bytes rest : List ℕ) → begins bytes rest ≡ true → length bytes ≤ length rest
    begun [] rest e = omega arith
    begun (b ∷ bs) [] e = absurd (let z : ◌≡◌ {A = ℕ} 0 1 = cc in omega arith)
    begun (b ∷ bs) (c ∷ rest) e = go (eqb c b) (λ f. begun bs rest f) e
      where
        go : (x : Bool) → (begins bs rest ≡ true → length bs ≤ length rest) → x && begins bs rest ≡ true → suc (length bs) ≤ suc (length rest)
        go true more f = let fewer = more f in omega arith
        go false more f = absurd (let z : ◌≡◌ {A = ℕ} 0 1 = cc in omega arith)

    pub header : (bytes : List ℕ) → Ends (header_at s bytes)
    unfolding header_at tag_at
    header bytes =
        then (tag_at s bytes) (λ _ at. counts_at s at)
        (if (begins bytes s) (got tt (length bytes)) (no Missing 0) (λ e. begun bytes s e) (λ _. (has.missing, omega arith))) (λ _ at _ i. counts at i)

    -- the root section

    root_room : (room n at : ℕ) → at ≤ length s → Ends (root_room_at n room at)
    unfolding root_room_at
    root_room room n at i =
        if (ltb limit n) (no TooMany at) (cond (ltb room n) (no Short at) (got tt at)) (λ _. (has.too_many, i))
        (λ _. if (ltb room n) (no Short at) (got tt at) (λ _. (has.short, i)) (λ _. i))

    properties : (room : ℕ) (h : Header) (most justice at : ℕ) → at ≤ length s → Ends (properties_at s h most justice room at)
    unfolding properties_at
    properties room h most justice at i =
        then (root_room_at (root_count h justice) room at)
        (λ _ at₁. lines_at s most justice at₁ ▸ λ later at₂. lines_at s most h.fairness at₂ ▸ λ fairness at₃. got (fairness ++ later) at₃)
        (root_room room (root_count h justice) at i)
        (λ _ at₁ _ i₁. then (lines_at s most justice at₁) (λ later at₂. lines_at s most h.fairness at₂ ▸ λ fairness at₃. got (fairness ++ later) at₃)
        (lines most justice at₁ i₁)
        (λ later at₂ _ i₂. then (lines_at s most h.fairness at₂) (λ fairness at₃. got (fairness ++ later) at₃) (lines most h.fairness at₂ i₂)
        (λ _ at₃ _ i₃. i₃)))

    sizes_and_lem : (room : ℕ) (h : Header) (most at : ℕ) → at ≤ length s → Ends (sizes_at s h most room at)
    unfolding sizes_at
    sizes_and_lem room h most at i =
        then (lines_at s limit h.justice at)
        (λ sizes at₁. properties_at s h most (total sizes) room at₁ ▸ λ others at₂. got (roots_of sizes others) at₂) (lines limit h.justice at i)
        (λ sizes at₁ _ i₁. then (properties_at s h most (total sizes) room at₁) (λ others at₂. got (roots_of sizes others) at₂)
        (properties room h most (total sizes) at₁ i₁) (λ _ at₂ _ i₂. i₂))

    pub roots : (room : ℕ) (h : Header) (most at : ℕ) → at ≤ length s → Ends (roots_at s h most room at)
    unfolding roots_at
    roots room h most at i =
        then (lines_at s most (first_roots h) at)
        (λ first at₁. sizes_at s h most room at₁ ▸ λ rest at₂. got (roots_of rest.sizes (first ++ rest.roots)) at₂) (lines most (first_roots h) at i)
        (λ first at₁ _ i₁. then (sizes_at s h most room at₁) (λ rest at₂. got (roots_of rest.sizes (first ++ rest.roots)) at₂)
        (sizes_and_lem room h most at₁ i₁) (λ _ at₂ _ i₂. i₂))
