-- What holds of lines, latch lines and a root section that are read: how many there are, and that each literal is within the limit. Assumes nothing.
use Prim.Native.Nat.{ℕ, ◌+◌, ◌*◌, ◌≤◌}
use mathlib.Core.Path.{◌≡◌, ◌∙◌, subst}
use mathlib.Core.Bool.{Bool, true, false, cond}
use mathlib.Core.Logic.{◌⊎◌, inl, inr}
use mathlib.Core.List.{List, ◌++◌, map}
use native.Mathlib.Omega.{arith}
use lib.ListN.{length, length-append, length-map}
use Rattle.circuit.specs.Graph.{In}
use Rattle.circuit.specs.Outcome.{limit, total}
use Rattle.circuit.specs.Claims.{AllWithin}
use Rattle.circuit.proofs.Lists.{In-cases, In-unmap}
use Rattle.lines.specs.declared.Header.{Header}
use Rattle.lines.specs.Reading.{Read, got, ◌▸◌}
use Rattle.lines.specs.Lines.{is_byte, space_at, newline_at, number_at, line_at, lines_at}
use Rattle.lines.specs.Lines.{LatchLine, latch_line, nexts_of, resets_of, reset_line_at, reset_at, latch_at, latches_at}
use Rattle.lines.specs.Sections.{Roots, roots_of, first_roots, root_count, root_room_at, properties_at, sizes_at, roots_at}
use Rattle.lines.proofs.Heads.{two, got_same, number_within, row_length, row_each}
use Rattle.lines.proofs.Resets.{line_of_reset}
use Rattle.lines.proofs.Sections.{lines_length, properties_fit}

-- a line, and lines

line_within : (s : List ℕ) (most at v end : ℕ) → line_at s most at ≡ got v end → v ≤ most
unfolding line_at
line_within s most at v end e =
    let t = two (number_at s most at) (λ w at₁. newline_at s at₁ ▸ λ _ at₂. got w at₂) v end e in
    let u = two (newline_at s t.place) (λ _ at₂. got t.first at₂) v end t.then in
    let same : t.first ≡ v = got_same u.then in
    omega (arith, same, number_within s most at t.first t.place t.read)

pub lines_within : (s : List ℕ) (most n at : ℕ) (vs : List ℕ) (end : ℕ) → lines_at s most n at ≡ got vs end → AllWithin most vs
unfolding lines_at
lines_within s most n at vs end e = row_each (λ v. v ≤ most) (λ k. line_at s most) (λ k p v q f. line_within s most p v q f) 0 n at vs end e

-- a latch's line, and latch lines

reset_line_within : (s : List ℕ) (most own at r end : ℕ) → reset_line_at s most own at ≡ got r end → r ≤ most
reset_line_within s most own at r end e = line_within s most at r end (line_of_reset s most own at r end e).0

reset_within : (s : List ℕ) (most own at r end : ℕ) → reset_at s most own at ≡ got r end → r ≤ most
unfolding reset_at
reset_within s most own at r end e = go (is_byte s 32 at) e
  where
    go : (t : Bool) → cond t (space_at s at ▸ λ _ at₁. reset_line_at s most own at₁) (newline_at s at ▸ λ _ at₁. got 0 at₁) ≡ got r end → r ≤ most
    go true f = let t = two (space_at s at) (λ _ at₁. reset_line_at s most own at₁) r end f in reset_line_within s most own t.place r end t.then
    go false f = let t = two (newline_at s at) (λ _ at₁. got 0 at₁) r end f in omega (arith, got_same t.then)

pub latch_within : (s : List ℕ) (most own at : ℕ) (l : LatchLine) (end : ℕ) → latch_at s most own at ≡ got l end → (l.next ≤ most) × (l.reset ≤ most)
unfolding latch_at
latch_within s most own at l end e =
    let t = two (number_at s most at) (λ v at₁. reset_at s most own at₁ ▸ λ r at₂. got (latch_line v r) at₂) l end e in
    let u = two (reset_at s most own t.place) (λ r at₂. got (latch_line t.first r) at₂) l end t.then in
    subst (λ (x : LatchLine). (x.next ≤ most) × (x.reset ≤ most)) (got_same u.then)
    (number_within s most at t.first t.place t.read, reset_within s most own t.place u.first u.place u.read)

-- what holds of each line's number holds of each number of their list
pub each_of : {A : Type 0} (P : ℕ → Type 0) (f : A → ℕ) (ls : List A) → ((l : A) → In l ls → P (f l)) → (v : ℕ) → In v (map f ls) → P v
each_of P f ls holds v i = let (l, j, e) = In-unmap f v ls i in subst P e (holds l j)

module _ (s : List ℕ) (most first n at : ℕ) (ls : List LatchLine) (end : ℕ) (e : latches_at s most first n at ≡ got ls end) where
  latches_within : (l : LatchLine) → In l ls → (l.next ≤ most) × (l.reset ≤ most)
  unfolding latches_at
  latches_within =
      row_each (λ l. (l.next ≤ most) × (l.reset ≤ most)) (λ k. latch_at s most (first + 2 * k))
      (λ k p l q f. latch_within s most (first + 2 * k) p l q f) 0 n at ls end e

  pub nexts_within : AllWithin most (nexts_of ls)
  nexts_within = each_of (λ v. v ≤ most) (λ l. l.next) ls (λ l i. (latches_within l i).0)

  pub resets_within : AllWithin most (resets_of ls)
  resets_within = each_of (λ v. v ≤ most) (λ l. l.reset) ls (λ l i. (latches_within l i).1)

  pub latches_length : length ls ≡ n
  unfolding latches_at
  latches_length = row_length (λ k. latch_at s most (first + 2 * k)) 0 n at ls end e

  pub nexts_length : length (nexts_of ls) ≡ n
  nexts_length = length-map ls (λ l. l.next) ∙ latches_length

  pub resets_length : length (resets_of ls) ≡ n
  resets_length = length-map ls (λ l. l.reset) ∙ latches_length

-- lists one after the other
both_within : (most : ℕ) (xs ys : List ℕ) → AllWithin most xs → AllWithin most ys → AllWithin most (xs ++ ys)
both_within most xs ys p q c i = go (In-cases c xs ys i)
  where
    go : In c xs ⊎ In c ys → c ≤ most
    go (inl x) = p c x
    go (inr y) = q c y

-- after the sizes

record Others (h : Header) (most room justice : ℕ) (others : List ℕ) : Type 0 where
  count : length others ≡ h.fairness + justice
  few : root_count h justice ≤ limit
  fits : root_count h justice ≤ room
  within : AllWithin most others

module _ (s : List ℕ) (h : Header) (most room : ℕ) where
  properties_known : (justice at : ℕ) (others : List ℕ) (end : ℕ) → properties_at s h most justice room at ≡ got others end → Others h most room justice others
  unfolding properties_at
  properties_known justice at others end e = first (properties_fit s h most justice room at others end e)
    where
      after_room : ℕ → Read (List ℕ)
      after_room at₁ = lines_at s most justice at₁ ▸ λ later at₂. lines_at s most h.fairness at₂ ▸ λ fairness at₃. got (fairness ++ later) at₃

      third : (later fairness : List ℕ) (p : ℕ) → length later ≡ justice → length fairness ≡ h.fairness → AllWithin most later → AllWithin most fairness
          → got (fairness ++ later) p ≡ got others end → (length others ≡ h.fairness + justice) × AllWithin most others
      third later fairness p n m a b k =
          let count : length (fairness ++ later) ≡ h.fairness + justice = omega (arith, length-append fairness later) in
          subst (λ (l : List ℕ). (length l ≡ h.fairness + justice) × AllWithin most l) (got_same k) (count, both_within most fairness later b a)

      second : (at₁ : ℕ) → after_room at₁ ≡ got others end → (length others ≡ h.fairness + justice) × AllWithin most others
      second at₁ f =
          let y = two (lines_at s most justice at₁) (λ later at₂. lines_at s most h.fairness at₂ ▸ λ fairness at₃. got (fairness ++ later) at₃) others end f in
          let z = two (lines_at s most h.fairness y.place) (λ fairness at₃. got (fairness ++ y.first) at₃) others end y.then in
          third y.first z.first z.place (lines_length s most justice at₁ y.first y.place y.read)
          (lines_length s most h.fairness y.place z.first z.place z.read)
          (lines_within s most justice at₁ y.first y.place y.read)
          (lines_within s most h.fairness y.place z.first z.place z.read) z.then

      first : (root_count h justice ≤ limit) × (root_count h justice ≤ room) → Others h most room justice others
      first (few, fits) =
          let t = two (root_room_at (root_count h justice) room at) (λ _ at₁. after_room at₁) others end e in
          let u = second t.place t.then in
          record { count = u.0; few = few; fits = fits; within = u.1 }

  -- the sizes, and what follows them
  record Sizes (p : Roots) : Type 0 where
    sets : length p.sizes ≡ h.justice
    others : Others h most room (total p.sizes) p.roots

  sizes_known : (at : ℕ) (p : Roots) (end : ℕ) → sizes_at s h most room at ≡ got p end → Sizes p
  unfolding sizes_at
  sizes_known at p end e =
      let v = two (lines_at s limit h.justice at) (λ ss at₁. properties_at s h most (total ss) room at₁ ▸ λ others at₂. got (roots_of ss others) at₂) p end e in
      let w = two (properties_at s h most (total v.first) room v.place) (λ others at₂. got (roots_of v.first others) at₂) p end v.then in
      made v.first w.first w.place (lines_length s limit h.justice at v.first v.place v.read)
      (properties_known (total v.first) v.place w.first w.place w.read) w.then
    where
      made : (ss others : List ℕ) (q : ℕ) → length ss ≡ h.justice → Others h most room (total ss) others → got (roots_of ss others) q ≡ got p end → Sizes p
      made ss others q n o k = subst Sizes (got_same k) (record { sets = n; others = o })

-- the whole section: as many sizes as announced, as many roots as counted, which are not too many and fit, each within the limit
pub record Rooted (h : Header) (most room : ℕ) (p : Roots) : Type 0 where
  pub sets : length p.sizes ≡ h.justice
  pub all : length p.roots ≡ root_count h (total p.sizes)
  pub few : root_count h (total p.sizes) ≤ limit
  pub fits : root_count h (total p.sizes) ≤ room
  pub within : AllWithin most p.roots

pub roots_known : (s : List ℕ) (h : Header) (most room at : ℕ) (p : Roots) (end : ℕ) → roots_at s h most room at ≡ got p end → Rooted h most room p
unfolding roots_at
roots_known s h most room at p end e =
    let t = two (lines_at s most (first_roots h) at)
    (λ first at₁. sizes_at s h most room at₁ ▸ λ rest at₂. got (roots_of rest.sizes (first ++ rest.roots)) at₂) p end e in
    let u = two (sizes_at s h most room t.place) (λ rest at₂. got (roots_of rest.sizes (t.first ++ rest.roots)) at₂) p end t.then in
    made t.first u.first u.place (lines_length s most (first_roots h) at t.first t.place t.read)
    (lines_within s most (first_roots h) at t.first t.place t.read) (sizes_known s h most room t.place u.first u.place u.read) u.then
  where
    made : (first : List ℕ) (rest : Roots) (q : ℕ) → length first ≡ first_roots h → AllWithin most first → Sizes s h most room rest
        → got (roots_of rest.sizes (first ++ rest.roots)) q ≡ got p end → Rooted h most room p
    made first rest q n w o k =
        let count : length (first ++ rest.roots) ≡ root_count h (total rest.sizes) = omega (arith, length-append first rest.roots, o.others.count) in
        subst (Rooted h most room) (got_same k)
        (record {
          sets = o.sets;
          all = count;
          few = o.others.few;
          fits = o.others.fits;
          within = both_within most first rest.roots w o.others.within;
        })
