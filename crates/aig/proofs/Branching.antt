-- Ways through the trie: a search finds what a search among all gates made finds, and a gate in a free place keeps what holds. Assumes nothing.
use Rattle.std.specs.Prelude.{Option, Some, None}
use Prim.Native.Nat.{ℕ, zero, suc, ◌+◌, ◌*◌, ◌/◌, ◌%◌, ◌^◌, ◌<◌, ◌≤◌}
use mathlib.Core.Path.{◌≡◌, refl, sym, ◌∙◌, ap, ap₂, subst, subst₂}
use mathlib.Core.Logic.{◌⊎◌, inl, inr, ◌≢◌}
use mathlib.Core.Bool.{Bool, true, false, cond, ◌&&◌}
use mathlib.Core.List.{List, [], ◌∷◌, ◌++◌}
use native.Mathlib.Omega.{arith}
use lib.Dec.{eqb}
use lib.ListN.{length, get_or, set, take, length-append, get_or-append}
use lib.Seq.{take-suc, take-length, get_or-append_seam, get_or-set_same, get_or-set_other, length-take-le}
use borrow.Author.Tests.{eq-eqb, ne_eqb}
use Rattle.circuit.specs.Walk.{Pair, or_else, made_before}
use Rattle.circuit.specs.Ordered.{no_pair}
use Rattle.circuit.proofs.Tests.{Same, same, other, same_test, last_or, lt_or}
use Rattle.aig.specs.Trie.{gate_in, larger_of, smaller_of, head_of, key_of, key_bits, rest, Agree, link_at, Way, Met, Stands, Trie, Fresh, FreeAt}

-- the search among a list and one gate more
else_assoc : (a b : Option ℕ) (o : Option ℕ) → or_else (or_else a b) o ≡ or_else a (or_else b o)
else_assoc None b o = refl
else_assoc (Some x) b o = refl

before_snoc : (ps : List Pair) (p : Pair) (t hi lo : ℕ)
    → made_before (ps ++ (p ∷ [])) t hi lo ≡ or_else (cond (eqb p.larger hi && eqb p.smaller lo) (Some (t + 2 * length ps)) None) (made_before ps t hi lo)
before_snoc [] p t hi lo = go (eqb p.larger hi && eqb p.smaller lo)
  where
    go : (b : Bool) → or_else None (cond b (Some t) None) ≡ or_else (cond b (Some (t + 0)) None) None
    go true = let e : t ≡ t + 0 = omega arith in ap Some e
    go false = refl
before_snoc (q ∷ ps) p t hi lo =
    let e : t + 2 + 2 * length ps ≡ t + 2 * length (q ∷ ps) = omega arith in
    ap (λ (o : Option ℕ). or_else o (cond (eqb q.larger hi && eqb q.smaller lo) (Some t) None))
    (before_snoc ps p (t + 2) hi lo
    ∙ ap (λ (k : ℕ). or_else (cond (eqb p.larger hi && eqb p.smaller lo) (Some k) None) (made_before ps (t + 2) hi lo)) e)
    ∙ else_assoc (cond (eqb p.larger hi && eqb p.smaller lo) (Some (t + 2 * length (q ∷ ps))) None) (made_before ps (t + 2) hi lo)
    (cond (eqb q.larger hi && eqb q.smaller lo) (Some t) None)

-- what is found among the first n gates
abbrev pub first_ones : List Pair → ℕ → ℕ → ℕ → ℕ → Option ℕ
first_ones made n t hi lo = made_before (take n made) t hi lo

module _ (made : List Pair) (t hi lo : ℕ) where
  one_more : (j : ℕ) → j < length made
      → first_ones made (suc j) t hi lo
      ≡ or_else (cond (eqb (larger_of made j) hi && eqb (smaller_of made j) lo) (Some (t + 2 * j)) None) (first_ones made j t hi lo)
  one_more j h =
      ap (λ (l : List Pair). made_before l t hi lo) (take-suc made j no_pair h) ∙ before_snoc (take j made) (get_or made j no_pair) t hi lo
      ∙ ap (λ (k : ℕ). or_else (cond (eqb (larger_of made j) hi && eqb (smaller_of made j) lo) (Some (t + 2 * k)) None) (first_ones made j t hi lo))
      (length-take-le j made (omega arith))

  pub finds_here : (j : ℕ) → j < length made → larger_of made j ≡ hi → smaller_of made j ≡ lo → first_ones made (suc j) t hi lo ≡ Some (t + 2 * j)
  finds_here j h p q = one_more j h ∙ rw (eq-eqb _ _ p, eq-eqb _ _ q)

  other_pair : (j : ℕ) → j < length made → (larger_of made j ≡ hi → smaller_of made j ≡ lo → ⊥) → first_ones made (suc j) t hi lo ≡ first_ones made j t hi lo
  other_pair j h n = one_more j h ∙ go (eqb (larger_of made j) hi) (same_test (larger_of made j) hi)
    where
      go : (b : Bool) → Same (larger_of made j) hi b
          → or_else (cond (b && eqb (smaller_of made j) lo) (Some (t + 2 * j)) None) (first_ones made j t hi lo) ≡ first_ones made j t hi lo
      go true (same e) = rw (ne_eqb (smaller_of made j) lo (λ f. n e f))
      go false (other f) = refl

  -- gates past k have another pair
  others_past : (m k : ℕ) → m ≤ length made → k ≤ m → ((j : ℕ) → k ≤ j → j < m → larger_of made j ≡ hi → smaller_of made j ≡ lo → ⊥)
      → first_ones made m t hi lo ≡ first_ones made k t hi lo
  others_past zero k h p past = let e : 0 ≡ k = omega arith in ap (λ (m : ℕ). first_ones made m t hi lo) e
  others_past (suc m) k h p past = go (last_or (suc m) k (omega arith)) (others_past m k (omega arith))
    where
      go : (k < suc m) ⊎ (k ≡ suc m)
          → (k ≤ m → ((j : ℕ) → k ≤ j → j < m → larger_of made j ≡ hi → smaller_of made j ≡ lo → ⊥) → first_ones made m t hi lo ≡ first_ones made k t hi lo)
          → first_ones made (suc m) t hi lo ≡ first_ones made k t hi lo
      go (inl q) rec = other_pair m (omega arith) (past m (omega arith) (omega arith)) ∙ rec (omega arith) (λ j a b. past j a (omega arith))
      go (inr e) rec = ap (λ (i : ℕ). first_ones made i t hi lo) (sym e)

  all_of : made_before made t hi lo ≡ first_ones made (length made) t hi lo
  all_of = ap (λ (l : List Pair). made_before l t hi lo) (sym (take-length made))

  pub before_none : Fresh made (record { larger = hi; smaller = lo }) → made_before made t hi lo ≡ None
  before_none f = all_of ∙ others_past (length made) 0 (omega arith) (omega arith) (λ j a b. f j b)

  pub before_some : (k : ℕ) → k < length made → larger_of made k ≡ hi → smaller_of made k ≡ lo
      → ((i j : ℕ) → i < j → j < length made → larger_of made i ≡ larger_of made j → smaller_of made i ≡ smaller_of made j → ⊥)
      → made_before made t hi lo ≡ Some (t + 2 * k)
  before_some k h p q once =
      all_of
      ∙ others_past (length made) (suc k) (omega arith) (omega arith) (λ j a b e f. once k j (omega arith) b (p ∙ sym e) (q ∙ sym f))
      ∙ finds_here k h p q

-- places of links
link_low : (n b k : ℕ) → n ≤ link_at n b k
link_low n zero k = omega arith
link_low n (suc b) k = omega arith

link_within : (n g b k : ℕ) → k < g → g ≤ n → link_at n b k < 2 * n + g
link_within n g zero k h i = omega arith
link_within n g (suc b) k h i = omega arith

link_same : (n b c k j : ℕ) → b < 2 → c < 2 → k < n → j < n → link_at n b k ≡ link_at n c j → (b ≡ c) × (k ≡ j)
link_same n zero zero k j p q h i e = (refl, omega arith)
link_same n zero (suc c) k j p q h i e = absurd (omega arith)
link_same n (suc b) zero k j p q h i e = absurd (omega arith)
link_same n (suc b) (suc c) k j p q h i e = (omega arith, omega arith)

same_suc : {x y z : ℕ} → x ≡ suc y → x ≡ suc z → y ≡ z
same_suc e f = omega arith

-- bits decide a key
rest_first : (x d : ℕ) → rest x (suc d) ≡ rest (x / 2) d
rest_first x zero = refl
rest_first x (suc d) = ap (λ (y : ℕ). y / 2) (rest_first x d)

pub agree_all : (w x y : ℕ) → x < 2 ^ w → y < 2 ^ w → Agree w x y → x ≡ y
agree_all zero x y p q a = omega arith
agree_all (suc w) x y p q a =
    let low : x % 2 ≡ y % 2 = a 0 (omega arith) in
    let high : x / 2 ≡ y / 2
    = agree_all w (x / 2) (y / 2) (omega arith) (omega arith)
    (λ i h. ap (λ (z : ℕ). z % 2) (sym (rest_first x i)) ∙ a (suc i) (omega arith) ∙ ap (λ (z : ℕ). z % 2) (rest_first y i)) in
    omega arith

-- ways
module _ (links : List ℕ) (n v key : ℕ) where
  pub way_same : (d p q : ℕ) → Way links n v key d p → Way links n v key d q → p ≡ q
  way_same zero p q e f = e ∙ sym f
  way_same (suc d) p q s u =
      let here : s.from ≡ u.from = way_same d s.from u.from s.way u.way in
      let gate : s.gate ≡ u.gate = same_suc s.word (ap (λ (x : ℕ). get_or links x 0) here ∙ u.word) in
      s.to ∙ ap (link_at n (rest key d % 2)) gate ∙ sym u.to

  -- a longer way goes on from where a shorter one leads
  way_on : (d e q : ℕ) → d < e → Way links n v key e q → ((p : ℕ) × Way links n v key (suc d) p)
  way_on d zero q h w = absurd (omega arith)
  way_on d (suc e) q h w = go (λ i. way_on d e w.from i w.way) (last_or e d h)
    where
      go : (d < e → ((p : ℕ) × Way links n v key (suc d) p)) → (d < e) ⊎ (d ≡ e) → ((p : ℕ) × Way links n v key (suc d) p)
      go rec (inl i) = rec i
      go rec (inr i) = (q, subst (λ (x : ℕ). Way links n v key (suc x) q) (sym i) w)

-- a search for the pair x has come to a place, and the gates that it met have another pair
pub record Sought (n : ℕ) (made : List Pair) (links : List ℕ) (x : Pair) (d left place : ℕ) : Type 0 where
  pub way : Way links n (head_of x) (key_of x) d place
  pub bits : left ≡ rest (key_of x) d
  pub passed : (i p k : ℕ) → i < d → Way links n (head_of x) (key_of x) i p → get_or links p 0 ≡ suc k → larger_of made k ≡ x.larger
      → smaller_of made k ≡ x.smaller → ⊥

-- a link of a gate made
pub record LinkOf (n m p : ℕ) : Type 0 where
  pub bit : ℕ
  pub gate : ℕ
  pub low : bit < 2
  pub inside : gate < m
  pub is : p ≡ link_at n bit gate

module _ {n : ℕ} {made : List Pair} {links : List ℕ} (t : Trie n made links) where
  way_place : (v key d p : ℕ) → v < n → Way links n v key d p → (p < n) ⊎ LinkOf n (length made) p
  way_place v key zero p h w = inl (omega arith)
  way_place v key (suc d) p h w =
      inr
      (record {
        bit = rest key d % 2;
        gate = w.gate;
        low = omega arith;
        inside = (t.met v key d w.from w.gate h w.way w.word).inside;
        is = w.to;
      })

  pub way_within : (v key d p g : ℕ) → v < n → length made ≤ g → g ≤ n → Way links n v key d p → p < 2 * n + g
  way_within v key d p g h i j w = go (way_place v key d p h w)
    where
      go : (p < n) ⊎ LinkOf n (length made) p → p < 2 * n + g
      go (inl e) = omega arith
      go (inr l) = omega (arith, l.is, link_within n g l.bit l.gate (omega (arith, l.inside)) j)

  -- a search for the pair x
  module _ (x : Pair) (h : head_of x < n) where
    abbrev Leads : ℕ → ℕ → Type 0
    Leads d p = Way links n (head_of x) (key_of x) d p

    module _ (d left place : ℕ) (q : Sought n made links x d left place) where
      -- a gate stands there
      module _ (k : ℕ) (e : get_or links place 0 ≡ suc k) where
        here : Met made t.depth (head_of x) (key_of x) d k
        here = t.met (head_of x) (key_of x) d place k h q.way e

        pub sought_inside : k < length made
        sought_inside = here.inside

        pub sought_on : (larger_of made k ≡ x.larger → smaller_of made k ≡ x.smaller → ⊥) → Sought n made links x (suc d) (left / 2) (link_at n (left % 2) k)
        sought_on f =
            record {
              way =
                  record {
                    from = place;
                    gate = k;
                    way = q.way;
                    word = e;
                    to = ap (λ (y : ℕ). link_at n (y % 2) k) q.bits;
                  };
              bits = ap (λ (y : ℕ). y / 2) q.bits;
              passed = passed;
            }
          where
            passed : (i p j : ℕ) → i < suc d → Leads i p → get_or links p 0 ≡ suc j → larger_of made j ≡ x.larger → smaller_of made j ≡ x.smaller → ⊥
            passed i p j b w c y z = go (last_or d i b)
              where
                go : (i < d) ⊎ (i ≡ d) → ⊥
                go (inl a) = q.passed i p j a w c y z
                go (inr a) =
                    let there : p ≡ place = way_same links n (head_of x) (key_of x) d p place (subst (λ (m : ℕ). Leads m p) a w) q.way in
                    let same : j ≡ k = same_suc c (ap (λ (m : ℕ). get_or links m 0) there ∙ e) in
                    f (ap (larger_of made) (sym same) ∙ y) (ap (smaller_of made) (sym same) ∙ z)

        -- all bits have led to it
        pub sought_all : d ≡ key_bits → key_of x < 2 ^ key_bits → (larger_of made k ≡ x.larger) × (smaller_of made k ≡ x.smaller)
        sought_all a b =
            let agrees : Agree key_bits (key_of (gate_in made k)) (key_of x) = subst (λ (m : ℕ). Agree m (key_of (gate_in made k)) (key_of x)) a here.agrees in
            let key : key_of (gate_in made k) ≡ key_of x = agree_all key_bits (key_of (gate_in made k)) (key_of x) (t.low k sought_inside) b agrees in
            (omega (arith, key, here.under), omega (arith, key))

      -- no gate stands there
      pub sought_none : get_or links place 0 ≡ 0 → Fresh made x
      sought_none e k b y z = go (lt_or (t.depth k) d)
        where
          s : Stands links n (gate_in made k) (t.depth k) k
          s = t.found k b

          key-is : key_of (gate_in made k) ≡ key_of x
          key-is = ap₂ (λ (i j : ℕ). 2 * j + i % 2) y z

          way : Leads (t.depth k) s.at
          way = subst₂ (λ (i j : ℕ). Way links n (i / 2) j (t.depth k) s.at) y key-is s.way

          go : (t.depth k < d) ⊎ (d ≤ t.depth k) → ⊥
          go (inl a) = q.passed (t.depth k) s.at k a way s.word y z
          go (inr a) = later (last_or (t.depth k) d (omega arith))
            where
              later : (d < t.depth k) ⊎ (d ≡ t.depth k) → ⊥
              later (inl c) =
                  let u = way_on links n (head_of x) (key_of x) d (t.depth k) s.at c way in
                  let there : u.1.from ≡ place = way_same links n (head_of x) (key_of x) d u.1.from place u.1.way q.way in
                  let word : get_or links u.1.from 0 ≡ 0 = ap (λ (m : ℕ). get_or links m 0) there ∙ e in
                  omega (arith, u.1.word)
              later (inr c) =
                  let there : s.at ≡ place = way_same links n (head_of x) (key_of x) d s.at place (subst (λ (m : ℕ). Leads m s.at) (sym c) way) q.way in
                  let word : get_or links s.at 0 ≡ 0 = ap (λ (m : ℕ). get_or links m 0) there ∙ e in
                  omega (arith, s.word)

  -- a place is led to by one way
  module _ (n_room : length made ≤ n) where
    way_one : (v key d v' key' d' p : ℕ) → v < n → v' < n → Way links n v key d p → Way links n v' key' d' p → (v ≡ v') × (d ≡ d') × Agree d' key key'
    way_one v key zero v' key' zero p h i w u = (sym w ∙ u, refl, λ j b. absurd (omega arith))
    way_one v key zero v' key' (suc d') p h i w u = absurd (omega (arith, u.to, link_low n (rest key' d' % 2) u.gate))
    way_one v key (suc d) v' key' zero p h i w u = absurd (omega (arith, w.to, link_low n (rest key d % 2) w.gate))
    way_one v key (suc d) v' key' (suc d') p h i w u =
        let m : Met made t.depth v key d w.gate = t.met v key d w.from w.gate h w.way w.word in
        let m' : Met made t.depth v' key' d' u.gate = t.met v' key' d' u.from u.gate i u.way u.word in
        let e : (rest key d % 2 ≡ rest key' d' % 2) × (w.gate ≡ u.gate)
        = link_same n (rest key d % 2) (rest key' d' % 2) w.gate u.gate (omega arith) (omega arith) (omega (arith, m.inside)) (omega (arith, m'.inside))
        (sym w.to ∙ u.to) in
        let deep : d ≡ d' = sym m.deep ∙ ap t.depth e.1 ∙ m'.deep in (
          sym m.under ∙ ap (λ (k : ℕ). head_of (gate_in made k)) e.1 ∙ m'.under,
          ap suc deep,
          agrees m m' e deep,
        )
      where
        agrees : (m : Met made t.depth v key d w.gate) (m' : Met made t.depth v' key' d' u.gate)
            → (rest key d % 2 ≡ rest key' d' % 2) × (w.gate ≡ u.gate) → d ≡ d' → Agree (suc d') key key'
        agrees m m' e deep j b = go (last_or d' j b)
          where
            go : (j < d') ⊎ (j ≡ d') → rest key j % 2 ≡ rest key' j % 2
            go (inl c) =
                sym (m.agrees j (omega arith)) ∙ ap (λ (k : ℕ). rest (key_of (gate_in made k)) j % 2) e.1 ∙ m'.agrees j c
            go (inr c) = ap (λ (k : ℕ). rest key k % 2) (c ∙ sym deep) ∙ e.0 ∙ ap (λ (k : ℕ). rest key' k % 2) (sym c)

-- a link of the gate m
record NewLink (n m p : ℕ) : Type 0 where
  bit : ℕ
  low : bit < 2
  is : p ≡ link_at n bit m

-- a gate more, in a free place that its key leads to
module _ {n : ℕ} {made : List Pair} {links : List ℕ} (t : Trie n made links) (x : Pair) (place : ℕ) (f : FreeAt n made links x place) (h : head_of x < n)
    (room : length made < n) (low : key_of x < 2 ^ key_bits) where
  abbrev m : ℕ
  m = length made

  abbrev more : List Pair
  more = made ++ (x ∷ [])

  abbrev links' : List ℕ
  links' = set links place (suc m)

  longer : length more ≡ suc m
  longer = omega (arith, length-append made (x ∷ []))

  old_gate : (k : ℕ) → k < m → gate_in more k ≡ gate_in made k
  old_gate k i = get_or-append made (x ∷ []) no_pair k i

  new-gate : (k : ℕ) → k ≡ m → gate_in more k ≡ x
  new-gate k e = ap (gate_in more) e ∙ get_or-append_seam made x [] no_pair

  new_word : (p : ℕ) → p ≡ place → get_or links' p 0 ≡ suc m
  new_word p e = ap (λ (q : ℕ). get_or links' q 0) e ∙ get_or-set_same links place (suc m) 0 f.inside

  old_word : (p : ℕ) → p ≢ place → get_or links' p 0 ≡ get_or links p 0
  old_word p e = get_or-set_other links place p (suc m) 0 e

  -- a place with a gate was not free
  taken : (p k : ℕ) → get_or links p 0 ≡ suc k → p ≢ place
  taken p k e q = let z : get_or links p 0 ≡ 0 = ap (λ (i : ℕ). get_or links i 0) q ∙ f.empty in omega arith

  taken_word : (p k : ℕ) → get_or links p 0 ≡ suc k → get_or links' p 0 ≡ suc k
  taken_word p k e = old_word p (taken p k e) ∙ e

  -- links of gates not made are other places, and free
  apart : (b k : ℕ) → b < 2 → m ≤ k → k < n → link_at n b k ≢ place
  apart b k i j l e = go (way_place t (head_of x) (key_of x) f.depth place h f.way)
    where
      go : (place < n) ⊎ LinkOf n m place → ⊥
      go (inl q) = omega (arith, link_low n b k)
      go (inr q) =
          let z = link_same n b q.bit k q.gate i q.low l (omega (arith, q.inside)) (e ∙ q.is) in
          omega (arith, z.1, q.inside)

  clean_still : (b k : ℕ) → b < 2 → m ≤ k → k < n → get_or links' (link_at n b k) 0 ≡ 0
  clean_still b k i j l = old_word (link_at n b k) (apart b k i j l) ∙ t.clean b k i j l

  -- old ways stay
  way_stays : (v key d p : ℕ) → Way links n v key d p → Way links' n v key d p
  way_stays v key zero p w = w
  way_stays v key (suc d) p w =
      record { from = w.from; gate = w.gate; way = way_stays v key d w.from w.way; word = taken_word w.from w.gate w.word; to = w.to }

  free_link : (p : ℕ) → NewLink n m p → get_or links' p 0 ≡ 0
  free_link p l = ap (λ (q : ℕ). get_or links' q 0) l.is ∙ clean_still l.bit m l.low (omega arith) room

  -- new ways are old ones, or lead to the new gate's links
  way_was : (v key d p : ℕ) → Way links' n v key d p → Way links n v key d p ⊎ NewLink n m p
  way_was v key zero p w = inl w
  way_was v key (suc d) p w = go (way_was v key d w.from w.way)
    where
      go : Way links n v key d w.from ⊎ NewLink n m w.from → Way links n v key (suc d) p ⊎ NewLink n m p
      go (inr l) = absurd (let z = free_link w.from l in omega (arith, w.word))
      go (inl u) = by (eqb w.from place) (same_test w.from place)
        where
          by : (b : Bool) → Same w.from place b → Way links n v key (suc d) p ⊎ NewLink n m p
          by true (same e) =
              let gate : w.gate ≡ m = same_suc w.word (new_word w.from e) in
              inr (record { bit = rest key d % 2; low = omega arith; is = w.to ∙ ap (link_at n (rest key d % 2)) gate })
          by false (other e) =
              inl (record { from = w.from; gate = w.gate; way = u; word = sym (old_word w.from e) ∙ w.word; to = w.to })

  abbrev depth' : ℕ → ℕ
  depth' k = cond (eqb k m) f.depth (t.depth k)

  old_depth : (k : ℕ) → k < m → depth' k ≡ t.depth k
  old_depth k i = ap (λ (b : Bool). cond b f.depth (t.depth k)) (ne_eqb k m (omega arith))

  new_depth : (k : ℕ) → k ≡ m → depth' k ≡ f.depth
  new_depth k e = ap (λ (b : Bool). cond b f.depth (t.depth k)) (eq-eqb k m e)

  met_old : (v key d k : ℕ) → Met made t.depth v key d k → Met more depth' v key d k
  met_old v key d k o =
      record {
        inside = omega (arith, longer, o.inside);
        under = ap head_of (old_gate k o.inside) ∙ o.under;
        deep = old_depth k o.inside ∙ o.deep;
        agrees = λ i b. ap (λ (g : Pair). rest (key_of g) i % 2) (old_gate k o.inside) ∙ o.agrees i b;
      }

  met_new : (v key d p k : ℕ) → v < n → Way links n v key d p → p ≡ place → k ≡ m → Met more depth' v key d k
  met_new v key d p k i w e z =
      let u = way_one t (omega arith) (head_of x) (key_of x) f.depth v key d place h i f.way (subst (λ (q : ℕ). Way links n v key d q) e w) in
      record {
        inside = omega (arith, longer);
        under = ap head_of (new-gate k z) ∙ u.0;
        deep = new_depth k z ∙ u.1;
        agrees = λ j b. ap (λ (g : Pair). rest (key_of g) j % 2) (new-gate k z) ∙ u.2 j b;
      }

  met_more : (v key d p k : ℕ) → v < n → Way links' n v key d p → get_or links' p 0 ≡ suc k → Met more depth' v key d k
  met_more v key d p k i w e = go (way_was v key d p w)
    where
      go : Way links n v key d p ⊎ NewLink n m p → Met more depth' v key d k
      go (inr l) = absurd (let z = free_link p l in omega arith)
      go (inl u) = by (eqb p place) (same_test p place)
        where
          by : (b : Bool) → Same p place b → Met more depth' v key d k
          by true (same z) = met_new v key d p k i u z (same_suc e (new_word p z))
          by false (other z) = met_old v key d k (t.met v key d p k i u (sym (old_word p z) ∙ e))

  found_more : (k : ℕ) → k < length more → Stands links' n (gate_in more k) (depth' k) k
  found_more k b = go (last_or m k (omega (arith, longer)))
    where
      go : (k < m) ⊎ (k ≡ m) → Stands links' n (gate_in more k) (depth' k) k
      go (inl i) =
          let s = t.found k i in
          let way = way_stays (head_of (gate_in made k)) (key_of (gate_in made k)) (t.depth k) s.at s.way in
          subst₂ (λ (g : Pair) (d : ℕ). Stands links' n g d k) (sym (old_gate k i)) (sym (old_depth k i))
          (record { at = s.at; way = way; word = taken_word s.at k s.word })
      go (inr e) =
          subst₂ (λ (g : Pair) (d : ℕ). Stands links' n g d k) (sym (new-gate k e)) (sym (new_depth k e))
          (record { at = place; way = way_stays (head_of x) (key_of x) f.depth place f.way; word = new_word place refl ∙ ap suc (sym e) })

  once_more : (i j : ℕ) → i < j → j < length more → larger_of more i ≡ larger_of more j → smaller_of more i ≡ smaller_of more j → ⊥
  once_more i j b c y z = go (last_or m j (omega (arith, longer)))
    where
      go : (j < m) ⊎ (j ≡ m) → ⊥
      go (inl a) =
          let p = old_gate i (omega arith) in
          let q = old_gate j a in
          t.once i j b a (sym (ap (λ (g : Pair). g.larger) p) ∙ y ∙ ap (λ (g : Pair). g.larger) q)
          (sym (ap (λ (g : Pair). g.smaller) p) ∙ z ∙ ap (λ (g : Pair). g.smaller) q)
      go (inr a) =
          let p = old_gate i (omega arith) in
          let q = new-gate j a in
          f.fresh i (omega arith) (sym (ap (λ (g : Pair). g.larger) p) ∙ y ∙ ap (λ (g : Pair). g.larger) q)
          (sym (ap (λ (g : Pair). g.smaller) p) ∙ z ∙ ap (λ (g : Pair). g.smaller) q)

  low_more : (k : ℕ) → k < length more → key_of (gate_in more k) < 2 ^ key_bits
  low_more k b = go (last_or m k (omega (arith, longer)))
    where
      go : (k < m) ⊎ (k ≡ m) → key_of (gate_in more k) < 2 ^ key_bits
      go (inl i) = subst (λ (g : Pair). key_of g < 2 ^ key_bits) (sym (old_gate k i)) (t.low k i)
      go (inr e) = subst (λ (g : Pair). key_of g < 2 ^ key_bits) (sym (new-gate k e)) low

  pub trie_more : Trie n more links'
  trie_more =
      record {
        depth = depth';
        met = met_more;
        found = found_more;
        once = once_more;
        low = low_more;
        clean = λ b k i j l. clean_still b k i (omega (arith, longer)) l;
      }

-- with all links free there is no gate
pub trie_none : (n : ℕ) (links : List ℕ) → ((p : ℕ) → get_or links p 0 ≡ 0) → Trie n [] links
trie_none n links free =
    record {
      depth = λ k. 0;
      met = λ v key d p k h w e. absurd (let z = free p in omega arith);
      found = λ k h. absurd (omega arith);
      once = λ i j a b. absurd (omega arith);
      low = λ k h. absurd (omega arith);
      clean = λ b k i j l. free (link_at n b k);
    }
