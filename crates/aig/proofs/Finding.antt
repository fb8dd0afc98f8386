-- The search for a gate made, on the lent words. Assumes nothing.
use Rattle.std.specs.Prelude.{Some}
use Prim.Native.Nat.{ℕ, suc, ◌+◌, ◌-◌, ◌*◌, ◌/◌, ◌%◌, ◌^◌, ◌<◌, ◌≤◌}
use mathlib.Core.Path.{◌≡◌, sym, ◌∙◌, ap, ap₂, subst}
use mathlib.Core.Bool.{Bool, true, false, ◌&&◌}
use mathlib.Core.List.{List}
use native.Mathlib.Omega.{arith}
use native.Mathlib.Numerals.{add-one}
use borrow.Author.Tests.{eq-eqb}
use lib.Dec.{eqb}
use lib.ListN.{length, get_or, length-append, length-replicate, get_or-append}
use Rattle.lit.specs.declared.Lit.{Lit}
use Rattle.circuit.specs.Walk.{Pair, first_code}
use Rattle.circuit.specs.Outcome.{pair_words, zeros}
use Rattle.circuit.proofs.Words.{pairs_length, pairs_larger, pairs_smaller}
use Rattle.circuit.proofs.Tests.{Same, same, other, same_test}
use Rattle.aig.specs.declared.shape.Shape.{Shape}
use Rattle.fold.specs.declared.Pair as fold
use Rattle.aig.specs.declared.trie.Search.TheVariants.{Found, Free}
use Rattle.aig.specs.Layout.{links_at, links_size, links_of}
use Rattle.fold.specs.Fold.{already_of}
use Rattle.aig.specs.Already.{codes, Says}
use Rattle.aig.specs.Already as already
use Rattle.aig.specs.Trie.{larger_of, smaller_of, head_of, key_of, key_bits, link_at, Trie, Fresh}
use Rattle.aig.specs.Store.{larger_at, smaller_at, pair_at, code_at, MadeIn}
use Rattle.aig.proofs.Parts.{part_at, part_length}
use Rattle.aig.proofs.Branching.{before_none, before_some, way_within, Sought, sought_inside, sought_on, sought_all, sought_none}

module _ (s : Shape) (made : List Pair) (out scratch : List ℕ) (m : MadeIn s made out scratch) where
  pub out_length : length out ≡ 2 * s.gates
  out_length =
      ap length m.words
      ∙ omega (
        arith,
        length-append (pair_words made) (zeros (2 * (s.gates - length made))),
        pairs_length made,
        length-replicate {A = ℕ} (2 * (s.gates - length made)) 0,
        m.fits,
      )

  -- the codes that stand in the words
  larger_there : (j : ℕ) → j < length made → get_or out (larger_at j) 0 ≡ larger_of made j
  larger_there j h =
      ap (λ (l : List ℕ). get_or l (larger_at j) 0) m.words
      ∙ get_or-append (pair_words made) (zeros (2 * (s.gates - length made))) 0 (larger_at j) (omega (arith, pairs_length made)) ∙ pairs_larger made j h

  smaller_there : (j : ℕ) → j < length made → get_or out (smaller_at j) 0 ≡ smaller_of made j
  smaller_there j h =
      ap (λ (l : List ℕ). get_or l (smaller_at j) 0) m.words
      ∙ get_or-append (pair_words made) (zeros (2 * (s.gates - length made))) 0 (smaller_at j) (omega (arith, pairs_length made)) ∙ pairs_smaller made j h

  module _ (p : fold.Pair) (j : ℕ) (h : j < length made) where
    is_pair : pair_at out j p ≡ true → (larger_of made j ≡ p.larger.0) × (smaller_of made j ≡ p.smaller.0)
    unfolding pair_at
    is_pair = go (eqb (get_or out (smaller_at j) 0) p.smaller.0) (same_test _ _) (eqb (get_or out (larger_at j) 0) p.larger.0) (same_test _ _)
      where
        go : (a : Bool) → Same (get_or out (smaller_at j) 0) p.smaller.0 a → (b : Bool) → Same (get_or out (larger_at j) 0) p.larger.0 b
            → (a && b) ≡ true → (larger_of made j ≡ p.larger.0) × (smaller_of made j ≡ p.smaller.0)
        go true (same e) true (same f) z = (sym (larger_there j h) ∙ f, sym (smaller_there j h) ∙ e)
        go true (same e) false (other f) z = absurd (let q : ◌≡◌ {A = ℕ} 0 1 = cc in omega arith)
        go false (other e) b f z = absurd (let q : ◌≡◌ {A = ℕ} 0 1 = cc in omega arith)

    not_pair : pair_at out j p ≡ false → larger_of made j ≡ p.larger.0 → smaller_of made j ≡ p.smaller.0 → ⊥
    unfolding pair_at
    not_pair z e f =
        let a : eqb (get_or out (smaller_at j) 0) p.smaller.0 ≡ true = eq-eqb _ _ (smaller_there j h ∙ f) in
        let b : eqb (get_or out (larger_at j) 0) p.larger.0 ≡ true = eq-eqb _ _ (larger_there j h ∙ e) in
        let y : true ≡ false = sym (ap₂ (λ (u v : Bool). u && v) a b) ∙ z in
        let q : ◌≡◌ {A = ℕ} 0 1 = cc in omega arith

-- a search for a pair among the gates made has come to a place, `left` being left of its key
pub record Seeking (s : Shape) (p : fold.Pair) (made : List Pair) (out scratch : List ℕ) (d left place : ℕ) : Type 0 where
  pub on : s.hash ≡ true
  pub larger : p.larger.0 < 2 * s.vars
  pub smaller : p.smaller.0 < 2 * s.vars
  pub made_in : MadeIn s made out scratch
  pub at : ℕ
  pub is : place ≡ links_at s + at
  pub sought : Sought s.vars made (links_of s scratch) (codes p) d left at

head_low : (s : Shape) (p : fold.Pair) → p.larger.0 < 2 * s.vars → head_of (codes p) < s.vars
head_low s p h = omega arith

module _ {s : Shape} {p : fold.Pair} {made : List Pair} {out scratch : List ℕ} {d left place : ℕ} (q : Seeking s p made out scratch d left place) where
  abbrev m : MadeIn s made out scratch
  m = q.made_in

  abbrev trie : Trie s.vars made (links_of s scratch)
  trie = m.trie q.on

  low : head_of (codes p) < s.vars
  low = head_low s p q.larger

  key_low : key_of (codes p) < 2 ^ key_bits
  key_low = omega (arith, q.smaller, m.room.vars)

  at_within : q.at < links_size s
  at_within =
      way_within trie (head_of (codes p)) (key_of (codes p)) d q.at s.gates low m.fits (omega (arith, m.room.few)) q.sought.way

  pub seek_reads : place < length scratch
  seek_reads = omega (arith, at_within, q.is, m.room.long)

  word_there : get_or (links_of s scratch) q.at 0 ≡ get_or scratch place 0
  word_there = part_at (links_at s) (links_size s) scratch q.at at_within ∙ ap (λ (i : ℕ). get_or scratch i 0) (sym q.is)

  -- no gate is in the place, or gate k
  pub seek_free : get_or scratch place 0 ≡ 0 → Says s made p scratch (already.made_before s made p) (Free place)
  seek_free e =
      let empty : get_or (links_of s scratch) q.at 0 ≡ 0 = word_there ∙ e in
      let fresh : Fresh made (codes p) = sought_none trie (codes p) low d left q.at q.sought empty in (
        ap already_of (sym (before_none made (first_code s.sources) p.larger.0 p.smaller.0 fresh)),
        λ on.
            record {
              at = q.at;
              is = q.is;
              free =
                  record {
                    depth = d;
                    way = q.sought.way;
                    empty = empty;
                    inside = omega (arith, at_within, part_length (links_at s) (links_size s) scratch (omega (arith, m.room.long)));
                    fresh = fresh;
                  };
            },
      )

  module _ {k : ℕ} (e : get_or scratch place 0 ≡ suc k) where
    gate_there : get_or (links_of s scratch) q.at 0 ≡ suc k
    gate_there = word_there ∙ e

    seek_below : k < length made
    seek_below = sought_inside trie (codes p) low d left q.at q.sought k gate_there

    pub seek_low : k ≤ 1048576
    seek_low = omega (arith, seek_below, m.fits, m.room.gates)

    pub seek_inside : smaller_at k < length out
    seek_inside = omega (arith, out_length s made out scratch m, seek_below, m.fits)

    -- gate k has the pair
    its_code : (t : Lit) → (larger_of made k ≡ p.larger.0) × (smaller_of made k ≡ p.smaller.0) → t ≡ code_at s k
        → Says s made p scratch (already.made_before s made p) (Found t)
    its_code t z c =
        ap Some c
        ∙ ap already_of (sym (before_some made (first_code s.sources) p.larger.0 p.smaller.0 k seek_below z.0 z.1 trie.once))

    pub seek_last : {t : Lit} → d ≡ key_bits → t ≡ code_at s k → Says s made p scratch (already.made_before s made p) (Found t)
    seek_last {t} a c = its_code t (sought_all trie (codes p) low d left q.at q.sought k gate_there a key_low) c

    -- b says whether gate k has it
    module _ {b : Bool} (f : b ≡ pair_at out k p) where
      pub seek_hit : {t : Lit} → b ≡ true → t ≡ code_at s k → Says s made p scratch (already.made_before s made p) (Found t)
      seek_hit {t} h c = its_code t (is_pair s made out scratch m p k seek_below (sym f ∙ h)) c

      pub seek_on : {place' : ℕ} → b ≡ false → place' ≡ links_at s + link_at s.vars (left % 2) k → Seeking s p made out scratch (d + 1) (left / 2) place'
      seek_on h c =
          record {
            on = q.on;
            larger = q.larger;
            smaller = q.smaller;
            made_in = m;
            at = link_at s.vars (left % 2) k;
            is = c;
            sought =
                subst (λ (i : ℕ). Sought s.vars made (links_of s scratch) (codes p) i (left / 2) (link_at s.vars (left % 2) k)) (sym (add-one d))
                (sought_on trie (codes p) low d left q.at q.sought k gate_there (not_pair s made out scratch m p k seek_below (sym f ∙ h)));
          }
