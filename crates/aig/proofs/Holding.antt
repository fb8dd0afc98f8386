-- Settling a gate on the lent lists does what it does to the work: the map gets the output's code, and a gate made stands after the others and in a
-- place of the trie that was free. Assumes nothing.
use Rattle.std.specs.Prelude.{Option, Some, None}
use Prim.Native.Nat.{ℕ, suc, ◌+◌, ◌*◌, ◌-◌, ◌^◌, ◌<◌}
use mathlib.Core.Path.{◌≡◌, refl, sym, ◌∙◌, ap, ap₂, subst}
use mathlib.Core.Bool.{Bool, true, false}
use mathlib.Core.List.{List, [], ◌∷◌, ◌++◌, append_assoc}
use native.Mathlib.Omega.{arith}
use native.Mathlib.Numerals.{add-one}
use lib.ListN.{length, set, take, length-append, length-set}
use lib.Seq.{set_at, take-set-le}
use Rattle.lit.specs.Code.{literal}
use Rattle.lit.specs.declared.Lit.{Lit}
use Rattle.circuit.specs.Map.{store}
use Rattle.circuit.specs.Walk as walk
use Rattle.circuit.specs.Walk.{Net, Work, source_count, first_code, next_code, settle_as}
use Rattle.circuit.specs.Machine.{Frame}
use Rattle.circuit.specs.Outcome.{gates_of, pair_words, zeros}
use Rattle.circuit.proofs.Words.{pairs_length, pairs_snoc}
use Rattle.aig.specs.declared.shape.Shape.{Shape}
use Rattle.fold.specs.declared.Pair.{Pair}
use Rattle.aig.specs.declared.walk.Walk.{Walk}
use Rattle.aig.specs.declared.walk.State.TheVariants.{Return}
use Rattle.aig.specs.Table.{Tabled}
use Rattle.aig.specs.Layout.{links_at, links_size, stack_at, stack_size, table_of, links_of, stack_of}
use Rattle.aig.specs.Trie.{head_of, key_of, key_bits, Trie, FreeAt, linked}
use Rattle.aig.specs.declared.trie.Search.{Search}
use Rattle.aig.specs.declared.trie.Search.TheVariants.{Found, Free}
use Rattle.aig.specs.Already.{codes, FreeIn, Says}
use Rattle.aig.specs.Store.{with_gate, MadeIn}
use Rattle.aig.specs.Settle.{Left, numbers, linked_if, settled}
use Rattle.aig.specs.Going.{Holds, Stacked}
use Rattle.aig.proofs.Parts.{part-set, part_before, part_length}
use Rattle.aig.proofs.Branching.{trie_more}

-- two zeros become the words of a gate
two_set : (front rest : List ℕ) (k hi lo : ℕ) → length front ≡ 2 * k → set (set (front ++ (0 ∷ 0 ∷ rest)) (2 * k) hi) (2 * k + 1) lo ≡ front ++ (hi ∷ lo ∷ rest)
two_set front rest k hi lo e =
    ap (λ (l : List ℕ). set l (2 * k + 1) lo) (set_at front 0 (0 ∷ rest) hi (2 * k) e ∙ sym (append_assoc front (hi ∷ []) (0 ∷ rest)))
    ∙ set_at (front ++ (hi ∷ [])) 0 rest lo (2 * k + 1) (omega (arith, length-append front (hi ∷ []))) ∙ append_assoc front (hi ∷ []) (lo ∷ rest)

module _ (s : Shape) (made : List walk.Pair) (out scratch : List ℕ) (m : MadeIn s made out scratch) (p : Pair) (room : length made < s.gates) where
  words_more : with_gate out (length made) p ≡ pair_words (made ++ (codes p ∷ [])) ++ zeros (2 * (s.gates - length (made ++ (codes p ∷ []))))
  words_more =
      let left_over : ℕ = 2 * (s.gates - length (made ++ (codes p ∷ []))) in
      let e : 2 * (s.gates - length made) ≡ suc (suc left_over) = omega (arith, length-append made (codes p ∷ [])) in
      ap (λ (l : List ℕ). with_gate l (length made) p) (m.words ∙ ap (λ (n : ℕ). pair_words made ++ zeros n) e)
      ∙ two_set (pair_words made) (zeros left_over) (length made) p.larger.0 p.smaller.0 (pairs_length made)
      ∙ sym (append_assoc (pair_words made) (p.larger.0 ∷ p.smaller.0 ∷ []) (zeros left_over))
      ∙ ap (λ (l : List ℕ). l ++ zeros left_over) (sym (pairs_snoc made (codes p)))

  -- in a place of the links
  module _ (at : ℕ) (inside : at < links_size s) where
    abbrev after : List ℕ
    after = linked (length made) (links_at s + at) scratch

    pub linked-length : length after ≡ length scratch
    linked-length = length-set scratch (links_at s + at) (length made + 1)

    pub linked_table : table_of s after ≡ table_of s scratch
    linked_table = take-set-le s.vars scratch (links_at s + at) (length made + 1) (omega arith)

    pub linked_stack : stack_of s after ≡ stack_of s scratch
    linked_stack = part_before (stack_at s) (stack_size s) scratch (links_at s + at) (length made + 1) (omega arith)

    linked_links : links_of s after ≡ set (links_of s scratch) at (suc (length made))
    linked_links =
        part-set (links_at s) (links_size s) scratch at (length made + 1) inside
        ∙ ap (set (links_of s scratch) at) (add-one (length made))

    pub linked_trie : s.hash ≡ true → FreeAt s.vars made (links_of s scratch) (codes p) at → p.larger.0 < 2 * s.vars → p.smaller.0 < 2 * s.vars
        → Trie s.vars (made ++ (codes p ∷ [])) (links_of s after)
    linked_trie on free hi-low lo-low =
        let head : head_of (codes p) < s.vars = omega arith in
        let key : key_of (codes p) < 2 ^ key_bits = omega (arith, m.room.vars) in
        subst (λ (l : List ℕ). Trie s.vars (made ++ (codes p ∷ [])) l) (sym linked_links)
        (trie_more (m.trie on) (codes p) at free head (omega (arith, m.room.few)) key)

  -- with the gate in
  made_more : (ws : List ℕ) → length ws ≡ length scratch → (s.hash ≡ true → Trie s.vars (made ++ (codes p ∷ [])) (links_of s ws))
      → MadeIn s (made ++ (codes p ∷ [])) (with_gate out (length made) p) ws
  made_more ws long t =
      record {
        room = record { vars = m.room.vars; gates = m.room.gates; few = m.room.few; long = long ∙ m.room.long };
        fits = omega (arith, length-append made (codes p ∷ []));
        words = words_more;
        trie = t;
      }

-- the next state and the lists after settling stand for the work w'
pub record Settles (s : Shape) (gates : List ℕ) (depth : ℕ) (fs : List Frame) (w' : Work) (r : Left) : Type 0 where
  pub made' : ℕ
  pub returns : r.state ≡ Return (numbers depth made')
  pub holds : Holds s gates made' w' r.map r.out r.scratch
  pub stacked : Stacked s depth fs r.scratch

module _ (N : Net) {s : Shape} (counted : s.sources ≡ source_count N) {gates : List ℕ} {w : Work} (n : Walk) {fs : List Frame} {map out scratch : List ℕ}
    (h : Holds s gates n.made w map out scratch) (st : Stacked s n.depth fs scratch) (d : Lit) (p : Pair) (room : n.made < s.gates)
    (fits : p.larger.0 < 2 * s.vars) (low : p.smaller.0 < 2 * s.vars) where
  abbrev mapped : ℕ → Work
  mapped t = record { images = store w.images d.0 t; made = w.made }

  settles_old : (t : ℕ) → Settles s gates n.depth fs (mapped t) (settled s n d p map out scratch (Found (literal t)))
  settles_old t =
      record {
        made' = n.made;
        returns = refl;
        holds = record { images = ap (λ (l : List ℕ). store l d.0 t) h.images; count = h.count; gates_made = h.gates_made; table = h.table };
        stacked = st;
      }

  abbrev done : Work
  done = record { images = store w.images d.0 (next_code (source_count N) w.made); made = w.made ++ (codes p ∷ []) }

  new_images : store map d.0 (first_code s.sources + 2 * n.made) ≡ done.images
  unfolding next_code
  new_images = rw (h.images, counted, h.count)

  below : length w.made < s.gates
  below = omega (arith, h.count)

  -- a gate made goes into the free place
  module _ (place : ℕ) (free : s.hash ≡ true → FreeIn s w.made p scratch place) where
    module _ (ws : List ℕ) (e : ws ≡ linked_if s.hash n.made place scratch) where
      by_flag : (b : Bool) → s.hash ≡ b
          → (length ws ≡ length scratch) × (table_of s ws ≡ table_of s scratch) × (stack_of s ws ≡ stack_of s scratch)
          × (s.hash ≡ true → Trie s.vars (w.made ++ (codes p ∷ [])) (links_of s ws))
      by_flag true z =
          let there = free z in
          let q : ws ≡ linked (length w.made) (links_at s + there.at) scratch
          = e ∙ ap (λ (b : Bool). linked_if b n.made place scratch) z ∙ ap₂ (λ (k i : ℕ). linked k i scratch) h.count there.is in
          let m = h.gates_made in
          let inside : there.at < links_size s
          = omega (arith, there.free.inside, part_length (links_at s) (links_size s) scratch (omega (arith, m.room.long))) in (
            ap length q ∙ linked-length s w.made out scratch m p below there.at inside,
            ap (table_of s) q ∙ linked_table s w.made out scratch m p below there.at inside,
            ap (stack_of s) q ∙ linked_stack s w.made out scratch m p below there.at inside,
            λ on. subst (λ (l : List ℕ). Trie s.vars (w.made ++ (codes p ∷ [])) (links_of s l)) (sym q)
                (linked_trie s w.made out scratch m p below there.at inside on there.free fits low),
          )
      by_flag false z =
          let q : ws ≡ scratch = e ∙ ap (λ (b : Bool). linked_if b n.made place scratch) z in (
            ap length q,
            ap (table_of s) q,
            ap (stack_of s) q,
            λ on. absurd (let f : true ≡ false = sym on ∙ z in let x : ◌≡◌ {A = ℕ} 0 1 = cc in omega arith),
          )

    settles_new : Settles s gates n.depth fs done (settled s n d p map out scratch (Free place))
    settles_new =
        let ws : List ℕ = linked_if s.hash n.made place scratch in
        let k = by_flag ws refl s.hash refl in
        record {
          made' = n.made + 1;
          returns = refl;
          holds =
              record {
                images = new_images;
                count = omega (arith, h.count, length-append w.made (codes p ∷ []));
                gates_made =
                    subst (λ (j : ℕ). MadeIn s (w.made ++ (codes p ∷ [])) (with_gate out j p) ws) (sym h.count)
                    (made_more s w.made out scratch h.gates_made p below ws k.0 k.3);
                table = subst (λ (l : List ℕ). Tabled (gates_of gates) l) (sym k.1) h.table;
              };
          stacked = record { count = st.count; words = ap (take n.depth) k.2 ∙ st.words };
        }

  pub settles : (o : Option ℕ) (a : Search) → Says s w.made p scratch o a
      → Settles s gates n.depth fs (settle_as N w d.0 p.larger.0 p.smaller.0 o) (settled s n d p map out scratch a)
  unfolding settle_as
  settles (Some t) (Found u) e =
      let same : u ≡ literal t = cc in
      subst (λ (x : Lit). Settles s gates n.depth fs (mapped t) (settled s n d p map out scratch (Found x))) (sym same) (settles_old t)
  settles None (Found u) e = absurd (let f : Some u ≡ None = e in let x : ◌≡◌ {A = ℕ} 0 1 = cc in omega arith)
  settles (Some t) (Free place) e = absurd (let f : None ≡ Some (literal t) = e.0 in let x : ◌≡◌ {A = ℕ} 0 1 = cc in omega arith)
  settles None (Free place) e = settles_new place e.1
