-- The C entry for renumbering: what its tests tell where nothing is refused first, and its ways out. Assumes nothing.
use Prim.Native.Nat.{ℕ, ◌≤◌}
use mathlib.Core.Path.{◌≡◌, refl, sym, ap, ◌∙◌}
use mathlib.Core.Bool.{Bool, true, false, cond, not, ◌||◌}
use mathlib.Core.List.{List, [], ◌∷◌}
use native.Mathlib.Omega.{arith}
use lib.Dec.{eqb, ltb}
use lib.ListN.{length}
use borrow.Author.Tests.{ltb-false, le-ltb}
use Rattle.circuit.specs.declared.Refusal.TheVariants.{Misshapen}
use Rattle.circuit.specs.Outcome.{Lent, Outcome, onto, untouched, outcome}
use Rattle.circuit.proofs.Tests.{Same, same, other, same_test}
use Rattle.capi.specs.Renumber.{seen_of, misgiven, first_number, first_words, answer_number, answer_words, as_seen, renumber_seen}

-- how the test of counts and flags comes out
module _ (counts : List ℕ) (flags : ℕ) where
  pub five_counts : misgiven counts flags ≡ false → length counts ≡ 5
  unfolding misgiven
  five_counts e = go (eqb (length counts) 5) (same_test (length counts) 5) e
    where
      go : (b : Bool) → Same (length counts) 5 b → not b || ltb 7 flags ≡ false → length counts ≡ 5
      go b (same h) f = h
      go b (other h) f = absurd (let z : ◌≡◌ {A = ℕ} 0 1 = cc in omega arith)

-- where nothing is: there is room for the answer, counts and flags are taken, and the answer words stay
pub record Taken (counts : List ℕ) (flags : ℕ) (words ws : List ℕ) : Type 0 where
  pub room : 3 ≤ length words
  pub given : misgiven counts flags ≡ false
  pub stay : ws ≡ words

pub taken_room : {counts : List ℕ} {flags : ℕ} {words ws : List ℕ} → Taken counts flags words ws → 3 ≤ length ws
taken_room t = rw t.stay t.room

module _ (counts : List ℕ) (flags : ℕ) (words : List ℕ) (n : ℕ) (ws : List ℕ)
    (p : (n ≡ first_number counts flags words) × (ws ≡ first_words counts flags words)) where
  pub taken : n ≡ 0 → Taken counts flags words ws
  unfolding first_number first_words
  taken z = go (ltb (length words) 3) (misgiven counts flags) refl refl (sym z ∙ p.0) p.1
    where
      go : (short bad : Bool) → ltb (length words) 3 ≡ short → misgiven counts flags ≡ bad → ◌≡◌ {A = ℕ} 0 (cond short 3 (cond bad 2 0))
          → ws ≡ cond short words (cond bad (onto (0 ∷ 0 ∷ 0 ∷ []) words) words) → Taken counts flags words ws
      go true bad e m q w = absurd (omega arith)
      go false true e m q w = absurd (omega arith)
      go false false e m q w = record { room = ltb-false (length words) 3 e; given = m; stay = w }

  pub way_first : (n ≡ 0 → ⊥) → (l : Lent)
      → seen_of n l.map l.next_images l.reset_images l.root_images l.gates_out l.scratch ws ≡ renumber_seen counts flags l words
  unfolding first_number first_words renumber_seen
  way_first some l = go (ltb (length words) 3) (misgiven counts flags) p.0 p.1
    where
      go : (short bad : Bool) → n ≡ cond short 3 (cond bad 2 0) → ws ≡ cond short words (cond bad (onto (0 ∷ 0 ∷ 0 ∷ []) words) words)
          → seen_of n l.map l.next_images l.reset_images l.root_images l.gates_out l.scratch ws
          ≡ cond short (seen_of 3 l.map l.next_images l.reset_images l.root_images l.gates_out l.scratch words)
          (as_seen (cond bad (untouched l Misshapen) (outcome l)) words)
      go true bad q w = rw (q, w)
      go false true q w = rw (q, w)
      go false false q w = absurd (some q)

-- renumbering
module _ (counts : List ℕ) (flags : ℕ) (l : Lent) (words : List ℕ) where
  pub way_on : (kept : List ℕ) → Taken counts flags words kept → (k : Lent) → k ≡ l → (o : Outcome) → o ≡ outcome k → (n : ℕ) (ws : List ℕ)
      → (n ≡ answer_number o.answer) × (ws ≡ onto (answer_words o.answer) kept)
      → seen_of n o.map o.next_images o.reset_images o.root_images o.gates_out o.scratch ws ≡ renumber_seen counts flags l words
  unfolding renumber_seen
  way_on kept t k alike o ran n ws p =
      let e = le-ltb (length words) 3 t.room in
      rw (e, t.given, p.0, p.1, t.stay, ← alike) (ap (λ (x : Outcome). as_seen x words) ran)
