-- What settling a gate finds: a code that stands for the AND of the two images, by a folding row, by a gate made before, or by one gate more. In
-- each case the code has the bit of the AND, and what was there keeps its bits. Assumes nothing.
use Rattle.std.specs.Prelude.{Option, Some, None}
use Prim.Native.Nat.{ℕ, zero, suc, ◌+◌, ◌*◌, ◌<◌, ◌≤◌}
use mathlib.Core.Path.{◌≡◌, refl, sym, ◌∙◌, ap, ap₂, subst}
use mathlib.Core.Logic.{◌⊎◌, inl, inr, ◌≢◌}
use mathlib.Core.Bool.{Bool, true, false, cond, ◌&&◌, ◌||◌}
use mathlib.Core.List.{List, [], ◌∷◌, ◌++◌}
use native.Mathlib.Omega.{arith}
use lib.Dec.{eqb}
use lib.ListN.{length, get_or, take, length-append, get_or-append}
use lib.Seq.{get_or-append_seam, take-append-le, take-append_seam}
use Rattle.circuit.specs.Walk.{Net, source_count, Pair, first_code, next_code, folded, or_else, made_before, folded_if, already}
use Rattle.circuit.specs.Ordered.{no_pair, InOrder}
use Rattle.circuit.proofs.Tests.{Same, same, other, same_test, last_or}
use Rattle.circuit.proofs.Values.{val-zero, val-one, val_old, val_new, val_gate}
use Rattle.circuit.specs.Invariant.{val, pair, Makes, Fresh}

and-false : (x : Bool) → x && false ≡ false
and-false true = refl
and-false false = refl

and-true : (x : Bool) → x && true ≡ x
and-true true = refl
and-true false = refl

and_self : (x : Bool) → x && x ≡ x
and_self true = refl
and_self false = refl

pub and_comm : (x y : Bool) → x && y ≡ y && x
and_comm true true = refl
and_comm true false = refl
and_comm false true = refl
and_comm false false = refl

-- over n sources, the code t has the bit of the AND of a and b
pub record Stands (n : ℕ) (made : List Pair) (t a b : ℕ) : Type 0 where
  pub below : t < next_code n made
  pub ands : (given : ℕ → Bool) → val n given made t ≡ val n given made a && val n given made b

abbrev StandsIf : ℕ → List Pair → ℕ → ℕ → Option ℕ → Type 0
StandsIf n made hi lo None = Unit {0}
StandsIf n made hi lo (Some t) = Stands n made t hi lo

module _ (n : ℕ) (made : List Pair) (hi lo : ℕ) (p : hi < next_code n made) (q : lo < next_code n made) where
  next_pos : 1 < next_code n made
  unfolding next_code first_code
  next_pos = omega arith

  -- a folding row keeps the bit
  pub folded_stands : StandsIf n made hi lo (folded hi lo)
  unfolding folded
  folded_stands =
      go (eqb hi 0) (same_test hi 0) (eqb lo 0) (same_test lo 0) (eqb hi 1) (same_test hi 1) (eqb hi lo) (same_test hi lo) (eqb lo 1) (same_test lo 1)
    where
      go : (a : Bool) → Same hi 0 a → (b : Bool) → Same lo 0 b → (c : Bool) → Same hi 1 c → (d : Bool) → Same hi lo d → (e : Bool) → Same lo 1 e
          → StandsIf n made hi lo (cond (a || b) (Some 0) (cond (c || d) (Some lo) (cond e (Some hi) None)))
      go true (same h) b s₂ c s₃ d s₄ e s₅ = record { below = omega (arith, next_pos); ands = λ given. rw (h, val-zero n given made) }
      go false s₁ true (same h) c s₃ d s₄ e s₅ =
          record { below = omega (arith, next_pos); ands = λ given. rw (h, val-zero n given made) (sym (and-false (val n given made hi))) }
      go false s₁ false s₂ true (same h) d s₄ e s₅ = record { below = q; ands = λ given. rw (h, val-one n given made) }
      go false s₁ false s₂ false s₃ true (same h) e s₅ = record { below = q; ands = λ given. rw h (sym (and_self (val n given made lo))) }
      go false s₁ false s₂ false s₃ false s₄ true (same h) =
          record { below = p; ands = λ given. rw (h, val-one n given made) (sym (and-true (val n given made hi))) }
      go false s₁ false s₂ false s₃ false s₄ false s₅ = tt

  pub folded_if_stands : (fold : Bool) → StandsIf n made hi lo (folded_if fold hi lo)
  folded_if_stands true = folded_stands
  folded_if_stands false = tt

-- the search among the gates made, with what it says
data Before (ps : List Pair) (t hi lo : ℕ) : Option ℕ → Type 0 where
  before : (s j : ℕ) → j < length ps → s ≡ t + 2 * j → get_or ps j no_pair ≡ pair hi lo → Before ps t hi lo (Some s)
  never : ((j : ℕ) → j < length ps → get_or ps j no_pair ≢ pair hi lo) → Before ps t hi lo None

before_is : (ps : List Pair) (t hi lo : ℕ) → Before ps t hi lo (made_before ps t hi lo)
before_is [] t hi lo = never (λ j h. absurd (omega arith))
before_is (p ∷ ps) t hi lo =
    go (made_before ps (t + 2) hi lo) (before_is ps (t + 2) hi lo) (eqb p.larger hi) (same_test p.larger hi) (eqb p.smaller lo) (same_test p.smaller lo)
  where
    not_here : (p ≢ pair hi lo) → ((j : ℕ) → j < length ps → get_or ps j no_pair ≢ pair hi lo) → (j : ℕ) → j < length (p ∷ ps)
        → get_or (p ∷ ps) j no_pair ≢ pair hi lo
    not_here n f zero h = n
    not_here n f (suc j) h = f j (omega arith)

    go : (o : Option ℕ) → Before ps (t + 2) hi lo o → (a : Bool) → Same p.larger hi a → (b : Bool) → Same p.smaller lo b
        → Before (p ∷ ps) t hi lo (or_else o (cond (a && b) (Some t) None))
    go o (before s j h e k) a s₁ b s₂ = before s (suc j) (omega arith) (omega arith) k
    go o (never f) true (same h) true (same k) = before t 0 (omega arith) (omega arith) (ap₂ pair h k)
    go o (never f) true s₁ false (other k) = never (not_here (λ e. k (ap (λ (x : Pair). x.smaller) e)) f)
    go o (never f) false (other k) b s₂ = never (not_here (λ e. k (ap (λ (x : Pair). x.larger) e)) f)

-- what stands for the pair already, with what it says
pub data Already (N : Net) (made : List Pair) (hi lo : ℕ) : Option ℕ → Type 0 where
  is_folded : (t : ℕ) → folded_if N.fold hi lo ≡ Some t → Already N made hi lo (Some t)
  is_made : (t j : ℕ) → folded_if N.fold hi lo ≡ None → N.hash ≡ true → j < length made → t ≡ first_code (source_count N) + 2 * j
      → get_or made j no_pair ≡ pair hi lo
      → Already N made hi lo (Some t)
  is_new : folded_if N.fold hi lo ≡ None → (N.hash ≡ true → (j : ℕ) → j < length made → get_or made j no_pair ≢ pair hi lo) → Already N made hi lo None

pub already_is : (N : Net) (made : List Pair) (hi lo : ℕ) → Already N made hi lo (already N made hi lo)
unfolding already
already_is N made hi lo =
    go (folded_if N.fold hi lo) refl N.hash refl (made_before made (first_code (source_count N)) hi lo) (before_is made (first_code (source_count N)) hi lo)
  where
    go : (f : Option ℕ) → folded_if N.fold hi lo ≡ f → (h : Bool) → N.hash ≡ h → (m : Option ℕ) → Before made (first_code (source_count N)) hi lo m
        → Already N made hi lo (or_else f (cond h m None))
    go (Some t) e h k m b = is_folded t e
    go None e true k m (before s j l q r) = is_made s j e k l q r
    go None e true k m (never n) = is_new e (λ z. n)
    go None e false k m b = is_new e (λ z. absurd (let y : ◌≡◌ {A = Bool} true false = cc in let w : ◌≡◌ {A = ℕ} 0 1 = cc in omega arith))

-- a code t is found for the AND of hi and lo, perhaps by one gate more
pub record Placed (N : Net) (made : List Pair) (hi lo t : ℕ) (made' : List Pair) : Type 0 where
  pub below : t < next_code (source_count N) made'
  pub more : next_code (source_count N) made ≤ next_code (source_count N) made'
  pub keep : (given : ℕ → Bool) (s : ℕ) → s < next_code (source_count N) made → val (source_count N) given made' s ≡ val (source_count N) given made s
  pub ands : (given : ℕ → Bool) → val (source_count N) given made' t ≡ val (source_count N) given made hi && val (source_count N) given made lo
  pub order : InOrder (source_count N) made'
  pub one_more : length made' ≤ suc (length made)
  pub makes : Makes N made' hi lo t
  pub grows : (a b s : ℕ) → Makes N made a b s → Makes N made' a b s
  pub fresh : Fresh N made'
  pub own : N.hash ≡ false → folded_if N.fold hi lo ≡ None → next_code (source_count N) made ≤ t
  -- each gate was there before, or is the one more, made because no folding row took the pair
  pub only : (j : ℕ) → j < length made'
      → ((j < length made) × (get_or made' j no_pair ≡ get_or made j no_pair))
      ⊎ ((t ≡ first_code (source_count N) + 2 * j) × (get_or made' j no_pair ≡ pair hi lo) × (folded_if N.fold hi lo ≡ None))

module _ (N : Net) (made : List Pair) (hi lo : ℕ) (ordered : lo ≤ hi) (small : hi < next_code (source_count N) made)
    (order : InOrder (source_count N) made) (fresh : Fresh N made) where
  abbrev n : ℕ
  n = source_count N

  pub placed_old : (t : ℕ) → Already N made hi lo (Some t) → Placed N made hi lo t made
  unfolding next_code
  placed_old t (is_folded t' e) =
      let s : Stands n made t hi lo = subst (StandsIf n made hi lo) e (folded_if_stands n made hi lo small (omega arith) N.fold) in
      record {
        below = s.below;
        more = omega arith;
        keep = λ given k h. refl;
        ands = s.ands;
        order = order;
        one_more = omega arith;
        makes = inl e;
        grows = λ a b u m. m;
        fresh = fresh;
        own = λ h k. absurd (let y : ◌≡◌ {A = Option ℕ} None (Some t) = sym k ∙ e in let z : ◌≡◌ {A = ℕ} 0 1 = cc in omega arith);
        only = λ j h. inl (h, refl);
      }
  placed_old t (is_made t' j e h l q r) =
      record {
        below = omega arith;
        more = omega arith;
        keep = λ given k h. refl;
        ands =
            λ given.
            ap (val n given made) q ∙ val_gate n made order given j l
            ∙ ap₂ (λ (x y : ℕ). val n given made x && val n given made y) (ap (λ (p : Pair). p.larger) r) (ap (λ (p : Pair). p.smaller) r);
        order = order;
        one_more = omega arith;
        makes = inr (j, l, q, r, e);
        grows = λ a b u m. m;
        fresh = fresh;
        own = λ k z. absurd (let y : ◌≡◌ {A = Bool} true false = sym h ∙ k in let w : ◌≡◌ {A = ℕ} 0 1 = cc in omega arith);
        only = λ i k. inl (k, refl);
      }

  abbrev made' : List Pair
  made' = made ++ (pair hi lo ∷ [])

  longer : length made' ≡ length made + 1
  longer = length-append made (pair hi lo ∷ [])

  order' : (j : ℕ) → (j < length made) ⊎ (j ≡ length made) → ((get_or made' j no_pair).smaller ≤ (get_or made' j no_pair).larger)
      × ((get_or made' j no_pair).larger < first_code n + 2 * j)
  unfolding next_code
  order' j (inl h) = rw (get_or-append made (pair hi lo ∷ []) no_pair j h) (order j h)
  order' j (inr e) = rw (e, get_or-append_seam made (pair hi lo) [] no_pair) (ordered, small)

  fresh' : already N made hi lo ≡ None → (j : ℕ) → (j < length made) ⊎ (j ≡ length made)
      → already N (take j made') (get_or made' j no_pair).larger (get_or made' j no_pair).smaller ≡ None
  fresh' a j (inl h) =
      rw (get_or-append made (pair hi lo ∷ []) no_pair j h, take-append-le j made (pair hi lo ∷ []) (omega arith)) (fresh j h)
  fresh' a j (inr e) = rw (e, get_or-append_seam made (pair hi lo) [] no_pair, take-append_seam made (pair hi lo ∷ [])) a

  grows' : (a b s : ℕ) → Makes N made a b s → Makes N made' a b s
  grows' a b s (inl e) = inl e
  grows' a b s (inr m) = inr (m.0, omega (arith, m.1, longer), m.2, get_or-append made (pair hi lo ∷ []) no_pair m.0 m.1 ∙ m.3, m.4)

  only' : folded_if N.fold hi lo ≡ None → (j : ℕ) → (j < length made) ⊎ (j ≡ length made)
      → ((j < length made) × (get_or made' j no_pair ≡ get_or made j no_pair))
      ⊎ ((next_code n made ≡ first_code n + 2 * j) × (get_or made' j no_pair ≡ pair hi lo) × (folded_if N.fold hi lo ≡ None))
  unfolding next_code
  only' f j (inl h) = inl (h, get_or-append made (pair hi lo ∷ []) no_pair j h)
  only' f j (inr e) =
      inr (omega arith, ap (λ (k : ℕ). get_or made' k no_pair) e ∙ get_or-append_seam made (pair hi lo) [] no_pair, f)

  pub placed_new : already N made hi lo ≡ None → folded_if N.fold hi lo ≡ None → Placed N made hi lo (next_code n made) made'
  unfolding next_code
  placed_new a f =
      record {
        below = omega (arith, longer);
        more = omega (arith, longer);
        keep = λ given s h. val_old n given made (pair hi lo) s h;
        ands = λ given. val_new n given made (pair hi lo);
        order = λ j h. order' j (last_or (length made) j (omega (arith, longer)));
        one_more = omega (arith, longer);
        makes = inr (length made, omega (arith, longer), refl, get_or-append_seam made (pair hi lo) [] no_pair, f);
        grows = grows';
        fresh = λ j h. fresh' a j (last_or (length made) j (omega (arith, longer)));
        own = λ h k. omega arith;
        only = λ j h. only' f j (last_or (length made) j (omega (arith, longer)));
      }
