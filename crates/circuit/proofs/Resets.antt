-- What resets change of renumbering: check 22 finds none exactly where every latch has its reset; with every reset 0 renumbering is what it was; and whatever
-- they are, where they pass, they change nothing but the reset images. Assumes nothing.
use Rattle.std.specs.Prelude.{Option, Some, None, Err}
use Prim.Native.Nat.{ℕ, zero, suc, ◌+◌, ◌*◌}
use mathlib.Core.Path.{◌≡◌, refl, sym, ◌∙◌, ap, ap₂}
use mathlib.Core.Logic.{◌↔◌}
use mathlib.Core.Bool.{Bool, true, false, cond}
use mathlib.Core.List.{List, [], ◌∷◌, ◌++◌}
use native.Mathlib.Omega.{arith}
use borrow.Author.Tests.{le-leb}
use lib.Dec.{leb}
use lib.ListN.{length}
use Rattle.circuit.specs.declared.Refusal.TheVariants as R
use Rattle.lit.specs.declared.Lit.{Lit}
use Rattle.circuit.specs.Walk.{Out, reached, stopped}
use Rattle.circuit.specs.Circuit.{Circuit, gate_codes, latch_codes, codes, first_over, first_stray, walked, or_refuse, numbered, renumber}
use Rattle.circuit.specs.Ordered.{carried_from, ordered_of}
use Rattle.circuit.specs.Outcome.{Lent, circuit_of, cleared, untouched, is_early, zeros, conclusion, after, outcome}
use Rattle.circuit.specs.Claims.{AllReset, Passes, IsTrue}
use Rattle.circuit.specs.Tested.{Tested}
use Rattle.circuit.specs.Resets.{side_by_side, codes_before, renumber_before, with_resets, SameButResets}
use Rattle.circuit.proofs.Checks.{none_over, Stray, none_stray, one_stray, stray_test, none_stray_lem, is_first_stray}
use Rattle.circuit.proofs.Outcome.{conclusion_of}
use Rattle.circuit.proofs.Listed.{of_bounded}
use Rattle.circuit.proofs.Refusing.{tested, from_sizes, refusals_true_lem}

-- check 22 lets a circuit by exactly when every latch's reset is 0, 1 or its own literal
pub stray_exactly : (states resets : List ℕ) → (first_stray states resets ≡ None) ↔ AllReset states resets
stray_exactly ss rs = (to (first_stray ss rs) (stray_test ss rs), none_stray_lem ss rs)
  where
    to : (o : Option ℕ) → Stray ss rs o → o ≡ None → AllReset ss rs
    to None (none_stray f) e = f
    to (Some r) (one_stray r' k) e = absurd (let z : ◌≡◌ {A = ℕ} 0 1 = cc in omega arith)

-- renumbering refuses by 22 exactly when checks 1 to 4 are passed and this is the first reset that is not 0, 1 or its latch's literal
pub reset_exactly : (l : Lent) (d : Lit) → ((outcome l).answer ≡ Err (R.Reset d)) ↔ IsTrue l (R.Reset d)
unfolding outcome after renumber
reset_exactly l d = (refusals_true_lem l (R.Reset d), back)
  where
    back : IsTrue l (R.Reset d) → (outcome l).answer ≡ Err (R.Reset d)
    back (s, b, k) =
        rw (
          conclusion_of l (from_sizes l s),
          none_over (2 * (circuit_of l).top + 1) (codes (circuit_of l)) (of_bounded (circuit_of l) b),
          is_first_stray l.states l.resets d.0 k,
        )

-- resets that are all 0 are never at fault
zeros_none : (ss : List ℕ) (n : ℕ) → first_stray ss (zeros n) ≡ None
zeros_none [] n = refl
zeros_none (s ∷ ss) zero = refl
zeros_none (s ∷ ss) (suc n) = zeros_none ss n

-- the first code over a bound is found behind codes that are not
behind : (bound : ℕ) (xs ys zs : List ℕ) → first_over bound ys ≡ first_over bound zs → first_over bound (xs ++ ys) ≡ first_over bound (xs ++ zs)
behind bound [] ys zs e = e
behind bound (x ∷ xs) ys zs e = ap (λ (o : Option ℕ). cond (leb x bound) o (Some x)) (behind bound xs ys zs e)

latches_same : (bound : ℕ) (ss ns ys : List ℕ) → first_over bound (latch_codes ss ns (zeros (length ss)) ++ ys) ≡ first_over bound (side_by_side ss ns ++ ys)
latches_same bound [] ns ys = refl
latches_same bound (s ∷ ss) [] ys = refl
latches_same bound (s ∷ ss) (n ∷ ns) ys =
    let low : leb 0 bound ≡ true = le-leb 0 bound (omega arith) in
    ap (λ (b : Bool). cond (leb s bound)
    (cond (leb n bound) (cond b (first_over bound (latch_codes ss ns (zeros (length ss)) ++ ys)) (Some 0)) (Some n)) (Some s)) low
    ∙ ap (λ (o : Option ℕ). cond (leb s bound) (cond (leb n bound) o (Some n)) (Some s)) (latches_same bound ss ns ys)

-- with every reset 0 renumbering is what it was before latches had resets
pub as_before : (C : Circuit) → C.resets ≡ zeros (length C.states) → renumber C ≡ renumber_before C
unfolding renumber renumber_before codes codes_before
as_before C e =
    let bound : ℕ = 2 * C.top + 1 in
    let four : first_over bound (C.inputs ++ (gate_codes C.gates ++ (latch_codes C.states C.nexts C.resets ++ C.roots)))
    ≡ first_over bound (C.inputs ++ (gate_codes C.gates ++ (side_by_side C.states C.nexts ++ C.roots)))
    = behind bound C.inputs _ _ (behind bound (gate_codes C.gates) _ _
    (ap (λ (rs : List ℕ). first_over bound (latch_codes C.states C.nexts rs ++ C.roots)) e ∙ latches_same bound C.states C.nexts C.roots)) in
    let none_stray_lem : first_stray C.states C.resets ≡ None = ap (first_stray C.states) e ∙ zeros_none C.states (length C.states) in
    ap₂ (λ (x y : Option ℕ). or_refuse x R.Over (or_refuse y R.Reset (numbered C))) four none_stray_lem

-- and the reset images are 0 too
pub zeros-carried : (t n : ℕ) → carried_from t (zeros n) ≡ zeros n
zeros-carried t zero = refl
zeros-carried t (suc n) = ap {B = List ℕ} (λ l. 0 ∷ l) (zeros-carried (t + 2) n)

-- resets that pass change nothing but the reset images
module _ (l : Lent) (resets : List ℕ) (p : Passes l) (q : Passes (with_resets l resets)) where
  abbrev l' : Lent
  l' = with_resets l resets

  passed : (m : Lent) → Tested m → conclusion m ≡ numbered (circuit_of m)
  unfolding renumber
  passed m t = conclusion_of m t.fits ∙ rw (t.four, t.twenty_two)

  numbered_same : numbered (circuit_of l) ≡ numbered (circuit_of l')
  unfolding numbered walked
  numbered_same = refl

  after_same : (o : Out) → SameButResets (after l o) (after l' o)
  unfolding after ordered_of
  after_same (reached w) = record { answer = refl; map = refl; next_images = refl; root_images = refl; gates_out = refl; scratch = refl }
  after_same (stopped r) = go (is_early r)
    where
      go : (b : Bool) → SameButResets (cond b (untouched l r) (cleared l (circuit_of l) r)) (cond b (untouched l' r) (cleared l' (circuit_of l') r))
      go true = record { answer = refl; map = refl; next_images = refl; root_images = refl; gates_out = refl; scratch = refl }
      go false = record { answer = refl; map = refl; next_images = refl; root_images = refl; gates_out = refl; scratch = refl }

  pub resets_unseen : SameButResets (outcome l) (outcome l')
  unfolding outcome
  resets_unseen =
      let here : conclusion l ≡ numbered (circuit_of l) = passed l (tested l p) in
      let there : conclusion l' ≡ numbered (circuit_of l) = passed l' (tested l' q) ∙ sym numbered_same in
      rw (here, there) (after_same (numbered (circuit_of l)))
