-- Laws of checks 4 and 22 in the code's own terms: lists are searched side by side, and one after another. Assumes nothing.
use Rattle.std.specs.Prelude.{Option, Some, None, MatchOption}
use Rattle.std.specs.Option.{option_or}
use Rattle.std.specs.List.{zip}
use Rattle.std.proofs.lemmas.Slice.Zip.{length-zip, get_or-zip}
use Prim.Native.Nat.{ℕ, ◌+◌, ◌*◌, ◌%◌, ◌<◌, ◌≤◌, min}
use mathlib.Core.Path.{◌≡◌, refl, sym, ap, ◌∙◌}
use mathlib.Core.Bool.{Bool, true, false, cond}
use mathlib.Core.List.{List, [], ◌∷◌, ◌++◌}
use native.Mathlib.Omega.{arith}
use lib.Dec.{leb}
use lib.ListN.{length, get_or, drop}
use borrow.Author.Tests.{leb-true, leb-false}
use Rattle.lit.specs.declared.Lit.{Lit}
use Rattle.circuit.specs.Circuit.{gate_codes, latch_codes, codes, first_over, first_stray}
use Rattle.circuit.specs.Outcome.{Lent, circuit_of, gates_of}
use Rattle.checks.specs.Checks.{found, Shaped}
use Rattle.lent.proofs.Rows.{drop_at_one, drop_at_end}

-- latches side by side: the codes of one, and of those after it
module _ (ss ns rs : List ℕ) (k s n r : ℕ) (h : k < length (zip (zip ss ns) rs)) (e : ((s, n), r) ≡ get_or (zip (zip ss ns) rs) k ((s, n), r)) where
  pub latch_turn : latch_codes (drop k ss) (drop k ns) (drop k rs) ≡ s ∷ n ∷ r ∷ latch_codes (drop (k + 1) ss) (drop (k + 1) ns) (drop (k + 1) rs)
  latch_turn =
      let few : k < min (min (length ss) (length ns)) (length rs) = simp (length-zip {A = ℕ × ℕ} {B = ℕ}, length-zip {A = ℕ} {B = ℕ}) at h in
      let pair : k < length (zip ss ns) = simp (length-zip {A = ℕ} {B = ℕ}) (omega arith) in
      let outer = e ∙ get_or-zip (zip ss ns) rs k ((s, n), r) pair (omega arith) in
      let inner = get_or-zip ss ns k (s, n) (omega arith) (omega arith) in
      let es : s ≡ get_or ss k s = ap (λ (p : (ℕ × ℕ) × ℕ). p.0.0) outer ∙ ap (λ (p : ℕ × ℕ). p.0) inner in
      let en : n ≡ get_or ns k n = ap (λ (p : (ℕ × ℕ) × ℕ). p.0.1) outer ∙ ap (λ (p : ℕ × ℕ). p.1) inner in
      let er : r ≡ get_or rs k r = ap (λ (p : (ℕ × ℕ) × ℕ). p.1) outer in
      rw (drop_at_one ss k s (omega arith), drop_at_one ns k n (omega arith), drop_at_one rs k r (omega arith), sym es, sym en, sym er)

-- codes are passed of which none is over the bound
pub over_past : (bound : ℕ) (xs ys : List ℕ) → found (first_over bound xs) ≡ None → first_over bound (xs ++ ys) ≡ first_over bound ys
over_past bound [] ys e = refl
over_past bound (x ∷ xs) ys e = go (leb x bound) (over_past bound xs ys) e
  where
    go : (b : Bool) → (found (first_over bound xs) ≡ None → first_over bound (xs ++ ys) ≡ first_over bound ys)
        → found (cond b (first_over bound xs) (Some x)) ≡ None → cond b (first_over bound (xs ++ ys)) (Some x) ≡ first_over bound ys
    go true k e = k e
    go false k e = absurd cc

-- none is left where one of the lists ends
no_latch : (ss ns rs : List ℕ) (k : ℕ) (a b : Bool) → leb (length ss) k ≡ a → leb (length ns) k ≡ b → min (min (length ss) (length ns)) (length rs) ≤ k
    → latch_codes (drop k ss) (drop k ns) (drop k rs) ≡ []
no_latch ss ns rs k true b p q h = rw (drop_at_end ss k (leb-true _ _ p))
no_latch ss ns rs k false true p q h = let g = leb-false _ _ p in rw (drop_at_one ss k 0 (omega arith), drop_at_end ns k (leb-true _ _ q))
no_latch ss ns rs k false false p q h =
    let g = leb-false _ _ p in let j = leb-false _ _ q in
    rw (drop_at_one ss k 0 (omega arith), drop_at_one ns k 0 (omega arith), drop_at_end rs k (omega arith))

pub latch_end : (ss ns rs : List ℕ) (k : ℕ) → k ≡ length (zip (zip ss ns) rs) → latch_codes (drop k ss) (drop k ns) (drop k rs) ≡ []
latch_end ss ns rs k e =
    let few : k ≡ min (min (length ss) (length ns)) (length rs) = simp (length-zip {A = ℕ × ℕ} {B = ℕ}, length-zip {A = ℕ} {B = ℕ}) at e in
    no_latch ss ns rs k _ _ refl refl (omega arith)

no_stray : (ss rs : List ℕ) (k : ℕ) (a : Bool) → leb (length ss) k ≡ a → min (length ss) (length rs) ≤ k → first_stray (drop k ss) (drop k rs) ≡ None
no_stray ss rs k true p h = rw (drop_at_end ss k (leb-true _ _ p))
no_stray ss rs k false p h = let g = leb-false _ _ p in rw (drop_at_one ss k 0 (omega arith), drop_at_end rs k (omega arith))

pub stray_end : (ss rs : List ℕ) (k : ℕ) → k ≡ min (length ss) (length rs) → first_stray (drop k ss) (drop k rs) ≡ None
stray_end ss rs k e = no_stray ss rs k _ refl (omega arith)

-- lists one after another
pub over-append : (bound : ℕ) (xs ys : List ℕ) → found (first_over bound (xs ++ ys)) ≡ option_or (found (first_over bound xs)) (found (first_over bound ys))
over-append bound [] ys = refl
over-append bound (x ∷ xs) ys = go (leb x bound) (over-append bound xs ys)
  where
    go : (b : Bool) → found (first_over bound (xs ++ ys)) ≡ option_or (found (first_over bound xs)) (found (first_over bound ys))
        → found (cond b (first_over bound (xs ++ ys)) (Some x)) ≡ option_or (found (cond b (first_over bound xs) (Some x))) (found (first_over bound ys))
    go true e = e
    go false e = refl

-- what `or_else` gives, where the closure gives this
pub or_else_is : (o r next : Option Lit) {P : Type 0} → MatchOption o P (λ x. r ≡ Some x) → (P → r ≡ next) → r ≡ option_or o next
or_else_is None r next e k = k e
or_else_is (Some l) r next e k = e

pub option_or_assoc : (a b c : Option Lit) → option_or (option_or a b) c ≡ option_or a (option_or b c)
option_or_assoc None b c = refl
option_or_assoc (Some x) b c = refl

-- the codes of whole gates are the words of their flat list
pub flat_codes : (ws : List ℕ) → length ws % 3 ≡ 0 → gate_codes (gates_of ws) ≡ ws
flat_codes [] e = refl
flat_codes (a ∷ []) e = absurd (omega arith)
flat_codes (a ∷ b ∷ []) e = absurd (omega arith)
flat_codes (a ∷ b ∷ c ∷ ws) e = ap {B = List ℕ} (λ l. a ∷ b ∷ c ∷ l) (flat_codes ws (omega arith))

-- all codes of what is lent, where the code has the bound b
module _ (l : Lent) (b : ℕ) (is_bound : b ≡ 2 * (circuit_of l).top + 1) (shaped : Shaped l.states l.nexts l.resets l.gates) where
  abbrev first : List ℕ → Option Lit
  first cs = found (first_over b cs)

  pub over_all : found (first_over (2 * (circuit_of l).top + 1) (codes (circuit_of l)))
      ≡ option_or (option_or (option_or (first l.inputs) (first l.gates)) (first (latch_codes l.states l.nexts l.resets))) (first l.roots)
  unfolding codes
  over_all =
      ap (λ (k : ℕ). found (first_over k (l.inputs ++ (gate_codes (gates_of l.gates) ++ (latch_codes l.states l.nexts l.resets ++ l.roots))))) (sym is_bound)
      ∙ over-append b l.inputs _
      ∙ ap (λ (f : Option Lit). option_or (first l.inputs) f)
      (over-append b (gate_codes (gates_of l.gates)) _
      ∙ ap (λ (cs : List ℕ). option_or (first cs) (first (latch_codes l.states l.nexts l.resets ++ l.roots))) (flat_codes l.gates shaped.whole)
      ∙ ap (λ (f : Option Lit). option_or (first l.gates) f) (over-append b (latch_codes l.states l.nexts l.resets) l.roots))
      ∙ sym (option_or_assoc (option_or (first l.inputs) (first l.gates)) _ _ ∙ option_or_assoc (first l.inputs) (first l.gates) _)
