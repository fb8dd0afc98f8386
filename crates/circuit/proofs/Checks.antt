-- What checks 4, 22, 5 and 6 say: each names the first offender of its list, and finds none exactly where there is none. Assumes nothing.
use Rattle.std.specs.Prelude.{Option, Some, None}
use Prim.Native.Nat.{ℕ, zero, suc, ◌<◌, ◌≤◌}
use mathlib.Core.Path.{◌≡◌, refl, sym, ◌∙◌, ap, subst, subst⁻¹}
use mathlib.Core.Logic.{◌⊎◌, inl, inr, ◌↔◌}
use mathlib.Core.Bool.{Bool, true, false, cond, ◌||◌}
use mathlib.Core.List.{List, [], ◌∷◌, ◌++◌, map}
use native.Mathlib.Omega.{arith}
use borrow.Author.Tests.{le-leb}
use lib.Dec.{eqb, leb}
use lib.ListN.{get_or}
use Rattle.lit.specs.Code.{var}
use Rattle.circuit.specs.Graph.{In, Distinct, Gate, out_var}
use Rattle.circuit.specs.Circuit.{first_over, is_reset, first_stray, elem, first_again}
use Rattle.circuit.specs.Claims.{AllWithin, IsReset, AllReset, FirstOver, FirstStray, FirstAgain}
use Rattle.circuit.proofs.Tests.{AtMost, at_most, above, le_test, Same, same, other, same_test, lt_or}
use Rattle.circuit.proofs.Lists.{In-left, In-right, In-cases, Distinct-left, Distinct-right, Distinct-apart, Distinct-join, Elem, inside, outside, elem_test}

pub data Over (bound : ℕ) (cs : List ℕ) : Option ℕ → Type 0 where
  no_over : ((c : ℕ) → In c cs → c ≤ bound) → Over bound cs None
  one_over : (c : ℕ) → FirstOver bound cs c → Over bound cs (Some c)

pub over_test : (bound : ℕ) (cs : List ℕ) → Over bound cs (first_over bound cs)
over_test bound [] = no_over (λ c h. absurd h)
over_test bound (c ∷ cs) = go (leb c bound) (le_test c bound) (first_over bound cs) (over_test bound cs)
  where
    all : c ≤ bound → (l : List ℕ) → ((x : ℕ) → In x l → x ≤ bound) → (x : ℕ) → In x (c ∷ l) → x ≤ bound
    all h l f x (inl e) = omega arith
    all h l f x (inr k) = f x k

    go : (b : Bool) → AtMost c bound b → (o : Option ℕ) → Over bound cs o → Over bound (c ∷ cs) (cond b o (Some c))
    go true (at_most h) o (no_over f) = no_over (all h cs f)
    go true (at_most h) o (one_over c' k) =
        one_over c'
        (record {
          before = c ∷ k.before;
          after = k.after;
          splits = ap {B = List ℕ} (λ l. c ∷ l) k.splits;
          is_over = k.is_over;
          within = all h k.before k.within;
        })
    go false (above h) o v = one_over c (record { before = []; after = cs; splits = refl; is_over = h; within = λ x k. absurd k })

-- where no code is over the bound, check 4 finds none
pub none_over : (bound : ℕ) (cs : List ℕ) → AllWithin bound cs → first_over bound cs ≡ None
none_over bound [] w = refl
none_over bound (c ∷ cs) w = rw (le-leb c bound (w c (inl refl))) (none_over bound cs (λ x i. w x (inr i)))

-- a reset is 0, 1 or the latch's own literal, or it is not
pub data ResetIs (own r : ℕ) : Bool → Type 0 where
  is_one : IsReset own r → ResetIs own r true
  is_none : (IsReset own r → ⊥) → ResetIs own r false

pub reset_test : (own r : ℕ) → ResetIs own r (is_reset own r)
reset_test own r = go (leb r 1) (le_test r 1) (eqb r own) (same_test r own)
  where
    low : (x : ℕ) → x ≤ 1 → (x ≡ 0) ⊎ ((x ≡ 1) ⊎ (x ≡ own))
    low zero h = inl refl
    low (suc zero) h = inr (inl refl)
    low (suc (suc x)) h = absurd (omega arith)

    none_of : 1 < r → (r ≡ own → ⊥) → IsReset own r → ⊥
    none_of h n (inl e) = omega arith
    none_of h n (inr (inl e)) = omega arith
    none_of h n (inr (inr e)) = n e

    go : (b : Bool) → AtMost r 1 b → (c : Bool) → Same r own c → ResetIs own r (b || c)
    go true (at_most h) c s = is_one (low r h)
    go false (above h) true (same e) = is_one (inr (inr e))
    go false (above h) false (other n) = is_none (none_of h n)

pub is_reset_lem : (own r : ℕ) → (is_reset own r ≡ true) ↔ IsReset own r
is_reset_lem own r = (to (is_reset own r) (reset_test own r), from (is_reset own r) (reset_test own r))
  where
    to : (b : Bool) → ResetIs own r b → b ≡ true → IsReset own r
    to b (is_one h) e = h
    to b (is_none n) e = absurd (let z : ◌≡◌ {A = ℕ} 0 1 = cc in omega arith)

    from : (b : Bool) → ResetIs own r b → IsReset own r → b ≡ true
    from b (is_one h) k = refl
    from b (is_none n) k = absurd (n k)

pub is_stray_lem : (own r : ℕ) → (is_reset own r ≡ false) ↔ (IsReset own r → ⊥)
is_stray_lem own r = (to (is_reset own r) (reset_test own r), from (is_reset own r) (reset_test own r))
  where
    to : (b : Bool) → ResetIs own r b → b ≡ false → IsReset own r → ⊥
    to b (is_one h) e = absurd (let z : ◌≡◌ {A = ℕ} 0 1 = cc in omega arith)
    to b (is_none n) e = n

    from : (b : Bool) → ResetIs own r b → (IsReset own r → ⊥) → b ≡ false
    from b (is_one h) n = absurd (n h)
    from b (is_none n) k = refl

pub data Stray (ss rs : List ℕ) : Option ℕ → Type 0 where
  none_stray : AllReset ss rs → Stray ss rs None
  one_stray : (r : ℕ) → FirstStray ss rs r → Stray ss rs (Some r)

-- where a latch has no reset in the list, it counts as 0
pub stray_test : (ss rs : List ℕ) → Stray ss rs (first_stray ss rs)
stray_test [] rs = none_stray (λ j h. absurd (omega arith))
stray_test (s ∷ ss) [] = none_stray (λ j h. inl refl)
stray_test (s ∷ ss) (r ∷ rs) = go (is_reset s r) (reset_test s r) (first_stray ss rs) (stray_test ss rs)
  where
    first : IsReset s r → AllReset ss rs → AllReset (s ∷ ss) (r ∷ rs)
    first h f zero k = h
    first h f (suc j) k = f j (omega arith)

    before : IsReset s r → (n : ℕ) → ((j : ℕ) → j < n → IsReset (get_or ss j 0) (get_or rs j 0))
        → (j : ℕ) → j < suc n → IsReset (get_or (s ∷ ss) j 0) (get_or (r ∷ rs) j 0)
    before h n f zero k = h
    before h n f (suc j) k = f j (omega arith)

    go : (b : Bool) → ResetIs s r b → (o : Option ℕ) → Stray ss rs o → Stray (s ∷ ss) (r ∷ rs) (cond b o (Some r))
    go true (is_one h) o (none_stray f) = none_stray (first h f)
    go true (is_one h) o (one_stray x k) =
        one_stray x
        (record {
          place = suc k.place;
          inside = omega (arith, k.inside);
          is_there = k.is_there;
          is_stray = k.is_stray;
          before = before h k.place k.before;
        })
    go false (is_none n) o v =
        one_stray r (record { place = 0; inside = omega arith; is_there = refl; is_stray = n; before = λ j h. absurd (omega arith) })

-- where every latch has its reset, there is no first that has not
pub no_stray : (ss rs : List ℕ) (r : ℕ) → FirstStray ss rs r → AllReset ss rs → ⊥
no_stray ss rs r k f = k.is_stray (subst⁻¹ (IsReset (get_or ss k.place 0)) k.is_there (f k.place k.inside))

-- and check 22 finds none
pub none_stray_lem : (ss rs : List ℕ) → AllReset ss rs → first_stray ss rs ≡ None
none_stray_lem ss rs f = go (first_stray ss rs) (stray_test ss rs)
  where
    go : (o : Option ℕ) → Stray ss rs o → o ≡ None
    go o (none_stray g) = refl
    go o (one_stray r k) = absurd (no_stray ss rs r k f)

-- neither of two places is before the other
pub same_place : (i j : ℕ) → ((i < j) → ⊥) → ((j < i) → ⊥) → i ≡ j
same_place i j f g = cases (lt_or i j) (lt_or j i)
  where
    cases : (i < j) ⊎ (j ≤ i) → (j < i) ⊎ (i ≤ j) → i ≡ j
    cases (inl h) r = absurd (f h)
    cases (inr h) (inl r) = absurd (g r)
    cases (inr h) (inr r) = omega arith

-- the first that is none is the one that check 22 names
pub is_first_stray : (ss rs : List ℕ) (r : ℕ) → FirstStray ss rs r → first_stray ss rs ≡ Some r
is_first_stray ss rs r k = go (first_stray ss rs) (stray_test ss rs)
  where
    go : (o : Option ℕ) → Stray ss rs o → o ≡ Some r
    go o (none_stray f) = absurd (no_stray ss rs r k f)
    go o (one_stray r' k') =
        let e = same_place k'.place k.place (λ h. stray_at_lem k' (k.before k'.place h)) (λ h. stray_at_lem k (k'.before k.place h)) in
        ap Some (k'.is_there ∙ ap (λ (j : ℕ). get_or rs j 0) e ∙ sym k.is_there)
      where
        stray_at_lem : {x : ℕ} (m : FirstStray ss rs x) → IsReset (get_or ss m.place 0) (get_or rs m.place 0) → ⊥
        stray_at_lem m h = m.is_stray (subst⁻¹ (IsReset (get_or ss m.place 0)) m.is_there h)

abbrev pub Apart : List ℕ → List ℕ → Type 0
Apart s t = (v : ℕ) → In v s → In v t → ⊥

pub data Again (seen ds : List ℕ) : Option ℕ → Type 0 where
  once : Distinct (map var ds) → Apart (map var ds) seen → Again seen ds None
  again : (d : ℕ) → FirstAgain seen ds d → Again seen ds (Some d)

pub again_test : (seen ds : List ℕ) → Again seen ds (first_again seen ds)
again_test seen [] = once tt (λ v h k. h)
again_test seen (d ∷ ds) = go (elem (var d) seen) (elem_test (var d) seen) (first_again (var d ∷ seen) ds) (again_test (var d ∷ seen) ds)
  where
    apart : (In (var d) seen → ⊥) → (l : List ℕ) → Apart (map var l) (var d ∷ seen) → Apart (map var (d ∷ l)) seen
    apart f l n v (inl e) k = f (subst (λ (u : ℕ). In u seen) e k)
    apart f l n v (inr h) k = n v h (inr k)

    moved : (x : ℕ) (l : List ℕ) → In x ((var d ∷ seen) ++ l) → In x (seen ++ (var d ∷ l))
    moved x l (inl e) = In-right x seen (var d ∷ l) (inl e)
    moved x l (inr h) = cases (In-cases x seen l h)
      where
        cases : In x seen ⊎ In x l → In x (seen ++ (var d ∷ l))
        cases (inl k) = In-left x seen (var d ∷ l) k
        cases (inr k) = In-right x seen (var d ∷ l) (inr k)

    go : (b : Bool) → Elem (var d) seen b → (o : Option ℕ) → Again (var d ∷ seen) ds o → Again seen (d ∷ ds) (cond b (Some d) o)
    go true (inside h) o v =
        again d (record { before = []; after = ds; splits = refl; is_again = In-left (var d) seen [] h; distinct = tt; new = λ x k. absurd k })
    go false (outside f) o (once dd n) = once (λ h. n (var d) h (inl refl), dd) (apart f ds n)
    go false (outside f) o (again d' k) =
        again d'
        (record {
          before = d ∷ k.before;
          after = k.after;
          splits = ap {B = List ℕ} (λ l. d ∷ l) k.splits;
          is_again = moved (var d') (map var k.before) k.is_again;
          distinct = (λ h. k.new (var d) h (inl refl), k.distinct);
          new = apart f k.before k.new;
        })

pub map-append : {A : Type 0} (f : A → ℕ) (s t : List A) → map f (s ++ t) ≡ map f s ++ map f t
map-append f [] t = refl
map-append f (x ∷ s) t = ap {B = List ℕ} (λ l. f x ∷ l) (map-append f s t)

pub map_outputs : (gs : List Gate) → map var (map (λ g. g.output) gs) ≡ map out_var gs
map_outputs [] = refl
map_outputs (g ∷ gs) = ap {B = List ℕ} (λ l. out_var g ∷ l) (map_outputs gs)

-- where no variable is defined again, there is no first that is
pub no_again : (seen ds : List ℕ) (d : ℕ) → FirstAgain seen ds d → Distinct (map var ds) → Apart (map var ds) seen → ⊥
no_again seen ds d k dd n = go (In-cases (var d) seen (map var k.before) k.is_again)
  where
    vars : map var ds ≡ map var k.before ++ (var d ∷ map var k.after)
    vars = ap (λ (l : List ℕ). map var l) k.splits ∙ map-append var k.before (d ∷ k.after)

    go : In (var d) seen ⊎ In (var d) (map var k.before) → ⊥
    go (inl h) = n (var d) (subst⁻¹ (In (var d)) vars (In-right (var d) (map var k.before) (var d ∷ map var k.after) (inl refl))) h
    go (inr h) = Distinct-apart (map var k.before) (var d ∷ map var k.after) (subst Distinct vars dd) (var d) h (inl refl)

-- and checks 5 and 6 find none
pub none_again : (seen ds : List ℕ) → Distinct (map var ds) → Apart (map var ds) seen → first_again seen ds ≡ None
none_again seen ds dd n = go (first_again seen ds) (again_test seen ds)
  where
    go : (o : Option ℕ) → Again seen ds o → o ≡ None
    go o (once d' n') = refl
    go o (again d k) = absurd (no_again seen ds d k dd n)

-- the three parts of the definitions, in the order of the checks and in the order of the circuit
module _ (I S G : List ℕ) where
  pub parts_join : Distinct (I ++ G) → Apart (I ++ G) (0 ∷ []) → Distinct S → Apart S (0 ∷ (I ++ G)) → Distinct (0 ∷ ((I ++ S) ++ G))
  parts_join a b c d = (
    λ h. zero_free (In-cases 0 (I ++ S) G h),
    Distinct-join (I ++ S) G
        (Distinct-join I S (Distinct-left I G a) c (λ x h k. d x k (inr (In-left x I G h))))
        (Distinct-right I G a) (λ x h k. is_g x (In-cases x I S h) k),
  )
    where
      i_or_s : In 0 I ⊎ In 0 S → ⊥
      i_or_s (inl h) = b 0 (In-left 0 I G h) (inl refl)
      i_or_s (inr h) = d 0 h (inl refl)

      zero_free : In 0 (I ++ S) ⊎ In 0 G → ⊥
      zero_free (inl h) = i_or_s (In-cases 0 I S h)
      zero_free (inr h) = b 0 (In-right 0 I G h) (inl refl)

      is_g : (x : ℕ) → In x I ⊎ In x S → In x G → ⊥
      is_g x (inl h) k = Distinct-apart I G a x h k
      is_g x (inr h) k = d x h (inr (In-right x I G k))

  module _ (o : Distinct (0 ∷ ((I ++ S) ++ G))) where
    is : Distinct (I ++ S)
    is = Distinct-left (I ++ S) G o.1

    pub parts_ig : Distinct (I ++ G)
    parts_ig =
        Distinct-join I G (Distinct-left I S is) (Distinct-right (I ++ S) G o.1)
        (λ x h k. Distinct-apart (I ++ S) G o.1 x (In-left x I S h) k)

    pub parts_zero : Apart (I ++ G) (0 ∷ [])
    parts_zero v h (inl e) = go (In-cases v I G h)
      where
        go : In v I ⊎ In v G → ⊥
        go (inl k) = o.0 (In-left 0 (I ++ S) G (In-left 0 I S (subst (λ (u : ℕ). In u I) e k)))
        go (inr k) = o.0 (In-right 0 (I ++ S) G (subst (λ (u : ℕ). In u G) e k))
    parts_zero v h (inr k) = k

    pub parts_s : Distinct S
    parts_s = Distinct-right I S is

    pub parts_s_ig : Apart S (0 ∷ (I ++ G))
    parts_s_ig v h (inl e) = o.0 (In-left 0 (I ++ S) G (In-right 0 I S (subst (λ (u : ℕ). In u S) e h)))
    parts_s_ig v h (inr k) = go (In-cases v I G k)
      where
        go : In v I ⊎ In v G → ⊥
        go (inl k') = Distinct-apart I S is v k' h
        go (inr k') = Distinct-apart (I ++ S) G o.1 v (In-right v I S h) k'
