-- Laws of lists: membership, distinct numbers, and that distinct numbers out of n are at most n. Assumes nothing.
use Prim.Native.Nat.{ℕ, zero, suc, ◌<◌, ◌≤◌}
use mathlib.Core.Path.{◌≡◌, refl, sym, ◌∙◌, ap, subst}
use mathlib.Core.Logic.{◌⊎◌, inl, inr, ◌≢◌}
use mathlib.Core.Bool.{Bool, true, false, ◌||◌}
use mathlib.Core.List.{List, [], ◌∷◌, ◌++◌, map}
use native.Mathlib.Omega.{arith}
use lib.Dec.{eqb}
use lib.ListN.{length, get_or}
use Rattle.lit.specs.Code.{var}
use Rattle.circuit.specs.Graph.{In, Distinct}
use Rattle.circuit.specs.Circuit.{elem}
use Rattle.circuit.proofs.Tests.{Same, same, other, same_test, last_or}

module _ {A : Type 0} where
  pub In-left : (x : A) (s t : List A) → In x s → In x (s ++ t)
  In-left x [] t h = absurd h
  In-left x (y ∷ s) t (inl e) = inl e
  In-left x (y ∷ s) t (inr h) = inr (In-left x s t h)

  pub In-right : (x : A) (s t : List A) → In x t → In x (s ++ t)
  In-right x [] t h = h
  In-right x (y ∷ s) t h = inr (In-right x s t h)

  pub In-cases : (x : A) (s t : List A) → In x (s ++ t) → In x s ⊎ In x t
  In-cases x [] t h = inr h
  In-cases x (y ∷ s) t (inl e) = inl (inl e)
  In-cases x (y ∷ s) t (inr h) = lift (In-cases x s t h)
    where
      lift : In x s ⊎ In x t → In x (y ∷ s) ⊎ In x t
      lift (inl h') = inl (inr h')
      lift (inr h') = inr h'

  pub In-getD : (l : List A) (k : ℕ) (d : A) → k < length l → In (get_or l k d) l
  In-getD [] k d h = absurd (omega arith)
  In-getD (x ∷ xs) zero d h = inl refl
  In-getD (x ∷ xs) (suc k) d h = inr (In-getD xs k d (omega arith))

  -- the list without one of its members
  pub without : (x : A) (l : List A) → In x l → List A
  without x [] h = []
  without x (y ∷ l) (inl e) = l
  without x (y ∷ l) (inr h) = y ∷ without x l h

  pub without_length : (x : A) (l : List A) (h : In x l) → suc (length (without x l h)) ≡ length l
  unfolding without
  without_length x [] h = absurd h
  without_length x (y ∷ l) (inl e) = refl
  without_length x (y ∷ l) (inr h) = ap suc (without_length x l h)

  pub without_in : (x z : A) (l : List A) (h : In x l) → z ≢ x → In z l → In z (without x l h)
  unfolding without
  without_in x z [] h n m = absurd m
  without_in x z (y ∷ l) (inl e) n (inl e') = absurd (n (e' ∙ sym e))
  without_in x z (y ∷ l) (inl e) n (inr m) = m
  without_in x z (y ∷ l) (inr h) n (inl e') = inl e'
  without_in x z (y ∷ l) (inr h) n (inr m) = inr (without_in x z l h n m)

pub In-map : {A : Type 0} (f : A → ℕ) (x : A) (l : List A) → In x l → In (f x) (map f l)
In-map f x [] h = absurd h
In-map f x (y ∷ l) (inl e) = inl (ap f e)
In-map f x (y ∷ l) (inr h) = inr (In-map f x l h)

pub In-unmap : {A : Type 0} (f : A → ℕ) (v : ℕ) (l : List A) → In v (map f l) → (x : A) × In x l × (f x ≡ v)
In-unmap f v [] h = absurd h
In-unmap f v (y ∷ l) (inl e) = (y, inl refl, sym e)
In-unmap f v (y ∷ l) (inr h) = let r = In-unmap f v l h in (r.0, inr r.1, r.2)

-- distinct numbers, all in a list, are no more than its length
pub pigeons : (xs ys : List ℕ) → Distinct xs → ((x : ℕ) → In x xs → In x ys) → length xs ≤ length ys
pigeons [] ys d sub = omega arith
pigeons (x ∷ xs) ys d sub =
    let h : In x ys = sub x (inl refl) in
    let r : length xs ≤ length (without x ys h)
    = pigeons xs (without x ys h) d.1 (λ z m. without_in x z ys h (λ e. d.0 (subst (λ (k : ℕ). In k xs) e m)) (sub z (inr m))) in
    omega (arith, without_length x ys h)

-- distinct numbers below n are no more than n
numbers : ℕ → List ℕ
numbers zero = []
numbers (suc n) = n ∷ numbers n

numbers-length : (n : ℕ) → length (numbers n) ≡ n
unfolding numbers
numbers-length zero = refl
numbers-length (suc n) = ap suc (numbers-length n)

numbers_in : (n v : ℕ) → v < n → In v (numbers n)
unfolding numbers
numbers_in zero v h = absurd (omega arith)
numbers_in (suc n) v h = go (last_or n v h) (numbers_in n v)
  where
    go : (v < n) ⊎ (v ≡ n) → (v < n → In v (numbers n)) → In v (n ∷ numbers n)
    go (inl k) rec = inr (rec k)
    go (inr e) rec = inl e

pub below_few : (xs : List ℕ) (n : ℕ) → Distinct xs → ((x : ℕ) → In x xs → x < n) → length xs ≤ n
below_few xs n d f = omega (arith, pigeons xs (numbers n) d (λ x h. numbers_in n x (f x h)), numbers-length n)

-- a list and one more
pub Distinct-snoc : (xs : List ℕ) (x : ℕ) → Distinct xs → (In x xs → ⊥) → Distinct (xs ++ (x ∷ []))
Distinct-snoc [] x d n = (λ h. h, tt)
Distinct-snoc (y ∷ xs) x d n = (λ h. go (In-cases y xs (x ∷ []) h), Distinct-snoc xs x d.1 (λ h. n (inr h)))
  where
    go : In y xs ⊎ In y (x ∷ []) → ⊥
    go (inl h) = d.0 h
    go (inr (inl e)) = n (inl (sym e))
    go (inr (inr h)) = h

pub Distinct-left : (s t : List ℕ) → Distinct (s ++ t) → Distinct s
Distinct-left [] t d = tt
Distinct-left (x ∷ s) t d = (λ h. d.0 (In-left x s t h), Distinct-left s t d.1)

pub Distinct-right : (s t : List ℕ) → Distinct (s ++ t) → Distinct t
Distinct-right [] t d = d
Distinct-right (x ∷ s) t d = Distinct-right s t d.1

pub Distinct-apart : (s t : List ℕ) → Distinct (s ++ t) → (x : ℕ) → In x s → In x t → ⊥
Distinct-apart [] t d x h k = h
Distinct-apart (y ∷ s) t d x (inl e) k = d.0 (In-right y s t (subst (λ (z : ℕ). In z t) e k))
Distinct-apart (y ∷ s) t d x (inr h) k = Distinct-apart s t d.1 x h k

pub Distinct-join : (s t : List ℕ) → Distinct s → Distinct t → ((x : ℕ) → In x s → In x t → ⊥) → Distinct (s ++ t)
Distinct-join [] t d e n = e
Distinct-join (x ∷ s) t d e n = (λ h. go (In-cases x s t h), Distinct-join s t d.1 e (λ z h k. n z (inr h) k))
  where
    go : In x s ⊎ In x t → ⊥
    go (inl h) = d.0 h
    go (inr h) = n x (inl refl) h

-- one name, one member
pub Distinct-unique : {A : Type 0} (f : A → ℕ) (l : List A) → Distinct (map f l) → (x y : A) → In x l → In y l → f x ≡ f y → x ≡ y
Distinct-unique f [] d x y h k e = absurd h
Distinct-unique f (z ∷ l) d x y (inl p) (inl q) e = p ∙ sym q
Distinct-unique f (z ∷ l) d x y (inl p) (inr k) e = absurd (d.0 (subst (λ (v : ℕ). In v (map f l)) (sym e ∙ ap f p) (In-map f y l k)))
Distinct-unique f (z ∷ l) d x y (inr h) (inl q) e = absurd (d.0 (subst (λ (v : ℕ). In v (map f l)) (e ∙ ap f q) (In-map f x l h)))
Distinct-unique f (z ∷ l) d x y (inr h) (inr k) e = Distinct-unique f l d.1 x y h k e

-- and one place
pub Distinct-place : (l : List ℕ) → Distinct (map var l) → (i j : ℕ) → i < length l → j < length l → var (get_or l i 0) ≡ var (get_or l j 0) → i ≡ j
Distinct-place [] d i j h k e = absurd (omega arith)
Distinct-place (x ∷ l) d zero zero h k e = refl
Distinct-place (x ∷ l) d zero (suc j) h k e =
    absurd (d.0 (subst (λ (v : ℕ). In v (map var l)) (sym e) (In-map var (get_or l j 0) l (In-getD l j 0 (omega arith)))))
Distinct-place (x ∷ l) d (suc i) zero h k e =
    absurd (d.0 (subst (λ (v : ℕ). In v (map var l)) e (In-map var (get_or l i 0) l (In-getD l i 0 (omega arith)))))
Distinct-place (x ∷ l) d (suc i) (suc j) h k e = ap suc (Distinct-place l d.1 i j (omega arith) (omega arith) e)

-- membership by computation, with what it says
pub data Elem (x : ℕ) (l : List ℕ) : Bool → Type 0 where
  inside : In x l → Elem x l true
  outside : (In x l → ⊥) → Elem x l false

pub elem_test : (x : ℕ) (l : List ℕ) → Elem x l (elem x l)
elem_test x [] = outside (λ h. h)
elem_test x (y ∷ l) = go (eqb x y) (same_test x y) (elem x l) (elem_test x l)
  where
    go : (a : Bool) → Same x y a → (b : Bool) → Elem x l b → Elem x (y ∷ l) (a || b)
    go true (same e) b v = inside (inl e)
    go false (other n) b (inside h) = inside (inr h)
    go false (other n) b (outside f) = outside neither
      where
        neither : In x (y ∷ l) → ⊥
        neither (inl e) = n e
        neither (inr h) = f h
