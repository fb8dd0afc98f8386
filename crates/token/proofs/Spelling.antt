-- Reading and writing a decimal number are each other's inverse, because a number has one spelling without leading zeros: its last digit is
-- its remainder by ten, and the digits before it spell its tenth. Assumes nothing.
use mathlib.Core.Path.{◌≡◌, refl, sym, ap, ◌∙◌, subst}
use mathlib.Core.Bool.{Bool, true, false, cond, ◌&&◌}
use mathlib.Core.List.{List, [], ◌∷◌, ◌++◌}
use Prim.Native.Nat.{ℕ, zero, suc, ◌+◌, ◌-◌, ◌*◌, ◌/◌, ◌%◌, ◌^◌, ◌≤◌, ◌<◌}
use native.Mathlib.Nat.{pow-suc, pow-le-pow_right, mul_assoc, mul_comm, mul-le-mul, mul-le-mul_right, add-zero}
use native.Mathlib.Omega.{arith}
use lib.Dec.{ltb, leb, eqb, lit<}
use lib.ListN.{length, get_or, take, drop, length-append, length-take, length-drop, get_or-append}
use lib.Seq.{drop-append_seam, take-append_seam, get_or-append-add, get_or-take, get_or-drop}
use borrow.Author.Tests.{ltb-true, ltb-false, leb-true, leb-false, lt-ltb, le-leb, ne_eqb, eqb-false}
use Rattle.token.proofs.Parts.{value_parts}
use Rattle.token.specs.Format.{leading, is_digit, decimal_from, decimal_value, digits_up_to, digits_of}
use Rattle.token.specs.Answer.{digits_at, uint_at, refused, value}
use Rattle.token.specs.declared.Reason.TheVariants.{NoDigit, LeadingZero, OverWidth}
use Rattle.token.proofs.Decimals.{digit_low, digit_yes, decimal_snoc, decimal_grows, digits_within}
use Rattle.token.specs.Claims.{DecimalUsed}

-- every byte is a digit
abbrev pub Digits : List ℕ → Type 0
Digits [] = Unit {0}
Digits (d ∷ ds) = ((48 ≤ d) × (d < 58)) × Digits ds

-- one digit, or a first that is not `0`
abbrev pub Plain : List ℕ → Type 0
Plain [] = ⊥
Plain (d ∷ []) = Unit {0}
Plain (d ∷ e ∷ ds) = 48 < d

plain_some : (ds : List ℕ) → Plain ds → 1 ≤ length ds
plain_some [] p = absurd p
plain_some (d ∷ ds) p = omega arith

plain_first : (ds : List ℕ) → Plain ds → 2 ≤ length ds → 48 < get_or ds 0 0
plain_first [] p h = absurd p
plain_first (d ∷ []) p h = absurd (omega arith)
plain_first (d ∷ e ∷ ds) p h = p

plain_of : (ds : List ℕ) → 1 ≤ length ds → (2 ≤ length ds → 48 < get_or ds 0 0) → Plain ds
plain_of [] h f = absurd (omega arith)
plain_of (d ∷ []) h f = tt
plain_of (d ∷ e ∷ ds) h f = f (omega arith)

-- the digits of a number are digits, without a leading zero, and write it

cases : (k v : ℕ) (P : List ℕ → Type 0) → (v < 10 → P ((48 + v) ∷ [])) → (10 ≤ v → P (digits_up_to k (v / 10) ++ ((48 + v % 10) ∷ []))) → P (digits_up_to (suc k) v)
cases k v P f g = go (ltb v 10) refl
  where
    go : (b : Bool) → ltb v 10 ≡ b → P (cond b ((48 + v) ∷ []) (digits_up_to k (v / 10) ++ ((48 + v % 10) ∷ [])))
    go true e = f (ltb-true v 10 e)
    go false e = g (ltb-false v 10 e)

tenth : (k v : ℕ) → v < 10 ^ suc (suc k) → v / 10 < 10 ^ suc k
tenth k v h = let q : v < 10 ^ suc k * 10 = rw pow-suc at h in omega arith

digits_snoc : (ds : List ℕ) (d : ℕ) → Digits ds → 48 ≤ d → d < 58 → Digits (ds ++ (d ∷ []))
digits_snoc [] d a low high = ((low, high), tt)
digits_snoc (x ∷ ds) d a low high = (a.0, digits_snoc ds d a.1 low high)

digits_all : (k v : ℕ) → v < 10 ^ suc k → Digits (digits_up_to k v)
digits_all zero v h = ((omega arith, omega arith), tt)
digits_all (suc k) v h =
    cases k v Digits (λ small. ((omega arith, omega arith), tt))
    (λ big. digits_snoc (digits_up_to k (v / 10)) (48 + v % 10) (digits_all k (v / 10) (tenth k v h)) (omega arith) (omega arith))

digits_nonempty : (k v : ℕ) → 1 ≤ length (digits_up_to k v)
digits_nonempty zero v = omega arith
digits_nonempty (suc k) v =
    cases k v (λ (ds : List ℕ). 1 ≤ length ds) (λ small. omega arith) (λ big. omega (arith, length-append (digits_up_to k (v / 10)) ((48 + v % 10) ∷ [])))

first_digit : (k v : ℕ) → 1 ≤ v → 48 < get_or (digits_up_to k v) 0 0
first_digit zero v h = omega arith
first_digit (suc k) v h =
    cases k v (λ (ds : List ℕ). 48 < get_or ds 0 0) (λ small. omega arith)
    (λ big. rw (get_or-append (digits_up_to k (v / 10)) ((48 + v % 10) ∷ []) 0 0 (digits_nonempty k (v / 10))) (first_digit k (v / 10) (omega arith)))

digits_plain : (k v : ℕ) → Plain (digits_up_to k v)
digits_plain zero v = tt
digits_plain (suc k) v =
    cases k v Plain (λ small. tt)
    (λ big. plain_of (digits_up_to k (v / 10) ++ ((48 + v % 10) ∷ [])) (omega (arith, length-append (digits_up_to k (v / 10)) ((48 + v % 10) ∷ [])))
    (λ two. rw (get_or-append (digits_up_to k (v / 10)) ((48 + v % 10) ∷ []) 0 0 (digits_nonempty k (v / 10))) (first_digit k (v / 10) (omega arith))))

digits_value : (k v : ℕ) → v < 10 ^ suc k → decimal_value (digits_up_to k v) ≡ v
digits_value zero v h = omega arith
digits_value (suc k) v h =
    cases k v (λ (ds : List ℕ). decimal_value ds ≡ v) (λ small. omega arith)
    (λ big. decimal_snoc 0 (digits_up_to k (v / 10)) (48 + v % 10) ∙ omega (arith, digits_value k (v / 10) (tenth k v h)))

-- a spelling without leading zero is the digits of its number

-- a list is empty, or has a last element
data Snoc : List ℕ → Type 0 where
  none : {l : List ℕ} → l ≡ [] → Snoc l
  last : {l : List ℕ} (xs : List ℕ) (d : ℕ) → l ≡ xs ++ (d ∷ []) → Snoc l

snoc : (l : List ℕ) → Snoc l
snoc [] = none refl
snoc (x ∷ l) = go (snoc l)
  where
    go : Snoc l → Snoc (x ∷ l)
    go (none e) = last [] x (ap (λ (r : List ℕ). x ∷ r) e)
    go (last xs d e) = last (x ∷ xs) d (ap (λ (r : List ℕ). x ∷ r) e)

digits_left : (xs : List ℕ) (d : ℕ) → Digits (xs ++ (d ∷ [])) → Digits xs × ((48 ≤ d) × (d < 58))
digits_left [] d h = (tt, h.0)
digits_left (x ∷ xs) d h = let r = digits_left xs d h.1 in ((h.0, r.0), r.1)

plain-left : (x : ℕ) (xs : List ℕ) (d : ℕ) → Plain ((x ∷ xs) ++ (d ∷ [])) → Plain (x ∷ xs) × (48 < x)
plain-left x [] d h = (tt, h)
plain-left x (y ∷ xs) d h = (h, h)

small_first : (k v : ℕ) → v < 10 → digits_up_to k v ≡ (48 + v) ∷ []
small_first zero v h = refl
small_first (suc k) v h = cases k v (λ (ds : List ℕ). ds ≡ (48 + v) ∷ []) (λ small. refl) (λ big. absurd (omega arith))

large_first : (k v : ℕ) → 10 ≤ v → digits_up_to (suc k) v ≡ digits_up_to k (v / 10) ++ ((48 + v % 10) ∷ [])
large_first k v h =
    cases k v (λ (ds : List ℕ). ds ≡ digits_up_to k (v / 10) ++ ((48 + v % 10) ∷ [])) (λ small. absurd (omega arith)) (λ big. refl)

abbrev Spells : ℕ → List ℕ → Type 0
Spells k ds = length ds ≤ suc k → Digits ds → Plain ds → digits_up_to k (decimal_value ds) ≡ ds

-- of digits with a last one, those before it being known to be the digits of their number
by_last : (k : ℕ) (xs : List ℕ) (d : ℕ) → ((j : ℕ) → suc j ≡ k → Spells j xs) → Spells k (xs ++ (d ∷ []))
by_last k [] d rec n h p =
    let z : 0 * 10 + (d - 48) ≡ d - 48 = omega arith in
    let e : 48 + (d - 48) ≡ d = omega (arith, h.0.0) in
    ap (λ (m : ℕ). digits_up_to k m) z ∙ small_first k (d - 48) (omega (arith, h.0.1)) ∙ ap (λ (x : ℕ). x ∷ []) e
by_last zero (x ∷ xs) d rec n h p = absurd (omega (arith, length-append xs (d ∷ [])))
by_last (suc k) (x ∷ xs) d rec n h p =
    let v : ℕ = decimal_value (x ∷ xs) in
    let l = digits_left (x ∷ xs) d h in
    let q = plain-left x xs d p in
    let big : 0 * 10 + (x - 48) ≤ v = decimal_grows (0 * 10 + (x - 48)) xs in
    let w : decimal_value ((x ∷ xs) ++ (d ∷ [])) ≡ v * 10 + (d - 48) = decimal_snoc 0 (x ∷ xs) d in
    let a : (v * 10 + (d - 48)) / 10 ≡ v = omega (arith, l.1.1) in
    let b : 48 + (v * 10 + (d - 48)) % 10 ≡ d = omega (arith, l.1.0, l.1.1) in
    let r : digits_up_to k v ≡ x ∷ xs = rec k refl (omega (arith, length-append xs (d ∷ []))) l.0 q.0 in
    ap (λ (m : ℕ). digits_up_to (suc k) m) w ∙ large_first k (v * 10 + (d - 48)) (omega (arith, q.1, big))
    ∙ ap (λ (m : ℕ). digits_up_to k m ++ ((48 + (v * 10 + (d - 48)) % 10) ∷ [])) a ∙ ap (λ (m : ℕ). digits_up_to k v ++ (m ∷ [])) b
    ∙ ap (λ (ys : List ℕ). ys ++ (d ∷ [])) r

by_view : (k : ℕ) (ds : List ℕ) → Snoc ds → ((xs : List ℕ) (j : ℕ) → suc j ≡ k → Spells j xs) → Spells k ds
by_view k ds (none e) rec = λ n h p. absurd (subst Plain e p)
by_view k ds (last xs d e) rec = subst (Spells k) (sym e) (by_last k xs d (rec xs))

digits_only : (k : ℕ) (ds : List ℕ) → Spells k ds
digits_only zero ds = by_view zero ds (snoc ds) (λ xs j e. absurd (omega arith))
digits_only (suc k) ds =
    by_view (suc k) ds (snoc ds) (λ xs j e. let q : k ≡ j = omega arith in subst (λ (i : ℕ). Spells i xs) q (digits_only k xs))

-- a number that fits 64 bits has at most twenty digits

decimal_low : (v : ℕ) (ds : List ℕ) → v * 10 ^ length ds ≤ decimal_from v ds
decimal_low v [] = omega arith
decimal_low v (d ∷ ds) =
    let ten : v * 10 ^ suc (length ds) ≡ v * 10 * 10 ^ length ds = rw (pow-suc, mul_comm (10 ^ length ds) 10) (sym (mul_assoc v 10 (10 ^ length ds))) in
    let less : v * 10 ≤ v * 10 + (d - 48) = omega arith in
    omega (arith, decimal_low (v * 10 + (d - 48)) ds, mul-le-mul_right (10 ^ length ds) less)

plain_short : (ds : List ℕ) → Plain ds → decimal_value ds < 2 ^ 64 → length ds ≤ 20
plain_short [] p h = omega arith
plain_short (d ∷ []) p h = omega arith
plain_short (d ∷ e ∷ ds) p h = go (leb (length ds) 18) refl
  where
    go : (b : Bool) → leb (length ds) 18 ≡ b → length (d ∷ e ∷ ds) ≤ 20
    go true f = omega (arith, leb-true)
    go false f =
        let many : 20 ≤ length (e ∷ ds) = omega (arith, leb-false (length ds) 18 f) in
        let wide : 10 ^ 20 ≤ 10 ^ length (e ∷ ds) = pow-le-pow_right (lit< tt) many in
        let one : 1 ≤ 0 * 10 + (d - 48) = omega arith in
        let big : 1 * 10 ^ 20 ≤ (0 * 10 + (d - 48)) * 10 ^ length (e ∷ ds) = mul-le-mul one wide in
        absurd (omega (arith, decimal_low (0 * 10 + (d - 48)) (e ∷ ds)))

-- reading at a place

digits-run : (ds after : List ℕ) → Digits ds → leading is_digit after ≡ 0 → leading is_digit (ds ++ after) ≡ length ds
digits-run [] after a h = h
digits-run (d ∷ ds) after a h = rw (digit_yes d a.0.0 a.0.1, digits-run ds after a.1 h)

run_digits : (l : List ℕ) → Digits (take (leading is_digit l) l)
run_digits [] = tt
run_digits (b ∷ bs) = go (is_digit b) refl (run_digits bs)
  where
    go : (t : Bool) → is_digit b ≡ t → Digits (take (leading is_digit bs) bs) → Digits (take (cond t (suc (leading is_digit bs)) 0) (b ∷ bs))
    go true e ds = (digit_low b e, ds)
    go false e ds = tt

no_leading : (ds : List ℕ) → Plain ds → (leb 2 (length ds) && eqb (get_or ds 0 0) 48) ≡ false
no_leading [] p = absurd p
no_leading (d ∷ []) p = refl
no_leading (d ∷ e ∷ ds) p = rw (le-leb 2 (length (d ∷ e ∷ ds)) (omega arith), ne_eqb d 48 (omega arith))

-- digits without a leading zero are read as the number that they write, wherever they stand and whatever but a digit follows
plain_reads : (ds : List ℕ) → Digits ds → Plain ds → decimal_value ds < 2 ^ 64 → (before after : List ℕ) → leading is_digit after ≡ 0
    → uint_at (before ++ (ds ++ after)) (length before) ≡ value (decimal_value ds) (length ds)
unfolding uint_at digits_at
plain_reads ds a p fits before after stop =
    let n : ℕ = length ds in
    let first : get_or (before ++ (ds ++ after)) (length before) 0 ≡ get_or ds 0 0
    = ap (λ (i : ℕ). get_or (before ++ (ds ++ after)) i 0) (sym (add-zero (length before))) ∙ get_or-append-add before (ds ++ after) 0 0
    ∙ get_or-append ds after 0 0 (plain_some ds p) in
    rw (
      first,
      drop-append_seam before (ds ++ after),
      digits-run ds after a stop,
      take-append_seam ds after,
      ne_eqb n 0
          (omega (arith, plain_some ds p)),
      no_leading ds p,
      lt-ltb (decimal_value ds) (2 ^ 64) fits,
    )

pub decimal_reads_back : (v : ℕ) → v < 2 ^ 64 → (before after : List ℕ) → leading is_digit after ≡ 0
    → uint_at (before ++ (digits_of v ++ after)) (length before) ≡ value v (length (digits_of v))
unfolding digits_of
decimal_reads_back v h before after stop =
    let whole : decimal_value (digits_up_to 19 v) ≡ v = digits_value 19 v (omega arith) in
    plain_reads (digits_up_to 19 v) (digits_all 19 v (omega arith)) (digits_plain 19 v) (rw whole h) before after stop
    ∙ ap (λ (w : ℕ). value w (length (digits_up_to 19 v))) whole

-- a decimal number that is read: its n bytes are all the digits at the place, without a leading zero, and they write it
pub record DecimalRead (s : List ℕ) (at v n : ℕ) : Type 0 where
  pub run : n ≡ digits_at s at
  pub some : 1 ≤ n
  pub plain : 2 ≤ n → get_or s at 0 ≡ 48 → ⊥
  pub means : decimal_value (take n (drop at s)) ≡ v
  pub fits : v < 2 ^ 64

pub decimal-read : (s : List ℕ) (at v n : ℕ) → uint_at s at ≡ value v n → DecimalRead s at v n
unfolding uint_at
decimal-read s at v n e = go (eqb k 0) (leb 2 k && eqb (get_or s at 0) 48) (ltb w (2 ^ 64)) refl refl refl e
  where
    k : ℕ
    k = digits_at s at

    w : ℕ
    w = decimal_value (take k (drop at s))

    lead : (2 ≤ k) → get_or s at 0 ≡ 48 → (leb 2 k && eqb (get_or s at 0) 48) ≡ true
    lead h z = rw (le-leb 2 k h, z)

    go : (x y z : Bool) → eqb k 0 ≡ x → (leb 2 k && eqb (get_or s at 0) 48) ≡ y → ltb w (2 ^ 64) ≡ z
        → cond x (refused NoDigit at) (cond y (refused LeadingZero at) (cond z (value w k) (refused OverWidth at))) ≡ value v n → DecimalRead s at v n
    go true y z f g h q = let o : ◌≡◌ {A = ℕ} 0 1 = cc in absurd (omega arith)
    go false true z f g h q = let o : ◌≡◌ {A = ℕ} 0 1 = cc in absurd (omega arith)
    go false false false f g h q = let o : ◌≡◌ {A = ℕ} 0 1 = cc in absurd (omega arith)
    go false false true f g h q =
        let p = value_parts q in
        let same : k ≡ n = p.1 in
        let whole : w ≡ v = p.0 in
        let some : k ≡ 0 → ⊥ = eqb-false k 0 f in
        record {
          run = sym same;
          some = omega arith;
          plain = λ two z. let l = lead (omega arith) z in let o : ◌≡◌ {A = ℕ} 0 1 = cc in omega arith;
          means = rw (← same) whole;
          fits = omega (arith, ltb-true w (2 ^ 64) h);
        }

module _ (s : List ℕ) (at v n : ℕ) (d : DecimalRead s at v n) where
  decimal_inside : at + n ≤ length s
  decimal_inside = omega (arith, digits_within s at, d.run, d.some)

  decimal_length : length (take n (drop at s)) ≡ n
  decimal_length = simp (length-take, length-drop) (omega (arith, decimal_inside))

  decimal-digits : Digits (take n (drop at s))
  unfolding digits_at
  decimal-digits = rw d.run (run_digits (drop at s))

  decimal_plain : Plain (take n (drop at s))
  decimal_plain =
      plain_of (take n (drop at s)) (omega (arith, decimal_length, d.some))
      (λ two.
      let first : get_or (take n (drop at s)) 0 0 ≡ get_or s at 0
      = get_or-take n (drop at s) 0 0 d.some ∙ get_or-drop at s 0 0 ∙ ap (λ (i : ℕ). get_or s i 0) (add-zero at) in
      let low : 48 ≤ get_or (take n (drop at s)) 0 0 = first_low (take n (drop at s)) decimal-digits (omega (arith, decimal_length, d.some)) in
      omega (arith, d.plain (omega (arith, decimal_length))))
    where
      first_low : (ds : List ℕ) → Digits ds → 1 ≤ length ds → 48 ≤ get_or ds 0 0
      first_low [] a h = absurd (omega arith)
      first_low (x ∷ ds) a h = a.0.0

  decimal_short : n ≤ 20
  decimal_short =
      omega (arith, decimal_length, plain_short (take n (drop at s)) decimal_plain (omega (arith, d.means, d.fits)))

  spelling : take n (drop at s) ≡ digits_of v
  unfolding digits_of
  spelling =
      sym (digits_only 19 (take n (drop at s)) (omega (arith, decimal_length, decimal_short)) decimal-digits decimal_plain)
      ∙ ap (digits_up_to 19) d.means

-- the bytes of a number that is read are its digits
pub decimal_spelling : (s : List ℕ) (at v n : ℕ) → uint_at s at ≡ value v n → take n (drop at s) ≡ digits_of v
decimal_spelling s at v n e = spelling s at v n (decimal-read s at v n e)

pub decimal_used : (s : List ℕ) (at v n : ℕ) → uint_at s at ≡ value v n → DecimalUsed s at n
decimal_used s at v n e =
    let d = decimal-read s at v n e in
    record { some = d.some; twenty = decimal_short s at v n d; inside = decimal_inside s at v n d }
