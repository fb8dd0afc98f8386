-- Laws of refusals: the place that one names, and which of two reasons is given. Assumes nothing.
use mathlib.Core.Path.{◌≡◌, refl, sym, ap, ◌∙◌, subst}
use mathlib.Core.Bool.{Bool, true, false, cond, ◌&&◌, and-false}
use mathlib.Core.List.{List, [], ◌∷◌}
use Prim.Native.Nat.{ℕ, zero, suc, ◌+◌, ◌-◌, ◌%◌, ◌^◌, ◌≤◌, ◌<◌}
use native.Mathlib.Nat.{add-zero}
use native.Mathlib.Omega.{arith}
use lib.Dec.{ltb, leb, eqb}
use lib.ListN.{length, get_or, take, drop}
use lib.Seq.{get_or-drop}
use borrow.Author.Tests.{le-leb, lt-leb, le-ltb, ltb-false, leb-false, eq-eqb, ne_eqb, eqb-true, eqb-false}
use Rattle.std.specs.Prelude.{Ok, Err}
use Rattle.token.proofs.Parts.{refused_parts, refused_again}
use Rattle.token.specs.Format.{decimal_value, groups_value}
use Rattle.token.specs.Answer.{digits_at, uint_of, uint_at, binary_of, binary_at, go_on_at, delta_at, less, within, header_field_at, lit_at, symbol_index_at, pair_at, pair_first, pair_second, Token, inputs, refused, value}
use Rattle.token.specs.declared.Reason.{Reason}
use Rattle.token.specs.declared.Reason.TheVariants.{NoDigit, LeadingZero, OverWidth, OverLimit, AssignsZero, AssignsOdd, Cut, TooLong, OverReference, ZeroDelta}
use Rattle.token.specs.Claims.{Everyone, NamesPlace, ZeroFirst, RefusedDelta, first, second, first_zero}
use Rattle.token.proofs.Deltas.{delta_from}

-- which reason

-- what `uint` refuses everyone refuses
pub everyone_refuses : (s : List ℕ) (at : ℕ) (why : Reason) → uint_at s at ≡ refused why at → Everyone s at (refused why at)
unfolding header_field_at lit_at symbol_index_at
everyone_refuses s at why e = record {
  by_uint = e;
  by_header_field = λ limit. rw e;
  by_lit = flag;
  by_symbol_index = λ limit. rw e;
}
  where
    flag : (limit : ℕ) (assigning : Bool) → lit_at s at limit assigning ≡ refused why at
    flag limit true = rw e
    flag limit false = rw e

pub leading_zero : (s : List ℕ) (at : ℕ) → 2 ≤ digits_at s at → get_or s at 0 ≡ 48 → uint_at s at ≡ refused LeadingZero at
unfolding uint_at
leading_zero s at two z = rw (ne_eqb (digits_at s at) 0 (omega arith), le-leb 2 (digits_at s at) two, z)

pub over_width : (s : List ℕ) (at : ℕ) → (get_or s at 0 ≡ 48 → ⊥) → 2 ^ 64 ≤ decimal_value (take (digits_at s at) (drop at s)) → uint_at s at ≡ refused OverWidth at
unfolding uint_at
over_width s at z h = go (digits_at s at) h
  where
    go : (n : ℕ) → 2 ^ 64 ≤ decimal_value (take n (drop at s)) → uint_of n (get_or s at 0) (decimal_value (take n (drop at s))) at ≡ refused OverWidth at
    go zero k = absurd (omega arith)
    go (suc n) k = rw (ne_eqb (suc n) 0 (omega arith), ne_eqb (get_or s at 0) 48 z, and-false, le-ltb (decimal_value (take (suc n) (drop at s))) (2 ^ 64) k)

-- and only such a run: one digit fits, and two or more that begin with `0` are refused before
pub over_width_only : (s : List ℕ) (at place : ℕ) → uint_at s at ≡ refused OverWidth place
    → (get_or s at 0 ≡ 48 → ⊥) × (2 ^ 64 ≤ decimal_value (take (digits_at s at) (drop at s))) × (place ≡ at)
unfolding uint_at
over_width_only s at place e = go (eqb k 0) (leb 2 k && eqb (get_or s at 0) 48) (ltb v (2 ^ 64)) refl refl refl e
  where
    k : ℕ
    k = digits_at s at

    v : ℕ
    v = decimal_value (take k (drop at s))

    none : (l : List ℕ) → get_or l 0 0 ≡ 48 → decimal_value (take 1 l) ≡ 0
    none [] z = absurd (omega arith)
    none (x ∷ l) z = omega arith

    plain : (leb 2 k && eqb (get_or s at 0) 48) ≡ false → (k ≡ 0 → ⊥) → 2 ^ 64 ≤ v → get_or s at 0 ≡ 48 → ⊥
    plain g some large z = short (leb 2 k) refl
      where
        short : (b : Bool) → leb 2 k ≡ b → ⊥
        short true t = let l : (leb 2 k && eqb (get_or s at 0) 48) ≡ true = rw (t, z) in let o : ◌≡◌ {A = ℕ} 0 1 = cc in omega arith
        short false t =
            let one : k ≡ 1 = omega (arith, leb-false 2 k t) in
            let first : get_or (drop at s) 0 0 ≡ 48 = get_or-drop at s 0 0 ∙ ap (λ (i : ℕ). get_or s i 0) (add-zero at) ∙ z in
            let small : v ≡ 0 = ap (λ (n : ℕ). decimal_value (take n (drop at s))) one ∙ none (drop at s) first in
            omega arith

    go : (x y b : Bool) → eqb k 0 ≡ x → (leb 2 k && eqb (get_or s at 0) 48) ≡ y → ltb v (2 ^ 64) ≡ b
        → cond x (refused NoDigit at) (cond y (refused LeadingZero at) (cond b (value v k) (refused OverWidth at))) ≡ refused OverWidth place
        → (get_or s at 0 ≡ 48 → ⊥) × (2 ^ 64 ≤ v) × (place ≡ at)
    go true y b f g h q = let w = (refused_parts q).0 in let o : ◌≡◌ {A = ℕ} 0 1 = cc in absurd (omega arith)
    go false true b f g h q = let w = (refused_parts q).0 in let o : ◌≡◌ {A = ℕ} 0 1 = cc in absurd (omega arith)
    go false false true f g h q = let o : ◌≡◌ {A = ℕ} 0 1 = cc in absurd (omega arith)
    go false false false f g h q =
        let large : 2 ^ 64 ≤ v = ltb-false v (2 ^ 64) h in
        let here : place ≡ at = sym (refused_parts q).1 in
        (plain g (eqb-false k 0 f) large, large, here)

-- a number that fits
module _ (s : List ℕ) (at v n limit : ℕ) (e : uint_at s at ≡ value v n) where
  pub assigns_odd : v % 2 ≡ 1 → lit_at s at limit true ≡ refused AssignsOdd at
  unfolding lit_at
  assigns_odd odd = rw (e, ne_eqb v 0 (omega arith), eq-eqb (v % 2) 1 odd)

  pub assigns_zero : v ≡ 0 → lit_at s at limit true ≡ refused AssignsZero at
  unfolding lit_at
  assigns_zero z = rw (e, eq-eqb v 0 z)

  -- a code that may be assigned is held to the limit as it is where none is assigned
  pub assigns_even : (v ≡ 0 → ⊥) → v % 2 ≡ 0 → lit_at s at limit true ≡ lit_at s at limit false
  unfolding lit_at
  assigns_even some even = rw (e, ne_eqb v 0 some, ne_eqb (v % 2) 1 (omega arith))

  -- the others answer what the limit makes of it
  pub all_limited : (t : Token) → within limit at (value v n) ≡ t → (header_field_at s at limit ≡ t) × (lit_at s at limit false ≡ t)
      × (symbol_index_at s at limit ≡ t)
  unfolding header_field_at lit_at symbol_index_at
  all_limited t q = (rw e q, rw e q, rw e q)

pub within_fits : (limit at v n : ℕ) → v ≤ limit → within limit at (value v n) ≡ value v n
within_fits limit at v n h = rw (le-leb v limit h)

pub within-over : (limit at v n : ℕ) → limit < v → within limit at (value v n) ≡ refused OverLimit at
within-over limit at v n h = rw (lt-leb v limit h)

-- the place

either : (at : ℕ) (test : Bool) (t u : Token) → NamesPlace at t → NamesPlace at u → NamesPlace at (cond test t u)
either at true t u p q = p
either at false t u p q = q

pub uint_place : (s : List ℕ) (at : ℕ) → NamesPlace at (uint_at s at)
unfolding uint_at
uint_place s at = of (digits_at s at) (get_or s at 0) (decimal_value (take (digits_at s at) (drop at s)))
  where
    of : (n d v : ℕ) → NamesPlace at (uint_of n d v at)
    of n d v =
        either at (eqb n 0) _ _ refl (either at (leb 2 n && eqb d 48) _ _ refl (either at (ltb v (2 ^ 64)) _ _ tt refl))

pub binary_place : (s : List ℕ) (at : ℕ) → NamesPlace at (binary_at s at)
unfolding binary_at
binary_place s at = of (take 8 (drop at s)) (go_on_at s at)
  where
    of : (bs : List ℕ) (n : ℕ) → NamesPlace at (binary_of bs n at)
    of bs n = either at (leb 8 n) _ _ refl (either at (leb (length bs) n) _ _ refl tt)

less_place : (reference at : ℕ) (t : Token) → NamesPlace at t → NamesPlace at (less reference at t)
less_place reference at (Ok t) p = either at (leb t.value reference) _ _ tt refl
less_place reference at (Err e) p = p

within_place : (limit at : ℕ) (t : Token) → NamesPlace at t → NamesPlace at (within limit at t)
within_place limit at (Ok t) p = either at (leb t.value limit) _ _ tt refl
within_place limit at (Err e) p = p

pub delta_place : (s : List ℕ) (at reference : ℕ) → NamesPlace at (delta_at s at reference)
unfolding delta_at
delta_place s at reference = less_place reference at (binary_at s at) (binary_place s at)

pub header_field_place : (s : List ℕ) (at limit : ℕ) → NamesPlace at (header_field_at s at limit)
unfolding header_field_at
header_field_place s at limit = within_place limit at (uint_at s at) (uint_place s at)

-- the reasons of `lit` in their order, each at the place
pub lit_place : (s : List ℕ) (at limit : ℕ) (assigning : Bool) → NamesPlace at (lit_at s at limit assigning)
lit_place s at limit assigning = go (uint_at s at) refl assigning
  where
    plain : (v n : ℕ) → uint_at s at ≡ value v n → NamesPlace at (lit_at s at limit false)
    plain v n e = rw (all_limited s at v n limit e (within limit at (value v n)) refl).1 (within_place limit at (value v n) tt)

    go : (t : Token) → uint_at s at ≡ t → (a : Bool) → NamesPlace at (lit_at s at limit a)
    go (Err r) e a =
        let same : r.place ≡ at = subst (NamesPlace at) e (uint_place s at) in
        rw ((everyone_refuses s at r.why (rw same at e)).by_lit limit a) refl
    go (Ok t) e false = plain t.value t.used e
    go (Ok t) e true = zeroth (eqb v 0) (eqb (v % 2) 1) refl refl
      where
        v : ℕ
        v = t.value

        n : ℕ
        n = t.used

        zeroth : (x y : Bool) → eqb v 0 ≡ x → eqb (v % 2) 1 ≡ y → NamesPlace at (lit_at s at limit true)
        zeroth true y f g = rw (assigns_zero s at v n limit e (eqb-true v 0 f)) refl
        zeroth false true f g = rw (assigns_odd s at v n limit e (eqb-true (v % 2) 1 g)) refl
        zeroth false false f g =
            let odd : v % 2 ≡ 1 → ⊥ = eqb-false (v % 2) 1 g in
            rw (assigns_even s at v n limit e (eqb-false v 0 f) (omega arith)) (plain v n e)

pub symbol_index_place : (s : List ℕ) (at limit : ℕ) → NamesPlace at (symbol_index_at s at limit)
unfolding symbol_index_at
symbol_index_place s at limit = within_place limit at (uint_at s at) (uint_place s at)

named : (at : ℕ) (t : Token) (why : Reason) (place : ℕ) → NamesPlace at t → t ≡ refused why place → place ≡ at
named at t why place p e = subst (NamesPlace at) e p

pub pair_place : (s : List ℕ) (at code : ℕ) (why : Reason) (place : ℕ) → pair_at s at code ≡ refused why place → RefusedDelta s at code why place
unfolding pair_at
pair_place s at code why place e = go (delta_at s at code) refl e
  where
    then : (a n : ℕ) → delta_at s at code ≡ value a n → (t : Token) → delta_at s (at + n) a ≡ t → pair_second code at a n t ≡ refused why place
        → RefusedDelta s at code why place
    then a n f (Ok t) g q = last (eqb a code) refl q
      where
        last : (z : Bool) → eqb a code ≡ z → cond z (refused ZeroDelta at) (inputs a t.value (n + t.used)) ≡ refused why place → RefusedDelta s at code why place
        last false h q' = let z : ◌≡◌ {A = ℕ} 0 1 = cc in absurd (omega arith)
        last true h q' =
            let same : a ≡ code = eqb-true a code h in
            let none : code - a ≡ 0 = omega arith in
            let reads : binary_at s at ≡ value 0 n = (delta_from s at code a n f).1 ∙ ap (λ (d : ℕ). value d n) none in
            let p = refused_parts q' in
            first_zero (record { n = n; b = t.value; m = t.used; first = reads; second = ap (delta_at s (at + n)) (sym same) ∙ g }) (sym p.0) (sym p.1)
    then a n f (Err x) g q =
        let r : delta_at s (at + n) a ≡ refused why place = refused_again g q in
        second a n f r (named (at + n) (delta_at s (at + n) a) why place (delta_place s (at + n) a) r)

    go : (t : Token) → delta_at s at code ≡ t → pair_first s code at t ≡ refused why place → RefusedDelta s at code why place
    go (Ok t) f q = then t.value t.used f (delta_at s (at + t.used) t.value) refl q
    go (Err x) f q =
        let r : delta_at s at code ≡ refused why place = refused_again f q in
        first r (named at (delta_at s at code) why place (delta_place s at code) r)

-- a first delta of zero

-- a delta by itself is never refused for being zero
not-zero : (s : List ℕ) (at reference place : ℕ) → delta_at s at reference ≡ refused ZeroDelta place → ⊥
unfolding delta_at binary_at
not-zero s at reference place e = go (leb 8 k) (leb (length bs) k) e
  where
    bs : List ℕ
    bs = take 8 (drop at s)

    k : ℕ
    k = go_on_at s at

    fits : (d n : ℕ) (x : Bool) → cond x (value (reference - d) n) (refused OverReference at) ≡ refused ZeroDelta place → ⊥
    fits d n true f = let z : ◌≡◌ {A = ℕ} 0 1 = cc in omega arith
    fits d n false f = let w = (refused_parts f).0 in let z : ◌≡◌ {A = ℕ} 0 1 = cc in omega arith

    go : (x y : Bool) → less reference at (cond x (refused TooLong at) (cond y (refused Cut at) (value (groups_value (take (k + 1) bs)) (k + 1))))
        ≡ refused ZeroDelta place → ⊥
    go true y f = let w = (refused_parts f).0 in let z : ◌≡◌ {A = ℕ} 0 1 = cc in omega arith
    go false true f = let w = (refused_parts f).0 in let z : ◌≡◌ {A = ℕ} 0 1 = cc in omega arith
    go false false f = fits (groups_value (take (k + 1) bs)) (k + 1) (leb (groups_value (take (k + 1) bs)) reference) f

pub zero_first : (s : List ℕ) (at code place : ℕ) → pair_at s at code ≡ refused ZeroDelta place → ZeroFirst s at code × (place ≡ at)
zero_first s at code place e = go (pair_place s at code ZeroDelta place e)
  where
    go : RefusedDelta s at code ZeroDelta place → ZeroFirst s at code × (place ≡ at)
    go (first r p) = absurd (not-zero s at code place r)
    go (second a n f r p) = absurd (not-zero s (at + n) a place r)
    go (first_zero z w p) = (z, p)

pub zero_refused : (s : List ℕ) (at code : ℕ) → ZeroFirst s at code → pair_at s at code ≡ refused ZeroDelta at
unfolding pair_at delta_at
zero_refused s at code z =
    let all : code - 0 ≡ code = omega arith in
    let whole : delta_at s at code ≡ value code z.n = rw (z.first, le-leb 0 code (omega arith), all) in
    rw (whole, z.second, eq-eqb code code refl)
