-- What is known of a header's numbers: within a list that has none over a bound, each is within it. Assumes nothing.
use Prim.Native.Nat.{ℕ, zero, suc, ◌+◌, ◌≤◌, ◌<◌}
use mathlib.Core.Path.{◌≡◌, refl, sym, ap, ◌∙◌}
use mathlib.Core.Bool.{Bool, false, cond, ◌||◌, true≢false}
use Rattle.std.specs.Prelude.{Option, Some, None, is_some, find}
use mathlib.Core.List.{List, [], ◌∷◌}
use native.Mathlib.Omega.{arith}
use borrow.Author.Tests.{lt-ltb, le-ltb, ltb-false, eq-eqb}
use lib.Dec.{leb, ltb}
use lib.ListN.{length, get_or, take, drop}
use lib.Seq.{drop-cons, get_or-take, length-take-le}
use Rattle.circuit.specs.Circuit.{first_over}
use Rattle.circuit.specs.Outcome.{total}
use Rattle.circuit.proofs.Tests.{AtMost, at_most, above, le_test}
use Rattle.sheet_read.specs.Sheet.{size_limit, root_counts, root_count, too_large, top_of, input_count, latch_count, gate_count, code_count, announced}
use Rattle.sheet_read.specs.Promise.{Small, Taken}

-- the search is the library's
pub first_over_lem : (bound : ℕ) (ns : List ℕ) → find (λ n. ltb bound n) ns ≡ first_over bound ns
first_over_lem bound [] = refl
first_over_lem bound (n ∷ ns) = go (leb n bound) (le_test n bound) (first_over_lem bound ns)
  where
    go : (b : Bool) → AtMost n bound b → find (λ n. ltb bound n) ns ≡ first_over bound ns
        → cond (ltb bound n) (Some n) (find (λ n. ltb bound n) ns) ≡ cond b (first_over bound ns) (Some n)
    go b (at_most p) e = rw (le-ltb bound n p) e
    go b (above p) e = rw (lt-ltb bound n p)

-- none over the bound
pub none_over : (bound : ℕ) (ns : List ℕ) → first_over bound ns ≡ None → (i : ℕ) → i < length ns → get_or ns i 0 ≤ bound
none_over bound [] e i h = absurd (omega arith)
none_over bound (n ∷ ns) e i h = go (leb n bound) (le_test n bound) i h e (λ f j. none_over bound ns f j)
  where
    go : (b : Bool) → AtMost n bound b → (j : ℕ) → j < length (n ∷ ns) → cond b (first_over bound ns) (Some n) ≡ None
        → (first_over bound ns ≡ None → (k : ℕ) → k < length ns → get_or ns k 0 ≤ bound) → get_or (n ∷ ns) j 0 ≤ bound
    go b (at_most p) zero k f rest = p
    go b (at_most p) (suc j) k f rest = rest f j (omega arith)
    go b (above p) j k f rest = absurd (let z : ◌≡◌ {A = ℕ} 0 1 = cc in omega arith)

pub small_at : {h : List ℕ} → Small h → (k : ℕ) → k < 9 → get_or h k 0 ≤ 1023
small_at {h} t k less =
    let n : length (take 9 h) ≡ 9 = length-take-le 9 h (omega (arith, t.ten)) in
    let e : get_or (take 9 h) k 0 ≡ get_or h k 0 = get_or-take 9 h k 0 less in
    omega (arith, none_over size_limit (take 9 h) t.nine k (omega arith))

pub five : (h : List ℕ) → length h ≡ 10 → get_or h 4 0 ∷ get_or h 5 0 ∷ get_or h 6 0 ∷ get_or h 7 0 ∷ get_or h 8 0 ∷ [] ≡ root_counts h
five h ten =
    sym (ap (take 5) (at 4 (omega arith) ∙ ap (λ (l : List ℕ). get_or h 4 0 ∷ l)
    (at 5 (omega arith) ∙ ap (λ (l : List ℕ). get_or h 5 0 ∷ l)
    (at 6 (omega arith) ∙ ap (λ (l : List ℕ). get_or h 6 0 ∷ l) (at 7 (omega arith) ∙ ap (λ (l : List ℕ). get_or h 7 0 ∷ l) (at 8 (omega arith)))))))
  where
    at : (k : ℕ) → k < length h → drop k h ≡ get_or h k 0 ∷ drop (suc k) h
    at k less = drop-cons h k 0 less

pub root_sum : (h : List ℕ) → length h ≡ 10 → get_or h 4 0 + get_or h 5 0 + get_or h 6 0 + get_or h 7 0 + get_or h 8 0 ≡ root_count h
unfolding root_count
root_sum h ten = let e = ap total (five h ten) in omega (arith, e)

-- the test of the limits
not_found : (o : Option ℕ) (b : Bool) → is_some o || b ≡ false → (o ≡ None) × (b ≡ false)
not_found None b e = (refl, e)
not_found (Some n) b e = absurd (true≢false e)

pub taken_small : {h : List ℕ} → Taken h → Small h
unfolding too_large
taken_small {h} t = record { ten = t.ten; nine = (not_found (first_over size_limit (take 9 h)) (ltb size_limit (root_count h)) t.within).0 }

pub small_roots : {h : List ℕ} → Taken h → root_count h ≤ 1023
unfolding too_large
small_roots {h} t = ltb-false size_limit (root_count h) (not_found (first_over size_limit (take 9 h)) (ltb size_limit (root_count h)) t.within).1

pub taken_at : {h : List ℕ} → Taken h → (k : ℕ) → k < 9 → get_or h k 0 ≤ 1023
taken_at t = small_at (taken_small t)

-- the numbers that a sheet's lists are cut by
pub record Bounds (h : List ℕ) : Type 0 where
  pub top : top_of h ≤ 1023
  pub inputs : input_count h ≤ 1023
  pub latches : latch_count h ≤ 1023
  pub gates : gate_count h ≤ 1023
  pub roots : root_count h ≤ 1023

pub bounds : {h : List ℕ} → Taken h → Bounds h
bounds t =
    record {
      top = taken_at t 0 (omega arith);
      inputs = taken_at t 1 (omega arith);
      latches = taken_at t 2 (omega arith);
      gates = taken_at t 3 (omega arith);
      roots = small_roots t;
    }

pub codes_few : {h : List ℕ} → Taken h → code_count h ≤ 7161
unfolding code_count
codes_few t = omega (arith, bounds t)

-- as many codes are announced as follow, where the header is taken
pub announced_taken : {h : List ℕ} → Taken h → announced h ≡ code_count h
unfolding announced
announced_taken {h} t = rw (eq-eqb (length h) 10 t.ten, t.within)
