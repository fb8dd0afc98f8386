-- Texts put one after the other: each goes to the place that the one before it answered, so together they are put in a row. Assumes nothing.
use Prim.Native.Nat.{ℕ, zero, suc, ◌+◌, ◌*◌, ◌/◌, ◌≤◌, ◌<◌}
use mathlib.Core.Path.{◌≡◌, refl, sym, ap, subst, ◌∙◌}
use mathlib.Core.List.{List, [], ◌∷◌, ◌++◌, append-nil, append_assoc}
use native.Mathlib.Numerals.{add-one}
use native.Mathlib.Omega.{arith}
use lib.ListN.{length, get_or, take}
use lib.Seq.{take-suc, take_all}
use Rattle.place.specs.Place.{last}
use Rattle.place.proofs.Theorems.{further_none}
use Rattle.text.specs.Put.{Puts}
use Rattle.text.proofs.Theorems.{in_a_row, length_kept}
use Rattle.circuit.specs.Graph.{Gate}
use Rattle.circuit.specs.Ordered.{gates_from}
use Rattle.circuit.specs.Outcome.{pairs_of}
use Rattle.sheet_lines.specs.Lines.{gate_line, each}

-- the same text, otherwise said
pub put_same : (o₀ : List ℕ) (at : ℕ) {bs cs o₁ : List ℕ} {p₁ : ℕ} → Puts o₀ at bs o₁ p₁ → bs ≡ cs → Puts o₀ at cs o₁ p₁
put_same o₀ at {bs} {cs} {o₁} {p₁} p e = subst (λ (ts : List ℕ). Puts o₀ at ts o₁ p₁) e p

-- one text and then another
pub put_then : (o₀ : List ℕ) (at : ℕ) (bs cs : List ℕ) {o₁ o₂ : List ℕ} {p₁ p₂ : ℕ} → length o₀ ≤ last → Puts o₀ at bs o₁ p₁ → Puts o₁ p₁ cs o₂ p₂
    → Puts o₀ at (bs ++ cs) o₂ p₂
put_then o₀ at bs cs short p q = rw (q.0, q.1, p.0, p.1) (in_a_row o₀ at bs cs short)

-- a line for each of a list

each_append : {A : Type 0} (line : A → List ℕ) (xs ys : List A) → each line (xs ++ ys) ≡ each line xs ++ each line ys
each_append line [] ys = refl
each_append line (x ∷ xs) ys = ap (λ (l : List ℕ). line x ++ l) (each_append line xs ys) ∙ sym (append_assoc (line x) (each line xs) (each line ys))

each_more : {A : Type 0} (line : A → List ℕ) (xs : List A) (i : ℕ) (d : A) → i < length xs
    → each line (take (i + 1) xs) ≡ each line (take i xs) ++ line (get_or xs i d)
each_more {A} line xs i d h =
    ap (λ (k : ℕ). each line (take k xs)) (add-one i) ∙ ap (each line) (take-suc xs i d h) ∙ each_append line (take i xs) (get_or xs i d ∷ [])
    ∙ ap (λ (l : List ℕ). each line (take i xs) ++ l) (append-nil (line (get_or xs i d)))

-- the lines of the first i of xs are put
pub record Listing {A : Type 0} (line : A → List ℕ) (xs : List A) (o₀ : List ℕ) (at : ℕ) (o : List ℕ) (i place : ℕ) : Type 0 where
  pub inside : i ≤ length xs
  pub sofar : Puts o₀ at (each line (take i xs)) o place

pub listing_none : {A : Type 0} (line : A → List ℕ) (xs : List A) (o₀ : List ℕ) (at : ℕ) → at ≤ last → Listing line xs o₀ at o₀ 0 at
listing_none line xs o₀ at h = record { inside = omega arith; sofar = (refl, sym (further_none at h)) }

module _ {A : Type 0} {line : A → List ℕ} {xs : List A} {o₀ : List ℕ} {at : ℕ} {o : List ℕ} {i place : ℕ} (l : Listing line xs o₀ at o i place) where
  pub listing_more : (d : A) {bs o' : List ℕ} {place' : ℕ} → length o₀ ≤ last → i < length xs → bs ≡ line (get_or xs i d) → Puts o place bs o' place'
      → Listing line xs o₀ at o' (i + 1) place'
  listing_more d {bs} {o'} {place'} short h e q =
      let both : Puts o₀ at (each line (take i xs) ++ bs) o' place' = put_then o₀ at (each line (take i xs)) bs short l.sofar q in
      let more : each line (take i xs) ++ bs ≡ each line (take (i + 1) xs) = ap (λ (b : List ℕ). each line (take i xs) ++ b) e
      ∙ sym (each_more line xs i d h) in
      record {
        inside = omega arith;
        sofar = put_same o₀ at both more;
      }

  pub listing_all : length xs ≤ i → Puts o₀ at (each line xs) o place
  listing_all h =
      let all : each line (take i xs) ≡ each line xs = ap (each line) (take_all i xs h) in
      put_same o₀ at l.sofar all

  pub listing_keeps : length o ≡ length o₀
  listing_keeps = ap length l.sofar.0 ∙ length_kept o₀ at (each line (take i xs))

-- gates from a flat list of pairs, with their outputs from a code on

abbrev pub no_gate : Gate
no_gate = record { output = 0; first = 0; second = 0 }

pub made_length : (t : ℕ) (ws : List ℕ) → length (gates_from t (pairs_of ws)) ≡ length ws / 2
made_length t [] = refl
made_length t (a ∷ []) = refl
made_length t (a ∷ b ∷ ws) = let e = made_length (t + 2) ws in omega arith

pub made_at : (t : ℕ) (ws : List ℕ) (j : ℕ) → j < length ws / 2
    → record { output = t + 2 * j; first = get_or ws (2 * j) 0; second = get_or ws (2 * j + 1) 0 } ≡ get_or (gates_from t (pairs_of ws)) j no_gate
made_at t [] j h = absurd (omega arith)
made_at t (a ∷ []) j h = absurd (omega arith)
made_at t (a ∷ b ∷ ws) zero h = let e : t + 2 * 0 ≡ t = omega arith in ap (λ (k : ℕ). record { output = k; first = a; second = b }) e
made_at t (a ∷ b ∷ ws) (suc j) h =
    let e : 2 * suc j ≡ suc (suc (2 * j)) = omega arith in
    let f : 2 * suc j + 1 ≡ suc (suc (2 * j + 1)) = omega arith in
    let g : t + 2 * suc j ≡ t + 2 + 2 * j = omega arith in
    ap (λ (k : ℕ). gate k (get_or (a ∷ b ∷ ws) (2 * suc j) 0) (get_or (a ∷ b ∷ ws) (2 * suc j + 1) 0)) g
    ∙ ap (λ (k : ℕ). gate (t + 2 + 2 * j) (get_or (a ∷ b ∷ ws) k 0) (get_or (a ∷ b ∷ ws) (2 * suc j + 1) 0)) e
    ∙ ap (λ (k : ℕ). gate (t + 2 + 2 * j) (get_or ws (2 * j) 0) (get_or (a ∷ b ∷ ws) k 0)) f
    ∙ made_at (t + 2) ws j (omega arith)
  where
    gate : ℕ → ℕ → ℕ → Gate
    gate o x y = record { output = o; first = x; second = y }

pub made_line : (t : ℕ) (ws : List ℕ) (j o x y : ℕ) → j < length ws / 2 → o ≡ t + 2 * j → x ≡ get_or ws (2 * j) 0 → y ≡ get_or ws (2 * j + 1) 0
    → gate_line (record { output = o; first = x; second = y }) ≡ gate_line (get_or (gates_from t (pairs_of ws)) j no_gate)
made_line t ws j o x y h p q r = rw (p, q, r) (ap gate_line (made_at t ws j h))
