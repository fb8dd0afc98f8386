-- Gates put one after the other: a delta byte by byte, a gate's two deltas, and after j gates the next goes on where they end. Assumes nothing.
use Prim.Native.Nat.{ℕ, suc, ◌+◌, ◌-◌, ◌*◌, ◌/◌, ◌%◌, ◌≤◌, ◌<◌}
use mathlib.Core.Path.{◌≡◌, sym, ap, ap₂, ◌∙◌, subst}
use mathlib.Core.List.{List, [], ◌∷◌, ◌++◌}
use native.Mathlib.Numerals.{add-one}
use native.Mathlib.Omega.{arith}
use lib.ListN.{length, get_or, set, drop, drop_of_length-le, length-append}
use lib.Seq.{drop-cons}
use Rattle.place.specs.Place.{last, further}
use Rattle.token.specs.Format.{shortest}
use Rattle.text.specs.Put.{put_all}
use Rattle.text.proofs.Puts.{put_all_append, put_all_on, place_on, Onward, onward_all, onward, onward_none}
use Rattle.text.proofs.Groups.{groups_one, groups_more, count_1, count-2, count_3}
use Rattle.circuit.specs.Walk.{Pair, first_code}
use Rattle.circuit.specs.Ordered.{no_pair, InOrder}
use Rattle.circuit.specs.Outcome.{pairs_of}
use Rattle.ordered.proofs.Laid.{pairs_length, pairs_at}
use Rattle.binary.specs.Write.{gate_bytes, gates_bytes}
use Rattle.binary.proofs.Most.{delta_few}

-- a delta of one, two or three bytes, put byte by byte

abbrev Delta : List ℕ → ℕ → ℕ → List ℕ → ℕ → Type 0
Delta out at d out' place = (out' ≡ put_all out at (shortest d)) × (place ≡ at + length (shortest d))

pub delta_1 : (out : List ℕ) (at d : ℕ) → d < 128 → Delta out at d (set out at d) (at + 1)
delta_1 out at d h = (ap (put_all out at) (sym (groups_one d h)), omega (arith, count_1 d h))

pub delta_2 : (out : List ℕ) (at d : ℕ) → 128 ≤ d → d < 16384 → Delta out at d (set (set out at (128 + d % 128)) (at + 1) (d / 128)) (at + 2)
delta_2 out at d low high =
    let bytes : shortest d ≡ (128 + d % 128) ∷ (d / 128) ∷ []
    = groups_more d low (omega arith) ∙ ap {B = List ℕ} (λ bs. (128 + d % 128) ∷ bs) (groups_one (d / 128) (omega arith)) in (
      ap (λ (i : ℕ). set (set out at (128 + d % 128)) i (d / 128)) (add-one at) ∙ ap (put_all out at) (sym bytes),
      omega (arith, count-2 d low high),
    )

pub delta_3 : (out : List ℕ) (at d : ℕ) → 16384 ≤ d → d < 2097152
    → Delta out at d (set (set (set out at (128 + d % 128)) (at + 1) (128 + d / 128 % 128)) (at + 2) (d / 16384)) (at + 3)
delta_3 out at d low high =
    let twice : d / 128 / 128 ≡ d / 16384 = omega arith in
    let one : at + 1 ≡ suc at = omega arith in
    let two : at + 2 ≡ suc (suc at) = omega arith in
    let bytes : shortest d ≡ (128 + d % 128) ∷ (128 + d / 128 % 128) ∷ (d / 16384) ∷ []
    = groups_more d (omega arith) (omega arith)
    ∙ ap {B = List ℕ} (λ bs. (128 + d % 128) ∷ bs)
    (groups_more (d / 128) (omega arith) (omega arith)
    ∙ ap {B = List ℕ} (λ bs. (128 + d / 128 % 128) ∷ bs) (groups_one (d / 128 / 128) (omega arith) ∙ ap {B = List ℕ} (λ k. k ∷ []) twice)) in (
      ap₂ (λ (i k : ℕ). set (set (set out at (128 + d % 128)) i (128 + d / 128 % 128)) k (d / 16384)) one two ∙ ap (put_all out at) (sym bytes),
      omega (arith, count_3 d low high),
    )

-- a gate's two deltas: where there is room for both, and where there may be none
module _ (out : List ℕ) (at first second : ℕ) (short : length out ≤ last) (out₁ : List ℕ) (place₁ : ℕ) (out₂ : List ℕ) (place₂ : ℕ) where
  abbrev both : List ℕ
  both = shortest first ++ shortest second

  pub gate_within : at + 6 ≤ length out → first < 2097152 → second < 2097152 → Delta out at first out₁ place₁ → Delta out₁ place₁ second out₂ place₂
      → (out₂ ≡ put_all out at both) × (place₂ ≡ further at (length both))
  gate_within room f s one two = (
    two.0 ∙ ap₂ (λ (l : List ℕ) (i : ℕ). put_all l i (shortest second)) one.0 one.1 ∙ sym (put_all_append out at (shortest first) (shortest second)),
    omega (arith, one.1, two.1, length-append (shortest first) (shortest second), delta_few first f, delta_few second s),
  )

  pub gate_past : (out₁ ≡ put_all out at (shortest first)) × (place₁ ≡ further at (length (shortest first)))
      → (out₂ ≡ put_all out₁ place₁ (shortest second)) × (place₂ ≡ further place₁ (length (shortest second)))
      → (out₂ ≡ put_all out at both) × (place₂ ≡ further at (length both))
  gate_past one two = (
    two.0 ∙ ap₂ (λ (l : List ℕ) (i : ℕ). put_all l i (shortest second)) one.0 one.1 ∙ put_all_on out at (shortest first) (shortest second) short,
    two.1 ∙ ap (λ (i : ℕ). further i (length (shortest second))) one.1 ∙ place_on at (shortest first) (shortest second),
  )

-- the gates from the j-th on: its two deltas, and the others
gates_next : (t : ℕ) (gs : List Pair) (j : ℕ) → j < length gs
    → gates_bytes (t + 2 * j) (drop j gs) ≡ gate_bytes (t + 2 * j) (get_or gs j no_pair) ++ gates_bytes (t + 2 * (j + 1)) (drop (j + 1) gs)
gates_next t gs j there =
    let p : Pair = get_or gs j no_pair in
    let on : t + 2 * j + 2 ≡ t + 2 * (j + 1) = omega arith in
    ap (gates_bytes (t + 2 * j)) (drop-cons gs j no_pair there)
    ∙ ap₂ (λ (u k : ℕ). gate_bytes (t + 2 * j) p ++ gates_bytes u (drop k gs)) on (sym (add-one j))

-- j gates are put, after n inputs and latches; the next one has the code `code` and goes to `place`
pub record Putting (out₀ : List ℕ) (at n : ℕ) (ws out : List ℕ) (code j place : ℕ) : Type 0 where
  pub inside : j ≤ length ws / 2
  pub own : code ≡ first_code n + 2 * j
  pub there : place ≤ last
  pub left : Onward out₀ at (gates_bytes (first_code n) (pairs_of ws)) out place (gates_bytes (first_code n + 2 * j) (drop j (pairs_of ws)))

pub putting_none : (out : List ℕ) (at n : ℕ) (ws : List ℕ) (code : ℕ) → code ≡ 2 * (n + 1) → at ≤ last → Putting out at n ws out code 0 at
unfolding first_code
putting_none out at n ws code e h =
    record {
      inside = omega arith;
      own = omega arith;
      there = h;
      left =
          subst (λ (t : ℕ). Onward out at (gates_bytes (2 * (n + 1)) (pairs_of ws)) out at (gates_bytes t (pairs_of ws)))
          (let z : 2 * (n + 1) ≡ 2 * (n + 1) + 2 * 0 = omega arith in z) (onward_all out at (gates_bytes (2 * (n + 1)) (pairs_of ws)));
    }

module _ {out₀ : List ℕ} {at n : ℕ} {ws out : List ℕ} {code j place : ℕ} (p : Putting out₀ at n ws out code j place) (in_order : InOrder n (pairs_of ws))
    (there : j < length ws / 2) where
  -- the next gate's inputs stand in order below its code
  pub falls : (get_or ws (2 * j + 1) 0 ≤ get_or ws (2 * j) 0) × (get_or ws (2 * j) 0 < code)
  falls =
      let h : j < length (pairs_of ws) = omega (arith, pairs_length ws) in
      let here = pairs_at ws j there in
      let o = in_order j h in
      let a : (get_or (pairs_of ws) j no_pair).larger ≡ get_or ws (2 * j) 0 = ap (λ (q : Pair). q.larger) here in
      let b : (get_or (pairs_of ws) j no_pair).smaller ≡ get_or ws (2 * j + 1) 0 = ap (λ (q : Pair). q.smaller) here in
      (omega (arith, o.0, a, b), omega (arith, o.1, a, p.own))

  pub putting_more : (out' : List ℕ) (place' code' : ℕ) → code' ≡ code + 2 → length out₀ ≤ last
      → (out' ≡ put_all out place (shortest (code - get_or ws (2 * j) 0) ++ shortest (get_or ws (2 * j) 0 - get_or ws (2 * j + 1) 0)))
      × (place' ≡ further place (length (shortest (code - get_or ws (2 * j) 0) ++ shortest (get_or ws (2 * j) 0 - get_or ws (2 * j + 1) 0))))
      → Putting out₀ at n ws out' code' (j + 1) place'
  putting_more out' place' code' next short put =
      let rest : List ℕ = gates_bytes (first_code n + 2 * (j + 1)) (drop (j + 1) (pairs_of ws)) in
      let gate : Pair = record { larger = get_or ws (2 * j) 0; smaller = get_or ws (2 * j + 1) 0 } in
      let parts : gates_bytes (first_code n + 2 * j) (drop j (pairs_of ws)) ≡ gate_bytes code gate ++ rest
      = gates_next (first_code n) (pairs_of ws) j (omega (arith, pairs_length ws))
      ∙ ap₂ (λ (k : ℕ) (q : Pair). gate_bytes k q ++ rest) (sym p.own) (pairs_at ws j there) in
      record {
        inside = omega arith;
        own = omega (arith, next, p.own);
        there = omega (arith, put.1);
        left = onward p.left (gate_bytes code gate) rest parts out' place' short put.0 put.1;
      }

pub putting_all : {out₀ : List ℕ} {at n : ℕ} {ws out : List ℕ} {code j place : ℕ} → Putting out₀ at n ws out code j place → length ws / 2 ≤ j
    → (out ≡ put_all out₀ at (gates_bytes (first_code n) (pairs_of ws))) × (place ≡ further at (length (gates_bytes (first_code n) (pairs_of ws))))
putting_all {out₀} {at} {n} {ws} {out} {code} {j} {place} p end =
    onward_none p.left (ap (gates_bytes (first_code n + 2 * j)) (drop_of_length-le (pairs_of ws) {i = j} (omega (arith, pairs_length ws)))) p.there
