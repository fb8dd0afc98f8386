-- The lines of a text, put one after the other: after some of them, the next one goes on where they end. Assumes nothing.
use Prim.Native.Nat.{ℕ, ◌+◌, ◌*◌, ◌/◌, ◌≤◌, ◌<◌, min}
use mathlib.Core.Path.{◌≡◌, refl, sym, ap, ap₂, ◌∙◌, subst, subst⁻¹}
use mathlib.Core.List.{List, [], ◌∷◌, ◌++◌}
use native.Mathlib.Numerals.{add-one}
use native.Mathlib.Omega.{arith, min_cases}
use lib.ListN.{length, get_or, drop, drop_of_length-le}
use lib.Seq.{drop-cons}
use Rattle.place.specs.Place.{last}
use Rattle.text.specs.Put.{Puts}
use Rattle.text.proofs.Puts.{Onward, onward_all, onward, onward_none}
use Rattle.circuit.specs.Walk.{Pair, first_code}
use Rattle.circuit.specs.Ordered.{no_pair, first_latch, count_from}
use Rattle.circuit.specs.Outcome.{pairs_of}
use Rattle.circuit.proofs.Ordered.{count_from-length, count_from_get_d}
use Rattle.sections.specs.Bytes.{line_bytes}
use Rattle.sections.proofs.Parts.{Rowing, rowing_more, rowing_all}
use Rattle.ordered.proofs.Laid.{pairs_length, pairs_at}
use Rattle.ascii.specs.Write.{input_lines, stated_bytes, stated_lines, gate_line, gate_lines}

-- input lines are a row of the codes 2, 4, ..

module _ (n : ℕ) {out₀ : List ℕ} {at : ℕ} {out : List ℕ} {i place : ℕ} (p : Rowing line_bytes out₀ at (count_from 2 n) out i place) where
  pub inputs_more : (out' : List ℕ) (place' : ℕ) → i < n → length out₀ ≤ last
      → Puts out place (line_bytes (2 + 2 * i)) out' place'
      → Rowing line_bytes out₀ at (count_from 2 n) out' (i + 1) place'
  inputs_more out' place' there short put =
      rowing_more p out' place' (omega (arith, count_from-length 2 n)) short
      (subst⁻¹ (λ (v : ℕ). Puts out place (line_bytes v) out' place') (count_from_get_d 2 n i there) put)

  pub inputs_all : n ≤ i → Puts out₀ at (input_lines n) out place
  unfolding input_lines
  inputs_all end = rowing_all p (omega (arith, count_from-length 2 n))

-- latch lines from a place on: the next one and the rest, or nothing where a list ends

stated_next : (t : ℕ) (ns rs : List ℕ) (i : ℕ) → i < length ns → i < length rs
    → stated_lines (t + 2 * i) (drop i ns) (drop i rs)
    ≡ stated_bytes (t + 2 * i) (get_or ns i 0) (get_or rs i 0) ++ stated_lines (t + 2 * (i + 1)) (drop (i + 1) ns) (drop (i + 1) rs)
stated_next t ns rs i there here =
    let n : drop i ns ≡ get_or ns i 0 ∷ drop (i + 1) ns = drop-cons ns i 0 there ∙ ap (λ (k : ℕ). get_or ns i 0 ∷ drop k ns) (sym (add-one i)) in
    let r : drop i rs ≡ get_or rs i 0 ∷ drop (i + 1) rs = drop-cons rs i 0 here ∙ ap (λ (k : ℕ). get_or rs i 0 ∷ drop k rs) (sym (add-one i)) in
    let on : t + 2 * i + 2 ≡ t + 2 * (i + 1) = omega arith in
    ap₂ (stated_lines (t + 2 * i)) n r
    ∙ ap (λ (u : ℕ). stated_bytes (t + 2 * i) (get_or ns i 0) (get_or rs i 0) ++ stated_lines u (drop (i + 1) ns) (drop (i + 1) rs)) on

no_stated : (t : ℕ) (ns : List ℕ) → stated_lines t ns [] ≡ []
no_stated t [] = refl
no_stated t (n ∷ ns) = refl

stated_end : (t : ℕ) (ns rs : List ℕ) (i : ℕ) → min (length ns) (length rs) ≤ i → stated_lines t (drop i ns) (drop i rs) ≡ []
stated_end t ns rs i end =
    min_cases (length ns) (length rs) _
    (λ _ e. ap (λ (l : List ℕ). stated_lines t l (drop i rs)) (drop_of_length-le ns {i = i} (omega arith)))
    (λ _ e. ap (stated_lines t (drop i ns)) (drop_of_length-le rs {i = i} (omega arith)) ∙ no_stated t (drop i ns))

-- i latch lines are put; the next one is of the state `state` and goes to `place`
pub record Stating (out₀ : List ℕ) (at inputs : ℕ) (ns rs out : List ℕ) (state i place : ℕ) : Type 0 where
  pub inside : i ≤ min (length ns) (length rs)
  pub own : state ≡ first_latch inputs + 2 * i
  pub there : place ≤ last
  pub left : Onward out₀ at (stated_lines (first_latch inputs) ns rs) out place (stated_lines (first_latch inputs + 2 * i) (drop i ns) (drop i rs))

module _ {out₀ : List ℕ} {at inputs : ℕ} {ns rs out : List ℕ} {state i place : ℕ} (p : Stating out₀ at inputs ns rs out state i place) where
  pub stating_more : (n r j : ℕ) (out' : List ℕ) (place' : ℕ) → i < min (length ns) (length rs) → length out₀ ≤ last → j ≡ i + 1
      → n ≡ get_or ns i 0 → r ≡ get_or rs i 0 → Puts out place (stated_bytes state n r) out' place'
      → Stating out₀ at inputs ns rs out' (state + 2) j place'
  stating_more n r j out' place' there short next e f put =
      let rest : List ℕ = stated_lines (first_latch inputs + 2 * (i + 1)) (drop (i + 1) ns) (drop (i + 1) rs) in
      let parts : stated_lines (first_latch inputs + 2 * i) (drop i ns) (drop i rs) ≡ stated_bytes state n r ++ rest
      = stated_next (first_latch inputs) ns rs i (omega arith) (omega arith) ∙ rw (p.own, e, f) in
      rw next (record {
        inside = omega arith;
        own = omega (arith, p.own);
        there = omega (arith, put.1);
        left = onward p.left (stated_bytes state n r) rest parts out' place' short put.0 put.1;
      })

  pub stating_all : min (length ns) (length rs) ≤ i
      → Puts out₀ at (stated_lines (first_latch inputs) ns rs) out place
  stating_all end = onward_none p.left (stated_end (first_latch inputs + 2 * i) ns rs i end) p.there

-- the gates from the j-th on: its line, and the others
gate_lines_next : (t : ℕ) (gs : List Pair) (j : ℕ) → j < length gs
    → gate_lines (t + 2 * j) (drop j gs)
    ≡ gate_line (t + 2 * j) (get_or gs j no_pair).larger (get_or gs j no_pair).smaller ++ gate_lines (t + 2 * (j + 1)) (drop (j + 1) gs)
gate_lines_next t gs j there =
    let p : Pair = get_or gs j no_pair in
    let on : t + 2 * j + 2 ≡ t + 2 * (j + 1) = omega arith in
    ap (gate_lines (t + 2 * j)) (drop-cons gs j no_pair there)
    ∙ ap₂ (λ (u k : ℕ). gate_line (t + 2 * j) p.larger p.smaller ++ gate_lines u (drop k gs)) on (sym (add-one j))

-- j gate lines are put, after n inputs and latches; the next one is of the output `code` and goes to `place`
pub record Gating (out₀ : List ℕ) (at n : ℕ) (ws out : List ℕ) (code j place : ℕ) : Type 0 where
  pub inside : j ≤ length ws / 2
  pub own : code ≡ first_code n + 2 * j
  pub there : place ≤ last
  pub left : Onward out₀ at (gate_lines (first_code n) (pairs_of ws)) out place (gate_lines (first_code n + 2 * j) (drop j (pairs_of ws)))

pub gating_none : (out : List ℕ) (at n : ℕ) (ws : List ℕ) → at ≤ last → Gating out at n ws out (2 * (n + 1)) 0 at
unfolding first_code
gating_none out at n ws h =
    record {
      inside = omega arith;
      own = omega arith;
      there = h;
      left =
          subst (λ (t : ℕ). Onward out at (gate_lines (2 * (n + 1)) (pairs_of ws)) out at (gate_lines t (pairs_of ws)))
          (let z : 2 * (n + 1) ≡ 2 * (n + 1) + 2 * 0 = omega arith in z) (onward_all out at (gate_lines (2 * (n + 1)) (pairs_of ws)));
    }

module _ {out₀ : List ℕ} {at n : ℕ} {ws out : List ℕ} {code j place : ℕ} (p : Gating out₀ at n ws out code j place) where
  pub gating_more : (out' : List ℕ) (place' : ℕ) → j < length ws / 2 → length out₀ ≤ last
      → Puts out place (gate_line code (get_or ws (2 * j) 0) (get_or ws (2 * j + 1) 0)) out' place'
      → Gating out₀ at n ws out' (code + 2) (j + 1) place'
  gating_more out' place' there short put =
      let rest : List ℕ = gate_lines (first_code n + 2 * (j + 1)) (drop (j + 1) (pairs_of ws)) in
      let parts : gate_lines (first_code n + 2 * j) (drop j (pairs_of ws)) ≡ gate_line code (get_or ws (2 * j) 0) (get_or ws (2 * j + 1) 0) ++ rest
      = gate_lines_next (first_code n) (pairs_of ws) j (omega (arith, pairs_length ws))
      ∙ ap₂ (λ (k : ℕ) (q : Pair). gate_line k q.larger q.smaller ++ rest) (sym p.own) (pairs_at ws j there) in
      record {
        inside = omega arith;
        own = omega (arith, p.own);
        there = omega (arith, put.1);
        left = onward p.left (gate_line code (get_or ws (2 * j) 0) (get_or ws (2 * j + 1) 0)) rest parts out' place' short put.0 put.1;
      }

  pub gating_all : length ws / 2 ≤ j
      → Puts out₀ at (gate_lines (first_code n) (pairs_of ws)) out place
  gating_all end =
      let none = ap (gate_lines (first_code n + 2 * j)) (drop_of_length-le (pairs_of ws) {i = j} (omega (arith, pairs_length ws))) in
      onward_none p.left none p.there
