-- Laws of the function that computes every variable's bit by running through the gates made: a source has its own bit, a gate the AND of its inputs',
-- and one gate more changes no bit before it. Assumes nothing.
use Prim.Native.Nat.{ℕ, zero, suc, ◌+◌, ◌*◌, ◌/◌, ◌%◌, ◌<◌}
use mathlib.Core.Path.{◌≡◌, refl, sym, ◌∙◌, ap, ap₂}
use mathlib.Core.Bool.{Bool, false, true, not, ◌&&◌}
use mathlib.Core.List.{List, [], ◌∷◌, ◌++◌}
use native.Mathlib.Omega.{arith}
use lib.ListN.{length, get_or, length-append, get_or-append}
use lib.Seq.{get_or_at, get_or-append_seam}
use Rattle.lit.specs.Code.{var, is_odd, flipped}
use Rattle.lit.proofs.Flips.{flipped-var, odd_false}
use Rattle.circuit.specs.Walk.{Pair, first_code, next_code}
use Rattle.circuit.specs.Ordered.{no_pair, InOrder, flip_if, bit_of, run_gates, values_of, given_from}
use Rattle.circuit.proofs.Meaning.{flip_if-flip_if, odd_flipped}
use Rattle.circuit.specs.Invariant.{val}

pub length-given_from : (given : ℕ → Bool) (k n : ℕ) → length (given_from given k n) ≡ n
unfolding given_from
length-given_from given k zero = refl
length-given_from given k (suc n) = ap suc (length-given_from given (suc k) n)

get_d_given_from : (given : ℕ → Bool) (k n i : ℕ) → i < n → get_or (given_from given k n) i false ≡ given (k + i)
unfolding given_from
get_d_given_from given k zero i h = absurd (omega arith)
get_d_given_from given k (suc n) zero h = ap given (omega arith)
get_d_given_from given k (suc n) (suc i) h = get_d_given_from given (suc k) n i (omega arith) ∙ ap given (omega arith)

run_snoc : (bs : List Bool) (ps : List Pair) (p : Pair)
    → run_gates bs (ps ++ (p ∷ [])) ≡ run_gates bs ps ++ ((bit_of (run_gates bs ps) p.larger && bit_of (run_gates bs ps) p.smaller) ∷ [])
unfolding run_gates
run_snoc bs [] p = refl
run_snoc bs (q ∷ ps) p = run_snoc (bs ++ ((bit_of bs q.larger && bit_of bs q.smaller) ∷ [])) ps p

run_length : (bs : List Bool) (ps : List Pair) → length (run_gates bs ps) ≡ length bs + length ps
unfolding run_gates
run_length bs [] = omega arith
run_length bs (q ∷ ps) =
    let b = (bit_of bs q.larger && bit_of bs q.smaller) ∷ [] in
    omega (arith, run_length (bs ++ b) ps, length-append bs b)

run_keeps : (bs : List Bool) (ps : List Pair) (v : ℕ) → v < length bs → get_or (run_gates bs ps) v false ≡ get_or bs v false
unfolding run_gates
run_keeps bs [] v h = refl
run_keeps bs (q ∷ ps) v h =
    let b = (bit_of bs q.larger && bit_of bs q.smaller) ∷ [] in
    run_keeps (bs ++ b) ps v (omega (arith, length-append bs b)) ∙ get_or-append bs b false v h

module _ (n : ℕ) (given : ℕ → Bool) where
  abbrev bits : List Pair → List Bool
  bits made = values_of made (given_from given 0 n)

  bits_length : (made : List Pair) → 2 * length (bits made) ≡ next_code n made
  unfolding values_of next_code first_code
  bits_length made = omega (arith, run_length (false ∷ given_from given 0 n) made, length-given_from given 0 n)

  pub val-zero : (made : List Pair) → val n given made 0 ≡ false
  unfolding val bit_of values_of is_odd flip_if
  val-zero made = run_keeps (false ∷ given_from given 0 n) made 0 (omega arith)

  pub val-one : (made : List Pair) → val n given made 1 ≡ true
  unfolding val bit_of values_of is_odd flip_if
  val-one made = ap not (run_keeps (false ∷ given_from given 0 n) made 0 (omega arith))

  -- a source's code
  pub val_source : (made : List Pair) (k : ℕ) → k < n → val n given made (2 * (k + 1)) ≡ given k
  unfolding val bit_of values_of flip_if
  val_source made k h =
      let e : 2 * (k + 1) / 2 ≡ suc k = omega arith in
      rw (odd_false (2 * (k + 1)) (omega arith), e)
      (run_keeps (false ∷ given_from given 0 n) made (suc k) (omega (arith, length-given_from given 0 n))
      ∙ get_d_given_from given 0 n k h ∙ ap given (omega arith))

  pub val-flipped : (made : List Pair) (t d : ℕ) → val n given made (flipped t d) ≡ flip_if (is_odd d) (val n given made t)
  unfolding val bit_of
  val-flipped made t d =
      rw (odd_flipped t d, flipped-var t d) (flip_if-flip_if (is_odd d) (is_odd t) (get_or (bits made) (t / 2) false))

  -- a code's bit, by the bit of its variable
  pub val_even : (made : List Pair) (t : ℕ) → val n given made t ≡ flip_if (is_odd t) (val n given made (2 * var t))
  unfolding val bit_of flip_if
  val_even made t =
      let e : 2 * (t / 2) / 2 ≡ t / 2 = omega arith in
      rw (odd_false (2 * (t / 2)) (omega arith), e)

  -- one gate more
  module _ (made : List Pair) (p : Pair) where
    pub val_old : (t : ℕ) → t < next_code n made → val n given (made ++ (p ∷ [])) t ≡ val n given made t
    unfolding val bit_of values_of
    val_old t h =
        rw (run_snoc (false ∷ given_from given 0 n) made p)
        (ap (flip_if (is_odd t)) (get_or-append (bits made) _ false (t / 2) (omega (arith, bits_length made))))

    pub val_new : val n given (made ++ (p ∷ [])) (next_code n made) ≡ val n given made p.larger && val n given made p.smaller
    unfolding val bit_of values_of flip_if
    val_new =
        let l : length (bits made) ≡ next_code n made / 2 = omega (arith, bits_length made) in
        rw (run_snoc (false ∷ given_from given 0 n) made p, odd_false (next_code n made) (omega (arith, bits_length made)))
        (get_or_at (bits made) _ [] false (next_code n made / 2) l)

run_bit : (bs : List Bool) (ps : List Pair) (t : ℕ) → var t < length bs → bit_of (run_gates bs ps) t ≡ bit_of bs t
unfolding bit_of
run_bit bs ps t h = ap (flip_if (is_odd t)) (run_keeps bs ps (var t) h)

val_at : (bs : List Bool) (t : ℕ) → t % 2 ≡ 0 → bit_of bs t ≡ get_or bs (var t) false
unfolding bit_of flip_if
val_at bs t e = rw (odd_false t e)

-- in a list of gates each of which has only earlier inputs, each has the bit of the AND of its inputs
abbrev Earlier : ℕ → List Pair → Type 0
Earlier n ps = (i : ℕ) → i < length ps → (var (get_or ps i no_pair).larger < n + i) × (var (get_or ps i no_pair).smaller < n + i)

run_gate : (bs : List Bool) (ps : List Pair) → Earlier (length bs) ps → (j : ℕ) → j < length ps
    → get_or (run_gates bs ps) (length bs + j) false
    ≡ bit_of (run_gates bs ps) (get_or ps j no_pair).larger && bit_of (run_gates bs ps) (get_or ps j no_pair).smaller
unfolding run_gates
run_gate bs [] f j h = absurd (omega arith)
run_gate bs (p ∷ ps) f zero h =
    let b : Bool = bit_of bs p.larger && bit_of bs p.smaller in
    let l : length (bs ++ (b ∷ [])) ≡ length bs + 1 = length-append bs (b ∷ []) in
    let e : length bs + 0 ≡ length bs = omega arith in
    let up : (t : ℕ) → var t < length bs → bit_of bs t ≡ bit_of (run_gates (bs ++ (b ∷ [])) ps) t
    = λ t k. sym (run_bit bs (p ∷ ps) t k) in
    ap (λ (i : ℕ). get_or (run_gates (bs ++ (b ∷ [])) ps) i false) e
    ∙ run_keeps (bs ++ (b ∷ [])) ps (length bs) (omega (arith, l)) ∙ get_or-append_seam bs b [] false
    ∙ ap₂ ◌&&◌ (up p.larger (omega (arith, f 0 (omega arith)))) (up p.smaller (omega (arith, f 0 (omega arith))))
run_gate bs (p ∷ ps) f (suc j) h =
    let b : Bool = bit_of bs p.larger && bit_of bs p.smaller in
    let l : length (bs ++ (b ∷ [])) ≡ length bs + 1 = length-append bs (b ∷ []) in
    let e : length bs + suc j ≡ length (bs ++ (b ∷ [])) + j = omega (arith, l) in
    ap (λ (i : ℕ). get_or (run_gates (bs ++ (b ∷ [])) ps) i false) e
    ∙ run_gate (bs ++ (b ∷ [])) ps (λ i k. omega (arith, f (suc i) (omega arith), l)) j (omega arith)

-- each gate made has the bit of the AND of its inputs
pub val_gate : (n : ℕ) (made : List Pair) → InOrder n made → (given : ℕ → Bool) (j : ℕ) → j < length made
    → val n given made (first_code n + 2 * j) ≡ val n given made (get_or made j no_pair).larger && val n given made (get_or made j no_pair).smaller
unfolding val values_of first_code
val_gate n made order given j h =
    let l = length-given_from given 0 n in
    let v : var (2 * (n + 1) + 2 * j) ≡ length (false ∷ given_from given 0 n) + j = omega (arith, l) in
    even ∙ ap (λ (i : ℕ). get_or (run_gates (false ∷ given_from given 0 n) made) i false) v
    ∙ run_gate (false ∷ given_from given 0 n) made (λ i k. omega (arith, order i k, l)) j h
  where
    even : bit_of (run_gates (false ∷ given_from given 0 n) made) (2 * (n + 1) + 2 * j) ≡ get_or (run_gates (false ∷ given_from given 0 n) made)
        (var (2 * (n + 1) + 2 * j)) false
    even = val_at (run_gates (false ∷ given_from given 0 n) made) (2 * (n + 1) + 2 * j) (omega arith)
