-- A map that keeps the local rule (`Rule`) keeps every value, whoever made it (`keeps`). By induction on what a literal means. Assumes nothing.
-- For document 02's Q-12, the check of a renumbering that somebody else made. No statement of the base stands on it.
use Rattle.std.specs.Prelude.{Option, Some, None}
use Prim.Native.Nat.{ℕ, ◌+◌, ◌*◌, ◌<◌, ◌≤◌, min, max}
use mathlib.Core.Path.{◌≡◌, refl, sym, ◌∙◌, ap, ap₂, subst}
use mathlib.Core.Logic.{◌⊎◌, inl, inr, ◌≢◌}
use mathlib.Core.Bool.{Bool, true, false, cond, ◌&&◌, ◌||◌}
use mathlib.Core.List.{List}
use native.Mathlib.Omega.{arith}
use lib.Dec.{eqb}
use lib.ListN.{length, get_or}
use Rattle.lit.specs.Code.{var, is_odd}
use Rattle.circuit.specs.Graph.{In, Gate, out_var}
use Rattle.circuit.specs.Map.{no_image}
use Rattle.circuit.specs.Walk.{Net, source_count, Pair, first_code, folded}
use Rattle.circuit.specs.Ordered.{no_pair, InOrder, flip_if}
use Rattle.circuit.proofs.Tests.{le_or, Same, same, same_test}
use Rattle.circuit.proofs.Meaning.{flip_if_twice, flip_if_false}
use Rattle.circuit.proofs.Values.{val-zero, val-one, val_source, val-flipped, val_gate}
use Rattle.circuit.proofs.Settle.{and_comm}
use Rattle.circuit.specs.Invariant.{like, Reads, by_constant, by_source, by_gate, val, entry, code_in}

-- the images a and b of a gate's inputs make t: a gate of the list, or a folding row
abbrev pub Made : Net → List Pair → ℕ → ℕ → ℕ → Type 0
Made N made hi lo t =
    (folded hi lo ≡ Some t)
    ⊎ ((j : ℕ) × (j < length made) × (t ≡ first_code (source_count N) + 2 * j) × ((get_or made j no_pair).larger ≡ hi) × ((get_or made j no_pair).smaller ≡ lo))

-- the local rule
pub record Rule (N : Net) (m : List ℕ) (made : List Pair) : Type 0 where
  pub zero_code_lem : entry m 0 ≡ 0
  pub source_codes_lem : (k : ℕ) → k < length N.graph.sources → code_in m (get_or N.graph.sources k 0) ≡ 2 * (k + 1)
  pub gate_images : (g : Gate) → In g N.graph.gates → entry m (out_var g) ≢ no_image
      → (entry m (var g.first) ≢ no_image) × (entry m (var g.second) ≢ no_image)
      × Made N made (max (code_in m g.first) (code_in m g.second)) (min (code_in m g.first) (code_in m g.second)) (code_in m g.output)

module _ (N : Net) (m : List ℕ) (made : List Pair) (r : Rule N m made) (order : InOrder (source_count N) made) (given : ℕ → Bool) where
  abbrev bit : ℕ → Bool
  bit t = val (source_count N) given made t

  -- of two literals of one variable, each has the other's bit, flipped where their signs differ
  alike : (c d : ℕ) → var c ≡ var d → bit (code_in m c) ≡ like c d (bit (code_in m d))
  unfolding like
  alike c d e =
      val-flipped (source_count N) given made (entry m (var c)) c
      ∙ ap (λ (v : ℕ). flip_if (is_odd c) (bit (entry m v))) e
      ∙ ap (flip_if (is_odd c)) (sym (flip_if_twice (is_odd d) (bit (entry m (var d))))
      ∙ ap (flip_if (is_odd d)) (sym (val-flipped (source_count N) given made (entry m (var d)) d)))

  -- the larger and the smaller of two have the AND of the two
  and_sorted : (a b : ℕ) → bit (max a b) && bit (min a b) ≡ bit a && bit b
  and_sorted a b = go (le_or a b)
    where
      go : (a ≤ b) ⊎ (b ≤ a) → bit (max a b) && bit (min a b) ≡ bit a && bit b
      go (inl h) =
          let p : max a b ≡ b = omega arith in
          let q : min a b ≡ a = omega arith in
          rw (p, q) (and_comm (bit b) (bit a))
      go (inr h) =
          let p : max a b ≡ a = omega arith in
          let q : min a b ≡ b = omega arith in
          rw (p, q) refl

  and-false : (x : Bool) → x && false ≡ false
  and-false true = refl
  and-false false = refl

  and-true : (x : Bool) → x && true ≡ x
  and-true true = refl
  and-true false = refl

  and_self : (x : Bool) → x && x ≡ x
  and_self true = refl
  and_self false = refl

  abbrev Folds : ℕ → ℕ → Option ℕ → Type 0
  Folds hi lo None = Unit {0}
  Folds hi lo (Some t) = bit t ≡ bit hi && bit lo

  fold_bits : (hi lo : ℕ) → Folds hi lo (folded hi lo)
  unfolding folded
  fold_bits hi lo =
      go (eqb hi 0) (same_test hi 0) (eqb lo 0) (same_test lo 0) (eqb hi 1) (same_test hi 1) (eqb hi lo) (same_test hi lo) (eqb lo 1) (same_test lo 1)
    where
      go : (a : Bool) → Same hi 0 a → (b : Bool) → Same lo 0 b → (c : Bool) → Same hi 1 c → (d : Bool) → Same hi lo d → (e : Bool) → Same lo 1 e
          → Folds hi lo (cond (a || b) (Some 0) (cond (c || d) (Some lo) (cond e (Some hi) None)))
      go true (same h) b s₂ c s₃ d s₄ e s₅ = rw (h, val-zero (source_count N) given made)
      go false s₁ true (same h) c s₃ d s₄ e s₅ = rw (h, val-zero (source_count N) given made) (sym (and-false (bit hi)))
      go false s₁ false s₂ true (same h) d s₄ e s₅ = rw (h, val-one (source_count N) given made)
      go false s₁ false s₂ false s₃ true (same h) e s₅ = rw h (sym (and_self (bit lo)))
      go false s₁ false s₂ false s₃ false s₄ true (same h) = rw (h, val-one (source_count N) given made) (sym (and-true (bit hi)))
      go false s₁ false s₂ false s₃ false s₄ false s₅ = tt

  makes_bits : (hi lo t : ℕ) → Made N made hi lo t → bit t ≡ bit hi && bit lo
  makes_bits hi lo t (inl e) = subst (Folds hi lo) e (fold_bits hi lo)
  makes_bits hi lo t (inr p) = ap bit p.2 ∙ val_gate (source_count N) made order given p.0 p.1 ∙ ap₂ (λ (x y : ℕ). bit x && bit y) p.3 p.4

  -- what has an image keeps its value
  pub keeps : {c : ℕ} {b : Bool} → Reads N.graph given c b → entry m (var c) ≢ no_image → bit (code_in m c) ≡ b
  keeps {c} {b} (by_constant e f) n =
      val-flipped (source_count N) given made (entry m (var c)) c
      ∙ ap (λ (t : ℕ). flip_if (is_odd c) (bit t)) (ap (entry m) e ∙ r.zero_code_lem)
      ∙ ap (flip_if (is_odd c)) (val-zero (source_count N) given made) ∙ flip_if_false (is_odd c) ∙ sym f
  keeps {c} {b} (by_source k h e f) n =
      alike c (get_or N.graph.sources k 0) e ∙ ap (like c (get_or N.graph.sources k 0))
      (ap bit (r.source_codes_lem k h) ∙ val_source (source_count N) given made k h) ∙ sym f
  keeps {c} {b} (by_gate g x y i e mx my f) n =
      let q = r.gate_images g i (subst (λ (v : ℕ). entry m v ≢ no_image) e n) in
      let a : ℕ = code_in m g.first in
      let d : ℕ = code_in m g.second in
      alike c g.output e
      ∙ ap (like c g.output) (makes_bits (max a d) (min a d) (code_in m g.output) q.2 ∙ and_sorted a d ∙ ap₂ ◌&&◌ (keeps mx q.0) (keeps my q.1))
      ∙ sym f
