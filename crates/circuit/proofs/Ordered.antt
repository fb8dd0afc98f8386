-- The ordered circuit as a circuit: it defines no variable twice; where its gates are in order every variable up to the last gate's is grounded, since a
-- step leads to a smaller one, and each literal means the bit that `values_of` computes, by induction on the variable. Assumes nothing.
use Prim.Native.Nat.{ℕ, zero, suc, ◌+◌, ◌*◌, ◌-◌, ◌/◌, ◌<◌, ◌≤◌}
use mathlib.Core.Path.{◌≡◌, refl, ◌∙◌, ap, ap₂, subst, subst⁻¹}
use mathlib.Core.Logic.{◌⊎◌, inl, inr}
use mathlib.Core.Bool.{Bool, ◌&&◌}
use mathlib.Core.List.{List, [], ◌∷◌, ◌++◌, map}
use native.Mathlib.Omega.{arith}
use lib.ListN.{length, get_or}
use Rattle.lit.specs.Code.{var, is_odd}
use Rattle.lit.proofs.Flips.{odd_false}
use Rattle.circuit.specs.Graph.{In, Distinct, Gate, Graph, out_var, defined, DefinedOnce, Step, to_first, to_second, Reach, here, via, Grounded, Means}
use Rattle.circuit.specs.Walk.{Pair, first_code, next_code}
use Rattle.circuit.specs.Ordered.{Ordered, count_from, gates_from, sources_of, given, ordered_graph, no_pair, InOrder, flip_if, bit_of, values_of, given_from}
use Rattle.circuit.proofs.Tests.{lt_or}
use Rattle.circuit.proofs.Meaning.{flip_if_false, reads_means, means_one}
use Rattle.circuit.proofs.Values.{val-zero, val_source, val_even, val_gate}
use Rattle.circuit.specs.Invariant.{like, Reads, by_constant, by_source, by_gate, val}

up_from : ℕ → ℕ → List ℕ
up_from k zero = []
up_from k (suc n) = k ∷ up_from (suc k) n

up_from_in : (k n v : ℕ) → In v (up_from k n) → k ≤ v
unfolding up_from
up_from_in k zero v h = absurd h
up_from_in k (suc n) v (inl e) = omega arith
up_from_in k (suc n) v (inr h) = omega (arith, up_from_in (suc k) n v h)

up_from_has : (k n v : ℕ) → k ≤ v → v < k + n → In v (up_from k n)
unfolding up_from
up_from_has k zero v p q = absurd (omega arith)
up_from_has k (suc n) v p q = go (lt_or k v) (λ h. up_from_has (suc k) n v (omega arith) (omega arith))
  where
    go : (k < v) ⊎ (v ≤ k) → (k < v → In v (up_from (suc k) n)) → In v (k ∷ up_from (suc k) n)
    go (inl h) rec = inr (rec h)
    go (inr h) rec = inl (omega arith)

up_from_distinct : (k n : ℕ) → Distinct (up_from k n)
unfolding up_from
up_from_distinct k zero = tt
up_from_distinct k (suc n) = (λ h. omega (arith, up_from_in (suc k) n k h), up_from_distinct (suc k) n)

up_from_append : (k m n : ℕ) → up_from k m ++ up_from (k + m) n ≡ up_from k (m + n)
unfolding up_from
up_from_append k zero n =
    let e : k + 0 ≡ k = omega arith in
    let e' : 0 + n ≡ n = omega arith in
    rw (e, e')
up_from_append k (suc m) n =
    let e : suc m + n ≡ suc (m + n) = omega arith in
    let e' : k + suc m ≡ suc k + m = omega arith in
    rw (e, e') (ap {B = List ℕ} (λ l. k ∷ l) (up_from_append (suc k) m n))

count_from-append : (t m n : ℕ) → count_from t m ++ count_from (t + 2 * m) n ≡ count_from t (m + n)
count_from-append t zero n =
    let e : t + 2 * 0 ≡ t = omega arith in
    let e' : 0 + n ≡ n = omega arith in
    rw (e, e')
count_from-append t (suc m) n =
    let e : suc m + n ≡ suc (m + n) = omega arith in
    let e' : t + 2 * suc m ≡ (t + 2) + 2 * m = omega arith in
    rw (e, e') (ap {B = List ℕ} (λ l. t ∷ l) (count_from-append (t + 2) m n))

pub count_from-length : (t n : ℕ) → length (count_from t n) ≡ n
count_from-length t zero = refl
count_from-length t (suc n) = ap suc (count_from-length (t + 2) n)

pub count_from_get_d : (t n k : ℕ) → k < n → get_or (count_from t n) k 0 ≡ t + 2 * k
count_from_get_d t zero k h = absurd (omega arith)
count_from_get_d t (suc n) zero h = omega arith
count_from_get_d t (suc n) (suc k) h = count_from_get_d (t + 2) n k (omega arith) ∙ omega arith

count_from-var : (k n : ℕ) → map var (count_from (2 * k) n) ≡ up_from k n
unfolding up_from
count_from-var k zero = refl
count_from-var k (suc n) =
    let e : 2 * k / 2 ≡ k = omega arith in
    let e' : 2 * k + 2 ≡ 2 * suc k = omega arith in
    rw (e, e') (ap {B = List ℕ} (λ l. k ∷ l) (count_from-var (suc k) n))

gates_from-var : (k : ℕ) (ps : List Pair) → map out_var (gates_from (2 * k) ps) ≡ up_from k (length ps)
unfolding up_from
gates_from-var k [] = refl
gates_from-var k (p ∷ ps) =
    let e : 2 * k / 2 ≡ k = omega arith in
    let e' : 2 * k + 2 ≡ 2 * suc k = omega arith in
    rw (e, e') (ap {B = List ℕ} (λ l. k ∷ l) (gates_from-var (suc k) ps))

pub gates_from-length : (t : ℕ) (ps : List Pair) → length (gates_from t ps) ≡ length ps
gates_from-length t [] = refl
gates_from-length t (p ∷ ps) = ap suc (gates_from-length (t + 2) ps)

gates_from_in : (t : ℕ) (ps : List Pair) (j : ℕ) → j < length ps
    → In (record { output = t + 2 * j; first = (get_or ps j no_pair).larger; second = (get_or ps j no_pair).smaller }) (gates_from t ps)
gates_from_in t [] j h = absurd (omega arith)
gates_from_in t (p ∷ ps) zero h =
    inl (ap (λ (o : ℕ). record { output = o; first = p.larger; second = p.smaller }) (omega arith))
gates_from_in t (p ∷ ps) (suc j) h =
    let e : t + 2 * suc j ≡ (t + 2) + 2 * j = omega arith in
    inr (subst⁻¹ (λ (o : ℕ). In (record { output = o; first = (get_or ps j no_pair).larger; second = (get_or ps j no_pair).smaller }) (gates_from (t + 2) ps)) e
    (gates_from_in (t + 2) ps j (omega arith)))

-- and each of these gates stands at a place, with the pair of that place for its inputs
pub record Placed (t : ℕ) (ps : List Pair) (g : Gate) : Type 0 where
  pub place : ℕ
  pub inside : place < length ps
  pub output : g.output ≡ t + 2 * place
  pub first : g.first ≡ (get_or ps place no_pair).larger
  pub second : g.second ≡ (get_or ps place no_pair).smaller

pub gates_from_place : (t : ℕ) (ps : List Pair) (g : Gate) → In g (gates_from t ps) → Placed t ps g
gates_from_place t [] g h = absurd h
gates_from_place t (p ∷ ps) g (inl e) =
    let o : g.output ≡ t = ap (λ (x : Gate). x.output) e in
    record {
      place = 0;
      inside = omega arith;
      output = omega arith;
      first = ap (λ (x : Gate). x.first) e;
      second = ap (λ (x : Gate). x.second) e;
    }
gates_from_place t (p ∷ ps) g (inr h) =
    let r = gates_from_place (t + 2) ps g h in
    record { place = suc r.place; inside = omega (arith, r.inside); output = omega (arith, r.output); first = r.first; second = r.second }

module _ (O : Ordered) where
  abbrev n : ℕ
  n = sources_of O

  abbrev D : Graph
  D = ordered_graph O

  pub ordered_sources : D.sources ≡ count_from 2 n
  unfolding ordered_graph given
  ordered_sources = count_from-append 2 O.inputs (length O.nexts)

  ordered_gates : D.gates ≡ gates_from (first_code n) O.gates
  unfolding ordered_graph given
  ordered_gates = refl

  ordered_defined : defined D ≡ up_from 0 (suc (n + length O.gates))
  unfolding first_code up_from
  ordered_defined =
      let p : map var D.sources ≡ up_from 1 n = ap (λ (l : List ℕ). map var l) ordered_sources ∙ count_from-var 1 n in
      let q : map out_var D.gates ≡ up_from (1 + n) (length O.gates)
      = ap (λ (l : List Gate). map out_var l) ordered_gates ∙ ap (λ (t : ℕ). map out_var (gates_from t O.gates)) (omega arith)
      ∙ gates_from-var (1 + n) O.gates in
      ap {B = List ℕ} (λ l. 0 ∷ l) (ap₂ (λ (a b : List ℕ). a ++ b) p q ∙ up_from_append 1 n (length O.gates))

  pub ordered_once : DefinedOnce D
  ordered_once = subst⁻¹ Distinct ordered_defined (up_from_distinct 0 (suc (n + length O.gates)))

  module _ (order : InOrder n O.gates) where
    input_below : (g : Gate) → In g D.gates → (var g.first < out_var g) × (var g.second < out_var g)
    unfolding first_code
    input_below g h =
        let p = gates_from_place (first_code n) O.gates g (subst (In g) ordered_gates h) in
        let o = order p.place p.inside in
        (omega (arith, p.output, p.first, o.1), omega (arith, p.output, p.second, o.0, o.1))

    step_falls : {u v : ℕ} → Step D u v → v < u
    step_falls (to_first g h e e') = omega (arith, (input_below g h).0)
    step_falls (to_second g h e e') = omega (arith, (input_below g h).1)

    reach_falls : {u v : ℕ} → Reach D u v → v ≤ u
    reach_falls (here e) = omega arith
    reach_falls (via s r) = omega (arith, step_falls s, reach_falls r)

    -- what a variable reaches is not above it, hence defined; and what reaches itself would be below itself
    pub ordered_grounded : (v : ℕ) → v < n + 1 + length O.gates → Grounded D v
    ordered_grounded v h =
        record {
          known = λ u r. subst⁻¹ (In u) ordered_defined (up_from_has 0 (suc (n + length O.gates)) u (omega arith) (omega (arith, reach_falls r)));
          no_loop = λ u r l. omega (arith, step_falls l.step, reach_falls l.back);
        }

  -- what a variable of the ordered circuit is
  data Kind (v : ℕ) : Type 0 where
    is_zero : v ≡ 0 → Kind v
    is_source : (k : ℕ) → v ≡ suc k → k < n → Kind v
    is_made : (j : ℕ) → v ≡ n + 1 + j → j < length O.gates → Kind v

  kind : (v : ℕ) → v < n + 1 + length O.gates → Kind v
  kind zero h = is_zero refl
  kind (suc k) h = go (lt_or k n)
    where
      go : (k < n) ⊎ (n ≤ k) → Kind (suc k)
      go (inl p) = is_source k refl p
      go (inr p) = is_made (k - n) (omega arith) (omega arith)

  module _ (order : InOrder n O.gates) (given : ℕ → Bool) where
    abbrev bit : ℕ → Bool
    bit t = val n given O.gates t

    by_kind : (t : ℕ) → ((s : ℕ) → var s < var t → s < next_code n O.gates → Reads D given s (bit s)) → Kind (var t) → Reads D given t (bit t)
    unfolding next_code first_code like flip_if
    by_kind t rec (is_zero e) =
        by_constant e
        (val_even n given O.gates t ∙ ap (flip_if (is_odd t)) (ap (λ (v : ℕ). bit (2 * v)) e ∙ val-zero n given O.gates) ∙ flip_if_false (is_odd t))
    by_kind t rec (is_source k e h) =
        let at : get_or D.sources k 0 ≡ 2 * (k + 1)
        = ap (λ (l : List ℕ). get_or l k 0) ordered_sources ∙ count_from_get_d 2 n k h ∙ omega arith in
        let b : bit t ≡ like t (get_or D.sources k 0) (given k)
        = rw (at, odd_false (2 * (k + 1)) (omega arith))
        (val_even n given O.gates t ∙ ap (flip_if (is_odd t)) (ap bit (omega arith) ∙ val_source n given O.gates k h)) in
        let v : var t ≡ var (get_or D.sources k 0) = omega (arith, at) in
        by_source k (omega (arith, ap length ordered_sources, count_from-length 2 n)) v b
    by_kind t rec (is_made j e h) =
        let p : Pair = get_or O.gates j no_pair in
        let g : Gate = record { output = first_code n + 2 * j; first = p.larger; second = p.smaller } in
        let b : bit t ≡ like t (first_code n + 2 * j) (bit p.larger && bit p.smaller)
        = rw (odd_false (first_code n + 2 * j) (omega arith))
        (val_even n given O.gates t ∙ ap (flip_if (is_odd t)) (ap bit (omega arith) ∙ val_gate n O.gates order given j h)) in
        let v : var t ≡ (first_code n + 2 * j) / 2 = omega arith in
        let m : In g D.gates = subst⁻¹ (In g) ordered_gates (gates_from_in (first_code n) O.gates j h) in
        by_gate g (bit p.larger) (bit p.smaller) m v (rec p.larger (omega (arith, order j h)) (omega (arith, order j h)))
        (rec p.smaller (omega (arith, order j h)) (omega (arith, order j h))) b

    reads_in : (k t : ℕ) → var t < k → t < next_code n O.gates → Reads D given t (bit t)
    unfolding next_code first_code
    reads_in zero t l h = absurd (omega arith)
    reads_in (suc k) t l h = by_kind t (λ s l' h'. reads_in k s (omega arith) h') (kind (var t) (omega arith))

    pub ordered_means : (t : ℕ) → t < next_code n O.gates → Means D given t (bit t)
    ordered_means t h = reads_means D given (reads_in (suc (var t)) t (omega arith) h)

    -- a literal means the bit that is computed, and no other
    pub values_mean : (t : ℕ) → t < next_code n O.gates → Means D given t (bit_of (values_of O.gates (given_from given 0 n)) t)
    unfolding val
    values_mean t h = ordered_means t h

    pub values_only : (t : ℕ) (b : Bool) → t < next_code n O.gates → Means D given t b → b ≡ bit_of (values_of O.gates (given_from given 0 n)) t
    values_only t b h m = means_one D ordered_once given m (values_mean t h)
