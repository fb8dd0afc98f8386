-- The map at the start is in order: only the constant and the sources have images, and these are their codes. Assumes nothing.
use Prim.Native.Nat.{ℕ, zero, suc, ◌+◌, ◌*◌, ◌<◌}
use mathlib.Core.Path.{◌≡◌, refl, sym, ◌∙◌, ap, subst, subst⁻¹}
use mathlib.Core.Logic.{inl, inr, ◌≢◌}
use mathlib.Core.Bool.{Bool}
use mathlib.Core.List.{List, [], ◌∷◌, map}
use native.Mathlib.Omega.{arith}
use lib.ListN.{length, get_or, replicate, length-replicate}
use Rattle.lit.specs.Code.{var, is_odd, flipped}
use Rattle.lit.proofs.Flips.{flipped_twice, odd_false}
use Rattle.circuit.specs.Graph.{In, Distinct, Gate, out_var, DefinedOnce, Grounded}
use Rattle.circuit.specs.Map.{no_image, store}
use Rattle.circuit.specs.Walk.{Net, source_count, Work, first_code, next_code}
use Rattle.circuit.specs.Circuit.{store_from, start}
use Rattle.circuit.specs.Ordered.{flip_if}
use Rattle.circuit.proofs.Map.{entry_same, entry_other, entry-replicate, store_all, store_length}
use Rattle.circuit.proofs.Lists.{In-getD, In-map, In-unmap}
use Rattle.circuit.proofs.Graph.{source_defined, source_no_gate, zero_no_gate, zero_no_source, sources_distinct, Grounded-leaf}
use Rattle.circuit.proofs.Values.{val-zero, val_source, val-flipped}
use Rattle.circuit.proofs.Invariant.{half_double}
use Rattle.circuit.specs.Invariant.{like, Reads, by_constant, by_source, val, Sized, Inv, entry, code_in}

pub store_from-length : (m : List ℕ) (t : ℕ) (ds : List ℕ) → length (store_from m t ds) ≡ length m
store_from-length m t [] = refl
store_from-length m t (d ∷ ds) = store_from-length (store m d t) (t + 2) ds ∙ store_length m d t

-- what holds of every entry, and of each that is stored, holds afterwards
store_from_all : (P : ℕ → ℕ → Type 0) (ds m : List ℕ) (t : ℕ)
    → ((j : ℕ) → j < length ds → (var (get_or ds j 0) < length m) × P (var (get_or ds j 0)) (flipped (t + 2 * j) (get_or ds j 0)))
    → ((v : ℕ) → P v (entry m v)) → (v : ℕ) → P v (entry (store_from m t ds) v)
store_from_all P [] m t q f = f
store_from_all P (d ∷ ds) m t q f =
    store_from_all P ds (store m d t) (t + 2)
    (λ j h. (
      omega (arith, (q (suc j) (omega arith)).0, store_length m d t),
      subst (λ (s : ℕ). P (var (get_or ds j 0)) (flipped s (get_or ds j 0))) (omega arith) (q (suc j) (omega arith)).1,
    ))
    (store_all P m d t (q 0 (omega arith)).0 (subst (λ (s : ℕ). P (var d) (flipped s d)) (omega arith) (q 0 (omega arith)).1) (λ v n. f v))

-- a variable that no literal of the list has keeps its entry
store_from_other : (ds m : List ℕ) (t v : ℕ) → (In v (map var ds) → ⊥) → entry (store_from m t ds) v ≡ entry m v
store_from_other [] m t v n = refl
store_from_other (d ∷ ds) m t v n = store_from_other ds (store m d t) (t + 2) v (λ h. n (inr h)) ∙ entry_other m d t v (λ e. n (inl e))

-- the k-th of literals of different variables has what was stored for it
store_from_at_lem : (ds m : List ℕ) (t : ℕ) → Distinct (map var ds) → ((d : ℕ) → In d ds → var d < length m) → (k : ℕ) → k < length ds
    → entry (store_from m t ds) (var (get_or ds k 0)) ≡ flipped (t + 2 * k) (get_or ds k 0)
store_from_at_lem [] m t u l k h = absurd (omega arith)
store_from_at_lem (d ∷ ds) m t u l zero h =
    store_from_other ds (store m d t) (t + 2) (var d) u.0 ∙ entry_same m d t (l d (inl refl)) ∙ ap (λ (s : ℕ). flipped s d) (omega arith)
store_from_at_lem (d ∷ ds) m t u l (suc k) h =
    store_from_at_lem ds (store m d t) (t + 2) u.1 (λ x j. omega (arith, l x (inr j), store_length m d t)) k (omega arith)
    ∙ ap (λ (s : ℕ). flipped s (get_or ds k 0)) (omega arith)

module _ (N : Net) (top : ℕ) (once : DefinedOnce N.graph) (sized : Sized N top) where
  abbrev sources : List ℕ
  sources = N.graph.sources

  abbrev begin : Work
  begin = start top sources

  abbrev constant_only : List ℕ
  constant_only = store (replicate (top + 1) no_image) 0 0

  constant_only_length : length constant_only ≡ top + 1
  constant_only_length = store_length (replicate (top + 1) no_image) 0 0 ∙ length-replicate (top + 1) no_image

  within : (d : ℕ) → In d sources → var d < length constant_only
  within d h = omega (arith, constant_only_length, sized.sources d h)

  -- what holds of "no image", of the constant and of the sources holds of every entry
  start_all : (P : ℕ → ℕ → Type 0) → ((v : ℕ) → P v no_image) → P 0 0
      → ((k : ℕ) → k < length sources → P (var (get_or sources k 0)) (flipped (2 * (k + 1)) (get_or sources k 0)))
      → (v : ℕ) → P v (entry begin.images v)
  unfolding start flipped
  start_all P p q r =
      store_from_all P sources constant_only 2
      (λ j h. (
        within (get_or sources j 0) (In-getD sources j 0 h),
        subst (λ (t : ℕ). P (var (get_or sources j 0)) (flipped t (get_or sources j 0))) (omega arith) (r j h),
      ))
      (store_all P (replicate (top + 1) no_image) 0 0 (omega (arith, length-replicate (top + 1) no_image)) q
      (λ v n. subst⁻¹ (λ (z : ℕ). P v z) (entry-replicate (top + 1) v) (p v)))

  start-length : length begin.images ≡ top + 1
  unfolding start
  start-length = store_from-length constant_only 2 sources ∙ constant_only_length

  start_zero : entry begin.images 0 ≡ 0
  unfolding start flipped
  start_zero =
      store_from_other sources constant_only 2 0 (λ h. let r = In-unmap var 0 sources h in zero_no_source N.graph once r.0 r.1 r.2)
      ∙ entry_same (replicate (top + 1) no_image) 0 0 (omega (arith, length-replicate (top + 1) no_image))

  start_at_lem : (k : ℕ) → k < length sources → entry begin.images (var (get_or sources k 0)) ≡ flipped (2 * (k + 1)) (get_or sources k 0)
  unfolding start
  start_at_lem k h =
      store_from_at_lem sources constant_only 2 (sources_distinct N.graph once) within k h ∙ ap (λ (t : ℕ). flipped t (get_or sources k 0)) (omega arith)

  start-codes : (k : ℕ) → k < length sources → code_in begin.images (get_or sources k 0) ≡ 2 * (k + 1)
  start-codes k h = ap (λ (e : ℕ). flipped e (get_or sources k 0)) (start_at_lem k h) ∙ flipped_twice (2 * (k + 1)) (get_or sources k 0)

  place_of : (v : ℕ) (ds : List ℕ) → In v (map var ds) → (k : ℕ) × (k < length ds) × (var (get_or ds k 0) ≡ v)
  place_of v [] h = absurd h
  place_of v (d ∷ ds) (inl e) = (0, omega arith, sym e)
  place_of v (d ∷ ds) (inr h) = let r = place_of v ds h in (suc r.0, omega (arith, r.1), r.2)

  start-leaves : (v : ℕ) → In v (0 ∷ map var sources) → entry begin.images v ≢ no_image
  unfolding flipped
  start-leaves v (inl e) = λ k. omega (arith, start_zero, subst (λ (u : ℕ). entry begin.images u ≡ no_image) e k)
  start-leaves v (inr h) =
      let r = place_of v sources h in
      λ k. omega (arith, start_at_lem r.0 r.1, subst⁻¹ (λ (u : ℕ). entry begin.images u ≡ no_image) r.2 k, r.1, sized.few)

  source_reads : (given : ℕ → Bool) (k : ℕ) → k < length sources
      → Reads N.graph given (2 * var (get_or sources k 0)) (val (source_count N) given [] (flipped (2 * (k + 1)) (get_or sources k 0)))
  unfolding like flip_if
  source_reads given k h =
      let e : val (source_count N) given [] (flipped (2 * (k + 1)) (get_or sources k 0)) ≡ like (2 * var (get_or sources k 0)) (get_or sources k 0) (given k)
      = (rw (odd_false (2 * var (get_or sources k 0)) (omega arith))
      (val-flipped (source_count N) given [] (2 * (k + 1)) (get_or sources k 0)
      ∙ ap (flip_if (is_odd (get_or sources k 0))) (val_source (source_count N) given [] k h))) in
      by_source k h (half_double (var (get_or sources k 0))) e

  start_no_gate : (v : ℕ) → entry begin.images v ≢ no_image → (g : Gate) → In g N.graph.gates → out_var g ≡ v → ⊥
  start_no_gate =
      start_all (λ v e. e ≢ no_image → (g : Gate) → In g N.graph.gates → out_var g ≡ v → ⊥) (λ v n. absurd (n refl))
      (λ n g h k. zero_no_gate N.graph once g h k)
      (λ k h n g m e. source_no_gate N.graph once (get_or sources k 0) g (In-getD sources k 0 h) m e)

  -- only the constant and the sources have images
  pub start_only : (v : ℕ) → entry begin.images v ≢ no_image → In v (0 ∷ map var sources)
  start_only =
      start_all (λ v e. e ≢ no_image → In v (0 ∷ map var sources)) (λ v n. absurd (n refl)) (λ n. inl refl)
      (λ k h n. inr (In-map var (get_or sources k 0) sources (In-getD sources k 0 h)))

  pub start_inv : Inv N top begin
  unfolding next_code first_code flipped start is_odd
  start_inv =
      record {
        size = start-length;
        low =
            start_all (λ v e. e ≢ no_image → e < next_code (source_count N) []) (λ v n. absurd (n refl)) (λ n. omega arith)
            (λ k h n. omega (arith, h));
        grounded =
            start_all (λ v e. e ≢ no_image → Grounded N.graph v) (λ v n. absurd (n refl))
            (λ n. Grounded-leaf N.graph 0 (inl refl) (zero_no_gate N.graph once))
            (λ k h n.
            let d : ℕ = get_or sources k 0 in
            let m : In d sources = In-getD sources k 0 h in
            Grounded-leaf N.graph (var d) (source_defined N.graph d m) (λ g k' e. source_no_gate N.graph once d g m k' e));
        reads =
            λ given.
            start_all (λ v e. e ≢ no_image → Reads N.graph given (2 * v) (val (source_count N) given [] e)) (λ v n. absurd (n refl))
            (λ n. by_constant refl (val-zero (source_count N) given [])) (λ k h n. source_reads given k h);
        order = λ j h. absurd (omega arith);
        fresh = λ j h. absurd (omega arith);
        leaves = start-leaves;
        zero_code = start_zero;
        source_codes = start-codes;
        few = omega arith;
        closed = λ g h n. absurd (start_no_gate (out_var g) n g h refl);
        ruled = λ g h n. absurd (start_no_gate (out_var g) n g h refl);
        kept = λ off g g' h h' n n' u u' e. absurd (start_no_gate (out_var g) n g h refl);
        from = λ j h. absurd (omega arith);
      }
