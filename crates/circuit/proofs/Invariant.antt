-- What the walk keeps true of its work, and that settling a gate keeps it: the gate's inputs have images by then, and the code found for them has
-- the bit of their AND. Assumes nothing.
use Rattle.std.specs.Prelude.{Option, Some, None}
use Prim.Native.Nat.{ℕ, ◌+◌, ◌*◌, ◌<◌, ◌≤◌, min, max}
use mathlib.Core.Path.{◌≡◌, refl, sym, ◌∙◌, ap, ap₂, subst, subst⁻¹, subst₂}
use mathlib.Core.Logic.{◌⊎◌, inl, inr, ◌≢◌}
use mathlib.Core.Bool.{Bool, true, false, ◌&&◌}
use mathlib.Core.List.{List, ◌∷◌, map}
use native.Mathlib.Omega.{arith}
use lib.Dec.{eqb}
use lib.ListN.{length, get_or}
use Rattle.lit.specs.Code.{var, is_odd, flipped}
use Rattle.lit.proofs.Flips.{flipped_twice, odd_false}
use Rattle.circuit.specs.Graph.{In, Gate, Graph, out_var, DefinedOnce, Reach, here, Grounded}
use Rattle.circuit.specs.Map.{no_image, store}
use Rattle.circuit.specs.Walk.{Net, source_count, Pair, Work, first_code, next_code, folded_if, already, settle_as, settle_on, settle}
use Rattle.circuit.specs.Ordered.{no_pair, flip_if}
use Rattle.circuit.proofs.Tests.{le_or, Same, same, other, same_test}
use Rattle.circuit.proofs.Map.{entry_same, entry_other, store_all, store_length, code_in_lem}
use Rattle.circuit.proofs.Graph.{Grounded-gate, one_gate}
use Rattle.circuit.proofs.Meaning.{reads_like}
use Rattle.circuit.proofs.Values.{val-flipped}
use Rattle.circuit.proofs.Settle.{and_comm, Already, is_new, already_is, Placed, placed_old, placed_new}
use Rattle.circuit.proofs.Settled.{settled_le, settled_more, settled_room}
use Rattle.circuit.specs.Invariant.{like, Reads, by_gate, val, pair, Sized, BothMapped, larger_in, smaller_in, RuleFor, Unfolded, FromGate, Inv, entry, code_in}

-- the work has grown: what had an image keeps it, and what is new is reached from u
pub record Grown (G : Graph) (w w' : Work) (u : ℕ) : Type 0 where
  pub keeps : (v : ℕ) → entry w.images v ≢ no_image → entry w'.images v ≡ entry w.images v
  pub news : (v : ℕ) → entry w.images v ≡ no_image → entry w'.images v ≢ no_image → Reach G u v

pub half_double : (v : ℕ) → var (2 * v) ≡ v
half_double v = omega arith

-- the bit of a literal whose variable has an image
pub lit_reads : (N : Net) (top : ℕ) (w : Work) → Inv N top w → (given : ℕ → Bool) (c : ℕ) → entry w.images (var c) ≢ no_image
    → Reads N.graph given c (val (source_count N) given w.made (code_in w.images c))
unfolding like flip_if
lit_reads N top w i given c n =
    subst (λ (b : Bool). Reads N.graph given c b) e (reads_like c (sym (half_double (var c))) (i.reads given (var c) n))
  where
    e : like c (2 * var c) (val (source_count N) given w.made (entry w.images (var c))) ≡ val (source_count N) given w.made (code_in w.images c)
    e = rw (odd_false (2 * var c) (omega arith), val-flipped (source_count N) given w.made (entry w.images (var c)) c)

pub flipped_below : (t d n : ℕ) (made : List Pair) → t < next_code n made → flipped t d < next_code n made
unfolding flipped next_code first_code
flipped_below t d n made h = omega arith

-- the codes stay below the word for no image
pub codes_fit : (N : Net) (top : ℕ) (w : Work) → Sized N top → Inv N top w → next_code (source_count N) w.made ≤ no_image
unfolding next_code first_code
codes_fit N top w s i = omega (arith, s.few, i.few, settled_le w.images N.graph.gates)

module _ (N : Net) (top : ℕ) (once : DefinedOnce N.graph) (sized : Sized N top) (w : Work) (i : Inv N top w) (g : Gate) (is_gate : In g N.graph.gates)
    (open' : entry w.images (out_var g) ≡ no_image) where
  module _ (t : ℕ) (made' : List Pair) (pl : Placed N w.made (larger_in w.images g) (smaller_in w.images g) t made')
      (grounded : Grounded N.graph (out_var g)) (inputs : BothMapped w.images g)
      (reads : (given : ℕ → Bool) → Reads N.graph given (2 * out_var g) (flip_if (is_odd g.output)
      (val (source_count N) given w.made (larger_in w.images g) && val (source_count N) given w.made (smaller_in w.images g)))) where
    abbrev m : List ℕ
    m = w.images

    abbrev m' : List ℕ
    m' = store w.images g.output t

    at_new : entry m' (out_var g) ≡ flipped t g.output
    at_new = entry_same m g.output t (omega (arith, i.size, sized.outputs g is_gate))

    at_old : (v : ℕ) → v ≢ out_var g → entry m' v ≡ entry m v
    at_old v n = entry_other m g.output t v n

    mapped_old : (v : ℕ) → entry m v ≢ no_image → v ≢ out_var g
    mapped_old v n e = n (ap (entry m) e ∙ open')

    new_mapped : flipped t g.output ≢ no_image
    unfolding next_code first_code
    new_mapped e =
        omega (
          arith,
          flipped_below t g.output (source_count N) made' pl.below,
          sized.few,
          pl.one_more,
          i.few,
          settled_room m N.graph.gates
              g is_gate open',
        )

    by_place : (P : ℕ → ℕ → Type 0) → P (out_var g) (flipped t g.output) → ((v : ℕ) → v ≢ out_var g → P v (entry m v)) → (v : ℕ) → P v (entry m' v)
    by_place P new old = store_all P m g.output t (omega (arith, i.size, sized.outputs g is_gate)) new old

    placed_still : (v : ℕ) → entry m v ≢ no_image → entry m' v ≢ no_image
    placed_still v n e = n (sym (at_old v (mapped_old v n)) ∙ e)

    placed_here : entry m' (out_var g) ≢ no_image
    placed_here e = new_mapped (sym at_new ∙ e)

    placed_both : (g' : Gate) → BothMapped m g' → BothMapped m' g'
    placed_both g' b = (placed_still (var g'.first) b.0, placed_still (var g'.second) b.1)

    -- the code of the gate settled, and those of literals that had one
    code_new : code_in m' g.output ≡ t
    code_new = ap (λ (x : ℕ). flipped x g.output) at_new ∙ flipped_twice t g.output

    code_old : (c : ℕ) → entry m (var c) ≢ no_image → code_in m' c ≡ code_in m c
    code_old c n = ap (λ (x : ℕ). flipped x c) (at_old (var c) (mapped_old (var c) n))

    larger_old : (g' : Gate) → BothMapped m g' → larger_in m' g' ≡ larger_in m g'
    larger_old g' b = ap₂ max (code_old g'.first b.0) (code_old g'.second b.1)

    smaller_old : (g' : Gate) → BothMapped m g' → smaller_in m' g' ≡ smaller_in m g'
    smaller_old g' b = ap₂ min (code_old g'.first b.0) (code_old g'.second b.1)

    unfolded_old : (g' : Gate) → BothMapped m g' → Unfolded N m' g' → Unfolded N m g'
    unfolded_old g' b u = subst₂ (λ (x y : ℕ). folded_if N.fold x y ≡ None) (larger_old g' b) (smaller_old g' b) u

    -- a gate with an image is the one settled, or had its image before
    abbrev HadImage : Gate → Type 0
    HadImage g' = entry m (out_var g') ≢ no_image

    which : (g' : Gate) → In g' N.graph.gates → entry m' (out_var g') ≢ no_image → (g ≡ g') ⊎ HadImage g'
    which g' h n = go (eqb (out_var g') (out_var g)) (same_test (out_var g') (out_var g))
      where
        go : (b : Bool) → Same (out_var g') (out_var g) b → (g ≡ g') ⊎ HadImage g'
        go true (same e) = inl (one_gate N.graph once g g' is_gate h (sym e))
        go false (other k) = inr (λ e. n (at_old (out_var g') k ∙ e))

    placed_closed : (g' : Gate) → In g' N.graph.gates → entry m' (out_var g') ≢ no_image → BothMapped m' g'
    placed_closed g' h n = go (which g' h n)
      where
        go : (g ≡ g') ⊎ HadImage g' → BothMapped m' g'
        go (inl e) = subst (BothMapped m') e (placed_both g inputs)
        go (inr k) = placed_both g' (i.closed g' h k)

    placed_ruled : (g' : Gate) → In g' N.graph.gates → entry m' (out_var g') ≢ no_image → RuleFor N m' made' g'
    placed_ruled g' h n = go (which g' h n)
      where
        go : (g ≡ g') ⊎ HadImage g' → RuleFor N m' made' g'
        go (inl e) = subst (RuleFor N m' made') e (rw (larger_old g inputs, smaller_old g inputs, code_new) pl.makes)
        go (inr k) =
            let b = i.closed g' h k in
            rw (larger_old g' b, smaller_old g' b, code_old g'.output k) (pl.grows _ _ _ (i.ruled g' h k))

    -- the gate settled has a code that no gate had before
    placed_own : N.hash ≡ false → (g' : Gate) → HadImage g' → Unfolded N m' g → code_in m' g.output ≢ code_in m' g'.output
    placed_own off g' k u e =
        omega (
          arith,
          pl.own off (unfolded_old g inputs u),
          flipped_below (entry m (out_var g')) g'.output (source_count N) w.made (i.low (out_var g') k),
          sym code_new ∙ e ∙ code_old g'.output k,
        )

    placed_kept : N.hash ≡ false → (g₁ g₂ : Gate) → In g₁ N.graph.gates → In g₂ N.graph.gates
        → entry m' (out_var g₁) ≢ no_image → entry m' (out_var g₂) ≢ no_image
        → Unfolded N m' g₁ → Unfolded N m' g₂ → code_in m' g₁.output ≡ code_in m' g₂.output → g₁ ≡ g₂
    placed_kept off g₁ g₂ h₁ h₂ n₁ n₂ u₁ u₂ e = go (which g₁ h₁ n₁) (which g₂ h₂ n₂)
      where
        go : (g ≡ g₁) ⊎ HadImage g₁ → (g ≡ g₂) ⊎ HadImage g₂ → g₁ ≡ g₂
        go (inl p) (inl q) = sym p ∙ q
        go (inl p) (inr k) =
            absurd (placed_own off g₂ k (subst⁻¹ (Unfolded N m') p u₁) (subst⁻¹ (λ (x : Gate). code_in m' x.output ≡ code_in m' g₂.output) p e))
        go (inr k) (inl q) =
            absurd (placed_own off g₁ k (subst⁻¹ (Unfolded N m') q u₂) (sym (subst⁻¹ (λ (x : Gate). code_in m' g₁.output ≡ code_in m' x.output) q e)))
        go (inr k₁) (inr k₂) =
            i.kept off g₁ g₂ h₁ h₂ k₁ k₂ (unfolded_old g₁ (i.closed g₁ h₁ k₁) u₁) (unfolded_old g₂ (i.closed g₂ h₂ k₂) u₂)
            (sym (code_old g₁.output k₁) ∙ e ∙ code_old g₂.output k₂)

    unfolded_new : (g' : Gate) → BothMapped m g' → Unfolded N m g' → Unfolded N m' g'
    unfolded_new g' b u = subst₂ (λ (x y : ℕ). folded_if N.fold x y ≡ None) (sym (larger_old g' b)) (sym (smaller_old g' b)) u

    words_new : (g' : Gate) → BothMapped m g' → pair (larger_in m g') (smaller_in m g') ≡ pair (larger_in m' g') (smaller_in m' g')
    words_new g' b = ap₂ pair (sym (larger_old g' b)) (sym (smaller_old g' b))

    placed_from : (j : ℕ) → j < length made' → FromGate N m' made' j
    placed_from j h = go (pl.only j h)
      where
        go : ((j < length w.made) × (get_or made' j no_pair ≡ get_or w.made j no_pair))
            ⊎ ((t ≡ first_code (source_count N) + 2 * j) × (get_or made' j no_pair ≡ pair (larger_in m g) (smaller_in m g))
            × (folded_if N.fold (larger_in m g) (smaller_in m g) ≡ None))
            → FromGate N m' made' j
        go (inl k) =
            let f : FromGate N m w.made j = i.from j k.0 in
            let b : BothMapped m f.gate = i.closed f.gate f.is_gate f.is_mapped in
            record {
              gate = f.gate;
              is_gate = f.is_gate;
              is_mapped = placed_still (out_var f.gate) f.is_mapped;
              unfolded = unfolded_new f.gate b f.unfolded;
              code = code_old f.gate.output f.is_mapped ∙ f.code;
              words = k.1 ∙ f.words ∙ words_new f.gate b;
            }
        go (inr k) =
            record {
              gate = g;
              is_gate = is_gate;
              is_mapped = placed_here;
              unfolded = unfolded_new g inputs k.2;
              code = code_new ∙ k.0;
              words = k.1 ∙ words_new g inputs;
            }

    source_mapped : (k : ℕ) → k < source_count N → entry m (var (get_or N.graph.sources k 0)) ≢ no_image
    unfolding flipped
    source_mapped k h e = omega (arith, i.source_codes k h, e, sized.few)

    pub placed_inv : Inv N top (record { images = m'; made = made' })
    placed_inv =
        record {
          size = store_length m g.output t ∙ i.size;
          low =
              by_place (λ v e. e ≢ no_image → e < next_code (source_count N) made') (λ n. flipped_below t g.output (source_count N) made' pl.below)
              (λ v o n. omega (arith, i.low v n, pl.more));
          grounded = by_place (λ v e. e ≢ no_image → Grounded N.graph v) (λ n. grounded) (λ v o n. i.grounded v n);
          reads =
              λ given.
              by_place (λ v e. e ≢ no_image → Reads N.graph given (2 * v) (val (source_count N) given made' e))
              (λ n.
              subst⁻¹ (λ (b : Bool). Reads N.graph given (2 * out_var g) b)
              (val-flipped (source_count N) given made' t g.output ∙ ap (flip_if (is_odd g.output)) (pl.ands given)) (reads given))
              (λ v o n.
              subst⁻¹ (λ (b : Bool). Reads N.graph given (2 * v) b) (pl.keep given (entry m v) (i.low v n)) (i.reads given v n));
          order = pl.order;
          fresh = pl.fresh;
          leaves = by_place (λ v e. In v (0 ∷ map var N.graph.sources) → e ≢ no_image) (λ h. new_mapped) (λ v o h. i.leaves v h);
          zero_code = at_old 0 (mapped_old 0 (i.leaves 0 (inl refl))) ∙ i.zero_code;
          source_codes = λ k h. code_old (get_or N.graph.sources k 0) (source_mapped k h) ∙ i.source_codes k h;
          few = omega (arith, pl.one_more, i.few, settled_more m m' N.graph.gates placed_still g is_gate open' placed_here);
          closed = placed_closed;
          ruled = placed_ruled;
          kept = placed_kept;
          from = placed_from;
        }

    pub placed_grown : Grown N.graph w (record { images = m'; made = made' }) (out_var g)
    placed_grown = record { keeps = λ v n. at_old v (mapped_old v n); news = news }
      where
        news : (v : ℕ) → entry m v ≡ no_image → entry m' v ≢ no_image → Reach N.graph (out_var g) v
        news v o n = go (eqb v (out_var g)) (same_test v (out_var g))
          where
            go : (b : Bool) → Same v (out_var g) b → Reach N.graph (out_var g) v
            go true (same e) = here (sym e)
            go false (other k) = absurd (n (at_old v k ∙ o))

  -- what settling the gate gives
  abbrev pub Settled : Work → Type 0
  Settled w' = Inv N top w' × Grown N.graph w w' (out_var g) × (entry w'.images (out_var g) ≢ no_image)

  sorted : (f : ℕ → Bool) (x y : ℕ) → f (max x y) && f (min x y) ≡ f x && f y
  sorted f x y = go (le_or x y)
    where
      go : (x ≤ y) ⊎ (y ≤ x) → f (max x y) && f (min x y) ≡ f x && f y
      go (inl h) =
          let p : max x y ≡ y = omega arith in
          let q : min x y ≡ x = omega arith in
          rw (p, q) (and_comm (f y) (f x))
      go (inr h) =
          let p : max x y ≡ x = omega arith in
          let q : min x y ≡ y = omega arith in
          rw (p, q)

  module _ (p : entry w.images (var g.first) ≢ no_image) (q : entry w.images (var g.second) ≢ no_image) where
    abbrev bit : (ℕ → Bool) → ℕ → Bool
    bit given t = val (source_count N) given w.made t

    gate_grounded : Grounded N.graph (out_var g)
    gate_grounded = Grounded-gate N.graph once g is_gate (i.grounded (var g.first) p) (i.grounded (var g.second) q)

    gate_reads : (given : ℕ → Bool)
        → Reads N.graph given (2 * out_var g) (flip_if (is_odd g.output) (bit given (larger_in w.images g) && bit given (smaller_in w.images g)))
    unfolding like flip_if
    gate_reads given =
        let x : Bool = bit given (code_in w.images g.first) in
        let y : Bool = bit given (code_in w.images g.second) in
        let e : flip_if (is_odd g.output) (bit given (larger_in w.images g) && bit given (smaller_in w.images g)) ≡ like (2 * out_var g)
        g.output (x && y)
        = rw (odd_false (2 * out_var g) (omega arith))
        (ap (flip_if (is_odd g.output)) (sorted (bit given) (code_in w.images g.first) (code_in w.images g.second))) in
        by_gate g x y is_gate (half_double (out_var g)) (lit_reads N top w i given g.first p) (lit_reads N top w i given g.second q) e

    larger_below : larger_in w.images g < next_code (source_count N) w.made
    larger_below =
        let a = flipped_below (entry w.images (var g.first)) g.first (source_count N) w.made (i.low (var g.first) p) in
        let b = flipped_below (entry w.images (var g.second)) g.second (source_count N) w.made (i.low (var g.second) q) in
        omega (arith, a, b)

    by_already : (o : Option ℕ) → already N w.made (larger_in w.images g) (smaller_in w.images g) ≡ o
        → Already N w.made (larger_in w.images g) (smaller_in w.images g) o
        → Settled (settle_as N w g.output (larger_in w.images g) (smaller_in w.images g) o)
    unfolding settle_as
    by_already None e (is_new f n) =
        let pl = placed_new N w.made _ _ (omega arith) larger_below i.order i.fresh e f in (
          placed_inv _ _ pl gate_grounded (p, q) gate_reads,
          placed_grown _ _ pl gate_grounded (p, q) gate_reads,
          placed_here _ _ pl gate_grounded
              (p, q) gate_reads,
        )
    by_already (Some t) e a =
        let pl = placed_old N w.made _ _ (omega arith) larger_below i.order i.fresh t a in (
          placed_inv _ _ pl gate_grounded (p, q) gate_reads,
          placed_grown _ _ pl gate_grounded (p, q) gate_reads,
          placed_here _ _ pl gate_grounded
              (p, q) gate_reads,
        )

    pub settle_ok : Settled (settle N w g)
    unfolding settle settle_on
    settle_ok =
        subst₂ (λ (x y : ℕ). Settled (settle_on N w g.output x y)) (sym (code_in_lem w.images g.first p)) (sym (code_in_lem w.images g.second q))
        (by_already _ refl (already_is N w.made (larger_in w.images g) (smaller_in w.images g)))
