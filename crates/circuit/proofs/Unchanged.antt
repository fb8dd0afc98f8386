-- An ordered circuit whose gates are each new where they stand comes out of the walk of its own gates as it went in (`again`), by induction on the gates:
-- when a gate's turn comes its inputs go to themselves, so it is settled as a new gate with its own code. The start, next states and roots are those of
-- proofs/Second.antt. Assumes nothing.
use Rattle.std.specs.Prelude.{Option, Some, None}
use Rattle.lit.specs.declared.Lit.{Lit}
use Prim.Native.Nat.{ℕ, zero, suc, ◌+◌, ◌-◌, ◌*◌, ◌/◌, ◌<◌, ◌≤◌, min, max}
use mathlib.Core.Path.{◌≡◌, refl, sym, ◌∙◌, ap, ap₂, subst}
use mathlib.Core.Bool.{Bool, true, false, cond}
use mathlib.Core.List.{List, [], ◌∷◌, ◌++◌}
use native.Mathlib.Omega.{arith}
use lib.Dec.{eqb}
use lib.ListN.{length, get_or, take, length-take}
use lib.Seq.{take-suc}
use Rattle.lit.specs.Code.{var, literal}
use Rattle.circuit.specs.Graph.{Gate, gate_for}
use Rattle.circuit.specs.Map.{no_image, image_in, code_of, store}
use Rattle.circuit.specs.Walk.{Net, source_count, Pair, Work, Out, reached, first_code, next_code, already, settle_as, settle_on, settle, look, look_at, is_middle, answer, and_then, through_inputs, no_room, walk, stack_room, walk_all}
use Rattle.circuit.specs.Ordered.{no_pair, InOrder, gates_from, count_from}
use Rattle.circuit.specs.Invariant.{Fresh}
use Rattle.circuit.proofs.Tests.{Same, same, other, same_test}
use Rattle.circuit.proofs.Map.{store_length, no_image_lem}
use Rattle.circuit.proofs.Ordered.{gates_from-length}
use Rattle.circuit.proofs.Identity.{Identity, one_more, own_image}

abbrev gate_at : ℕ → List Pair → ℕ → Gate
gate_at t ps j = record { output = t + 2 * j; first = (get_or ps j no_pair).larger; second = (get_or ps j no_pair).smaller }

-- the gate found for the j-th output is the j-th
find_gate : (k : ℕ) (ps : List Pair) (j : ℕ) → j < length ps → gate_for (gates_from (2 * k) ps) (k + j) ≡ Some (gate_at (2 * k) ps j)
find_gate k [] j h = absurd (omega arith)
find_gate k (p ∷ ps) j h = go j h (eqb (2 * k / 2) (k + j)) (same_test (2 * k / 2) (k + j)) (λ i l. find_gate (suc k) ps i l)
  where
    e : 2 * k + 2 ≡ 2 * suc k
    e = omega arith

    go : (j : ℕ) → j < length (p ∷ ps) → (b : Bool) → Same (2 * k / 2) (k + j) b
        → ((i : ℕ) → i < length ps → gate_for (gates_from (2 * suc k) ps) (suc k + i) ≡ Some (gate_at (2 * suc k) ps i))
        → cond b (Some (record { output = 2 * k; first = p.larger; second = p.smaller })) (gate_for (gates_from (2 * k + 2) ps) (k + j)) ≡ Some
        (gate_at (2 * k) (p ∷ ps) j)
    go zero h true s rec = let z : 2 * k ≡ 2 * k + 2 * 0 = omega arith in ap (λ (o : ℕ). Some (record { output = o; first = p.larger; second = p.smaller })) z
    go zero h false (other n) rec = absurd (n (omega arith))
    go (suc j) h true (same n) rec = absurd (omega arith)
    go (suc j) h false s rec =
        let i : k + suc j ≡ suc k + j = omega arith in
        let z : 2 * suc k + 2 * j ≡ 2 * k + 2 * suc j = omega arith in
        ap₂ (λ (t v : ℕ). gate_for (gates_from t ps) v) e i ∙ rec j (omega arith)
        ∙ ap (λ (o : ℕ). Some (record { output = o; first = (get_or ps j no_pair).larger; second = (get_or ps j no_pair).smaller })) z

-- a literal with an image is walked at once
pub walk_mapped : (N : Net) (room : ℕ) (path : List ℕ) (w : Work) (c t : ℕ) → image_in w.images c ≡ Some (literal t) → walk N room path w c ≡ reached w
unfolding walk look
walk_mapped N zero path w c t e =
    ap (λ (x : Option Lit). answer (look_at c x (is_middle path c) (gate_for N.graph.gates (var c))) w (λ g. no_room)) e
walk_mapped N (suc room) path w c t e =
    ap (λ (x : Option Lit). answer (look_at c x (is_middle path c) (gate_for N.graph.gates (var c))) w
    (λ g. through_inputs N (λ w' c'. walk N room (path ++ (c ∷ [])) w' c') g w)) e

-- after j gates of n sources each variable so far goes to itself, none of the others has an image, and the first j gates are made
pub record Itself (n : ℕ) (ps : List Pair) (w : Work) (j : ℕ) : Type 0 where
  pub size : n + 1 + length ps ≤ length w.images
  pub identity : Identity w.images (n + 1 + j)
  pub done : w.made ≡ take j ps

module _ (N : Net) (ps : List Pair) (gates_are : N.graph.gates ≡ gates_from (first_code (source_count N)) ps)
    (few : next_code (source_count N) ps ≤ no_image) (order : InOrder (source_count N) ps) (fresh : Fresh N ps) where
  -- the first variable of a gate
  abbrev base : ℕ
  base = length N.graph.sources + 1

  module _ (w : Work) (j : ℕ) (h : j < length ps) (i : Itself (source_count N) ps w j) where
    abbrev g : Gate
    g = gate_at (first_code (source_count N)) ps j

    found_gate : gate_for N.graph.gates (var g.output) ≡ Some g
    unfolding first_code
    found_gate =
        let z : var g.output ≡ base + j = omega arith in
        ap₂ gate_for gates_are z ∙ find_gate base ps j h

    out_high : base + j ≤ var g.output
    unfolding first_code
    out_high = omega arith

    mapped_itself : (c : ℕ) → c < first_code (source_count N) + 2 * j → image_in w.images c ≡ Some (literal c)
    unfolding first_code next_code
    mapped_itself c lt = own_image w.images (base + j) (omega (arith, few)) i.identity c (omega arith)

    abbrev hi : ℕ
    hi = (get_or ps j no_pair).larger

    abbrev lo : ℕ
    lo = (get_or ps j no_pair).smaller

    abbrev w' : Work
    w' = record { images = store w.images g.output g.output; made = take (suc j) ps }

    length_take_lt : length (take j ps) ≡ j
    length_take_lt = length-take j ps ∙ omega arith

    -- the gate is settled as a new one, with its own code
    settled_new : settle N w g ≡ w'
    unfolding settle settle_on settle_as code_of next_code
    settled_new =
        let len : length w.made ≡ j = ap length i.done ∙ length_take_lt in
        let next : first_code (source_count N) + 2 * length w.made ≡ g.output = omega (arith, len) in
        let more : w.made ++ (record { larger = hi; smaller = lo } ∷ []) ≡ take (suc j) ps
        = ap (λ (q : List Pair). q ++ (get_or ps j no_pair ∷ [])) i.done ∙ sym (take-suc ps j no_pair h) in
        let a : code_of (image_in w.images hi) ≡ hi = ap code_of (mapped_itself hi (order j h).1) in
        let b : code_of (image_in w.images lo) ≡ lo = ap code_of (mapped_itself lo (omega (arith, (order j h).0, (order j h).1))) in
        let m : max hi lo ≡ hi = omega (arith, (order j h).0) in
        let n : min hi lo ≡ lo = omega (arith, (order j h).0) in
        ap₂ (λ (x y : ℕ). settle_on N w g.output x y) a b
        ∙ ap₂ (λ (x y : ℕ). settle_as N w g.output x y (already N w.made x y)) m n
        ∙ ap (settle_as N w g.output hi lo) (ap (λ (q : List Pair). already N q hi lo) i.done ∙ fresh j h)
        ∙ ap₂ (λ (t : ℕ) (q : List Pair). record { images = store w.images g.output t; made = q }) next more

    -- it is entered, its inputs have their images, and it is settled
    walked_new : (room : ℕ) → walk N (suc room) [] w g.output ≡ reached w'
    unfolding walk look through_inputs
    walked_new room =
        let c : ℕ = g.output in
        let e : image_in w.images c ≡ None = no_image_lem w.images c (i.identity.high (var c) out_high) in
        let rec : Work → ℕ → Out = λ w₁ c₁. walk N room (c ∷ []) w₁ c₁ in
        ap₂ (λ (x : Option Lit) (y : Option Gate). answer (look_at c x false y) w
        (λ g₁. and_then (rec w g₁.first) (λ w₁. and_then (rec w₁ g₁.second) (λ w₂. reached (settle N w₂ g₁))))) e found_gate
        ∙ ap (λ (o : Out). and_then o (λ w₁. and_then (rec w₁ lo) (λ w₂. reached (settle N w₂ g))))
        (walk_mapped N room (c ∷ []) w hi hi (mapped_itself hi (order j h).1))
        ∙ ap (λ (o : Out). and_then o (λ w₂. reached (settle N w₂ g)))
        (walk_mapped N room (c ∷ []) w lo lo (mapped_itself lo (omega (arith, (order j h).0, (order j h).1))))
        ∙ ap reached settled_new

    -- and it is then as before, one gate on
    next_itself : Itself (source_count N) ps w' (suc j)
    unfolding first_code
    next_itself =
        let z : suc (base + j) ≡ base + suc j = omega arith in
        record {
          size = omega (arith, i.size, store_length w.images g.output g.output);
          identity =
              subst (Identity (store w.images g.output g.output)) z
              (one_more w.images (base + j) g.output (omega arith) (omega (arith, i.size)) i.identity);
          done = refl;
        }

  many_gates : length N.graph.gates ≡ length ps
  many_gates = ap length gates_are ∙ gates_from-length (first_code (source_count N)) ps

  -- the walk of the outputs from the j-th on
  pub again : (n j : ℕ) → j + n ≡ length ps → (w : Work) → Itself (source_count N) ps w j
      → (w' : Work) × (walk_all N (stack_room N) (count_from (first_code (source_count N) + 2 * j) n) w ≡ reached w') × Itself (source_count N) ps w' (length ps)
  unfolding walk_all
  again zero j e w i = (w, refl, subst (Itself (source_count N) ps w) (let z : j ≡ length ps = omega arith in z) i)
  again (suc n) j e w i =
      let h : j < length ps = omega arith in
      let room : stack_room N ≡ suc (stack_room N - 1) = omega (arith, many_gates) in
      let r = again n (suc j) (omega arith) (w' w j h i) (next_itself w j h i) in
      let z : first_code (source_count N) + 2 * j + 2 ≡ first_code (source_count N) + 2 * suc j = omega arith in (
        r.0,
        ap (λ (k : ℕ). and_then (walk N k [] w (first_code (source_count N) + 2 * j))
            (λ w₁. walk_all N (stack_room N) (count_from (first_code (source_count N) + 2 * j + 2) n) w₁)) room
            ∙ ap (λ (o : Out). and_then o (λ w₁. walk_all N (stack_room N) (count_from (first_code (source_count N) + 2 * j + 2) n) w₁))
            (walked_new w j h i (stack_room N - 1))
            ∙ ap (λ (t : ℕ). walk_all N (stack_room N) (count_from t n) (w' w j h i)) z ∙ r.1,
        r.2,
      )
