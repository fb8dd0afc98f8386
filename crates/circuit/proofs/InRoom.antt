-- The walk never runs out of room. On a path each literal's variable decides the next literal, since the map does not change what is open on the path;
-- so a path with 2G entries has come round a cycle, and the test of the middle entry would have stopped it before. Assumes nothing.
use Prim.Native.Nat.{ℕ, zero, suc, ◌+◌, ◌*◌, ◌-◌, ◌/◌, ◌<◌, ◌≤◌}
use mathlib.Core.Path.{◌≡◌, refl, sym, ◌∙◌, ap, subst, subst⁻¹}
use mathlib.Core.Logic.{◌⊎◌, inl, inr, ◌≢◌}
use mathlib.Core.Bool.{Bool, true, false}
use mathlib.Core.List.{List, [], ◌∷◌, ◌++◌, map}
use native.Mathlib.Omega.{arith}
use lib.Dec.{eqb}
use lib.ListN.{length, get_or, take, length-append, length-map, length-take, get_or-append, get_or-map}
use lib.Seq.{get_or-append_seam, get_or-take}
use Rattle.lit.specs.Code.{var}
use Rattle.circuit.specs.Refusals.{refusal_number}
use Rattle.circuit.specs.Graph.{In, Distinct, Gate, out_var, DefinedOnce, Step, to_first, to_second, here}
use Rattle.circuit.specs.Map.{no_image}
use Rattle.circuit.specs.Walk.{Net, Work, Out, reached, stopped, Look, look, answer, and_then, through_inputs, no_room, walk, stack_room, walk_all, settle}
use Rattle.circuit.specs.Circuit.{elem}
use Rattle.circuit.proofs.Tests.{lt_or, last_or, Same, same, other, same_test}
use Rattle.circuit.proofs.Lists.{In-cases, In-getD, In-map, In-unmap, pigeons, Elem, inside, outside, elem_test}
use Rattle.circuit.proofs.Graph.{one_gate, Reach-join, Plus, Plus-step}
use Rattle.circuit.proofs.Invariant.{Grown}
use Rattle.circuit.proofs.Walk.{Looking, has_image, on_path, is_undefined, at_gate, looking, Post, walk_ok}
use Rattle.circuit.specs.Invariant.{Sized, Inv, InRoom, entry}

-- two places of a list hold the same number
data Dup (xs : List ℕ) : Type 0 where
  dup : (i j : ℕ) → i < j → j < length xs → get_or xs i 0 ≡ get_or xs j 0 → Dup xs

place_of : (x : ℕ) (xs : List ℕ) → In x xs → (k : ℕ) × (k < length xs) × (get_or xs k 0 ≡ x)
place_of x [] h = absurd h
place_of x (y ∷ xs) (inl e) = (0, omega arith, sym e)
place_of x (y ∷ xs) (inr h) = let r = place_of x xs h in (suc r.0, omega (arith, r.1), r.2)

distinct_or : (xs : List ℕ) → Distinct xs ⊎ Dup xs
distinct_or [] = inl tt
distinct_or (x ∷ xs) = go (distinct_or xs)
  where
    by_elem : Distinct xs → (b : Bool) → Elem x xs b → Distinct (x ∷ xs) ⊎ Dup (x ∷ xs)
    by_elem d true (inside h) = let r = place_of x xs h in inr (dup 0 (suc r.0) (omega arith) (omega (arith, r.1)) (sym r.2))
    by_elem d false (outside n) = inl (n, d)

    go : Distinct xs ⊎ Dup xs → Distinct (x ∷ xs) ⊎ Dup (x ∷ xs)
    go (inl d) = by_elem d (elem x xs) (elem_test x xs)
    go (inr (dup i j l h e)) = inr (dup (suc i) (suc j) (omega arith) (omega arith) e)

length_pos : (g : Gate) (gs : List Gate) → In g gs → 0 < length gs
length_pos g [] h = absurd h
length_pos g (g' ∷ gs) h = omega arith

In-take : (x n : ℕ) (l : List ℕ) → In x (take n l) → In x l
In-take x zero l h = absurd h
In-take x (suc n) [] h = absurd h
In-take x (suc n) (y ∷ l) (inl e) = inl e
In-take x (suc n) (y ∷ l) (inr h) = inr (In-take x n l h)

-- a multiple of d just above i
multiple : (d i : ℕ) → 0 < d → (m : ℕ) × (i < m * d) × (m * d ≤ i + d)
multiple d zero h = (1, omega arith, omega arith)
multiple d (suc i) h = go (multiple d i h)
  where
    go : (m : ℕ) × (i < m * d) × (m * d ≤ i + d) → (m : ℕ) × (suc i < m * d) × (m * d ≤ suc i + d)
    go r = by (lt_or (suc i) (r.0 * d))
      where
        by : (suc i < r.0 * d) ⊎ (r.0 * d ≤ suc i) → (m : ℕ) × (suc i < m * d) × (m * d ≤ suc i + d)
        by (inl p) = (r.0, p, omega (arith, r.2))
        by (inr p) = (suc r.0, omega (arith, r.1), omega (arith, r.2, r.1))

-- a sequence in which each entry's variable decides the next comes round, and its middle test finds it
round : (l : ℕ → ℕ) (G : ℕ) → ((i j : ℕ) → i < 2 * G → j < 2 * G → var (l i) ≡ var (l j) → l (suc i) ≡ l (suc j))
    → (i j : ℕ) → i < j → j ≤ G → var (l i) ≡ var (l j) → (k : ℕ) × (0 < k) × (2 * k ≤ 2 * G) × (l k ≡ l (2 * k))
round l G next i j h b e =
    let r = multiple (j - i) i (omega arith) in (
      r.0 * (j - i),
      omega (arith, r.1),
      omega (arith, r.2),
      again r.0 (r.0 * (j - i)) r.1 (omega (arith, r.2)) ∙ ap l (omega arith),
    )
  where
    shift : (x : ℕ) → j + x < 2 * G → l (suc (i + x)) ≡ l (suc (j + x))
    shift zero p =
        next (i + 0) (j + 0) (omega arith) (omega arith)
        (ap (λ (z : ℕ). var (l z)) (let q : i + 0 ≡ i = omega arith in q) ∙ e ∙ ap (λ (z : ℕ). var (l z)) (let q : j ≡ j + 0 = omega arith in q))
    shift (suc x) p =
        next (i + suc x) (j + suc x) (omega arith) (omega arith)
        (ap (λ (z : ℕ). var (l z)) (let q : i + suc x ≡ suc (i + x) = omega arith in q)
        ∙ ap var (shift x (omega arith))
        ∙ ap (λ (z : ℕ). var (l z)) (let q : suc (j + x) ≡ j + suc x = omega arith in q))

    once : (y : ℕ) → i < y → y + (j - i) ≤ 2 * G → l y ≡ l (y + (j - i))
    once y p q =
        ap l (let z : y ≡ suc (i + (y - suc i)) = omega arith in z) ∙ shift (y - suc i) (omega arith)
        ∙ ap l (let z : suc (j + (y - suc i)) ≡ y + (j - i) = omega arith in z)

    again : (m y : ℕ) → i < y → y + m * (j - i) ≤ 2 * G → l y ≡ l (y + m * (j - i))
    again zero y p q = ap l (let z : y ≡ y + 0 * (j - i) = omega arith in z)
    again (suc m) y p q =
        again m y p (omega arith) ∙ once (y + m * (j - i)) (omega arith) (omega arith)
        ∙ ap l (let z : y + m * (j - i) + (j - i) ≡ y + suc m * (j - i) = omega arith in z)

-- the input of p's gate that the walk takes next: the first that has no image
data Nx (N : Net) (w : Work) (p q : ℕ) : Type 0 where
  by_first : (g : Gate) → In g N.graph.gates → out_var g ≡ var p → entry w.images (var g.first) ≡ no_image → q ≡ g.first → Nx N w p q
  by_second : (g : Gate) → In g N.graph.gates → out_var g ≡ var p → entry w.images (var g.first) ≢ no_image → q ≡ g.second → Nx N w p q

Nx-same : (N : Net) → DefinedOnce N.graph → (w : Work) (p p' q q' : ℕ) → var p ≡ var p' → Nx N w p q → Nx N w p' q' → q ≡ q'
Nx-same N once w p p' q q' e (by_first g h k o r) (by_first g' h' k' o' r') =
    r ∙ ap (λ (x : Gate). x.first) (one_gate N.graph once g g' h h' (k ∙ e ∙ sym k')) ∙ sym r'
Nx-same N once w p p' q q' e (by_first g h k o r) (by_second g' h' k' o' r') =
    absurd (o' (subst (λ (x : Gate). entry w.images (var x.first) ≡ no_image) (one_gate N.graph once g g' h h' (k ∙ e ∙ sym k')) o))
Nx-same N once w p p' q q' e (by_second g h k o r) (by_first g' h' k' o' r') =
    absurd (o (subst⁻¹ (λ (x : Gate). entry w.images (var x.first) ≡ no_image) (one_gate N.graph once g g' h h' (k ∙ e ∙ sym k')) o'))
Nx-same N once w p p' q q' e (by_second g h k o r) (by_second g' h' k' o' r') =
    r ∙ ap (λ (x : Gate). x.second) (one_gate N.graph once g g' h h' (k ∙ e ∙ sym k')) ∙ sym r'

-- entry i of the path, with the literal at hand for its last
abbrev nth : List ℕ → ℕ → ℕ → ℕ
nth path c i = get_or (path ++ (c ∷ [])) i 0

record Orbit (N : Net) (w : Work) (path : List ℕ) (c : ℕ) : Type 0 where
  is_open : (p : ℕ) → In p path → entry w.images (var p) ≡ no_image
  reaches : (p : ℕ) → In p path → Plus N.graph (var p) (var c)
  are_gates : (p : ℕ) → In p path → In (var p) (map out_var N.graph.gates)
  chain : (i : ℕ) → i < length path → Nx N w (nth path c i) (nth path c (suc i))
  tested : (i : ℕ) → 0 < i → i < length path → nth path c (i / 2) ≢ nth path c i

nth_old : (path : List ℕ) (c a i : ℕ) → i < suc (length path) → nth (path ++ (c ∷ [])) a i ≡ nth path c i
nth_old path c a i h = get_or-append (path ++ (c ∷ [])) (a ∷ []) 0 i (omega (arith, length-append path (c ∷ [])))

nth_new : (path : List ℕ) (c a : ℕ) → nth (path ++ (c ∷ [])) a (suc (length path)) ≡ a
nth_new path c a =
    ap (λ (i : ℕ). nth (path ++ (c ∷ [])) a i) (let e : suc (length path) ≡ length (path ++ (c ∷ [])) = omega (arith, length-append path (c ∷ [])) in e)
    ∙ get_or-append_seam (path ++ (c ∷ [])) a [] 0

nth_here : (path : List ℕ) (c : ℕ) → nth path c (length path) ≡ c
nth_here path c = get_or-append_seam path c [] 0

nth_in : (path : List ℕ) (c i : ℕ) → i < suc (length path) → In (nth path c i) (path ++ (c ∷ []))
nth_in path c i h = In-getD (path ++ (c ∷ [])) i 0 (omega (arith, length-append path (c ∷ [])))

still-open⁺ : (N : Net) (top : ℕ) (w w' : Work) (u v : ℕ) → Inv N top w' → Grown N.graph w w' v → Plus N.graph u v
    → entry w.images u ≡ no_image → entry w'.images u ≡ no_image
still-open⁺ N top w w' u v i r s e = go (eqb (entry w'.images u) no_image) (same_test (entry w'.images u) no_image)
  where
    go : (b : Bool) → Same (entry w'.images u) no_image b → entry w'.images u ≡ no_image
    go true (same k) = k
    go false (other n) =
        absurd ((i.grounded u n).no_loop u (here refl) (record { next = s.next; step = s.step; back = Reach-join s.rest (r.news u e n) }))

module _ (N : Net) (top : ℕ) (once : DefinedOnce N.graph) (sized : Sized N top) where
  -- one entry more
  module _ (w w' : Work) (path : List ℕ) (c : ℕ) (o : Orbit N w path c) (is_open : entry w.images (var c) ≡ no_image)
      (g : Gate) (is_gate : In g N.graph.gates) (names : out_var g ≡ var c) (clear : 0 < length path → get_or path (length path / 2) 0 ≢ c)
      (keeps : (v : ℕ) → entry w.images v ≢ no_image → entry w'.images v ≢ no_image)
      (open' : (p : ℕ) → In p (path ++ (c ∷ [])) → entry w'.images (var p) ≡ no_image)
      (a : ℕ) (st : Step N.graph (var c) (var a)) (nx : Nx N w' c a) where
    reaches' : (p : ℕ) → In p path ⊎ In p (c ∷ []) → Plus N.graph (var p) (var a)
    reaches' p (inl k) = Plus-step (o.reaches p k) st
    reaches' p (inr (inl k)) = record { next = var a; step = subst⁻¹ (λ (v : ℕ). Step N.graph (var v) (var a)) k st; rest = here refl }
    reaches' p (inr (inr k)) = absurd k

    are_gates' : (p : ℕ) → In p path ⊎ In p (c ∷ []) → In (var p) (map out_var N.graph.gates)
    are_gates' p (inl k) = o.are_gates p k
    are_gates' p (inr (inl k)) = subst (λ (u : ℕ). In u (map out_var N.graph.gates)) (names ∙ ap var (sym k)) (In-map out_var g N.graph.gates is_gate)
    are_gates' p (inr (inr k)) = absurd k

    Nx-kept : (p q : ℕ) → In q (path ++ (c ∷ [])) → Nx N w p q → Nx N w' p q
    Nx-kept p q h (by_first g' m k e r) = by_first g' m k (subst (λ (x : ℕ). entry w'.images (var x) ≡ no_image) r (open' q h)) r
    Nx-kept p q h (by_second g' m k n r) = by_second g' m k (keeps (var g'.first) n) r

    chain' : (i : ℕ) → (i < length path) ⊎ (i ≡ length path) → Nx N w' (nth (path ++ (c ∷ [])) a i) (nth (path ++ (c ∷ [])) a (suc i))
    chain' i (inl h) =
        rw (nth_old path c a i (omega arith), nth_old path c a (suc i) (omega arith))
        (Nx-kept (nth path c i) (nth path c (suc i)) (nth_in path c (suc i) (omega arith)) (o.chain i h))
    chain' i (inr e) =
        rw (e, nth_old path c a (length path) (omega arith), nth_new path c a, nth_here path c) nx

    tested' : (i : ℕ) → 0 < i → (i < length path) ⊎ (i ≡ length path) → nth (path ++ (c ∷ [])) a (i / 2) ≢ nth (path ++ (c ∷ [])) a i
    tested' i h (inl k) = rw (nth_old path c a (i / 2) (omega arith), nth_old path c a i (omega arith)) (o.tested i h k)
    tested' i h (inr e) =
        λ z.
        clear (omega arith)
        (sym (get_or-append path (c ∷ []) 0 (length path / 2) (omega arith))
        ∙ sym (nth_old path c a (length path / 2) (omega arith))
        ∙ ap (λ (k : ℕ). nth (path ++ (c ∷ [])) a (k / 2)) (sym e) ∙ z
        ∙ ap (nth (path ++ (c ∷ [])) a) e ∙ nth_old path c a (length path) (omega arith) ∙ nth_here path c)

    orbit_more : Orbit N w' (path ++ (c ∷ [])) a
    orbit_more =
        record {
          is_open = open';
          reaches = λ p k. reaches' p (In-cases p path (c ∷ []) k);
          are_gates = λ p k. are_gates' p (In-cases p path (c ∷ []) k);
          chain = λ i h. chain' i (last_or (length path) i (omega (arith, length-append path (c ∷ []))));
          tested = λ i h k. tested' i h (last_or (length path) i (omega (arith, length-append path (c ∷ []))));
        }

  -- two entries a gate: the path has come round, and a test has failed to see it
  module _ (w : Work) (path : List ℕ) (c : ℕ) (o : Orbit N w path c) (full : length path ≡ stack_room N)
      (g : Gate) (is_gate : In g N.graph.gates) (names : out_var g ≡ var c) (clear : 0 < length path → get_or path (length path / 2) 0 ≢ c) where
    seen : List ℕ
    seen = take (suc (length N.graph.gates)) (path ++ (c ∷ []))

    seen-length : length (map var seen) ≡ suc (length N.graph.gates)
    unfolding seen
    seen-length =
        omega (
          arith,
          length-map seen var,
          length-take (suc (length N.graph.gates)) (path ++ (c ∷ [])),
          length-append path (c ∷ []),
          length_pos g
              N.graph.gates is_gate,
        )

    seen_gate : (p : ℕ) → In p path ⊎ In p (c ∷ []) → In (var p) (map out_var N.graph.gates)
    seen_gate p (inl k) = o.are_gates p k
    seen_gate p (inr (inl k)) = subst (λ (u : ℕ). In u (map out_var N.graph.gates)) (names ∙ ap var (sym k)) (In-map out_var g N.graph.gates is_gate)
    seen_gate p (inr (inr k)) = absurd k

    seen_gates_lem : (v : ℕ) → In v (map var seen) → In v (map out_var N.graph.gates)
    unfolding seen
    seen_gates_lem v h =
        let r = In-unmap var v seen h in
        subst (λ (u : ℕ). In u (map out_var N.graph.gates)) r.2
        (seen_gate r.0 (In-cases r.0 path (c ∷ []) (In-take r.0 (suc (length N.graph.gates)) (path ++ (c ∷ [])) r.1)))

    seen-var : (i : ℕ) → i < suc (length N.graph.gates) → get_or (map var seen) i 0 ≡ var (nth path c i)
    unfolding seen
    seen-var i h = get_or-map var seen i 0 ∙ ap var (get_or-take (suc (length N.graph.gates)) (path ++ (c ∷ [])) i 0 h)

    next : (i j : ℕ) → i < 2 * length N.graph.gates → j < 2 * length N.graph.gates → var (nth path c i) ≡ var (nth path c j)
        → nth path c (suc i) ≡ nth path c (suc j)
    next i j h k e =
        Nx-same N once w (nth path c i) (nth path c j) (nth path c (suc i)) (nth path c (suc j)) e (o.chain i (omega arith)) (o.chain j (omega arith))

    all_tested : (i : ℕ) → 0 < i → (i < length path) ⊎ (i ≡ length path) → nth path c (i / 2) ≢ nth path c i
    all_tested i h (inl k) = o.tested i h k
    all_tested i h (inr e) =
        λ z.
        clear (omega arith)
        (sym (get_or-append path (c ∷ []) 0 (length path / 2) (omega arith))
        ∙ ap (λ (k : ℕ). nth path c (k / 2)) (sym e) ∙ z ∙ ap (nth path c) e ∙ nth_here path c)

    orbit_full : ⊥
    orbit_full = go (distinct_or (map var seen))
      where
        met : (k : ℕ) × (0 < k) × (2 * k ≤ 2 * length N.graph.gates) × (nth path c k ≡ nth path c (2 * k)) → ⊥
        met r =
            all_tested (2 * r.0) (omega (arith, r.1)) (last_or (length path) (2 * r.0) (omega (arith, r.2)))
            (ap (nth path c) (let e : 2 * r.0 / 2 ≡ r.0 = omega arith in e) ∙ r.3)

        go : Distinct (map var seen) ⊎ Dup (map var seen) → ⊥
        go (inl d) = omega (arith, pigeons (map var seen) (map out_var N.graph.gates) d seen_gates_lem, seen-length, length-map N.graph.gates out_var)
        go (inr (dup i j l h e)) =
            met
            (round (nth path c) (length N.graph.gates) next i j l (omega (arith, seen-length))
            (sym (seen-var i (omega (arith, seen-length))) ∙ e ∙ seen-var j (omega (arith, seen-length))))

  -- where the path is one that the walk makes, there was room
  abbrev RoomFor : (path : List ℕ) (w : Work) (c : ℕ) → Out → Type 0
  RoomFor path w c (reached w') = Unit {0}
  RoomFor path w c (stopped r) = (entry w.images (var c) ≡ no_image → Orbit N w path c) → refusal_number r ≢ 1

  answer_fits : (path : List ℕ) (w : Work) (c : ℕ) (go : Gate → Out)
      → ((g : Gate) → entry w.images (var c) ≡ no_image → In g N.graph.gates → out_var g ≡ var c
      → (0 < length path → get_or path (length path / 2) 0 ≢ c) → RoomFor path w c (go g))
      → (l : Look) → Looking N path w c l → RoomFor path w c (answer l w go)
  answer_fits path w c go f l (has_image n) = tt
  answer_fits path w c go f l (on_path h) = λ o e. omega arith
  answer_fits path w c go f l (is_undefined e n) = λ o e'. omega arith
  answer_fits path w c go f l (at_gate g e h k q) = f g e h k q

  module _ (path : List ℕ) (c : ℕ) (rec : Work → ℕ → Out) (rec-ok : (w : Work) (a : ℕ) → Inv N top w → Post N top (path ++ (c ∷ [])) w a (rec w a))
      (rec-fits : (w : Work) (a : ℕ) → Inv N top w → RoomFor (path ++ (c ∷ [])) w a (rec w a))
      (g : Gate) (is_gate : In g N.graph.gates) (names : out_var g ≡ var c) (clear : 0 < length path → get_or path (length path / 2) 0 ≢ c)
      (w : Work) (i : Inv N top w) (is_open : entry w.images (var c) ≡ no_image) where
    opens : Orbit N w path c → (p : ℕ) → In p path ⊎ In p (c ∷ []) → entry w.images (var p) ≡ no_image
    opens o p (inl k) = o.is_open p k
    opens o p (inr (inl k)) = subst⁻¹ (λ (x : ℕ). entry w.images (var x) ≡ no_image) k is_open
    opens o p (inr (inr k)) = absurd k

    to_first_lem : Step N.graph (var c) (var g.first)
    to_first_lem = to_first g is_gate names refl

    pluses : Orbit N w path c → (p : ℕ) → In p path ⊎ In p (c ∷ []) → Plus N.graph (var p) (var g.first)
    pluses o p (inl k) = Plus-step (o.reaches p k) to_first_lem
    pluses o p (inr (inl k)) =
        record { next = var g.first; step = subst⁻¹ (λ (v : ℕ). Step N.graph (var v) (var g.first)) k to_first_lem; rest = here refl }
    pluses o p (inr (inr k)) = absurd k

    second_fits : (w₁ : Work) → Inv N top w₁ → Grown N.graph w w₁ (var g.first) → entry w₁.images (var g.first) ≢ no_image
        → (out : Out) → RoomFor (path ++ (c ∷ [])) w₁ g.second out → RoomFor path w c (and_then out (λ w₂. reached (settle N w₂ g)))
    second_fits w₁ i₁ r n (reached w₂) p = tt
    second_fits w₁ i₁ r n (stopped k) p =
        λ o.
        p (λ e.
        orbit_more w w₁ path c (o is_open) is_open g is_gate names clear (λ v m z. m (sym (r.keeps v m) ∙ z))
        (λ q h.
        let cases = In-cases q path (c ∷ []) h in
        still-open⁺ N top w w₁ (var q) (var g.first) i₁ r (pluses (o is_open) q cases) (opens (o is_open) q cases))
        g.second (to_second g is_gate names refl) (by_second g is_gate names n refl))

    first_fits : (out : Out) → Post N top (path ++ (c ∷ [])) w g.first out → RoomFor (path ++ (c ∷ [])) w g.first out
        → RoomFor path w c (and_then out (λ w₁. and_then (rec w₁ g.second) (λ w₂. reached (settle N w₂ g))))
    first_fits (stopped k) p q =
        λ o.
        q (λ e.
        orbit_more w w path c (o is_open) is_open g is_gate names clear (λ v m. m) (λ x h. opens (o is_open) x (In-cases x path (c ∷ []) h))
        g.first to_first_lem (by_first g is_gate names e refl))
    first_fits (reached w₁) p q = second_fits w₁ p.0 p.1 p.2 (rec w₁ g.second) (rec-fits w₁ g.second p.0)

    through_fits : RoomFor path w c (through_inputs N rec g w)
    unfolding through_inputs
    through_fits = first_fits (rec w g.first) (rec-ok w g.first i) (rec-fits w g.first i)

  walk_fits : (room : ℕ) (path : List ℕ) (w : Work) (c : ℕ) → room + length path ≡ stack_room N → Inv N top w → RoomFor path w c (walk N room path w c)
  unfolding walk
  walk_fits zero path w c e i =
      answer_fits path w c (λ g. no_room) (λ g op h k q o z. orbit_full w path c (o op) (omega arith) g h k q) (look N path w c)
      (looking N path w c)
  walk_fits (suc room) path w c e i =
      answer_fits path w c (λ g. through_inputs N (λ w' c'. walk N room (path ++ (c ∷ [])) w' c') g w)
      (λ g op h k q.
      through_fits path c (λ w' c'. walk N room (path ++ (c ∷ [])) w' c')
      (λ w' a i'. walk_ok N top once sized room (path ++ (c ∷ [])) w' a i')
      (λ w' a i'. walk_fits room (path ++ (c ∷ [])) w' a (omega (arith, length-append path (c ∷ []))) i') g h k q w i op)
      (look N path w c) (looking N path w c)

  on_no_path : (w : Work) (c : ℕ) (o : Out) → RoomFor [] w c o → InRoom o
  on_no_path w c (reached w₁) q = tt
  on_no_path w c (stopped r) q =
      q (λ e.
      record {
        is_open = λ x h. absurd h;
        reaches = λ x h. absurd h;
        are_gates = λ x h. absurd h;
        chain = λ i h. absurd (omega arith);
        tested = λ i h k. absurd (omega arith);
      })

  -- two entries a gate are room enough for the walk of a literal
  pub walk_in_room : (w : Work) → Inv N top w → (c : ℕ) → InRoom (walk N (stack_room N) [] w c)
  walk_in_room w i c = on_no_path w c (walk N (stack_room N) [] w c) (walk_fits (stack_room N) [] w c (omega arith) i)

  one_in_room : (c : ℕ) (cs : List ℕ) (w : Work) → ((w₁ : Work) → Inv N top w₁ → InRoom (walk_all N (stack_room N) cs w₁)) → (o : Out) → Post N top [] w c o
      → InRoom o → InRoom (and_then o (λ w₁. walk_all N (stack_room N) cs w₁))
  one_in_room c cs w rec (stopped r) p q = q
  one_in_room c cs w rec (reached w₁) p q = rec w₁ p.0

  pub all_in_room : (cs : List ℕ) (w : Work) → Inv N top w → InRoom (walk_all N (stack_room N) cs w)
  unfolding walk_all
  all_in_room [] w i = tt
  all_in_room (c ∷ cs) w i =
      one_in_room c cs w (λ w₁ i₁. all_in_room cs w₁ i₁) (walk N (stack_room N) [] w c) (walk_ok N top once sized (stack_room N) [] w c i) (walk_in_room w i c)
