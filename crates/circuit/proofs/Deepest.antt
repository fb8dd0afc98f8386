-- Two entries a gate are needed. The gates of the variables 1 to n have each the next for their first input, and that of n + 1 its own negation; the walk of
-- 2 enters 2, 4, .., 2n + 2, and then 2n + 3 again and again. The middle entry is one of the first n + 1 as long as there are fewer than 2n + 2, so it is
-- another literal, and nothing is refused before 2n + 2 entries are on the path. Assumes nothing.
use Rattle.std.specs.Prelude.{Some, None}
use Prim.Native.Nat.{ℕ, zero, suc, ◌+◌, ◌*◌, ◌-◌, ◌/◌, ◌<◌, ◌≤◌, min}
use mathlib.Core.Path.{◌≡◌, refl, sym, ◌∙◌, ap, ap₂, subst, subst⁻¹}
use mathlib.Core.Logic.{◌⊎◌, inl, inr, ◌≢◌}
use mathlib.Core.Bool.{Bool, true, false, cond}
use mathlib.Core.List.{List, [], ◌∷◌, ◌++◌, map}
use native.Mathlib.Omega.{arith}
use borrow.Author.Tests.{ne_eqb}
use lib.Dec.{eqb}
use lib.ListN.{length, get_or, replicate, length-append, length-replicate, get_or-append}
use lib.Seq.{get_or-append_seam}
use Rattle.lit.specs.Code.{var}
use Rattle.circuit.specs.Graph.{In, Distinct, Gate, out_var, gate_for}
use Rattle.circuit.specs.Map.{no_image, image_in}
use Rattle.circuit.specs.Walk.{Net, Work, Out, reached, Look, enter, is_middle, look, and_then, through_inputs, answer, no_room, walk, walk_all, settle}
use Rattle.circuit.specs.Circuit.{net, start, walked, walk_with}
use Rattle.circuit.specs.Outcome.{Lent, gates_of, circuit_of, limit}
use Rattle.circuit.specs.Lending.{trimming, untouched_cell, circuit}
use Rattle.circuit.specs.Demands.{AsDeepAsCanBe}
use Rattle.circuit.proofs.Tests.{Same, same, other, same_test, lt_or, last_or}
use Rattle.circuit.proofs.Map.{entry_other, entry-replicate, no_image_lem}

-- the gates of the variables v to v + n, flat
abbrev links : ℕ → ℕ → List ℕ
links zero v = 2 * v ∷ (2 * v + 1) ∷ 0 ∷ []
links (suc n) v = 2 * v ∷ (2 * v + 2) ∷ 0 ∷ links n (suc v)

links_length : (n v : ℕ) → length (links n v) ≡ 3 * n + 3
links_length zero v = refl
links_length (suc n) v = omega (arith, links_length n (suc v))

gates_length : (n v : ℕ) → length (gates_of (links n v)) ≡ n + 1
gates_length zero v = refl
gates_length (suc n) v = omega (arith, gates_length n (suc v))

gates_within : (n v : ℕ) (g : Gate) → In g (gates_of (links n v))
    → (v ≤ out_var g) × (g.output ≤ 2 * (v + n) + 1) × (g.first ≤ 2 * (v + n) + 1) × (g.second ≤ 2 * (v + n) + 1)
gates_within zero v g (inl e) =
    subst⁻¹ (λ (x : Gate). (v ≤ out_var x) × (x.output ≤ 2 * (v + 0) + 1) × (x.first ≤ 2 * (v + 0) + 1) × (x.second ≤ 2 * (v + 0) + 1)) e
    (omega arith, omega arith, omega arith, omega arith)
gates_within zero v g (inr h) = absurd h
gates_within (suc n) v g (inl e) =
    subst⁻¹ (λ (x : Gate). (v ≤ out_var x) × (x.output ≤ 2 * (v + suc n) + 1) × (x.first ≤ 2 * (v + suc n) + 1) × (x.second ≤ 2 * (v + suc n) + 1)) e
    (omega arith, omega arith, omega arith, omega arith)
gates_within (suc n) v g (inr h) =
    let r = gates_within n (suc v) g h in (omega (arith, r.0), omega (arith, r.1), omega (arith, r.2), omega (arith, r.3))

vars_from : (n v u : ℕ) → In u (map out_var (gates_of (links n v))) → v ≤ u
vars_from zero v u (inl e) = omega arith
vars_from zero v u (inr h) = absurd h
vars_from (suc n) v u (inl e) = omega arith
vars_from (suc n) v u (inr h) = omega (arith, vars_from n (suc v) u h)

vars_distinct : (n v : ℕ) → Distinct (map out_var (gates_of (links n v)))
vars_distinct zero v = (λ h. absurd h, tt)
vars_distinct (suc n) v = (λ h. absurd (omega (arith, vars_from n (suc v) (2 * v / 2) h)), vars_distinct n (suc v))

-- the gate of the i-th variable: its input is the next, or its own negation
abbrev link : ℕ → ℕ → ℕ → Gate
link n v i = record { output = 2 * (v + i); first = 2 * (v + min (i + 1) n) + (i + 1 - n); second = 0 }

find_link : (n v i : ℕ) → i ≤ n → gate_for (gates_of (links n v)) (v + i) ≡ Some (link n v i)
find_link zero v i h = go (eqb (2 * v / 2) (v + i)) (same_test (2 * v / 2) (v + i))
  where
    go : (b : Bool) → Same (2 * v / 2) (v + i) b
        → cond b (Some (record { output = 2 * v; first = 2 * v + 1; second = 0 })) (gate_for [] (v + i)) ≡ Some (link 0 v i)
    go true (same e) =
        let a : 2 * v ≡ 2 * (v + i) = omega arith in
        let b : 2 * v + 1 ≡ 2 * (v + min (i + 1) 0) + (i + 1 - 0) = omega arith in
        ap₂ (λ (x y : ℕ). Some (record { output = x; first = y; second = 0 })) a b
    go false (other n) = absurd (n (omega arith))
find_link (suc n) v zero h = go (eqb (2 * v / 2) (v + 0)) (same_test (2 * v / 2) (v + 0))
  where
    go : (b : Bool) → Same (2 * v / 2) (v + 0) b
        → cond b (Some (record { output = 2 * v; first = 2 * v + 2; second = 0 })) (gate_for (gates_of (links n (suc v))) (v + 0)) ≡ Some (link (suc n) v 0)
    go true (same e) =
        let a : 2 * v ≡ 2 * (v + 0) = omega arith in
        let b : 2 * v + 2 ≡ 2 * (v + min (0 + 1) (suc n)) + (0 + 1 - suc n) = omega arith in
        ap₂ (λ (x y : ℕ). Some (record { output = x; first = y; second = 0 })) a b
    go false (other n) = absurd (n (omega arith))
find_link (suc n) v (suc i) h =
    go (eqb (2 * v / 2) (v + suc i)) (same_test (2 * v / 2) (v + suc i)) (find_link n (suc v) i (omega arith))
  where
    go : (b : Bool) → Same (2 * v / 2) (v + suc i) b → gate_for (gates_of (links n (suc v))) (suc v + i) ≡ Some (link n (suc v) i)
        → cond b (Some (record { output = 2 * v; first = 2 * v + 2; second = 0 })) (gate_for (gates_of (links n (suc v))) (v + suc i))
        ≡ Some (link (suc n) v (suc i))
    go true (same e) r = absurd (omega arith)
    go false (other m) r =
        let z : v + suc i ≡ suc v + i = omega arith in
        let a : 2 * (suc v + i) ≡ 2 * (v + suc i) = omega arith in
        let b : 2 * (suc v + min (i + 1) n) + (i + 1 - n) ≡ 2 * (v + min (suc i + 1) (suc n)) + (suc i + 1 - suc n) = omega arith in
        ap (gate_for (gates_of (links n (suc v)))) z ∙ r ∙ ap₂ (λ (x y : ℕ). Some (record { output = x; first = y; second = 0 })) a b

not_middle : (path : List ℕ) (c : ℕ) → get_or path (length path / 2) 0 ≢ c → is_middle path c ≡ false
not_middle [] c n = refl
not_middle (p ∷ ps) c n = ne_eqb (get_or (p ∷ ps) (length (p ∷ ps) / 2) 0) c n

module _ (n : ℕ) where
  abbrev lent : Lent
  lent = circuit trimming (n + 1) [] (links n 1) (2 ∷ [])

  abbrev N : Net
  N = net (circuit_of lent)

  abbrev begun : Work
  begun = start (n + 1) []

  -- the i-th literal entered
  abbrev lit : ℕ → ℕ
  lit i = 2 * (1 + min i n) + min (i - n) 1

  lit_low : (i : ℕ) → i ≤ n → lit i ≡ 2 * i + 2
  lit_low i h = omega arith

  lit_high : (i : ℕ) → n < i → lit i ≡ 2 * n + 3
  lit_high i h = omega arith

  abbrev path : ℕ → List ℕ
  path zero = []
  path (suc k) = path k ++ (lit k ∷ [])

  path_length : (k : ℕ) → length (path k) ≡ k
  path_length zero = refl
  path_length (suc k) = omega (arith, length-append (path k) (lit k ∷ []), path_length k)

  path_at : (k j : ℕ) → j < k → get_or (path k) j 0 ≡ lit j
  path_at zero j h = absurd (omega arith)
  path_at (suc k) j h = go (last_or k j h) (path_at k j)
    where
      go : (j < k) ⊎ (j ≡ k) → (j < k → get_or (path k) j 0 ≡ lit j) → get_or (path k ++ (lit k ∷ [])) j 0 ≡ lit j
      go (inl b) r = get_or-append (path k) (lit k ∷ []) 0 j (omega (arith, path_length k)) ∙ r b
      go (inr e) r =
          let z : j ≡ length (path k) = omega (arith, path_length k) in
          ap (λ (i : ℕ). get_or (path k ++ (lit k ∷ [])) i 0) z ∙ get_or-append_seam (path k) (lit k) [] 0 ∙ ap lit (sym e)

  -- as long as there are fewer than two entries a gate, the middle one is another
  none_middle : (k : ℕ) → k < 2 * n + 2 → is_middle (path k) (lit k) ≡ false
  none_middle zero h = refl
  none_middle (suc k) h =
      let half : suc k / 2 < suc k = omega arith in
      let low : lit (suc k / 2) ≡ 2 * (suc k / 2) + 2 = lit_low (suc k / 2) (omega arith) in
      let at : get_or (path (suc k)) (length (path (suc k)) / 2) 0 ≡ lit (suc k / 2)
      = ap (λ (m : ℕ). get_or (path (suc k)) (m / 2) 0) (path_length (suc k)) ∙ path_at (suc k) (suc k / 2) half in
      not_middle (path (suc k)) (lit (suc k)) (λ z. go (lt_or n (suc k)) (sym low ∙ sym at ∙ z))
    where
      go : (n < suc k) ⊎ (suc k ≤ n) → 2 * (suc k / 2) + 2 ≡ lit (suc k) → ⊥
      go (inl b) z = let y : 2 * (suc k / 2) + 2 ≡ 2 * n + 3 = z ∙ lit_high (suc k) b in omega (arith, y)
      go (inr b) z = let y : 2 * (suc k / 2) + 2 ≡ 2 * suc k + 2 = z ∙ lit_low (suc k) b in omega (arith, y)

  no_images_lem : (i : ℕ) → image_in begun.images (lit i) ≡ None
  unfolding start
  no_images_lem i =
      no_image_lem begun.images (lit i)
      (entry_other (replicate (n + 1 + 1) no_image) 0 0 (var (lit i)) (omega arith) ∙ entry-replicate (n + 1 + 1) (var (lit i)))

  -- the input of the gate that is entered is the next
  next_lit : (i : ℕ) → (i < n) ⊎ (n ≤ i) → (j : ℕ) → j ≡ min i n → 2 * (1 + min (j + 1) n) + (j + 1 - n) ≡ lit (suc i)
  next_lit i (inl h) j e = let a : 2 * (1 + min (j + 1) n) + (j + 1 - n) ≡ 2 * suc i + 2 = omega arith in a ∙ sym (lit_low (suc i) h)
  next_lit i (inr h) j e = let a : 2 * (1 + min (j + 1) n) + (j + 1 - n) ≡ 2 * n + 3 = omega arith in a ∙ sym (lit_high (suc i) (omega arith))

  gates_found : (i : ℕ) → gate_for (gates_of (links n 1)) (var (lit i)) ≡ Some (record { output = 2 * (1 + min i n); first = lit (suc i); second = 0 })
  gates_found i =
      let few : min i n ≤ n = omega arith in
      let a : var (lit i) ≡ 1 + min i n = omega arith in
      let b : 2 * (1 + min (min i n + 1) n) + (min i n + 1 - n) ≡ lit (suc i) = next_lit i (lt_or i n) (min i n) refl in
      ap (gate_for (gates_of (links n 1))) a ∙ find_link n 1 (min i n) few
      ∙ ap (λ (y : ℕ). Some (record { output = 2 * (1 + min i n); first = y; second = 0 })) b

  -- each is entered
  entered : (k : ℕ) → k < 2 * n + 2 → look N (path k) begun (lit k) ≡ enter (record { output = 2 * (1 + min k n); first = lit (suc k); second = 0 })
  unfolding look
  entered k h = rw (no_images_lem k, none_middle k h, gates_found k)

  -- until there is no room left
  runs_full : (room k : ℕ) → room + k ≡ 2 * n + 1 → walk N room (path k) begun (lit k) ≡ no_room
  unfolding walk through_inputs
  runs_full zero k e = ap (λ (l : Look). answer l begun (λ g. no_room)) (entered k (omega arith))
  runs_full (suc room) k e =
      ap (λ (l : Look). answer l begun (λ g. through_inputs N (λ w' c'. walk N room (path (suc k)) w' c') g begun)) (entered k (omega arith))
      ∙ ap (λ (o : Out). and_then o (λ w₁. and_then (walk N room (path (suc k)) w₁ 0)
      (λ w₂. reached (settle N w₂ (record { output = 2 * (1 + min k n); first = lit (suc k); second = 0 })))))
      (runs_full room (suc k) (omega arith))

  needs_all_lem : walk_with (2 * (n + 1) - 1) (circuit_of lent) ≡ no_room
  unfolding walk_all walked
  needs_all_lem =
      let first : lit 0 ≡ 2 = omega arith in
      ap (λ (c : ℕ). and_then (walk N (2 * (n + 1) - 1) [] begun c) (λ w₁. reached w₁)) (sym first)
      ∙ ap (λ (o : Out). and_then o (λ w₁. reached w₁)) (runs_full (2 * (n + 1) - 1) 0 (omega arith))

  roots_within : (c : ℕ) → In c (2 ∷ []) → c ≤ 2 * (n + 1) + 1
  roots_within c (inl e) = omega arith
  roots_within c (inr h) = absurd h

  deepest : n + 1 ≤ limit → AsDeepAsCanBe lent (n + 1)
  deepest small =
      record {
        passes =
            record {
              sizes =
                  record {
                    within = record { top = small; inputs = omega arith; latches = omega arith; gates = omega (arith, gates_length n 1); roots = omega arith };
                    agrees = record { roots = refl; latches = refl; resets = refl; words = omega (arith, links_length n 1) };
                    roomy =
                        record {
                          map = omega (arith, length-replicate {A = ℕ} (n + 1 + 1 + 1) untouched_cell);
                          nexts = omega arith;
                          resets = omega arith;
                          roots = omega arith;
                          gates =
                              omega (arith, gates_length n 1, links_length n 1, length-replicate {A = ℕ} (2 * (length (links n 1) / 3) + 1) untouched_cell);
                          scratch =
                              omega (
                                arith,
                                gates_length n 1,
                                links_length n 1,
                                length-replicate {A = ℕ} (3 * (n + 1) + 3 + 3 * (length (links n 1) / 3) + 1) untouched_cell,
                              );
                        };
                  };
              bounded =
                  record {
                    inputs = λ c h. absurd h;
                    gates = λ g h. let r = gates_within n 1 g h in (omega (arith, r.1), omega (arith, r.2), omega (arith, r.3));
                    states = λ c h. absurd h;
                    nexts = λ c h. absurd h;
                    resets = λ c h. absurd h;
                    roots = roots_within;
                  };
              resets = λ j h. absurd (omega arith);
            };
        once = (λ h. absurd (omega (arith, vars_from n 1 0 h)), vars_distinct n 1);
        gates = gates_length n 1;
        needs_all = needs_all_lem;
      }

-- G gates, whose walk needs 2G entries
pub as_deep_as_can_be : (G : ℕ) → 0 < G → G ≤ limit → (l : Lent) × AsDeepAsCanBe l G
as_deep_as_can_be zero h b = absurd (omega arith)
as_deep_as_can_be (suc n) h b = let e : n + 1 ≡ suc n = omega arith in (lent n, subst (AsDeepAsCanBe (lent n)) e (deepest n (omega arith)))
