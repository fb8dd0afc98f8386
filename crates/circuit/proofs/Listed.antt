-- What the definitions go through, list by list: the codes of check 4 and the first of them over 2V + 1, the gates of the flat list, the literals that are
-- walked. Each list is taken apart where it was put together. Assumes nothing.
use Prim.Native.Nat.{ℕ, zero, suc, ◌+◌, ◌*◌, ◌<◌, ◌≤◌}
use mathlib.Core.Path.{◌≡◌, refl, sym, ap, subst⁻¹}
use mathlib.Core.Logic.{◌⊎◌, inl, inr, ◌↔◌}
use mathlib.Core.Bool.{Bool, true, false, cond}
use mathlib.Core.List.{List, [], ◌∷◌, ◌++◌, map}
use native.Mathlib.Omega.{arith}
use lib.ListN.{length, get_or}
use Rattle.circuit.specs.Graph.{In, Gate}
use Rattle.circuit.specs.Circuit.{Circuit, gate_outputs, gate_codes, latch_codes, codes, walked}
use Rattle.circuit.specs.Outcome.{Lent, gates_of, circuit_of}
use Rattle.circuit.specs.Claims.{largest_code, AllWithin, GatesWithin, Bounded, FirstOver, FirstTooBig, an_input, of_gate, of_latch, a_root, no_gate, IsLent, IsWalked, gate_at}
use Rattle.circuit.specs.Tested.{InBounds}
use Rattle.circuit.proofs.Lists.{In-left, In-right, In-cases, In-unmap}
use Rattle.circuit.proofs.Words.{gates_length}

-- all of two lists together
pub within-left : (b : ℕ) (xs ys : List ℕ) → AllWithin b (xs ++ ys) → AllWithin b xs
within-left b xs ys f c h = f c (In-left c xs ys h)

pub within_right : (b : ℕ) (xs ys : List ℕ) → AllWithin b (xs ++ ys) → AllWithin b ys
within_right b xs ys f c h = f c (In-right c xs ys h)

pub within_join : (b : ℕ) (xs ys : List ℕ) → AllWithin b xs → AllWithin b ys → AllWithin b (xs ++ ys)
within_join b xs ys f g c h = go (In-cases c xs ys h)
  where
    go : In c xs ⊎ In c ys → c ≤ b
    go (inl k) = f c k
    go (inr k) = g c k

-- gates, and their codes
gates_of_codes : (b : ℕ) (gs : List Gate) → AllWithin b (gate_codes gs) → GatesWithin b gs
gates_of_codes b [] f g h = absurd h
gates_of_codes b (g' ∷ gs) f g (inl e) =
    subst⁻¹ (λ (x : Gate). (x.output ≤ b) × (x.first ≤ b) × (x.second ≤ b)) e
    (f g'.output (inl refl), f g'.first (inr (inl refl)), f g'.second (inr (inr (inl refl))))
gates_of_codes b (g' ∷ gs) f g (inr h) = gates_of_codes b gs (λ c k. f c (inr (inr (inr k)))) g h

codes_of_gates : (b : ℕ) (gs : List Gate) → GatesWithin b gs → AllWithin b (gate_codes gs)
codes_of_gates b [] f c h = absurd h
codes_of_gates b (g ∷ gs) f c (inl e) = omega (arith, (f g (inl refl)).0)
codes_of_gates b (g ∷ gs) f c (inr (inl e)) = omega (arith, (f g (inl refl)).1)
codes_of_gates b (g ∷ gs) f c (inr (inr (inl e))) = omega (arith, (f g (inl refl)).2)
codes_of_gates b (g ∷ gs) f c (inr (inr (inr h))) = codes_of_gates b gs (λ g' k. f g' (inr k)) c h

-- latches, and their codes
-- the k-th codes of the latches are among them
pub LatchesWithin : ℕ → List ℕ → List ℕ → List ℕ → Type 0
LatchesWithin b ss ns rs = AllWithin b ss × AllWithin b ns × AllWithin b rs

within_cons : (b x : ℕ) (l : List ℕ) → x ≤ b → AllWithin b l → AllWithin b (x ∷ l)
within_cons b x l p q y (inl e) = omega arith
within_cons b x l p q y (inr m) = q y m

latches_of_codes : (b : ℕ) (ss ns rs : List ℕ) → length ss ≡ length ns → length ss ≡ length rs → AllWithin b (latch_codes ss ns rs)
    → LatchesWithin b ss ns rs
unfolding LatchesWithin
latches_of_codes b [] [] [] e e' f = (f, f, f)
latches_of_codes b [] (n ∷ ns) rs e e' f = absurd (omega arith)
latches_of_codes b [] [] (r ∷ rs) e e' f = absurd (omega arith)
latches_of_codes b (s ∷ ss) [] rs e e' f = absurd (omega arith)
latches_of_codes b (s ∷ ss) (n ∷ ns) [] e e' f = absurd (omega arith)
latches_of_codes b (s ∷ ss) (n ∷ ns) (r ∷ rs) e e' f =
    let rest = latches_of_codes b ss ns rs (omega arith) (omega arith) (λ x k. f x (inr (inr (inr k)))) in (
      within_cons b s ss (f s (inl refl)) rest.0,
      within_cons b n ns (f n (inr (inl refl))) rest.1,
      within_cons b r rs (f r (inr (inr (inl refl)))) rest.2,
    )

codes_of_latches : (b : ℕ) (ss ns rs : List ℕ) → AllWithin b ss → AllWithin b ns → AllWithin b rs → AllWithin b (latch_codes ss ns rs)
codes_of_latches b [] ns rs f g k c h = absurd h
codes_of_latches b (s ∷ ss) [] rs f g k c h = absurd h
codes_of_latches b (s ∷ ss) (n ∷ ns) [] f g k c h = absurd h
codes_of_latches b (s ∷ ss) (n ∷ ns) (r ∷ rs) f g k c (inl e) = f c (inl e)
codes_of_latches b (s ∷ ss) (n ∷ ns) (r ∷ rs) f g k c (inr (inl e)) = g c (inl e)
codes_of_latches b (s ∷ ss) (n ∷ ns) (r ∷ rs) f g k c (inr (inr (inl e))) = k c (inl e)
codes_of_latches b (s ∷ ss) (n ∷ ns) (r ∷ rs) f g k c (inr (inr (inr h))) =
    codes_of_latches b ss ns rs (λ x m. f x (inr m)) (λ x m. g x (inr m)) (λ x m. k x (inr m)) c h

pub bounded_of : (C : Circuit) → length C.states ≡ length C.nexts → length C.states ≡ length C.resets → InBounds C → Bounded C
unfolding codes LatchesWithin
bounded_of C e e' b =
    let top : ℕ = 2 * C.top + 1 in
    let all : List ℕ = latch_codes C.states C.nexts C.resets in
    let past-inputs : AllWithin top (gate_codes C.gates ++ (all ++ C.roots)) = within_right top C.inputs _ b in
    let past-gates : AllWithin top (all ++ C.roots) = within_right top (gate_codes C.gates) _ past-inputs in
    let latches : LatchesWithin top C.states C.nexts C.resets
    = latches_of_codes top C.states C.nexts C.resets e e' (within-left top all C.roots past-gates) in
    record {
      inputs = within-left top C.inputs _ b;
      gates = gates_of_codes top C.gates (within-left top (gate_codes C.gates) _ past-inputs);
      states = latches.0;
      nexts = latches.1;
      resets = latches.2;
      roots = within_right top all C.roots past-gates;
    }

pub of_bounded : (C : Circuit) → Bounded C → InBounds C
unfolding codes
of_bounded C b =
    let top : ℕ = 2 * C.top + 1 in
    within_join top C.inputs _ b.inputs
    (within_join top (gate_codes C.gates) _ (codes_of_gates top C.gates b.gates)
    (within_join top (latch_codes C.states C.nexts C.resets) C.roots
    (codes_of_latches top C.states C.nexts C.resets b.states b.nexts b.resets) b.roots))

-- the first code over the bound in two lists together: in the first, or in the second where none of the first is over
first_of : (b c : ℕ) (xs ys : List ℕ) → FirstOver b (xs ++ ys) c → FirstOver b xs c ⊎ (AllWithin b xs × FirstOver b ys c)
first_of b c [] ys k = inr (λ x h. absurd h, k)
first_of b c (x ∷ xs) ys k = go (λ f. first_of b c xs ys f) k.before k.splits k.within
  where
    all : x ≤ b → (l : List ℕ) → AllWithin b l → AllWithin b (x ∷ l)
    all p l q y (inl e) = omega arith
    all p l q y (inr m) = q y m

    longer : x ≤ b → FirstOver b xs c ⊎ (AllWithin b xs × FirstOver b ys c) → FirstOver b (x ∷ xs) c ⊎ (AllWithin b (x ∷ xs) × FirstOver b ys c)
    longer h (inl f) =
        inl
        (record {
          before = x ∷ f.before;
          after = f.after;
          splits = ap {B = List ℕ} (λ l. x ∷ l) f.splits;
          is_over = f.is_over;
          within = all h f.before f.within;
        })
    longer h (inr f) = inr (all h xs f.0, f.1)

    go : (FirstOver b (xs ++ ys) c → FirstOver b xs c ⊎ (AllWithin b xs × FirstOver b ys c))
        → (s : List ℕ) → x ∷ (xs ++ ys) ≡ s ++ (c ∷ k.after) → AllWithin b s → FirstOver b (x ∷ xs) c ⊎ (AllWithin b (x ∷ xs) × FirstOver b ys c)
    go rec [] e f =
        let q : x ≡ c = cc in
        inl
        (record {
          before = [];
          after = xs;
          splits = ap {B = List ℕ} (λ y. y ∷ xs) q;
          is_over = k.is_over;
          within = λ y h. absurd h;
        })
    go rec (y ∷ s) e f =
        let q : x ≡ y = cc in
        let r : xs ++ ys ≡ s ++ (c ∷ k.after) = cc in
        longer (omega (arith, f y (inl refl)))
        (rec (record { before = s; after = k.after; splits = r; is_over = k.is_over; within = λ z h. f z (inr h) }))

-- among gates: in the codes of one gate, where those before it have none
pub record AtGate (b c : ℕ) (gs : List Gate) : Type 0 where
  pub before : List Gate
  pub after : List Gate
  pub gate : Gate
  pub splits : gs ≡ before ++ (gate ∷ after)
  pub within : GatesWithin b before
  pub first : FirstOver b (gate.output ∷ gate.first ∷ gate.second ∷ []) c

first_gate : (b c : ℕ) (gs : List Gate) (ys : List ℕ) → FirstOver b (gate_codes gs ++ ys) c → AtGate b c gs ⊎ (GatesWithin b gs × FirstOver b ys c)
first_gate b c [] ys k = inr (λ g h. absurd h, k)
first_gate b c (g ∷ gs) ys k = here (λ f. first_gate b c gs ys f) (first_of b c (g.output ∷ g.first ∷ g.second ∷ []) (gate_codes gs ++ ys) k)
  where
    all : AllWithin b (g.output ∷ g.first ∷ g.second ∷ []) → (l : List Gate) → GatesWithin b l → GatesWithin b (g ∷ l)
    all f l q g' (inl e) =
        subst⁻¹ (λ (x : Gate). (x.output ≤ b) × (x.first ≤ b) × (x.second ≤ b)) e
        (f g.output (inl refl), f g.first (inr (inl refl)), f g.second (inr (inr (inl refl))))
    all f l q g' (inr m) = q g' m

    later : AllWithin b (g.output ∷ g.first ∷ g.second ∷ []) → AtGate b c gs ⊎ (GatesWithin b gs × FirstOver b ys c)
        → AtGate b c (g ∷ gs) ⊎ (GatesWithin b (g ∷ gs) × FirstOver b ys c)
    later f (inl a) =
        inl
        (record {
          before = g ∷ a.before;
          after = a.after;
          gate = a.gate;
          splits = ap {B = List Gate} (λ l. g ∷ l) a.splits;
          within = all f a.before a.within;
          first = a.first;
        })
    later f (inr a) = inr (all f gs a.0, a.1)

    here : (FirstOver b (gate_codes gs ++ ys) c → AtGate b c gs ⊎ (GatesWithin b gs × FirstOver b ys c))
        → FirstOver b (g.output ∷ g.first ∷ g.second ∷ []) c
        ⊎ (AllWithin b (g.output ∷ g.first ∷ g.second ∷ []) × FirstOver b (gate_codes gs ++ ys) c)
        → AtGate b c (g ∷ gs) ⊎ (GatesWithin b (g ∷ gs) × FirstOver b ys c)
    here rec (inl f) = inl (record { before = []; after = gs; gate = g; splits = refl; within = λ g' h. absurd h; first = f })
    here rec (inr f) = later f.0 (rec f.1)

-- among latches: in the codes of one latch, where those before it have none
pub record AtLatch (b c : ℕ) (ss ns rs : List ℕ) : Type 0 where
  pub place : ℕ
  pub inside : place < length ss
  pub within : (j : ℕ) → j < place → (get_or ss j 0 ≤ b) × (get_or ns j 0 ≤ b) × (get_or rs j 0 ≤ b)
  pub first : FirstOver b (get_or ss place 0 ∷ get_or ns place 0 ∷ get_or rs place 0 ∷ []) c

-- or none of their codes is over, and the first is in what comes after
abbrev LatchOr : ℕ → ℕ → List ℕ → List ℕ → List ℕ → List ℕ → Type 0
LatchOr b c ss ns rs ys = AtLatch b c ss ns rs ⊎ (AllWithin b ss × AllWithin b ns × AllWithin b rs × FirstOver b ys c)

first_latch_lem : (b c : ℕ) (ss ns rs ys : List ℕ) → length ss ≡ length ns → length ss ≡ length rs → FirstOver b (latch_codes ss ns rs ++ ys) c
    → LatchOr b c ss ns rs ys
first_latch_lem b c [] [] [] ys e e' k = inr (λ x h. absurd h, λ x h. absurd h, λ x h. absurd h, k)
first_latch_lem b c [] (n ∷ ns) rs ys e e' k = absurd (omega arith)
first_latch_lem b c [] [] (r ∷ rs) ys e e' k = absurd (omega arith)
first_latch_lem b c (s ∷ ss) [] rs ys e e' k = absurd (omega arith)
first_latch_lem b c (s ∷ ss) (n ∷ ns) [] ys e e' k = absurd (omega arith)
first_latch_lem b c (s ∷ ss) (n ∷ ns) (r ∷ rs) ys e e' k =
    here (λ f. first_latch_lem b c ss ns rs ys (omega arith) (omega arith) f) (first_of b c (s ∷ n ∷ r ∷ []) (latch_codes ss ns rs ++ ys) k)
  where
    before : (s ≤ b) × (n ≤ b) × (r ≤ b) → (a : AtLatch b c ss ns rs) → (j : ℕ) → j < suc a.place
        → (get_or (s ∷ ss) j 0 ≤ b) × (get_or (n ∷ ns) j 0 ≤ b) × (get_or (r ∷ rs) j 0 ≤ b)
    before p a zero h = p
    before p a (suc j) h = a.within j (omega arith)

    later : (s ≤ b) × (n ≤ b) × (r ≤ b) → LatchOr b c ss ns rs ys → LatchOr b c (s ∷ ss) (n ∷ ns) (r ∷ rs) ys
    later p (inl a) = inl (record { place = suc a.place; inside = omega (arith, a.inside); within = before p a; first = a.first })
    later p (inr a) = inr (within_cons b s ss p.0 a.0, within_cons b n ns p.1 a.1, within_cons b r rs p.2 a.2, a.3)

    here : (FirstOver b (latch_codes ss ns rs ++ ys) c → LatchOr b c ss ns rs ys)
        → FirstOver b (s ∷ n ∷ r ∷ []) c ⊎ (AllWithin b (s ∷ n ∷ r ∷ []) × FirstOver b (latch_codes ss ns rs ++ ys) c)
        → LatchOr b c (s ∷ ss) (n ∷ ns) (r ∷ rs) ys
    here rec (inl f) = inl (record { place = 0; inside = omega arith; within = λ j h. absurd (omega arith); first = f })
    here rec (inr f) = later (f.0 s (inl refl), f.0 n (inr (inl refl)), f.0 r (inr (inr (inl refl)))) (rec f.1)

pub first_too_big : (C : Circuit) (c : ℕ) → length C.states ≡ length C.nexts → length C.states ≡ length C.resets
    → FirstOver (2 * C.top + 1) (codes C) c → FirstTooBig C c
unfolding codes
first_too_big C c e e' k = inputs (first_of (largest_code C) c C.inputs _ k)
  where
    roots : AllWithin (largest_code C) C.inputs → GatesWithin (largest_code C) C.gates
        → LatchOr (largest_code C) c C.states C.nexts C.resets C.roots → FirstTooBig C c
    roots i g (inl a) = of_latch i g a.place a.inside a.within a.first
    roots i g (inr a) = a_root i g a.0 a.1 a.2 a.3

    latches : AllWithin (largest_code C) C.inputs
        → AtGate (largest_code C) c C.gates
        ⊎ (GatesWithin (largest_code C) C.gates × FirstOver (largest_code C) (latch_codes C.states C.nexts C.resets ++ C.roots) c)
        → FirstTooBig C c
    latches i (inl a) = of_gate i a.before a.after a.gate a.splits a.within a.first
    latches i (inr a) = roots i a.0 (first_latch_lem (largest_code C) c C.states C.nexts C.resets C.roots e e' a.1)

    inputs : FirstOver (largest_code C) C.inputs c
        ⊎ (AllWithin (largest_code C) C.inputs
        × FirstOver (largest_code C) (gate_codes C.gates ++ (latch_codes C.states C.nexts C.resets ++ C.roots)) c)
        → FirstTooBig C c
    inputs (inl f) = an_input f
    inputs (inr f) = latches f.0 (first_gate (largest_code C) c C.gates _ f.1)

-- the k-th gate of a flat list
gate_words_lem : (ws : List ℕ) (k : ℕ) → k < length (gates_of ws) → get_or (gates_of ws) k no_gate ≡ gate_at ws k
gate_words_lem [] k h = absurd (omega arith)
gate_words_lem (o ∷ []) k h = absurd (omega arith)
gate_words_lem (o ∷ a ∷ []) k h = absurd (omega arith)
gate_words_lem (o ∷ a ∷ b ∷ ws) zero h = refl
gate_words_lem (o ∷ a ∷ b ∷ ws) (suc k) h =
    let e₀ : 3 * suc k ≡ suc (suc (suc (3 * k))) = omega arith in
    let e₁ : suc (suc (suc (3 * k))) + 1 ≡ suc (suc (suc (3 * k + 1))) = omega arith in
    let e₂ : suc (suc (suc (3 * k))) + 2 ≡ suc (suc (suc (3 * k + 2))) = omega arith in
    rw (e₀, e₁, e₂) (gate_words_lem ws k (omega arith))

pub is_lent : (l : Lent) → IsLent l (circuit_of l)
is_lent l =
    record {
      top = refl;
      inputs = refl;
      states = refl;
      nexts = refl;
      resets = refl;
      gate_count = gates_length l.gates;
      gates = λ k h. gate_words_lem l.gates k h;
      counts = refl;
      roots = refl;
      flags = (refl, refl, refl);
    }

-- what is walked
pub walked_exactly : (C : Circuit) (c : ℕ) → In c (walked C) ↔ IsWalked C c
unfolding walked
walked_exactly C c = (λ h. to (In-cases c (cond C.trim [] (gate_outputs C)) (C.nexts ++ C.roots) h), from)
  where
    outputs_to : (b : Bool) → C.trim ≡ b → In c (cond b [] (gate_outputs C)) → IsWalked C c
    outputs_to true e h = absurd h
    outputs_to false e h = let r = In-unmap (λ g. g.output) c C.gates h in inl (r.0, r.1, r.2, e)

    rest_to : In c C.nexts ⊎ In c C.roots → IsWalked C c
    rest_to (inl h) = inr (inl h)
    rest_to (inr h) = inr (inr h)

    to : In c (cond C.trim [] (gate_outputs C)) ⊎ In c (C.nexts ++ C.roots) → IsWalked C c
    to (inl h) = outputs_to C.trim refl h
    to (inr h) = rest_to (In-cases c C.nexts C.roots h)

    output_in : (g : Gate) (gs : List Gate) → In g gs → In g.output (map (λ x. x.output) gs)
    output_in g [] h = absurd h
    output_in g (g' ∷ gs) (inl e) = inl (ap (λ (x : Gate). x.output) e)
    output_in g (g' ∷ gs) (inr h) = inr (output_in g gs h)

    from : IsWalked C c → In c (cond C.trim [] (gate_outputs C) ++ (C.nexts ++ C.roots))
    from (inl h) =
        In-left c (cond C.trim [] (gate_outputs C)) (C.nexts ++ C.roots)
        (subst⁻¹ (λ (b : Bool). In c (cond b [] (gate_outputs C))) h.3
        (subst⁻¹ (λ (x : ℕ). In x (gate_outputs C)) (sym h.2) (output_in h.0 C.gates h.1)))
    from (inr (inl h)) = In-right c (cond C.trim [] (gate_outputs C)) (C.nexts ++ C.roots) (In-left c C.nexts C.roots h)
    from (inr (inr h)) = In-right c (cond C.trim [] (gate_outputs C)) (C.nexts ++ C.roots) (In-right c C.nexts C.roots h)
