-- Renumbering after checks 1 to 3: it ends in work that is in order, with an image for all that is walked, or it refuses, and the refusal is true. The
-- checks leave what the walk needs: codes that fit, and no variable defined twice. Assumes nothing.
use Rattle.std.specs.Prelude.{Option}
use Prim.Native.Nat.{ℕ, suc, ◌+◌, ◌*◌, ◌<◌, ◌≤◌}
use mathlib.Core.Path.{◌≡◌, refl, ◌∙◌, ap, subst, subst⁻¹}
use mathlib.Core.Logic.{◌⊎◌, inl, inr, ◌≢◌}
use mathlib.Core.Bool.{Bool, true, false}
use mathlib.Core.List.{List, [], ◌∷◌, ◌++◌, map}
use native.Mathlib.Omega.{arith}
use lib.Dec.{eqb}
use lib.ListN.{length, length-append, length-map}
use Rattle.lit.specs.Code.{var}
use Rattle.circuit.specs.declared.Refusal.{Refusal}
use Rattle.circuit.specs.declared.Refusal.TheVariants as R
use Rattle.circuit.specs.declared.Refusal.TheVariants.{TooBig, Misshapen, Short, StateAgain, Undefined, Cycle}
use Rattle.circuit.specs.Graph.{In, Distinct, Gate, out_var, defined, DefinedOnce, to_first, to_second, Reach, here, via, Loop}
use Rattle.circuit.specs.Map.{no_image}
use Rattle.circuit.specs.Walk.{Work, Out, reached, stopped, stack_room}
use Rattle.circuit.specs.Circuit.{Circuit, graph, net, gate_outputs, gate_codes, latch_codes, codes, first_over, first_stray, first_again, definitions, start, walked, walk_with, or_refuse, numbered, renumber}
use Rattle.circuit.specs.Claims.{AllReset, AllGrounded, Named, FirstOver, FirstStray, FirstAgain, IsUsed}
use Rattle.circuit.specs.Tested.{InBounds}
use Rattle.circuit.proofs.Tests.{Same, same, other, same_test}
use Rattle.circuit.proofs.Lists.{In-left, In-right, In-cases, In-unmap, below_few}
use Rattle.circuit.proofs.Graph.{Uses-reach}
use Rattle.circuit.proofs.Walk.{Cause, AllPost, walk_all_ok}
use Rattle.circuit.proofs.InRoom.{all_in_room}
use Rattle.circuit.proofs.Start.{start_inv, start_only}
use Rattle.circuit.proofs.Checks.{Over, no_over, one_over, over_test, none_over, Stray, none_stray, one_stray, stray_test, no_stray, none_stray_lem, Apart, Again, once, again, again_test, map-append, map_outputs, no_again, none_again, parts_join, parts_ig, parts_zero, parts_s, parts_s_ig}
use Rattle.circuit.specs.Invariant.{Sized, Inv, InRoom, entry}

-- what checks 1 and 2 leave
pub record Limits (C : Circuit) : Type 0 where
  pub few : 2 * (length (graph C).sources + length C.gates + 1) ≤ no_image
  pub latches : length C.states ≡ length C.nexts
  pub resets : length C.states ≡ length C.resets

-- what checks 4 and 22 leave
abbrev pub Clean : Circuit → Type 0
Clean C = InBounds C × AllReset C.states C.resets

-- what is true where renumbering refuses; it gives no 1 to 3
abbrev pub Why : Circuit → Refusal → Type 0
Why C TooBig = ⊥
Why C Misshapen = ⊥
Why C Short = ⊥
Why C (R.Over l) = FirstOver (2 * C.top + 1) (codes C) l.0
Why C (R.Reset l) = InBounds C × FirstStray C.states C.resets l.0
Why C (R.Again l) = Clean C × FirstAgain (0 ∷ []) (definitions C) l.0
Why C (StateAgain l) = Clean C × Distinct (0 ∷ map var (definitions C)) × FirstAgain (0 ∷ map var (definitions C)) C.states l.0
Why C (Undefined l) = Clean C × DefinedOnce (graph C) × IsUsed C l.0 × (In (var l.0) (defined (graph C)) → ⊥)
Why C (Cycle l) = Clean C × DefinedOnce (graph C) × IsUsed C l.0 × Loop (graph C) (var l.0)

-- what is true where it succeeds
pub record Done (C : Circuit) (w : Work) : Type 0 where
  pub bounds : InBounds C
  pub resets : AllReset C.states C.resets
  pub once : DefinedOnce (graph C)
  pub grounded : AllGrounded C
  pub inv : Inv (net C) C.top w
  pub images : (c : ℕ) → In c (walked C) → entry w.images (var c) ≢ no_image
  pub named : (v : ℕ) → entry w.images v ≢ no_image → Named C v

abbrev pub Answered : Circuit → Out → Type 0
Answered C (reached w) = Done C w
Answered C (stopped r) = Why C r

in_gate_codes : (gs : List Gate) (g : Gate) → In g gs → In g.output (gate_codes gs)
in_gate_codes [] g h = absurd h
in_gate_codes (g' ∷ gs) g (inl e) = inl (ap (λ (x : Gate). x.output) e)
in_gate_codes (g' ∷ gs) g (inr h) = inr (inr (inr (in_gate_codes gs g h)))

in_latch_codes : (ss ns rs : List ℕ) → length ss ≡ length ns → length ss ≡ length rs → (s : ℕ) → In s ss → In s (latch_codes ss ns rs)
in_latch_codes [] ns rs e e' s h = absurd h
in_latch_codes (s' ∷ ss) [] rs e e' s h = absurd (omega arith)
in_latch_codes (s' ∷ ss) (n ∷ ns) [] e e' s h = absurd (omega arith)
in_latch_codes (s' ∷ ss) (n ∷ ns) (r ∷ rs) e e' s (inl k) = inl k
in_latch_codes (s' ∷ ss) (n ∷ ns) (r ∷ rs) e e' s (inr h) = inr (inr (inr (in_latch_codes ss ns rs (omega arith) (omega arith) s h)))

pub sized : (C : Circuit) → Limits C → InBounds C → Sized (net C) C.top
unfolding codes
sized C l b =
    record {
      few = l.few;
      sources = λ d h. bound d (In-cases d C.inputs C.states h);
      outputs = λ g h.
          omega (arith, b g.output (In-right g.output C.inputs _ (In-left g.output (gate_codes C.gates) _ (in_gate_codes C.gates g h))));
    }
  where
    bound : (d : ℕ) → In d C.inputs ⊎ In d C.states → var d ≤ C.top
    bound d (inl h) = omega (arith, b d (In-left d C.inputs _ h))
    bound d (inr h) =
        omega (
          arith,
          b d (In-right d C.inputs _
              (In-right d (gate_codes C.gates) _ (In-left d (latch_codes C.states C.nexts C.resets) _
              (in_latch_codes C.states C.nexts C.resets l.latches l.resets d h)))),
        )

-- the variables defined, in the order of the checks and in the order of the circuit
module _ (C : Circuit) where
  io : map var (definitions C) ≡ map var C.inputs ++ map out_var C.gates
  io = map-append var C.inputs (gate_outputs C) ∙ ap (λ (x : List ℕ). map var C.inputs ++ x) (map_outputs C.gates)

  abbrev Parts : Type 0
  Parts = Distinct (0 ∷ ((map var C.inputs ++ map var C.states) ++ map out_var C.gates))

  parts_eq : map var (graph C).sources ≡ map var C.inputs ++ map var C.states
  parts_eq = map-append var C.inputs C.states

  to_parts : DefinedOnce (graph C) → Parts
  to_parts o = subst (λ (x : List ℕ). Distinct (0 ∷ (x ++ map out_var C.gates))) parts_eq o

  from_parts : Parts → DefinedOnce (graph C)
  from_parts o = subst⁻¹ (λ (x : List ℕ). Distinct (0 ∷ (x ++ map out_var C.gates))) parts_eq o

  module _ (o : DefinedOnce (graph C)) where
    once_distinct : Distinct (map var (definitions C))
    once_distinct = subst⁻¹ Distinct io (parts_ig (map var C.inputs) (map var C.states) (map out_var C.gates) (to_parts o))

    once_zero : Apart (map var (definitions C)) (0 ∷ [])
    once_zero = subst⁻¹ (λ (x : List ℕ). Apart x (0 ∷ [])) io (parts_zero (map var C.inputs) (map var C.states) (map out_var C.gates) (to_parts o))

    once_states : Distinct (map var C.states)
    once_states = parts_s (map var C.inputs) (map var C.states) (map out_var C.gates) (to_parts o)

    once_apart : Apart (map var C.states) (0 ∷ map var (definitions C))
    once_apart =
        subst⁻¹ (λ (x : List ℕ). Apart (map var C.states) (0 ∷ x)) io
        (parts_s_ig (map var C.inputs) (map var C.states) (map out_var C.gates) (to_parts o))

  -- what passes checks 4, 22, 5 and 6 is walked
  pub passing : Clean C → DefinedOnce (graph C) → renumber C ≡ walk_with (stack_room (net C)) C
  unfolding renumber numbered
  passing b o =
      rw (
        none_over (2 * C.top + 1) (codes C) b.0,
        none_stray_lem C.states C.resets b.1,
        none_again (0 ∷ []) (definitions C) (once_distinct o) (once_zero o),
        none_again (0 ∷ map var (definitions C)) C.states (once_states o) (once_apart o),
      )

  -- a refusal that is true leaves something out of what success asks
  pub why_not : (r : Refusal) → Why C r → Clean C → DefinedOnce (graph C) → AllGrounded C → ⊥
  why_not TooBig k b o f = k
  why_not Misshapen k b o f = k
  why_not Short k b o f = k
  why_not (R.Over l) k b o f =
      let h : In l.0 (codes C) = subst⁻¹ (In l.0) k.splits (In-right l.0 k.before (l.0 ∷ k.after) (inl refl)) in
      omega (arith, b.0 l.0 h, k.is_over)
  why_not (R.Reset l) k b o f = no_stray C.states C.resets l.0 k.1 b.1
  why_not (R.Again l) k b o f = no_again (0 ∷ []) (definitions C) l.0 k.1 (once_distinct o) (once_zero o)
  why_not (StateAgain l) k b o f = no_again (0 ∷ map var (definitions C)) C.states l.0 k.2 (once_states o) (once_apart o)
  why_not (Undefined l) k b o f = k.3 ((f k.2.0 k.2.1).known (var l.0) (Uses-reach k.2.2))
  why_not (Cycle l) k b o f = (f k.2.0 k.2.1).no_loop (var l.0) (Uses-reach k.2.2) k.3

module _ (C : Circuit) (limits : Limits C) where
  named : InBounds C → DefinedOnce (graph C) → (w : Work) → AllPost (net C) C.top (walked C) (start C.top (graph C).sources) (reached w)
      → (v : ℕ) → entry w.images v ≢ no_image → Named C v
  named b o w p v n =
      go (eqb (entry (start C.top (graph C).sources).images v) no_image) (same_test (entry (start C.top (graph C).sources).images v) no_image)
    where
      go : (x : Bool) → Same (entry (start C.top (graph C).sources).images v) no_image x → Named C v
      go true (same e) = inr (p.3 v e n)
      go false (other m) = inl (start_only (net C) C.top o (sized C limits b) v m)

  by_cause : Clean C → DefinedOnce (graph C) → (r : Refusal) → ((c : ℕ) × In c (walked C) × Cause (graph C) c r) → InRoom (stopped r) → Why C r
  by_cause b o TooBig k n = n refl
  by_cause b o Misshapen k n = k.2
  by_cause b o Short k n = k.2
  by_cause b o (R.Over l) k n = absurd k.2
  by_cause b o (R.Reset l) k n = absurd k.2
  by_cause b o (R.Again l) k n = absurd k.2
  by_cause b o (StateAgain l) k n = absurd k.2
  by_cause b o (Undefined l) k n = (b, o, (k.0, k.1, k.2.0), k.2.1)
  by_cause b o (Cycle l) k n = (b, o, (k.0, k.1, k.2.0), k.2.1)

  walk-part : Clean C → DefinedOnce (graph C) → (out : Out) → AllPost (net C) C.top (walked C) (start C.top (graph C).sources) out → InRoom out
      → Answered C out
  walk-part b o (reached w) p q =
      record {
        bounds = b.0;
        resets = b.1;
        once = o;
        grounded = λ c h. p.0.grounded (var c) (p.2 c h);
        inv = p.0;
        images = p.2;
        named = named b.0 o w p;
      }
  walk-part b o (stopped r) p q = by_cause b o r p q

  check_6 : Clean C → Distinct (map var (definitions C)) → Apart (map var (definitions C)) (0 ∷ [])
      → (a : Option ℕ) → Again (0 ∷ map var (definitions C)) C.states a → (out : Out) → (DefinedOnce (graph C) → Answered C out)
      → Answered C (or_refuse a StateAgain out)
  check_6 b d z a (again c k) out g = (b, (λ h. z 0 h (inl refl), d), k)
  check_6 b d z a (once e n) out g =
      g (from_parts C
      (parts_join (map var C.inputs) (map var C.states) (map out_var C.gates) (subst Distinct (io C) d)
      (subst (λ (x : List ℕ). Apart x (0 ∷ [])) (io C) z) e (subst (λ (x : List ℕ). Apart (map var C.states) (0 ∷ x)) (io C) n)))

  check_5 : Clean C → (a : Option ℕ) → Again (0 ∷ []) (definitions C) a → (out : Out)
      → (Distinct (map var (definitions C)) → Apart (map var (definitions C)) (0 ∷ []) → Answered C out) → Answered C (or_refuse a R.Again out)
  check_5 b a (again c k) out g = (b, k)
  check_5 b a (once d z) out g = g d z

  check_22 : InBounds C → (a : Option ℕ) → Stray C.states C.resets a → (out : Out) → (Clean C → Answered C out) → Answered C (or_refuse a R.Reset out)
  check_22 b a (one_stray c k) out g = (b, k)
  check_22 b a (none_stray f) out g = g (b, f)

  check_4 : (a : Option ℕ) → Over (2 * C.top + 1) (codes C) a → (out : Out) → (InBounds C → Answered C out) → Answered C (or_refuse a R.Over out)
  check_4 a (one_over c k) out g = k
  check_4 a (no_over f) out g = g f

  pub answered : Answered C (renumber C)
  unfolding renumber numbered
  answered =
      check_4 (first_over (2 * C.top + 1) (codes C)) (over_test (2 * C.top + 1) (codes C)) _
      (λ bounds.
      check_22 bounds (first_stray C.states C.resets) (stray_test C.states C.resets) _
      (λ b.
      check_5 b (first_again (0 ∷ []) (definitions C)) (again_test (0 ∷ []) (definitions C)) _
      (λ d z.
      check_6 b d z (first_again (0 ∷ map var (definitions C)) C.states) (again_test (0 ∷ map var (definitions C)) C.states) _
      (λ o.
      walk-part b o (walk_with (stack_room (net C)) C)
      (walk_all_ok (net C) C.top o (sized C limits b.0) (stack_room (net C)) (walked C) (start C.top (graph C).sources)
      (start_inv (net C) C.top o (sized C limits b.0)))
      (all_in_room (net C) C.top o (sized C limits b.0) (walked C) (start C.top (graph C).sources)
      (start_inv (net C) C.top o (sized C limits b.0)))))))

-- no more is defined than there are variables: I + L + G ≤ V
pub counting : (C : Circuit) → Limits C → InBounds C → DefinedOnce (graph C) → length (graph C).sources + length C.gates ≤ C.top
counting C limits b o =
    omega (
      arith,
      below_few (defined (graph C)) (suc C.top) o (λ v h. bound v h),
      length-append (map var (graph C).sources) (map out_var C.gates),
      length-map (graph C).sources var,
      length-map C.gates out_var,
    )
  where
    s : Sized (net C) C.top
    s = sized C limits b

    by_part : (v : ℕ) → In v (map var (graph C).sources) ⊎ In v (map out_var C.gates) → v < suc C.top
    by_part v (inl h) = let r = In-unmap var v (graph C).sources h in omega (arith, s.sources r.0 r.1, r.2)
    by_part v (inr h) = let r = In-unmap out_var v C.gates h in omega (arith, s.outputs r.0 r.1, r.2)

    bound : (v : ℕ) → In v (defined (graph C)) → v < suc C.top
    bound v (inl e) = omega arith
    bound v (inr h) = by_part v (In-cases v (map var (graph C).sources) (map out_var C.gates) h)

-- what is reached from a literal with an image has an image
pub reach_mapped : (C : Circuit) (w : Work) → Done C w → {u v : ℕ} → Reach (graph C) u v → entry w.images u ≢ no_image → entry w.images v ≢ no_image
reach_mapped C w d (here e) n = subst (λ (x : ℕ). entry w.images x ≢ no_image) e n
reach_mapped C w d (via (to_first g h e e') r) n =
    reach_mapped C w d r
    (subst (λ (x : ℕ). entry w.images x ≢ no_image) e' (d.inv.closed g h (subst⁻¹ (λ (x : ℕ). entry w.images x ≢ no_image) e n)).0)
reach_mapped C w d (via (to_second g h e e') r) n =
    reach_mapped C w d r
    (subst (λ (x : ℕ). entry w.images x ≢ no_image) e' (d.inv.closed g h (subst⁻¹ (λ (x : ℕ). entry w.images x ≢ no_image) e n)).1)
