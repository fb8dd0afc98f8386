-- From the outcome back to the walk: what an answer says of the checks and of the walk; and what words written onto a lent list leave of it. Assumes
-- nothing.
use Rattle.std.specs.Prelude.{Option, Some, None, Ok, Err}
use Prim.Native.Nat.{ℕ, zero, suc, ◌+◌, ◌*◌, ◌-◌, ◌%◌, ◌<◌, ◌≤◌}
use mathlib.Core.Path.{◌≡◌, refl, sym, ◌∙◌, ap}
use mathlib.Core.Bool.{Bool, true, false, not, cond, ◌||◌, true≢false}
use mathlib.Core.List.{List, [], ◌∷◌, ◌++◌, map, append-nil}
use native.Mathlib.Omega.{arith}
use borrow.Author.Tests.{ltb-false, le-ltb, eqb-true, eq-eqb, not-false}
use lib.Dec.{eqb, ltb}
use lib.ListN.{length, get_or, take, drop, length-append, length-take, length-drop, drop_of_length-le, get_or-append}
use lib.Seq.{take_all, take_at, get_or-append-add, get_or-drop}
use Rattle.circuit.specs.declared.Refusal.{Refusal}
use Rattle.circuit.specs.declared.Refusal.TheVariants as R
use Rattle.circuit.specs.declared.Refusal.TheVariants.{TooBig, Misshapen, Short, StateAgain, Undefined, Cycle}
use Rattle.circuit.specs.declared.Summary.{Summary}
use Rattle.lit.specs.Code.{var}
use Rattle.circuit.specs.Graph.{In, Distinct, defined, DefinedOnce, Loop}
use Rattle.circuit.specs.Walk.{Work, Out, reached, stopped}
use Rattle.circuit.specs.Circuit.{Circuit, graph, codes, first_over, first_stray, definitions, renumber}
use Rattle.circuit.specs.Ordered.{ordered_of}
use Rattle.circuit.specs.Outcome.{Lent, circuit_of, limit, too_big, total, misshapen, too_short, map_words, scratch_words, or_stop, conclusion, onto, summary_of, written, cleared, untouched, is_early, after, outcome}
use Rattle.circuit.specs.Claims.{Within, Agrees, Roomy, AllReset, FirstOver, FirstStray, FirstAgain, IsUsed}
use Rattle.circuit.specs.Tested.{Fits, Tested, InBounds}
use Rattle.circuit.proofs.Checks.{Over, no_over, one_over, over_test, none_over, Stray, none_stray, one_stray, stray_test, none_stray_lem}
use Rattle.circuit.proofs.Renumber.{Limits, Clean, Why, Done, Answered, answered}

pub or-false : (a b : Bool) → a || b ≡ false → (a ≡ false) × (b ≡ false)
or-false true b e = absurd (true≢false e)
or-false false b e = (refl, e)

same_of : (m n : ℕ) → not (eqb m n) ≡ false → m ≡ n
same_of m n e = eqb-true m n (not-false (eqb m n) e)

-- what is true where renumbering refuses, as it is computed
abbrev pub WhyLent : Lent → Refusal → Type 0
WhyLent l TooBig = too_big (circuit_of l) ≡ true
WhyLent l Misshapen = (too_big (circuit_of l) ≡ false) × (misshapen l ≡ true)
WhyLent l Short = (too_big (circuit_of l) ≡ false) × (misshapen l ≡ false) × (too_short l (circuit_of l) ≡ true)
WhyLent l (R.Over d) = Fits l × FirstOver (2 * (circuit_of l).top + 1) (codes (circuit_of l)) d.0
WhyLent l (R.Reset d) = Fits l × InBounds (circuit_of l) × FirstStray l.states l.resets d.0
WhyLent l (R.Again d) = Tested l × FirstAgain (0 ∷ []) (definitions (circuit_of l)) d.0
WhyLent l (StateAgain d) =
    Tested l × Distinct (0 ∷ map var (definitions (circuit_of l))) × FirstAgain (0 ∷ map var (definitions (circuit_of l))) l.states d.0
WhyLent l (Undefined d) =
    Tested l × DefinedOnce (graph (circuit_of l)) × IsUsed (circuit_of l) d.0 × (In (var d.0) (defined (graph (circuit_of l))) → ⊥)
WhyLent l (Cycle d) = Tested l × DefinedOnce (graph (circuit_of l)) × IsUsed (circuit_of l) d.0 × Loop (graph (circuit_of l)) (var d.0)

module _ (l : Lent) where
  abbrev C : Circuit
  C = circuit_of l

  -- checks 1 to 4 and 22, as they are computed, say what they should
  pub within : too_big C ≡ false → Within C
  unfolding too_big
  within e =
      let a = or-false (ltb limit C.top || ltb limit (length C.inputs) || ltb limit (length C.states) || ltb limit (length C.gates))
      (ltb limit (length C.roots)) e in
      let b = or-false (ltb limit C.top || ltb limit (length C.inputs) || ltb limit (length C.states)) (ltb limit (length C.gates)) a.0 in
      let c = or-false (ltb limit C.top || ltb limit (length C.inputs)) (ltb limit (length C.states)) b.0 in
      let d = or-false (ltb limit C.top) (ltb limit (length C.inputs)) c.0 in
      record {
        top = ltb-false limit C.top d.0;
        inputs = ltb-false limit (length C.inputs) d.1;
        latches = ltb-false limit (length C.states) c.1;
        gates = ltb-false limit (length C.gates) b.1;
        roots = ltb-false limit (length C.roots) a.1;
      }

  pub agrees : misshapen l ≡ false → Agrees l
  unfolding misshapen
  agrees e =
      let a = or-false (not (eqb (total C.counts) (length C.roots)) || not (eqb (length C.states) (length C.nexts))
      || not (eqb (length C.states) (length C.resets))) (not (eqb (length l.gates % 3) 0)) e in
      let c = or-false (not (eqb (total C.counts) (length C.roots)) || not (eqb (length C.states) (length C.nexts)))
      (not (eqb (length C.states) (length C.resets))) a.0 in
      let b = or-false (not (eqb (total C.counts) (length C.roots))) (not (eqb (length C.states) (length C.nexts))) c.0 in
      record {
        roots = same_of (total C.counts) (length C.roots) b.0;
        latches = same_of (length C.states) (length C.nexts) b.1;
        resets = same_of (length C.states) (length C.resets) c.1;
        words = same_of (length l.gates % 3) 0 a.1;
      }

  pub roomy : too_short l C ≡ false → Roomy l C
  unfolding too_short
  roomy e =
      let short : List ℕ → ℕ → Bool = λ list n. ltb (length list) n in
      let a = or-false (short l.map (map_words C) || short l.next_images (length C.states) || short l.reset_images (length C.states)
      || short l.root_images (length C.roots) || short l.gates_out (2 * length C.gates)) (short l.scratch (scratch_words C)) e in
      let b = or-false (short l.map (map_words C) || short l.next_images (length C.states) || short l.reset_images (length C.states)
      || short l.root_images (length C.roots)) (short l.gates_out (2 * length C.gates)) a.0 in
      let c = or-false (short l.map (map_words C) || short l.next_images (length C.states) || short l.reset_images (length C.states))
      (short l.root_images (length C.roots)) b.0 in
      let r = or-false (short l.map (map_words C) || short l.next_images (length C.states)) (short l.reset_images (length C.states)) c.0 in
      let d = or-false (short l.map (map_words C)) (short l.next_images (length C.states)) r.0 in
      record {
        map = ltb-false (length l.map) (map_words C) d.0;
        nexts = ltb-false (length l.next_images) (length C.states) d.1;
        resets = ltb-false (length l.reset_images) (length C.states) r.1;
        roots = ltb-false (length l.root_images) (length C.roots) c.1;
        gates = ltb-false (length l.gates_out) (2 * length C.gates) b.1;
        scratch = ltb-false (length l.scratch) (scratch_words C) a.1;
      }

  pub from_within : Within C → too_big C ≡ false
  unfolding too_big
  from_within h =
      rw (
        le-ltb limit C.top h.top,
        le-ltb limit (length C.inputs) h.inputs,
        le-ltb limit (length C.states) h.latches,
        le-ltb limit (length C.gates) h.gates,
        le-ltb limit (length C.roots) h.roots,
      )

  pub from_agrees : Agrees l → misshapen l ≡ false
  unfolding misshapen
  from_agrees h =
      rw (
        eq-eqb (total C.counts) (length C.roots) h.roots,
        eq-eqb (length C.states) (length C.nexts) h.latches,
        eq-eqb (length C.states) (length C.resets) h.resets,
        eq-eqb (length l.gates % 3) 0 h.words,
      )

  pub from_roomy : Roomy l C → too_short l C ≡ false
  unfolding too_short
  from_roomy h =
      rw (
        le-ltb (length l.map) (map_words C) h.map,
        le-ltb (length l.next_images) (length C.states) h.nexts,
        le-ltb (length l.reset_images) (length C.states) h.resets,
        le-ltb (length l.root_images) (length C.roots) h.roots,
        le-ltb (length l.gates_out) (2 * length C.gates) h.gates,
        le-ltb (length l.scratch) (scratch_words C) h.scratch,
      )

  pub limits : Fits l → Limits C
  limits f =
      record {
        few = omega (arith, length-append C.inputs C.states, within f.one);
        latches = (agrees f.two).latches;
        resets = (agrees f.two).resets;
      }

  pub bounds : Tested l → InBounds C
  bounds p = go (first_over (2 * C.top + 1) (codes C)) (over_test (2 * C.top + 1) (codes C)) p.four
    where
      go : (o : Option ℕ) → Over (2 * C.top + 1) (codes C) o → o ≡ None → InBounds C
      go None (no_over f) e = f
      go (Some c) (one_over c' k) e = absurd (let z : ◌≡◌ {A = ℕ} 0 1 = cc in omega arith)

  pub all_reset_lem : Tested l → AllReset l.states l.resets
  all_reset_lem p = go (first_stray l.states l.resets) (stray_test l.states l.resets) p.twenty_two
    where
      go : (o : Option ℕ) → Stray l.states l.resets o → o ≡ None → AllReset l.states l.resets
      go None (none_stray f) e = f
      go (Some c) (one_stray c' k) e = absurd (let z : ◌≡◌ {A = ℕ} 0 1 = cc in omega arith)

  pub clean : Tested l → Clean C
  clean p = (bounds p, all_reset_lem p)

  pub tested_of : Fits l → Clean C → Tested l
  tested_of f (b, a) = record { fits = f; four = none_over (2 * C.top + 1) (codes C) b; twenty_two = none_stray_lem l.states l.resets a }

  -- what the conclusion says
  abbrev pub Concluded : Out → Type 0
  Concluded (reached w) = Fits l × Done C w
  Concluded (stopped r) = WhyLent l r

  by_why : Fits l → (r : Refusal) → Why C r → WhyLent l r
  by_why f TooBig k = absurd k
  by_why f Misshapen k = absurd k
  by_why f Short k = absurd k
  by_why f (R.Over d) k = (f, k)
  by_why f (R.Reset d) k = (f, k.0, k.1)
  by_why f (R.Again d) k = (tested_of f k.0, k.1)
  by_why f (StateAgain d) k = (tested_of f k.0, k.1, k.2)
  by_why f (Undefined d) k = (tested_of f k.0, k.1, k.2, k.3)
  by_why f (Cycle d) k = (tested_of f k.0, k.1, k.2, k.3)

  by_renumber : Fits l → (o : Out) → Answered C o → Concluded o
  by_renumber f (reached w) a = (f, a)
  by_renumber f (stopped r) a = by_why f r a

  pub concluded : Concluded (conclusion l)
  unfolding conclusion
  concluded = go (too_big C) refl (misshapen l) refl (too_short l C) refl
    where
      go : (a : Bool) → too_big C ≡ a → (b : Bool) → misshapen l ≡ b → (c : Bool) → too_short l C ≡ c
          → Concluded (or_stop a TooBig (or_stop b Misshapen (or_stop c Short (renumber C))))
      go true p b q c r = p
      go false p true q c r = (p, q)
      go false p false q true r = (p, q, r)
      go false p false q false r =
          let f : Fits l = record { one = p; two = q; three = r } in by_renumber f (renumber C) (answered C (limits f))

  -- an answer comes of a conclusion
  pub success_from : (s : Summary) → (outcome l).answer ≡ Ok s → (w : Work) × (conclusion l ≡ reached w) × (s ≡ summary_of (ordered_of C w))
  unfolding outcome after
  success_from s e = go (conclusion l) refl e
    where
      no_success : (r : Refusal) (b : Bool) → (cond b (untouched l r) (cleared l C r)).answer ≡ Ok s → ⊥
      no_success r true k = let z : ◌≡◌ {A = ℕ} 0 1 = cc in omega arith
      no_success r false k = let z : ◌≡◌ {A = ℕ} 0 1 = cc in omega arith

      go : (o : Out) → conclusion l ≡ o → (after l o).answer ≡ Ok s → (w : Work) × (conclusion l ≡ reached w) × (s ≡ summary_of (ordered_of C w))
      go (reached w) k a = (w, k, cc)
      go (stopped r) k a = absurd (no_success r (is_early r) a)

  pub refusal_from : (r : Refusal) → (outcome l).answer ≡ Err r → conclusion l ≡ stopped r
  unfolding outcome after
  refusal_from r e = go (conclusion l) refl e
    where
      same_refusal : (r' : Refusal) (b : Bool) → (cond b (untouched l r') (cleared l C r')).answer ≡ Err r → r' ≡ r
      same_refusal r' true k = cc
      same_refusal r' false k = cc

      go : (o : Out) → conclusion l ≡ o → (after l o).answer ≡ Err r → conclusion l ≡ stopped r
      go (reached w) k a = absurd (let z : ◌≡◌ {A = ℕ} 0 1 = cc in omega arith)
      go (stopped r') k a = k ∙ ap stopped (same_refusal r' (is_early r') a)

  pub success_of : (w : Work) → conclusion l ≡ reached w → outcome l ≡ written l C w.images (ordered_of C w)
  unfolding outcome after
  success_of w e = ap (after l) e

  pub refusal_of : (r : Refusal) → conclusion l ≡ stopped r → outcome l ≡ cond (is_early r) (untouched l r) (cleared l C r)
  unfolding outcome after
  refusal_of r e = ap (after l) e

  -- the conclusion that passes the checks is that of renumbering
  pub conclusion_of : Fits l → conclusion l ≡ renumber C
  unfolding conclusion
  conclusion_of f = rw (f.one, f.two, f.three)

-- words written onto a list that is long enough
pub onto_long : (ws lent : List ℕ) → length ws ≤ length lent → onto ws lent ≡ ws ++ drop (length ws) lent
onto_long ws lent h = rw (take_all (length lent) ws h)

-- and onto one that is just as long
pub onto_whole : (ws lent : List ℕ) → length ws ≡ length lent → onto ws lent ≡ ws
onto_whole ws lent e = rw (take_all (length lent) ws (omega arith), drop_of_length-le lent {i = length ws} (omega arith)) (append-nil ws)

-- no words change nothing
pub onto_none : (lent : List ℕ) → onto [] lent ≡ lent
onto_none lent = onto_long [] lent (omega arith)

pub onto-length : (ws lent : List ℕ) → length (onto ws lent) ≡ length lent
onto-length ws lent =
    omega (
      arith,
      length-append (take (length lent) ws) (drop (length ws) lent),
      length-take (length lent) ws,
      length-drop (length ws) lent,
    )

pub onto-take : (ws lent : List ℕ) (n : ℕ) → length ws ≡ n → n ≤ length lent → take n (onto ws lent) ≡ ws
onto-take ws lent n e h = ap (take n) (onto_long ws lent (omega arith)) ∙ take_at ws (drop (length ws) lent) n e

pub onto_at : (ws lent : List ℕ) (i d : ℕ) → i < length ws → length ws ≤ length lent → get_or (onto ws lent) i d ≡ get_or ws i d
onto_at ws lent i d h k = ap (λ (x : List ℕ). get_or x i d) (onto_long ws lent k) ∙ get_or-append ws (drop (length ws) lent) d i h

-- past the words written a lent list is as it was
pub onto_past : (ws lent : List ℕ) (i d : ℕ) → length ws ≤ i → length ws ≤ length lent → get_or (onto ws lent) i d ≡ get_or lent i d
onto_past ws lent i d h l =
    let k : ℕ = i - length ws in
    let e : i ≡ length ws + k = omega arith in
    ap (λ (x : List ℕ). get_or x i d) (onto_long ws lent l) ∙ ap (λ (j : ℕ). get_or (ws ++ drop (length ws) lent) j d) e
    ∙ get_or-append-add ws (drop (length ws) lent) k d ∙ get_or-drop (length ws) lent k d ∙ ap (λ (j : ℕ). get_or lent j d) (sym e)

pub get_d_map_in : {A : Type 0} (f : A → ℕ) (xs : List A) (j : ℕ) (a : A) (d : ℕ) → j < length xs → get_or (map f xs) j d ≡ f (get_or xs j a)
get_d_map_in f [] j a d h = absurd (omega arith)
get_d_map_in f (x ∷ xs) zero a d h = refl
get_d_map_in f (x ∷ xs) (suc j) a d h = get_d_map_in f xs j a d (omega arith)
