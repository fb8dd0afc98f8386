-- The table of definitions finds what checks 5 and 6 find: a variable is marked exactly where it has been seen. Where both pass, the table gives each
-- variable the gate that defines it. Assumes nothing.
use Rattle.std.specs.Prelude.{Option, Some, None, Err}
use Prim.Native.Nat.{ℕ, zero, suc, ◌+◌, ◌-◌, ◌<◌, ◌≤◌}
use mathlib.Core.Path.{◌≡◌, refl, sym, ap, ◌∙◌, subst, subst⁻¹}
use mathlib.Core.Logic.{◌⊎◌, inl, inr, ◌≢◌}
use mathlib.Core.Bool.{Bool, true, false, not, cond, ◌||◌}
use mathlib.Core.List.{List, [], ◌∷◌, ◌++◌, map}
use native.Mathlib.Omega.{arith}
use lib.Dec.{eqb, ltb}
use lib.ListN.{length, get_or, set, length-set, length-replicate}
use lib.Seq.{get_or-set_same, get_or-set_other}
use borrow.Author.Tests.{ne_eqb}
use Rattle.lit.specs.Code.{var, literal}
use Rattle.lit.specs.declared.Lit.{Lit}
use Rattle.circuit.specs.declared.Refusal.{Refusal}
use Rattle.circuit.specs.declared.Refusal.TheVariants.{Again, StateAgain}
use Rattle.circuit.specs.Graph.{In, Gate, Graph, out_var, DefinedOnce, gate_for}
use Rattle.circuit.specs.Walk.{or_else}
use Rattle.circuit.specs.Circuit.{elem, first_again}
use Rattle.circuit.specs.Outcome.{zeros}
use Rattle.circuit.proofs.Tests.{Same, same, other, same_test, AtMost, at_most, above, le_test, last_or}
use Rattle.circuit.proofs.Lists.{In-getD}
use Rattle.circuit.proofs.Graph.{GateFound, a_gate, gate_found, gate_for_of}
use Rattle.checks.specs.Checks.{Check, passed, fail_at}
use Rattle.aig.specs.Table.{gate_at, Tells, Tabled, Codes}
use Rattle.defs.specs.Define.{no_gate, Defined, judge_again, tabled, define_at, and_then, define_sources, define_gates, Judged, judged, judge, define_all}
use Rattle.defs.proofs.Definitions.{mark-is}

-- the variables seen after a list
abbrev seen_after : List ℕ → List ℕ → List ℕ
seen_after seen [] = seen
seen_after seen (d ∷ ds) = seen_after (var d ∷ seen) ds

-- a table marks what has been seen; and of the first n gates, each has its number, and no other variable has one
record Known (gs : List Gate) (words n : ℕ) (seen t : List ℕ) : Type 0 where
  size : length t ≡ words
  marks : (v : ℕ) → v < words → elem v seen ≡ not (eqb (get_or t v 0) 0)
  right : (v : ℕ) → 2 ≤ get_or t v 0 → (get_or t v 0 - 2 < length gs) × (out_var (get_or gs (get_or t v 0 - 2) no_gate) ≡ v)
  there : (k : ℕ) → k < n → 2 ≤ get_or t (out_var (get_or gs k no_gate)) 0

abbrev Right : List Gate → ℕ → ℕ → Type 0
Right gs x u = 2 ≤ x → (x - 2 < length gs) × (out_var (get_or gs (x - 2) no_gate) ≡ u)

module _ (gs : List Gate) (words : ℕ) where
  -- one more variable is marked, where it was not
  module _ {n : ℕ} {seen t : List ℕ} (k : Known gs words n seen t) (d mark : ℕ) (within : var d < words) (free : get_or t (var d) 0 ≡ 0) where
    here : get_or (set t (var d) mark) (var d) 0 ≡ mark
    here = get_or-set_same t (var d) mark 0 (omega (arith, k.size))

    there' : (v : ℕ) → 2 ≤ get_or t v 0 → get_or (set t (var d) mark) v 0 ≡ get_or t v 0
    there' v h = get_or-set_other t (var d) v mark 0 (λ e. omega (arith, ap (λ (u : ℕ). get_or t u 0) e))

    marks_more : mark ≢ 0 → (v : ℕ) → v < words → elem v (var d ∷ seen) ≡ not (eqb (get_or (set t (var d) mark) v 0) 0)
    marks_more nz v h = go (eqb v (var d)) (same_test v (var d))
      where
        go : (b : Bool) → Same v (var d) b → b || elem v seen ≡ not (eqb (get_or (set t (var d) mark) v 0) 0)
        go true (same e) = rw (ap (λ (u : ℕ). get_or (set t (var d) mark) u 0) e ∙ here, ne_eqb mark 0 nz)
        go false (other n') = rw (get_or-set_other t (var d) v mark 0 n') (k.marks v h)

    right_more : ((2 ≤ mark) → (mark - 2 < length gs) × (out_var (get_or gs (mark - 2) no_gate) ≡ var d)) → (v : ℕ) → 2 ≤ get_or (set t (var d) mark) v 0
        → (get_or (set t (var d) mark) v 0 - 2 < length gs) × (out_var (get_or gs (get_or (set t (var d) mark) v 0 - 2) no_gate) ≡ v)
    right_more new v = go (eqb v (var d)) (same_test v (var d))
      where
        go : (b : Bool) → Same v (var d) b → Right gs (get_or (set t (var d) mark) v 0) v
        go true (same e) = subst⁻¹ (λ (u : ℕ). Right gs (get_or (set t (var d) mark) u 0) u) e (subst⁻¹ (λ (x : ℕ). Right gs x (var d)) here new)
        go false (other n') = subst⁻¹ (λ (x : ℕ). Right gs x v) (get_or-set_other t (var d) v mark 0 n') (k.right v)

    there_more : (j : ℕ) → j < n → 2 ≤ get_or (set t (var d) mark) (out_var (get_or gs j no_gate)) 0
    there_more j h = omega (arith, there' (out_var (get_or gs j no_gate)) (k.there j h), k.there j h)

  -- a source
  source_known : {n : ℕ} {seen t : List ℕ} → Known gs words n seen t → (d : ℕ) → var d < words → get_or t (var d) 0 ≡ 0
      → Known gs words n (var d ∷ seen) (set t (var d) 1)
  source_known {t = t} k d h e =
      record {
        size = length-set t (var d) 1 ∙ k.size;
        marks = marks_more k d 1 h e (omega arith);
        right = right_more k d 1 h e (λ p. absurd (omega arith));
        there = there_more k d 1 h e;
      }

  -- gate n
  gate_known : {n : ℕ} {seen t : List ℕ} → Known gs words n seen t → n < length gs → (g : Gate) → get_or gs n no_gate ≡ g → out_var g < words
      → get_or t (out_var g) 0 ≡ 0
      → Known gs words (n + 1) (out_var g ∷ seen) (set t (out_var g) (n + 2))
  gate_known {n} {seen} {t} k few g is h e =
      record {
        size = length-set t (out_var g) (n + 2) ∙ k.size;
        marks = marks_more k g.output (n + 2) h e (omega arith);
        right = right_more k g.output (n + 2) h e (λ p. (omega arith, ap out_var (ap (λ (j : ℕ). get_or gs j no_gate) two ∙ is)));
        there = λ j l. go j (last_or n j (omega arith));
      }
    where
      two : n + 2 - 2 ≡ n
      two = omega arith

      go : (j : ℕ) → (j < n) ⊎ (j ≡ n) → 2 ≤ get_or (set t (out_var g) (n + 2)) (out_var (get_or gs j no_gate)) 0
      go j (inl l) = there_more k g.output (n + 2) h e j l
      go j (inr q) =
          let a : get_or (set t (out_var g) (n + 2)) (out_var (get_or gs j no_gate)) 0 ≡ n + 2
          = ap (λ (x : Gate). get_or (set t (out_var g) (n + 2)) (out_var x) 0) (ap (λ (i : ℕ). get_or gs i no_gate) q ∙ is) ∙ here k g.output (n + 2) h e in
          omega arith

-- what a table was told of a list, and what the check says of it
abbrev SayOf : (List ℕ → Type 0) → List ℕ → (Option Lit) → Option ℕ → Type 0
SayOf P w None None = P w
SayOf P w None (Some d) = ⊥
SayOf P w (Some l) None = ⊥
SayOf P w (Some l) (Some d) = l ≡ literal d

abbrev Say : (List ℕ → Type 0) → Defined → Option ℕ → Type 0
Say P D o = SayOf P D.words D.again o

module _ (gs : List Gate) (words : ℕ) where
  sources_say : (ds : List ℕ) {n : ℕ} {seen t : List ℕ} → Known gs words n seen t → Codes words ds
      → Say (λ w. Known gs words n (seen_after seen ds) w) (define_sources t ds) (first_again seen ds)
  unfolding define_sources define_at
  sources_say [] k codes = k
  sources_say (d ∷ ds) {n} {seen} {t} k codes =
      rw (k.marks (var d) (codes d (inl refl)))
      (go (eqb (get_or t (var d) 0) 0) (same_test (get_or t (var d) 0) 0)
      (λ e. sources_say ds (source_known gs words k d (codes d (inl refl)) e) (λ c h. codes c (inr h))))
    where
      go : (b : Bool) → Same (get_or t (var d) 0) 0 b
          → (get_or t (var d) 0 ≡ 0 → Say (λ w. Known gs words n (seen_after seen (d ∷ ds)) w) (define_sources (set t (var d) 1) ds)
          (first_again (var d ∷ seen) ds))
          → Say (λ w. Known gs words n (seen_after seen (d ∷ ds)) w)
          (and_then (cond b (tabled (set t (var d) 1) None) (tabled t (Some (literal d)))) (λ w. define_sources w ds))
          (cond (not b) (Some d) (first_again (var d ∷ seen) ds))
      go true (same e) rec = rec e
      go false (other z) rec = refl

  gates_say : length gs ≤ 1048575 → (hs : List Gate) (n : ℕ) {seen t : List ℕ} → n + length hs ≡ length gs
      → ((j : ℕ) → j < length hs → get_or gs (n + j) no_gate ≡ get_or hs j no_gate)
      → Known gs words n seen t → Codes words (map (λ g. g.output) hs)
      → Say (λ w. Known gs words (length gs) (seen_after seen (map (λ g. g.output) hs)) w) (define_gates t hs n) (first_again seen (map (λ g. g.output) hs))
  unfolding define_gates define_at
  gates_say few [] n {seen} {t} e f k codes = subst (λ (m : ℕ). Known gs words m seen t) (omega arith) k
  gates_say few (g ∷ hs) n {seen} {t} e f k codes =
      rw (mark-is n (omega arith), k.marks (out_var g) (codes g.output (inl refl)))
      (go (eqb (get_or t (out_var g) 0) 0) (same_test (get_or t (out_var g) 0) 0)
      (λ z. gates_say few hs (n + 1) (omega arith)
      (λ j h. ap (λ (i : ℕ). get_or gs i no_gate) (assoc j) ∙ f (suc j) (omega arith))
      (gate_known gs words k (omega arith) g (ap (λ (i : ℕ). get_or gs i no_gate) (sym plus) ∙ f 0 (omega arith)) (codes g.output (inl refl)) z)
      (λ c h. codes c (inr h))))
    where
      plus : n + 0 ≡ n
      plus = omega arith

      assoc : (j : ℕ) → n + 1 + j ≡ n + suc j
      assoc j = omega arith

      go : (b : Bool) → Same (get_or t (out_var g) 0) 0 b
          → (get_or t (out_var g) 0 ≡ 0 → Say (λ w. Known gs words (length gs) (seen_after seen (g.output ∷ map (λ x. x.output) hs)) w)
          (define_gates (set t (out_var g) (n + 2)) hs (n + 1)) (first_again (out_var g ∷ seen) (map (λ x. x.output) hs)))
          → Say (λ w. Known gs words (length gs) (seen_after seen (g.output ∷ map (λ x. x.output) hs)) w)
          (and_then (cond b (tabled (set t (out_var g) (n + 2)) None) (tabled t (Some (literal g.output))))
          (λ w. define_gates w hs (n + 1)))
          (cond (not b) (Some g.output) (first_again (out_var g ∷ seen) (map (λ x. x.output) hs)))
      go true (same z) rec = rec z
      go false (other z) rec = refl

-- checks one after another
abbrev JudgeOf : (List ℕ → Type 0) → Judged → Check → Type 0
JudgeOf P J check = (J.said ≡ check) × (J.said ≡ passed → P J.words)

judge_say : (why : Lit → Refusal) (P Q : List ℕ → Type 0) (D : Defined) (o : Option ℕ) (k : List ℕ → Judged) (next : Check) → Say P D o
    → ((w : List ℕ) → P w → JudgeOf Q (k w) next) → JudgeOf Q (judge why D k) (fail_at o why next)
judge_say why P Q D o k next s f = go D.again o s
  where
    go : (a : (Option Lit)) (o : Option ℕ) → SayOf P D.words a o → JudgeOf Q (judge_again why D.words a (k D.words)) (fail_at o why next)
    go None None p = f D.words p
    go None (Some d) p = absurd p
    go (Some l) None p = absurd p
    go (Some l) (Some d) p = (ap (λ (x : Lit). Err (why x)) p, λ e. absurd (let z : ◌≡◌ {A = ℕ} 0 1 = cc in omega arith))

fail_at_twice : (a b : Option ℕ) (why : Lit → Refusal) (next : Check) → fail_at a why (fail_at b why next) ≡ fail_at (or_else a b) why next
fail_at_twice None b why next = refl
fail_at_twice (Some d) b why next = refl

again_append : (seen xs ys : List ℕ) → first_again seen (xs ++ ys) ≡ or_else (first_again seen xs) (first_again (seen_after seen xs) ys)
again_append seen [] ys = refl
again_append seen (x ∷ xs) ys = go (elem (var x) seen) (again_append (var x ∷ seen) xs ys)
  where
    go : (b : Bool) → first_again (var x ∷ seen) (xs ++ ys) ≡ or_else (first_again (var x ∷ seen) xs) (first_again (seen_after (var x ∷ seen) xs) ys)
        → cond b (Some x) (first_again (var x ∷ seen) (xs ++ ys)) ≡ or_else (cond b (Some x) (first_again (var x ∷ seen) xs))
        (first_again (seen_after (var x ∷ seen) xs) ys)
    go true e = refl
    go false e = e

-- only what has been seen counts, and not in which order
again_same : (s s' ds : List ℕ) → ((v : ℕ) → elem v s ≡ elem v s') → first_again s ds ≡ first_again s' ds
again_same s s' [] f = refl
again_same s s' (d ∷ ds) f =
    rw (f (var d), again_same (var d ∷ s) (var d ∷ s') ds (λ v. ap (λ (b : Bool). eqb v (var d) || b) (f v)))

seen-append : (s xs ys : List ℕ) → seen_after s (xs ++ ys) ≡ seen_after (seen_after s xs) ys
seen-append s [] ys = refl
seen-append s (x ∷ xs) ys = seen-append (var x ∷ s) xs ys

or_past : (a b c : Bool) → b || (a || c) ≡ (a || b) || c
or_past true true c = refl
or_past true false c = refl
or_past false true c = refl
or_past false false c = refl

or_swap : (a b : Bool) → b || (a || false) ≡ a || b
or_swap true true = refl
or_swap true false = refl
or_swap false true = refl
or_swap false false = refl

seen-elem : (s ds : List ℕ) (v : ℕ) → elem v (seen_after s ds) ≡ elem v (map var ds) || elem v s
seen-elem s [] v = refl
seen-elem s (d ∷ ds) v = seen-elem (var d ∷ s) ds v ∙ or_past (eqb v (var d)) (elem v (map var ds)) (elem v s)

-- a table of zeros, and the constant's mark
start_known : (gs : List Gate) (words : ℕ) → 0 < words → Known gs words 0 (0 ∷ []) (set (zeros words) 0 1)
start_known gs words h =
    record {
      size = length-set (zeros words) 0 1 ∙ length-replicate words 0;
      marks = λ v k. go v (eqb v 0) (same_test v 0);
      right = λ v p. absurd (omega (arith, low v));
      there = λ k p. absurd (omega arith);
    }
  where
    zero_at : (n v : ℕ) → get_or (zeros n) v 0 ≡ 0
    zero_at zero v = refl
    zero_at (suc n) zero = refl
    zero_at (suc n) (suc v) = zero_at n v

    first : get_or (set (zeros words) 0 1) 0 0 ≡ 1
    first = get_or-set_same (zeros words) 0 1 0 (omega (arith, length-replicate {A = ℕ} words 0))

    go : (v : ℕ) (b : Bool) → Same v 0 b → b || false ≡ not (eqb (get_or (set (zeros words) 0 1) v 0) 0)
    go v true (same e) = rw (ap (λ (u : ℕ). get_or (set (zeros words) 0 1) u 0) e ∙ first)
    go v false (other n) = rw (get_or-set_other (zeros words) 0 v 1 0 n, zero_at words v)

    low : (v : ℕ) → get_or (set (zeros words) 0 1) v 0 < 2
    low v = by (eqb v 0) (same_test v 0)
      where
        by : (b : Bool) → Same v 0 b → get_or (set (zeros words) 0 1) v 0 < 2
        by true (same e) = omega (arith, ap (λ (u : ℕ). get_or (set (zeros words) 0 1) u 0) e ∙ first)
        by false (other n) = omega (arith, get_or-set_other (zeros words) 0 v 1 0 n, zero_at words v)

-- the table gives each variable its gate, where no variable is defined twice
known_tabled : (G : Graph) (words : ℕ) (seen t : List ℕ) → DefinedOnce G → Known G.gates words (length G.gates) seen t → Tabled G.gates t
unfolding gate_at
known_tabled G words seen t once k v h = go (ltb (get_or t v 0) 2) (le_test (suc (get_or t v 0)) 2)
  where
    place : (g : Gate) (gs : List Gate) → In g gs → (j : ℕ) × (j < length gs) × (get_or gs j no_gate ≡ g)
    place g [] m = absurd m
    place g (x ∷ gs) (inl e) = (0, omega arith, sym e)
    place g (x ∷ gs) (inr m) = let r = place g gs m in (suc r.0, omega (arith, r.1), r.2)

    nothing : get_or t v 0 < 2 → (o : Option Gate) → GateFound G.gates v o → o ≡ None
    nothing low None f = refl
    nothing low (Some g) (a_gate g' m e) =
        let r = place g' G.gates m in
        absurd (omega (arith, k.there r.0 r.1, ap (λ (x : Gate). get_or t (out_var x) 0) r.2, ap (λ (u : ℕ). get_or t u 0) e))

    go : (b : Bool) → AtMost (suc (get_or t v 0)) 2 b → Tells G.gates v (cond b None (Some (get_or t v 0 - 2)))
    go true (at_most low) = nothing (omega arith) (gate_for G.gates v) (gate_found G.gates v)
    go false (above high) =
        let r = k.right v (omega arith) in
        (r.0, gate_for_of G once (get_or G.gates (get_or t v 0 - 2) no_gate) v (In-getD G.gates (get_or t v 0 - 2) no_gate r.0) r.1)

module _ (inputs states : List ℕ) (gs : List Gate) (words : ℕ) (some' : 0 < words) (few : length gs ≤ 1048575) (codes_i : Codes words inputs)
    (codes_s : Codes words states)
    (codes_g : Codes words (map (λ g. g.output) gs)) where
  abbrev outs : List ℕ
  outs = map (λ g. g.output) gs

  abbrev five : Option ℕ
  five = first_again (0 ∷ []) (inputs ++ outs)

  abbrev six : Option ℕ
  six = first_again (0 ∷ map var (inputs ++ outs)) states

  abbrev Ends : List ℕ → Type 0
  Ends w = (seen : List ℕ) × Known gs words (length gs) seen w

  abbrev seen_inputs : List ℕ
  seen_inputs = seen_after (0 ∷ []) inputs

  abbrev seen_gates : List ℕ
  seen_gates = seen_after seen_inputs outs

  -- what the states' part, and the gates' part before it, say
  abbrev lastly : Check
  lastly = fail_at (first_again seen_gates states) StateAgain passed

  abbrev nextly : Check
  nextly = fail_at (first_again seen_inputs outs) Again lastly

  by_states : (t : List ℕ) → Known gs words (length gs) seen_gates t → JudgeOf Ends (judge StateAgain (define_sources t states) (λ t₃. judged t₃ passed)) lastly
  by_states t k =
      judge_say StateAgain (Known gs words (length gs) (seen_after seen_gates states)) Ends (define_sources t states) (first_again seen_gates states)
      (λ t₃. judged t₃ passed) passed
      (sources_say gs words states k codes_s) (λ w k₃. (refl, λ e. (seen_after seen_gates states, k₃)))

  by_gates : (t : List ℕ) → Known gs words 0 seen_inputs t
      → JudgeOf Ends (judge Again (define_gates t gs 0) (λ t₂. judge StateAgain (define_sources t₂ states) (λ t₃. judged t₃ passed))) nextly
  by_gates t k =
      judge_say Again (Known gs words (length gs) seen_gates) Ends (define_gates t gs 0) (first_again seen_inputs outs)
      (λ t₂. judge StateAgain (define_sources t₂ states) (λ t₃. judged t₃ passed)) lastly
      (gates_say gs words few gs 0 all (λ j h. ap (λ (i : ℕ). get_or gs i no_gate) (from j)) k codes_g)
      by_states
    where
      all : 0 + length gs ≡ length gs
      all = omega arith

      from : (j : ℕ) → 0 + j ≡ j
      from j = omega arith

  in_turn : JudgeOf Ends (define_all (zeros words) inputs states gs) (fail_at (first_again (0 ∷ []) inputs) Again nextly)
  unfolding define_all
  in_turn =
      judge_say Again (Known gs words 0 seen_inputs) Ends (define_sources (set (zeros words) 0 1) inputs) (first_again (0 ∷ []) inputs)
      (λ t₁. judge Again (define_gates t₁ gs 0) (λ t₂. judge StateAgain (define_sources t₂ states) (λ t₃. judged t₃ passed))) nextly
      (sources_say gs words inputs (start_known gs words some') codes_i) by_gates

  same_six : first_again seen_gates states ≡ six
  same_six =
      again_same _ _ states
      (λ v. ap (elem v) (sym (seen-append (0 ∷ []) inputs outs)) ∙ seen-elem (0 ∷ []) (inputs ++ outs) v
      ∙ or_swap (eqb v 0) (elem v (map var (inputs ++ outs))))

  judged_as : JudgeOf Ends (define_all (zeros words) inputs states gs) (fail_at five Again (fail_at six StateAgain passed))
  judged_as = (
    in_turn.0 ∙ fail_at_twice (first_again (0 ∷ []) inputs) (first_again seen_inputs outs) Again lastly
        ∙ ap (λ (o : Option ℕ). fail_at o Again lastly) (sym (again_append (0 ∷ []) inputs outs))
        ∙ ap (λ (o : Option ℕ). fail_at five Again (fail_at o StateAgain passed)) same_six,
    in_turn.1,
  )

  abbrev G : Graph
  G = record { sources = inputs ++ states; gates = gs }

  module _ (t : List ℕ) (r : Check) (e : judged t r ≡ define_all (zeros words) inputs states gs) where
    -- what the code is told is what the checks say
    pub defines : r ≡ fail_at five Again (fail_at six StateAgain passed)
    defines = ap (λ (J : Judged). J.said) e ∙ judged_as.0

    -- and where they pass, the table is right
    pub tables : r ≡ passed → DefinedOnce G → Tabled gs t
    tables p once =
        let k = judged_as.1 (sym (ap (λ (J : Judged). J.said) e) ∙ p) in
        known_tabled G words k.0 t once (subst (Known gs words (length gs) k.0) (sym (ap (λ (J : Judged). J.words) e)) k.1)
