-- Laws of a graph of gates: finding a gate, reaching, using, and that a gate is grounded where its inputs are. Assumes nothing.
use Rattle.std.specs.Prelude.{Option, Some, None}
use Prim.Native.Nat.{ℕ}
use mathlib.Core.Path.{◌≡◌, refl, sym, ◌∙◌, ap, subst}
use mathlib.Core.Logic.{inl, inr}
use mathlib.Core.Bool.{Bool, true, false, cond}
use mathlib.Core.List.{List, [], ◌∷◌, map}
use lib.Dec.{eqb}
use Rattle.lit.specs.Code.{var}
use Rattle.circuit.specs.Graph.{In, Distinct, Gate, Graph, out_var, defined, gate_for, DefinedOnce, Step, to_first, to_second, Reach, here, via, Loop, Grounded, Uses, itself, first_of, second_of}
use Rattle.circuit.proofs.Tests.{Same, same, other, same_test}
use Rattle.circuit.proofs.Lists.{In-left, In-right, In-map, Distinct-left, Distinct-right, Distinct-apart, Distinct-unique}

-- the search for a gate, with what it says
pub data GateFound (gs : List Gate) (v : ℕ) : Option Gate → Type 0 where
  no_gate : ((g : Gate) → In g gs → out_var g ≡ v → ⊥) → GateFound gs v None
  a_gate : (g : Gate) → In g gs → out_var g ≡ v → GateFound gs v (Some g)

pub gate_found : (gs : List Gate) (v : ℕ) → GateFound gs v (gate_for gs v)
gate_found [] v = no_gate (λ g h e. h)
gate_found (g ∷ gs) v = go (eqb (out_var g) v) (same_test (out_var g) v) (gate_for gs v) (gate_found gs v)
  where
    go : (b : Bool) → Same (out_var g) v b → (o : Option Gate) → GateFound gs v o → GateFound (g ∷ gs) v (cond b (Some g) o)
    go true (same e) o r = a_gate g (inl refl) e
    go false (other n) o (no_gate f) = no_gate no_one
      where
        no_one : (g' : Gate) → In g' (g ∷ gs) → out_var g' ≡ v → ⊥
        no_one g' (inl e) k = n (ap out_var (sym e) ∙ k)
        no_one g' (inr h) k = f g' h k
    go false (other n) o (a_gate g' h e) = a_gate g' (inr h) e

pub Reach-join : {G : Graph} {u v w : ℕ} → Reach G u v → Reach G v w → Reach G u w
Reach-join {G} {u} {v} {w} (here e) r = subst (λ (x : ℕ). Reach G x w) (sym e) r
Reach-join (via s r) r' = via s (Reach-join r r')

pub gate_defined : (G : Graph) (g : Gate) → In g G.gates → In (out_var g) (defined G)
gate_defined G g h = inr (In-right (out_var g) (map var G.sources) (map out_var G.gates) (In-map out_var g G.gates h))

pub source_defined : (G : Graph) (d : ℕ) → In d G.sources → In (var d) (defined G)
source_defined G d h = inr (In-left (var d) (map var G.sources) (map out_var G.gates) (In-map var d G.sources h))

pub gates_distinct : (G : Graph) → DefinedOnce G → Distinct (map out_var G.gates)
gates_distinct G d = Distinct-right (map var G.sources) (map out_var G.gates) d.1

pub sources_distinct : (G : Graph) → DefinedOnce G → Distinct (map var G.sources)
sources_distinct G d = Distinct-left (map var G.sources) (map out_var G.gates) d.1

pub one_gate : (G : Graph) → DefinedOnce G → (g g' : Gate) → In g G.gates → In g' G.gates → out_var g ≡ out_var g' → g ≡ g'
one_gate G d g g' h k e = Distinct-unique out_var G.gates (gates_distinct G d) g g' h k e

pub source_no_gate : (G : Graph) → DefinedOnce G → (d : ℕ) (g : Gate) → In d G.sources → In g G.gates → out_var g ≡ var d → ⊥
source_no_gate G d s g h k e =
    Distinct-apart (map var G.sources) (map out_var G.gates) d.1 (var s) (In-map var s G.sources h)
    (subst (λ (v : ℕ). In v (map out_var G.gates)) e (In-map out_var g G.gates k))

pub zero_no_gate : (G : Graph) → DefinedOnce G → (g : Gate) → In g G.gates → out_var g ≡ 0 → ⊥
zero_no_gate G d g k e =
    d.0 (In-right 0 (map var G.sources) (map out_var G.gates) (subst (λ (v : ℕ). In v (map out_var G.gates)) e (In-map out_var g G.gates k)))

pub zero_no_source : (G : Graph) → DefinedOnce G → (s : ℕ) → In s G.sources → var s ≡ 0 → ⊥
zero_no_source G d s k e =
    d.0 (In-left 0 (map var G.sources) (map out_var G.gates) (subst (λ (v : ℕ). In v (map var G.sources)) e (In-map var s G.sources k)))

pub Grounded-step : {G : Graph} {u v : ℕ} → Grounded G u → Step G u v → Grounded G v
Grounded-step f s = record { known = λ w r. f.known w (via s r); no_loop = λ w r l. f.no_loop w (via s r) l }

-- a step out of a gate leads to one of its inputs
step_of : (G : Graph) → DefinedOnce G → (P : ℕ → Type 0) (g : Gate) → In g G.gates → P (var g.first) → P (var g.second)
    → {u v : ℕ} → out_var g ≡ u → Step G u v → P v
step_of G d P g h p q e (to_first g' k e₁ e₂) =
    subst P e₂ (subst (λ (x : Gate). P (var x.first)) (one_gate G d g g' h k (e ∙ sym e₁)) p)
step_of G d P g h p q e (to_second g' k e₁ e₂) =
    subst P e₂ (subst (λ (x : Gate). P (var x.second)) (one_gate G d g g' h k (e ∙ sym e₁)) q)

pub Grounded-gate : (G : Graph) → DefinedOnce G → (g : Gate) → In g G.gates → Grounded G (var g.first) → Grounded G (var g.second)
    → Grounded G (out_var g)
Grounded-gate G d g h p q = record { known = known; no_loop = no_loop }
  where
    known : (u : ℕ) → Reach G (out_var g) u → In u (defined G)
    known u (here e) = subst (λ (v : ℕ). In v (defined G)) e (gate_defined G g h)
    known u (via s r) = (step_of G d (λ v. Grounded G v) g h p q refl s).known u r

    no_loop : (u : ℕ) → Reach G (out_var g) u → Loop G u → ⊥
    no_loop u (here e) l = (step_of G d (λ v. Grounded G v) g h p q e l.step).no_loop u l.back l
    no_loop u (via s r) l = (step_of G d (λ v. Grounded G v) g h p q refl s).no_loop u r l

-- what is no gate's variable has no step
no_step : {G : Graph} {u v : ℕ} → ((g : Gate) → In g G.gates → out_var g ≡ u → ⊥) → Step G u v → ⊥
no_step n (to_first g h e e') = n g h e
no_step n (to_second g h e e') = n g h e

pub Grounded-leaf : (G : Graph) (v : ℕ) → In v (defined G) → ((g : Gate) → In g G.gates → out_var g ≡ v → ⊥) → Grounded G v
Grounded-leaf G v m n = record { known = known; no_loop = no_loop }
  where
    known : (u : ℕ) → Reach G v u → In u (defined G)
    known u (here e) = subst (λ (w : ℕ). In w (defined G)) e m
    known u (via s r) = absurd (no_step n s)

    no_loop : (u : ℕ) → Reach G v u → Loop G u → ⊥
    no_loop u (here e) l = no_step (λ g h k. n g h (k ∙ sym e)) l.step
    no_loop u (via s r) l = no_step n s

-- one step or more
pub record Plus (G : Graph) (u v : ℕ) : Type 0 where
  pub next : ℕ
  pub step : Step G u next
  pub rest : Reach G next v

pub Plus-step : {G : Graph} {u v t : ℕ} → Plus G u v → Step G v t → Plus G u t
Plus-step p s = record { next = p.next; step = p.step; rest = Reach-join p.rest (via s (here refl)) }

-- what an input of a gate uses, the gate's literal uses
pub Uses-first : {G : Graph} (c : ℕ) (g : Gate) → In g G.gates → out_var g ≡ var c → {l : ℕ} → Uses G g.first l → Uses G c l
Uses-first c g h e (itself k) = first_of g h (here (sym e)) k
Uses-first c g h e (first_of g' h' r k) = first_of g' h' (via (to_first g h e refl) r) k
Uses-first c g h e (second_of g' h' r k) = second_of g' h' (via (to_first g h e refl) r) k

pub Uses-second : {G : Graph} (c : ℕ) (g : Gate) → In g G.gates → out_var g ≡ var c → {l : ℕ} → Uses G g.second l → Uses G c l
Uses-second c g h e (itself k) = second_of g h (here (sym e)) k
Uses-second c g h e (first_of g' h' r k) = first_of g' h' (via (to_second g h e refl) r) k
Uses-second c g h e (second_of g' h' r k) = second_of g' h' (via (to_second g h e refl) r) k

-- and what is used is reached
pub Uses-reach : {G : Graph} {c l : ℕ} → Uses G c l → Reach G (var c) (var l)
Uses-reach (itself e) = here (ap var (sym e))
Uses-reach (first_of g h r e) = Reach-join r (via (to_first g h refl (ap var (sym e))) (here refl))
Uses-reach (second_of g h r e) = Reach-join r (via (to_second g h refl (ap var (sym e))) (here refl))

-- the gate that a table names is the one that the search finds
pub gate_for_of : (G : Graph) → DefinedOnce G → (g : Gate) (v : ℕ) → In g G.gates → out_var g ≡ v → gate_for G.gates v ≡ Some g
gate_for_of G once g v h e = go (gate_for G.gates v) (gate_found G.gates v)
  where
    go : (o : Option Gate) → GateFound G.gates v o → o ≡ Some g
    go None (no_gate n) = absurd (n g h e)
    go (Some g') (a_gate x m q) = ap Some (one_gate G once g' g m h (q ∙ sym e))
