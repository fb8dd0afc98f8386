-- The walk keeps its work in order, gives the literal walked an image, and where it stops the refusal is true. By induction on the room left: a
-- gate gets no image while its own inputs are walked, since all that is new is reached from the input, and what has an image reaches no cycle.
-- Assumes nothing.
use Rattle.std.specs.Prelude.{Option, Some, None}
use Rattle.lit.specs.declared.Lit.{Lit}
use Prim.Native.Nat.{ℕ, zero, suc, ◌/◌, ◌<◌}
use mathlib.Core.Path.{◌≡◌, refl, sym, ◌∙◌, subst, subst⁻¹}
use mathlib.Core.Logic.{◌⊎◌, inl, inr, ◌≢◌}
use mathlib.Core.Bool.{Bool, true, false}
use mathlib.Core.List.{List, [], ◌∷◌, ◌++◌, map}
use native.Mathlib.Omega.{arith}
use lib.Dec.{eqb}
use lib.ListN.{length, get_or}
use Rattle.lit.specs.Code.{var, literal}
use Rattle.circuit.specs.declared.Refusal.{Refusal}
use Rattle.circuit.specs.declared.Refusal.TheVariants.{TooBig, Misshapen, Short, Over, Reset, Again, StateAgain, Undefined, Cycle}
use Rattle.circuit.specs.Graph.{In, Gate, Graph, out_var, defined, DefinedOnce, gate_for, Step, to_first, to_second, Reach, here, via, Loop, Uses, itself}
use Rattle.circuit.specs.Map.{no_image, image_in}
use Rattle.circuit.specs.Walk.{Net, Work, Out, reached, stopped, Look, mapped, refused, enter, is_middle, look_at, look, and_then, through_inputs, answer, no_room, walk, walk_all, settle}
use Rattle.circuit.proofs.Tests.{Same, same, other, same_test}
use Rattle.circuit.proofs.Map.{Looked, gone, found, looked}
use Rattle.circuit.proofs.Lists.{In-cases, In-getD, In-unmap}
use Rattle.circuit.proofs.Graph.{GateFound, no_gate, a_gate, gate_found, Plus, Plus-step, Uses-first, Uses-second}
use Rattle.circuit.proofs.Invariant.{Grown, Settled, settle_ok}
use Rattle.circuit.specs.Invariant.{Sized, Inv, entry}

-- the path leads to the literal c: each literal on it reaches c in one step or more
abbrev pub Leads : Graph → List ℕ → ℕ → Type 0
Leads G path c = (p : ℕ) → In p path → Plus G (var p) (var c)

-- why the walk of c refuses: 7 names a literal that is used and not defined, 8 one that is used and reaches itself. 1 says that there is no room, and is
-- shown never to be said in proofs/InRoom.antt; the walk gives no other
abbrev pub Cause : Graph → ℕ → Refusal → Type 0
Cause G c TooBig = Unit {0}
Cause G c Misshapen = ⊥
Cause G c Short = ⊥
Cause G c (Over l) = ⊥
Cause G c (Reset l) = ⊥
Cause G c (Again l) = ⊥
Cause G c (StateAgain l) = ⊥
Cause G c (Undefined l) = Uses G c l.0 × (In (var l.0) (defined G) → ⊥)
Cause G c (Cycle l) = Uses G c l.0 × Loop G (var l.0)

-- what uses all that c uses has the same cause
Cause-from : {G : Graph} {a c : ℕ} → ((l : ℕ) → Uses G a l → Uses G c l) → (r : Refusal) → Cause G a r → Cause G c r
Cause-from f TooBig k = k
Cause-from f Misshapen k = k
Cause-from f Short k = k
Cause-from f (Over l) k = k
Cause-from f (Reset l) k = k
Cause-from f (Again l) k = k
Cause-from f (StateAgain l) k = k
Cause-from f (Undefined l) k = (f l.0 k.0, k.1)
Cause-from f (Cycle l) k = (f l.0 k.0, k.1)

-- the middle of the path, with what it says
data Mid (path : List ℕ) (c : ℕ) : Bool → Type 0 where
  mid : In c path → Mid path c true
  not_mid : (0 < length path → get_or path (length path / 2) 0 ≢ c) → Mid path c false

middle_test : (path : List ℕ) (c : ℕ) → Mid path c (is_middle path c)
middle_test [] c = not_mid (λ h. absurd (omega arith))
middle_test (p ∷ ps) c = go (eqb (get_or (p ∷ ps) (length (p ∷ ps) / 2) 0) c) (same_test (get_or (p ∷ ps) (length (p ∷ ps) / 2) 0) c)
  where
    go : (b : Bool) → Same (get_or (p ∷ ps) (length (p ∷ ps) / 2) 0) c b → Mid (p ∷ ps) c b
    go true (same e) = mid (subst (λ (x : ℕ). In x (p ∷ ps)) e (In-getD (p ∷ ps) (length (p ∷ ps) / 2) 0 (omega arith)))
    go false (other n) = not_mid (λ h. n)

-- a look at a literal, with what it says
pub data Looking (N : Net) (path : List ℕ) (w : Work) (c : ℕ) : Look → Type 0 where
  has_image : entry w.images (var c) ≢ no_image → Looking N path w c mapped
  on_path : In c path → Looking N path w c (refused (Cycle (literal c)))
  is_undefined : entry w.images (var c) ≡ no_image → ((g : Gate) → In g N.graph.gates → out_var g ≡ var c → ⊥)
      → Looking N path w c (refused (Undefined (literal c)))
  at_gate : (g : Gate) → entry w.images (var c) ≡ no_image → In g N.graph.gates → out_var g ≡ var c
      → (0 < length path → get_or path (length path / 2) 0 ≢ c) → Looking N path w c (enter g)

pub looking : (N : Net) (path : List ℕ) (w : Work) (c : ℕ) → Looking N path w c (look N path w c)
unfolding look
looking N path w c =
    go (image_in w.images c) (looked w.images c) (is_middle path c) (middle_test path c) (gate_for N.graph.gates (var c))
    (gate_found N.graph.gates (var c))
  where
    go : (i : Option Lit) → Looked (entry w.images (var c)) c i → (b : Bool) → Mid path c b → (o : Option Gate) → GateFound N.graph.gates (var c) o
        → Looking N path w c (look_at c i b o)
    go (Some t) (found n) b m o f = has_image n
    go None (gone e) true (mid h) o f = on_path h
    go None (gone e) false (not_mid q) o (no_gate n) = is_undefined e n
    go None (gone e) false (not_mid q) o (a_gate g h k) = at_gate g e h k q

Grown-refl : {G : Graph} {u : ℕ} (w : Work) → Grown G w w u
Grown-refl w = record { keeps = λ v n. refl; news = λ v e n. absurd (n e) }

Grown-from : {G : Graph} {u v : ℕ} {w w' : Work} → Step G u v → Grown G w w' v → Grown G w w' u
Grown-from s r = record { keeps = r.keeps; news = λ v e n. via s (r.news v e n) }

Grown-join : {G : Graph} {u : ℕ} {w w₁ w₂ : Work} → Grown G w w₁ u → Grown G w₁ w₂ u → Grown G w w₂ u
Grown-join {G} {u} {w} {w₁} {w₂} r s = record { keeps = keeps; news = news }
  where
    keeps : (v : ℕ) → entry w.images v ≢ no_image → entry w₂.images v ≡ entry w.images v
    keeps v n = s.keeps v (λ e. n (sym (r.keeps v n) ∙ e)) ∙ r.keeps v n

    news : (v : ℕ) → entry w.images v ≡ no_image → entry w₂.images v ≢ no_image → Reach G u v
    news v e n = go (eqb (entry w₁.images v) no_image) (same_test (entry w₁.images v) no_image)
      where
        go : (b : Bool) → Same (entry w₁.images v) no_image b → Reach G u v
        go true (same e₁) = s.news v e₁ n
        go false (other n₁) = r.news v e n₁

-- a gate gets no image while its own inputs are walked
still_open : (N : Net) (top : ℕ) (w w' : Work) (u v : ℕ) → Inv N top w' → Grown N.graph w w' v → Step N.graph u v → entry w.images u ≡ no_image
    → entry w'.images u ≡ no_image
still_open N top w w' u v i r s e = go (eqb (entry w'.images u) no_image) (same_test (entry w'.images u) no_image)
  where
    go : (b : Bool) → Same (entry w'.images u) no_image b → entry w'.images u ≡ no_image
    go true (same k) = k
    go false (other n) = absurd ((i.grounded u n).no_loop u (here refl) (record { next = v; step = s; back = r.news u e n }))

-- the walk of c ended in work that is in order and has its image; or it stopped, and has its cause
abbrev pub Walked : (N : Net) (top : ℕ) (w : Work) (c : ℕ) → Work → Type 0
Walked N top w c w' = Inv N top w' × Grown N.graph w w' (var c) × (entry w'.images (var c) ≢ no_image)

abbrev pub Post : (N : Net) (top : ℕ) (path : List ℕ) (w : Work) (c : ℕ) → Out → Type 0
Post N top path w c (reached w') = Walked N top w c w'
Post N top path w c (stopped r) = Leads N.graph path c → Cause N.graph c r

-- all the literals have their images; or it stopped, and one of them has the cause
abbrev pub AllPost : (N : Net) (top : ℕ) (cs : List ℕ) (w : Work) → Out → Type 0
AllPost N top cs w (reached w') =
    Inv N top w' × ((v : ℕ) → entry w.images v ≢ no_image → entry w'.images v ≡ entry w.images v)
    × ((c : ℕ) → In c cs → entry w'.images (var c) ≢ no_image)
    × ((v : ℕ) → entry w.images v ≡ no_image → entry w'.images v ≢ no_image → (c : ℕ) × In c cs × Reach N.graph (var c) v)
AllPost N top cs w (stopped r) = (c : ℕ) × In c cs × Cause N.graph c r

module _ (N : Net) (top : ℕ) (once : DefinedOnce N.graph) (sized : Sized N top) where
  abbrev G : Graph
  G = N.graph

  -- no gate, no image: not defined
  undefined : (w : Work) → Inv N top w → (v : ℕ) → entry w.images v ≡ no_image → ((g : Gate) → In g G.gates → out_var g ≡ v → ⊥) → In v (defined G) → ⊥
  undefined w i v e n (inl h) = i.leaves v (inl h) e
  undefined w i v e n (inr h) = go (In-cases v (map var G.sources) (map out_var G.gates) h)
    where
      go : In v (map var G.sources) ⊎ In v (map out_var G.gates) → ⊥
      go (inl k) = i.leaves v (inr k) e
      go (inr k) = let r = In-unmap out_var v G.gates k in n r.0 r.1 r.2

  answer_ok : (path : List ℕ) (w : Work) (c : ℕ) (go : Gate → Out) → Inv N top w
      → ((g : Gate) → entry w.images (var c) ≡ no_image → In g G.gates → out_var g ≡ var c → Post N top path w c (go g))
      → (l : Look) → Looking N path w c l → Post N top path w c (answer l w go)
  answer_ok path w c go i f l (has_image n) = (i, Grown-refl w, n)
  answer_ok path w c go i f l (on_path h) = λ leads. let p = leads c h in (itself refl, record { next = p.next; step = p.step; back = p.rest })
  answer_ok path w c go i f l (is_undefined e n) = λ leads. (itself refl, undefined w i (var c) e n)
  answer_ok path w c go i f l (at_gate g e h k q) = f g e h k

  module _ (path : List ℕ) (c : ℕ) (rec : Work → ℕ → Out) (rec-ok : (w : Work) (a : ℕ) → Inv N top w → Post N top (path ++ (c ∷ [])) w a (rec w a))
      (g : Gate) (is_gate : In g G.gates) (names : out_var g ≡ var c) where
    to_first_lem : Step G (var c) (var g.first)
    to_first_lem = to_first g is_gate names refl

    to_second_lem : Step G (var c) (var g.second)
    to_second_lem = to_second g is_gate names refl

    leads_more : (a : ℕ) → Step G (var c) (var a) → Leads G path c → Leads G (path ++ (c ∷ [])) a
    leads_more a s leads p k = go (In-cases p path (c ∷ []) k)
      where
        go : In p path ⊎ In p (c ∷ []) → Plus G (var p) (var a)
        go (inl h) = Plus-step (leads p h) s
        go (inr (inl h)) = record { next = var a; step = subst⁻¹ (λ (v : ℕ). Step G (var v) (var a)) h s; rest = here refl }
        go (inr (inr h)) = absurd h

    second_ok : (w w₁ : Work) → Grown G w w₁ (var c) → entry w₁.images (var c) ≡ no_image → entry w₁.images (var g.first) ≢ no_image
        → (o : Out) → Post N top (path ++ (c ∷ [])) w₁ g.second o → Post N top path w c (and_then o (λ w₂. reached (settle N w₂ g)))
    second_ok w w₁ r e n (stopped k) p = λ leads. Cause-from (λ l u. Uses-second c g is_gate names u) k (p (leads_more g.second to_second_lem leads))
    second_ok w w₁ r e n (reached w₂) p =
        let o : entry w₂.images (out_var g) ≡ no_image
        = subst⁻¹ (λ (v : ℕ). entry w₂.images v ≡ no_image) names (still_open N top w₁ w₂ (var c) (var g.second) p.0 p.1 to_second_lem e) in
        let n₂ : entry w₂.images (var g.first) ≢ no_image = λ q. n (sym (p.1.keeps (var g.first) n) ∙ q) in
        let s : Settled N top once sized w₂ p.0 g is_gate o (settle N w₂ g) = settle_ok N top once sized w₂ p.0 g is_gate o n₂ p.2 in (
          s.0,
          Grown-join r (Grown-join (Grown-from to_second_lem p.1) (subst (λ (v : ℕ). Grown G w₂ (settle N w₂ g) v) names s.1)),
          subst (λ (v : ℕ). entry (settle N w₂ g).images v ≢ no_image) names s.2,
        )

    first_ok : (w : Work) → entry w.images (var c) ≡ no_image → (o : Out) → Post N top (path ++ (c ∷ [])) w g.first o
        → Post N top path w c (and_then o (λ w₁. and_then (rec w₁ g.second) (λ w₂. reached (settle N w₂ g))))
    first_ok w e (stopped k) p = λ leads. Cause-from (λ l u. Uses-first c g is_gate names u) k (p (leads_more g.first to_first_lem leads))
    first_ok w e (reached w₁) p =
        second_ok w w₁ (Grown-from to_first_lem p.1) (still_open N top w w₁ (var c) (var g.first) p.0 p.1 to_first_lem e) p.2
        (rec w₁ g.second) (rec-ok w₁ g.second p.0)

    through_ok : (w : Work) → Inv N top w → entry w.images (var c) ≡ no_image → Post N top path w c (through_inputs N rec g w)
    unfolding through_inputs
    through_ok w i e = first_ok w e (rec w g.first) (rec-ok w g.first i)

  pub walk_ok : (room : ℕ) (path : List ℕ) (w : Work) (c : ℕ) → Inv N top w → Post N top path w c (walk N room path w c)
  unfolding walk
  walk_ok zero path w c i =
      answer_ok path w c (λ g. no_room) i (λ g o h k leads. tt) (look N path w c) (looking N path w c)
  walk_ok (suc room) path w c i =
      answer_ok path w c (λ g. through_inputs N (λ w' c'. walk N room (path ++ (c ∷ [])) w' c') g w) i
      (λ g o h k.
      through_ok path c (λ w' c'. walk N room (path ++ (c ∷ [])) w' c') (λ w' a i'. walk_ok room (path ++ (c ∷ [])) w' a i') g h k w i o)
      (look N path w c) (looking N path w c)

  rest_ok : (c : ℕ) (cs : List ℕ) (w w₁ : Work) → Walked N top w c w₁ → (o : Out) → AllPost N top cs w₁ o → AllPost N top (c ∷ cs) w o
  rest_ok c cs w w₁ p (stopped r) q = (q.0, inr q.1, q.2)
  rest_ok c cs w w₁ p (reached w₂) q =
      (q.0, λ v n. q.1 v (λ e. n (sym (p.1.keeps v n) ∙ e)) ∙ p.1.keeps v n, images, news)
    where
      news : (v : ℕ) → entry w.images v ≡ no_image → entry w₂.images v ≢ no_image → (d : ℕ) × In d (c ∷ cs) × Reach G (var d) v
      news v e n = go (eqb (entry w₁.images v) no_image) (same_test (entry w₁.images v) no_image)
        where
          go : (b : Bool) → Same (entry w₁.images v) no_image b → (d : ℕ) × In d (c ∷ cs) × Reach G (var d) v
          go true (same e₁) = let r = q.3 v e₁ n in (r.0, inr r.1, r.2)
          go false (other n₁) = (c, inl refl, p.1.news v e n₁)

      images : (c' : ℕ) → In c' (c ∷ cs) → entry w₂.images (var c') ≢ no_image
      images c' (inl e) = subst⁻¹ (λ (x : ℕ). entry w₂.images (var x) ≢ no_image) e (λ k. p.2 (sym (q.1 (var c) p.2) ∙ k))
      images c' (inr h) = q.2 c' h

  one_ok : (room c : ℕ) (cs : List ℕ) (w : Work) → ((w₁ : Work) → Inv N top w₁ → AllPost N top cs w₁ (walk_all N room cs w₁)) → (o : Out) → Post N top [] w c o
      → AllPost N top (c ∷ cs) w (and_then o (λ w₁. walk_all N room cs w₁))
  one_ok room c cs w rec (stopped r) p = (c, inl refl, p (λ x h. absurd h))
  one_ok room c cs w rec (reached w₁) p = rest_ok c cs w w₁ p (walk_all N room cs w₁) (rec w₁ p.0)

  pub walk_all_ok : (room : ℕ) (cs : List ℕ) (w : Work) → Inv N top w → AllPost N top cs w (walk_all N room cs w)
  unfolding walk_all
  walk_all_ok room [] w i = (i, λ v n. refl, λ c h. absurd h, λ v e n. absurd (n e))
  walk_all_ok room (c ∷ cs) w i = one_ok room c cs w (λ w₁ i₁. walk_all_ok room cs w₁ i₁) (walk N room [] w c) (walk_ok room [] w c i)
