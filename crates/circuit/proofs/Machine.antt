-- The machine comes to what the walk comes to; each step brings it nearer to its end; and what stays true on the way: each frame's literal is a
-- gate's, has no image yet, and the next literal is one of that gate's inputs; and there is room for the frames. The last is not seen from the frames: a
-- machine with no room for the gate that it enters would come to the walk without room, and the walk never is (proofs/InRoom.antt). Assumes nothing.
use Rattle.std.specs.Prelude.{Option, Some, None}
use Rattle.lit.specs.declared.Lit.{Lit}
use Prim.Native.Nat.{ℕ, zero, suc, ◌+◌, ◌*◌, ◌-◌, ◌<◌, ◌≤◌}
use mathlib.Core.Path.{◌≡◌, refl, sym, ◌∙◌, ap, subst, subst⁻¹}
use mathlib.Core.Logic.{◌⊎◌, inl, inr, ◌≢◌}
use mathlib.Core.Bool.{Bool, true, false, cond}
use mathlib.Core.List.{List, [], ◌∷◌, ◌++◌}
use native.Mathlib.Omega.{arith}
use lib.Dec.{eqb}
use lib.ListN.{length}
use Rattle.lit.specs.Code.{var, literal}
use Rattle.circuit.specs.declared.Refusal.{Refusal}
use Rattle.circuit.specs.declared.Refusal.TheVariants.{TooBig, Undefined}
use Rattle.circuit.specs.Graph.{In, Gate, out_var, DefinedOnce, gate_for, Step, to_first, to_second, Reach, here, via, Grounded}
use Rattle.circuit.specs.Map.{no_image, image_in}
use Rattle.circuit.specs.Walk.{Net, Work, Out, stopped, Look, mapped, refused, enter, is_middle, look_at, look, answer, and_then, through_inputs, no_room, walk, stack_room, settle}
use Rattle.circuit.specs.Machine.{Frame, At, transfer, back, Machine, Next, goes, ends, path_of, step_look, step_back, step_at, step}
use Rattle.circuit.proofs.Tests.{lt_or, Same, same, other, same_test}
use Rattle.circuit.proofs.Graph.{GateFound, no_gate, a_gate, gate_found, one_gate, Reach-join}
use Rattle.circuit.proofs.Settled.{settled_le, settled_more, settled_room}
use Rattle.circuit.proofs.Invariant.{Grown, Settled, settle_ok}
use Rattle.circuit.proofs.Walk.{Looking, has_image, on_path, is_undefined, at_gate, looking}
use Rattle.circuit.proofs.InRoom.{walk_in_room}
use Rattle.circuit.specs.Invariant.{settled, Sized, Inv, rest_with, resume, comes_to_at, comes_to, InRoom, InputIs, FrameOk, Stack, AtOk, Running, entry}

abbrev pub Follows : Net → Out → Next → Type 0
Follows N o (goes m) = comes_to N m ≡ o
Follows N o (ends out) = out ≡ o

resume_stopped : (N : Net) (fs : List Frame) (r : Refusal) → stopped r ≡ resume N fs (stopped r)
unfolding resume
resume_stopped N [] r = refl
resume_stopped N (f ∷ fs) r = resume_stopped N fs r

inner : Net → ℕ → List ℕ → Work → ℕ → Gate → Out
inner N zero path w c g = no_room
inner N (suc room) path w c g = through_inputs N (λ w' c'. walk N room (path ++ (c ∷ [])) w' c') g w

walk_at : (N : Net) (room : ℕ) (path : List ℕ) (w : Work) (c : ℕ) (l : Look) → look N path w c ≡ l → answer l w (inner N room path w c) ≡ walk N room path w c
unfolding walk inner
walk_at N zero path w c l e = ap (λ (x : Look). answer x w (inner N zero path w c)) (sym e)
walk_at N (suc room) path w c l e = ap (λ (x : Look). answer x w (inner N (suc room) path w c)) (sym e)

-- the gate that a look finds is the one that the search finds
enters : (N : Net) (path : List ℕ) (w : Work) (c : ℕ) (g : Gate) → look N path w c ≡ enter g → gate_for N.graph.gates (var c) ≡ Some g
unfolding look
enters N path w c g e = go (image_in w.images c) (is_middle path c) (gate_for N.graph.gates (var c)) e
  where
    go : (i : Option Lit) (b : Bool) (o : Option Gate) → look_at c i b o ≡ enter g → o ≡ Some g
    go (Some t) b o k = cc
    go None true o k = cc
    go None false None k = cc
    go None false (Some g') k = cc

-- what enters a gate has room for it
pub enter_room : (N : Net) (fs : List Frame) (w : Work) (c : ℕ) (g : Gate) → look N (path_of fs) w c ≡ enter g → InRoom (comes_to_at N fs (transfer c) w)
    → length fs < stack_room N
unfolding inner
enter_room N fs w c g e r = go (lt_or (length fs) (stack_room N))
  where
    go : (length fs < stack_room N) ⊎ (stack_room N ≤ length fs) → length fs < stack_room N
    go (inl h) = h
    go (inr h) =
        let None : 0 ≡ stack_room N - length fs = omega arith in
        let full : no_room ≡ comes_to_at N fs (transfer c) w
        = resume_stopped N fs TooBig ∙ ap (resume N fs) (walk_at N 0 (path_of fs) w c (enter g) e)
        ∙ ap (λ (k : ℕ). resume N fs (walk N k (path_of fs) w c)) None in
        absurd (subst⁻¹ InRoom full r refl)

look_follows : (N : Net) (fs : List Frame) (w : Work) (c : ℕ) (l : Look) → look N (path_of fs) w c ≡ l → InRoom (comes_to_at N fs (transfer c) w)
    → Follows N (comes_to_at N fs (transfer c) w) (step_look N fs w c l)
unfolding step_look resume through_inputs inner
look_follows N fs w c mapped e r = ap (resume N fs) (walk_at N (stack_room N - length fs) (path_of fs) w c mapped e)
look_follows N fs w c (refused why) e r =
    resume_stopped N fs why ∙ ap (resume N fs) (walk_at N (stack_room N - length fs) (path_of fs) w c (refused why) e)
look_follows N fs w c (enter g) e r =
    let room : ℕ = stack_room N - suc (length fs) in
    let more : suc room ≡ stack_room N - length fs = omega (arith, enter_room N fs w c g e r) in
    ap (λ (o : Option Gate). resume N fs (and_then (walk N room (path_of fs ++ (c ∷ [])) w g.first)
    (λ w'. rest_with N room (path_of fs ++ (c ∷ [])) c w' false o)))
    (enters N (path_of fs) w c g e)
    ∙ ap (resume N fs) (walk_at N (suc room) (path_of fs) w c (enter g) e)
    ∙ ap (λ (k : ℕ). resume N fs (walk N k (path_of fs) w c)) more

back_follows : (N : Net) (c : ℕ) (fs : List Frame) (w : Work) (b : Bool) (o : Option Gate) → gate_for N.graph.gates (var c) ≡ o
    → Follows N (comes_to_at N (record { lit = c; on_second = b } ∷ fs) back w) (step_back N c fs w b o)
unfolding step_back resume
back_follows N c fs w b None e =
    resume_stopped N fs (Undefined (literal c))
    ∙ ap (λ (o : Option Gate). resume N fs (rest_with N (stack_room N - suc (length fs)) (path_of fs ++ (c ∷ [])) c w b o)) (sym e)
back_follows N c fs w false (Some g) e =
    let room : ℕ = stack_room N - suc (length fs) in
    let path : List ℕ = path_of fs ++ (c ∷ []) in
    ap (λ (o : Option Gate). resume N fs (and_then (walk N room path w g.second) (λ w'. rest_with N room path c w' true o))) e
    ∙ ap (λ (o : Option Gate). resume N fs (rest_with N room path c w false o)) (sym e)
back_follows N c fs w true (Some g) e =
    ap (λ (o : Option Gate). resume N fs (rest_with N (stack_room N - suc (length fs)) (path_of fs ++ (c ∷ [])) c w true o)) (sym e)

at_follows : (N : Net) (fs : List Frame) (a : At) (w : Work) → InRoom (comes_to_at N fs a w) → Follows N (comes_to_at N fs a w) (step_at N fs a w)
unfolding step_at resume
at_follows N fs (transfer c) w r = look_follows N fs w c (look N (path_of fs) w c) refl r
at_follows N [] back w r = refl
at_follows N (f ∷ fs) back w r = back_follows N f.lit fs w f.on_second (gate_for N.graph.gates (var f.lit)) refl

-- a step leaves what the whole comes to as it is
pub step_follows : (N : Net) (m : Machine) → InRoom (comes_to N m) → Follows N (comes_to N m) (step N m)
unfolding step
step_follows N m r = at_follows N m.frames m.at m.work r

-- a machine that is about to walk c with no frames comes to the walk of c
pub comes_to-start : (N : Net) (w : Work) (c : ℕ) → comes_to N (record { frames = []; at = transfer c; work = w }) ≡ walk N (stack_room N) [] w c
unfolding resume
comes_to-start N w c =
    let e : stack_room N - 0 ≡ stack_room N = omega arith in
    ap (λ (k : ℕ). walk N k [] w c) e

-- what falls with each step
abbrev pub firsts : List Frame → ℕ
firsts [] = 0
firsts (f ∷ fs) = cond f.on_second 0 2 + firsts fs

abbrev pub at_weight : At → ℕ
at_weight (transfer c) = 1
at_weight back = 0

unfoldable pub weight : Net → Machine → ℕ
weight N m =
    4 * (length N.graph.gates - settled m.work.images N.graph.gates) + 3 * (stack_room N - length m.frames) + firsts m.frames
    + at_weight m.at

-- the step that a frame's input is
input_step : (N : Net) (w : Work) (f : Frame) (c : ℕ) → FrameOk N w f c → Step N.graph (var f.lit) (var c)
input_step N w f c k = go f.on_second k.input
  where
    go : (b : Bool) → InputIs w b k.g c → Step N.graph (var f.lit) (var c)
    go false e = to_first k.g k.is_gate k.names (ap var (sym e))
    go true e = to_second k.g k.is_gate k.names (ap var (sym e.0))

-- when a fine variable below the frames gets its image, the frames stay open
stack_grown : (N : Net) (w w' : Work) (u : ℕ) → Grounded N.graph u → Grown N.graph w w' u → (fs : List Frame) (c : ℕ)
    → Reach N.graph (var c) u → Stack N w fs c → Stack N w' fs c
stack_grown N w w' u f r [] c p s = tt
stack_grown N w w' u f r (fr ∷ fs) c p s = (
  record { g = s.0.g; is_gate = s.0.is_gate; names = s.0.names; is_open = is_open; input = input fr.on_second s.0.input },
  stack_grown N w w' u f r fs fr.lit (via st p) s.1,
)
  where
    st : Step N.graph (var fr.lit) (var c)
    st = input_step N w fr c s.0

    is_open : entry w'.images (var fr.lit) ≡ no_image
    is_open = go (eqb (entry w'.images (var fr.lit)) no_image) (same_test (entry w'.images (var fr.lit)) no_image)
      where
        go : (b : Bool) → Same (entry w'.images (var fr.lit)) no_image b → entry w'.images (var fr.lit) ≡ no_image
        go true (same e) = e
        go false (other n) =
            let q : Reach N.graph u (var fr.lit) = r.news (var fr.lit) s.0.is_open n in
            absurd (f.no_loop (var fr.lit) q (record { next = var c; step = st; back = Reach-join p q }))

    input : (b : Bool) → InputIs w b s.0.g c → InputIs w' b s.0.g c
    input false e = e
    input true e = (e.0, λ k. e.1 (sym (r.keeps (var s.0.g.first) e.1) ∙ k))

gate_for_is : (N : Net) → DefinedOnce N.graph → (g : Gate) (v : ℕ) → In g N.graph.gates → out_var g ≡ v → (g' : Gate)
    → gate_for N.graph.gates v ≡ Some g' → g ≡ g'
gate_for_is N once g v h e g' k = go (gate_for N.graph.gates v) (gate_found N.graph.gates v) k
  where
    go : (o : Option Gate) → GateFound N.graph.gates v o → o ≡ Some g' → g ≡ g'
    go None (no_gate n) p = absurd (n g h e)
    go (Some g'') (a_gate x m q) p = one_gate N.graph once g g'' h m (e ∙ sym q) ∙ cc

module _ (N : Net) (top : ℕ) (once : DefinedOnce N.graph) (sized : Sized N top) where
  abbrev pub Goes : Machine → Next → Type 0
  Goes m (goes m') = Running N top m' × (weight N m' < weight N m)
  Goes m (ends o) = Unit {0}

  look_runs : (fs : List Frame) (w : Work) (c : ℕ) → Inv N top w → length fs ≤ stack_room N → InRoom (comes_to_at N fs (transfer c) w) → Stack N w fs c
      → (l : Look) → look N (path_of fs) w c ≡ l → Looking N (path_of fs) w c l
      → Goes (record { frames = fs; at = transfer c; work = w }) (step_look N fs w c l)
  unfolding step_look weight
  look_runs fs w c i h r s l e (has_image n) = (
    record { inv = i; short = h; in_room = subst⁻¹ InRoom (look_follows N fs w c mapped e r) r; stack = (c, s, n) },
    omega arith,
  )
  look_runs fs w c i h r s l e (on_path k) = tt
  look_runs fs w c i h r s l e (is_undefined o k) = tt
  look_runs fs w c i h r s l e (at_gate g o k q nm) =
      let room : length fs < stack_room N = enter_room N fs w c g e r in (
        record {
          inv = i;
          short = room;
          in_room = subst⁻¹ InRoom (look_follows N fs w c (enter g) e r) r;
          stack = (record { g = g; is_gate = k; names = q; is_open = o; input = refl }, s);
        },
        omega (arith, room),
      )

  module _ (f : Frame) (fs : List Frame) (w : Work) (i : Inv N top w) (h : length (f ∷ fs) ≤ stack_room N)
      (c : ℕ) (k : FrameOk N w f c) (s : Stack N w fs f.lit) (n : entry w.images (var c) ≢ no_image) where
    is_open' : entry w.images (out_var k.g) ≡ no_image
    is_open' = subst⁻¹ (λ (v : ℕ). entry w.images v ≡ no_image) k.names k.is_open

    -- there is room for one gate more
    pub gate_fits : length w.made < length N.graph.gates
    gate_fits = omega (arith, i.few, settled_room w.images N.graph.gates k.g k.is_gate is_open')

    back_runs : (b : Bool) → InRoom (comes_to_at N (record { lit = f.lit; on_second = b } ∷ fs) back w) → InputIs w b k.g c
        → (o : Option Gate) → gate_for N.graph.gates (var f.lit) ≡ o → ((g' : Gate) → o ≡ Some g' → k.g ≡ g')
        → Goes (record { frames = record { lit = f.lit; on_second = b } ∷ fs; at = back; work = w }) (step_back N f.lit fs w b o)
    unfolding step_back weight
    back_runs b r e None found u = tt
    back_runs false r e (Some g') found u =
        let q : k.g ≡ g' = u g' refl in (
          record {
            inv = i;
            short = h;
            in_room = subst⁻¹ InRoom (back_follows N f.lit fs w false (Some g') found) r;
            stack = (
              record {
                g = k.g;
                is_gate = k.is_gate;
                names = k.names;
                is_open = k.is_open;
                input = (ap (λ (x : Gate). x.second) (sym q), subst (λ (x : ℕ). entry w.images (var x) ≢ no_image) e n);
              },
              s,
            );
          },
          omega arith,
        )
    back_runs true r e (Some g') found u =
        let q : k.g ≡ g' = u g' refl in
        let st : Settled N top once sized w i k.g k.is_gate is_open' (settle N w k.g)
        = settle_ok N top once sized w i k.g k.is_gate is_open' e.1 (subst (λ (x : ℕ). entry w.images (var x) ≢ no_image) e.0 n) in
        let more : settled w.images N.graph.gates < settled (settle N w k.g).images N.graph.gates
        = settled_more w.images (settle N w k.g).images N.graph.gates (λ v m z. m (sym (st.1.keeps v m) ∙ z)) k.g k.is_gate is_open' st.2 in
        subst (λ (x : Gate). Goes (record { frames = record { lit = f.lit; on_second = true } ∷ fs; at = back; work = w })
        (goes (record { frames = fs; at = back; work = settle N w x }))) q (
          record {
            inv = st.0;
            short = omega arith;
            in_room =
                subst⁻¹ (λ (x : Gate). InRoom (comes_to_at N fs back (settle N w x))) q
                (subst⁻¹ InRoom (back_follows N f.lit fs w true (Some g') found) r);
            stack = (
              f.lit,
              stack_grown N w (settle N w k.g) (out_var k.g) (st.0.grounded (out_var k.g) st.2) st.1 fs f.lit (here (sym k.names)) s,
              subst (λ (v : ℕ). entry (settle N w k.g).images v ≢ no_image) k.names st.2,
            );
          },
          omega (arith, more, settled_le (settle N w k.g).images N.graph.gates),
        )

  at_runs : (fs : List Frame) (a : At) (w : Work) → Inv N top w → length fs ≤ stack_room N → InRoom (comes_to_at N fs a w) → AtOk N w fs a
      → Goes (record { frames = fs; at = a; work = w }) (step_at N fs a w)
  unfolding step_at
  at_runs fs (transfer c) w i h r s = look_runs fs w c i h r s (look N (path_of fs) w c) refl (looking N (path_of fs) w c)
  at_runs [] back w i h r s = tt
  at_runs (f ∷ fs) back w i h r s =
      back_runs f fs w i h s.0 s.1.0 s.1.1 s.2 f.on_second r s.1.0.input (gate_for N.graph.gates (var f.lit)) refl
      (λ g' e. gate_for_is N once s.1.0.g (var f.lit) s.1.0.is_gate s.1.0.names g' e)

  -- a step of a machine that runs leaves one that runs, nearer to its end
  pub step_runs : (m : Machine) → Running N top m → Goes m (step N m)
  unfolding step
  step_runs m r = at_runs m.frames m.at m.work r.inv r.short r.in_room r.stack

  -- a machine runs that is about to walk a literal, with no frames
  pub start_runs : (w : Work) → Inv N top w → (c : ℕ) → Running N top (record { frames = []; at = transfer c; work = w })
  start_runs w i c =
      record { inv = i; short = omega arith; in_room = subst⁻¹ InRoom (comes_to-start N w c) (walk_in_room N top once sized w i c); stack = tt }

-- step by step, the machine ends in o
pub data Ends (N : Net) (o : Out) : Machine → Type 0 where
  now : {m : Machine} → step N m ≡ ends o → Ends N o m
  later : {m m' : Machine} → step N m ≡ goes m' → Ends N o m' → Ends N o m

ends_within : (N : Net) (top : ℕ) (once : DefinedOnce N.graph) (sized : Sized N top) (n : ℕ) (m : Machine) → Running N top m → weight N m < n
    → Ends N (comes_to N m) m
ends_within N top once sized zero m r h = absurd (omega arith)
ends_within N top once sized (suc n) m r h =
    go (step N m) refl (step_follows N m r.in_room) (step_runs N top once sized m r) (λ m' r' h'. ends_within N top once sized n m' r' h')
  where
    go : (x : Next) → step N m ≡ x → Follows N (comes_to N m) x → Goes N top once sized m x
        → ((m' : Machine) → Running N top m' → weight N m' < n → Ends N (comes_to N m') m') → Ends N (comes_to N m) m
    go (goes m') e f g rec = later e (subst (λ (o : Out). Ends N o m') f (rec m' g.0 (omega (arith, g.1))))
    go (ends o) e f g rec = now (e ∙ ap ends f)

-- a machine that is about to walk c ends in what the walk of c comes to
pub walk_by_steps : (N : Net) (top : ℕ) (once : DefinedOnce N.graph) (sized : Sized N top) (w : Work) → Inv N top w → (c : ℕ)
    → Ends N (walk N (stack_room N) [] w c) (record { frames = []; at = transfer c; work = w })
walk_by_steps N top once sized w i c =
    let m : Machine = record { frames = []; at = transfer c; work = w } in
    subst (λ (o : Out). Ends N o m) (comes_to-start N w c)
    (ends_within N top once sized (suc (weight N m)) m (start_runs N top once sized w i c) (omega arith))
