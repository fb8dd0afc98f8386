-- What one step of the machine is in each case, as the code finds it; and that a step leaves a machine that runs and comes to the same. Assumes nothing.
use Rattle.std.specs.Prelude.{Some, None}
use Prim.Native.Nat.{ℕ, ◌<◌}
use mathlib.Core.Path.{◌≡◌, refl, ◌∙◌, subst}
use mathlib.Core.Bool.{Bool, true, false}
use mathlib.Core.List.{List, [], ◌∷◌}
use Rattle.lit.specs.Code.{var, literal}
use Rattle.lit.specs.declared.Lit.{Lit}
use Rattle.circuit.specs.declared.Refusal.TheVariants.{Undefined, Cycle}
use Rattle.circuit.specs.Graph.{Gate, DefinedOnce, gate_for}
use Rattle.circuit.specs.Map.{image_in}
use Rattle.circuit.specs.Walk.{Net, Work, Out, reached, stopped, enter, is_middle, look, settle}
use Rattle.circuit.specs.Machine.{Frame, transfer, back, Machine, goes, ends, path_of, step_look, step_back, step_at, step}
use Rattle.circuit.proofs.Machine.{Follows, weight, Goes, step_follows, step_runs}
use Rattle.circuit.specs.Invariant.{Sized, Running, comes_to, InRoom}

-- about to walk c, with these frames and this work
abbrev pub walking : List Frame → ℕ → Work → Machine
walking fs c w = record { frames = fs; at = transfer c; work = w }

abbrev pub returning : List Frame → Work → Machine
returning fs w = record { frames = fs; at = back; work = w }

abbrev pub frame : ℕ → Bool → Frame
frame c b = record { lit = c; on_second = b }

module _ (N : Net) (fs : List Frame) (c : ℕ) (w : Work) where
  pub step_mapped : (t : Lit) → image_in w.images c ≡ Some t → step N (walking fs c w) ≡ goes (returning fs w)
  unfolding step step_at look step_look
  step_mapped t e = rw e

  module _ (gone : image_in w.images c ≡ None) where
    pub step_cycle : is_middle (path_of fs) c ≡ true → step N (walking fs c w) ≡ ends (stopped (Cycle (literal c)))
    unfolding step step_at look step_look
    step_cycle e = rw (gone, e)

    module _ (off : is_middle (path_of fs) c ≡ false) where
      pub step_undefined : gate_for N.graph.gates (var c) ≡ None → step N (walking fs c w) ≡ ends (stopped (Undefined (literal c)))
      unfolding step step_at look step_look
      step_undefined e = rw (gone, off, e)

      module _ (g : Gate) (is_gate : gate_for N.graph.gates (var c) ≡ Some g) where
        pub looks_enter : look N (path_of fs) w c ≡ enter g
        unfolding look
        looks_enter = rw (gone, off, is_gate)

        pub step_enter : step N (walking fs c w) ≡ goes (walking (frame c false ∷ fs) g.first w)
        unfolding step step_at look step_look
        step_enter = rw (gone, off, is_gate)

  pub step_no_gate : (b : Bool) → gate_for N.graph.gates (var c) ≡ None → step N (returning (frame c b ∷ fs) w) ≡ ends (stopped (Undefined (literal c)))
  unfolding step step_at step_back
  step_no_gate b e = rw e

  module _ (g : Gate) (is_gate : gate_for N.graph.gates (var c) ≡ Some g) where
    pub step_first : step N (returning (frame c false ∷ fs) w) ≡ goes (walking (frame c true ∷ fs) g.second w)
    unfolding step step_at step_back
    step_first = rw is_gate

    pub step_second : step N (returning (frame c true ∷ fs) w) ≡ goes (returning fs (settle N w g))
    unfolding step step_at step_back
    step_second = rw is_gate

pub step_reached : (N : Net) (w : Work) → step N (returning [] w) ≡ ends (reached w)
unfolding step step_at
step_reached N w = refl

-- a step to an end is what the machine comes to
pub ended : (N : Net) (m : Machine) → InRoom (comes_to N m) → (o out : Out) → step N m ≡ ends out → comes_to N m ≡ o → out ≡ o
ended N m r o out e c = subst (Follows N (comes_to N m)) e (step_follows N m r) ∙ c

-- a step onward
module _ {N : Net} {top : ℕ} (once : DefinedOnce N.graph) (sized : Sized N top) {m m' : Machine} (e : step N m ≡ goes m') (r : Running N top m) where
  pub stepped_runs : Running N top m'
  stepped_runs = (subst (Goes N top once sized m) e (step_runs N top once sized m r)).0

  pub stepped_less : weight N m' < weight N m
  stepped_less = (subst (Goes N top once sized m) e (step_runs N top once sized m r)).1

  pub stepped_comes : {o : Out} → comes_to N m ≡ o → comes_to N m' ≡ o
  stepped_comes c = subst (Follows N (comes_to N m)) e (step_follows N m r.in_room) ∙ c
