-- The steps of a literal about to be walked and of a first input that has its image keep what the walk comes to: one law for each return. Assumes
-- nothing.
use Rattle.std.specs.Prelude.{Option, Some, None}
use Rattle.std.specs.Option.{is_some}
use Prim.Native.Nat.{ℕ, ◌+◌, ◌*◌, ◌<◌}
use mathlib.Core.Path.{◌≡◌, refl, sym, ◌∙◌, ap}
use mathlib.Core.Bool.{true, false}
use mathlib.Core.List.{List, ◌∷◌}
use native.Mathlib.Omega.{arith}
use lib.ListN.{set}
use Rattle.lit.specs.Code.{var, literal}
use Rattle.lit.specs.declared.Lit.{Lit}
use Rattle.circuit.specs.declared.Refusal.{Refusal}
use Rattle.circuit.specs.declared.Refusal.TheVariants.{Undefined, Cycle}
use Rattle.circuit.specs.Graph.{gate_for}
use Rattle.circuit.specs.Map.{image_in}
use Rattle.circuit.specs.Walk.{Work, Out, stopped, is_middle}
use Rattle.circuit.specs.Machine.{Frame, path_of, Machine, goes, ends, step}
use Rattle.circuit.specs.Outcome.{gates_of}
use Rattle.circuit.specs.Invariant.{Running, comes_to}
use Rattle.circuit.specs.Claims.{gate_at}
use Rattle.circuit.proofs.Machine.{enter_room}
use Rattle.aig.specs.declared.shape.Shape.{Shape}
use Rattle.aig.specs.declared.stack.Frame.TheVariants as entry
use Rattle.aig.specs.declared.walk.Walk.{Walk}
use Rattle.aig.specs.declared.walk.State.{State}
use Rattle.aig.specs.declared.walk.State.TheVariants.{Transfer, First, Return, Stopped}
use Rattle.aig.specs.Table as table
use Rattle.aig.specs.Layout.{stack_at, stack_of}
use Rattle.aig.specs.Stack.{word_of, middle_is}
use Rattle.aig.specs.Settle.{numbers}
use Rattle.aig.specs.Going.{net_of, top_of, Ground, Holds, Stacked, machine_of, Inside, numbers_of, On, Halted, Going}
use Rattle.aig.specs.Turns.{to_go, Onward}
use Rattle.aig.proofs.Stepping.{walking, returning, frame, step_mapped, step_cycle, step_undefined, looks_enter, step_enter, step_no_gate, step_first, ended, stepped_runs, stepped_less, stepped_comes}
use Rattle.aig.proofs.Weighing.{weigh_transfer, weigh_return, weigh_first}
use Rattle.aig.proofs.Standing.{room_is, table_none, table_gate, first_inside, second_inside, lists_long, middle-is, stack_pushed, holds_pushed, frame_inside}

module _ {s : Shape} {sources gates : List ℕ} {o : Out} (g : Ground s sources gates) where
  -- a step to a refusal
  pub halted : {made : ℕ} {map out scratch : List ℕ} (m : Machine) → Holds s gates made m.work map out scratch → Running (net_of s sources gates) (top_of s) m
      → comes_to (net_of s sources gates) m ≡ o → (why : Refusal) → step (net_of s sources gates) m ≡ ends (stopped why) → Halted s o (stopped why) map out scratch
  halted m h r c why st = record { long = lists_long g h r.inv; comes = ended (net_of s sources gates) m r.in_room o (stopped why) st c }

  -- a step onward
  pub on : (state state' : State) {map out scratch map' out' scratch' : List ℕ} (k : On s sources gates o state map out scratch) (fs' : List Frame) (w' : Work)
      → step (net_of s sources gates) (machine_of state k.frames k.work) ≡ goes (machine_of state' fs' w')
      → Holds s gates (numbers_of state').made w' map' out' scratch' → Stacked s (numbers_of state').depth fs' scratch' → Inside s state'
      → On s sources gates o state' map' out' scratch'
  on state state' k fs' w' e h st i =
      record {
        frames = fs';
        work = w';
        holds = h;
        stacked = st;
        inside = i;
        running = stepped_runs g.once g.sized e k.running;
        comes = stepped_comes g.once g.sized e k.running k.comes;
      }

module _ {s : Shape} {sources gates : List ℕ} {o : Out} {n : Walk} {l : Lit} {map out scratch : List ℕ}
    (k : Going s sources gates o (Transfer n l) map out scratch) where
  abbrev g : Ground s sources gates
  g = k.ground

  abbrev t : On s sources gates o (Transfer n l) map out scratch
  t = k.goes

  abbrev here : Machine
  here = walking t.frames l.0 t.work

  abbrev After : State → List ℕ → Type 0
  After state ws = Onward s sources gates o state map out ws (to_go s gates (Transfer n l) map scratch)

  image_same : image_in map l.0 ≡ image_in t.work.images l.0
  image_same = ap (λ (m : List ℕ). image_in m l.0) t.holds.images

  middle_same : middle_is (stack_of s scratch) n.depth l.0 ≡ is_middle (path_of t.frames) l.0
  middle_same = middle-is t.stacked l.0

  stop : (why : Refusal) → step (net_of s sources gates) here ≡ ends (stopped why) → After (Stopped why) scratch
  unfolding to_go
  stop why st = record { going = record { ground = g; goes = halted g here t.holds t.running t.comes why st }; less = omega arith }

  mapped : (x : Lit) → image_in map l.0 ≡ Some x → After (Return n) scratch
  mapped x e =
      let st : step (net_of s sources gates) here ≡ goes (returning t.frames t.work)
      = step_mapped (net_of s sources gates) t.frames l.0 t.work x (sym image_same ∙ e) in
      record {
        going = record { ground = g; goes = on g (Transfer n l) (Return n) t t.frames t.work st t.holds t.stacked tt };
        less =
            omega (
              arith,
              weigh_transfer sources n t.holds t.stacked l,
              weigh_return sources n t.holds t.stacked,
              stepped_less g.once g.sized st t.running,
            );
      }

  pub transfer_mapped : is_some (image_in map l.0) ≡ true → After (Return n) scratch
  transfer_mapped = go (image_in map l.0) refl
    where
      go : (i : Option Lit) → image_in map l.0 ≡ i → is_some i ≡ true → After (Return n) scratch
      go (Some x) e p = mapped x e
      go None e p = absurd (let z : ◌≡◌ {A = ℕ} 0 1 = cc in omega arith)

  module _ (unmapped : is_some (image_in map l.0) ≡ false) where
    gone : image_in map l.0 ≡ None
    gone = go (image_in map l.0) unmapped
      where
        go : (i : Option Lit) → is_some i ≡ false → i ≡ None
        go (Some x) p = absurd (let z : ◌≡◌ {A = ℕ} 0 1 = cc in omega arith)
        go None p = refl

    pub transfer_cycle : middle_is (stack_of s scratch) n.depth l.0 ≡ true → After (Stopped (Cycle l)) scratch
    transfer_cycle e = stop (Cycle l) (step_cycle (net_of s sources gates) t.frames l.0 t.work (sym image_same ∙ gone) (sym middle_same ∙ e))

    module _ (off : middle_is (stack_of s scratch) n.depth l.0 ≡ false) where
      pub transfer_undefined : table.gate_at scratch (var l.0) ≡ None → After (Stopped (Undefined l)) scratch
      transfer_undefined e =
          stop (Undefined l)
          (step_undefined (net_of s sources gates) t.frames l.0 t.work (sym image_same ∙ gone) (sym middle_same ∙ off)
          (table_none g t.holds (var l.0) t.inside e))

      module _ {j : ℕ} (e : table.gate_at scratch (var l.0) ≡ Some j) where
        its_gate : gate_for (gates_of gates) (var l.0) ≡ Some (gate_at gates j)
        its_gate = table_gate g t.holds (var l.0) t.inside j e

        -- there is room for one entry more
        pub transfer_room : n.depth < 2 * s.gates
        transfer_room =
            let looks = looks_enter (net_of s sources gates) t.frames l.0 t.work (sym image_same ∙ gone) (sym middle_same ∙ off) (gate_at gates j) its_gate in
            omega (
              arith,
              room_is g,
              t.stacked.count,
              enter_room (net_of s sources gates) t.frames t.work l.0 (gate_at gates j) looks t.running.in_room,
            )

        abbrev ws : List ℕ
        ws = set scratch (stack_at s + n.depth) (word_of (entry.First l))

        entering : step (net_of s sources gates) here ≡ goes (walking (frame l.0 false ∷ t.frames) (gate_at gates j).first t.work)
        entering =
            step_enter (net_of s sources gates) t.frames l.0 t.work (sym image_same ∙ gone) (sym middle_same ∙ off) (gate_at gates j) its_gate

        entered : Stacked s (n.depth + 1) (frame l.0 false ∷ t.frames) ws
        entered = stack_pushed t.stacked (frame l.0 false) t.holds.gates_made.room transfer_room

        pub transfer_enter : After (Transfer (numbers (n.depth + 1) n.made) (literal (gate_at gates j).first)) ws
        transfer_enter =
            let n' : Walk = numbers (n.depth + 1) n.made in
            let h : Holds s gates n.made t.work map out ws = holds_pushed t.holds n.depth (word_of (entry.First l)) in
            record {
              going =
                  record {
                    ground = g;
                    goes =
                        on g (Transfer n l) (Transfer n' (literal (gate_at gates j).first)) t (frame l.0 false ∷ t.frames) t.work entering h entered
                        (first_inside g t.holds (var l.0) t.inside j e);
                  };
              less =
                  omega (
                    arith,
                    weigh_transfer sources n t.holds t.stacked l,
                    weigh_transfer sources n' h entered (literal (gate_at gates j).first),
                    stepped_less g.once g.sized entering t.running,
                  );
            }

module _ {s : Shape} {sources gates : List ℕ} {o : Out} {n : Walk} {l : Lit} {map out scratch : List ℕ}
    (k : Going s sources gates o (First n l) map out scratch) where
  abbrev t₁ : On s sources gates o (First n l) map out scratch
  t₁ = k.goes

  abbrev there : Machine
  there = returning (frame l.0 false ∷ t₁.frames) t₁.work

  abbrev AfterFirst : State → List ℕ → Type 0
  AfterFirst state ws = Onward s sources gates o state map out ws (to_go s gates (First n l) map scratch)

  pub first_within : var l.0 < s.vars
  first_within = frame_inside k.ground t₁.running

  pub first-none : table.gate_at scratch (var l.0) ≡ None → AfterFirst (Stopped (Undefined l)) scratch
  unfolding to_go
  first-none e =
      record {
        going =
            record {
              ground = k.ground;
              goes =
                  halted k.ground there t₁.holds t₁.running t₁.comes (Undefined l)
                  (step_no_gate (net_of s sources gates) t₁.frames l.0 t₁.work false (table_none k.ground t₁.holds (var l.0) first_within e));
            };
        less = omega arith;
      }

  module _ {j : ℕ} (e : table.gate_at scratch (var l.0) ≡ Some j) where
    abbrev ws₁ : List ℕ
    ws₁ = set scratch (stack_at s + n.depth) (word_of (entry.Second l))

    turning : step (net_of s sources gates) there ≡ goes (walking (frame l.0 true ∷ t₁.frames) (gate_at gates j).second t₁.work)
    turning =
        step_first (net_of s sources gates) t₁.frames l.0 t₁.work (gate_at gates j) (table_gate k.ground t₁.holds (var l.0) first_within j e)

    turned : Stacked s (n.depth + 1) (frame l.0 true ∷ t₁.frames) ws₁
    turned =
        stack_pushed t₁.stacked (frame l.0 true) t₁.holds.gates_made.room (omega (arith, room_is k.ground, t₁.stacked.count, t₁.running.short))

    pub first_on : AfterFirst (Transfer (numbers (n.depth + 1) n.made) (literal (gate_at gates j).second)) ws₁
    first_on =
        let n' : Walk = numbers (n.depth + 1) n.made in
        let h : Holds s gates n.made t₁.work map out ws₁ = holds_pushed t₁.holds n.depth (word_of (entry.Second l)) in
        record {
          going =
              record {
                ground = k.ground;
                goes =
                    on k.ground (First n l) (Transfer n' (literal (gate_at gates j).second)) t₁ (frame l.0 true ∷ t₁.frames) t₁.work turning h turned
                    (second_inside k.ground t₁.holds (var l.0) first_within j e);
              };
          less =
              omega (
                arith,
                weigh_first sources n t₁.holds t₁.stacked l t₁.running.short,
                weigh_transfer sources n' h turned (literal (gate_at gates j).second),
                stepped_less k.ground.once k.ground.sized turning t₁.running,
              );
        }

-- the same, where the numbers and the literal are what calls have answered
pub as_transfer : {s : Shape} {sources gates : List ℕ} {o : Out} {n n' : Walk} {l l' : Lit} {map out scratch scratch' : List ℕ} {more : ℕ} → n' ≡ n → l' ≡ l
    → scratch' ≡ scratch → Onward s sources gates o (Transfer n l) map out scratch more → Onward s sources gates o (Transfer n' l') map out scratch' more
as_transfer e f h r = rw (e, f, h) r
