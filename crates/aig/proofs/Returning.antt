-- The return of a literal that has its image: with no frame left the walk is at its end, else the frame on top says which input has its image. That is no
-- step of the machine. Assumes nothing.
use Prim.Native.Nat.{ℕ, ◌+◌, ◌*◌, ◌-◌, ◌/◌, ◌%◌}
use mathlib.Core.Path.{◌≡◌, refl, sym, ◌∙◌, ap, subst}
use mathlib.Core.Logic.{◌≢◌}
use mathlib.Core.Bool.{Bool, true, false}
use mathlib.Core.List.{List, [], ◌∷◌}
use native.Mathlib.Omega.{arith}
use lib.ListN.{length, get_or}
use borrow.Author.Tests.{eq-eqb, ne_eqb}
use Rattle.lit.specs.declared.Lit.{Lit}
use Rattle.circuit.specs.Walk.{Out, reached}
use Rattle.circuit.specs.Machine.{Frame, Machine, frame_word}
use Rattle.circuit.proofs.Machine.{weight}
use Rattle.circuit.specs.Invariant.{Running, comes_to, InRoom}
use Rattle.aig.specs.declared.shape.Shape.{Shape}
use Rattle.aig.specs.declared.stack.Frame as entries
use Rattle.aig.specs.declared.stack.Frame.TheVariants as entry
use Rattle.aig.specs.declared.walk.Walk.{Walk}
use Rattle.aig.specs.declared.walk.State.{State}
use Rattle.aig.specs.declared.walk.State.TheVariants.{First, Second, Return, Reached}
use Rattle.aig.specs.Layout.{stack_of}
use Rattle.aig.specs.Stack.{frame_of, in_word}
use Rattle.aig.specs.Settle.{numbers}
use Rattle.aig.specs.Going.{net_of, top_of, Ground, Stacked, On, Going}
use Rattle.aig.specs.Turns.{to_go, Onward}
use Rattle.aig.proofs.Stepping.{returning, frame, step_reached, ended}
use Rattle.aig.proofs.Weighing.{weigh_return, weigh_first, weigh_second}
use Rattle.aig.proofs.Standing.{top_word, stack_popped}

-- a word's frame, read back
frame_back : (c : ℕ) (b : Bool) → frame_of (in_word (frame_word (frame c b))) ≡ frame c b
unfolding in_word
frame_back c true =
    let odd : (2 * c + 1) % 2 ≢ 0 = omega arith in
    let half : (2 * c + 1) / 2 ≡ c = omega arith in
    rw (ne_eqb ((2 * c + 1) % 2) 0 odd, half)
frame_back c false =
    let even : (2 * c + 0) % 2 ≡ 0 = omega arith in
    let half : (2 * c + 0) / 2 ≡ c = omega arith in
    rw (eq-eqb ((2 * c + 0) % 2) 0 even, half)

module _ {s : Shape} {sources gates : List ℕ} {o : Out} {n : Walk} {map out scratch : List ℕ} (k : Going s sources gates o (Return n) map out scratch) where
  abbrev g : Ground s sources gates
  g = k.ground

  abbrev t : On s sources gates o (Return n) map out scratch
  t = k.goes

  abbrev at : List Frame → Machine
  at fs = returning fs t.work

  abbrev After : State → Type 0
  After state = Onward s sources gates o state map out scratch (to_go s gates (Return n) map scratch)

  pub back_end : n.depth ≡ 0 → After (Reached n)
  unfolding to_go
  back_end e = go t.frames refl
    where
      go : (fs : List Frame) → t.frames ≡ fs → After (Reached n)
      go [] z =
          record {
            going =
                record {
                  ground = g;
                  goes =
                      record {
                        work = t.work;
                        holds = t.holds;
                        inv = t.running.inv;
                        comes =
                            ended (net_of s sources gates) (at []) (subst (λ (fs : List Frame). InRoom (comes_to (net_of s sources gates) (at fs))) z t.running.in_room) o (reached t.work) (step_reached (net_of s sources gates) t.work)
                            (ap (λ (fs : List Frame). comes_to (net_of s sources gates) (at fs)) (sym z) ∙ t.comes);
                      };
                };
            less = omega arith;
          }
      go (f ∷ fs) z = absurd (omega (arith, t.stacked.count, ap length z))

  -- the code reads the word below the numbers n'
  module _ (d : n.depth ≢ 0) {n' : Walk} (e : n' ≡ numbers (n.depth - 1) n.made) {x : entries.Frame}
      (f : x ≡ in_word (get_or (stack_of s scratch) n'.depth 0)) where
    popped : in_word (get_or (stack_of s scratch) (n.depth - 1) 0) ≡ x
    popped = ap (λ (w : Walk). in_word (get_or (stack_of s scratch) w.depth 0)) (sym e) ∙ sym f

    -- the frame on top is the one that its word says
    on_top : (fs : List Frame) × (t.frames ≡ frame_of x ∷ fs)
    on_top = go t.frames refl
      where
        go : (fs : List Frame) → t.frames ≡ fs → (rest : List Frame) × (t.frames ≡ frame_of x ∷ rest)
        go [] z = absurd (omega (arith, t.stacked.count, ap length z))
        go (y ∷ fs) z =
            let st : Stacked s n.depth (y ∷ fs) scratch = subst (λ (l : List Frame). Stacked s n.depth l scratch) z t.stacked in
            let top : y ≡ frame_of x
            = sym (frame_back y.lit y.on_second) ∙ ap (λ (w : ℕ). frame_of (in_word w)) (sym (top_word st)) ∙ ap frame_of popped in
            (fs, z ∙ ap (λ (r : Frame). r ∷ fs) top)

    module _ (y : Frame) (q : frame_of x ≡ y) where
      frames_are : t.frames ≡ y ∷ on_top.0
      frames_are = on_top.1 ∙ ap (λ (r : Frame). r ∷ on_top.0) q

      below : Stacked s (n.depth - 1) on_top.0 scratch
      below = stack_popped (subst (λ (l : List Frame). Stacked s n.depth l scratch) frames_are t.stacked)

      runs : Running (net_of s sources gates) (top_of s) (at (y ∷ on_top.0))
      runs = subst (λ (l : List Frame). Running (net_of s sources gates) (top_of s) (at l)) frames_are t.running

      comes_still : comes_to (net_of s sources gates) (at (y ∷ on_top.0)) ≡ o
      comes_still = ap (λ (l : List Frame). comes_to (net_of s sources gates) (at l)) (sym frames_are) ∙ t.comes

      weighs_still : weight (net_of s sources gates) (at t.frames) ≡ weight (net_of s sources gates) (at (y ∷ on_top.0))
      weighs_still = ap (λ (l : List Frame). weight (net_of s sources gates) (at l)) frames_are

    pub returns_first : {l : Lit} → x ≡ entry.First l → After (First n' l)
    returns_first {l} q =
        let y : Frame = frame l.0 false in
        let p : frame_of x ≡ y = ap frame_of q in
        rw e
        (record {
          going =
              record {
                ground = g;
                goes =
                    record {
                      frames = on_top.0;
                      work = t.work;
                      holds = t.holds;
                      stacked = below y p;
                      inside = tt;
                      running = runs y p;
                      comes = comes_still y p;
                    };
              };
          less =
              omega (
                arith,
                weigh_return sources n t.holds t.stacked,
                weighs_still y p,
                weigh_first sources (numbers (n.depth - 1) n.made) t.holds (below y p) l (runs y p).short,
              );
        })

    pub returns_second : {l : Lit} → x ≡ entry.Second l → After (Second n' l)
    returns_second {l} q =
        let y : Frame = frame l.0 true in
        let p : frame_of x ≡ y = ap frame_of q in
        rw e
        (record {
          going =
              record {
                ground = g;
                goes =
                    record {
                      frames = on_top.0;
                      work = t.work;
                      holds = t.holds;
                      stacked = below y p;
                      inside = tt;
                      running = runs y p;
                      comes = comes_still y p;
                    };
              };
          less =
              omega (
                arith,
                weigh_return sources n t.holds t.stacked,
                weighs_still y p,
                weigh_second sources (numbers (n.depth - 1) n.made) t.holds (below y p) l (runs y p).short,
              );
        })
