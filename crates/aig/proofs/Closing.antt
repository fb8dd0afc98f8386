-- The walk's second input: both images are there, and settling the gate is the machine's step. Assumes nothing.
use Rattle.std.specs.Prelude.{Option, Some, None}
use Prim.Native.Nat.{ℕ, ◌+◌, ◌*◌, ◌<◌, min, max}
use mathlib.Core.Path.{◌≡◌, sym, ◌∙◌, ap, ap₂, subst}
use mathlib.Core.Logic.{◌≢◌}
use mathlib.Core.Bool.{true}
use mathlib.Core.List.{List, ◌∷◌}
use native.Mathlib.Omega.{arith}
use lib.ListN.{length}
use Rattle.lit.specs.Code.{var, literal}
use Rattle.lit.specs.declared.Lit.{Lit}
use Rattle.circuit.specs.declared.Refusal.TheVariants.{Undefined}
use Rattle.circuit.specs.Graph.{Gate, gate_for}
use Rattle.circuit.specs.Map.{no_image, image_in, code_of}
use Rattle.circuit.specs.Walk.{Net, Work, Out, source_count, first_code, next_code, already, settle_as, settle_on, settle, or_else, folded_if, made_if}
use Rattle.circuit.specs.Machine.{Machine, goes, step}
use Rattle.circuit.specs.Outcome.{gates_of}
use Rattle.circuit.proofs.Map.{code_image}
use Rattle.circuit.proofs.Graph.{gate_for_of}
use Rattle.circuit.proofs.Invariant.{flipped_below}
use Rattle.circuit.proofs.Machine.{gate_fits}
use Rattle.circuit.specs.Invariant.{FrameOk, entry, code_in}
use Rattle.circuit.specs.Claims.{gate_at}
use Rattle.aig.specs.declared.shape.Shape.{Shape}
use Rattle.fold.specs.declared.Pair.{Pair}
use Rattle.aig.specs.declared.trie.Search.{Search}
use Rattle.aig.specs.declared.walk.Walk.{Walk}
use Rattle.aig.specs.declared.walk.State.TheVariants.{Second, Return, Stopped}
use Rattle.aig.specs.Table as table
use Rattle.fold.specs.Fold.{larger_first}
use Rattle.aig.specs.Already.{already_in, Says}
use Rattle.aig.specs.Settle.{Left, numbers, settled, Settled, CanSettle}
use Rattle.aig.specs.Going.{net_of, top_of, Ground, On, Going}
use Rattle.aig.specs.Turns.{to_go, Onward}
use Rattle.aig.proofs.Stepping.{returning, frame, step_no_gate, step_second, stepped_less}
use Rattle.aig.proofs.Weighing.{weigh_return, weigh_second}
use Rattle.aig.proofs.Standing.{gate_count_lem, table_none, table_gate, number_reads, frame_inside}
use Rattle.aig.proofs.Holding.{Settles, settles}
use Rattle.aig.proofs.Transferring.{halted, on}

-- an image that is there is read
no_absent : (m : List ℕ) (c : ℕ) → entry m (var c) ≢ no_image → image_in m c ≡ None → ⊥
no_absent m c n e = let q = code_image m c n in let z : ◌≡◌ {A = ℕ} 0 1 = cc in omega arith

module _ {s : Shape} {sources gates : List ℕ} {o : Out} {n : Walk} {l : Lit} {map out scratch : List ℕ}
    (k : Going s sources gates o (Second n l) map out scratch) where
  abbrev N : Net
  N = net_of s sources gates

  abbrev g : Ground s sources gates
  g = k.ground

  abbrev t : On s sources gates o (Second n l) map out scratch
  t = k.goes

  abbrev here : Machine
  here = returning (frame l.0 true ∷ t.frames) t.work

  abbrev more : ℕ
  more = to_go s gates (Second n l) map scratch

  pub second_within : var l.0 < s.vars
  second_within = frame_inside g t.running

  pub second_none : table.gate_at scratch (var l.0) ≡ None → Onward s sources gates o (Stopped (Undefined l)) map out scratch more
  unfolding to_go
  second_none e =
      record {
        going =
            record {
              ground = g;
              goes =
                  halted g here t.holds t.running t.comes (Undefined l)
                  (step_no_gate N t.frames l.0 t.work true (table_none g t.holds (var l.0) second_within e));
            };
        less = omega arith;
      }

  -- there is room for one gate more
  pub second_made : n.made < s.gates
  second_made =
      omega (
        arith,
        t.holds.count,
        gate_count_lem g,
        gate_fits N (top_of s) g.once g.sized (frame l.0 true) t.frames t.work t.running.inv t.running.short t.running.stack.0
            t.running.stack.1.0 t.running.stack.1.1 t.running.stack.2,
      )

  module _ {j : ℕ} (e : table.gate_at scratch (var l.0) ≡ Some j) where
    abbrev G : Gate
    G = gate_at gates j

    pub second_reads : 3 * j + 2 < length gates
    second_reads = number_reads g t.holds (var l.0) second_within j e

    its_gate : gate_for (gates_of gates) (var l.0) ≡ Some G
    its_gate = table_gate g t.holds (var l.0) second_within j e

    fr : FrameOk N t.work (frame l.0 true) t.running.stack.0
    fr = t.running.stack.1.0

    same_gate : fr.g ≡ G
    same_gate = let q : Some fr.g ≡ Some G = sym (gate_for_of N.graph g.once fr.g (var l.0) fr.is_gate fr.names) ∙ its_gate in cc

    first_mapped : entry t.work.images (var G.first) ≢ no_image
    first_mapped = subst (λ (x : Gate). entry t.work.images (var x.first) ≢ no_image) same_gate fr.input.1

    second_mapped : entry t.work.images (var G.second) ≢ no_image
    second_mapped =
        subst (λ (x : Gate). entry t.work.images (var x.second) ≢ no_image) same_gate
        (subst (λ (c : ℕ). entry t.work.images (var c) ≢ no_image) fr.input.0 t.running.stack.2)

    -- a call's answer a is one of the gate's inputs
    in_work : {a : Lit} {c : ℕ} {i : Option Lit} → a ≡ literal c → i ≡ image_in map a.0 → image_in t.work.images c ≡ i
    in_work {a} {c} {i} p q = ap₂ (λ (m : List ℕ) (x : Lit). image_in m x.0) (sym t.holds.images) (sym p) ∙ sym q

    pub first_is_there : {a : Lit} {i : Option Lit} → a ≡ literal G.first → i ≡ image_in map a.0 → i ≡ None → ⊥
    first_is_there p q z = no_absent t.work.images G.first first_mapped (in_work p q ∙ z)

    pub second_is_there : {b : Lit} {i : Option Lit} → b ≡ literal G.second → i ≡ image_in map b.0 → i ≡ None → ⊥
    second_is_there p q z = no_absent t.work.images G.second second_mapped (in_work p q ∙ z)

    module _ {x y : Lit} (p : image_in t.work.images G.first ≡ Some x) (q : image_in t.work.images G.second ≡ Some y) where
      -- an image's code is one that has been given out
      code_low : (c : ℕ) (z : Lit) → entry t.work.images (var c) ≢ no_image → image_in t.work.images c ≡ Some z → z.0 < 2 * s.vars
      unfolding code_of next_code first_code
      code_low c z m h =
          let same : code_in t.work.images c ≡ z.0 = ap code_of (sym (code_image t.work.images c m) ∙ h) in
          omega (
            arith,
            same,
            flipped_below (entry t.work.images (var c)) c (source_count N) t.work.made (t.running.inv.low (var c) m),
            g.counted,
            t.holds.count,
            second_made,
            t.holds.gates_made.room.few,
          )

      larger_low : (larger_first x y).larger.0 < 2 * s.vars
      unfolding larger_first
      larger_low = omega (arith, code_low G.first x first_mapped p, code_low G.second y second_mapped q)

      smaller_low : (larger_first x y).smaller.0 < 2 * s.vars
      unfolding larger_first
      smaller_low = omega (arith, code_low G.first x first_mapped p)

      -- settling on the lists is settling the gate
      abbrev found : Option ℕ
      found = already_in s t.work.made (larger_first x y)

      same_found : already N t.work.made (larger_first x y).larger.0 (larger_first x y).smaller.0 ≡ found
      unfolding already
      same_found =
          ap (λ (i : ℕ). or_else (folded_if s.fold (larger_first x y).larger.0 (larger_first x y).smaller.0)
          (made_if s.hash t.work.made (first_code i) (larger_first x y).larger.0 (larger_first x y).smaller.0)) (sym g.counted)

      same_settle : settle N t.work G ≡ settle_as N t.work G.output (larger_first x y).larger.0 (larger_first x y).smaller.0 found
      unfolding settle settle_on code_of larger_first
      same_settle =
          ap₂ (λ (a b : ℕ). settle_on N t.work G.output a b) (ap code_of p) (ap code_of q)
          ∙ ap (settle_as N t.work G.output (max x.0 y.0) (min x.0 y.0)) same_found

      settled_so : (a : Search) → Says s t.work.made (larger_first x y) scratch found a
          → Settles s gates n.depth t.frames (settle N t.work G) (settled s n (literal G.output) (larger_first x y) map out scratch a)
      settled_so a f =
          subst (λ (w : Work). Settles s gates n.depth t.frames w (settled s n (literal G.output) (larger_first x y) map out scratch a))
          (sym same_settle)
          (settles N g.counted n t.holds t.stacked (literal G.output) (larger_first x y) second_made larger_low smaller_low found a f)

      settling : step N here ≡ goes (returning t.frames (settle N t.work G))
      settling = step_second N t.frames l.0 t.work G its_gate

      onward : (r : Left) → Settles s gates n.depth t.frames (settle N t.work G) r
          → Onward s sources gates o r.state r.map r.out r.scratch more
      onward r z =
          let n' : Walk = numbers n.depth z.made' in
          rw z.returns
          (record {
            going = record { ground = g; goes = on g (Second n l) (Return n') t t.frames (settle N t.work G) settling z.holds z.stacked tt };
            less =
                omega (
                  arith,
                  weigh_second sources n t.holds t.stacked l t.running.short,
                  weigh_return sources n' z.holds z.stacked,
                  stepped_less g.once g.sized settling t.running,
                );
          })

    -- a and b are the inputs that calls have read, i and j' their images
    module _ {a b : Lit} {i j' : Option Lit} (u : a ≡ literal G.first) (v : b ≡ literal G.second) (p : i ≡ image_in map a.0) (q : j' ≡ image_in map b.0)
        {x y : Lit} (p' : i ≡ Some x) (q' : j' ≡ Some y) {pair : Pair} (is : pair ≡ larger_first x y) where
      pub can_settle : CanSettle s n pair out scratch
      can_settle =
          rw is
          (record {
            seek =
                record {
                  made = t.work.made;
                  made_in = t.holds.gates_made;
                  larger = larger_low (in_work u p ∙ p') (in_work v q ∙ q');
                  smaller = smaller_low (in_work u p ∙ p') (in_work v q ∙ q');
                };
            fits = second_made;
          })

      pub second_settled : {d : Lit} (r : Left) → d ≡ literal G.output → Settled s n d pair t.work.made map out scratch r
          → Onward s sources gates o r.state r.map r.out r.scratch more
      second_settled r w z =
          let says : Says s t.work.made (larger_first x y) scratch (already_in s t.work.made (larger_first x y)) z.search
          = subst (λ (c : Pair). Says s t.work.made c scratch (already_in s t.work.made c) z.search) is z.says in
          let leaves : r ≡ settled s n (literal G.output) (larger_first x y) map out scratch z.search
          = z.leaves ∙ ap₂ (λ (i : Lit) (c : Pair). settled s n i c map out scratch z.search) w is in
          onward (in_work u p ∙ p') (in_work v q ∙ q') r
          (subst (Settles s gates n.depth t.frames (settle N t.work G)) (sym leaves)
          (settled_so (in_work u p ∙ p') (in_work v q ∙ q') z.search says))
