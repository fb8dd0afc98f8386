-- The walks of a circuit that has passed the checks: the lists stand for the start of the walks, and what the walks say at their end is what the
-- definitions say of the circuit. Assumes nothing.
use Rattle.std.specs.Prelude.{Result, Ok, Err}
use Rattle.circuit.specs.declared.Refusal.{Refusal}
use Prim.Native.Nat.{ℕ, zero, suc, ◌+◌, ◌*◌, ◌-◌, ◌/◌, ◌<◌, ◌≤◌}
use mathlib.Core.Path.{◌≡◌, refl, sym, ap, ◌∙◌, subst, subst⁻¹}
use mathlib.Core.Logic.{◌⊎◌, inl, inr}
use mathlib.Core.Bool.{Bool, true, false, cond}
use mathlib.Core.List.{List, [], ◌++◌, append-nil}
use native.Mathlib.Omega.{arith}
use lib.ListN.{length, get_or, take, drop, length-append, length-take, get_or-eq_default}
use lib.Seq.{get_or-drop}
use Rattle.circuit.specs.Graph.{In}
use Rattle.circuit.specs.Walk.{Work, Out, stack_room, walk_all}
use Rattle.circuit.specs.Circuit.{Circuit, net, gate_outputs, start, walked}
use Rattle.circuit.specs.Outcome.{Lent, circuit_of, map_words, pair_words, zeros}
use Rattle.circuit.specs.Resets.{with_resets}
use Rattle.circuit.proofs.Lists.{In-cases, In-getD}
use Rattle.circuit.proofs.Start.{start_inv}
use Rattle.circuit.proofs.Words.{gates_length}
use Rattle.circuit.proofs.Tests.{lt_or}
use Rattle.circuit.proofs.Renumber.{Limits, sized, counting}
use Rattle.circuit.specs.Invariant.{Sized, Inv}
use Rattle.aig.specs.declared.shape.Shape.{Shape}
use Rattle.aig.specs.Table.{Tabled}
use Rattle.aig.specs.Layout.{links_size, links_of, Room}
use Rattle.aig.specs.Trie.{Trie}
use Rattle.aig.specs.Going.{Ground, Holds}
use Rattle.aig.specs.Walks.{Waiting, Waits, CanWalk, Walks, turns}
use Rattle.aig.specs.Walked.{WalkReady, WalkEnds}
use Rattle.aig.proofs.Parts.{part_at}
use Rattle.aig.proofs.Branching.{trie_none}
use Rattle.aig.proofs.Bounds.{word_low, output_low, next_low, root_low}

module _ {l : Lent} {map out scratch : List ℕ} (k : WalkReady l map out scratch) (v : ℕ) (is_words : v ≡ (circuit_of l).top + 1) where
  abbrev C : Circuit
  C = circuit_of l

  abbrev shape : Shape
  shape = record { vars = v; gates = length l.gates / 3; sources = length l.inputs + length l.states; hash = C.hash; fold = C.fold }

  abbrev sources : List ℕ
  sources = l.inputs ++ l.states

  -- the circuit with the resets that passed
  abbrev whole : Circuit
  whole = circuit_of (with_resets l k.resets)

  limits : Limits whole
  limits =
      record {
        few = omega (arith, length-append l.inputs l.states, k.within);
        latches = k.agrees.latches;
        resets = k.agrees.resets;
      }

  is_top : v - 1 ≡ C.top
  is_top = omega arith

  abbrev first : Work
  first = start C.top sources

  fits : Sized (net C) C.top
  fits = sized whole limits k.bounds

  ground : Ground shape sources l.gates
  ground =
      record {
        some = omega arith;
        counted = sym (length-append l.inputs l.states);
        long = omega (arith, k.agrees.words);
        inside = λ i h. omega (arith, word_low k.bounds k.agrees (get_or l.gates i 0) (In-getD l.gates i 0 h));
        once = k.once;
        sized = subst⁻¹ (Sized (net C)) is_top fits;
      }

  zero_at : (n i : ℕ) → get_or (zeros n) i 0 ≡ 0
  zero_at zero i = refl
  zero_at (suc n) zero = refl
  zero_at (suc n) (suc i) = zero_at n i

  -- past the table all words are 0
  clean_at : (i : ℕ) → get_or scratch (v + i) 0 ≡ 0
  clean_at i =
      ap (λ (n : ℕ). get_or scratch (n + i) 0) is_words ∙ sym (get_or-drop (map_words C) scratch i 0) ∙ ap (λ (s : List ℕ). get_or s i 0) k.clean
      ∙ zero_at (2 * map_words C + 3 * length C.gates) i

  room : Room shape scratch
  room =
      record {
        vars = omega (arith, k.within);
        gates = omega (arith, k.within, gates_length l.gates);
        few = omega (arith, counting whole limits k.bounds k.once, length-append l.inputs l.states, gates_length l.gates);
        long = omega (arith, k.room, gates_length l.gates);
      }

  free_at : (p : ℕ) → get_or (links_of shape scratch) p 0 ≡ 0
  free_at p = go (lt_or p (links_size shape))
    where
      go : (p < links_size shape) ⊎ (links_size shape ≤ p) → get_or (links_of shape scratch) p 0 ≡ 0
      go (inl h) = part_at v (links_size shape) scratch p h ∙ clean_at p
      go (inr h) = get_or-eq_default (links_of shape scratch) 0 {n = p} (omega (arith, length-take (links_size shape) (drop v scratch)))

  trie : Trie v [] (links_of shape scratch)
  trie = trie_none v (links_of shape scratch) free_at

  holds : Holds shape l.gates 0 first map out scratch
  unfolding start
  holds =
      record {
        images = k.mapped;
        count = refl;
        gates_made =
            record {
              room = room;
              fits = omega arith;
              words = k.outs ∙ ap (λ (n : ℕ). zeros (2 * n)) all_left;
              trie = λ on. trie;
            };
        table = subst⁻¹ (λ (n : ℕ). Tabled C.gates (take n scratch)) is_words k.table;
      }
    where
      all_left : length C.gates ≡ length l.gates / 3 - 0
      all_left = omega (arith, gates_length l.gates)

  abbrev last : Out
  last = walk_all (net C) (stack_room (net C)) (walked C) first

  in_order : turns C.trim l.gates l.nexts l.roots ≡ walked C
  unfolding walked
  in_order = refl

  waiting : Waiting shape sources l.gates last 0 (turns C.trim l.gates l.nexts l.roots ++ []) map out scratch
  waiting =
      record {
        ground = ground;
        work = first;
        holds = holds;
        inv = subst⁻¹ (λ (t : ℕ). Inv (net C) t first) is_top (start_inv (net C) C.top k.once fits);
        comes = ap (λ (cs : List ℕ). walk_all (net C) (stack_room (net C)) cs first) (append-nil _ ∙ in_order);
      }

  outputs_low : (trim : Bool) (c : ℕ) → In c (cond trim [] (gate_outputs C)) → c ≤ 2 * C.top + 1
  outputs_low true c h = absurd h
  outputs_low false c h = output_low k.bounds k.agrees c h

  turn_low : (c : ℕ) → In c (turns C.trim l.gates l.nexts l.roots) → c ≤ 2 * C.top + 1
  turn_low c h = go (In-cases c (cond C.trim [] (gate_outputs C)) (l.nexts ++ l.roots) h)
    where
      ends : In c l.nexts ⊎ In c l.roots → c ≤ 2 * C.top + 1
      ends (inl p) = next_low k.bounds k.agrees c p
      ends (inr p) = root_low k.bounds k.agrees c p

      go : In c (cond C.trim [] (gate_outputs C)) ⊎ In c (l.nexts ++ l.roots) → c ≤ 2 * C.top + 1
      go (inl p) = outputs_low C.trim c p
      go (inr p) = ends (In-cases c l.nexts l.roots p)

  -- the walks can begin
  pub can_walk : CanWalk shape l.gates 0 (turns C.trim l.gates l.nexts l.roots) map out scratch
  can_walk =
      record {
        inside =
            λ i h. omega (
              arith,
              turn_low (get_or (turns C.trim l.gates l.nexts l.roots) i 0)
                  (In-getD (turns C.trim l.gates l.nexts l.roots) i 0 h),
            );
        sources = sources;
        o = last;
        rest = [];
        waiting = waiting;
      }

  -- and end as the definitions say
  pub walks_end : (r : Result ℕ Refusal) (m g s : List ℕ) → Walks shape l.gates 0 (turns C.trim l.gates l.nexts l.roots) map out scratch r m g s
      → WalkEnds C last r m g
  unfolding walk_all
  walks_end r m g s f = go r (f sources last [] waiting)
    where
      go : (r : Result ℕ Refusal) → Waits shape sources l.gates last [] r m g s → WalkEnds C last r m g
      go (Ok made) w =
          subst (λ (o : Out). WalkEnds C o (Ok made) m g) w.comes (
            ap Ok w.holds.count,
            w.holds.images,
            w.holds.gates_made.words
                ∙ ap (λ (n : ℕ). pair_words w.work.made ++ zeros (2 * (n - length w.work.made))) (sym (gates_length l.gates)),
          )
      go (Err why) w = subst (λ (o : Out). WalkEnds C o (Err why) m g) w.comes refl
