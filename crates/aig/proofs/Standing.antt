-- What a walk that goes on says of the lists: their lengths, bounds of what is read, and that it goes on after a step. Assumes nothing.
use Rattle.std.specs.Prelude.{Some, None}
use Prim.Native.Nat.{ℕ, ◌+◌, ◌*◌, ◌-◌, ◌/◌, ◌<◌}
use mathlib.Core.Path.{◌≡◌, refl, sym, ◌∙◌, ap, subst}
use mathlib.Core.Bool.{Bool, true, false, cond}
use mathlib.Core.List.{List, [], ◌∷◌, ◌++◌}
use native.Mathlib.Omega.{arith}
use lib.Dec.{eqb, ltb}
use lib.ListN.{length, get_or, set, take, length-set}
use lib.Seq.{get_or-take, get_or_at, take_at, take-take, take-suc-set, take-set-le, length-take-le}
use native.Mathlib.Numerals.{add-one}
use Rattle.lit.specs.Code.{var}
use Rattle.circuit.specs.Graph.{gate_for}
use Rattle.circuit.specs.Walk.{Work, is_middle, stack_room}
use Rattle.circuit.specs.Machine.{Frame, path_of, frame_word, stack_words}
use Rattle.circuit.specs.Outcome.{gates_of}
use Rattle.circuit.proofs.Words.{gates_length, stack_length, middle_words, path_length}
use Rattle.aig.specs.declared.shape.Shape.{Shape}
use Rattle.aig.specs.Table as table
use Rattle.aig.specs.Layout.{links_at, links_size, stack_at, stack_size, table_of, links_of, stack_of, Room}
use Rattle.aig.specs.Stack.{middle_is}
use Rattle.aig.specs.Trie.{Trie}
use Rattle.aig.specs.Going.{net_of, top_of, Ground, Holds, Stacked, Long}
use Rattle.defs.specs.Define.{no_gate}
use Rattle.defs.proofs.Definitions.{gates_at_lem}
use Rattle.circuit.proofs.Tests.{Same, same, other, same_test}
use Rattle.circuit.specs.Invariant.{Inv, Running}
use Rattle.circuit.specs.Claims.{gate_at}
use Rattle.aig.proofs.Stepping.{returning}
use Rattle.aig.proofs.Parts.{part-set, part-after, part_length}
use Rattle.aig.proofs.Finding.{out_length}

module _ {s : Shape} {sources gates : List ℕ} (g : Ground s sources gates) where
  pub gate_count_lem : length (gates_of gates) ≡ s.gates
  gate_count_lem = omega (arith, gates_length gates, g.long)

  pub top_next : top_of s + 1 ≡ s.vars
  top_next = omega (arith, g.some)

  pub room_is : stack_room (net_of s sources gates) ≡ 2 * s.gates
  room_is = omega (arith, gate_count_lem)

  module _ {made : ℕ} {w : Work} {map out scratch : List ℕ} (h : Holds s gates made w map out scratch) where
    -- what the table says of a variable
    module _ (v : ℕ) (i : v < s.vars) where
      told : table.Tells (gates_of gates) v (table.gate_at scratch v)
      unfolding table.gate_at
      told =
          subst (λ (x : ℕ). table.Tells (gates_of gates) v (cond (ltb x 2) None (Some (x - 2)))) (get_or-take s.vars scratch v 0 i)
          (h.table v (omega (arith, length-take-le s.vars scratch (omega (arith, h.gates_made.room.long)))))

      pub table_none : table.gate_at scratch v ≡ None → gate_for (gates_of gates) v ≡ None
      table_none e = subst (table.Tells (gates_of gates) v) e told

      module _ (j : ℕ) (e : table.gate_at scratch v ≡ Some j) where
        at_number : (j < length (gates_of gates)) × (gate_for (gates_of gates) v ≡ Some (get_or (gates_of gates) j no_gate))
        at_number = subst (table.Tells (gates_of gates) v) e told

        pub number_reads : 3 * j + 2 < length gates
        number_reads = omega (arith, gate_count_lem, at_number.0, g.long)

        pub table_gate : gate_for (gates_of gates) v ≡ Some (gate_at gates j)
        table_gate = at_number.1 ∙ ap Some (gates_at_lem gates j (omega (arith, number_reads)))

        pub first_inside : var (gate_at gates j).first < s.vars
        first_inside = g.inside (3 * j + 1) (omega (arith, number_reads))

        pub second_inside : var (gate_at gates j).second < s.vars
        second_inside = g.inside (3 * j + 2) (omega (arith, number_reads))

    pub lists_long : Inv (net_of s sources gates) (top_of s) w → Long s map out scratch
    lists_long i =
        record {
          of_map = ap length h.images ∙ i.size ∙ top_next;
          of_out = out_length s w.made out scratch h.gates_made;
          of_scratch = h.gates_made.room.long;
        }

  -- the frames are those of literals of the circuit
  pub frame_inside : {f : Frame} {fs : List Frame} {w : Work} → Running (net_of s sources gates) (top_of s) (returning (f ∷ fs) w) → var f.lit < s.vars
  frame_inside r = let k = r.stack.1.0 in omega (arith, g.sized.outputs k.g k.is_gate, k.names, top_next)

-- the stack
nothing_middle : (p : List ℕ) (c : ℕ) → length p ≡ 0 → false ≡ is_middle p c
nothing_middle [] c e = refl
nothing_middle (x ∷ xs) c e = absurd (omega arith)

module _ {s : Shape} {depth : ℕ} {fs : List Frame} {scratch : List ℕ} (st : Stacked s depth fs scratch) where
  pub middle-is : (c : ℕ) → middle_is (stack_of s scratch) depth c ≡ is_middle (path_of fs) c
  unfolding middle_is
  middle-is c = go (eqb depth 0) (same_test depth 0)
    where
      go : (b : Bool) → Same depth 0 b → cond b false (eqb (get_or (stack_of s scratch) (depth / 2) 0 / 2) c) ≡ is_middle (path_of fs) c
      go true (same e) = nothing_middle (path_of fs) c (omega (arith, path_length fs, st.count))
      go false (other n) =
          let half : depth / 2 < depth = omega arith in
          let word : get_or (stack_of s scratch) (depth / 2) 0 ≡ get_or (stack_words fs) (length fs / 2) 0
          = sym (get_or-take depth (stack_of s scratch) (depth / 2) 0 half)
          ∙ ap (λ (l : List ℕ). get_or l (depth / 2) 0) st.words ∙ ap (λ (d : ℕ). get_or (stack_words fs) (d / 2) 0) st.count in
          ap (λ (x : ℕ). eqb (x / 2) c) word ∙ sym (middle_words fs c (omega (arith, st.count)))

  -- with a frame on top
  pub stack_pushed : (f : Frame) → Room s scratch → depth < 2 * s.gates → Stacked s (depth + 1) (f ∷ fs) (set scratch (stack_at s + depth) (frame_word f))
  stack_pushed f r h =
      record {
        count = omega (arith, st.count);
        words =
            ap (λ (l : List ℕ). take (depth + 1) l) (part-set (stack_at s) (stack_size s) scratch depth (frame_word f) (omega arith))
            ∙ ap (λ (d : ℕ). take d (set (stack_of s scratch) depth (frame_word f))) (add-one depth)
            ∙ take-suc-set (stack_of s scratch) depth (frame_word f)
            (omega (arith, part_length (stack_at s) (stack_size s) scratch (omega (arith, r.long))))
            ∙ ap (λ (l : List ℕ). l ++ (frame_word f ∷ [])) st.words;
      }

-- the frame on top, and what is below it
module _ {s : Shape} {depth : ℕ} {f : Frame} {fs : List Frame} {scratch : List ℕ} (st : Stacked s depth (f ∷ fs) scratch) where
  pub top_word : get_or (stack_of s scratch) (depth - 1) 0 ≡ frame_word f
  top_word =
      sym (get_or-take depth (stack_of s scratch) (depth - 1) 0 (omega (arith, st.count))) ∙ ap (λ (l : List ℕ). get_or l (depth - 1) 0) st.words
      ∙ get_or_at (stack_words fs) (frame_word f) [] 0 (depth - 1) (omega (arith, stack_length fs, st.count))

  pub stack_popped : Stacked s (depth - 1) fs scratch
  stack_popped =
      record {
        count = omega (arith, st.count);
        words =
            sym (take-take (depth - 1) depth (stack_of s scratch) (omega arith)) ∙ ap (λ (l : List ℕ). take (depth - 1) l) st.words
            ∙ take_at (stack_words fs) (frame_word f ∷ []) (depth - 1) (omega (arith, stack_length fs, st.count));
      }

-- words other than those of the table and the trie may change
module _ {s : Shape} {gates : List ℕ} {made : ℕ} {w : Work} {map out scratch : List ℕ} (h : Holds s gates made w map out scratch) where
  scratch_other : (ws : List ℕ) → length ws ≡ length scratch → table_of s ws ≡ table_of s scratch → links_of s ws ≡ links_of s scratch
      → Holds s gates made w map out ws
  scratch_other ws long t ls =
      let m = h.gates_made in
      record {
        images = h.images;
        count = h.count;
        gates_made =
            record {
              room = record { vars = m.room.vars; gates = m.room.gates; few = m.room.few; long = long ∙ m.room.long };
              fits = m.fits;
              words = m.words;
              trie = λ on. subst (λ (l : List ℕ). Trie s.vars w.made l) (sym ls) (m.trie on);
            };
        table = subst (λ (l : List ℕ). table.Tabled (gates_of gates) l) (sym t) h.table;
      }

  pub holds_pushed : (i v : ℕ) → Holds s gates made w map out (set scratch (stack_at s + i) v)
  holds_pushed i v =
      scratch_other (set scratch (stack_at s + i) v) (length-set scratch (stack_at s + i) v) (take-set-le s.vars scratch (stack_at s + i) v (omega arith))
      (part-after (links_at s) (links_size s) scratch (stack_at s + i) v (omega arith))
