-- The steps of the way, each by what the function that makes it promises: a part of a list is as long as it is said to be, a number that was widened is the same
-- number, and so what each step leaves is what the definition says. Assumes nothing.
use Prim.Native.Nat.{ℕ, ◌+◌, ◌*◌, ◌≤◌, ◌<◌}
use mathlib.Core.Path.{◌≡◌, refl, sym, ap, ◌∙◌, subst⁻¹}
use mathlib.Core.List.{List}
use native.Mathlib.Omega.{arith}
use lib.ListN.{length, take}
use lib.Seq.{length-take-le}
use Rattle.std.specs.Prelude.{Result, Ok, Err}
use borrow.Author.Tests.{lt-ltb, le-ltb}
use Rattle.circuit.specs.declared.CircuitRecord.{CircuitRecord}
use Rattle.circuit.specs.declared.Summary.{Summary}
use Rattle.circuit.specs.declared.Refusal.{Refusal}
use Rattle.circuit.specs.declared.Refusal.TheVariants as R
use Rattle.circuit.specs.Answer.{Answer}
use Rattle.circuit.specs.Ordered.{sources_of}
use Rattle.circuit.specs.Outcome as C
use Rattle.circuit.specs.Outcome.{Lent, lent_of, circuit_of, total}
use Rattle.circuit.specs.Demands.{Demands}
use Rattle.circuit.proofs.Demands.{demands}
use Rattle.circuit.proofs.Outcome.{onto-length}
use Rattle.lines.specs.declared.Broken.{Broken}
use Rattle.lines.specs.Reading.{Read, got, no}
use Rattle.lines.specs.Promise.{broken}
use Rattle.ordered.specs.Expand as E
use Rattle.ordered.specs.Expand.{Expansion, expanded, expansion}
use Rattle.ordered.proofs.Expansions.{success}
use Rattle.binary.specs.declared.FileRead.{FileRead}
use Rattle.binary.specs.declared.Unwritten.{Unwritten}
use Rattle.binary.specs.File.{File, read_file}
use Rattle.binary.specs.Promise as B
use Rattle.binary.specs.Promise.{room_of}
use Rattle.binary.specs.Way.{top_of}
use Rattle.binary.specs.Write.{Writing, wrote, writing}
use Rattle.binary.proofs.Theorems.{read_known}
use Rattle.intake.specs.declared.OrderFault.TheVariants as F
use Rattle.intake.specs.Order.{Images, Lists, Taken, taken_of, record_of, handed, unless_expanded, Renumbering, leaving, after_expanding, renumbering, handed_on, lists, images_in, Outcome, seen, stored, after_writing, after_answer, after_renumbering, onwards, after_answer_of, after_reading, ordering, Held, Coded, Filled}

-- the front of a list, so long
pub front : (n m : ℕ) (ws : List ℕ) → n ≡ m → m ≤ length ws → n ≡ length (take n ws)
front n m ws e h = sym (length-take-le n ws (omega arith))

-- writing: the numbers that were widened are those that were read
pub writes : (r : FileRead) (made l g j t : ℕ) (sizes : List ℕ) (m : Images) (out : List ℕ) (w : Writing) → l ≡ r.latches → g ≡ made → j ≡ r.sets
    → t ≡ total r.counts
    → w ≡ writing (record {
      inputs = r.inputs;
      counts = r.counts;
      nexts = take l m.next_images;
      resets = take l m.reset_images;
      gates = take (2 * g) m.gates_out;
      sizes = take j sizes;
      roots = take t m.root_images;
    }) out
    → w ≡ writing (handed_on r made sizes m) out
writes r made l g j t sizes m out w a b c d e = rw (← a, ← b, ← c, ← d) e

-- renumbering
pub numbers : (r : FileRead) (flags : ℕ) (c : Taken) (codes : E.Lists) (m : Images) (k : CircuitRecord) (i l g t : ℕ) (o : C.Outcome)
    → k ≡ record_of r flags → i ≡ r.inputs → l ≡ r.latches → g ≡ r.gates → t ≡ total r.counts
    → o ≡ C.outcome (lent_of k (take i codes.inputs) (take l codes.states) (take l c.nexts) (take l c.resets) (take (3 * g) codes.triples)
    (take t c.roots) m.map m.next_images m.reset_images m.root_images m.gates_out m.scratch)
    → o ≡ C.outcome (handed r flags c codes m)
numbers r flags c codes m k i l g t o a b d e f h = rw (← a, ← b, ← d, ← e, ← f) h

-- expanding, and renumbering after it
module _ (r : FileRead) (flags : ℕ) (gates : List ℕ) (c : Taken) (codes : E.Lists) (m : Images) (i l g : ℕ) (x : E.Outcome) (a : i ≡ r.inputs)
    (b : l ≡ r.latches) (d : g ≡ r.gates) (left : x ≡ expansion i l (take (2 * g) gates) codes) where
  its : x ≡ expansion r.inputs r.latches (take (2 * r.gates) gates) codes
  its = rw (← a, ← b, ← d) left

  -- the codes of a circuit that was expanded are there
  pub coded : x.answer ≡ expanded → 2 * r.gates ≤ length gates → Coded r x.lists
  coded e fit =
      let s = success r.inputs r.latches (take (2 * r.gates) gates) codes x its e in
      let n : length (take (2 * r.gates) gates) ≡ 2 * r.gates = length-take-le (2 * r.gates) gates fit in
      let kept = lengths in
      record {
        inputs = omega (arith, s.inputs_fit, kept.0);
        states = omega (arith, s.states_fit, kept.1);
        triples = omega (arith, s.triples_fit, kept.2, n);
      }
    where
      lengths : (length x.lists.inputs ≡ length codes.inputs) × (length x.lists.states ≡ length codes.states)
          × (length x.lists.triples ≡ length codes.triples)
      lengths =
          let h : x.lists ≡ E.filled r.inputs r.latches (take (2 * r.gates) gates) codes
          = (success r.inputs r.latches (take (2 * r.gates) gates) codes x its e).holds in (
            ap (λ (y : E.Lists). length y.inputs) h ∙ onto-length _ codes.inputs,
            ap (λ (y : E.Lists). length y.states) h ∙ onto-length _ codes.states,
            ap (λ (y : E.Lists). length y.triples) h ∙ onto-length _ codes.triples,
          )

  -- what expanding answered, and what renumbering left where it was asked
  pub comes_to_lem : (why : Expansion) (o : C.Outcome) → x.answer ≡ why → o ≡ unless_expanded why (handed r flags c x.lists m)
      → leaving x.lists o ≡ renumbering r flags gates c codes m
  unfolding renumbering
  comes_to_lem why o e h =
      ap (leaving x.lists) (h ∙ ap (λ (y : Expansion). unless_expanded y (handed r flags c x.lists m)) (sym e))
      ∙ ap (after_expanding r flags c m) its

-- only what was expanded is renumbered
renumbered_is : (y : Expansion) (given : Lent) (s : Summary) → (unless_expanded y given).answer ≡ Ok s
    → (y ≡ expanded) × (unless_expanded y given ≡ C.outcome given)
renumbered_is (Ok t) given s e = (refl, refl)
renumbered_is (Err why) given s e = absurd (let z : ◌≡◌ {A = ℕ} 0 1 = cc in omega arith)

-- after a success of renumbering its lists hold the fronts that writing is lent
module _ (r : FileRead) (flags : ℕ) (gates : List ℕ) (c : Taken) (codes : E.Lists) (m : Images) (held : Held r c) (fit : 2 * r.gates ≤ length gates)
    (s : Summary) where
  abbrev x : E.Outcome
  x = expansion r.inputs r.latches (take (2 * r.gates) gates) codes

  abbrev l : Lent
  l = handed r flags c x.lists m

  filled_by : (o : C.Outcome) → o ≡ unless_expanded x.answer l → o.answer ≡ Ok s → (sizes : List ℕ) → r.sets ≤ length sizes
      → Filled r s.made sizes o.next_images o.reset_images o.root_images o.gates_out
  filled_by o left e sizes sets =
      let done = renumbered_is x.answer l s (ap (λ (y : C.Outcome). y.answer) (sym left) ∙ e) in
      let is : o ≡ C.outcome l = left ∙ done.1 in
      let d : Demands l (circuit_of l) o = subst⁻¹ (Demands l (circuit_of l)) is (demands l) in
      let after = d.success s e in
      let room = after.passes.sizes.roomy in
      let kept = d.past_kept in
      let k = coded r flags gates c codes m r.inputs r.latches r.gates x refl refl refl refl done.0 fit in
      let latches : length (take r.latches x.lists.states) ≡ r.latches = length-take-le r.latches x.lists.states k.states in
      let roots : length (take (total r.counts) c.roots) ≡ total r.counts = length-take-le (total r.counts) c.roots held.roots in
      record {
        sizes = sets;
        nexts = omega (arith, latches, room.nexts, kept.nexts.0);
        resets = omega (arith, latches, room.resets, kept.resets.0);
        roots = omega (arith, roots, room.roots, kept.roots.0);
        gates = omega (arith, after.made_few, room.gates, kept.gates.0);
      }

  pub filled : (q : Renumbering) → q ≡ renumbering r flags gates c codes m → q.outcome.answer ≡ Ok s → (sizes : List ℕ) → r.sets ≤ length sizes
      → Filled r s.made sizes q.outcome.next_images q.outcome.reset_images q.outcome.root_images q.outcome.gates_out
  unfolding renumbering
  filled q left = filled_by q.outcome (ap (λ (y : Renumbering). y.outcome) left)

-- the ways out of what comes after reading
module _ (r : FileRead) (flags : ℕ) (l : Lists) where
  pub over_seven : 7 < flags → seen (Err (F.Unordered R.Misshapen r)) l ≡ onwards r flags l
  unfolding onwards
  over_seven h = let e = lt-ltb 7 flags h in rw e

  module _ (h : flags ≤ 7) (q : Renumbering) (left : q ≡ renumbering r flags l.file.gates (taken_of l.file) l.codes l.images) where
    on : after_renumbering r l q ≡ onwards r flags l
    unfolding onwards
    on = let e = le-ltb 7 flags h in rw e (ap (after_renumbering r l) left)

    pub refused : (why : Refusal) → q.outcome.answer ≡ Err why
        → seen (Err (F.Unordered why r)) (lists l.file q.codes (images_in q.outcome) l.bytes) ≡ onwards r flags l
    refused why e = ap (λ (y : Answer). after_answer y r l.file q.codes (images_in q.outcome) l.bytes) (sym e) ∙ on

    module _ (s : Summary) (e : q.outcome.answer ≡ Ok s) (end : Result ℕ Unwritten) (out : List ℕ)
        (w : wrote end out ≡ writing (handed_on r s.made l.file.sizes (images_in q.outcome)) l.bytes) where
      pub wrote_on : seen (stored r s.made end) (lists l.file q.codes (images_in q.outcome) out) ≡ onwards r flags l
      wrote_on =
          ap (after_writing r s.made l.file q.codes (images_in q.outcome)) w
          ∙ ap (λ (y : Answer). after_answer y r l.file q.codes (images_in q.outcome) l.bytes) (sym e) ∙ on

      pub written : (n : ℕ) → end ≡ Ok n
          → seen (Ok (record { read = r; made = s.made; written = n })) (lists l.file q.codes (images_in q.outcome) out) ≡ onwards r flags l
      written n k =
          ap (λ (y : Result ℕ Unwritten). seen (stored r s.made y) (lists l.file q.codes (images_in q.outcome) out)) (sym k) ∙ wrote_on

      pub unwritten : (u : Unwritten) → end ≡ Err u
          → seen (Err (F.Unstored u r s.made)) (lists l.file q.codes (images_in q.outcome) out) ≡ onwards r flags l
      unwritten u k =
          ap (λ (y : Result ℕ Unwritten). seen (stored r s.made y) (lists l.file q.codes (images_in q.outcome) out)) (sym k) ∙ wrote_on

-- reading: what was taken is in its lists, and no more than they hold
module _ (bytes : List ℕ) (flags : ℕ) (l : Lists) (o : B.Outcome) (left : o ≡ B.outcome bytes l.file) where
  pub record Reads (r : FileRead) : Type 0 where
    pub held : Held r (taken_of o.lists)
    pub gates : 2 * r.gates ≤ length o.lists.gates
    pub sizes : r.sets ≤ length o.lists.sizes

  pub reads : (r : FileRead) → o.read ≡ Ok r → Reads r
  reads r e = go (read_file bytes (room_of l.file)) refl left
    where
      go : (R : Read File) → read_file bytes (room_of l.file) ≡ R → o ≡ B.left R l.file → Reads r
      go (no why place) k h =
          absurd (let z : ◌≡◌ {A = Result FileRead Broken} (broken why place) (Ok r) = ap (λ (y : B.Outcome). y.read) (sym h) ∙ e in let z' : ◌≡◌ {A = ℕ} 0 1 = cc in omega arith)
      go (got f n) k h =
          let known = read_known bytes (room_of l.file) f n k in
          let z : ◌≡◌ {A = Result FileRead Broken} (Ok r) (Ok (B.file_read f n)) = sym e ∙ ap (λ (y : B.Outcome). y.read) h in
          let its : r ≡ B.file_read f n = cc in
          let nexts = ap (λ (y : B.Outcome). length y.lists.nexts) h ∙ onto-length f.ordered.nexts l.file.nexts in
          let resets = ap (λ (y : B.Outcome). length y.lists.resets) h ∙ onto-length f.ordered.resets l.file.resets in
          let gates = ap (λ (y : B.Outcome). length y.lists.gates) h ∙ onto-length _ l.file.gates in
          let sizes = ap (λ (y : B.Outcome). length y.lists.sizes) h ∙ onto-length f.sizes l.file.sizes in
          let roots = ap (λ (y : B.Outcome). length y.lists.roots) h ∙ onto-length f.ordered.roots l.file.roots in
          let latches : r.latches ≡ length f.ordered.nexts = ap (λ (y : FileRead). y.latches) its in
          let gate_count : r.gates ≡ length f.ordered.gates = ap (λ (y : FileRead). y.gates) its in
          let sets : r.sets ≡ length f.sizes = ap (λ (y : FileRead). y.sets) its in
          let root_count : total r.counts ≡ total f.ordered.counts = ap (λ (y : FileRead). total y.counts) its in
          let top : top_of r ≡ sources_of f.ordered + length f.ordered.gates = ap (λ (y : FileRead). top_of y) its in
          record {
            held = record {
              few = omega (arith, top, known.well_ordered.variables);
              nexts = omega (arith, latches, nexts, known.nexts_fit);
              resets = omega (arith, latches, resets, known.resets_fit, known.well_ordered.reset_count);
              roots = omega (arith, root_count, roots, known.roots_fit, known.well_ordered.counts);
            };
            gates = omega (arith, gate_count, gates, known.gates_fit);
            sizes = omega (arith, sets, sizes, known.sizes_fit);
          }

  pub unread : (e : Broken) → o.read ≡ Err e → seen (Err (F.Unread e)) (lists o.lists l.codes l.images l.bytes) ≡ ordering bytes flags l
  unfolding ordering
  unread e k =
      ap (λ (y : Result FileRead Broken). after_answer_of y flags (lists o.lists l.codes l.images l.bytes)) (sym k)
      ∙ ap (λ (y : B.Outcome). after_reading y flags l) left

  pub taken : (r : FileRead) (end : Outcome) → o.read ≡ Ok r → end ≡ onwards r flags (lists o.lists l.codes l.images l.bytes) → end ≡ ordering bytes flags l
  unfolding ordering
  taken r end e h =
      h ∙ ap (λ (y : Result FileRead Broken). after_answer_of y flags (lists o.lists l.codes l.images l.bytes)) (sym e)
      ∙ ap (λ (y : B.Outcome). after_reading y flags l) left
