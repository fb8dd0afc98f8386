-- A file that is read goes all the way: what is lent to renumbering is its circuit, which is always renumbered where the lists are long enough and refused by 3
-- where they are not; and what is made is sound, so that writing can only find too few bytes. Assumes nothing.
use Prim.Native.Nat.{ℕ, ◌+◌, ◌*◌, ◌/◌, ◌%◌, ◌<◌, ◌≤◌}
use mathlib.Core.Path.{◌≡◌, refl, sym, ap, ◌∙◌, subst, subst⁻¹}
use mathlib.Core.Logic.{◌≢◌}
use mathlib.Core.Bool.{Bool, true, false, cond}
use mathlib.Core.List.{List}
use native.Mathlib.Omega.{arith}
use lib.Dec.{ltb, eqb}
use lib.ListN.{length, get_or, take}
use lib.Seq.{length-take-le}
use Rattle.std.specs.Prelude.{Ok, Err}
use borrow.Author.Tests.{lt-ltb, le-ltb, ltb-true, ltb-false, eq-eqb}
use Rattle.lit.specs.Code.{is_odd}
use Rattle.circuit.specs.declared.Refusal.{Refusal}
use Rattle.circuit.specs.declared.Refusal.TheVariants as R
use Rattle.circuit.specs.declared.Summary.{Summary}
use Rattle.circuit.specs.Answer.{Answer}
use Rattle.circuit.specs.Walk.{Work, Out, reached, first_code}
use Rattle.circuit.specs.Circuit.{Circuit, renumber}
use Rattle.circuit.specs.Ordered as O
use Rattle.circuit.specs.Ordered.{sources_of, given, ordered_of, no_pair, InOrder}
use Rattle.circuit.specs.Outcome as C
use Rattle.circuit.specs.Outcome.{Lent, circuit_of, limit, total, pair_words, pairs_of, held, or_stop, conclusion, too_big, misshapen}
use Rattle.circuit.specs.Claims.{Within, Roomy, IsTrue}
use Rattle.circuit.proofs.Demands.{demands}
use Rattle.circuit.proofs.Outcome.{onto-take}
use Rattle.circuit.proofs.Ordered.{count_from-length, gates_from-length}
use Rattle.circuit.proofs.Success as S
use Rattle.lines.specs.Reading.{Read, got}
use Rattle.ordered.specs.declared.Unexpanded.TheVariants.{Short}
use Rattle.ordered.specs.declared.given.Fault.TheVariants as G
use Rattle.ordered.specs.WellOrdered.{WellOrdered}
use Rattle.ordered.specs.Keeps.{Keeps}
use Rattle.ordered.specs.Check.{Words, words_of}
use Rattle.ordered.specs.Expand as E
use Rattle.ordered.specs.Expand.{Expansion, expansion}
use Rattle.ordered.proofs.Laid.{words_length}
use Rattle.ordered.proofs.Exactly.{words_back}
use Rattle.ordered.proofs.Passing.{within, agrees}
use Rattle.ordered.proofs.Theorems as ordered
use Rattle.binary.specs.declared.FileRead.{FileRead}
use Rattle.binary.specs.File.{File, read_file}
use Rattle.binary.specs.Promise as B
use Rattle.binary.specs.Promise.{room_of}
use Rattle.binary.specs.Known.{Known}
use Rattle.binary.specs.Sound.{Sound, result_with}
use Rattle.binary.specs.Write.{file_of, unwritten as not_written, wrote, written_to, writing}
use Rattle.binary.proofs.Theorems as binary
use Rattle.intake.specs.declared.OrderFault.TheVariants as F
use Rattle.intake.specs.Order.{Unordered, answer_of, Lists, taken_of, handed, unless_expanded, Renumbering, leaving, renumbering, handed_on, lists, images_in, Outcome, seen, after_writing, after_answer, after_renumbering, onwards, after_reading, ordering, Coded}
use Rattle.intake.specs.Intake.{circuit_for, Orders, LongBehind}
use Rattle.intake.proofs.Steps.{over_seven}

-- what passes checks 1 to 3 and is reached is reached by the checks and the walk behind them
last : (b : Bool) (why : Refusal) (out : Out) (w : Work) → or_stop b why out ≡ reached w → out ≡ reached w
last true why out w p = absurd (let z : ◌≡◌ {A = ℕ} 0 1 = cc in omega arith)
last false why out w p = p

reaches : (g : Lent) (w : Work) → conclusion g ≡ reached w → renumber (circuit_of g) ≡ reached w
unfolding conclusion
reaches g w p =
    last (C.too_short g (circuit_of g)) R.Short (renumber (circuit_of g)) w
    (last (misshapen g) R.Misshapen (or_stop (C.too_short g (circuit_of g)) R.Short (renumber (circuit_of g))) w
    (last (too_big (circuit_of g)) R.TooBig (or_stop (misshapen g) R.Misshapen (or_stop (C.too_short g (circuit_of g)) R.Short (renumber (circuit_of g)))) w p))

module _ (bytes : List ℕ) (flags : ℕ) (l : Lists) (f : File) (n : ℕ) (read : read_file bytes (room_of l.file) ≡ got f n) where
  abbrev known : Known bytes (room_of l.file) f
  known = binary.read_known bytes (room_of l.file) f n read

  abbrev well : WellOrdered f.ordered
  well = known.well_ordered

  sound : Sound f
  sound = (binary.read_sound bytes (room_of l.file) f n read).0

  -- what reading answers, and the lists that it leaves
  abbrev r : FileRead
  r = B.file_read f n

  abbrev file : B.Lists
  file = B.written f l.file

  abbrev after : Lists
  after = lists file l.codes l.images l.bytes

  abbrev x : E.Outcome
  x = expansion r.inputs r.latches (take (2 * r.gates) file.gates) l.codes

  abbrev lent : Lent
  lent = handed r flags (taken_of file) x.lists l.images

  goes : ordering bytes flags l ≡ onwards r flags after
  unfolding ordering
  goes = ap (λ (R : Read File). after_reading (B.left R l.file) flags l) read

  -- flags over 7
  pub flags_over : 7 < flags → ordering bytes flags l ≡ seen (Err (F.Unordered R.Misshapen r)) after
  flags_over h = goes ∙ sym (over_seven r flags after h)

  counts : total f.ordered.counts ≡ length f.ordered.roots
  counts = well.counts

  -- its gates are expanded from the words that reading left
  expands : x ≡ expansion f.ordered.inputs (length f.ordered.nexts) (pair_words f.ordered.gates) l.codes
  expands =
      ap (λ (ws : List ℕ). expansion f.ordered.inputs (length f.ordered.nexts) ws l.codes)
      (onto-take (pair_words f.ordered.gates) l.file.gates (2 * length f.ordered.gates) (words_length f.ordered.gates) known.gates_fit)

  -- what is handed over is the circuit of the file
  lends : E.Lends f.ordered (is_odd flags) (is_odd (flags / 2)) (is_odd (flags / 4)) x.lists lent
  lends =
      record {
        circuit = refl;
        inputs = refl;
        states = refl;
        nexts = onto-take f.ordered.nexts l.file.nexts (length f.ordered.nexts) refl known.nexts_fit;
        resets =
            onto-take f.ordered.resets l.file.resets (length f.ordered.nexts) (sym well.reset_count)
            (omega (arith, well.reset_count, known.resets_fit));
        gates = refl;
        roots = onto-take f.ordered.roots l.file.roots (total f.ordered.counts) (sym counts) (omega (arith, counts, known.roots_fit));
      }

  -- a circuit within the limits is expanded, or a list for its codes is too short
  pub data Expands : E.Outcome → Type 0 where
    expanded : Coded r l.codes → (o : E.Outcome) → o.answer ≡ E.expanded → Expands o
    too_short : (LongBehind f l → ⊥) → (o : E.Outcome) → o.answer ≡ Err Short → Expands o

  ends_expanding : Expands x
  unfolding expansion
  ends_expanding =
      subst⁻¹ Expands expands
      (go (ltb (length l.codes.inputs) f.ordered.inputs) (ltb (length l.codes.states) (length f.ordered.nexts))
      (ltb (length l.codes.triples) (3 * (length (pair_words f.ordered.gates) / 2))) refl refl refl)
    where
      many : length (pair_words f.ordered.gates) ≡ 2 * length f.ordered.gates
      many = words_length f.ordered.gates

      few : ltb limit (f.ordered.inputs + length f.ordered.nexts + length (pair_words f.ordered.gates) / 2) ≡ false
      few = le-ltb limit (f.ordered.inputs + length f.ordered.nexts + length (pair_words f.ordered.gates) / 2) (omega (arith, many, well.variables))

      even : eqb (length (pair_words f.ordered.gates) % 2) 0 ≡ true
      even = eq-eqb (length (pair_words f.ordered.gates) % 2) 0 (omega (arith, many))

      go : (a b c : Bool) → ltb (length l.codes.inputs) f.ordered.inputs ≡ a → ltb (length l.codes.states) (length f.ordered.nexts) ≡ b
          → ltb (length l.codes.triples) (3 * (length (pair_words f.ordered.gates) / 2)) ≡ c
          → Expands (expansion f.ordered.inputs (length f.ordered.nexts) (pair_words f.ordered.gates) l.codes)
      go true b c p q s = too_short (λ k. omega (arith, k.input_codes, ltb-true (length l.codes.inputs) f.ordered.inputs p)) (expansion f.ordered.inputs (length f.ordered.nexts) (pair_words f.ordered.gates) l.codes) (rw (few, even, p))
      go false true c p q s = too_short (λ k. omega (arith, k.state_codes, ltb-true (length l.codes.states) (length f.ordered.nexts) q)) (expansion f.ordered.inputs (length f.ordered.nexts) (pair_words f.ordered.gates) l.codes) (rw (few, even, p, q))
      go false false true p q s = too_short (λ k. omega (arith, many, k.triples, ltb-true (length l.codes.triples) (3 * (length (pair_words f.ordered.gates) / 2)) s)) (expansion f.ordered.inputs (length f.ordered.nexts) (pair_words f.ordered.gates) l.codes) (rw (few, even, p, q, s))
      go false false false p q s =
          expanded (record {
            inputs = ltb-false (length l.codes.inputs) f.ordered.inputs p;
            states = ltb-false (length l.codes.states) (length f.ordered.nexts) q;
            triples = omega (arith, many, ltb-false (length l.codes.triples) (3 * (length (pair_words f.ordered.gates) / 2)) s);
          }) (expansion f.ordered.inputs (length f.ordered.nexts) (pair_words f.ordered.gates) l.codes) (rw (few, even, p, q, s))

  module _ (h : flags ≤ 7) where
    abbrev q : Renumbering
    q = renumbering r flags file.gates (taken_of file) l.codes l.images

    on : ordering bytes flags l ≡ after_renumbering r after q
    unfolding onwards
    on = goes ∙ (let e = le-ltb 7 flags h in rw e)

    -- what expanding left, and what that leaves of renumbering
    by_expansion : (y : Expansion) → x.answer ≡ y → ordering bytes flags l ≡ after_renumbering r after (leaving x.lists (unless_expanded y lent))
    unfolding renumbering
    by_expansion y e = on ∙ ap (λ (z : Expansion). after_renumbering r after (leaving x.lists (unless_expanded z lent))) e

    -- the codes' lists are too short
    pub unexpanded : x.answer ≡ Err Short
        → ordering bytes flags l ≡ seen (Err (F.Unordered R.Short r)) (lists file x.lists l.images l.bytes)
    unexpanded e = by_expansion (Err Short) e

    module _ (done : x.answer ≡ E.expanded) where
      abbrev o : C.Outcome
      o = C.outcome lent

      its : ordering bytes flags l ≡ after_renumbering r after (leaving x.lists o)
      its = by_expansion E.expanded done

      -- the circuit lent is the file's, with the flags
      circuit_is : circuit_of lent ≡ circuit_for flags f
      circuit_is = ordered.expanded-given f.ordered l.codes x expands done (is_odd flags) (is_odd (flags / 2)) (is_odd (flags / 4)) lent lends

      -- the lists that renumbering writes are long enough for the circuit lent exactly when they are for the file
      long_roomy : LongBehind f l → Roomy lent (circuit_of lent)
      long_roomy k =
          ordered.long_enough_lem f.ordered well (is_odd flags) (is_odd (flags / 2)) (is_odd (flags / 4)) l.codes x expands done lent lends
          k.map k.next_images k.reset_images k.root_images k.gates_out k.scratch

      roomy_long : Coded r l.codes → Roomy lent (circuit_of lent) → LongBehind f l
      unfolding given
      roomy_long codes k =
          let g : Roomy lent (circuit_for flags f) = subst (Roomy lent) circuit_is k in
          let latches = count_from-length (O.first_latch f.ordered.inputs) (length f.ordered.nexts) in
          let many = gates_from-length (first_code (sources_of f.ordered)) f.ordered.gates in
          record {
            input_codes = codes.inputs;
            state_codes = codes.states;
            triples = codes.triples;
            map = g.map;
            next_images = omega (arith, g.nexts, latches);
            reset_images = omega (arith, g.resets, latches);
            root_images = g.roots;
            gates_out = omega (arith, g.gates, many);
            scratch = omega (arith, g.scratch, many);
          }

      -- where renumbering refuses, it is by 3
      pub only_short : (why : Refusal) → o.answer ≡ Err why → (why ≡ R.Short) × (Roomy lent (circuit_of lent) → ⊥)
      only_short why e = (go why ((demands lent).refusals_true why e), renumbers)
        where
          renumbers : Roomy lent (circuit_of lent) → ⊥
          renumbers k =
              let a = ordered.always_renumbers f.ordered well (is_odd flags) (is_odd (flags / 2)) (is_odd (flags / 4)) l.codes x expands done lent lends k in
              let z : ◌≡◌ {A = Answer} (Ok a.0) (Err why) = sym a.1 ∙ e in
              let z' : ◌≡◌ {A = ℕ} 0 1 = cc in omega arith

          go : (why' : Refusal) → IsTrue lent why' → why' ≡ R.Short
          go R.TooBig t = absurd (t (subst⁻¹ Within circuit_is (within f.ordered well (is_odd flags) (is_odd (flags / 2)) (is_odd (flags / 4)))))
          go R.Misshapen t =
              absurd (t.1 (agrees f.ordered well (is_odd flags) (is_odd (flags / 2)) (is_odd (flags / 4)) l.codes x expands done lent lends))
          go R.Short t = refl
          go (R.Over d) t = absurd (renumbers t.0.roomy)
          go (R.Reset d) t = absurd (renumbers t.0.roomy)
          go (R.Again d) t = absurd (renumbers t.0.sizes.roomy)
          go (R.StateAgain d) t = absurd (renumbers t.0.sizes.roomy)
          go (R.Undefined d) t = absurd (renumbers t.0.sizes.roomy)
          go (R.Cycle d) t = absurd (renumbers t.0.sizes.roomy)

      pub refuses : (why : Refusal) → o.answer ≡ Err why
          → ordering bytes flags l ≡ seen (Err (F.Unordered R.Short r)) (lists file x.lists (images_in o) l.bytes)
      refuses why e =
          its ∙ ap (λ (y : Answer). after_answer y r file x.lists (images_in o) l.bytes) (e ∙ ap (λ (y : Refusal). Err y) (only_short why e).0)

      module _ (s : Summary) (e : o.answer ≡ Ok s) where
        -- the file that is written
        abbrev pub to : File
        to = result_with lent s f.sizes

        pub to_sound : Sound to
        to_sound = binary.result_sound lent s e f.sizes sound.five sound.sizes sound.sets

        -- it is f, renumbered with the flags
        pub orders : Orders flags f to
        orders =
            let k = S.success lent s e in
            record {
              work = k.work;
              renumbered = ap renumber (sym circuit_is) ∙ reaches lent k.work k.ends;
              circuit = k.holds ∙ ap (λ (K : Circuit). ordered_of K k.work) circuit_is;
              sizes = refl;
            }

        pub to_inputs : to.ordered.inputs ≡ f.ordered.inputs
        unfolding held given
        to_inputs = ap (λ (K : Circuit). length K.inputs) circuit_is ∙ count_from-length 2 f.ordered.inputs

        pub to_counts : to.ordered.counts ≡ f.ordered.counts
        unfolding held
        to_counts = refl

        pub keeps : Keeps f.ordered to.ordered
        keeps = ordered.values_kept f.ordered well (is_odd flags) (is_odd (flags / 2)) (is_odd (flags / 4)) l.codes x expands done lent lends o refl s e

        pub in_order : InOrder (sources_of to.ordered) to.ordered.gates
        in_order = ordered.result_in_order f.ordered well (is_odd flags) (is_odd (flags / 2)) (is_odd (flags / 4)) l.codes x expands done lent lends o refl s e

        pub no_twins_lem : is_odd (flags / 2) ≡ true → (i j : ℕ) → i < j → j < length to.ordered.gates
            → get_or to.ordered.gates i no_pair ≢ get_or to.ordered.gates j no_pair
        no_twins_lem on i j h k = let d = (demands lent).success s e in d.no_twins on i j h (omega (arith, d.made, k))

        -- what writing is lent is that file, in words
        handed_on_lem : handed_on r s.made file.sizes (images_in o) ≡ words_of to.ordered to.sizes
        unfolding held given
        handed_on_lem =
            let d = (demands lent).success s e in
            let room = d.passes.sizes.roomy in
            let kept = (demands lent).past_kept in
            let inputs : f.ordered.inputs ≡ length lent.inputs
            = sym (ap (λ (K : Circuit). length K.inputs) circuit_is ∙ count_from-length 2 f.ordered.inputs) in
            let latches : length f.ordered.nexts ≡ length lent.states
            = sym (ap (λ (K : Circuit). length K.states) circuit_is ∙ count_from-length (O.first_latch f.ordered.inputs) (length f.ordered.nexts)) in
            let roots : total f.ordered.counts ≡ length lent.roots = counts ∙ sym (ap length lends.roots) in
            let long : length (take (2 * s.made) o.gates_out) ≡ 2 * s.made
            = length-take-le (2 * s.made) o.gates_out (omega (arith, d.made_few, room.gates, kept.gates.0)) in
            let gates : take (2 * s.made) o.gates_out ≡ pair_words (pairs_of (take (2 * s.made) o.gates_out))
            = sym (words_back (take (2 * s.made) o.gates_out) (omega (arith, long))) in
            let sizes : take (length f.sizes) file.sizes ≡ f.sizes = onto-take f.sizes l.file.sizes (length f.sizes) refl known.sizes_fit in
            λ i. record {
              inputs = inputs i;
              counts = f.ordered.counts;
              nexts = take (latches i) o.next_images;
              resets = take (latches i) o.reset_images;
              gates = gates i;
              sizes = sizes i;
              roots = take (roots i) o.root_images;
            }

        -- so it is written as such, where it fits
        pub writes : ordering bytes flags l ≡ after_writing r s.made file x.lists (images_in o) (written_to (file_of to) l.bytes)
        writes =
            its ∙ ap (λ (y : Answer). after_answer y r file x.lists (images_in o) l.bytes) e
            ∙ ap (λ (w : Words). after_writing r s.made file x.lists (images_in o) (writing w l.bytes)) handed_on_lem
            ∙ ap (after_writing r s.made file x.lists (images_in o)) (binary.sound_written to to_sound l.bytes)

        pub written : length (file_of to) ≤ length l.bytes
            → ordering bytes flags l
            ≡ seen (Ok (record { read = r; made = s.made; written = length (file_of to) })) (lists file x.lists (images_in o) (C.onto (file_of to) l.bytes))
        written k =
            writes
            ∙ ap (λ (b : Bool). after_writing r s.made file x.lists (images_in o)
            (cond b (wrote (not_written G.Short (length (file_of to))) l.bytes) (wrote (Ok (length (file_of to))) (C.onto (file_of to) l.bytes))))
            (le-ltb (length l.bytes) (length (file_of to)) k)

        pub unwritten : length l.bytes < length (file_of to)
            → ordering bytes flags l ≡ seen (Err (F.Unstored (record { why = G.Short; needed = length (file_of to) }) r s.made)) (lists file x.lists (images_in o) l.bytes)
        unwritten k =
            writes
            ∙ ap (λ (b : Bool). after_writing r s.made file x.lists (images_in o)
            (cond b (wrote (not_written G.Short (length (file_of to))) l.bytes) (wrote (Ok (length (file_of to))) (C.onto (file_of to) l.bytes))))
            (lt-ltb (length l.bytes) (length (file_of to)) k)

    -- how it ends, with flags that are taken: a list behind the file's is too short, and the answer is 3; or all of them are long enough, and it is renumbered
    pub data Finish : Type 0 where
      too_short_behind : (LongBehind f l → ⊥) → answer_of (ordering bytes flags l).said ≡ Unordered R.Short → Finish
      long_enough : LongBehind f l → (done : x.answer ≡ E.expanded) (s : Summary) → (C.outcome lent).answer ≡ Ok s → Finish

    pub finish : Finish
    finish = go x refl ends_expanding
      where
        answered : (codes : Coded r l.codes) (done : x.answer ≡ E.expanded) (a : Answer) → (C.outcome lent).answer ≡ a → Finish
        answered codes done (Ok s) e = long_enough (roomy_long done codes ((demands lent).success s e).passes.sizes.roomy) done s e
        answered codes done (Err why) e =
            too_short_behind (λ k. (only_short done why e).1 (long_roomy done k)) (ap (λ (y : Outcome). answer_of y.said) (refuses done why e))

        go : (o : E.Outcome) → x ≡ o → Expands o → Finish
        go o p (too_short never o' e) = too_short_behind never (ap (λ (y : Outcome). answer_of y.said) (unexpanded (ap (λ (y : E.Outcome). y.answer) p ∙ e)))
        go o p (expanded codes o' e) = answered codes (ap (λ (y : E.Outcome). y.answer) p ∙ e) (C.outcome lent).answer refl
