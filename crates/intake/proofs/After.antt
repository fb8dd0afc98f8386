-- After a success: the bytes written are our spelling of what the file is renumbered to, so they are a file of the paper's form, and all that renumbering keeps is
-- kept from the one file to the other. Assumes nothing.
use Prim.Native.Nat.{ℕ, ◌+◌, ◌*◌, ◌/◌, ◌<◌, ◌≤◌}
use mathlib.Core.Path.{◌≡◌, refl, sym, ap, ◌∙◌, subst, subst⁻¹}
use mathlib.Core.Logic.{◌⊎◌, inl, inr, ◌≢◌, ◌↔◌}
use mathlib.Core.Bool.{true}
use mathlib.Core.List.{List}
use native.Mathlib.Omega.{arith}
use lib.ListN.{length, get_or, take}
use Rattle.lit.specs.Code.{is_odd}
use Rattle.token.specs.Format.{Bytes}
use Rattle.circuit.specs.Walk.{Pair}
use Rattle.circuit.specs.Ordered.{no_pair, sources_of, InOrder}
use Rattle.circuit.specs.Outcome.{onto}
use Rattle.circuit.proofs.Outcome.{onto-take, onto-length, onto_past}
use Rattle.lines.specs.declared.Fault.{Fault}
use Rattle.lines.specs.declared.Fault.TheVariants as L
use Rattle.lines.specs.Reading.{Read, got, no}
use Rattle.ordered.specs.WellOrdered.{WellOrdered, variables_of}
use Rattle.ordered.specs.Check.{Words, words_of}
use Rattle.ordered.proofs.Laid.{pairs_of_words}
use Rattle.ordered.specs.Keeps.{Keeps}
use Rattle.ordered.proofs.Theorems as ordered
use Rattle.binary.specs.File.{File, read_file}
use Rattle.binary.specs.Promise.{room_of}
use Rattle.binary.specs.Spelling.{Spells}
use Rattle.binary.specs.Sound.{Sound}
use Rattle.binary.specs.Plain.{Plain}
use Rattle.binary.specs.Write.{file_of, file_in}
use Rattle.binary.proofs.Most as M
use Rattle.binary.proofs.Same.{file_least}
use Rattle.binary.proofs.Theorems as binary
use Rattle.runs.specs.Carries.{SameQuestions}
use Rattle.runs.proofs.Theorems as runs
use Rattle.intake.specs.Order.{Ordered, Unread, answer_of, Lists, Outcome, ordering}
use Rattle.intake.specs.Intake.{limits, Begins, Orders, LongBehind, Orderable, Says, IsOrdered, Ample}
use Rattle.intake.proofs.Rooms.{limits_hold}
use Rattle.intake.proofs.Through as through
use Rattle.intake.proofs.Ends.{read_in, begins_read, one_file, one_result, answered, exactly}

-- how many bytes a sound file has at most
file_most : (d : File) → Sound d
    → length (file_of d) ≤ 76 + 8 * (variables_of d.ordered + length d.ordered.nexts + length d.ordered.roots + length d.sizes)
file_most d sound =
    let w : Words = words_of d.ordered d.sizes in
    let back : file_in w ≡ d
    = ap (λ (gs : List Pair). record {
      ordered =
          record {
            inputs = d.ordered.inputs;
            nexts = d.ordered.nexts;
            resets = d.ordered.resets;
            gates = gs;
            counts = d.ordered.counts;
            roots = d.ordered.roots;
          };
      sizes = d.sizes;
    }) (pairs_of_words d.ordered.gates) in
    subst (λ (y : File). length (file_of y) ≤ 76 + 8 * (variables_of y.ordered + length y.ordered.nexts + length y.ordered.roots + length y.sizes)) back
    (M.file_most w ((ordered.fits_exactly w 0).0 (binary.sound_fits d sound)).0)

-- with no flag a file is renumbered to itself
comes_back : (f : File) → WellOrdered f.ordered → Orders 0 f f
unfolding is_odd
comes_back f well =
    let k = ordered.comes_back f.ordered well in
    record { work = k.0; renumbered = k.1; circuit = sym k.2; sizes = refl }

module _ (bytes : List ℕ) (flags : ℕ) (l : Lists) (are : Bytes bytes) where
  abbrev out : List ℕ
  out = (ordering bytes flags l).lists.bytes

  -- a success, and all that it asks
  pub exactly_when : ((used : ℕ) × (written : ℕ) × (answer_of (ordering bytes flags l).said ≡ Ordered used written)) ↔ Orderable bytes flags l
  exactly_when = (to, from)
    where
      says : (used written : ℕ) → Says bytes flags l (Ordered used written) → Orderable bytes flags l
      says used written (f, d, b, o, w, hold, k, h, p) =
          record {
            flags_known = h;
            file = f;
            used = used;
            begins = b;
            holds = hold;
            behind = k;
            ordered = d;
            orders = o;
            fits = omega (arith, w, p);
          }

      to : (used : ℕ) × (written : ℕ) × (answer_of (ordering bytes flags l).said ≡ Ordered used written) → Orderable bytes flags l
      to (used, written, e) = says used written ((exactly bytes flags l are (Ordered used written)).0 e)

      from : Orderable bytes flags l → (used : ℕ) × (written : ℕ) × (answer_of (ordering bytes flags l).said ≡ Ordered used written)
      from a = (
        a.used,
        length (file_of a.ordered),
        answered bytes flags l (Ordered a.used (length (file_of a.ordered)))
            (a.file, a.ordered, a.begins, a.orders, refl, a.holds, a.behind, a.flags_known, a.fits),
      )

  -- what a success leaves
  pub record Carried (used written : ℕ) : Type 0 where
    pub from : File
    pub to : File
    pub came : Begins bytes from used
    pub sound : Sound to
    pub orders : Orders flags from to
    pub fills : out ≡ onto (file_of to) l.bytes
    pub whole : written ≡ length (file_of to)
    pub fits : written ≤ length l.bytes
    pub inputs : to.ordered.inputs ≡ from.ordered.inputs
    pub counts : to.ordered.counts ≡ from.ordered.counts
    pub keeps : Keeps from.ordered to.ordered
    pub in_order : InOrder (sources_of to.ordered) to.ordered.gates
    pub no_twins : is_odd (flags / 2) ≡ true → (i j : ℕ) → i < j → j < length to.ordered.gates
        → get_or to.ordered.gates i no_pair ≢ get_or to.ordered.gates j no_pair

  module _ (used written : ℕ) (success : answer_of (ordering bytes flags l).said ≡ Ordered used written) where
    pub carried : Carried used written
    carried = go ((exactly bytes flags l are (Ordered used written)).0 success)
      where
        go : Says bytes flags l (Ordered used written) → Carried used written
        go (f, d, b, o, w, hold, k, h, p) = ends (through.finish bytes flags l f used e h)
          where
            e : read_file bytes (room_of l.file) ≡ got f used
            e = begins_read bytes (room_of l.file) f used b hold

            ends : through.Finish bytes flags l f used e h → Carried used written
            ends (through.too_short_behind never a) = absurd (never k)
            ends (through.long_enough long done s a) =
                let to = through.to bytes flags l f used e h done s a in
                let orders = through.orders bytes flags l f used e h done s a in
                let same : d ≡ to = one_result flags f d to o orders in
                let whole : written ≡ length (file_of to) = w ∙ ap (λ (y : File). length (file_of y)) same in
                record {
                  from = f;
                  to = to;
                  came = b;
                  sound = through.to_sound bytes flags l f used e h done s a;
                  orders = orders;
                  fills = ap (λ (y : Outcome). y.lists.bytes) (through.written bytes flags l f used e h done s a (omega (arith, whole, p)));
                  whole = whole;
                  fits = p;
                  inputs = through.to_inputs bytes flags l f used e h done s a;
                  counts = through.to_counts bytes flags l f used e h done s a;
                  keeps = through.keeps bytes flags l f used e h done s a;
                  in_order = through.in_order bytes flags l f used e h done s a;
                  no_twins = through.no_twins_lem bytes flags l f used e h done s a;
                }

    -- the bytes written are our spelling of the file that goes out
    written_is : take written out ≡ file_of carried.to
    written_is =
        ap (take written) carried.fills
        ∙ onto-take (file_of carried.to) l.bytes written (sym carried.whole) carried.fits

    long : length out ≡ length l.bytes
    long = ap length carried.fills ∙ onto-length (file_of carried.to) l.bytes

    spelled : Spells limits carried.to (file_of carried.to)
    spelled = binary.file_spelled limits carried.to carried.sound (limits_hold carried.to carried.sound)

    pub came_in_lem : (f : File) × Begins bytes f used
    came_in_lem = (carried.from, carried.came)

    went : Begins out carried.to written
    went = (omega (arith, long, carried.fits), subst⁻¹ (Spells limits carried.to) written_is spelled)

    pub went_out_lem : (d : File) × Begins out d written
    went_out_lem = (carried.to, went)

    -- bytes past them stay
    pub past_stays : (i : ℕ) → written ≤ i → get_or out i 0 ≡ get_or l.bytes i 0
    past_stays i h =
        ap (λ (y : List ℕ). get_or y i 0) carried.fills
        ∙ onto_past (file_of carried.to) l.bytes i 0 (omega (arith, carried.whole)) (omega (arith, carried.whole, carried.fits))

    -- whatever files the two begin with, they are those two
    module _ (f d : File) (n m : ℕ) (came_in : Begins bytes f n) (went_out : Begins out d m) where
      its_from : carried.from ≡ f
      its_from = (one_file bytes carried.from f used n carried.came came_in).0

      its_to : carried.to ≡ d
      its_to = (one_file out carried.to d written m went went_out).0

      pub its_end : written ≡ m
      its_end = (one_file out carried.to d written m went went_out).1

      pub questions : SameQuestions f d
      questions =
          subst (λ (y : File). SameQuestions y d) its_from
          (subst (SameQuestions carried.from) its_to
          (runs.same_questions carried.from carried.to carried.inputs carried.counts carried.orders.sizes carried.keeps))

      our_spelling : take m out ≡ file_of d
      our_spelling = ap (λ (k : ℕ). take k out) (sym its_end) ∙ written_is ∙ ap file_of its_to

      pub is_ordered : IsOrdered flags d (take m out)
      is_ordered =
          record {
            in_order = subst (λ (y : File). InOrder (sources_of y.ordered) y.ordered.gates) its_to carried.in_order;
            plain = λ t. (binary.plain_exactly limits d (take m out) t).0 our_spelling;
            fewest = λ v t. subst⁻¹ (λ (w : List ℕ). length w ≤ length v) our_spelling (least v t);
            no_twins =
                subst (λ (y : File). is_odd (flags / 2) ≡ true → (i j : ℕ) → i < j → j < length y.ordered.gates
                → get_or y.ordered.gates i no_pair ≢ get_or y.ordered.gates j no_pair) its_to carried.no_twins;
          }
        where
          least : (v : List ℕ) → Spells limits d v → length (file_of d) ≤ length v
          least v t = (file_least limits d v t).fewest

      -- with every flag off, a plain file comes out as it went in
      pub again : flags ≡ 0 → (t : Spells limits f (take n bytes)) → Plain limits f (take n bytes) t → take m out ≡ take n bytes
      again off t plain =
          our_spelling ∙ ap file_of (one_result flags f d f its_orders (subst⁻¹ (λ (k : ℕ). Orders k f f) off (comes_back f well)))
          ∙ sym ((binary.plain_exactly limits f (take n bytes) t).1 plain)
        where
          well : WellOrdered f.ordered
          well = (binary.read_known bytes limits f n (read_in bytes limits f n came_in.0 came_in.1)).well_ordered

          its_orders : Orders flags f d
          its_orders = subst (λ (y : File). Orders flags y d) its_from (subst (Orders flags carried.from) its_to carried.orders)

  -- lists and bytes of the limits: with flags that are taken there are two ends, the file's own refusal, which is never 3, and success
  module _ (ample : Ample l) (h : flags ≤ 7) where
    long_behind : (f : File) → Sound f → LongBehind f l
    long_behind f k =
        let few = k.well_ordered.variables in
        record {
          input_codes = omega (arith, few, ample.input_codes);
          state_codes = omega (arith, few, ample.state_codes);
          triples = omega (arith, few, ample.triples);
          map = omega (arith, few, ample.map);
          next_images = omega (arith, few, ample.next_images);
          reset_images = omega (arith, few, ample.reset_images);
          root_images = omega (arith, k.well_ordered.few, ample.root_images);
          gates_out = omega (arith, few, ample.gates_out);
          scratch = omega (arith, few, ample.scratch);
        }

    pub two_ends : ((why : Fault) × (place : ℕ) × (answer_of (ordering bytes flags l).said ≡ Unread why place) × (why ≢ L.Short))
        ⊎ ((used : ℕ) × (written : ℕ) × (answer_of (ordering bytes flags l).said ≡ Ordered used written))
    two_ends = go (read_file bytes (room_of l.file)) refl
      where
        taken : (f : File) (n : ℕ) (e : read_file bytes (room_of l.file) ≡ got f n) → through.Finish bytes flags l f n e h
            → (used : ℕ) × (written : ℕ) × (answer_of (ordering bytes flags l).said ≡ Ordered used written)
        taken f n e (through.too_short_behind never a) = absurd (never (long_behind f (binary.read_sound bytes (room_of l.file) f n e).0))
        taken f n e (through.long_enough k done s a) =
            let to = through.to bytes flags l f n e h done s a in
            let sound = through.to_sound bytes flags l f n e h done s a in (
              n,
              length (file_of to),
              ap (λ (y : Outcome). answer_of y.said)
                  (through.written bytes flags l f n e h done s a
                  (omega (arith, file_most to sound, sound.well_ordered.variables, sound.well_ordered.few, sound.sets, ample.bytes))),
            )

        go : (R : Read File) → read_file bytes (room_of l.file) ≡ R
            → ((why : Fault) × (place : ℕ) × (answer_of (ordering bytes flags l).said ≡ Unread why place) × (why ≢ L.Short))
            ⊎ ((used : ℕ) × (written : ℕ) × (answer_of (ordering bytes flags l).said ≡ Ordered used written))
        go (no why place) e =
            inl (
              why,
              place,
              answered bytes flags l (Unread why place) e,
              λ short. binary.never_short bytes (room_of l.file) ample.file place (e ∙ ap (λ (y : Fault). no y place) short),
            )
        go (got f n) e = inr (taken f n e (through.finish bytes flags l f n e h))
