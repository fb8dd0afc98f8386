-- What is written of a file spells it, section by section, and so it is read back. A file that was read can be written, and so can a circuit that is lent; and
-- what writing leaves of the bytes. Assumes nothing.
use Prim.Native.Nat.{ℕ, zero, suc, ◌+◌, ◌-◌, ◌*◌, ◌/◌, ◌^◌, ◌≤◌, ◌<◌}
use mathlib.Core.Path.{◌≡◌, refl, sym, ap, ap₂, ◌∙◌, subst⁻¹}
use mathlib.Core.Bool.{Bool, true, false, cond}
use mathlib.Core.List.{List, [], ◌∷◌, ◌++◌}
use native.Mathlib.Omega.{arith}
use lib.Dec.{ltb}
use lib.ListN.{length, get_or, take, drop}
use lib.Seq.{take_all}
use borrow.Author.Tests.{ltb-true, ltb-false}
use Rattle.token.specs.Format.{Grouped, final, group, groups_value, shortest}
use Rattle.std.specs.Prelude.{Result, Ok, Err}
use Rattle.token.specs.Answer.{Token, value}
use Rattle.token.proofs.Parts.{value_parts}
use Rattle.token.proofs.Theorems.{grouped_reads, shortest_reads_back}
use Rattle.text.proofs.Groups.{groups_one, groups_more, groups_few}
use Rattle.circuit.specs.Walk.{Pair, first_code}
use Rattle.circuit.specs.Ordered.{Ordered, first_latch, no_pair, sources_of}
use Rattle.circuit.specs.Outcome.{limit, total, onto}
use Rattle.lines.specs.declared.Header.{Header}
use Rattle.lines.specs.Reading.{got}
use Rattle.lines.specs.Lines.{LatchLine}
use Rattle.lines.specs.Limits.{Within}
use Rattle.lines.specs.Sections.{Roots, roots_of, top_code, root_count, header_at}
use Rattle.lines.specs.Spelling.{Row, Latches, Rooting}
use Rattle.lines.proofs.Heads.{two}
use Rattle.sections.specs.Bytes.{latches_bytes, after_tag, roots_bytes}
use Rattle.sections.specs.Claims.{latch_lines_of}
use Rattle.sections.proofs.Spelled.{in_a_row, at_last, nexts_back, resets_back}
use Rattle.sections.proofs.Theorems.{latches_spelled, header_spelled, roots_spelled}
use Rattle.ordered.specs.declared.given.Fault.{Fault}
use Rattle.ordered.specs.declared.given.Fault.TheVariants.{Short}
use Rattle.ordered.specs.Check.{Words, words_of, Checked, fits, checked}
use Rattle.ordered.specs.WellOrdered.{latches_of}
use Rattle.ordered.specs.Given.{Given}
use Rattle.circuit.proofs.Resets.{stray_exactly}
use Rattle.ordered.proofs.Exactly.{resets_within}
use Rattle.ordered.proofs.Laid.{pairs_of_words}
use Rattle.ordered.proofs.Theorems.{fits_exactly, always_fits}
use Rattle.binary.specs.File.{File, Room, tag, counts_of, file_with, body_at, read_file}
use Rattle.binary.specs.Spelling.{Delta, Gate, Gates, Sized, Listed, Spells}
use Rattle.binary.specs.declared.Unwritten.{Unwritten}
use Rattle.binary.specs.Write.{header_for, gate_bytes, gates_bytes, parts_of, file_of, file_in, unwritten, Writing, wrote, written_to, written_as, writing}
use Rattle.binary.specs.Sound.{Sound, Holds}
use Rattle.binary.proofs.Reading.{nothing_good_refused}
use Rattle.binary.proofs.Whole.{body_announced}
use Rattle.binary.proofs.Known.{read_known}

-- deltas

-- a number is written by one byte, or by one and those of a smaller number
shortest_grouped : (most d : ℕ) → d ≤ most → d < 2 ^ 56 → Grouped (shortest d)
shortest_grouped zero d low fits = subst⁻¹ Grouped (groups_one d (omega arith)) (final (omega arith))
shortest_grouped (suc most) d low fits = go (ltb d 128) refl (λ big. shortest_grouped most (d / 128) (omega arith) (omega arith))
  where
    go : (b : Bool) → ltb d 128 ≡ b → (128 ≤ d → Grouped (shortest (d / 128))) → Grouped (shortest d)
    go true e rest = subst⁻¹ Grouped (groups_one d (ltb-true d 128 e)) (final (ltb-true d 128 e))
    go false e rest =
        let big = ltb-false d 128 e in
        subst⁻¹ Grouped (groups_more d big fits) (group (omega arith) (omega arith) (rest big))

same_value : {t : Token} {a b n : ℕ} → t ≡ value a n → t ≡ value b n → a ≡ b
same_value e f = (value_parts (sym e ∙ f)).0

delta_spelled : (reference v d : ℕ) → v ≤ reference → d ≡ reference - v → d < 2 ^ 56 → Delta reference v (shortest d)
delta_spelled reference v d low e fits =
    let g : Grouped (shortest d) = shortest_grouped d d (omega arith) fits in
    let few : length (shortest d) ≤ 8 = groups_few d fits in
    let means : groups_value (shortest d) ≡ d = same_value (grouped_reads (shortest d) g few [] []) (shortest_reads_back d fits [] []) in
    (low, g, few, means ∙ e)

-- gates

gate_spelled : (n k code : ℕ) (p : Pair) → code ≡ first_code n + 2 * k → p.smaller ≤ p.larger → p.larger < first_code n + 2 * k
    → first_code n + 2 * k < 2 ^ 56 → Gate n k p (gate_bytes code p)
gate_spelled n k code p e falls below fits =
    let first : Delta (first_code n + 2 * k) p.larger (shortest (code - p.larger)) =
    delta_spelled (first_code n + 2 * k) p.larger (code - p.larger) (omega arith) (omega arith) (omega arith) in
    let second : Delta p.larger p.smaller (shortest (p.larger - p.smaller)) =
    delta_spelled p.larger p.smaller (p.larger - p.smaller) falls refl (omega arith) in
    let known : ℕ → Pair = λ b. record { larger = p.larger; smaller = b } in
    (below, in_a_row p.larger (shortest (code - p.larger)) (shortest (p.larger - p.smaller)) first (at_last known p.smaller second refl))

gates_spelled : (n k code : ℕ) (gs : List Pair) → code ≡ first_code n + 2 * k
    → ((j : ℕ) → j < length gs → ((get_or gs j no_pair).smaller ≤ (get_or gs j no_pair).larger) × ((get_or gs j no_pair).larger < first_code n + 2 * (k + j)))
    → first_code n + 2 * (k + length gs) < 2 ^ 56 → Row (Gate n) k gs (gates_bytes code gs)
gates_spelled n k code [] e falls fits = refl
gates_spelled n k code (p ∷ ps) e falls fits =
    let here : (p.smaller ≤ p.larger) × (p.larger < first_code n + 2 * (k + 0)) = falls 0 (omega arith) in
    let gate : Gate n k p (gate_bytes code p) = gate_spelled n k code p e here.0 (omega (arith, here.1)) (omega arith) in
    let rest : Row (Gate n) (suc k) ps (gates_bytes (code + 2) ps) =
    gates_spelled n (suc k) (code + 2) ps (omega arith) (λ j h. later j (falls (suc j) (omega arith))) (omega arith) in
    (gate_bytes code p, gates_bytes (code + 2) ps, gate, rest, refl)
  where
    later : (j : ℕ) → ((get_or ps j no_pair).smaller ≤ (get_or ps j no_pair).larger) × ((get_or ps j no_pair).larger < first_code n + 2 * (k + suc j))
        → ((get_or ps j no_pair).smaller ≤ (get_or ps j no_pair).larger) × ((get_or ps j no_pair).larger < first_code n + 2 * (suc k + j))
    later j (a, b) = (a, omega arith)

codes_fit : (n m : ℕ) → n + m ≤ limit → first_code n + 2 * (0 + m) < 2 ^ 56
unfolding first_code
codes_fit n m few = omega arith

-- the row of counts

five_counts : (l : List ℕ) → length l ≡ 5 → l ≡ get_or l 0 0 ∷ get_or l 1 0 ∷ get_or l 2 0 ∷ get_or l 3 0 ∷ get_or l 4 0 ∷ []
five_counts [] e = absurd (omega arith)
five_counts (o ∷ []) e = absurd (omega arith)
five_counts (o ∷ b ∷ []) e = absurd (omega arith)
five_counts (o ∷ b ∷ c ∷ []) e = absurd (omega arith)
five_counts (o ∷ b ∷ c ∷ f ∷ []) e = absurd (omega arith)
five_counts (o ∷ b ∷ c ∷ f ∷ j ∷ []) e = refl
five_counts (o ∷ b ∷ c ∷ f ∷ j ∷ x ∷ l) e = absurd (omega arith)

-- the whole file

module _ (f : File) (k : Sound f) where
  pub its_counts : f.ordered.counts ≡ counts_of (header_for f) f.sizes
  its_counts =
      let cs : List ℕ = f.ordered.counts in
      five_counts cs k.five ∙ ap (λ (j : ℕ). get_or cs 0 0 ∷ get_or cs 1 0 ∷ get_or cs 2 0 ∷ get_or cs 3 0 ∷ j ∷ []) (sym k.sizes)

  pub its_roots : length f.ordered.roots ≡ root_count (header_for f) (total f.sizes)
  its_roots =
      let sum : total f.ordered.counts ≡ total (counts_of (header_for f) f.sizes) = ap total its_counts in
      omega (arith, sum, k.well_ordered.counts)

  pub its_header : Within (header_for f)
  its_header =
      record {
        top = k.well_ordered.variables;
        defined = omega arith;
        outputs = omega (arith, its_roots, k.well_ordered.few);
        bad = omega (arith, its_roots, k.well_ordered.few);
        constraints = omega (arith, its_roots, k.well_ordered.few);
        justice = k.sets;
        fairness = omega (arith, its_roots, k.well_ordered.few);
      }

  module _ (room : Room) (fits : Holds room f) where
    abbrev h : Header
    h = header_for f

    abbrev O : Ordered
    O = f.ordered

    abbrev r : Roots
    r = roots_of f.sizes f.ordered.roots

    abbrev lines : List LatchLine
    lines = latch_lines_of f.ordered.nexts f.ordered.resets

    latches : Latches (top_code h) (first_latch h.inputs) h.latches lines (latches_bytes O.nexts O.resets)
    latches =
        latches_spelled (top_code h) (first_latch O.inputs) O.nexts O.resets (sym k.well_ordered.reset_count) k.well_ordered.nexts
        (resets_within O k.well_ordered.reset_count k.well_ordered.resets) (omega (arith, k.well_ordered.variables))
        ((stray_exactly (latches_of O) O.resets).1 k.well_ordered.resets)

    roots : Rooting h (top_code h) room.roots r (roots_bytes h r)
    roots =
        roots_spelled h (top_code h) room.roots r refl its_roots (omega (arith, its_roots, k.well_ordered.few)) (omega (arith, its_roots, fits.roots))
        (omega (arith, k.well_ordered.variables)) k.well_ordered.roots

    gates : Gates (h.inputs + h.latches) h.gates O.gates (gates_bytes (first_code (sources_of O)) O.gates)
    gates =
        let n : ℕ = sources_of O in (
          refl,
          gates_spelled n 0 (first_code n) O.gates (omega arith) (λ j i. from_zero j (k.well_ordered.gates j i))
              (codes_fit n (length O.gates) k.well_ordered.variables),
        )
      where
        from_zero : (j : ℕ) → ((get_or O.gates j no_pair).smaller ≤ (get_or O.gates j no_pair).larger)
            × ((get_or O.gates j no_pair).larger < first_code (sources_of O) + 2 * j)
            → ((get_or O.gates j no_pair).smaller ≤ (get_or O.gates j no_pair).larger)
            × ((get_or O.gates j no_pair).larger < first_code (sources_of O) + 2 * (0 + j))
        from_zero j (a, b) = (a, omega arith)

    its_parts : f ≡ file_with h lines r O.gates
    its_parts =
        ap (with_counts O.nexts O.resets) its_counts
        ∙ ap₂ (λ (ns rs : List ℕ). with_counts ns rs (counts_of h f.sizes))
        (sym (nexts_back O.nexts O.resets (sym k.well_ordered.reset_count)))
        (sym (resets_back O.nexts O.resets (sym k.well_ordered.reset_count)))
      where
        with_counts : List ℕ → List ℕ → List ℕ → File
        with_counts ns rs cs =
            record {
              ordered = record { inputs = O.inputs; nexts = ns; resets = rs; gates = O.gates; counts = cs; roots = O.roots };
              sizes = f.sizes;
            }

    pub file_spelled : Spells room f (file_of f)
    unfolding parts_of
    file_spelled =
        let behind : List ℕ = roots_bytes h r ++ gates_bytes (first_code (sources_of O)) O.gates in
        let lists : List ℕ = latches_bytes O.nexts O.resets ++ behind in
        let sized : Sized h room tt [] =
        (omega arith, record { nexts_fit = fits.nexts; resets_fit = omega (arith, fits.resets, k.well_ordered.reset_count); gates_fit = fits.gates; sizes_fit = fits.sizes }, refl) in
        let known : List Pair → File = λ gs. file_with h lines r gs in
        let listed : Listed room h f lists =
        in_a_row lines (latches_bytes O.nexts O.resets) behind latches
        (in_a_row r (roots_bytes h r) (gates_bytes (first_code (sources_of O)) O.gates) roots (at_last known O.gates gates its_parts)) in
        (after_tag h ++ lists, refl, in_a_row h (after_tag h) lists (header_spelled h its_header) (in_a_row tt [] lists sized listed))

    pub reads_back_lem : (after : List ℕ) → read_file (file_of f ++ after) room ≡ got f (length (file_of f))
    reads_back_lem after = nothing_good_refused room f (file_of f) after file_spelled

-- a file that was read can be written
pub read_sound : (s : List ℕ) (room : Room) (f : File) (n : ℕ) → read_file s room ≡ got f n → Sound f
unfolding read_file
read_sound s room f n e =
    let t = two (header_at s tag) (λ h at. body_at s room h at) f n e in
    let counts : f.ordered.counts ≡ counts_of t.first f.sizes = (body_announced s room t.first t.place f n t.then).counts in
    let known = read_known s room f n e in
    record {
      well_ordered = known.well_ordered;
      five = ap length counts;
      sizes = sym (ap (λ (l : List ℕ). get_or l 4 0) counts);
      sets = known.sets;
    }

-- and its lists hold it
pub read_holds : (s : List ℕ) (room : Room) (f : File) (n : ℕ) → read_file s room ≡ got f n → Holds room f
read_holds s room f n e =
    let known = read_known s room f n e in
    record { nexts = known.nexts_fit; resets = known.resets_fit; gates = known.gates_fit; sizes = known.sizes_fit; roots = known.roots_fit }

-- so can an ordered circuit that is lent with five counts
pub given_sound : (w : Words) → Given w → length w.counts ≡ 5 → Sound (file_in w)
given_sound w g five = record { well_ordered = g.ordered; five = five; sizes = g.sizes; sets = g.sets }

-- a file that can be written passes the checks as it is lent, and its bytes are written where they fit
pub sound_fits : (f : File) → Sound f → checked (words_of f.ordered f.sizes) 0 ≡ fits
sound_fits f k = always_fits f.ordered f.sizes k.well_ordered k.sets k.sizes 0 (omega arith)

lent_back : (f : File) → file_in (words_of f.ordered f.sizes) ≡ f
lent_back f = ap with_gates_lem (pairs_of_words f.ordered.gates)
  where
    with_gates_lem : List Pair → File
    with_gates_lem gs =
        record {
          ordered =
              record {
                inputs = f.ordered.inputs;
                nexts = f.ordered.nexts;
                resets = f.ordered.resets;
                gates = gs;
                counts = f.ordered.counts;
                roots = f.ordered.roots;
              };
          sizes = f.sizes;
        }

pub sound_written : (f : File) → Sound f → (out : List ℕ) → writing (words_of f.ordered f.sizes) out ≡ written_to (file_of f) out
unfolding writing
sound_written f k out =
    ap (λ (c : Checked). written_as c (file_of (file_in (words_of f.ordered f.sizes))) out) (sound_fits f k)
    ∙ ap (λ (g : File). written_to (file_of g) out) (lent_back f)

-- what writing answers, and the bytes that it leaves

-- bytes that are written are the file, whatever it is, and what stood behind it; and the checks were passed
pub written_front : (c : Checked) (file out bytes : List ℕ) (n : ℕ) → written_as c file out ≡ wrote (Ok n) bytes
    → (c ≡ fits) × (length file ≡ n) × (bytes ≡ file ++ drop (length file) out)
written_front (Ok u) file out bytes n e = go (ltb (length out) (length file)) refl e
  where
    go : (b : Bool) → ltb (length out) (length file) ≡ b
        → cond b (wrote (unwritten Short (length file)) out) (wrote (Ok (length file)) (onto file out)) ≡ wrote (Ok n) bytes
        → (◌≡◌ {A = Checked} (Ok u) fits) × (length file ≡ n) × (bytes ≡ file ++ drop (length file) out)
    go true f g =
        let answer : unwritten Short (length file) ≡ Ok n = ap (λ (x : Writing). x.answer) g in
        absurd (let z : ◌≡◌ {A = ℕ} 0 1 = cc in omega arith)
    go false f g =
        let answer : ◌≡◌ {A = Result ℕ Unwritten} (Ok (length file)) (Ok n) = ap (λ (x : Writing). x.answer) g in
        let used : length file ≡ n = cc in
        let whole : take (length out) file ≡ file = take_all (length out) file (ltb-false (length out) (length file) f) in
        (refl, used, sym (ap (λ (x : Writing). x.bytes) g) ∙ ap (λ (l : List ℕ). l ++ drop (length file) out) whole)
written_front (Err why) file out bytes n e =
    let answer : unwritten why 0 ≡ Ok n = ap (λ (x : Writing). x.answer) e in
    absurd (let z : ◌≡◌ {A = ℕ} 0 1 = cc in omega arith)

-- so they are read as the circuit that was lent
pub written_is_read : (w : Words) (out bytes : List ℕ) (n : ℕ) → writing w out ≡ wrote (Ok n) bytes → length w.counts ≡ 5 → (room : Room)
    → Holds room (file_in w) → read_file bytes room ≡ got (file_in w) n
unfolding writing
written_is_read w out bytes n e five room fits =
    let t = written_front (checked w 0) (file_of (file_in w)) out bytes n e in
    let sound = given_sound w ((fits_exactly w 0).0 t.0).0 five in
    ap (λ (l : List ℕ). read_file l room) t.2 ∙ reads_back_lem (file_in w) sound room fits (drop (length (file_of (file_in w))) out) ∙ ap (got (file_in w)) t.1

-- a refusal leaves the lent bytes as they were, whatever file was to be written
pub refused_keeps : (c : Checked) (file out bytes : List ℕ) (why : Fault) (needed : ℕ) → written_as c file out ≡ wrote (unwritten why needed) bytes
    → bytes ≡ out
refused_keeps (Ok u) file out bytes why needed e = go (ltb (length out) (length file)) e
  where
    go : (b : Bool) → cond b (wrote (unwritten Short (length file)) out) (wrote (Ok (length file)) (onto file out)) ≡ wrote (unwritten why needed) bytes
        → bytes ≡ out
    go true g = sym (ap (λ (x : Writing). x.bytes) g)
    go false g =
        let answer : Ok (length file) ≡ unwritten why needed = ap (λ (x : Writing). x.answer) g in
        absurd (let z : ◌≡◌ {A = ℕ} 0 1 = cc in omega arith)
refused_keeps (Err because) file out bytes why needed e = sym (ap (λ (x : Writing). x.bytes) e)

pub refusals_keep : (w : Words) (out bytes : List ℕ) (why : Fault) (needed : ℕ) → writing w out ≡ wrote (unwritten why needed) bytes → bytes ≡ out
unfolding writing
refusals_keep w = refused_keeps (checked w 0) (file_of (file_in w))
