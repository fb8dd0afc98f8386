-- Writing what was read. Every part of a spelling is ours or longer than ours, so a file that is as long as ours is ours part by part; and each part is ours
-- exactly where it is spelled plainly. Assumes nothing.
use Prim.Native.Nat.{ℕ, zero, suc, ◌+◌, ◌-◌, ◌*◌, ◌≤◌}
use mathlib.Core.Path.{◌≡◌, refl, sym, ap, ◌∙◌, subst⁻¹}
use mathlib.Core.Bool.{Bool, true, false}
use mathlib.Core.Logic.{◌↔◌}
use mathlib.Core.List.{List, [], ◌∷◌, ◌++◌, append-nil}
use native.Mathlib.Omega.{arith}
use lib.Dec.{ltb}
use lib.ListN.{length, take, length-append, length-map}
use lib.Seq.{take_all, take-length, length-take-le}
use borrow.Author.Tests.{ltb-true, ltb-false}
use Rattle.token.specs.Format.{Bytes, Grouped, final, group, shortest}
use Rattle.token.specs.Answer.{value, inputs, binary_at, delta_at, pair_at}
use Rattle.token.proofs.Theorems.{grouped_reads, shortest_is_least, shortest_is_only, delta_from_reference, pair_exactly}
use Rattle.circuit.specs.Walk.{Pair, first_code}
use Rattle.circuit.specs.Ordered.{first_latch}
use Rattle.lines.specs.declared.Header.{Header}
use Rattle.lines.specs.Reading.{got}
use Rattle.lines.specs.Lines.{LatchLine, nexts_of, resets_of}
use Rattle.lines.specs.Sections.{Roots, top_code, header_of}
use Rattle.lines.specs.Spelling.{Row, HeaderCounts, Rooting}
use Rattle.sections.specs.Bytes.{latches_bytes, up_to_last, after_tag, roots_bytes}
use Rattle.sections.specs.Claims.{Least, spelled_options}
use Rattle.sections.proofs.Ours.{Told, same, longer, told_least, told_exactly, told_both, told_of}
use Rattle.sections.proofs.Theorems.{latches_least, latches_exactly, header_least, header_exactly, roots_only}
use Rattle.binary.specs.File.{File, Room, tag, file_with, read_file}
use Rattle.binary.specs.Spelling.{Delta, Gate, Listed, Body, Spells}
use Rattle.binary.specs.Write.{header_for, gate_bytes, gates_bytes, parts_of, file_of}
use Rattle.binary.specs.Plain.{Fewest, ShortestGate, ShortestGates, ResetsPlain, ShortestDeltas, Plain}
use Rattle.binary.proofs.Reading.{exactly_spelled}

-- ours, or longer

told_by : {P : Type 0} (ours w : List ℕ) → Least ours w → ((w ≡ ours) ↔ P) → Told P ours w
told_by {P} ours w least exactly = go (ltb (length ours) (length w)) refl
  where
    go : (b : Bool) → ltb (length ours) (length w) ≡ b → Told P ours w
    go true e =
        let more = ltb-true (length ours) (length w) e in
        longer (λ p. omega (arith, more, ap length (exactly.1 p))) more
    go false e =
        let whole : w ≡ ours = least.only (omega (arith, ltb-false (length ours) (length w) e, least.fewest)) in
        same (exactly.0 whole) whole

told_for : {P Q : Type 0} {ours w : List ℕ} → (P → Q) → (Q → P) → Told P ours w → Told Q ours w
told_for to from (same p e) = same (to p) e
told_for to from (longer n m) = longer (λ q. n (from q)) m

-- behind the same bytes
told_behind : {P : Type 0} {a x : List ℕ} (front : List ℕ) → Told P a x → Told P (front ++ a) (front ++ x)
told_behind front (same p e) = same p (ap (λ (l : List ℕ). front ++ l) e)
told_behind {P} {a} {x} front (longer n m) = longer n (omega (arith, length-append front a, length-append front x))

-- deltas and gates

grouped_bytes : {bs : List ℕ} → Grouped bs → Bytes bs
grouped_bytes (final h) zero = omega arith
grouped_bytes (final h) (suc i) = omega arith
grouped_bytes (group on small g) zero = small
grouped_bytes (group on small g) (suc i) = grouped_bytes g i

delta_told : (reference v : ℕ) (w : List ℕ) → Delta reference v w → Told (Fewest w) (shortest (reference - v)) w
delta_told reference v w (low, g, few, means) =
    let d : ℕ = reference - v in
    let read : binary_at w 0 ≡ value d (length w) =
    ap (λ (l : List ℕ). binary_at l 0) (sym (append-nil w)) ∙ grouped_reads w g few [] [] ∙ ap (λ (x : ℕ). value x (length w)) means in
    let least : Least (shortest d) w =
    record {
      fewest = shortest_is_least w 0 d (length w) read;
      only = λ e. sym (take-length w) ∙ shortest_is_only w 0 d (length w) (grouped_bytes g) read (sym e);
    } in
    told_by (shortest d) w least
    (λ e. ap length e ∙ ap (λ (x : ℕ). length (shortest x)) (sym means), λ e. least.only (e ∙ ap (λ (x : ℕ). length (shortest x)) means))

gate_told : (n k : ℕ) (p : Pair) (w : List ℕ) (t : Gate n k p w) → Told (ShortestGate n k p w t) (gate_bytes (first_code n + 2 * k) p) w
gate_told n k p w (below, t) =
    let u = t.second in
    let joined : w ≡ t.front ++ u.front =
    t.joined ∙ ap (λ (l : List ℕ). t.front ++ l) (u.joined ∙ ap (λ (l : List ℕ). u.front ++ l) u.second.1 ∙ append-nil u.front) in
    told_of (ap (gate_bytes (first_code n + 2 * k)) u.second.0) joined
    (told_both (delta_told (first_code n + 2 * k) t.middle t.front t.first) (delta_told t.middle u.middle u.front u.first))

gates_told_lem : (n k code : ℕ) (gs : List Pair) (w : List ℕ) (t : Row (Gate n) k gs w) → code ≡ first_code n + 2 * k
    → Told (ShortestGates n gs k w t) (gates_bytes code gs) w
gates_told_lem n k code [] w e at = same tt e
gates_told_lem n k code (p ∷ ps) w (x, y, t, u, e) at =
    told_of (ap (λ (c : ℕ). gate_bytes c p ++ gates_bytes (code + 2) ps) at) e
    (told_both (gate_told n k p x t) (gates_told_lem n (suc k) (code + 2) ps y u (omega arith)))

-- the header of a spelling is the one that is written

abbrev header_by : Header → ℕ → ℕ → ℕ → ℕ → Header
header_by h m l a j =
    record {
      top = m;
      inputs = h.inputs;
      latches = l;
      outputs = h.outputs;
      gates = a;
      bad = h.bad;
      constraints = h.constraints;
      justice = j;
      fairness = h.fairness;
    }

header_by_lem : (h : Header) {m l a j : ℕ} → m ≡ h.top → l ≡ h.latches → a ≡ h.gates → j ≡ h.justice → header_by h m l a j ≡ h
header_by_lem h {m} {l} {a} {j} p q r s =
    ap (λ (x : ℕ). header_by h x l a j) p ∙ ap (λ (x : ℕ). header_by h h.top x a j) q ∙ ap (λ (x : ℕ). header_by h h.top h.latches x j) r
    ∙ ap (λ (x : ℕ). header_by h h.top h.latches h.gates x) s

-- its limits leave I + L + A within M
counts_within : (h : Header) (w : List ℕ) → HeaderCounts h w → h.inputs + h.latches + h.gates ≤ h.top
counts_within h w t =
    let i = t.second in
    let l = i.second in
    let o = l.second in
    let a = o.second in
    let all : h ≡ header_of t.middle i.middle l.middle o.middle a.middle a.second.middle = a.second.second.0 in
    subst⁻¹ (λ (x : Header). x.inputs + x.latches + x.gates ≤ x.top) all
    (omega (arith, i.first.second.0, l.first.second.0, a.first.second.0))

sets_counted : (h : Header) (most room : ℕ) (r : Roots) (w : List ℕ) → Rooting h most room r w → length r.sizes ≡ h.justice
sets_counted h most room r w t =
    let rest = t.second in
    let sizes = rest.first in
    ap (λ (p : Roots). length p.sizes) rest.second.0 ∙ ap (λ (p : Roots). length p.sizes) sizes.second.second.0 ∙ sizes.first.0

file_parts : (h : Header) (ls : List LatchLine) (r : Roots) (gates : List Pair) → length (nexts_of ls) ≡ h.latches → header_for (file_with h ls r gates) ≡ h
    → file_of (file_with h ls r gates)
    ≡ tag ++ (after_tag h ++ (latches_bytes (nexts_of ls) (resets_of ls) ++ (roots_bytes h r ++ gates_bytes (first_code (h.inputs + h.latches)) gates)))
unfolding parts_of
file_parts h ls r gates e k =
    ap (λ (x : Header). parts_of x (nexts_of ls) (resets_of ls) r.sizes r.roots (h.inputs + length (nexts_of ls)) gates) k
    ∙ ap (λ (n : ℕ). parts_of h (nexts_of ls) (resets_of ls) r.sizes r.roots (h.inputs + n) gates) e

-- the whole file

module _ (room : Room) (f : File) (v : List ℕ) (t : Body room f v) where
  abbrev h : Header
  h = t.middle

  abbrev lists : Listed room h f t.second.back
  lists = t.second.second

  abbrev latch_lines : List LatchLine
  latch_lines = lists.middle

  abbrev our_latches : List ℕ
  our_latches = latches_bytes (nexts_of latch_lines) (resets_of latch_lines)

  abbrev roots : Roots
  roots = lists.second.middle

  abbrev gates : List Pair
  gates = lists.second.second.middle

  its_latches : length (nexts_of latch_lines) ≡ h.latches
  its_latches = length-map latch_lines (λ l. l.next) ∙ lists.first.0

  its_gates : length gates ≡ h.gates
  its_gates = lists.second.second.first.0

  its_header : header_for (file_with h latch_lines roots gates) ≡ h
  its_header =
      let top : h.inputs + length (nexts_of latch_lines) + length gates ≡ h.top =
      omega (arith, counts_within h t.front t.first, t.second.first.0, its_latches, its_gates) in
      header_by_lem h top its_latches its_gates (sets_counted h (top_code h) room.roots roots lists.second.front lists.second.first)

  ours : file_of f ≡ tag ++ (after_tag h ++ (our_latches ++ (roots_bytes h roots ++ gates_bytes (first_code (h.inputs + h.latches)) gates)))
  ours = ap file_of lists.second.second.second.0 ∙ file_parts h latch_lines roots gates its_latches its_header

  -- nothing stands between the header and the latch lines, or behind the gates
  theirs : v ≡ t.front ++ (lists.front ++ (roots_bytes h roots ++ lists.second.second.front))
  theirs =
      let g = lists.second.second in
      let last : lists.second.back ≡ g.front = g.joined ∙ ap (λ (l : List ℕ). g.front ++ l) g.second.1 ∙ append-nil g.front in
      let rooted : lists.back ≡ roots_bytes h roots ++ g.front =
      lists.second.joined
      ∙ ap (λ (l : List ℕ). l ++ lists.second.back) (roots_only h (top_code h) room.roots roots lists.second.front lists.second.first)
      ∙ ap (λ (l : List ℕ). roots_bytes h roots ++ l) last in
      let latched : t.second.back ≡ lists.front ++ (roots_bytes h roots ++ g.front) = lists.joined ∙ ap (λ (l : List ℕ). lists.front ++ l) rooted in
      let sized : t.back ≡ t.second.back = t.second.joined ∙ ap (λ (l : List ℕ). l ++ t.second.back) t.second.first.2 in
      t.joined ∙ ap (λ (l : List ℕ). t.front ++ l) (sized ∙ latched)

  abbrev OptionsPlain : Type 0
  OptionsPlain = up_to_last (spelled_options h t.front t.first) ≡ spelled_options h t.front t.first

  abbrev AllPlain : Type 0
  AllPlain = OptionsPlain × (ResetsPlain room h f t.second.back lists × ShortestDeltas room h f t.second.back lists)

  parts_told : Told AllPlain (file_of f) (tag ++ v)
  parts_told =
      let header : Told OptionsPlain (after_tag h) t.front =
      told_by (after_tag h) t.front (header_least h t.front t.first) (header_exactly h t.front t.first) in
      let latches : Told (ResetsPlain room h f t.second.back lists) our_latches lists.front =
      told_by our_latches lists.front
      (latches_least (top_code h) (first_latch h.inputs) h.latches latch_lines lists.front lists.first)
      (latches_exactly (top_code h) (first_latch h.inputs) h.latches latch_lines lists.front lists.first) in
      let deltas : Told (ShortestDeltas room h f t.second.back lists) (gates_bytes (first_code (h.inputs + h.latches)) gates)
      lists.second.second.front =
      gates_told_lem (h.inputs + h.latches) 0 (first_code (h.inputs + h.latches)) gates lists.second.second.front lists.second.second.first.1
      (omega arith) in
      told_of ours (ap (λ (l : List ℕ). tag ++ l) theirs)
      (told_behind tag (told_both header (told_both latches (told_behind (roots_bytes h roots) deltas))))

plain-told : (room : Room) (f : File) (w : List ℕ) (t : Spells room f w) → Told (Plain room f w t) (file_of f) w
plain-told room f w (v, e, t) =
    told_of refl e
    (told_for {P = AllPlain room f v t} (λ p. record { options = p.0; resets = p.1.0; deltas = p.1.1 }) (λ p. (p.options, (p.resets, p.deltas)))
    (parts_told room f v t))

-- a spelling is ours exactly where it is plain
pub plain_exactly : (room : Room) (f : File) (w : List ℕ) (t : Spells room f w) → (w ≡ file_of f) ↔ Plain room f w t
plain_exactly room f w t = told_exactly (plain-told room f w t)

-- no spelling is shorter than ours, and one as long is ours
pub file_least : (room : Room) (f : File) (w : List ℕ) → Spells room f w → Least (file_of f) w
file_least room f w t = told_least (plain-told room f w t)

-- what was read

module _ (s : List ℕ) (room : Room) (f : File) (n : ℕ) (small : Bytes s) (read : read_file s room ≡ got f n) where
  front_least : (n ≤ length s) × Least (file_of f) (take n s)
  front_least =
      let spelled = (exactly_spelled s room f n small).0 read in
      (spelled.0, file_least room f (take n s) (front_spelled spelled))
    where
      front_spelled : (n ≤ length s) × Spells room f (take n s) → Spells room f (take n s)
      front_spelled (inside, t) = t

  pub as_long_is_same : (length (file_of f) ≤ n) × (length (file_of f) ≡ n → take n s ≡ file_of f)
  as_long_is_same = go front_least
    where
      go : (n ≤ length s) × Least (file_of f) (take n s) → (length (file_of f) ≤ n) × (length (file_of f) ≡ n → take n s ≡ file_of f)
      go (inside, least) =
          let long = length-take-le n s inside in
          (omega (arith, long, least.fewest), λ e. least.only (long ∙ sym e))

  pub same_bytes : (t : Spells room f (take n s)) → (file_of f ≡ s) ↔ ((n ≡ length s) × Plain room f (take n s) t)
  same_bytes t = (to, from)
    where
      inside : n ≤ length s
      inside = front_least.0

      to : file_of f ≡ s → (n ≡ length s) × Plain room f (take n s) t
      to e =
          let end : n ≡ length s = omega (arith, inside, as_long_is_same.0, ap length e) in
          (end, (plain_exactly room f (take n s) t).0 (as_long_is_same.1 (ap length e ∙ sym end)))

      from : (n ≡ length s) × Plain room f (take n s) t → file_of f ≡ s
      from (end, plain) = sym ((plain_exactly room f (take n s) t).1 plain) ∙ take_all n s (omega (arith, end))

-- fewest bytes

delta_fewest : (s : List ℕ) (at reference v n : ℕ) → delta_at s at reference ≡ value v n → length (shortest (reference - v)) ≤ n
delta_fewest s at reference v n e = shortest_is_least s at (reference - v) n (delta_from_reference s at reference v n e).1

-- whatever bytes are read as a delta of a gate, or as the gate, are at least as many as ours
pub fewest_bytes : (code : ℕ) (p : Pair) (s : List ℕ) (at n : ℕ)
    → (delta_at s at code ≡ value p.larger n → length (shortest (code - p.larger)) ≤ n)
    × (delta_at s at p.larger ≡ value p.smaller n → length (shortest (p.larger - p.smaller)) ≤ n)
    × (pair_at s at code ≡ inputs p.larger p.smaller n → length (gate_bytes code p) ≤ n)
fewest_bytes code p s at n = (delta_fewest s at code p.larger n, delta_fewest s at p.larger p.smaller n, both)
  where
    both : pair_at s at code ≡ inputs p.larger p.smaller n → length (gate_bytes code p) ≤ n
    both e =
        let q = (pair_exactly s at code p.larger p.smaller n).0 e in
        omega (
          arith,
          length-append (shortest (code - p.larger)) (shortest (p.larger - p.smaller)),
          delta_fewest s at code p.larger q.n q.first,
          delta_fewest s (at + q.n) p.larger p.smaller q.m q.second,
          q.bytes,
        )
