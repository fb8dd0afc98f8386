-- The checks, the records laid flat, and the rest come to the outcome with records. The checks on lengths and on the records say what those on the
-- records laid flat say; where they pass, no refusal that writes nothing can be answered; and the words that the records took are the first of the
-- last list. Assumes nothing.
use Rattle.std.specs.Prelude.{Option, Some, None, Ok, Err}
use Rattle.std.specs.Option.{option_or}
use Prim.Native.Nat.{ℕ, ◌+◌, ◌*◌, ◌/◌, ◌%◌, ◌≤◌}
use mathlib.Core.Path.{◌≡◌, refl, sym, ap, ap₂, ◌∙◌, subst⁻¹}
use mathlib.Core.Logic.{inl}
use mathlib.Core.Bool.{Bool, true, false, not, cond, ◌&&◌, true≢false}
use mathlib.Core.List.{List, [], ◌∷◌, ◌++◌}
use native.Mathlib.Omega.{arith}
use lib.Dec.{ltb}
use borrow.Author.Tests.{ltb-false}
use lib.ListN.{length, take, drop, length-replicate}
use lib.Seq.{take_at, drop_at, take-length}
use Rattle.lit.specs.Code.{literal}
use Rattle.lit.specs.declared.Lit.{Lit}
use Rattle.circuit.specs.declared.CircuitRecord.{CircuitRecord}
use Rattle.circuit.specs.declared.Refusal.{Refusal}
use Rattle.circuit.specs.declared.Refusal.TheVariants as Refusals
use Rattle.circuit.specs.declared.Refusal.TheVariants.{TooBig, Misshapen, Short, Over, Reset, StateAgain, Undefined, Cycle}
use Rattle.circuit.specs.Walk.{Out, reached, stopped}
use Rattle.circuit.specs.Circuit.{Circuit, gate_codes, latch_codes, codes, first_over, first_stray, renumber}
use Rattle.circuit.specs.Outcome.{Lent, Outcome, lent_of, circuit_of, gates_of, too_big, misshapen, too_short, conclusion, onto, zeros, untouched, cleared, is_early, outcome}
use Rattle.circuit.specs.Tested.{Fits, Tested}
use Rattle.circuit.specs.Graph.{In}
use Rattle.circuit.proofs.Lists.{In-right}
use Rattle.circuit.proofs.Checks.{no_stray}
use Rattle.circuit.proofs.Outcome.{onto_long, Concluded, concluded, bounds, all_reset_lem, refusal_of, success_of, conclusion_of}
use Rattle.aig_records.specs.declared.GateRecord.{GateRecord}
use Rattle.aig_records.specs.Records.{record_words, flat_of, laid_onto}
use Rattle.checks.specs.declared.Lengths.{Lengths}
use Rattle.checks.specs.Checks.{Check, passed, found, fail_if, sizing, lengths_of}
use Rattle.checks.proofs.Sizes.{sizing_is}
use Rattle.checks.proofs.Offenders.{over-append}
use Rattle.aig_records.specs.Checks.{first_in, over_all, verdict, checked_of}
use Rattle.aig_records.specs.Outcome.{FlatOutcome, with_flat, flat_short, flat_after, outcome_of_records, finished}
use Rattle.aig_records.proofs.Flat.{flat_length}

-- records laid flat, as gates
flat_count : (gs : List GateRecord) → length (gates_of (flat_of gs)) ≡ length gs
flat_count [] = refl
flat_count (g ∷ gs) = omega (arith, flat_count gs)

flat_codes : (gs : List GateRecord) → gate_codes (gates_of (flat_of gs)) ≡ flat_of gs
flat_codes [] = refl
flat_codes (g ∷ gs) = ap (λ (l : List ℕ). record_words g ++ l) (flat_codes gs)

-- where checks 1 to 4 and 22 pass, the words that the records took are 0 afterwards
module _ (l : Lent) (flat : List ℕ) (p : Tested l) where
  late : (r : Refusal) → Concluded l (stopped r) → is_early r ≡ false
  late TooBig k = absurd (true≢false (sym k ∙ p.fits.one))
  late Misshapen k = absurd (true≢false (sym k.1 ∙ p.fits.two))
  late Short k = absurd (true≢false (sym k.2 ∙ p.fits.three))
  late (Over d) k =
      absurd (omega (
        arith,
        bounds l p d.0 (subst⁻¹ (In d.0) k.1.splits (In-right d.0 k.1.before (d.0 ∷ k.1.after) (inl refl))),
        k.1.is_over,
      ))
  late (Reset d) k = absurd (no_stray l.states l.resets d.0 k.2 (all_reset_lem l p))
  late (Refusals.Again d) k = refl
  late (StateAgain d) k = refl
  late (Undefined d) k = refl
  late (Cycle d) k = refl

  answered_late : (r : Refusal) (b : Bool) → is_early r ≡ b → b ≡ false
      → flat_after l (cond b (untouched l r) (cleared l (circuit_of l) r)).answer flat ≡ onto (zeros (length l.gates)) flat
  answered_late r true e n = absurd (true≢false n)
  answered_late r false e n = ap (λ (b : Bool). cond b flat (onto (zeros (length l.gates)) flat)) e

  pub cleared-after : flat_after l (outcome l).answer flat ≡ onto (zeros (length l.gates)) flat
  cleared-after = go (conclusion l) refl (concluded l)
    where
      go : (o : Out) → conclusion l ≡ o → Concluded l o → flat_after l (outcome l).answer flat ≡ onto (zeros (length l.gates)) flat
      go (reached w) e k = ap (λ (o : Outcome). flat_after l o.answer flat) (success_of l w e)
      go (stopped r) e k =
          ap (λ (o : Outcome). flat_after l o.answer flat) (refusal_of l r e) ∙ answered_late r (is_early r) refl (late r k)

-- the outcome with records, by what the checks say
module _ (l : Lent) (flat : List ℕ) where
  abbrev pub C : Circuit
  C = circuit_of l

  abbrev pub plain : FlatOutcome
  plain = with_flat (outcome l) (flat_after l (outcome l).answer flat)

  pub early : (r : Refusal) → is_early r ≡ true → conclusion l ≡ stopped r → plain ≡ with_flat (untouched l r) flat
  early r n e =
      ap (λ (o : Outcome). with_flat o (flat_after l o.answer flat)) (refusal_of l r e ∙ ap (λ (b : Bool). cond b (untouched l r) (cleared l C r)) n)
      ∙ ap (λ (b : Bool). with_flat (untouched l r) (cond b flat (onto (zeros (length l.gates)) flat))) n

  -- where the checks stop
  stops_1 : too_big C ≡ true → conclusion l ≡ stopped TooBig
  unfolding conclusion
  stops_1 p = rw p

  stops_2 : too_big C ≡ false → misshapen l ≡ true → conclusion l ≡ stopped Misshapen
  unfolding conclusion
  stops_2 p q = rw (p, q)

  stops_3 : too_big C ≡ false → misshapen l ≡ false → too_short l C ≡ true → conclusion l ≡ stopped Short
  unfolding conclusion
  stops_3 p q r = rw (p, q, r)

  stops_4 : Fits l → (c : ℕ) → first_over (2 * C.top + 1) (codes C) ≡ Some c → conclusion l ≡ stopped (Over (literal c))
  unfolding renumber
  stops_4 f c e = conclusion_of l f ∙ rw e

  stops_22 : Fits l → first_over (2 * C.top + 1) (codes C) ≡ None → (c : ℕ) → first_stray l.states l.resets ≡ Some c
      → conclusion l ≡ stopped (Reset (literal c))
  unfolding renumber
  stops_22 f e c s = conclusion_of l f ∙ rw (e, s)

  judged : outcome_of_records l flat ≡ finished (verdict (sizing l.circuit (lengths_of l)) (ltb (length flat) (length l.gates))
      (found (first_over (2 * C.top + 1) (codes C))) (found (first_stray l.states l.resets))) l flat
  unfolding outcome_of_records flat_short
  judged =
      go (too_big C) refl (misshapen l) refl (too_short l C) refl (ltb (length flat) (length l.gates)) (first_over (2 * C.top + 1) (codes C)) refl
      (first_stray l.states l.resets) refl
      ∙ ap (λ (c : Check). finished (verdict c (ltb (length flat) (length l.gates)) (found (first_over (2 * C.top + 1) (codes C)))
      (found (first_stray l.states l.resets))) l flat) (sym (sizing_is l))
    where
      go : (b : Bool) → too_big C ≡ b → (u : Bool) → misshapen l ≡ u → (s : Bool) → too_short l C ≡ s → (f : Bool) → (o : Option ℕ)
          → first_over (2 * C.top + 1) (codes C) ≡ o → (t : Option ℕ) → first_stray l.states l.resets ≡ t
          → cond (not b && not u && f) (with_flat (untouched l Short) flat) plain
          ≡ finished (verdict (fail_if b TooBig (fail_if u Misshapen (fail_if s Short passed))) f (found o) (found t)) l flat
      go true p u q s r f o e t h = early TooBig refl (stops_1 p)
      go false p true q s r f o e t h = early Misshapen refl (stops_2 p q)
      go false p false q true r true o e t h = refl
      go false p false q true r false o e t h = early Short refl (stops_3 p q r)
      go false p false q false r true o e t h = refl
      go false p false q false r false (Some c) e t h = early (Over (literal c)) refl (stops_4 (record { one = p; two = q; three = r }) c e)
      go false p false q false r false None e (Some c) h = early (Reset (literal c)) refl (stops_22 (record { one = p; two = q; three = r }) e c h)
      go false p false q false r false None e None h =
          ap (with_flat (outcome l))
          (cleared-after l flat (record { fits = record { one = p; two = q; three = r }; four = e; twenty_two = h }))

-- where the checks pass, the records' codes have room
pub room_for : (circuit : CircuitRecord) (n : Lengths) (room : ℕ) (inputs states nexts resets : List ℕ) (gates : List GateRecord) (roots : List ℕ) (r : Check)
    → r ≡ checked_of circuit n room inputs states nexts resets gates roots → r ≡ passed → length gates * 3 ≤ room
unfolding checked_of
room_for circuit n room inputs states nexts resets gates roots r e p =
    go (sizing circuit n) (ltb room (3 * length gates)) refl (over_all circuit.top inputs gates states nexts resets roots) (sym e ∙ p)
  where
    go : (c : Check) (s : Bool) → ltb room (3 * length gates) ≡ s → (o : Option Lit) → verdict c s o (found (first_stray states resets)) ≡ passed → length gates * 3 ≤ room
    go (Err why) s q o k = absurd (let z : ◌≡◌ {A = ℕ} 0 1 = cc in omega arith)
    go (Ok u) true q o k = absurd (let z : ◌≡◌ {A = ℕ} 0 1 = cc in omega arith)
    go (Ok u) false q o k = omega (arith, ltb-false room (3 * length gates) q)

module _ (circuit : CircuitRecord) (inputs states nexts resets : List ℕ) (gates : List GateRecord)
    (roots map next_images reset_images root_images gates_out scratch flat : List ℕ) where
  -- the lengths of all lists; records leave no word over
  abbrev lengths : ℕ → ℕ → Lengths
  lengths count left_over =
      record {
        inputs = length inputs;
        states = length states;
        nexts = length nexts;
        resets = length resets;
        gates = count;
        left_over = left_over;
        roots = length roots;
        map = length map;
        next_images = length next_images;
        reset_images = length reset_images;
        root_images = length root_images;
        gates_out = length gates_out;
        scratch = length scratch;
      }

  -- what is lent, with the gates flat
  abbrev lent : List ℕ → Lent
  lent gs = lent_of circuit inputs states nexts resets gs roots map next_images reset_images root_images gates_out scratch

  abbrev l : Lent
  l = lent (flat_of gates)

  -- the lengths are those of the records laid flat
  lengths_are : lengths (length gates) 0 ≡ lengths_of l
  lengths_are =
      let third : length gates ≡ length (flat_of gates) / 3 = omega (arith, flat_length gates) in
      let none_left : 0 ≡ length (flat_of gates) % 3 = omega (arith, flat_length gates) in
      ap₂ lengths third none_left

  short_is : ltb (length flat) (3 * length gates) ≡ ltb (length flat) (length (flat_of gates))
  short_is =
      let words : 3 * length gates ≡ length (flat_of gates) = omega (arith, flat_length gates) in ap (λ (k : ℕ). ltb (length flat) k) words

  first-is : over_all circuit.top inputs gates states nexts resets roots ≡ found (first_over (2 * circuit.top.0 + 1) (codes (circuit_of l)))
  unfolding codes
  first-is =
      let t = circuit.top.0 in
      let b = 2 * t + 1 in
      sym
      (over-append b inputs (gate_codes (gates_of (flat_of gates)) ++ (latch_codes states nexts resets ++ roots))
      ∙ ap (option_or (first_in t inputs))
      (over-append b (gate_codes (gates_of (flat_of gates))) (latch_codes states nexts resets ++ roots)
      ∙ ap₂ option_or (ap (first_in t) (flat_codes gates)) (over-append b (latch_codes states nexts resets) roots)))

  abbrev says : Check
  says =
      verdict (sizing circuit (lengths_of l)) (ltb (length flat) (length (flat_of gates))) (found (first_over (2 * circuit.top.0 + 1) (codes (circuit_of l))))
      (found (first_stray states resets))

  checked_is : checked_of circuit (lengths (length gates) 0) (length flat) inputs states nexts resets gates roots ≡ says
  unfolding checked_of
  checked_is = λ i. verdict (sizing circuit (lengths_are i)) (short_is i) (first-is i) (found (first_stray states resets))

  -- by what the checks answered
  module _ (r : Check) (e : r ≡ checked_of circuit (lengths (length gates) 0) (length flat) inputs states nexts resets gates roots) where
    as_judged : finished r l flat ≡ outcome_of_records l flat
    as_judged = ap (λ (c : Check). finished c l flat) (e ∙ checked_is) ∙ sym (judged l flat)

    -- they refuse: nothing is written
    pub refused_at_once : (why : Refusal) → r ≡ Err why → with_flat (untouched l why) flat ≡ outcome_of_records l flat
    refused_at_once why p = ap (λ (c : Check). finished c l flat) (sym p) ∙ as_judged

    module _ (p : r ≡ passed) where
      -- they pass: the flat entry on the front of the list, which is then cleared, leaves the outcome with records
      pub joined : (zs : List ℕ) → zs ≡ laid_onto (length gates) gates flat → (o : Outcome) → o ≡ outcome (lent (take (length gates * 3) zs))
          → (ws : List ℕ) → ws ≡ zeros (length (take (length gates * 3) zs)) → with_flat o (ws ++ drop (length gates * 3) zs) ≡ outcome_of_records l flat
      joined zs laid o answered ws cleared =
          let k = length gates * 3 in
          let long : length (flat_of gates) ≡ k = flat_length gates in
          let all : zs ≡ flat_of gates ++ drop k flat = laid ∙ ap (λ (gs : List GateRecord). flat_of gs ++ drop k flat) (take-length gates) in
          let front : take k zs ≡ flat_of gates = ap (take k) all ∙ take_at (flat_of gates) (drop k flat) k long in
          let back : drop k zs ≡ drop k flat = ap (drop k) all ∙ drop_at (flat_of gates) (drop k flat) k long in
          let as_long : k ≡ length (zeros (length (flat_of gates))) = sym (length-replicate (length (flat_of gates)) 0 ∙ long) in
          ap₂ with_flat (answered ∙ ap (λ (gs : List ℕ). outcome (lent gs)) front)
          (ap₂ (λ (a b : List ℕ). a ++ b) (cleared ∙ ap (λ (gs : List ℕ). zeros (length gs)) front) (back ∙ ap (λ (j : ℕ). drop j flat) as_long)
          ∙ sym (onto_long (zeros (length (flat_of gates))) flat
          (omega (arith, as_long, room_for circuit _ _ inputs states nexts resets gates roots r e p))))
          ∙ ap (λ (c : Check). finished c l flat) (sym p) ∙ as_judged
