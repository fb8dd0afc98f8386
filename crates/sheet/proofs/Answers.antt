-- What renumbering answers and leaves in its lists, as the text of the report. Assumes nothing.
use Prim.Native.Nat.{ℕ, zero, suc, ◌+◌, ◌*◌, ◌/◌, ◌%◌, ◌≤◌}
use mathlib.Core.Path.{◌≡◌, refl, sym, ap, ◌∙◌}
use mathlib.Core.List.{List, ◌∷◌}
use native.Mathlib.Omega.{arith}
use borrow.Author.Tests.{le-ltb, eq-eqb}
use lib.ListN.{length, take, length-replicate}
use Rattle.std.specs.Prelude.{Ok, Err}
use Rattle.circuit.specs.declared.Refusal.{Refusal}
use Rattle.circuit.specs.declared.Summary.{Summary}
use Rattle.circuit.specs.Answer.{Answer}
use Rattle.circuit.specs.declared.CircuitRecord.{CircuitRecord}
use Rattle.circuit.specs.Circuit.{Circuit, renumber}
use Rattle.circuit.specs.Ordered.{Ordered, ordered_of}
use Rattle.circuit.specs.Outcome.{Lent, Outcome, lent_of, outcome_of, gates_of, limit, total, too_big, misshapen, too_short, pairs_of, outcome, held, zeros}
use Rattle.circuit.specs.Tested.{Fits}
use Rattle.circuit.proofs.Outcome.{conclusion_of, refusal_from}
use Rattle.circuit.proofs.Success.{success, sizes}
use Rattle.circuit.proofs.Words.{gates_length}
use Rattle.sheet_read.specs.Sheet.{top_of, gate_count, root_counts, root_count}
use Rattle.sheet.specs.Circuit.{record_on}
use Rattle.sheet_lines.specs.Text.{refused_text, ordered_text}
use Rattle.sheet.specs.Report.{text_of, out_text}
use Rattle.sheet.specs.Promise.{circuit_in, Shaped, Roomy}
use Rattle.sheet_read.proofs.Headers.{bounds}

-- zeros at the front of zeros
zeros_front : (n k : ℕ) → n ≤ k → take n (zeros k) ≡ zeros n
zeros_front zero k h = refl
zeros_front (suc n) zero h = absurd (omega arith)
zeros_front (suc n) (suc k) h = ap {B = List ℕ} (λ l. 0 ∷ l) (zeros_front n k (omega arith))

pub zeros_long : {zs : List ℕ} → zs ≡ zeros 1023 → length zs ≡ 1023
zeros_long e = ap length e ∙ length-replicate {A = ℕ} 1023 0

-- a circuit on a sheet, with room for the largest one, passes checks 1 to 3
module _ (h is ss ns gs rs m n z r g w : List ℕ) (shaped : Shaped h is ss ns gs rs) (room : Roomy m n z r g w) where
  abbrev pub lent : Lent
  lent = lent_of (record_on h) is ss ns (zeros (length ss)) gs rs m n z r g w

  abbrev pub C : Circuit
  C = circuit_in h is ss ns gs rs

  gate_number : length (gates_of gs) ≡ gate_count h
  gate_number = let k : 3 * gate_count h / 3 ≡ gate_count h = omega arith in gates_length gs ∙ ap (λ (x : ℕ). x / 3) shaped.gates ∙ k

  pub fits : Fits lent
  unfolding too_big misshapen too_short root_count
  fits =
      let b = bounds shaped.taken in
      record {
        one =
            rw (
              le-ltb limit (top_of h) (omega arith),
              le-ltb limit (length is) (omega (arith, shaped.inputs)),
              le-ltb limit (length ss) (omega (arith, shaped.states)),
              le-ltb limit (length (gates_of gs)) (omega (arith, gate_number)),
              le-ltb limit (length rs) (omega (arith, shaped.roots)),
            );
        two =
            rw (
              eq-eqb (total (root_counts h)) (length rs) (sym shaped.roots),
              eq-eqb (length ss) (length ns) (shaped.states ∙ sym shaped.nexts),
              eq-eqb (length ss) (length (zeros (length ss))) (sym (length-replicate (length ss) 0)),
              eq-eqb (length gs % 3) 0 (omega (arith, shaped.gates)),
            );
        three =
            rw (
              le-ltb (length m) (top_of h + 1) (omega (arith, room.map)),
              le-ltb (length n) (length ss) (omega (arith, room.next_images, shaped.states)),
              le-ltb (length z) (length ss) (omega (arith, room.reset_images, shaped.states)),
              le-ltb (length r) (length rs) (omega (arith, room.root_images, shaped.roots)),
              le-ltb (length g) (2 * length (gates_of gs)) (omega (arith, room.gates_out, gate_number)),
              le-ltb (length w) (3 * top_of h + 3 + 3 * length (gates_of gs)) (omega (arith, room.scratch, gate_number)),
            );
      }

  module _ (m' n' z' r' g' w' : List ℕ) where
    -- a success: the lists hold the ordered circuit
    module _ (s : Summary) (e : outcome_of (Ok s) m' n' z' r' g' w' ≡ outcome lent) where
      abbrev succeeds : (outcome lent).answer ≡ Ok s
      succeeds = sym (ap (λ (o : Outcome). o.answer) e)

      pub made_few_lem : s.made ≤ 1023
      made_few_lem = omega (arith, (sizes lent s succeeds).1, gate_number, bounds shaped.taken)

      pub ordered_text_lem : ordered_text s (length is) (take (length ss) n') (pairs_of (take (2 * s.made) g')) (take (length rs) r') ≡ out_text C (renumber C)
      unfolding held text_of
      ordered_text_lem =
          let k = success lent s succeeds in
          let holds : held lent s (outcome_of (Ok s) m' n' z' r' g' w') ≡ ordered_of C k.work = ap (held lent s) e ∙ k.holds in
          let O : Ordered = ordered_of C k.work in
          ap (λ (x : Ordered). ordered_text s x.inputs x.nexts x.gates x.roots) holds
          ∙ ap (λ (x : Summary). ordered_text x O.inputs O.nexts O.gates O.roots) k.sums
          ∙ ap (out_text C) (sym k.ends ∙ conclusion_of lent fits)

    pub refused_text_lem : (why : Refusal) → outcome_of (Err why) m' n' z' r' g' w' ≡ outcome lent → refused_text why ≡ out_text C (renumber C)
    refused_text_lem why e = ap (out_text C) (sym (refusal_from lent why (sym (ap (λ (o : Outcome). o.answer) e))) ∙ conclusion_of lent fits)

    -- the same of an answer, a record and resets as the code has them
    module _ (a : Answer) (c : CircuitRecord) (zs : List ℕ) (k : c ≡ record_on h) (none : zs ≡ zeros 1023)
        (e : outcome_of a m' n' z' r' g' w' ≡ outcome (lent_of c is ss ns (take (length ss) zs) gs rs m n z r g w)) where
      no_reset_lem : take (length ss) zs ≡ zeros (length ss)
      no_reset_lem = ap (take (length ss)) none ∙ zeros_front (length ss) 1023 (omega (arith, shaped.states, bounds shaped.taken))

      same_outcome : (b : Answer) → a ≡ b → outcome_of b m' n' z' r' g' w' ≡ outcome lent
      same_outcome b f =
          ap (λ (x : Answer). outcome_of x m' n' z' r' g' w') (sym f) ∙ e
          ∙ ap (λ (x : CircuitRecord). outcome (lent_of x is ss ns (take (length ss) zs) gs rs m n z r g w)) k
          ∙ ap (λ (x : List ℕ). outcome (lent_of (record_on h) is ss ns x gs rs m n z r g w)) no_reset_lem

      pub given_made : (s : Summary) → a ≡ Ok s → s.made ≤ 1023
      given_made s f = made_few_lem s (same_outcome (Ok s) f)

      pub given_ordered : (s : Summary) → a ≡ Ok s
          → ordered_text s (length is) (take (length ss) n') (pairs_of (take (2 * s.made) g')) (take (length rs) r') ≡ out_text C (renumber C)
      given_ordered s f = ordered_text_lem s (same_outcome (Ok s) f)

      pub given_refused : (why : Refusal) → a ≡ Err why → refused_text why ≡ out_text C (renumber C)
      given_refused why f = refused_text_lem why (same_outcome (Err why) f)
