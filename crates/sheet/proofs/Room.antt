-- How long a report can get: a number has at most twenty digits, and a circuit on a sheet has few gates, latches and roots. So the report program has room
-- for every report. Assumes nothing.
use Prim.Native.Nat.{ℕ, zero, suc, ◌+◌, ◌*◌, ◌/◌, ◌%◌, ◌≤◌}
use mathlib.Core.Path.{◌≡◌, refl, sym, ap, ◌∙◌}
use mathlib.Core.Bool.{Bool, true, false, cond}
use mathlib.Core.List.{List, [], ◌∷◌, ◌++◌}
use native.Mathlib.Omega.{arith}
use lib.Dec.{ltb}
use Rattle.std.specs.Prelude.{⊤, Result, Ok, Err}
use lib.ListN.{length, length-append, length-map, length-replicate}
use Rattle.token.specs.Format.{digits_up_to, digits_of}
use Rattle.circuit.specs.Refusals.{refusal_number, refusal_literal}
use Rattle.circuit.specs.Graph.{Gate}
use Rattle.circuit.specs.Map.{image_in, code_of}
use Rattle.circuit.specs.Walk.{Pair, Out, reached, stopped, first_code}
use Rattle.circuit.specs.Circuit.{Circuit, renumber}
use Rattle.circuit.specs.Ordered.{Ordered, images_in, ordered_of, gates_from}
use Rattle.circuit.specs.Outcome.{summary_of}
use Rattle.circuit.proofs.Renumber.{Limits, Answered, answered}
use Rattle.circuit.proofs.Settled.{settled_le}
use Rattle.circuit.proofs.Words.{gates_length}
use Rattle.sheet_read.specs.declared.Faulty.{Faulty}
use Rattle.sheet_lines.specs.Lines.{spaced, ended, refused_line, ordered_line, gate_line, image_line, next_letter, root_letter, each}
use Rattle.sheet_read.specs.Sheet.{code_count, read_of}
use Rattle.sheet.specs.Circuit.{states_of, nexts_of, input_codes, gate_words, latch_words, root_codes, circuit_on}
use Rattle.sheet_lines.specs.Text.{refused_text, ordered_text}
use Rattle.sheet.specs.Report.{text_of, out_text, read_text, report_of}
use Rattle.sheet_read.specs.Promise.{Taken}
use Rattle.sheet.specs.Promise.{Shaped}
use Rattle.sheet_read.proofs.Headers.{bounds}
use Rattle.sheet.proofs.Circuits.{words_shaped}
use Rattle.sheet_read.proofs.Sheets.{sheet_taken}

digits_few : (k v : ℕ) → length (digits_up_to k v) ≤ suc k
digits_few zero v = omega arith
digits_few (suc k) v = go (ltb v 10) (digits_few k (v / 10))
  where
    go : (b : Bool) → length (digits_up_to k (v / 10)) ≤ suc k → length (cond b ((48 + v) ∷ []) (digits_up_to k (v / 10) ++ ((48 + v % 10) ∷ []))) ≤ suc (suc k)
    go true h = omega arith
    go false h = omega (arith, length-append (digits_up_to k (v / 10)) ((48 + v % 10) ∷ []))

number_few : (v b : ℕ) → length (digits_of v ++ (b ∷ [])) ≤ 21
unfolding digits_of
number_few v b = omega (arith, length-append (digits_up_to 19 v) (b ∷ []), digits_few 19 v)

refused_few : (n k : ℕ) → length (refused_line n k) ≤ 50
unfolding refused_line
refused_few n k = omega (arith, length-append (spaced n) (ended k), number_few n 32, number_few k 10)

ordered_few : (t i l g : ℕ) → length (ordered_line t i l g) ≤ 92
unfolding ordered_line
ordered_few t i l g =
    omega (
      arith,
      length-append (spaced t) (spaced i ++ (spaced l ++ ended g)),
      length-append (spaced i) (spaced l ++ ended g),
      length-append (spaced l) (ended g),
      number_few t 32,
      number_few i 32,
      number_few l 32,
      number_few g 10,
    )

gate_few : (g : Gate) → length (gate_line g) ≤ 63
unfolding gate_line
gate_few g =
    omega (
      arith,
      length-append (spaced g.output) (spaced g.first ++ ended g.second),
      length-append (spaced g.first) (ended g.second),
      number_few g.output 32,
      number_few g.first 32,
      number_few g.second 10,
    )

image_few : (letter t : ℕ) → length (image_line letter t) ≤ 23
unfolding image_line
image_few letter t = omega (arith, number_few t 10)

each_few : {A : Type 0} (line : A → List ℕ) (n : ℕ) → ((x : A) → length (line x) ≤ n) → (xs : List A) → length (each line xs) ≤ length xs * n
each_few line n h [] = omega arith
each_few line n h (x ∷ xs) = let e = each_few line n h xs in omega (arith, length-append (line x) (each line xs), h x)

gates_many : (t : ℕ) (ps : List Pair) → length (gates_from t ps) ≡ length ps
gates_many t [] = refl
gates_many t (p ∷ ps) = ap suc (gates_many (t + 2) ps)

text_few : (O : Ordered) → length O.gates ≤ 1023 → length O.nexts ≤ 1023 → length O.roots ≤ 1023 → length (text_of O) ≤ 131072
unfolding text_of ordered_text
text_few O g n r =
    let s = summary_of O in
    let first = first_code (O.inputs + length O.nexts) in
    let gates = each gate_line (gates_from first O.gates) in
    let nexts = each (image_line next_letter) O.nexts in
    let roots = each (image_line root_letter) O.roots in
    omega (
      arith,
      length-append (ordered_line s.top.0 O.inputs (length O.nexts) s.made) (gates ++ (nexts ++ roots)),
      length-append gates (nexts ++ roots),
      length-append nexts roots,
      ordered_few s.top.0 O.inputs (length O.nexts) s.made,
      each_few gate_line 63 gate_few (gates_from first O.gates),
      gates_many first O.gates,
      each_few (image_line next_letter) 23 (image_few next_letter) O.nexts,
      each_few (image_line root_letter) 23 (image_few root_letter) O.roots,
    )

module _ (h cs : List ℕ) (taken : Taken h) (all : length cs ≡ code_count h) where
  abbrev C : Circuit
  C = circuit_on h cs

  abbrev shaped : Shaped h (input_codes h cs) (states_of (latch_words h cs)) (nexts_of (latch_words h cs)) (gate_words h cs) (root_codes h cs)
  shaped = words_shaped h cs taken all

  gates_few : length C.gates ≤ 1023
  unfolding circuit_on
  gates_few = omega (arith, gates_length (gate_words h cs), shaped.gates, bounds taken)

  nexts_few : length C.nexts ≤ 1023
  unfolding circuit_on
  nexts_few = omega (arith, shaped.nexts, bounds taken)

  roots_few : length C.roots ≤ 1023
  unfolding circuit_on
  roots_few = omega (arith, shaped.roots, bounds taken)

  limits : Limits C
  unfolding circuit_on
  limits =
      record {
        few =
            omega (
              arith,
              length-append (input_codes h cs) (states_of (latch_words h cs)),
              shaped.inputs,
              shaped.states,
              bounds taken,
              gates_few,
            );
        latches = shaped.states ∙ sym shaped.nexts;
        resets = sym (length-replicate _ 0);
      }

  images_many : (m xs : List ℕ) → length (images_in m xs) ≡ length xs
  unfolding images_in
  images_many m xs = length-map xs (λ c. code_of (image_in m c))

  out_few : length (out_text C (renumber C)) ≤ 131072
  unfolding refused_text ordered_of
  out_few = go (renumber C) (answered C limits)
    where
      go : (o : Out) → Answered C o → length (out_text C o) ≤ 131072
      go (reached w) d =
          text_few (ordered_of C w) (omega (arith, d.inv.few, settled_le w.images C.gates, gates_few))
          (omega (arith, images_many w.images C.nexts, nexts_few)) (omega (arith, images_many w.images C.roots, roots_few))
      go (stopped why) d = omega (arith, refused_few (refusal_number why) (refusal_literal why).0)

-- every report has room in 131,072 bytes
pub report_fits : (s : List ℕ) → length (report_of s) ≤ 131072
unfolding report_of
report_fits s = go (read_of s).reading refl
  where
    go : (r : Result ⊤ Faulty) → (read_of s).reading ≡ r → length (read_text r (circuit_on (read_of s).header (read_of s).codes)) ≤ 131072
    go (Err f) e = omega (arith, refused_few f.number f.beside)
    go (Ok u) e = let t = sheet_taken s e in out_few (read_of s).header (read_of s).codes t.0 t.1
