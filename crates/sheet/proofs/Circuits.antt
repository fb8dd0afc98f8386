-- The circuit on a sheet: its lists are parts of the codes, and its codes in the order of check 4, but for the resets, which are 0, are the codes in the order of
-- the sheet. Assumes nothing.
use Prim.Native.Nat.{ℕ, ◌+◌, ◌*◌, ◌-◌, ◌/◌, ◌%◌, ◌≤◌}
use mathlib.Core.Path.{◌≡◌, refl, sym, ap, ◌∙◌}
use Rattle.std.specs.Prelude.{Some, None}
use mathlib.Core.List.{List, [], ◌∷◌, ◌++◌}
use native.Mathlib.Omega.{arith}
use lib.ListN.{length, get_or, take, drop, length-append, length-drop, take-append-drop}
use lib.Seq.{length-take-le, drop-drop, take_all, take_at}
use Rattle.lit.specs.Code.{variable}
use Rattle.lit.specs.declared.Var.{Var}
use Rattle.circuit.specs.declared.CircuitRecord.{CircuitRecord}
use Rattle.circuit.specs.Circuit.{Circuit, gate_codes, first_over, renumber}
use Rattle.circuit.specs.Outcome.{gates_of}
use Rattle.circuit.specs.Resets.{side_by_side, codes_before, renumber_before}
use Rattle.circuit.proofs.Resets.{as_before}
use Rattle.sheet_lines.specs.Lines.{refused_line}
use Rattle.sheet_read.specs.Sheet.{top_of, input_count, latch_count, gate_count, root_count, code_count}
use Rattle.sheet.specs.Circuit.{states_of, nexts_of, input_codes, gate_words, latch_words, root_codes, circuit_on, record_on}
use Rattle.sheet_lines.specs.Text.{refused_text}
use Rattle.sheet.specs.Report.{out_text}
use Rattle.sheet_read.specs.Promise.{Taken}
use Rattle.sheet.specs.Promise.{Words, circuit_in, Shaped}
use Rattle.sheet.proofs.Cells.{states_length, nexts_length}
use Rattle.sheet_read.proofs.Headers.{none_over, bounds, codes_few, five}

gate_codes_lem : (ws : List ℕ) → length ws % 3 ≡ 0 → gate_codes (gates_of ws) ≡ ws
gate_codes_lem [] e = refl
gate_codes_lem (a ∷ []) e = absurd (omega arith)
gate_codes_lem (a ∷ b ∷ []) e = absurd (omega arith)
gate_codes_lem (a ∷ b ∷ c ∷ ws) e = ap (λ (l : List ℕ). a ∷ b ∷ c ∷ l) (gate_codes_lem ws (omega arith))

latch_codes_lem : (ws : List ℕ) → length ws % 2 ≡ 0 → side_by_side (states_of ws) (nexts_of ws) ≡ ws
latch_codes_lem [] e = refl
latch_codes_lem (a ∷ []) e = absurd (omega arith)
latch_codes_lem (a ∷ b ∷ ws) e = ap (λ (l : List ℕ). a ∷ b ∷ l) (latch_codes_lem ws (omega arith))

-- a part and what follows it
part : (i n : ℕ) (cs : List ℕ) → take n (drop i cs) ++ drop (i + n) cs ≡ drop i cs
part i n cs = ap (λ (l : List ℕ). take n (drop i cs) ++ l) (sym (drop-drop n i cs)) ∙ take-append-drop n (drop i cs)

-- with every reset 0 renumbering is what it was before latches had resets
pub sheet_before : (h cs : List ℕ) → renumber (circuit_on h cs) ≡ renumber_before (circuit_on h cs)
unfolding circuit_on
sheet_before h cs = as_before (circuit_on h cs) refl

-- a circuit that check 4 refuses
over_text : (C : Circuit) (c : ℕ) → first_over (2 * C.top + 1) (codes_before C) ≡ Some c → refused_line 4 c ≡ out_text C (renumber_before C)
unfolding renumber_before refused_text
over_text C c e = rw e

pub words_long : (h cs : List ℕ) → length cs ≡ code_count h → length cs ≡ input_count h + 3 * gate_count h + 2 * latch_count h + root_count h
unfolding code_count
words_long h cs all = all

-- xs stand at the front of a list
pub record Front (xs : List ℕ) (n : ℕ) (list : List ℕ) : Type 0 where
  pub room : n ≤ length list
  pub same : take n list ≡ xs
  pub count : n ≡ length (take n list)

front_of : (xs ys rest : List ℕ) (n : ℕ) → ys ≡ xs → length xs ≡ n → Front xs n (ys ++ rest)
front_of xs ys rest n e long =
    let there : take n (ys ++ rest) ≡ ys = take_at ys rest n (ap length e ∙ long) in
    record {
      room = omega (arith, length-append ys rest, ap length e, long);
      same = there ∙ e;
      count = sym (ap length (there ∙ e) ∙ long);
    }

-- parts of a list as slices give them
pub part_of : (a n : ℕ) (ws : List ℕ) → take (a + n - a) (drop a ws) ≡ take n (drop a ws)
part_of a n ws = let e : a + n - a ≡ n = omega arith in ap (λ (k : ℕ). take k (drop a ws)) e

pub part-rest : (a : ℕ) (ws : List ℕ) → take (length ws - a) (drop a ws) ≡ drop a ws
part-rest a ws = take_all (length ws - a) (drop a ws) (omega (arith, length-drop a ws))

module _ (h cs : List ℕ) (taken : Taken h) (all : length cs ≡ code_count h) where
  abbrev long : length cs ≡ input_count h + 3 * gate_count h + 2 * latch_count h + root_count h
  long = words_long h cs all

  pub inputs_long : length (input_codes h cs) ≡ input_count h
  inputs_long = length-take-le (input_count h) cs (omega (arith, long))

  pub gates_long : length (gate_words h cs) ≡ 3 * gate_count h
  gates_long = length-take-le (3 * gate_count h) (drop (input_count h) cs) (omega (arith, long, length-drop (input_count h) cs))

  pub latches_long : length (latch_words h cs) ≡ 2 * latch_count h
  latches_long =
      length-take-le (2 * latch_count h) (drop (input_count h + 3 * gate_count h) cs)
      (omega (arith, long, length-drop (input_count h + 3 * gate_count h) cs))

  pub roots_long : length (root_codes h cs) ≡ root_count h
  roots_long = omega (arith, long, length-drop (input_count h + 3 * gate_count h + 2 * latch_count h) cs)

  pub words_shaped : Shaped h (input_codes h cs) (states_of (latch_words h cs)) (nexts_of (latch_words h cs)) (gate_words h cs) (root_codes h cs)
  words_shaped =
      let half : 2 * latch_count h / 2 ≡ latch_count h = omega arith in
      record {
        taken = taken;
        inputs = inputs_long;
        states = states_length (latch_words h cs) ∙ ap (λ (k : ℕ). k / 2) latches_long ∙ half;
        nexts = nexts_length (latch_words h cs) ∙ ap (λ (k : ℕ). k / 2) latches_long ∙ half;
        gates = gates_long;
        roots = roots_long;
      }

  -- the states and the nexts, split from the part of the latches into the front of a row
  abbrev pub latch_part : List ℕ
  latch_part = take (input_count h + 3 * gate_count h + 2 * latch_count h - (input_count h + 3 * gate_count h)) (drop (input_count h + 3 * gate_count h) cs)

  latch_part_lem : latch_part ≡ latch_words h cs
  latch_part_lem = part_of (input_count h + 3 * gate_count h) (2 * latch_count h) cs

  pub part_long : length latch_part ≡ 2 * latch_count h
  part_long = ap length latch_part_lem ∙ latches_long

  pub states_front : (ys rest : List ℕ) → ys ≡ states_of latch_part → Front (states_of (latch_words h cs)) (latch_count h) (ys ++ rest)
  states_front ys rest e = front_of (states_of (latch_words h cs)) ys rest (latch_count h) (e ∙ ap states_of latch_part_lem) words_shaped.states

  pub nexts_front : (ys rest : List ℕ) → ys ≡ nexts_of latch_part → Front (nexts_of (latch_words h cs)) (latch_count h) (ys ++ rest)
  nexts_front ys rest e = front_of (nexts_of (latch_words h cs)) ys rest (latch_count h) (e ∙ ap nexts_of latch_part_lem) words_shaped.nexts

  -- where the parts end
  pub parts_end : input_count h + 3 * gate_count h + 2 * latch_count h ≤ length cs
  parts_end = omega (arith, long)

  pub gates_end_lem : input_count h + 3 * gate_count h ≤ length cs
  gates_end_lem = omega (arith, long)

  pub codes_are : codes_before (circuit_on h cs) ≡ cs
  unfolding circuit_on codes_before
  codes_are =
      let gates = gate_codes_lem (gate_words h cs) (omega (arith, gates_long)) in
      let latches = latch_codes_lem (latch_words h cs) (omega (arith, latches_long)) in
      ap (λ (x : List ℕ). input_codes h cs ++ (x ++ (side_by_side (states_of (latch_words h cs)) (nexts_of (latch_words h cs)) ++ root_codes h cs))) gates
      ∙ ap (λ (x : List ℕ). input_codes h cs ++ (gate_words h cs ++ (x ++ root_codes h cs))) latches
      ∙ ap (λ (x : List ℕ). input_codes h cs ++ (gate_words h cs ++ x)) (part (input_count h + 3 * gate_count h) (2 * latch_count h) cs)
      ∙ ap (λ (x : List ℕ). input_codes h cs ++ x) (part (input_count h) (3 * gate_count h) cs)
      ∙ take-append-drop (input_count h) cs

  -- check 4 on the codes themselves
  pub codes-over : (c : ℕ) → first_over (2 * top_of h + 1) cs ≡ Some c → refused_line 4 c ≡ out_text (circuit_on h cs) (renumber (circuit_on h cs))
  unfolding circuit_on
  codes-over c e =
      over_text (circuit_on h cs) c (ap (first_over (2 * top_of h + 1)) codes_are ∙ e) ∙ ap (out_text (circuit_on h cs)) (sym (sheet_before h cs))

  pub codes_words : first_over (2 * top_of h + 1) cs ≡ None → Words cs
  codes_words e i less = omega (arith, none_over (2 * top_of h + 1) cs e i less, bounds taken)

pub lists-circuit : (h cs : List ℕ) {is ss ns gs rs : List ℕ} → is ≡ input_codes h cs → ss ≡ states_of (latch_words h cs)
    → ns ≡ nexts_of (latch_words h cs) → gs ≡ gate_words h cs → rs ≡ root_codes h cs
    → circuit_in h is ss ns gs rs ≡ circuit_on h cs
unfolding circuit_on
lists-circuit h cs p q r s t = rw (p, q, r, s, t)

pub lists_shaped : (h cs : List ℕ) → Taken h → length cs ≡ code_count h → {is ss ns gs rs : List ℕ}
    → is ≡ input_codes h cs → ss ≡ states_of (latch_words h cs) → ns ≡ nexts_of (latch_words h cs) → gs ≡ gate_words h cs → rs ≡ root_codes h cs
    → Shaped h is ss ns gs rs
lists_shaped h cs taken all p q r s t = rw (p, q, r, s, t) (words_shaped h cs taken all)

-- the codes of a sheet in a longer list, n of them, and the words that they are copied to
module _ (h cs : List ℕ) (taken : Taken h) (room : length cs ≡ 7161) (n : ℕ) (count : n ≡ code_count h) where
  pub codes_room : n ≤ length cs
  codes_room = omega (arith, count, codes_few taken, room)

  pub codes_long : length (take n cs) ≡ n
  codes_long = length-take-le n cs codes_room

  pub words_front_lem : (ys rest : List ℕ) → ys ≡ take n cs → Front (take n cs) n (ys ++ rest)
  words_front_lem ys rest e = front_of (take n cs) ys rest n e codes_long

  counted : take n cs ≡ take (code_count h) cs
  counted = ap (λ (k : ℕ). take k cs) count

  pub narrowed_text : (ws : List ℕ) → ws ≡ take n cs
      → out_text (circuit_on h ws) (renumber (circuit_on h ws)) ≡ out_text (circuit_on h (take (code_count h) cs)) (renumber (circuit_on h (take (code_count h) cs)))
  narrowed_text ws e = ap (λ (xs : List ℕ). out_text (circuit_on h xs) (renumber (circuit_on h xs))) (e ∙ counted)

  pub narrow_words_lem : first_over (2 * top_of h + 1) (take n cs) ≡ None → Words (take n cs)
  narrow_words_lem e = codes_words h (take n cs) taken (codes_long ∙ count) e

  pub over_refused : (c : ℕ) → first_over (2 * top_of h + 1) (take n cs) ≡ Some c
      → refused_line 4 c ≡ out_text (circuit_on h (take (code_count h) cs)) (renumber (circuit_on h (take (code_count h) cs)))
  over_refused c e =
      codes-over h (take (code_count h) cs) taken (ap length (sym counted) ∙ codes_long ∙ count) c
      (ap (first_over (2 * top_of h + 1)) (sym counted) ∙ e)

-- the record of a header, its numbers read one by one
abbrev with_counts : List ℕ → Var → List ℕ → CircuitRecord
with_counts h top counts = record { top = top; counts = counts; trim = (record_on h).trim; hash = (record_on h).hash; fold = (record_on h).fold }

pub record_same : (h : List ℕ) (top : Var) (a b c d e : ℕ) → length h ≡ 10 → top ≡ variable (top_of h)
    → a ≡ get_or h 4 0 → b ≡ get_or h 5 0 → c ≡ get_or h 6 0 → d ≡ get_or h 7 0 → e ≡ get_or h 8 0
    → with_counts h top (a ∷ b ∷ c ∷ d ∷ e ∷ []) ≡ record_on h
record_same h top a b c d e ten p q r s t u = rw (p, q, r, s, t, u) (ap (λ (counts : List ℕ). with_counts h (variable (top_of h)) counts) (five h ten))
