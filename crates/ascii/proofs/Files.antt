-- Inputs, latches, roots and gates in their lists make the text; what the header announced is what the lists hold. Assumes nothing.
use Prim.Native.Nat.{ℕ, ◌*◌}
use Rattle.std.specs.Prelude.{Result, Ok}
use mathlib.Core.Path.{◌≡◌, refl, sym, ap, ◌∙◌, subst}
use mathlib.Core.List.{List}
use native.Mathlib.Omega.{arith}
use lib.ListN.{length}
use Rattle.circuit.specs.Graph.{Gate}
use Rattle.lines.specs.declared.Broken.{Broken}
use Rattle.lines.specs.declared.Reading.{Reading}
use Rattle.lines.specs.declared.Header.{Header}
use Rattle.lines.specs.Reading.{Read, got}
use Rattle.lines.specs.Sections.{Roots, roots_of, top_code, roots_at}
use Rattle.lines.specs.Promise.{reading_of, StoresRoots, seen, roots_left}
use Rattle.lines.proofs.Sections.{rooted_stores}
use Rattle.lines.proofs.Known.{Rooted, roots_known}
use Rattle.ordered.specs.Expand.{gate_words}
use Rattle.ordered.proofs.Laid.{put_onto}
use Rattle.binary.proofs.Files.{StoredRoots, stored_roots}
use Rattle.ascii_lines.specs.Lines.{inputs_at, Stated, states_of, nexts_of, resets_of, latches_at, gates_at}
use Rattle.ascii_lines.specs.Promise.{section_seen, section_left, put_numbers, no_numbers, put_gates, LatchLists, latch_lists, put_latches, no_latches}
use Rattle.ascii_lines.proofs.Known.{inputs_length, states_length, nexts_length, resets_length, gates_length}
use Rattle.ascii_lines.proofs.Loops.{words_length, StoredIn, section_stored}
use Rattle.ascii.specs.Text.{Text, text_with, lists_at}
use Rattle.ascii.specs.Promise.{Lists, lists_of, room_of, StoresText, Roomy}
use Rattle.ascii.proofs.Seven.{seven}

listed : (s : List ℕ) (room : ℕ) (h : Header) (at p₁ p₂ p₃ p₄ : ℕ) (vs : List ℕ) (ls : List Stated) (p : Roots) (gs : List Gate)
    → inputs_at s (top_code h) h.inputs at ≡ got vs p₁ → latches_at s (top_code h) h.latches p₁ ≡ got ls p₂
    → roots_at s h (top_code h) room p₂ ≡ got p p₃ → gates_at s (top_code h) h.gates p₃ ≡ got gs p₄
    → lists_at s room h at ≡ got (text_with h vs ls p gs) p₄
unfolding lists_at
listed s room h at p₁ p₂ p₃ p₄ vs ls p gs a b c d = rw (a, b, c, d)

-- from the first input line on

module _ (s : List ℕ) (h : Header) (at : ℕ) (inputs states nexts resets gates sizes roots : List ℕ)
    (big : Roomy h (room_of (lists_of inputs states nexts resets gates sizes roots))) where
  abbrev Whole : Result Reading Broken → Lists → Type 0
  Whole x after = StoresText (lists_at s (length roots) h at) x (lists_of inputs states nexts resets gates sizes roots) after

  module _ (n₁ : ℕ) (m₁ : n₁ ≡ h.inputs) (inputs' : List ℕ) (r₁ : Result ℕ Broken)
      (e₁ : section_seen r₁ inputs' ≡ section_left put_numbers no_numbers (inputs_at s (top_code h) n₁ at) inputs) where
    told₁ : section_seen r₁ inputs' ≡ section_left put_numbers no_numbers (inputs_at s (top_code h) h.inputs at) inputs
    told₁ = e₁ ∙ ap (λ (n : ℕ). section_left put_numbers no_numbers (inputs_at s (top_code h) n at) inputs) m₁

    module _ (p₁ : ℕ) (f₁ : r₁ ≡ Ok p₁) (n₂ : ℕ) (m₂ : n₂ ≡ h.latches) (states' nexts' resets' : List ℕ) (r₂ : Result ℕ Broken)
        (e₂ : section_seen r₂ (latch_lists states' nexts' resets') ≡ section_left put_latches no_latches (latches_at s (top_code h) n₂ p₁)
        (latch_lists states nexts resets)) where
      given : StoredIn put_numbers (inputs_at s (top_code h) h.inputs at) p₁ inputs inputs'
      given = section_stored put_numbers no_numbers (inputs_at s (top_code h) h.inputs at) r₁ inputs inputs' told₁ p₁ f₁

      told₂ : section_seen r₂ (latch_lists states' nexts' resets')
          ≡ section_left put_latches no_latches (latches_at s (top_code h) h.latches p₁) (latch_lists states nexts resets)
      told₂ = e₂ ∙ ap (λ (n : ℕ). section_left put_latches no_latches (latches_at s (top_code h) n p₁) (latch_lists states nexts resets)) m₂

      module _ (p₂ : ℕ) (f₂ : r₂ ≡ Ok p₂) (sizes' roots' : List ℕ) (r₃ : Result Reading Broken)
          (e₃ : seen r₃ (roots_of sizes' roots') ≡ roots_left (roots_at s h (top_code h) (length roots) p₂) (roots_of sizes roots)) where
        latched : StoredIn put_latches (latches_at s (top_code h) h.latches p₁) p₂ (latch_lists states nexts resets) (latch_lists states' nexts' resets')
        latched =
            section_stored put_latches no_latches (latches_at s (top_code h) h.latches p₁) r₂ (latch_lists states nexts resets)
            (latch_lists states' nexts' resets') told₂ p₂ f₂

        stores : StoresRoots (roots_at s h (top_code h) (length roots) p₂) r₃ 0 (roots_of sizes roots) (roots_of sizes' roots')
        stores = rooted_stores (roots_at s h (top_code h) (length roots) p₂) r₃ (roots_of sizes roots) (roots_of sizes' roots') e₃

        module _ (x : Reading) (f₃ : r₃ ≡ Ok x) (gates' : List ℕ) (r₄ : Result ℕ Broken)
            (e₄ : section_seen r₄ gates' ≡ section_left put_gates no_numbers (gates_at s (top_code h) h.gates x.after) gates) where
          rooted : StoredRoots (roots_at s h (top_code h) (length roots) p₂) x.value x.after (roots_of sizes roots) (roots_of sizes' roots')
          rooted = stored_roots (roots_at s h (top_code h) (length roots) p₂) r₃ x (roots_of sizes roots) (roots_of sizes' roots') stores f₃

          known : Rooted h (top_code h) (length roots) rooted.values
          known = roots_known s h (top_code h) (length roots) p₂ rooted.values x.after rooted.read

          pub lists_is : (p₄ : ℕ) → r₄ ≡ Ok p₄ → Whole (Ok (reading_of x.value p₄)) (lists_of inputs' states' nexts' resets' gates' sizes' roots')
          lists_is p₄ f₄ =
              let g = section_stored put_gates no_numbers (gates_at s (top_code h) h.gates x.after) r₄ gates gates' e₄ p₄ f₄ in
              let whole =
              listed s (length roots) h at p₁ p₂ x.after p₄ given.values latched.values rooted.values g.values given.read latched.read rooted.read
              g.read in
              let n₃ = inputs_length s (top_code h) h.inputs at given.values p₁ given.read in
              let k₁ = states_length s (top_code h) h.latches p₁ latched.values p₂ latched.read in
              let k₂ = nexts_length s (top_code h) h.latches p₁ latched.values p₂ latched.read in
              let k₃ = resets_length s (top_code h) h.latches p₁ latched.values p₂ latched.read in
              let n₅ = gates_length s (top_code h) h.gates x.after g.values p₄ g.read in
              let k₄ : length (gate_words g.values) ≡ 3 * length g.values = words_length g.values in
              subst
              (λ (R : Read Text). StoresText R (Ok (reading_of x.value p₄)) (lists_of inputs states nexts resets gates sizes roots)
              (lists_of inputs' states' nexts' resets' gates' sizes' roots')) (sym whole) (
                ap (λ (k : ℕ). Ok (reading_of k p₄)) rooted.sum,
                seven (given.stored ∙ put_onto inputs given.values (omega (arith, n₃, big.inputs_fit)))
                    (ap (λ (l : LatchLists). l.states) latched.stored
                    ∙ put_onto states (states_of latched.values) (omega (arith, k₁, big.states_fit)))
                    (ap (λ (l : LatchLists). l.nexts) latched.stored
                    ∙ put_onto nexts (nexts_of latched.values) (omega (arith, k₂, big.nexts_fit)))
                    (ap (λ (l : LatchLists). l.resets) latched.stored
                    ∙ put_onto resets (resets_of latched.values) (omega (arith, k₃, big.resets_fit)))
                    (g.stored ∙ put_onto gates (gate_words g.values) (omega (arith, n₅, k₄, big.gates_fit)))
                    (rooted.sizes_put ∙ put_onto sizes rooted.values.sizes (omega (arith, known.sets, big.sizes_fit)))
                    (rooted.roots_put ∙ put_onto roots rooted.values.roots (omega (arith, known.all, known.fits))),
              )
