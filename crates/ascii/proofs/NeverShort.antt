-- Lists as long as the limits are never too short: a header that is read announces no more, and the roots are counted before their list is asked. Assumes
-- nothing.
use Prim.Native.Nat.{ℕ}
use mathlib.Core.Path.{subst⁻¹}
use mathlib.Core.List.{List}
use native.Mathlib.Omega.{arith}
use Rattle.lines.specs.declared.Header.{Header}
use Rattle.lines.specs.Reading.{Read, got, ◌▸◌}
use Rattle.lines.specs.Sections.{header_at, top_code, roots_at}
use Rattle.lines.specs.Limits.{Within}
use Rattle.lines.proofs.Heads.{header_within}
use Rattle.lines.proofs.NeverShort.{Never, never_got, never_then, never_header, never_roots}
use Rattle.ascii_lines.specs.Lines.{inputs_at, latches_at, gates_at}
use Rattle.ascii_lines.proofs.NeverShort.{never_inputs, never_latches, never_gates}
use Rattle.ascii.specs.Tag.{tag}
use Rattle.ascii.specs.Text.{Room, text_with, sized_at, lists_at, body_at, read_text}
use Rattle.ascii.specs.Known.{Ample}
use Rattle.ascii.specs.Promise.{Roomy}
use Rattle.ascii.proofs.Whole.{sized_taken}

module _ (s : List ℕ) (room : Room) (ample : Ample room) where
  ample_roomy : (h : Header) → Within h → Roomy h room
  ample_roomy h w =
      record {
        inputs_fit = omega (arith, ample.inputs, w.defined, w.top);
        states_fit = omega (arith, ample.states, w.defined, w.top);
        nexts_fit = omega (arith, ample.nexts, w.defined, w.top);
        resets_fit = omega (arith, ample.resets, w.defined, w.top);
        gates_fit = omega (arith, ample.gates, w.defined, w.top);
        sizes_fit = omega (arith, ample.sizes, w.justice);
      }

  never_sized : (h : Header) (at : ℕ) → Within h → Never (sized_at h room at)
  never_sized h at w = subst⁻¹ (λ (R : Read (Unit {0})). Never R) (sized_taken h room at (ample_roomy h w)) (never_got tt at)

  never_lists : (h : Header) (at : ℕ) → Never (lists_at s room.roots h at)
  unfolding lists_at
  never_lists h at =
      never_then (inputs_at s (top_code h) h.inputs at)
      (λ vs at₁. latches_at s (top_code h) h.latches at₁ ▸ λ ls at₂. roots_at s h (top_code h) room.roots at₂ ▸ λ p at₃. gates_at s (top_code h) h.gates at₃
      ▸ λ gs at₄. got (text_with h vs ls p gs) at₄) (never_inputs s (top_code h) h.inputs at)
      (λ vs at₁ _. never_then (latches_at s (top_code h) h.latches at₁)
      (λ ls at₂. roots_at s h (top_code h) room.roots at₂ ▸ λ p at₃. gates_at s (top_code h) h.gates at₃ ▸ λ gs at₄. got (text_with h vs ls p gs) at₄)
      (never_latches s (top_code h) h.latches at₁)
      (λ ls at₂ _. never_then (roots_at s h (top_code h) room.roots at₂)
      (λ p at₃. gates_at s (top_code h) h.gates at₃ ▸ λ gs at₄. got (text_with h vs ls p gs) at₄)
      (never_roots s h (top_code h) room.roots ample.roots at₂)
      (λ p at₃ _. never_then (gates_at s (top_code h) h.gates at₃) (λ gs at₄. got (text_with h vs ls p gs) at₄) (never_gates s (top_code h) h.gates at₃)
      (λ gs at₄ _. never_got (text_with h vs ls p gs) at₄))))

  never_body : (h : Header) (at : ℕ) → Within h → Never (body_at s room h at)
  unfolding body_at
  never_body h at w = never_then (sized_at h room at) (λ _ at₁. lists_at s room.roots h at₁) (never_sized h at w) (λ _ at₁ _. never_lists h at₁)

  pub never_short : Never (read_text s room)
  unfolding read_text
  never_short =
      never_then (header_at s tag) (λ h at. body_at s room h at) (never_header s tag) (λ h at r. never_body h at (header_within s tag h at r))
