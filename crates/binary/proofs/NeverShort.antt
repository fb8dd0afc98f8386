-- Lists as long as the limits are never too short: a header that is read announces no more, and the roots are counted before their list is asked. Assumes
-- nothing.
use Prim.Native.Nat.{ℕ, ◌+◌, ◌*◌}
use mathlib.Core.Path.{◌≡◌}
use mathlib.Core.Bool.{Bool, true, false, cond}
use mathlib.Core.List.{List}
use native.Mathlib.Omega.{arith}
use lib.Dec.{ltb}
use borrow.Author.Tests.{le-ltb}
use Rattle.token.specs.Answer.{PairToken, pair_at}
use Rattle.std.specs.Prelude.{Ok, Err}
use Rattle.circuit.specs.Walk.{first_code}
use Rattle.circuit.specs.Ordered.{first_latch}
use Rattle.lines.specs.declared.Fault.TheVariants.{Number, Above}
use Rattle.lines.specs.declared.Header.{Header}
use Rattle.lines.specs.Reading.{got, no, ◌▸◌}
use Rattle.lines.specs.Lines.{latches_at}
use Rattle.lines.specs.Sections.{header_at, top_code, roots_at}
use Rattle.lines.specs.Limits.{Within}
use Rattle.lines.proofs.Heads.{header_within}
use Rattle.lines.proofs.NeverShort.{Never, never_got, never_no, never_then, never_row, never_latches, never_header, never_roots}
use Rattle.binary.specs.File.{Room, tag, file_with, gate_of, gate_at, gates_at, sized_at, lists_at, body_at, read_file}
use Rattle.binary.specs.Known.{Ample}

never_gate : (s : List ℕ) (n k at : ℕ) → Never (gate_at s n k at)
unfolding gate_at
never_gate s n k at = go (pair_at s at (first_code n + 2 * k))
  where
    go : (t : PairToken) → Never (gate_of at t)
    go (Ok t) = never_got (record { larger = t.first; smaller = t.second }) (at + t.used)
    go (Err e) = never_no (Number e.why) e.place (λ w. let z : ◌≡◌ {A = ℕ} 0 1 = cc in omega arith)

never_gates : (s : List ℕ) (n m at : ℕ) → Never (gates_at s n m at)
unfolding gates_at
never_gates s n m at = never_row (gate_at s n) (never_gate s n) 0 m at

module _ (s : List ℕ) (room : Room) (ample : Ample room) where
  never_sized : (h : Header) (at : ℕ) → Within h → Never (sized_at h room at)
  unfolding sized_at
  never_sized h at w =
      rw (
        le-ltb room.nexts h.latches (omega (arith, ample.nexts, w.defined, w.top)),
        le-ltb room.resets h.latches (omega (arith, ample.resets, w.defined, w.top)),
        le-ltb room.gates (2 * h.gates) (omega (arith, ample.gates, w.defined, w.top)),
        le-ltb room.sizes h.justice (omega (arith, ample.sizes, w.justice)),
      ) (go (ltb (h.inputs + h.latches + h.gates) h.top))
    where
      go : (t : Bool) → Never {A = Unit {0}} (cond t (no Above at) (got tt at))
      go true = never_no Above at (λ w. let z : ◌≡◌ {A = ℕ} 0 1 = cc in omega arith)
      go false = never_got tt at

  never_lists : (h : Header) (at : ℕ) → Never (lists_at s room.roots h at)
  unfolding lists_at
  never_lists h at =
      never_then (latches_at s (top_code h) (first_latch h.inputs) h.latches at)
      (λ ns at₁. roots_at s h (top_code h) room.roots at₁ ▸ λ p at₂. gates_at s (h.inputs + h.latches) h.gates at₂ ▸ λ gs at₃. got
      (file_with h ns p gs) at₃)
      (never_latches s (top_code h) (first_latch h.inputs) h.latches at)
      (λ ns at₁ _. never_then (roots_at s h (top_code h) room.roots at₁)
      (λ p at₂. gates_at s (h.inputs + h.latches) h.gates at₂ ▸ λ gs at₃. got (file_with h ns p gs) at₃)
      (never_roots s h (top_code h) room.roots ample.roots at₁)
      (λ p at₂ _. never_then (gates_at s (h.inputs + h.latches) h.gates at₂) (λ gs at₃. got (file_with h ns p gs) at₃)
      (never_gates s (h.inputs + h.latches) h.gates at₂) (λ gs at₃ _. never_got (file_with h ns p gs) at₃)))

  never_body : (h : Header) (at : ℕ) → Within h → Never (body_at s room h at)
  unfolding body_at
  never_body h at w = never_then (sized_at h room at) (λ _ at₁. lists_at s room.roots h at₁) (never_sized h at w) (λ _ at₁ _. never_lists h at₁)

  pub never_short : Never (read_file s room)
  unfolding read_file
  never_short =
      never_then (header_at s tag) (λ h at. body_at s room h at) (never_header s tag) (λ h at r. never_body h at (header_within s tag h at r))
