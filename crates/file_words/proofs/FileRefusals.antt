-- Which refusals reading a binary file can come to, and where: those of what both forms share, of a delta, and of the test right after the header. Assumes
-- nothing.
use Prim.Native.Nat.{ℕ, ◌+◌, ◌-◌, ◌*◌, ◌≤◌}
use mathlib.Core.Path.{◌≡◌, refl}
use mathlib.Core.Bool.{Bool, true, false, cond, ◌||◌}
use mathlib.Core.List.{List}
use native.Mathlib.Omega.{arith}
use lib.Dec.{ltb, leb, eqb}
use lib.ListN.{length, take, drop}
use Rattle.token.specs.Format.{groups_value}
use Rattle.std.specs.Prelude.{Ok, Err}
use Rattle.token.specs.Answer.{Token, PairToken, value, refused, inputs, go_on_at, binary_of, binary_at, less, delta_at, pair_first, pair_second, pair_at}
use Rattle.token.specs.declared.Reason.{Reason}
use Rattle.token.specs.declared.Reason.TheVariants.{Cut, TooLong, OverReference, ZeroDelta}
use Rattle.token.specs.Claims.{RefusedDelta, first, second, first_zero}
use Rattle.token.proofs.Theorems.{delta_uses, pair_uses, pair_names_the_delta}
use Rattle.circuit.specs.Walk.{first_code}
use Rattle.circuit.specs.Ordered.{first_latch}
use Rattle.lines.specs.declared.Fault.{Fault}
use Rattle.lines.specs.declared.Fault.TheVariants.{Number, Above, Short}
use Rattle.lines.specs.declared.Header.{Header}
use Rattle.lines.specs.Reading.{got, no, ◌▸◌}
use Rattle.lines.specs.Lines.{latch_at, latches_at}
use Rattle.lines.specs.Sections.{header_at, top_code, roots_at}
use Rattle.binary.specs.File.{tag, Room, gate_of, gate_at, gates_at, file_with, sized_at, lists_at, body_at, read_file}
use Rattle.file_words.proofs.Refusals.{Only, Has, then, if, row, OnlyToken, latch, header, roots}

-- P has every reason that a binary file is refused for
pub record HasFile (P : Fault → Type 0) : Type 0 where
  pub both : Has P
  pub cut : P (Number Cut)
  pub too_long : P (Number TooLong)
  pub over_reference : P (Number OverReference)
  pub zero_delta : P (Number ZeroDelta)
  pub above : P Above

module _ (s : List ℕ) (room : Room) (P : Fault → Type 0) (has : HasFile P) where
  -- tokens

  abbrev OnlyPair : PairToken → Type 0
  OnlyPair (Ok t) = Unit {0}
  OnlyPair (Err e) = P (Number e.why)

  groups : (bs : List ℕ) (n at : ℕ) → OnlyToken P (binary_of bs n at)
  groups bs n at = go (leb 8 n) (leb (length bs) n)
    where
      go : (a b : Bool) → OnlyToken P (cond a (refused TooLong at) (cond b (refused Cut at) (value (groups_value (take (n + 1) bs)) (n + 1))))
      go true b = has.too_long
      go false true = has.cut
      go false false = tt

  taken_from_lem : (reference at : ℕ) (t : Token) → OnlyToken P t → OnlyToken P (less reference at t)
  taken_from_lem reference at (Ok d) h = go (leb d.value reference)
    where
      go : (b : Bool) → OnlyToken P (cond b (value (reference - d.value) d.used) (refused OverReference at))
      go true = tt
      go false = has.over_reference
  taken_from_lem reference at (Err e) h = h

  delta : (at reference : ℕ) → OnlyToken P (delta_at s at reference)
  unfolding delta_at binary_at
  delta at reference = taken_from_lem reference at (binary_of (take 8 (drop at s)) (go_on_at s at) at) (groups (take 8 (drop at s)) (go_on_at s at) at)

  pair : (at code : ℕ) → OnlyPair (pair_at s at code)
  unfolding pair_at
  pair at code = first (delta_at s at code) (delta at code)
    where
      second : (a n : ℕ) (t : Token) → OnlyToken P t → OnlyPair (pair_second code at a n t)
      second a n (Ok t) h = last (eqb a code)
        where
          last : (z : Bool) → OnlyPair (cond z (refused ZeroDelta at) (inputs a t.value (n + t.used)))
          last true = has.zero_delta
          last false = tt
      second a n (Err e) h = h

      first : (t : Token) → OnlyToken P t → OnlyPair (pair_first s code at t)
      first (Ok t) h = second t.value t.used (delta_at s (at + t.used) t.value) (delta (at + t.used) t.value)
      first (Err e) h = h

  -- latches, gates, and the whole

  latches : (most own n at : ℕ) → at ≤ length s → Only s P (latches_at s most own n at)
  unfolding latches_at
  latches most own n at i = row s P (λ k. latch_at s most (own + 2 * k)) (λ k at₁ i₁. latch s P has.both most (own + 2 * k) at₁ i₁) 0 n at i

  gate : (n k at : ℕ) → at ≤ length s → Only s P (gate_at s n k at)
  unfolding gate_at
  gate n k at i = go (pair_at s at (first_code n + 2 * k)) refl (pair at (first_code n + 2 * k))
    where
      placed : (why : Reason) (place : ℕ) → RefusedDelta s at (first_code n + 2 * k) why place → place ≤ length s
      placed why place (first e p) = omega (arith, i, p)
      placed why place (first_zero z w p) = omega (arith, i, p)
      placed why place (second a m e f p) = omega (arith, delta_uses s at (first_code n + 2 * k) a m e, p)

      go : (t : PairToken) → pair_at s at (first_code n + 2 * k) ≡ t → OnlyPair t → Only s P (gate_of at t)
      go (Ok t) e h = (pair_uses s at (first_code n + 2 * k) t.first t.second t.used e).inside
      go (Err r) e h = (h, placed r.why r.place (pair_names_the_delta s at (first_code n + 2 * k) r.why r.place e))

  gates : (n m at : ℕ) → at ≤ length s → Only s P (gates_at s n m at)
  unfolding gates_at
  gates n m at i = row s P (gate_at s n) (gate n) 0 m at i

  sized : (h : Header) (at : ℕ) → at ≤ length s → Only s P (sized_at h room at)
  unfolding sized_at
  sized h at i =
      let short = ltb room.nexts h.latches || ltb room.resets h.latches || ltb room.gates (2 * h.gates) || ltb room.sizes h.justice in
      if s P (ltb (h.inputs + h.latches + h.gates) h.top) (no Above at) (cond short (no Short at) (got tt at)) (λ _. (has.above, i))
      (λ _. if s P short (no Short at) (got tt at) (λ _. (has.both.short, i)) (λ _. i))

  lists : (h : Header) (at : ℕ) → at ≤ length s → Only s P (lists_at s room.roots h at)
  unfolding lists_at
  lists h at i =
      then s P (latches_at s (top_code h) (first_latch h.inputs) h.latches at)
      (λ ls at₁. roots_at s h (top_code h) room.roots at₁ ▸ λ roots at₂.
      gates_at s (h.inputs + h.latches) h.gates at₂ ▸ λ gates at₃. got (file_with h ls roots gates) at₃)
      (latches (top_code h) (first_latch h.inputs) h.latches at i)
      (λ ls at₁ _ i₁. then s P (roots_at s h (top_code h) room.roots at₁)
      (λ roots at₂. gates_at s (h.inputs + h.latches) h.gates at₂ ▸ λ gates at₃. got (file_with h ls roots gates) at₃)
      (roots s P has.both room.roots h (top_code h) at₁ i₁)
      (λ rs at₂ _ i₂. then s P (gates_at s (h.inputs + h.latches) h.gates at₂) (λ gates at₃. got (file_with h ls rs gates) at₃)
      (gates (h.inputs + h.latches) h.gates at₂ i₂) (λ _ at₃ _ i₃. i₃)))

  pub only-read : Only s P (read_file s room)
  unfolding read_file body_at
  only-read =
      then s P (header_at s tag) (λ h at. body_at s room h at) (header s P has.both tag)
      (λ h at e i. then s P (sized_at h room at) (λ _ at₁. lists_at s room.roots h at₁) (sized h at i)
      (λ _ at₁ _ i₁. lists h at₁ i₁))
