-- Which refusals reading a text can come to, and where: those of what both forms share, and of a literal that a line defines. Assumes nothing.
use Prim.Native.Nat.{ℕ, ◌*◌, ◌%◌, ◌≤◌}
use mathlib.Core.Bool.{Bool, true, false, cond, ◌||◌}
use mathlib.Core.List.{List}
use lib.Dec.{ltb, eqb}
use lib.ListN.{length}
use Rattle.std.specs.Prelude.{Ok, Err}
use Rattle.token.specs.Answer.{Token, refused, uint_at, assigned, lit_at}
use Rattle.token.specs.declared.Reason.TheVariants.{AssignsZero, AssignsOdd}
use Rattle.token.proofs.Refusals.{lit_place}
use Rattle.lines.specs.declared.Fault.{Fault}
use Rattle.lines.specs.declared.Fault.TheVariants.{Number, Short}
use Rattle.lines.specs.declared.Header.{Header}
use Rattle.lines.specs.Reading.{got, no, ◌▸◌}
use Rattle.lines.specs.Lines.{space_at, newline_at, latch_at}
use Rattle.lines.specs.Sections.{count_at, header_at, top_code, roots_at}
use Rattle.lines.proofs.Answers.{number_held}
use Rattle.ascii_lines.specs.Lines.{defined_at, input_at, inputs_at, stated_latch, stated_at, latches_at, gate_with, input_pair_at, gate_at, gates_at}
use Rattle.ascii_lines.proofs.Answers.{lit_counted}
use Rattle.ascii.specs.Tag.{tag}
use Rattle.ascii.specs.Text.{Room, text_with, sized_at, lists_at, body_at, read_text}
use Rattle.file_words.proofs.Refusals.{Only, OnlyToken, Has, then, if, row, number_of_lem, uint, held, byte, line-end, latch, count, header, roots}

-- P has every reason that a text is refused for
pub record HasText (P : Fault → Type 0) : Type 0 where
  pub both : Has P
  pub assigns_zero : P (Number AssignsZero)
  pub assigns_odd : P (Number AssignsOdd)

module _ (s : List ℕ) (room : Room) (P : Fault → Type 0) (has : HasText P) where
  -- literals that a line defines

  assigns : (at : ℕ) (t : Token) → OnlyToken P t → OnlyToken P (assigned at t)
  assigns at (Ok t) h = go (eqb t.value 0) (eqb (t.value % 2) 1)
    where
      go : (a b : Bool) → OnlyToken P (cond a (refused AssignsZero at) (cond b (refused AssignsOdd at) (Ok t)))
      go true b = has.assigns_zero
      go false true = has.assigns_odd
      go false false = tt
  assigns at (Err e) h = h

  literal : (most at : ℕ) → OnlyToken P (lit_at s at most true)
  unfolding lit_at
  literal most at = held s P has.both most at (assigned at (uint_at s at)) (assigns at (uint_at s at) (uint s P has.both at))

  defined : (most at : ℕ) → at ≤ length s → Only s P (defined_at s most at)
  unfolding defined_at
  defined most at i =
      number_of_lem s P at (lit_at s at most true) i (literal most at) (lit_place s at most true)
      (λ n e. (number_held s most at n (lit_counted s most at n e)).inside)

  -- lines

  input : (most at : ℕ) → at ≤ length s → Only s P (input_at s most at)
  unfolding input_at
  input most at i =
      then s P (defined_at s most at) (λ v at₁. newline_at s at₁ ▸ λ _ at₂. got v at₂) (defined most at i)
      (λ v at₁ _ i₁. line-end s P has.both v at₁ i₁)

  inputs : (most n at : ℕ) → at ≤ length s → Only s P (inputs_at s most n at)
  unfolding inputs_at
  inputs most n at i = row s P (λ k. input_at s most) (λ k at₁ i₁. input most at₁ i₁) 0 n at i

  stated : (most at : ℕ) → at ≤ length s → Only s P (stated_at s most at)
  unfolding stated_at
  stated most at i =
      then s P (defined_at s most at) (λ t at₁. space_at s at₁ ▸ λ _ at₂. latch_at s most t at₂ ▸ λ l at₃. got (stated_latch t l.next l.reset) at₃)
      (defined most at i)
      (λ t at₁ _ i₁. then s P (space_at s at₁) (λ _ at₂. latch_at s most t at₂ ▸ λ l at₃. got (stated_latch t l.next l.reset) at₃)
      (byte s P has.both 32 at₁ i₁)
      (λ _ at₂ _ i₂. then s P (latch_at s most t at₂) (λ l at₃. got (stated_latch t l.next l.reset) at₃)
      (latch s P has.both most t at₂ i₂) (λ _ at₃ _ i₃. i₃)))

  latches : (most n at : ℕ) → at ≤ length s → Only s P (latches_at s most n at)
  unfolding latches_at
  latches most n at i = row s P (λ k. stated_at s most) (λ k at₁ i₁. stated most at₁ i₁) 0 n at i

  input_pair_lem : (most output at : ℕ) → at ≤ length s → Only s P (input_pair_at s most output at)
  unfolding input_pair_at
  input_pair_lem most output at i =
      then s P (count_at s most at) (λ a at₁. count_at s most at₁ ▸ λ b at₂. newline_at s at₂ ▸ λ _ at₃. got (gate_with output a b) at₃)
      (count s P has.both most at i)
      (λ a at₁ _ i₁. then s P (count_at s most at₁) (λ b at₂. newline_at s at₂ ▸ λ _ at₃. got (gate_with output a b) at₃)
      (count s P has.both most at₁ i₁) (λ b at₂ _ i₂. line-end s P has.both (gate_with output a b) at₂ i₂))

  gate : (most at : ℕ) → at ≤ length s → Only s P (gate_at s most at)
  unfolding gate_at
  gate most at i =
      then s P (defined_at s most at) (λ output at₁. input_pair_at s most output at₁) (defined most at i) (λ output at₁ _ i₁. input_pair_lem most output at₁ i₁)

  gates : (most m at : ℕ) → at ≤ length s → Only s P (gates_at s most m at)
  unfolding gates_at
  gates most m at i = row s P (λ k. gate_at s most) (λ k at₁ i₁. gate most at₁ i₁) 0 m at i

  -- the whole

  sized : (h : Header) (at : ℕ) → at ≤ length s → Only s P (sized_at h room at)
  unfolding sized_at
  sized h at i =
      if s P
      (ltb room.inputs h.inputs || ltb room.states h.latches || ltb room.nexts h.latches || ltb room.resets h.latches
      || ltb room.gates (3 * h.gates) || ltb room.sizes h.justice)
      (no Short at) (got tt at) (λ _. (has.both.short, i)) (λ _. i)

  lists : (h : Header) (at : ℕ) → at ≤ length s → Only s P (lists_at s room.roots h at)
  unfolding lists_at
  lists h at i =
      let most = top_code h in
      then s P (inputs_at s most h.inputs at)
      (λ is at₁. latches_at s most h.latches at₁ ▸ λ ls at₂. roots_at s h most room.roots at₂ ▸ λ rs at₃.
      gates_at s most h.gates at₃ ▸ λ gs at₄. got (text_with h is ls rs gs) at₄)
      (inputs most h.inputs at i)
      (λ is at₁ _ i₁. then s P (latches_at s most h.latches at₁)
      (λ ls at₂. roots_at s h most room.roots at₂ ▸ λ rs at₃. gates_at s most h.gates at₃ ▸ λ gs at₄. got (text_with h is ls rs gs) at₄)
      (latches most h.latches at₁ i₁)
      (λ ls at₂ _ i₂. then s P (roots_at s h most room.roots at₂)
      (λ rs at₃. gates_at s most h.gates at₃ ▸ λ gs at₄. got (text_with h is ls rs gs) at₄)
      (roots s P has.both room.roots h most at₂ i₂)
      (λ rs at₃ _ i₃. then s P (gates_at s most h.gates at₃) (λ gs at₄. got (text_with h is ls rs gs) at₄)
      (gates most h.gates at₃ i₃) (λ _ at₄ _ i₄. i₄))))

  pub only_text : Only s P (read_text s room)
  unfolding read_text body_at
  only_text =
      then s P (header_at s tag) (λ h at. body_at s room h at) (header s P has.both tag)
      (λ h at _ i. then s P (sized_at h room at) (λ _ at₁. lists_at s room.roots h at₁) (sized h at i)
      (λ _ at₁ _ i₁. lists h at₁ i₁))
