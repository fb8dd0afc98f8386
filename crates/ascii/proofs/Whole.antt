-- The whole text: header and body together are the answer. Assumes nothing.
use Prim.Native.Nat.{ℕ, ◌*◌, ◌≤◌}
use Rattle.std.specs.Prelude.{Result, Ok, Err, is_err}
use mathlib.Core.Path.{◌≡◌, refl, sym, ap, ◌∙◌, subst}
use mathlib.Core.Bool.{Bool, true, false, cond, ◌||◌}
use mathlib.Core.List.{List, [], ◌∷◌}
use native.Mathlib.Omega.{arith}
use lib.Dec.{ltb}
use lib.ListN.{length}
use borrow.Author.Tests.{le-ltb, ltb-false}
use Rattle.circuit.specs.Graph.{Gate}
use Rattle.circuit.specs.Outcome.{total, zeros}
use Rattle.lines.specs.declared.Fault.TheVariants.{Short}
use Rattle.lines.specs.declared.Broken.{Broken}
use Rattle.lines.specs.declared.Reading.{Reading}
use Rattle.lines.specs.declared.FirstLine.{FirstLine}
use Rattle.lines.specs.declared.Header.{Header}
use Rattle.lines.specs.Reading.{Read, got, no, ◌▸◌}
use Rattle.lines.specs.Sections.{Roots, header_at, top_code, roots_at}
use Rattle.lines.specs.Limits.{Within}
use Rattle.lines.specs.Promise.{ended, reading_of, first_line_of, first_line}
use Rattle.lines.proofs.Answers.{after_got, header_got, broken_no}
use Rattle.lines.proofs.Heads.{two, got_same, got_place, header_within}
use Rattle.lines.proofs.Known.{roots_known}
use Rattle.binary.specs.File.{counts_of}
use Rattle.binary.proofs.Files.{same_refusal}
use Rattle.ascii_lines.specs.Lines.{Stated, inputs_at, latches_at, gates_at}
use Rattle.ascii_lines.proofs.Known.{inputs_length, states_length, nexts_length, resets_length, gates_length}
use Rattle.ascii.specs.declared.TextRead.{TextRead}
use Rattle.ascii.specs.Tag.{tag}
use Rattle.ascii.specs.Text.{Text, Room, room_for, text_with, sized_at, lists_at, body_at, read_text}
use Rattle.ascii.specs.Promise.{Lists, room_of, cleared, seen, left, StoresText, StoresRead, Roomy}
use Rattle.ascii.proofs.Seven.{seven}

-- right after the header

module _ (h : Header) (room : Room) (at : ℕ) where
  pub sized_fits : h.inputs ≤ room.inputs → h.latches ≤ room.states → h.latches ≤ room.nexts → h.latches ≤ room.resets
      → 3 * h.gates ≤ room.gates → h.justice ≤ room.sizes → sized_at h room at ≡ got tt at
  unfolding sized_at
  sized_fits a₁ a₂ a₃ a₄ a₅ a₆ = rw (
    le-ltb room.inputs h.inputs a₁,
    le-ltb room.states h.latches a₂,
    le-ltb room.nexts
        h.latches a₃,
    le-ltb room.resets h.latches a₄,
    le-ltb room.gates (3 * h.gates) a₅,
    le-ltb room.sizes h.justice a₆,
  )

  pub sized_taken : Roomy h room → sized_at h room at ≡ got tt at
  sized_taken r = sized_fits r.inputs_fit r.states_fit r.nexts_fit r.resets_fit r.gates_fit r.sizes_fit

  pub sized_roomy : (u : Unit {0}) (end : ℕ) → sized_at h room at ≡ got u end → Roomy h room
  unfolding sized_at
  sized_roomy u end e =
      go (ltb room.inputs h.inputs) (ltb room.states h.latches) (ltb room.nexts h.latches) (ltb room.resets h.latches) (ltb
      room.gates (3 * h.gates)) (ltb room.sizes h.justice) refl refl refl refl refl refl e
    where
      go : (a b c d x y : Bool) → ltb room.inputs h.inputs ≡ a → ltb room.states h.latches ≡ b → ltb room.nexts h.latches ≡ c
          → ltb room.resets h.latches ≡ d → ltb room.gates (3 * h.gates) ≡ x → ltb room.sizes h.justice ≡ y
          → cond (a || b || c || d || x || y) (no Short at) (got tt at) ≡ got u end → Roomy h room
      go true b c d x y e₁ e₂ e₃ e₄ e₅ e₆ k = absurd (let z : ◌≡◌ {A = ℕ} 0 1 = cc in omega arith)
      go false true c d x y e₁ e₂ e₃ e₄ e₅ e₆ k = absurd (let z : ◌≡◌ {A = ℕ} 0 1 = cc in omega arith)
      go false false true d x y e₁ e₂ e₃ e₄ e₅ e₆ k = absurd (let z : ◌≡◌ {A = ℕ} 0 1 = cc in omega arith)
      go false false false true x y e₁ e₂ e₃ e₄ e₅ e₆ k = absurd (let z : ◌≡◌ {A = ℕ} 0 1 = cc in omega arith)
      go false false false false true y e₁ e₂ e₃ e₄ e₅ e₆ k = absurd (let z : ◌≡◌ {A = ℕ} 0 1 = cc in omega arith)
      go false false false false false true e₁ e₂ e₃ e₄ e₅ e₆ k = absurd (let z : ◌≡◌ {A = ℕ} 0 1 = cc in omega arith)
      go false false false false false false e₁ e₂ e₃ e₄ e₅ e₆ k =
          record {
            inputs_fit = ltb-false room.inputs h.inputs e₁;
            states_fit = ltb-false room.states h.latches e₂;
            nexts_fit = ltb-false room.nexts h.latches e₃;
            resets_fit = ltb-false room.resets h.latches e₄;
            gates_fit = ltb-false room.gates (3 * h.gates) e₅;
            sizes_fit = ltb-false room.sizes h.justice e₆;
          }

-- the root list is not looked at there
sized_alike : (h : Header) (l : Lists) (at : ℕ) → sized_at h (room_for (length l.inputs) (length l.states) (length l.nexts) (length
    l.resets) (length l.gates) (length l.sizes)) at ≡ sized_at h (room_of l) at
unfolding sized_at
sized_alike h l at = refl

module _ (s : List ℕ) (h : Header) (at : ℕ) (l l' : Lists) (r : Result ℕ Broken)
    (e : r ≡ ended (sized_at h (room_for (length l.inputs) (length l.states) (length l.nexts) (length l.resets) (length l.gates)
    (length l.sizes)) at)) where
  told : ended (sized_at h (room_of l) at) ≡ r
  told = ap ended (sym (sized_alike h l at)) ∙ sym e

  pub body_roomy : (next : ℕ) → r ≡ Ok next → Roomy h (room_of l)
  body_roomy next f = let g = after_got (sized_at h (room_of l) at) next (told ∙ f) in sized_roomy h (room_of l) at g.0 next g.1

  pub body_is : (next : ℕ) (x : Result Reading Broken) → r ≡ Ok next → StoresText (lists_at s (length l.roots) h next) x l l' → StoresText (body_at s
      (room_of l) h at) x l l'
  unfolding body_at
  body_is next x f g =
      let a = after_got (sized_at h (room_of l) at) next (told ∙ f) in
      subst (λ (R : Read (Unit {0})). StoresText (R ▸ λ _ at₁. lists_at s (length l.roots) h at₁) x l l') (sym a.1) g

  pub body_not : (b : Broken) (t : Result Reading Broken) → r ≡ Err b → t ≡ Err b → StoresText (body_at s (room_of l) h at) t l l'
  unfolding body_at
  body_not b t f q =
      let a = broken_no (λ _ p. p) (sized_at h (room_of l) at) b (told ∙ f) in
      subst (λ (R : Read (Unit {0})). StoresText (R ▸ λ _ at₁. lists_at s (length l.roots) h at₁) t l l') (sym a) q

-- what a text is made of, section by section

pub record Sections (s : List ℕ) (room : ℕ) (h : Header) (at : ℕ) (t : Text) (end : ℕ) : Type 0 where
  pub inputs : List ℕ
  pub latches : List Stated
  pub roots : Roots
  pub gates : List Gate
  pub after_inputs : ℕ
  pub after_latches : ℕ
  pub after_roots : ℕ
  pub inputs_read : inputs_at s (top_code h) h.inputs at ≡ got inputs after_inputs
  pub latches_read : latches_at s (top_code h) h.latches after_inputs ≡ got latches after_latches
  pub roots_read : roots_at s h (top_code h) room after_latches ≡ got roots after_roots
  pub gates_read : gates_at s (top_code h) h.gates after_roots ≡ got gates end
  pub made : text_with h inputs latches roots gates ≡ t

pub sections : (s : List ℕ) (room : ℕ) (h : Header) (at : ℕ) (t : Text) (end : ℕ) → lists_at s room h at ≡ got t end → Sections s room h at t end
unfolding lists_at
sections s room h at t end e =
    let a =
    two (inputs_at s (top_code h) h.inputs at)
    (λ vs at₁. latches_at s (top_code h) h.latches at₁ ▸ λ ls at₂. roots_at s h (top_code h) room at₂ ▸ λ p at₃. gates_at s (top_code h) h.gates at₃
    ▸ λ gs at₄. got (text_with h vs ls p gs) at₄) t end e in
    let b =
    two (latches_at s (top_code h) h.latches a.place)
    (λ ls at₂. roots_at s h (top_code h) room at₂ ▸ λ p at₃. gates_at s (top_code h) h.gates at₃ ▸ λ gs at₄. got (text_with h a.first ls p gs) at₄) t end
    a.then in
    let c =
    two (roots_at s h (top_code h) room b.place)
    (λ p at₃. gates_at s (top_code h) h.gates at₃ ▸ λ gs at₄. got (text_with h a.first b.first p gs) at₄) t end b.then in
    let d = two (gates_at s (top_code h) h.gates c.place) (λ gs at₄. got (text_with h a.first b.first c.first gs) at₄) t end c.then in
    record {
      inputs = a.first;
      latches = b.first;
      roots = c.first;
      gates = d.first;
      after_inputs = a.place;
      after_latches = b.place;
      after_roots = c.place;
      inputs_read = a.read;
      latches_read = b.read;
      roots_read = c.read;
      gates_read = d.read ∙ ap (got d.first) (got_place d.then);
      made = got_same d.then;
    }

-- what the header announced

pub record Announced (h : Header) (t : Text) : Type 0 where
  pub top : t.top ≡ h.top
  pub inputs : length t.inputs ≡ h.inputs
  pub states : length t.states ≡ h.latches
  pub nexts : length t.nexts ≡ h.latches
  pub resets : length t.resets ≡ h.latches
  pub gates : length t.gates ≡ h.gates
  pub counts : t.counts ≡ counts_of h t.sizes
  pub sets : length t.sizes ≡ h.justice

pub lists-announced : (s : List ℕ) (room : ℕ) (h : Header) (at : ℕ) (t : Text) (end : ℕ) → lists_at s room h at ≡ got t end → Announced h t
lists-announced s room h at t end e =
    let p = sections s room h at t end e in
    let most = top_code h in
    subst (Announced h) p.made
    (record {
      top = refl;
      inputs = inputs_length s most h.inputs at p.inputs p.after_inputs p.inputs_read;
      states = states_length s most h.latches p.after_inputs p.latches p.after_latches p.latches_read;
      nexts = nexts_length s most h.latches p.after_inputs p.latches p.after_latches p.latches_read;
      resets = resets_length s most h.latches p.after_inputs p.latches p.after_latches p.latches_read;
      gates = gates_length s most h.gates p.after_roots p.gates end p.gates_read;
      counts = refl;
      sets = (roots_known s h most room p.after_latches p.roots p.after_roots p.roots_read).sets;
    })

pub body_announced : (s : List ℕ) (room : Room) (h : Header) (at : ℕ) (t : Text) (end : ℕ) → body_at s room h at ≡ got t end → Announced h t
unfolding body_at
body_announced s room h at t end e =
    let u = two (sized_at h room at) (λ _ at₁. lists_at s room.roots h at₁) t end e in
    lists-announced s room.roots h u.place t end u.then

-- header and body

-- the answer for a text that is taken, from the numbers that its header announced
abbrev taken_of : Header → Reading → TextRead
taken_of h x =
    record {
      used = x.after;
      top = h.top;
      inputs = h.inputs;
      latches = h.latches;
      gates = h.gates;
      counts = h.outputs ∷ h.bad ∷ h.constraints ∷ h.fairness ∷ x.value ∷ [];
      sets = h.justice;
    }

fields : {e₁ e₂ t₁ t₂ i₁ i₂ l₁ l₂ g₁ g₂ : ℕ} {c₁ c₂ : List ℕ} {s₁ s₂ : ℕ} → e₁ ≡ e₂ → t₁ ≡ t₂ → i₁ ≡ i₂ → l₁ ≡ l₂ → g₁ ≡ g₂ → c₁ ≡ c₂ → s₁ ≡ s₂
    → ◌≡◌ {A = TextRead} (record { used = e₁; top = t₁; inputs = i₁; latches = l₁; gates = g₁; counts = c₁; sets = s₁ })
    (record { used = e₂; top = t₂; inputs = i₂; latches = l₂; gates = g₂; counts = c₂; sets = s₂ })
fields a₁ a₂ a₃ a₄ a₅ a₆ a₇ = cc

module _ (s : List ℕ) (l : Lists) where
  module _ (x : FirstLine) (e : first_line (header_at s tag) ≡ Ok x) where
    pub read_within : Within x.header
    read_within = header_within s tag x.header x.after (header_got (header_at s tag) x e)

    whole : body_at s (room_of l) x.header x.after ≡ read_text s (room_of l)
    unfolding read_text
    whole = sym (ap (λ (R : Read Header). R ▸ λ h at. body_at s (room_of l) h at) (header_got (header_at s tag) x e))

    module _ (mid : Lists) (r : Result Reading Broken) (f : StoresText (body_at s (room_of l) x.header x.after) r l mid) where
      pub taken_is : (y : Reading) → r ≡ Ok y → StoresRead (read_text s (room_of l)) (Ok (taken_of x.header y)) l mid
      taken_is y g =
          subst (λ (R : Read Text). StoresRead R (Ok (taken_of x.header y)) l mid) whole (go (body_at s (room_of l) x.header x.after) refl f)
        where
          go : (R : Read Text) → body_at s (room_of l) x.header x.after ≡ R → StoresText R r l mid → StoresRead R (Ok (taken_of x.header y)) l mid
          go (got text p) k (b, c) =
              let h = x.header in
              let n = body_announced s (room_of l) h x.after text p k in
              let same : ◌≡◌ {A = Reading} y (reading_of (total text.sizes) p) = cc in
              let counts : (h.outputs ∷ h.bad ∷ h.constraints ∷ h.fairness ∷ y.value ∷ []) ≡ text.counts =
              ap (λ (z : Reading). h.outputs ∷ h.bad ∷ h.constraints ∷ h.fairness ∷ z.value ∷ []) same ∙ sym n.counts in (
                ap (λ (z : TextRead). Ok z)
                    (fields (ap (λ (z : Reading). z.after) same) (sym n.top) (sym n.inputs) (sym n.states) (sym n.gates) counts (sym n.sets)),
                c,
              )
          go (no why p) k b = absurd (let z : ◌≡◌ {A = ℕ} 0 1 = cc in omega arith)
