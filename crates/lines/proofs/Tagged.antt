-- A whole file: the tag of its form, the header's counts, and what follows them. A tag has no spelling but itself, so the file is read exactly where the
-- tag stands first and a spelling of the rest behind it. Assumes nothing.
use Prim.Native.Nat.{ℕ, ◌+◌, ◌≤◌}
use mathlib.Core.Path.{◌≡◌, refl, sym, ap, ◌∙◌, subst}
use mathlib.Core.Bool.{Bool, true, false, cond, ◌&&◌}
use mathlib.Core.Logic.{◌↔◌}
use mathlib.Core.List.{List, [], ◌∷◌, ◌++◌, append_assoc}
use native.Mathlib.Omega.{arith}
use lib.Dec.{eqb}
use lib.ListN.{length, take, drop, length-append, take-append-drop}
use lib.Seq.{take-append_seam, length-take-le}
use borrow.Author.Tests.{eqb-true, eq-eqb}
use Rattle.token.specs.Format.{Bytes}
use Rattle.lines.specs.declared.Fault.TheVariants.{Missing}
use Rattle.lines.specs.declared.Header.{Header}
use Rattle.lines.specs.Reading.{Read, got, no, ◌▸◌}
use Rattle.lines.specs.Lines.{begins, tag_at}
use Rattle.lines.specs.Sections.{counts_at, header_at}
use Rattle.lines.proofs.Heads.{got_place, Two, two}
use Rattle.lines.proofs.Exactly.{Exactly, Anything}

-- the tag

begun : (tag s : List ℕ) → begins tag s ≡ true → (v : List ℕ) × (s ≡ tag ++ v)
begun [] s e = (s, refl)
begun (b ∷ bs) [] e = absurd (let z : ◌≡◌ {A = ℕ} 0 1 = cc in omega arith)
begun (b ∷ bs) (c ∷ s) e = go (eqb c b) refl (begun bs s) e
  where
    go : (t : Bool) → eqb c b ≡ t → (begins bs s ≡ true → (v : List ℕ) × (s ≡ bs ++ v)) → (t && begins bs s) ≡ true
        → (v : List ℕ) × (c ∷ s ≡ b ∷ (bs ++ v))
    go true f rest g = let (v, k) = rest g in (v, ap (λ (x : ℕ). x ∷ s) (eqb-true c b f) ∙ ap (λ (l : List ℕ). b ∷ l) k)
    go false f rest g = absurd (let z : ◌≡◌ {A = ℕ} 0 1 = cc in omega arith)

begins_so : (tag v : List ℕ) → begins tag (tag ++ v) ≡ true
begins_so [] v = refl
begins_so (b ∷ bs) v = rw (eq-eqb b b refl) (begins_so bs v)

tag_there : (tag v : List ℕ) → tag_at (tag ++ v) tag ≡ got tt (length tag)
unfolding tag_at
tag_there tag v = rw (begins_so tag v)

tag_read : (tag s : List ℕ) (u : Unit {0}) (at : ℕ) → tag_at s tag ≡ got u at → (v : List ℕ) × (s ≡ tag ++ v) × (at ≡ length tag)
unfolding tag_at
tag_read tag s u at e = go (begins tag s) refl e
  where
    go : (t : Bool) → begins tag s ≡ t → cond t (got tt (length tag)) (no Missing 0) ≡ got u at → (v : List ℕ) × (s ≡ tag ++ v) × (at ≡ length tag)
    go true f g = let v = begun tag s f in (v.0, v.1, sym (got_place g))
    go false f g = absurd (let z : ◌≡◌ {A = ℕ} 0 1 = cc in omega arith)

-- the whole file

-- the tag, and a spelling of the rest
abbrev pub Tagged : {A : Type 0} → List ℕ → (A → List ℕ → Type 0) → A → List ℕ → Type 0
Tagged tag Rest a w = (v : List ℕ) × (w ≡ tag ++ v) × Rest a v

module _ {A : Type 0} (tag : List ℕ) (body : List ℕ → Header → ℕ → Read A) (Rest : A → List ℕ → Type 0)
    (rest : Exactly (λ s at. counts_at s at ▸ λ h at₁. body s h at₁) Rest Anything) where
  steps : (s : List ℕ) → (header_at s tag ▸ λ h at. body s h at) ≡ (tag_at s tag ▸ λ _ at. counts_at s at ▸ λ h at₁. body s h at₁)
  unfolding header_at
  steps s = go (tag_at s tag)
    where
      go : (R : Read (Unit {0})) → ((R ▸ λ _ at. counts_at s at) ▸ λ h at₁. body s h at₁) ≡ (R ▸ λ _ at. counts_at s at ▸ λ h at₁. body s h at₁)
      go (got u at) = refl
      go (no why place) = refl

  -- nothing good is refused, whatever bytes follow
  pub tagged_taken : (a : A) (w after : List ℕ) → Tagged tag Rest a w → (header_at (w ++ after) tag ▸ λ h at. body (w ++ after) h at) ≡ got a (length w)
  tagged_taken a w after (v, e, b) =
      let s : w ++ after ≡ tag ++ (v ++ after) = ap (λ (l : List ℕ). l ++ after) e ∙ append_assoc tag v after in
      let n : length tag + length v ≡ length w = sym (length-append tag v) ∙ sym (ap length e) in
      ap (λ (l : List ℕ). header_at l tag ▸ λ h at. body l h at) s ∙ steps (tag ++ (v ++ after))
      ∙ ap (λ (R : Read (Unit {0})). R ▸ λ _ at. counts_at (tag ++ (v ++ after)) at ▸ λ h at₁. body (tag ++ (v ++ after)) h at₁) (tag_there tag (v ++ after))
      ∙ rest.takes a v b tag after tt ∙ ap (got a) n

  -- nothing bad is taken: what is read is spelled by the bytes used
  pub tagged_only : (s : List ℕ) (a : A) (n : ℕ) → Bytes s → (header_at s tag ▸ λ h at. body s h at) ≡ got a n
      → (w : List ℕ) × (after : List ℕ) × Tagged tag Rest a w × (s ≡ w ++ after) × (n ≡ length w)
  tagged_only s a n small e = second (tag_read tag s t.first t.place t.read)
    where
      t : Two (tag_at s tag) (λ _ at. counts_at s at ▸ λ h at₁. body s h at₁) a n
      t = two (tag_at s tag) (λ _ at. counts_at s at ▸ λ h at₁. body s h at₁) a n (sym (steps s) ∙ e)

      second : (v : List ℕ) × (s ≡ tag ++ v) × (t.place ≡ length tag)
          → (w : List ℕ) × (after : List ℕ) × Tagged tag Rest a w × (s ≡ w ++ after) × (n ≡ length w)
      second (v, g, k) =
          let here : (counts_at (tag ++ v) (length tag) ▸ λ h at₁. body (tag ++ v) h at₁) ≡ got a n =
          ap (λ (l : List ℕ). counts_at l (length tag) ▸ λ h at₁. body l h at₁) (sym g)
          ∙ ap (λ (p : ℕ). counts_at s p ▸ λ h at₁. body s h at₁) (sym k) ∙ t.then in
          let u = rest.only tag v (subst Bytes g small) a n here in (
            tag ++ u.word,
            u.after,
            (u.word, refl, u.spells),
            g ∙ ap (λ (l : List ℕ). tag ++ l) u.whole ∙ sym (append_assoc tag u.word u.after),
            u.there ∙ sym (length-append tag u.word),
          )

  -- so: read as a with n bytes used exactly when the first n bytes spell a
  pub tagged_exactly : (s : List ℕ) (a : A) (n : ℕ) → Bytes s
      → ((header_at s tag ▸ λ h at. body s h at) ≡ got a n) ↔ ((n ≤ length s) × Tagged tag Rest a (take n s))
  tagged_exactly s a n small = (to, from)
    where
      to : (header_at s tag ▸ λ h at. body s h at) ≡ got a n → (n ≤ length s) × Tagged tag Rest a (take n s)
      to e =
          let r = tagged_only s a n small e in
          let part : take n s ≡ r.0 = ap (λ (k : ℕ). take k s) r.4 ∙ ap (take (length r.0)) r.3 ∙ take-append_seam r.0 r.1 in
          let long : length s ≡ length r.0 + length r.1 = ap length r.3 ∙ length-append r.0 r.1 in
          let n' : n ≡ length r.0 = r.4 in
          (omega arith, subst (Tagged tag Rest a) (sym part) r.2)

      from : (n ≤ length s) × Tagged tag Rest a (take n s) → (header_at s tag ▸ λ h at. body s h at) ≡ got a n
      from (h, t) =
          ap (λ (l : List ℕ). header_at l tag ▸ λ k at. body l k at) (sym (take-append-drop n s)) ∙ tagged_taken a (take n s) (drop n s) t
          ∙ ap (got a) (length-take-le n s h)
