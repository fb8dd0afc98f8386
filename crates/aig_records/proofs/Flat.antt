-- Words that gates are laid into, one gate a turn. Assumes nothing.
use mathlib.Core.Path.{◌≡◌, refl, sym, ap, ap₂, ◌∙◌}
use mathlib.Core.List.{List, [], ◌∷◌, ◌++◌, append_assoc}
use Prim.Native.Nat.{ℕ, ◌+◌, ◌*◌, ◌≤◌, ◌<◌}
use native.Mathlib.Omega.{arith}
use native.Mathlib.Numerals.{add-one}
use lib.ListN.{length, get_or, take, drop}
use lib.Seq.{take_at, drop_at, drop-drop, take-suc, length-take-le}
use borrow.Rule.Slice.PartMut.{put_mid}
use Rattle.aig_records.specs.Records.{no_gate, record_words, flat_of, laid_onto}
use Rattle.aig_records.specs.declared.GateRecord.{GateRecord}

pub flat_append : (gs hs : List GateRecord) → flat_of (gs ++ hs) ≡ flat_of gs ++ flat_of hs
flat_append [] hs = refl
flat_append (g ∷ gs) hs = ap (λ (l : List ℕ). record_words g ++ l) (flat_append gs hs)

pub flat_length : (gs : List GateRecord) → length (flat_of gs) ≡ length gs * 3
flat_length [] = refl
flat_length (g ∷ gs) = omega (arith, flat_length gs)

module _ (ys : List GateRecord) (xs : List ℕ) (i : ℕ) where
  head_length : i ≤ length ys → length (flat_of (take i ys)) ≡ i * 3
  head_length h = flat_length (take i ys) ∙ ap (λ (k : ℕ). k * 3) (length-take-le i ys h)

  -- three words more lay one gate more
  pub laid_more : i < length ys → (k : ℕ) → k ≡ 3 → (ws : List ℕ) → ws ≡ record_words (get_or ys i no_gate)
      → put_mid (i * 3) k (laid_onto i ys xs) ws ≡ laid_onto (i + 1) ys xs
  laid_more h k three ws words =
      let p : List ℕ = flat_of (take i ys) in
      let n : length p ≡ i * 3 = head_length (omega arith) in
      let front : take (i * 3) (laid_onto i ys xs) ≡ p = take_at p (drop (i * 3) xs) (i * 3) n in
      let back : drop k (drop (i * 3) (laid_onto i ys xs)) ≡ drop ((i + 1) * 3) xs =
      (let f : i * 3 + k ≡ (i + 1) * 3 = omega arith in
      ap (drop k) (drop_at p (drop (i * 3) xs) (i * 3) n) ∙ drop-drop k (i * 3) xs ∙ ap (λ (m : ℕ). drop m xs) f) in
      let one : flat_of (take (i + 1) ys) ≡ p ++ ws = ap (λ (m : ℕ). flat_of (take m ys)) (add-one i) ∙ ap flat_of (take-suc ys i no_gate h)
      ∙ flat_append (take i ys) (get_or ys i no_gate ∷ []) ∙ ap (λ (l : List ℕ). p ++ l) (sym words) in
      ap₂ (λ (a d : List ℕ). a ++ (ws ++ d)) front back
      ∙ sym (append_assoc p ws (drop ((i + 1) * 3) xs))
      ∙ ap (λ (a : List ℕ). a ++ drop ((i + 1) * 3) xs) (sym one)
