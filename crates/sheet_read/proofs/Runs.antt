-- Numbers read one after the other into a list: after i of them, the whole run is those i and the run from the place reached. Assumes nothing.
use Prim.Native.Nat.{ℕ, zero, suc, ◌+◌, ◌-◌, ◌≤◌, ◌<◌}
use mathlib.Core.Path.{◌≡◌, refl, sym, ap, ◌∙◌}
use mathlib.Core.List.{List, [], ◌∷◌, ◌++◌, append-nil, append_assoc}
use native.Mathlib.Numerals.{add-one}
use native.Mathlib.Omega.{arith}
use lib.ListN.{length, set, take, drop, length-set, take-append-drop}
use lib.Seq.{take-suc-set, drop-set-lt, length-take-le, drop-drop}
use Rattle.std.specs.Prelude.{Ok, Err}
use Rattle.token.specs.Answer.{Token, binary_at}
use Rattle.token.specs.declared.Number.{Number}
use Rattle.token.specs.declared.Refused.{Refused}
use Rattle.circuit.specs.Outcome.{onto}
use Rattle.circuit.proofs.Outcome.{onto_long}
use Rattle.sheet_read.specs.Sheet.{Run, run_of, prepended, onward, numbers_at}
use Rattle.sheet_read.specs.Promise.{Fills}

-- numbers before a run
abbrev behind : List ℕ → Run → Run
behind vs r = run_of (vs ++ r.numbers) r.ended

pub record Filling (s : List ℕ) (at : ℕ) (list₀ list : List ℕ) (i place : ℕ) : Type 0 where
  pub inside : i ≤ length list₀
  pub same : length list ≡ length list₀
  pub rest : drop i list ≡ drop i list₀
  pub run : numbers_at s at (length list₀) ≡ behind (take i list) (numbers_at s place (length list₀ - i))

module _ {s : List ℕ} {at : ℕ} {list₀ list : List ℕ} {i place : ℕ} (f : Filling s at list₀ list i place) where
  one_more : i < length list₀ → numbers_at s place (length list₀ - i) ≡ onward (binary_at s place)
      (λ v used. prepended v (numbers_at s (place + used) (length list₀ - (i + 1))))
  unfolding numbers_at
  one_more h = let e : length list₀ - i ≡ suc (length list₀ - (i + 1)) = omega arith in ap (numbers_at s place) e

  pub filling_more : (t : Number) → i < length list₀ → binary_at s place ≡ Ok t → Filling s at list₀ (set list i t.value) (i + 1) (place + t.used)
  filling_more t h e =
      let v : ℕ = t.value in
      let used : ℕ = t.used in
      let next : numbers_at s place (length list₀ - i) ≡ prepended v (numbers_at s (place + used) (length list₀ - (i + 1))) =
      one_more h ∙ ap (λ (r : Token). onward r (λ x u. prepended x (numbers_at s (place + u) (length list₀ - (i + 1))))) e in
      let r : Run = numbers_at s (place + used) (length list₀ - (i + 1)) in
      let front : take (i + 1) (set list i v) ≡ take i list ++ (v ∷ []) = ap (λ (k : ℕ). take k (set list i v)) (add-one i)
      ∙ take-suc-set list i v (omega (arith, f.same)) in
      record {
        inside = omega arith;
        same = length-set list i v ∙ f.same;
        rest = drop-set-lt (i + 1) list i v (omega arith) ∙ after;
        run =
            f.run ∙ ap (behind (take i list)) next
            ∙ ap (λ (l : List ℕ). run_of l r.ended) (sym (append_assoc (take i list) (v ∷ []) r.numbers))
            ∙ ap (λ (l : List ℕ). behind l r) (sym front);
      }
    where
      after : drop (i + 1) list ≡ drop (i + 1) list₀
      after = drops ∙ ap (drop 1) f.rest ∙ sym drops₀
        where
          drops : drop (i + 1) list ≡ drop 1 (drop i list)
          drops = sym (drop-drop 1 i list)

          drops₀ : drop (i + 1) list₀ ≡ drop 1 (drop i list₀)
          drops₀ = sym (drop-drop 1 i list₀)

  -- the list, with the first i cells written
  left : (ns : List ℕ) → ns ≡ take i list → list ≡ onto ns list₀
  left ns e =
      let n : length ns ≡ i = ap length e ∙ length-take-le i list (omega (arith, f.same, f.inside)) in
      sym (take-append-drop i list) ∙ ap (λ (l : List ℕ). take i list ++ l) f.rest
      ∙ ap (λ (l : List ℕ). l ++ drop i list₀) (sym e) ∙ ap (λ (k : ℕ). ns ++ drop k list₀) (sym n)
      ∙ sym (onto_long ns list₀ (omega (arith, f.inside)))

  ending : (r : Run) → r.numbers ≡ [] → numbers_at s at (length list₀) ≡ behind (take i list) r → Fills (numbers_at s at (length list₀)) r.ended list₀ list
  ending r none e =
      let ns : (numbers_at s at (length list₀)).numbers ≡ take i list = ap (λ (x : Run). x.numbers) e ∙ ap (λ (l : List ℕ). take i list ++ l) none
      ∙ append-nil (take i list) in
      (sym (ap (λ (x : Run). x.ended) e), left (numbers_at s at (length list₀)).numbers ns)

  pub filling_broken : (e : Refused) → i < length list₀ → binary_at s place ≡ Err e → Fills (numbers_at s at (length list₀)) (Err e) list₀ list
  filling_broken r h e =
      ending (run_of [] (Err r)) refl
      (f.run ∙ ap (behind (take i list)) (one_more h ∙ ap (λ (r : Token). onward r (λ x u. prepended x (numbers_at s (place + u) (length list₀ - (i + 1))))) e))

  pub filling_all : length list₀ ≤ i → Fills (numbers_at s at (length list₀)) (Ok place) list₀ list
  unfolding numbers_at
  filling_all h =
      let none : length list₀ - i ≡ 0 = omega arith in
      ending (run_of [] (Ok place)) refl (f.run ∙ ap (λ (n : ℕ). behind (take i list) (numbers_at s place n)) none)

-- how many numbers a run has: n where it ends after them, n at most

pub run_few : (s : List ℕ) (at n : ℕ) → length (numbers_at s at n).numbers ≤ n
unfolding numbers_at
run_few s at zero = omega arith
run_few s at (suc n) = go (binary_at s at) (λ used. run_few s (at + used) n)
  where
    go : (t : Token) → ((used : ℕ) → length (numbers_at s (at + used) n).numbers ≤ n)
        → length (onward t (λ v used. prepended v (numbers_at s (at + used) n))).numbers ≤ suc n
    go (Ok t) rest = omega (arith, rest t.used)
    go (Err e) rest = omega arith

pub run_whole : (s : List ℕ) (at n place : ℕ) → (numbers_at s at n).ended ≡ Ok place → length (numbers_at s at n).numbers ≡ n
unfolding numbers_at
run_whole s at zero place e = refl
run_whole s at (suc n) place e = go (binary_at s at) (λ used. run_whole s (at + used) n place) e
  where
    go : (t : Token) → ((used : ℕ) → (numbers_at s (at + used) n).ended ≡ Ok place → length (numbers_at s (at + used) n).numbers ≡ n)
        → (onward t (λ v used. prepended v (numbers_at s (at + used) n))).ended ≡ Ok place
        → length (onward t (λ v used. prepended v (numbers_at s (at + used) n))).numbers ≡ suc n
    go (Ok t) rest k = let f = rest t.used k in omega (arith, f)
    go (Err e) rest k = cc
