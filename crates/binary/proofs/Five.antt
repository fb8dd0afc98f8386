-- The five lists, each by itself. Assumes nothing.
use mathlib.Core.Path.{◌≡◌, ap, ◌∙◌}
use Prim.Native.Nat.{ℕ}
use mathlib.Core.List.{List}
use Rattle.binary.specs.Promise.{lists_of}

pub five : {a a' b b' c c' d d' e e' : List ℕ} → a ≡ a' → b ≡ b' → c ≡ c' → d ≡ d' → e ≡ e' → lists_of a b c d e ≡ lists_of a' b' c' d' e'
five {a} {a'} {b} {b'} {c} {c'} {d} {d'} {e} {e'} p q r s t =
    ap (λ (x : List ℕ). lists_of x b c d e) p ∙ ap (λ (x : List ℕ). lists_of a' x c d e) q ∙ ap (λ (x : List ℕ). lists_of a' b' x d e) r
    ∙ ap (λ (x : List ℕ). lists_of a' b' c' x e) s ∙ ap (λ (x : List ℕ). lists_of a' b' c' d' x) t
