-- The seven lists, each by itself. Assumes nothing.
use mathlib.Core.Path.{◌≡◌}
use Prim.Native.Nat.{ℕ}
use mathlib.Core.List.{List}
use Rattle.ascii.specs.Promise.{lists_of}

pub seven : {a a' b b' c c' d d' e e' f f' g g' : List ℕ} → a ≡ a' → b ≡ b' → c ≡ c' → d ≡ d' → e ≡ e' → f ≡ f' → g ≡ g'
    → lists_of a b c d e f g ≡ lists_of a' b' c' d' e' f' g'
seven p q r s t u v = cc
