-- Two images as the inputs of a gate, and a code that stands for the gate. Assumes nothing.
use Rattle.std.specs.Prelude.{ℕ, min, max, Option, option_map}
use Rattle.lit.specs.Code.{literal}
use Rattle.lit.specs.declared.Lit.{Lit}
use Rattle.fold.specs.declared.Pair.{Pair}

-- two codes, the larger first
unfoldable pub larger_first : Lit → Lit → Pair
larger_first x y = record { larger = literal (max x.0 y.0); smaller = literal (min x.0 y.0) }

-- a code, if there is one
abbrev pub already_of : Option ℕ → Option Lit
already_of o = option_map literal o
