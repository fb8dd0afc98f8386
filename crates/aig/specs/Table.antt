-- The definitions table: a word for each variable. 0 says that nothing defines it, 1 that it is the constant, an input or a latch, k + 2 that
-- gate k does. Assumes nothing.
use Rattle.std.specs.Prelude.{ℕ, ◌-◌, ◌<◌, ◌≡◌, cond, List, ltb, length, get_or, Option, Some, None}
use Rattle.lit.specs.Code.{var}
use Rattle.circuit.specs.Graph.{In, Gate, gate_for}
use Rattle.defs.specs.Define.{no_gate}

-- the number of the gate that a table gives a variable
unfoldable pub gate_at : List ℕ → ℕ → Option ℕ
gate_at t v = cond (ltb (get_or t v 0) 2) None (Some (get_or t v 0 - 2))

-- what a table says of a variable is what the search among the gates finds
abbrev pub Tells : List Gate → ℕ → Option ℕ → Type 0
Tells gs v None = gate_for gs v ≡ None
Tells gs v (Some k) = (k < length gs) × (gate_for gs v ≡ Some (get_or gs k no_gate))

abbrev pub Tabled : List Gate → List ℕ → Type 0
Tabled gs t = (v : ℕ) → v < length t → Tells gs v (gate_at t v)

-- the variables of a list's codes have a word in a table of n words
abbrev pub Codes : ℕ → List ℕ → Type 0
Codes n cs = (c : ℕ) → In c cs → var c < n
