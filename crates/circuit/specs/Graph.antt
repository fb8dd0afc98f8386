-- Circuits as graphs of gates: what is defined, what is reached, and what a literal means. After the AIGER papers. Assumes nothing.
use Rattle.std.specs.Prelude.{ℕ, ◌<◌, ◌≡◌, ◌⊎◌, Bool, false, not, cond, ◌&&◌, List, [], ◌∷◌, ◌++◌, map, eqb, length, get_or, Option, Some, None}
use Rattle.lit.specs.Code.{var, flipped}

-- x stands in the list
abbrev pub In : {A : Type 0} → A → List A → Type 0
In x [] = ⊥
In x (y ∷ ys) = (x ≡ y) ⊎ In x ys

-- no number stands twice in the list
abbrev pub Distinct : List ℕ → Type 0
Distinct [] = Unit {0}
Distinct (x ∷ xs) = (In x xs → ⊥) × Distinct xs

-- an AND gate, by literals: its output is the AND of its two inputs
pub record Gate : Type 0 where
  pub output : ℕ
  pub first : ℕ
  pub second : ℕ

-- the variable that a gate defines
abbrev pub out_var : Gate → ℕ
out_var g = var g.output

-- all of a circuit that gives its literals a meaning: the literals whose bits are given from outside, as written (inputs, then latch states), and
-- the gates
pub record Graph : Type 0 where
  pub sources : List ℕ
  pub gates : List Gate

-- the variables that are defined, the constant's first. A literal is defined if its variable is, by either sign
abbrev pub defined : Graph → List ℕ
defined G = 0 ∷ (map var G.sources ++ map out_var G.gates)

-- no variable is defined twice
abbrev pub DefinedOnce : Graph → Type 0
DefinedOnce G = Distinct (defined G)

-- the gate that defines a variable, by either sign
abbrev pub gate_for : List Gate → ℕ → Option Gate
gate_for [] v = None
gate_for (g ∷ gs) v = cond (eqb (out_var g) v) (Some g) (gate_for gs v)

-- from a gate's variable to that of one of its inputs
pub data Step (G : Graph) (u v : ℕ) : Type 0 where
  to_first : (g : Gate) → In g G.gates → out_var g ≡ u → var g.first ≡ v → Step G u v
  to_second : (g : Gate) → In g G.gates → out_var g ≡ u → var g.second ≡ v → Step G u v

-- any number of steps, none too
pub data Reach (G : Graph) : ℕ → ℕ → Type 0 where
  here : {u v : ℕ} → u ≡ v → Reach G u v
  via : {u t v : ℕ} → Step G u t → Reach G t v → Reach G u v

-- one step or more: a variable reaches itself
pub record Loop (G : Graph) (u : ℕ) : Type 0 where
  pub next : ℕ
  pub step : Step G u next
  pub back : Reach G next u

-- all that a variable reaches is defined, and nothing that it reaches reaches itself
pub record Grounded (G : Graph) (v : ℕ) : Type 0 where
  pub known : (u : ℕ) → Reach G v u → In u (defined G)
  pub no_loop : (u : ℕ) → Reach G v u → Loop G u → ⊥

-- the literal l is used from the literal c, signs as written: it is c itself, or an input of a gate that c reaches
pub data Uses (G : Graph) (c l : ℕ) : Type 0 where
  itself : l ≡ c → Uses G c l
  first_of : (g : Gate) → In g G.gates → Reach G (var c) (out_var g) → l ≡ g.first → Uses G c l
  second_of : (g : Gate) → In g G.gates → Reach G (var c) (out_var g) → l ≡ g.second → Uses G c l

-- the literal with the other sign
abbrev pub negated : ℕ → ℕ
negated c = flipped c 1

-- the literal c has the bit b, where the k-th source has the bit `given k`. Each literal has its bit as it is written, and its negation has the
-- other bit. A literal that is not defined, or rests on a cycle, has none
pub data Means (G : Graph) (given : ℕ → Bool) : ℕ → Bool → Type 0 where
  constant : Means G given 0 false
  source : (k : ℕ) → k < length G.sources → Means G given (get_or G.sources k 0) (given k)
  gate : (g : Gate) {x y : Bool} → In g G.gates → Means G given g.first x → Means G given g.second y → Means G given g.output (x && y)
  negation : {c : ℕ} {x : Bool} → Means G given c x → Means G given (negated c) (not x)
