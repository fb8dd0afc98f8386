-- Expanding an ordered circuit by example: each the smallest on which a neighbouring definition answers otherwise. The lists are dirty, each with numbers of
-- its own, and longer than asked; the words past those asked for are seen to stay. By computation. And which circuits are well ordered, by example, each
-- field at its bound and one past it. Assumes nothing.
use Prim.Native.Nat.{ℕ, zero, suc, ◌≤◌, ◌<◌}
use Rattle.std.specs.Prelude.{Err}
use mathlib.Core.Path.{◌≡◌, refl}
use mathlib.Core.Logic.{inl, inr}
use mathlib.Core.Bool.{Bool}
use mathlib.Core.List.{List, [], ◌∷◌}
use native.Mathlib.Omega.{arith}
use lib.ListN.{replicate, length-replicate}
use Rattle.lit.specs.Code.{variable}
use Rattle.circuit.specs.Walk.{Pair, first_code}
use Rattle.circuit.specs.Graph.{Gate}
use Rattle.circuit.specs.Ordered.{Ordered, InOrder}
use Rattle.circuit.specs.Outcome.{Lent, lent_of}
use Rattle.circuit.specs.Claims.{AllWithin, IsReset, AllReset}
use Rattle.ordered.specs.declared.Unexpanded.TheVariants.{TooBig, Misshapen, Short}
use Rattle.ordered.specs.Expand.{Expansion, expanded, expansion_number, gate_words, Lists, Outcome, seen, filled, expansion, Lends}
use Rattle.ordered.specs.WellOrdered.{WellOrdered}

-- the three lists, and with an answer what is left of them
abbrev lists : List ℕ → List ℕ → List ℕ → Lists
lists inputs states triples = record { inputs = inputs; states = states; triples = triples }

abbrev leaves : Expansion → Lists → Outcome
leaves answer left = record { answer = answer; lists = left }

abbrev gate : ℕ → ℕ → ℕ → Gate
gate o a b = record { output = o; first = a; second = b }

pub words_pinned :
    (expansion_number expanded ≡ 0)
    × (expansion_number (Err TooBig) ≡ 1)
    × (expansion_number (Err Misshapen) ≡ 2)
    × (expansion_number (Err Short) ≡ 3)
    × (gate_words (gate 1 2 3 ∷ gate 4 5 6 ∷ []) ≡ (1 ∷ 2 ∷ 3 ∷ 4 ∷ 5 ∷ 6 ∷ []))
    × (seen (Err Short) (lists (1 ∷ []) (2 ∷ []) (3 ∷ [])) ≡ leaves (Err Short) (lists (1 ∷ []) (2 ∷ []) (3 ∷ [])))
words_pinned = (refl, refl, refl, refl, refl, refl)

-- two gates, 12(6,2) and 14(3,9) where there are three inputs and two latches; the second has its inputs as they are given
abbrev two : List ℕ
two = (6 ∷ 2 ∷ 3 ∷ 9 ∷ [])

-- lists that are longer than these ask
abbrev dirty : Lists
dirty = lists (21 ∷ 22 ∷ 23 ∷ 24 ∷ []) (31 ∷ 32 ∷ 33 ∷ []) (41 ∷ 42 ∷ 43 ∷ 44 ∷ 45 ∷ 46 ∷ 47 ∷ [])

pub expansions_pinned :
    -- inputs 2, 4, 6, the latches' states 8 and 10, gates 12 and 14; the word past each stays; and lists that are just long enough
    (filled 3 2 two dirty ≡ lists (2 ∷ 4 ∷ 6 ∷ 24 ∷ []) (8 ∷ 10 ∷ 33 ∷ []) (12 ∷ 6 ∷ 2 ∷ 14 ∷ 3 ∷ 9 ∷ 47 ∷ []))
    × (expansion 3 2 two dirty ≡ leaves expanded (lists (2 ∷ 4 ∷ 6 ∷ 24 ∷ []) (8 ∷ 10 ∷ 33 ∷ []) (12 ∷ 6 ∷ 2 ∷ 14 ∷ 3 ∷ 9 ∷ 47 ∷ [])))
    × (expansion 3 2 two (lists (9 ∷ 9 ∷ 9 ∷ []) (9 ∷ 9 ∷ []) (9 ∷ 9 ∷ 9 ∷ 9 ∷ 9 ∷ 9 ∷ []))
    ≡ leaves expanded (lists (2 ∷ 4 ∷ 6 ∷ []) (8 ∷ 10 ∷ []) (12 ∷ 6 ∷ 2 ∷ 14 ∷ 3 ∷ 9 ∷ [])))
    -- one of each, in lists that are just long enough; nothing at all
    × (expansion 1 1 (5 ∷ 3 ∷ []) (lists (9 ∷ []) (9 ∷ []) (9 ∷ 9 ∷ 9 ∷ [])) ≡ leaves expanded (lists (2 ∷ []) (4 ∷ []) (6 ∷ 5 ∷ 3 ∷ [])))
    × (expansion 0 0 [] dirty ≡ leaves expanded dirty)
    -- I, L, and the sum of I, L and G at 1,048,575, and one over it; an odd word is no gate
    × (expansion 1048575 0 [] dirty ≡ leaves (Err Short) dirty)
    × (expansion 1048576 0 [] dirty ≡ leaves (Err TooBig) dirty)
    × (expansion 0 1048575 [] dirty ≡ leaves (Err Short) dirty)
    × (expansion 0 1048576 [] dirty ≡ leaves (Err TooBig) dirty)
    × (expansion 1048572 1 two dirty ≡ leaves (Err Short) dirty)
    × (expansion 1048573 1 two dirty ≡ leaves (Err TooBig) dirty)
    × (expansion 1048572 1 (1 ∷ two) dirty ≡ leaves (Err Misshapen) dirty)
    × (expansion 1048572 1 (1 ∷ 2 ∷ two) dirty ≡ leaves (Err TooBig) dirty)
    -- 1 before 2; three words of gates: 2, before the short lists; one
    × (expansion 1048573 1 (1 ∷ two) dirty ≡ leaves (Err TooBig) dirty)
    × (expansion 3 2 (6 ∷ 2 ∷ 3 ∷ []) dirty ≡ leaves (Err Misshapen) dirty)
    × (expansion 3 2 (6 ∷ 2 ∷ 3 ∷ []) (lists [] [] []) ≡ leaves (Err Misshapen) (lists [] [] []))
    × (expansion 3 2 (6 ∷ []) dirty ≡ leaves (Err Misshapen) dirty)
    -- each list a word too short
    × (expansion 3 2 two (lists (9 ∷ 9 ∷ []) (9 ∷ 9 ∷ []) (9 ∷ 9 ∷ 9 ∷ 9 ∷ 9 ∷ 9 ∷ []))
    ≡ leaves (Err Short) (lists (9 ∷ 9 ∷ []) (9 ∷ 9 ∷ []) (9 ∷ 9 ∷ 9 ∷ 9 ∷ 9 ∷ 9 ∷ [])))
    × (expansion 3 2 two (lists (9 ∷ 9 ∷ 9 ∷ []) (9 ∷ []) (9 ∷ 9 ∷ 9 ∷ 9 ∷ 9 ∷ 9 ∷ []))
    ≡ leaves (Err Short) (lists (9 ∷ 9 ∷ 9 ∷ []) (9 ∷ []) (9 ∷ 9 ∷ 9 ∷ 9 ∷ 9 ∷ 9 ∷ [])))
    × (expansion 3 2 two (lists (9 ∷ 9 ∷ 9 ∷ []) (9 ∷ 9 ∷ []) (9 ∷ 9 ∷ 9 ∷ 9 ∷ 9 ∷ []))
    ≡ leaves (Err Short) (lists (9 ∷ 9 ∷ 9 ∷ []) (9 ∷ 9 ∷ []) (9 ∷ 9 ∷ 9 ∷ 9 ∷ 9 ∷ [])))
unfolding expansion first_code
expansions_pinned = (refl, refl, refl, refl, refl, refl, refl, refl, refl, refl, refl, refl, refl, refl, refl, refl, refl, refl, refl, refl)

-- the circuit of three inputs, next states 8 and 3 with resets 1 and 10, those two gates and one output, 14
abbrev pair : ℕ → ℕ → Pair
pair a b = record { larger = a; smaller = b }

abbrev circuit : Ordered
circuit =
    record {
      inputs = 3;
      nexts = (8 ∷ 3 ∷ []);
      resets = (1 ∷ 10 ∷ []);
      gates = pair 6 2 ∷ pair 3 9 ∷ [];
      counts = (1 ∷ 0 ∷ 0 ∷ 0 ∷ 0 ∷ []);
      roots = (14 ∷ []);
    }

-- what a caller lends of it, with V = 7: the front of each list, whatever stands there
abbrev lent : Bool → Bool → Bool → Lent
lent trim hash fold =
    lent_of (record { top = variable 7; counts = (1 ∷ 0 ∷ 0 ∷ 0 ∷ 0 ∷ []); trim = trim; hash = hash; fold = fold }) (21 ∷ 22 ∷ 23 ∷ []) (31 ∷ 32 ∷ []) (8 ∷
    3 ∷ []) (1 ∷ 10 ∷ []) (41 ∷ 42 ∷ 43 ∷ 44 ∷ 45 ∷ 46 ∷ []) (14 ∷ []) (51 ∷ []) (52 ∷ []) (56 ∷ []) (53 ∷ []) (54 ∷ []) (55 ∷ [])

pub lends_pinned : (trim hash fold : Bool) → Lends circuit trim hash fold dirty (lent trim hash fold)
lends_pinned trim hash fold = record { circuit = refl; inputs = refl; states = refl; nexts = refl; resets = refl; gates = refl; roots = refl }

-- one input, one latch, and one gate, 6, where no code is over 7: its next state, its pair, the number of its outputs, its output
abbrev single : ℕ → Pair → ℕ → ℕ → Ordered
single next p count root = record { inputs = 1; nexts = (next ∷ []); resets = (4 ∷ []); gates = p ∷ []; counts = (count ∷ []); roots = (root ∷ []) }

-- one input, one latch, 4, and its resets
abbrev latched : List ℕ → Ordered
latched resets = record { inputs = 1; nexts = (0 ∷ []); resets = resets; gates = []; counts = []; roots = [] }

-- nothing but inputs, and nothing but outputs
abbrev wide : ℕ → Ordered
wide n = record { inputs = n; nexts = []; resets = []; gates = []; counts = []; roots = [] }

abbrev rooted : ℕ → Ordered
rooted n = record { inputs = 0; nexts = []; resets = []; gates = []; counts = (n ∷ []); roots = replicate n 1 }

pub well_ordered_pinned :
    -- an input one below its gate's code, and both inputs equal; the gate's own code as an input; the first input below the second
    WellOrdered (single 7 (pair 5 5) 1 7)
    × (WellOrdered (single 7 (pair 6 2) 1 7) → ⊥)
    × (WellOrdered (single 7 (pair 2 3) 1 7) → ⊥)
    -- a next state over 2V + 1, a root over it, and a count that is not the number of roots
    × (WellOrdered (single 8 (pair 5 5) 1 7) → ⊥)
    × (WellOrdered (single 7 (pair 5 5) 1 8) → ⊥)
    × (WellOrdered (single 7 (pair 5 5) 2 7) → ⊥)
    -- V at the limit, and over it; R so too
    × WellOrdered (wide 1048575)
    × (WellOrdered (wide 1048576) → ⊥)
    × ((n : ℕ) → n ≤ 1048575 → WellOrdered (rooted n))
    × ((n : ℕ) → 1048575 < n → WellOrdered (rooted n) → ⊥)
    -- the latch's literal negated, and the input's, as its reset; no reset, and one too many
    × (WellOrdered (latched (5 ∷ [])) → ⊥)
    × (WellOrdered (latched (2 ∷ [])) → ⊥)
    × (WellOrdered (latched []) → ⊥)
    × (WellOrdered (latched (0 ∷ 0 ∷ [])) → ⊥)
unfolding first_code
well_ordered_pinned = (
  record {
    variables = omega arith;
    few = omega arith;
    counts = refl;
    nexts = seven;
    reset_count = refl;
    resets = four;
    roots = seven;
    gates = fives;
  },
  λ k. omega (arith, (k.gates 0 (omega arith)).1),
  λ k. omega (arith, (k.gates 0 (omega arith)).0),
  λ k. omega (arith, k.nexts 8 (inl refl)),
  λ k. omega (arith, k.roots 8 (inl refl)),
  λ k. omega (arith, k.counts),
  record {
    variables = omega arith;
    few = omega arith;
    counts = refl;
    nexts = λ c i. absurd i;
    reset_count = refl;
    resets = λ j h. absurd (omega arith);
    roots = λ c i. absurd i;
    gates = no_gates_lem 1048575;
  },
  λ k. omega (arith, k.variables),
  λ n h.
      record {
        variables = omega arith;
        few = omega (arith, length-replicate {A = ℕ} n 1);
        counts = omega (arith, length-replicate {A = ℕ} n 1);
        nexts = λ c i. absurd i;
        reset_count = refl;
        resets = λ j h. absurd (omega arith);
        roots = ones n;
        gates = no_gates_lem 0;
      },
  λ n h k. omega (arith, k.few, length-replicate {A = ℕ} n 1),
  λ k. none_of 5 (omega arith) (λ e. omega arith) (k.resets 0 (omega arith)),
  λ k. none_of 2 (omega arith) (λ e. omega arith) (k.resets 0 (omega arith)),
  λ k. omega (arith, k.reset_count),
  λ k. omega (arith, k.reset_count),
)
  where
    seven : AllWithin 7 (7 ∷ [])
    seven c (inl e) = omega arith
    seven c (inr i) = absurd i

    four : AllReset (4 ∷ []) (4 ∷ [])
    four zero h = inr (inr refl)
    four (suc j) h = absurd (omega arith)

    none_of : (r : ℕ) → 1 < r → (r ≡ 4 → ⊥) → IsReset 4 r → ⊥
    none_of r h n (inl e) = omega arith
    none_of r h n (inr (inl e)) = omega arith
    none_of r h n (inr (inr e)) = n e

    fives : InOrder 2 (pair 5 5 ∷ [])
    fives zero h = (omega arith, omega arith)
    fives (suc j) h = absurd (omega arith)

    no_gates_lem : (n : ℕ) → InOrder n []
    no_gates_lem n j h = absurd (omega arith)

    ones : (n : ℕ) → AllWithin 1 (replicate n 1)
    ones zero c i = absurd i
    ones (suc n) c (inl e) = omega arith
    ones (suc n) c (inr i) = ones n c i
