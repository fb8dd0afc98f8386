-- `trie::find`: a search follows at most 22 links, and a gate that all 22 bits lead to has the pair. Assumes nothing.
use Prim.Native.Nat.{◌-◌, ◌≤◌}
use mathlib.Core.List.{List}
use Rattle.circuit.specs.Walk.{Pair}
use Rattle.aig.specs.Trie.{key_bits}
use Rattle.aig.specs.Store.{MadeIn}
use Rattle.aig.proofs.Finding.{Seeking}
use Rattle.aig.proofs.trie.find.Given as goal

-- `one` is a list of gates that the lent words hold
abbrev pub invariant-loop : goal.invariant-loop
invariant-loop l =
    (l.counter ≤ key_bits) × ((one : List Pair) × MadeIn l.shape one l.out l.scratch)
    × ((made : List Pair) → MadeIn l.shape made l.out l.scratch → Seeking l.shape l.pair made l.out l.scratch l.counter l.key l.place)

abbrev pub decreases-loop : goal.decreases-loop
decreases-loop l = key_bits - l.counter
