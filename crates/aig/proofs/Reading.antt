-- What a walk that goes on says of the indexes that its step reads and writes. Assumes nothing.
use Rattle.std.specs.Prelude.{Some}
use Prim.Native.Nat.{ℕ, ◌+◌, ◌*◌, ◌^◌, ◌<◌, ◌≤◌}
use mathlib.Core.Path.{◌≡◌}
use mathlib.Core.List.{List}
use native.Mathlib.Omega.{arith}
use lib.ListN.{length}
use Rattle.lit.specs.Code.{var}
use Rattle.lit.specs.declared.Lit.{Lit}
use Rattle.circuit.specs.Walk.{Out}
use Rattle.aig.specs.declared.shape.Shape.{Shape}
use Rattle.aig.specs.declared.walk.Walk.{Walk}
use Rattle.aig.specs.declared.walk.State.{State}
use Rattle.aig.specs.declared.walk.State.TheVariants.{Transfer, First, Return}
use Rattle.aig.specs.Table.{gate_at}
use Rattle.aig.specs.Layout.{Room}
use Rattle.aig.specs.Going.{Ground, On}
use Rattle.aig.specs.Turns.{Walking}
use Rattle.aig.proofs.Standing.{room_is, number_reads}
use Rattle.aig.proofs.Transferring.{first_within}

-- a literal's own places, and its gate's words
pub record Reads (s : Shape) (gates : List ℕ) (l : Lit) (scratch : List ℕ) : Type 0 where
  pub room : Room s scratch
  pub code : l.0 < 2 ^ 31
  pub number : (j : ℕ) → gate_at scratch (var l.0) ≡ Some j → 3 * j + 2 < length gates

-- what holds of a literal in the circuit
reads : {s : Shape} {sources gates : List ℕ} {o : Out} {state : State} {map out scratch : List ℕ} (l : Lit) → Ground s sources gates
    → On s sources gates o state map out scratch → var l.0 < s.vars → Reads s gates l scratch
reads l g k i =
    let r = k.holds.gates_made.room in
    record {
      room = r;
      code = omega (arith, r.vars);
      number = number_reads g k.holds (var l.0) i;
    }

module _ {s : Shape} {gates : List ℕ} {n : Walk} {l : Lit} {map out scratch : List ℕ} where
  pub transfer_reads : Walking s gates (Transfer n l) map out scratch → Reads s gates l scratch
  transfer_reads w = reads l w.going.ground w.going.goes w.going.goes.inside

  pub transfer_depth : Walking s gates (Transfer n l) map out scratch → n.depth ≤ 2 * s.gates
  transfer_depth w = let k = w.going.goes in omega (arith, k.stacked.count, k.running.short, room_is w.going.ground)

  pub first_reads : Walking s gates (First n l) map out scratch → Reads s gates l scratch
  first_reads w = reads l w.going.ground w.going.goes (first_within w.going)

  pub first_depth : Walking s gates (First n l) map out scratch → n.depth < 2 * s.gates
  first_depth w = let k = w.going.goes in omega (arith, k.stacked.count, k.running.short, room_is w.going.ground)

module _ {s : Shape} {gates : List ℕ} {n : Walk} {map out scratch : List ℕ} where
  pub back_room : Walking s gates (Return n) map out scratch → Room s scratch
  back_room w = w.going.goes.holds.gates_made.room

  pub back_depth : Walking s gates (Return n) map out scratch → n.depth ≤ 2 * s.gates
  back_depth w = let k = w.going.goes in omega (arith, k.stacked.count, k.running.short, room_is w.going.ground)
