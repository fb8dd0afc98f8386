-- From an answer of the code back to the line that is read. Assumes nothing.
use Prim.Native.Nat.{ℕ, ◌%◌}
use mathlib.Core.Path.{◌≡◌, ap}
use mathlib.Core.Bool.{Bool, true, false, cond}
use mathlib.Core.List.{List}
use native.Mathlib.Omega.{arith}
use lib.Dec.{eqb}
use Rattle.std.specs.Prelude.{Ok, Err}
use Rattle.token.specs.Answer.{Token, refused, uint_at, within, assigned, header_field_at, lit_at}
use Rattle.token.specs.declared.Number.{Number}
use Rattle.token.specs.declared.Reason.TheVariants.{AssignsZero, AssignsOdd}
use Rattle.circuit.specs.Graph.{Gate}
use Rattle.lines.specs.Reading.{Read, got, no}
use Rattle.ascii_lines.specs.declared.StatedRead.{StatedRead}
use Rattle.ascii_lines.specs.declared.GateRead.{GateRead}
use Rattle.ascii_lines.specs.Lines.{Stated, stated_latch, gate_with}
use Rattle.ascii_lines.specs.Promise.{stated_read_of, stated_read, gate_read_of, gate_read}

pub stated_got : (R : Read Stated) (r : StatedRead) → stated_read R ≡ Ok r → R ≡ got (stated_latch r.state r.next r.reset) r.after
stated_got (got l p) r e =
    let f : ◌≡◌ {A = StatedRead} (stated_read_of l p) r = cc in
    ap (λ (x : StatedRead). got (stated_latch x.state x.next x.reset) x.after) f
stated_got (no why p) r e = absurd (let z : ◌≡◌ {A = ℕ} 0 1 = cc in omega arith)

pub gate_got : (R : Read Gate) (r : GateRead) → gate_read R ≡ Ok r → R ≡ got (gate_with r.output r.first r.second) r.after
gate_got (got g p) r e =
    let f : ◌≡◌ {A = GateRead} (gate_read_of g p) r = cc in
    ap (λ (x : GateRead). got (gate_with x.output x.first x.second) x.after) f
gate_got (no why p) r e = absurd (let z : ◌≡◌ {A = ℕ} 0 1 = cc in omega arith)

-- a literal that a line defines

-- it is a number that a count of the header may be too
pub lit_counted : (s : List ℕ) (limit at : ℕ) (n : Number) → lit_at s at limit true ≡ Ok n → header_field_at s at limit ≡ Ok n
unfolding lit_at header_field_at
lit_counted s limit at n e = go (uint_at s at) e
  where
    by : (t : Number) (zeroth odd : Bool) → within limit at (cond zeroth (refused AssignsZero at) (cond odd (refused AssignsOdd at) (Ok t))) ≡ Ok n
        → within limit at (Ok t) ≡ Ok n
    by t true odd f = absurd (let z : ◌≡◌ {A = ℕ} 0 1 = cc in omega arith)
    by t false true f = absurd (let z : ◌≡◌ {A = ℕ} 0 1 = cc in omega arith)
    by t false false f = f

    go : (t : Token) → within limit at (assigned at t) ≡ Ok n → within limit at t ≡ Ok n
    go (Ok t) f = by t (eqb t.value 0) (eqb (t.value % 2) 1) f
    go (Err x) f = f
