-- How the cases of reading are written down: the number of the refusal, 0 where the file is taken, and the place. Assumes nothing.
use Rattle.std.specs.Prelude.{ℕ}
use Rattle.lines.specs.Numbers.{fault_number}
use Rattle.lines.specs.Reading.{Read, got, no}
use Rattle.binary.specs.File.{File, Room}

pub record Told : Type 0 where
  pub number : ℕ
  pub place : ℕ

abbrev pub told : Read File → Told
told (got f at) = record { number = 0; place = at }
told (no why place) = record { number = fault_number why; place = place }

-- lists that are long enough for every case
abbrev pub roomy : Room
roomy = record { nexts = 1000; resets = 1000; gates = 2000; sizes = 1000; roots = 2000000 }

abbrev pub answer : ℕ → ℕ → Told
answer n p = record { number = n; place = p }
