-- How the cases of reading are written down: the number of the refusal, 0 where the text is taken, and the place. Assumes nothing.
use Rattle.lines.specs.Numbers.{fault_number}
use Rattle.lines.specs.Reading.{Read, got, no}
use Rattle.binary.specs.Table.{Told, answer}
use Rattle.ascii.specs.Text.{Text, Room}

abbrev pub told : Read Text → Told
told (got t at) = answer 0 at
told (no why place) = answer (fault_number why) place

-- lists that are long enough for every case
abbrev pub roomy : Room
roomy = record { inputs = 1000; states = 1000; nexts = 1000; resets = 1000; gates = 3000; sizes = 1000; roots = 2000000 }
