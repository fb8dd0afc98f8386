-- `define_sources` meets its contract: what is left to define falls by one literal a turn. Assumes nothing.
use mathlib.Core.Path.{◌≡◌}
use lib.ListN.{drop}
use Rattle.defs.specs.Define.{define_sources}
use Rattle.defs.proofs.define_sources.Given as goal

abbrev pub invariant-loop-code : goal.invariant-loop-code
invariant-loop-code l = define_sources l.initial.table l.literals ≡ define_sources l.table (drop l.code-index l.literals)
