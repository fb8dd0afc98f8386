-- `ascii::write` meets its contract: what fits is an ordered circuit. Assumes nothing.
use mathlib.Core.Path.{sym, ◌∙◌}
use Rattle.ordered.proofs.Theorems.{fits_exactly}
use Rattle.ascii.proofs.write.Goals as goal

pub fitted-requires : goal.fitted-requires
fitted-requires c =
    ((fits_exactly _ _).0 (sym c.check.ensures ∙ c.in_ok-check.was)).0
