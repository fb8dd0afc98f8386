-- `Walk::settle`: there are words for one gate more. Assumes nothing.
use native.Mathlib.Omega.{arith}
use Rattle.aig.proofs.Finding.{out_length}
use Rattle.aig.proofs.walk.Walk.settle.Goals as goal

pub append-requires : goal.append-requires
append-requires c =
    omega (arith, out_length _ _ _ _ c.requires.seek.made_in, c.requires.fits)
