-- `stored` meets its contract: the fronts that are lent are there, and what is written is what the definition writes. Assumes nothing.
use mathlib.Core.Path.{ap}
use Prim.Native.Nat.{ℕ, ◌*◌}
use mathlib.Core.List.{[]}
use Rattle.intake.proofs.Steps.{front, writes}
use Rattle.intake.proofs.stored.Goals as goal

pub slice_bounds-write-end : goal.slice_bounds-write-end
slice_bounds-write-end c =
    front _ _ c.args.next_images.now c.wide-l.ensures c.requires.nexts

pub slice_bounds-write-end-2 : goal.slice_bounds-write-end-2
slice_bounds-write-end-2 c =
    front _ _ c.args.reset_images.now c.wide-l.ensures c.requires.resets

pub slice_bounds-write-end-3 : goal.slice_bounds-write-end-3
slice_bounds-write-end-3 c =
    front _ _ c.args.gates_out.now (ap (λ (x : ℕ). 2 * x) c.counted-g.ensures.same) c.requires.gates

pub slice_bounds-write-end-4 : goal.slice_bounds-write-end-4
slice_bounds-write-end-4 c =
    front _ _ c.args.sizes.now c.wide-j.ensures c.requires.sizes

pub slice_bounds-write-end-5 : goal.slice_bounds-write-end-5
slice_bounds-write-end-5 c =
    front _ _ c.args.root_images.now c.sum-r.ensures c.requires.roots

pub returns : goal.returns
returns c =
    let a = c.args in
    writes a.read a.made _ _ _ _ a.sizes.now (record {
      map = [];
      next_images = a.next_images.now;
      reset_images = a.reset_images.now;
      root_images = a.root_images.now;
      gates_out = a.gates_out.now;
      scratch = [];
    }) a.out.now _ c.wide-l.ensures c.counted-g.ensures.same c.wide-j.ensures c.sum-r.ensures c.write.ensures
