-- `numbered` meets its contract: the fronts that are lent are there, and what renumbering leaves is what the definition leaves. Assumes nothing.
use mathlib.Core.Path.{ap}
use Prim.Native.Nat.{ℕ, ◌*◌}
use Rattle.intake.proofs.Steps.{front, numbers}
use Rattle.intake.proofs.numbered.Goals as goal

pub record_of-requires : goal.record_of-requires
record_of-requires c =
    c.requires.0.few

pub slice_bounds-lists-end : goal.slice_bounds-lists-end
slice_bounds-lists-end c =
    front _ _ c.args.input_codes.now c.wide-i.ensures c.requires.1.inputs

pub slice_bounds-lists-end-2 : goal.slice_bounds-lists-end-2
slice_bounds-lists-end-2 c =
    front _ _ c.args.state_codes.now c.wide-l.ensures c.requires.1.states

pub slice_bounds-lists-end-3 : goal.slice_bounds-lists-end-3
slice_bounds-lists-end-3 c =
    front _ _ c.args.nexts.now c.wide-l.ensures c.requires.0.nexts

pub slice_bounds-lists-end-4 : goal.slice_bounds-lists-end-4
slice_bounds-lists-end-4 c =
    front _ _ c.args.resets.now c.wide-l.ensures c.requires.0.resets

pub slice_bounds-lists-end-5 : goal.slice_bounds-lists-end-5
slice_bounds-lists-end-5 c =
    front _ _ c.args.triples.now (ap (λ (x : ℕ). 3 * x) c.counted-g.ensures.same) c.requires.1.triples

pub slice_bounds-lists-end-6 : goal.slice_bounds-lists-end-6
slice_bounds-lists-end-6 c =
    front _ _ c.args.roots.now c.sum-r.ensures c.requires.0.roots

pub returns : goal.returns
returns c =
    let a = c.args in
    numbers a.read a.flags (record { nexts = a.nexts.now; resets = a.resets.now; roots = a.roots.now })
    (record { inputs = a.input_codes.now; states = a.state_codes.now; triples = a.triples.now }) (record {
      map = a.map.now;
      next_images = a.next_images.now;
      reset_images = a.reset_images.now;
      root_images = a.root_images.now;
      gates_out = a.gates_out.now;
      scratch = a.scratch.now;
    }) _ _ _ _ _ _ c.record_of.ensures c.wide-i.ensures c.wide-l.ensures c.counted-g.ensures.same
    c.sum-r.ensures c.renumber.ensures
