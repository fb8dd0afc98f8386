-- `renumbered` meets its contract: what is expanded is renumbered, and any other answer of expanding is the refusal of that name. Assumes nothing.
use mathlib.Core.Path.{◌≡◌, refl, ap, ◌∙◌}
use Rattle.std.specs.Prelude.{Err}
use Rattle.std.proofs.lemmas.Result.{err_from_is_err_and}
use Rattle.circuit.specs.declared.Refusal.{Refusal}
use Rattle.circuit.specs.Answer.{Answer}
use Rattle.circuit.specs.Outcome as C
use Rattle.circuit.specs.Outcome.{outcome_of}
use Rattle.ordered.specs.Expand as E
use Rattle.intake.specs.Order.{Images, Taken, refusal_of, leaving}
use Rattle.intake.proofs.Results.{was_ok, was_err}
use Rattle.intake.proofs.Steps.{coded, comes_to_lem}
use Rattle.intake.proofs.renumbered.Goals as goal

pub returns-in_err-map_err : goal.returns-in_err-map_err
returns-in_err-map_err c =
    let a = c.args in
    let taken : Taken = record { nexts = a.nexts.now; resets = a.resets.now; roots = a.roots.now } in
    let codes : E.Lists = record { inputs = a.input_codes.now; states = a.state_codes.now; triples = a.triples.now } in
    let m : Images =
    record {
      map = a.map.now;
      next_images = a.next_images.now;
      reset_images = a.reset_images.now;
      root_images = a.root_images.now;
      gates_out = a.gates_out.now;
      scratch = a.scratch.now;
    } in
    let x : E.Outcome =
    E.seen c.expand.result (record { inputs = c.expand.new.input_codes; states = c.expand.new.state_codes; triples = c.expand.new.triples }) in
    let w = was_err _ _ _ _ c.map_err.ensures.cases c.in_err-map_err.was in
    let p = err_from_is_err_and c.from_residual.result c.from_residual.ensures.1 in
    let t : c.in_err-map_err.field-0.0 ≡ refusal_of w.0 = w.2 in
    let left : Answer → C.Outcome = λ y. outcome_of y m.map m.next_images m.reset_images m.root_images m.gates_out m.scratch in
    ap (λ (y : Answer). leaving x.lists (left y)) (p.1 ∙ ap (λ (e : Refusal). Err e) (p.2 ∙ t))
    ∙ comes_to_lem a.read a.flags a.gates.now taken codes m c.wide.result c.wide-2.result c.counted-g.result x c.wide.ensures c.wide-2.ensures
    c.counted-g.ensures.same c.expand.ensures _ (left (Err (refusal_of w.0))) w.1 refl

pub numbered-requires : goal.numbered-requires
numbered-requires c =
    let a = c.args in
    let taken : Taken = record { nexts = a.nexts.now; resets = a.resets.now; roots = a.roots.now } in
    let codes : E.Lists = record { inputs = a.input_codes.now; states = a.state_codes.now; triples = a.triples.now } in
    let m : Images =
    record {
      map = a.map.now;
      next_images = a.next_images.now;
      reset_images = a.reset_images.now;
      root_images = a.root_images.now;
      gates_out = a.gates_out.now;
      scratch = a.scratch.now;
    } in
    let x : E.Outcome =
    E.seen c.expand.result (record { inputs = c.expand.new.input_codes; states = c.expand.new.state_codes; triples = c.expand.new.triples }) in (
      c.requires.0,
      coded a.read a.flags a.gates.now taken codes m c.wide.result c.wide-2.result c.counted-g.result x c.wide.ensures c.wide-2.ensures
          c.counted-g.ensures.same c.expand.ensures (was_ok _ _ _ _ c.map_err.ensures.cases c.in_ok-map_err.was) c.requires.1,
    )

pub returns : goal.returns
returns c =
    let a = c.args in
    let taken : Taken = record { nexts = a.nexts.now; resets = a.resets.now; roots = a.roots.now } in
    let codes : E.Lists = record { inputs = a.input_codes.now; states = a.state_codes.now; triples = a.triples.now } in
    let m : Images =
    record {
      map = a.map.now;
      next_images = a.next_images.now;
      reset_images = a.reset_images.now;
      root_images = a.root_images.now;
      gates_out = a.gates_out.now;
      scratch = a.scratch.now;
    } in
    let x : E.Outcome =
    E.seen c.expand.result (record { inputs = c.expand.new.input_codes; states = c.expand.new.state_codes; triples = c.expand.new.triples }) in
    comes_to_lem a.read a.flags a.gates.now taken codes m c.wide.result c.wide-2.result c.counted-g.result x c.wide.ensures c.wide-2.ensures
    c.counted-g.ensures.same c.expand.ensures _ (outcome_of c.numbered.result c.numbered.new.map c.numbered.new.next_images
    c.numbered.new.reset_images c.numbered.new.root_images c.numbered.new.gates_out c.numbered.new.scratch)
    (was_ok _ _ _ _ c.map_err.ensures.cases c.in_ok-map_err.was) c.numbered.ensures
