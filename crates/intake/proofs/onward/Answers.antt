-- `onward` meets its contract: flags over 7, a refusal of renumbering, and what writing answers are its ways out, each by its law. Assumes nothing.
use mathlib.Core.Path.{◌≡◌, ap, ◌∙◌}
use Rattle.std.proofs.Common.{rules}
use Rattle.std.specs.Prelude.{Err}
use Rattle.std.proofs.lemmas.Result.{err_from_is_err_and}
use Rattle.circuit.specs.Outcome.{outcome_of}
use Rattle.intake.specs.declared.OrderFault.{OrderFault}
use Rattle.intake.specs.declared.OrderFault.TheVariants as F
use Rattle.intake.specs.Order.{Ordering, Lists, Renumbering, taken_of, leaving, lists, images_in, seen}
use Rattle.intake.proofs.Results.{was_ok, was_err}
use Rattle.intake.proofs.Steps.{filled, over_seven, refused, written, unwritten}
use Rattle.intake.proofs.onward.Goals as goal

pub returns-then-flags-gt7 : goal.returns-then-flags-gt7
returns-then-flags-gt7 c =
    let a = c.args in
    let l : Lists =
    record {
      file = record { nexts = a.nexts.now; resets = a.resets.now; gates = a.gates.now; sizes = a.sizes.now; roots = a.roots.now };
      codes = record { inputs = a.input_codes.now; states = a.state_codes.now; triples = a.triples.now };
      images =
          record {
            map = a.map.now;
            next_images = a.next_images.now;
            reset_images = a.reset_images.now;
            root_images = a.root_images.now;
            gates_out = a.gates_out.now;
            scratch = a.scratch.now;
          };
      bytes = a.out.now;
    } in
    over_seven a.read a.flags l c.if-flags-gt7.true

pub returns-in_err-summary : goal.returns-in_err-summary
returns-in_err-summary c =
    let a = c.args in
    let l : Lists =
    record {
      file = record { nexts = a.nexts.now; resets = a.resets.now; gates = a.gates.now; sizes = a.sizes.now; roots = a.roots.now };
      codes = record { inputs = a.input_codes.now; states = a.state_codes.now; triples = a.triples.now };
      images =
          record {
            map = a.map.now;
            next_images = a.next_images.now;
            reset_images = a.reset_images.now;
            root_images = a.root_images.now;
            gates_out = a.gates_out.now;
            scratch = a.scratch.now;
          };
      bytes = a.out.now;
    } in
    let q : Renumbering = leaving
    (record { inputs = c.renumbered.new.input_codes; states = c.renumbered.new.state_codes; triples = c.renumbered.new.triples })
    (outcome_of c.renumbered.result c.renumbered.new.map c.renumbered.new.next_images c.renumbered.new.reset_images
    c.renumbered.new.root_images c.renumbered.new.gates_out c.renumbered.new.scratch) in
    let w = was_err _ _ _ _ c.map_err.ensures.cases c.in_err-summary.was in
    let p = err_from_is_err_and c.from_residual.result c.from_residual.ensures.1 in
    let t : c.in_err-summary.field-0.0 ≡ F.Unordered w.0 a.read = let k = w.2 in search rules in
    ap (λ (y : Ordering). seen y (lists l.file q.codes (images_in q.outcome) l.bytes)) (p.1 ∙ ap (λ (e : OrderFault). Err e) (p.2 ∙ t))
    ∙ refused a.read a.flags l c.if-flags-gt7.false q c.renumbered.ensures w.0 w.1

pub stored-requires : goal.stored-requires
stored-requires c =
    let a = c.args in
    let l : Lists =
    record {
      file = record { nexts = a.nexts.now; resets = a.resets.now; gates = a.gates.now; sizes = a.sizes.now; roots = a.roots.now };
      codes = record { inputs = a.input_codes.now; states = a.state_codes.now; triples = a.triples.now };
      images =
          record {
            map = a.map.now;
            next_images = a.next_images.now;
            reset_images = a.reset_images.now;
            root_images = a.root_images.now;
            gates_out = a.gates_out.now;
            scratch = a.scratch.now;
          };
      bytes = a.out.now;
    } in
    let q : Renumbering = leaving
    (record { inputs = c.renumbered.new.input_codes; states = c.renumbered.new.state_codes; triples = c.renumbered.new.triples })
    (outcome_of c.renumbered.result c.renumbered.new.map c.renumbered.new.next_images c.renumbered.new.reset_images
    c.renumbered.new.root_images c.renumbered.new.gates_out c.renumbered.new.scratch) in
    filled a.read a.flags a.gates.now (taken_of l.file) l.codes l.images c.requires.0 c.requires.1 _ q c.renumbered.ensures
    (was_ok _ _ _ _ c.map_err.ensures.cases c.in_ok-summary.was) a.sizes.now c.requires.2

pub returns-in_err-written : goal.returns-in_err-written
returns-in_err-written c =
    let a = c.args in
    let l : Lists =
    record {
      file = record { nexts = a.nexts.now; resets = a.resets.now; gates = a.gates.now; sizes = a.sizes.now; roots = a.roots.now };
      codes = record { inputs = a.input_codes.now; states = a.state_codes.now; triples = a.triples.now };
      images =
          record {
            map = a.map.now;
            next_images = a.next_images.now;
            reset_images = a.reset_images.now;
            root_images = a.root_images.now;
            gates_out = a.gates_out.now;
            scratch = a.scratch.now;
          };
      bytes = a.out.now;
    } in
    let q : Renumbering = leaving
    (record { inputs = c.renumbered.new.input_codes; states = c.renumbered.new.state_codes; triples = c.renumbered.new.triples })
    (outcome_of c.renumbered.result c.renumbered.new.map c.renumbered.new.next_images c.renumbered.new.reset_images
    c.renumbered.new.root_images c.renumbered.new.gates_out c.renumbered.new.scratch) in
    let w = was_err _ _ _ _ c.map_err-2.ensures.cases c.in_err-written.was in
    let p = err_from_is_err_and c.from_residual-in_err-written.result c.from_residual-in_err-written.ensures.1 in
    let t : c.in_err-written.field-0.0 ≡ F.Unstored w.0 a.read c.in_ok-summary.summary.made = let k = w.2 in search rules in
    ap (λ (y : Ordering). seen y (lists l.file q.codes (images_in q.outcome) c.stored.new.out)) (p.1 ∙ ap (λ (e : OrderFault). Err e) (p.2 ∙ t))
    ∙ unwritten a.read a.flags l c.if-flags-gt7.false q c.renumbered.ensures _ (was_ok _ _ _ _ c.map_err.ensures.cases c.in_ok-summary.was)
    c.stored.result c.stored.new.out c.stored.ensures w.0 w.1

pub returns : goal.returns
returns c =
    let a = c.args in
    let l : Lists =
    record {
      file = record { nexts = a.nexts.now; resets = a.resets.now; gates = a.gates.now; sizes = a.sizes.now; roots = a.roots.now };
      codes = record { inputs = a.input_codes.now; states = a.state_codes.now; triples = a.triples.now };
      images =
          record {
            map = a.map.now;
            next_images = a.next_images.now;
            reset_images = a.reset_images.now;
            root_images = a.root_images.now;
            gates_out = a.gates_out.now;
            scratch = a.scratch.now;
          };
      bytes = a.out.now;
    } in
    let q : Renumbering = leaving
    (record { inputs = c.renumbered.new.input_codes; states = c.renumbered.new.state_codes; triples = c.renumbered.new.triples })
    (outcome_of c.renumbered.result c.renumbered.new.map c.renumbered.new.next_images c.renumbered.new.reset_images
    c.renumbered.new.root_images c.renumbered.new.gates_out c.renumbered.new.scratch) in
    written a.read a.flags l c.if-flags-gt7.false q c.renumbered.ensures _ (was_ok _ _ _ _ c.map_err.ensures.cases c.in_ok-summary.was)
    c.stored.result c.stored.new.out c.stored.ensures _ (was_ok _ _ _ _ c.map_err-2.ensures.cases c.in_ok-written.was)
