-- `order` meets its contract: too few answer words, and the outcome of ordering the file, are the two ways out, each by its law. Assumes nothing.
use mathlib.Core.Path.{sym, ◌∙◌}
use borrow.Author.Tests.{ltb-false}
use Rattle.intake.specs.Order.{Lists, seen}
use Rattle.intake_words.proofs.Ordering.{way_short, way_ordered}
use Rattle.intake_words.proofs.order.Goals as goal

pub returns-then-is_short : goal.returns-then-is_short
returns-then-is_short c =
    let a = c.args in
    let lent : Lists = record {
      file = record { nexts = a.nexts.now; resets = a.resets.now; gates = a.gates.now; sizes = a.sizes.now; roots = a.roots.now };
      codes = record { inputs = a.input_codes.now; states = a.state_codes.now; triples = a.triples.now };
      images = record {
        map = a.map.now;
        next_images = a.next_images.now;
        reset_images = a.reset_images.now;
        root_images = a.root_images.now;
        gates_out = a.gates_out.now;
        scratch = a.scratch.now;
      };
      bytes = a.out.now;
    } in
    way_short a.bytes.now a.flags lent a.answer.now (sym c.is_short.ensures ∙ c.if-is_short.true)

pub put_order-requires : goal.put_order-requires
put_order-requires c =
    ltb-false _ 14 (sym c.is_short.ensures ∙ c.if-is_short.false)

pub returns : goal.returns
returns c =
    let a = c.args in
    let o = c.order-said in
    let lent : Lists = record {
      file = record { nexts = a.nexts.now; resets = a.resets.now; gates = a.gates.now; sizes = a.sizes.now; roots = a.roots.now };
      codes = record { inputs = a.input_codes.now; states = a.state_codes.now; triples = a.triples.now };
      images = record {
        map = a.map.now;
        next_images = a.next_images.now;
        reset_images = a.reset_images.now;
        root_images = a.root_images.now;
        gates_out = a.gates_out.now;
        scratch = a.scratch.now;
      };
      bytes = a.out.now;
    } in
    let left : Lists = record {
      file = record { nexts = o.new.nexts; resets = o.new.resets; gates = o.new.gates; sizes = o.new.sizes; roots = o.new.roots };
      codes = record { inputs = o.new.input_codes; states = o.new.state_codes; triples = o.new.triples };
      images = record { map = o.new.map; next_images = o.new.next_images; reset_images = o.new.reset_images; root_images = o.new.root_images; gates_out = o.new.gates_out; scratch = o.new.scratch };
      bytes = o.new.out;
    } in
    way_ordered a.bytes.now a.flags lent a.answer.now (sym c.is_short.ensures ∙ c.if-is_short.false) (seen o.result left) _ _
    o.ensures (c.number.ensures, c.put_order.ensures)
