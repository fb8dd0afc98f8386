-- `order` meets its contract: the file is refused where reading refuses it, and goes on where it is taken. Assumes nothing.
use Rattle.std.proofs.lemmas.Result.{err_from_is_err_and}
use Rattle.binary.specs.Promise as B
use Rattle.intake.specs.Order.{Lists}
use Rattle.intake.proofs.Steps.{reads, unread, taken}
use Rattle.intake.proofs.order.Goals as goal

pub returns-in_err-read : goal.returns-in_err-read
returns-in_err-read c =
    let a = c.args in
    let l : Lists =
    record {
      file = record { nexts = a.nexts.now; resets = a.resets.now; gates = a.gates.now; sizes = a.sizes.now; roots = a.roots.now };
      codes = record { inputs = a.input_codes.now; states = a.state_codes.now; triples = a.triples.now };
      images =
          record {
            map = a.map.now;
            next_images = a.next_images.now;
            reset_images = a.reset_images.now;
            root_images = a.root_images.now;
            gates_out = a.gates_out.now;
            scratch = a.scratch.now;
          };
      bytes = a.out.now;
    } in
    let o : B.Outcome =
    B.seen c.read.result (record {
      nexts = c.read.new.nexts;
      resets = c.read.new.resets;
      gates = c.read.new.gates;
      sizes = c.read.new.sizes;
      roots = c.read.new.roots;
    }) in
    let p = err_from_is_err_and c.from_residual.result c.from_residual.ensures.1 in
    rw (p.1, p.2) (unread a.bytes.now a.flags l o c.read.ensures _ c.in_err-read.was)

pub onward-requires : goal.onward-requires
onward-requires c =
    let a = c.args in
    let l : Lists =
    record {
      file = record { nexts = a.nexts.now; resets = a.resets.now; gates = a.gates.now; sizes = a.sizes.now; roots = a.roots.now };
      codes = record { inputs = a.input_codes.now; states = a.state_codes.now; triples = a.triples.now };
      images =
          record {
            map = a.map.now;
            next_images = a.next_images.now;
            reset_images = a.reset_images.now;
            root_images = a.root_images.now;
            gates_out = a.gates_out.now;
            scratch = a.scratch.now;
          };
      bytes = a.out.now;
    } in
    let o : B.Outcome =
    B.seen c.read.result (record {
      nexts = c.read.new.nexts;
      resets = c.read.new.resets;
      gates = c.read.new.gates;
      sizes = c.read.new.sizes;
      roots = c.read.new.roots;
    }) in
    let k = reads a.bytes.now a.flags l o c.read.ensures _ c.in_ok-read.was in (k.held, k.gates, k.sizes)

pub returns : goal.returns
returns c =
    let a = c.args in
    let l : Lists =
    record {
      file = record { nexts = a.nexts.now; resets = a.resets.now; gates = a.gates.now; sizes = a.sizes.now; roots = a.roots.now };
      codes = record { inputs = a.input_codes.now; states = a.state_codes.now; triples = a.triples.now };
      images =
          record {
            map = a.map.now;
            next_images = a.next_images.now;
            reset_images = a.reset_images.now;
            root_images = a.root_images.now;
            gates_out = a.gates_out.now;
            scratch = a.scratch.now;
          };
      bytes = a.out.now;
    } in
    let o : B.Outcome =
    B.seen c.read.result (record {
      nexts = c.read.new.nexts;
      resets = c.read.new.resets;
      gates = c.read.new.gates;
      sizes = c.read.new.sizes;
      roots = c.read.new.roots;
    }) in
    taken a.bytes.now a.flags l o c.read.ensures _ _ c.in_ok-read.was c.onward.ensures
