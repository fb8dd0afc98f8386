-- `put_order` meets its contract: the file's eleven words and the three after them are the fourteen. Assumes nothing.
use mathlib.Core.Path.{refl}
use Rattle.intake_words.proofs.Ordering.{order_put}
use Rattle.intake_words.proofs.put_order.Goals as goal

pub returns : goal.returns
returns c =
    order_put c.args.said c.args.answer.now c.requires c.file_of-file.ensures.same c.file_of-file.ensures.five refl c.put_file.ensures
    c.made_count.ensures c.byte_count.ensures c.who_refused.ensures refl
