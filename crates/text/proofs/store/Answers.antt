-- `text::store` meets its contract: a store past the end changes nothing. Assumes nothing.
use mathlib.Core.Path.{sym}
use native.Mathlib.Omega.{arith}
use lib.Seq.{set_out}
use Rattle.text.proofs.store.Goals as goal

pub returns-else-at-out : goal.returns-else-at-out
returns-else-at-out c = sym (set_out c.args.out.now c.args.at c.args.b (omega arith))
