-- `header::code_count` meets its contract: a header that is taken announces as many codes as follow. Assumes nothing.
use mathlib.Core.Path.{◌∙◌}
use Rattle.sheet_read.proofs.Headers.{announced_taken}
use Rattle.sheet.proofs.header.code_count.Goals as goal

pub returns : goal.returns
returns c = c.announced.ensures ∙ announced_taken c.requires
