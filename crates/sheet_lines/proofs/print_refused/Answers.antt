-- `sheet_lines::print_refused` meets its contract: its number and its literal make its line. Assumes nothing.
use mathlib.Core.Path.{ap, ◌∙◌}
use Rattle.lit.specs.declared.Lit.{Lit}
use Rattle.sheet_lines.proofs.Texts.{put_same}
use Rattle.sheet_lines.proofs.Answers.{refused_same}
use Rattle.sheet_lines.proofs.print_refused.Goals as goal

pub returns : goal.returns
returns c =
    put_same _ _ c.put_refused.ensures
    (refused_same c.args.why _ _ c.number-number.ensures (c.code.ensures ∙ ap (λ (l : Lit). l.0) c.literal-l.ensures))
