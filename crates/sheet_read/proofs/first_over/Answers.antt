-- `sheet_read::first_over` meets its contract: the library's search for a number over the bound finds the first of them. Assumes nothing.
use Rattle.std.proofs.Common.{rules, ◌≡◌, ◌∙◌}
use Rattle.std.specs.Prelude.{Option, Some, None, option_map, ltb}
use Prim.Native.Nat.{ℕ}
use mathlib.Core.Path.{refl}
use borrow.Author.Tests.{tests}
use Rattle.std.proofs.lemmas.Iterator.{YieldsList-from_slice}
use Rattle.std.proofs.lemmas.Iterator.Consumers.{YieldsList-from_copied}
use Rattle.std.proofs.lemmas.Iterator.Search.{find_from_yields_List}
use Rattle.sheet_read.proofs.Headers.{first_over_lem}
use Rattle.sheet_read.proofs.first_over.Goals as goal

same : (o : Option ℕ) → o ≡ option_map (λ n. n) o
same None = refl
same (Some n) = refl

pub returns : goal.returns
returns c =
    let a = c.args in
    same c.find.result
    ∙ find_from_yields_List (λ n. ltb a.bound n) _ _ _ c.find.ensures.ran (YieldsList-from_copied (YieldsList-from_slice a.numbers.now cc))
    (λ x b q k. search (rules, tests)) ∙ first_over_lem a.bound a.numbers.now
