-- `binary::write` meets its contract: what fits is an ordered circuit and is written, and any other answer of the checks is handed on. Assumes nothing.
use mathlib.Core.Path.{◌≡◌, sym, ap, ◌∙◌}
use Rattle.std.proofs.Common.{rules}
use Rattle.std.specs.Prelude.{ℕ, List, Result, Err}
use Rattle.lit.specs.declared.Lit.{Lit}
use Rattle.ordered.specs.declared.given.Fault.{Fault}
use Rattle.ordered.specs.Check.{Words, Checked, fits, checked}
use Rattle.ordered.proofs.Theorems.{fits_exactly}
use Rattle.binary.specs.declared.Unwritten.{Unwritten}
use Rattle.binary.specs.Write.{unwritten, wrote, file_of, file_in, written_as, writing}
use Rattle.binary.proofs.write.Goals as goal

handed_on : (k : Checked) (file out : List ℕ) (why : Fault) (r : Result ℕ Unwritten) → k ≡ Err why → r ≡ unwritten why 0 → wrote r out ≡ written_as k file out
handed_on k file out why r e q = ap (λ (x : Result ℕ Unwritten). wrote x out) q ∙ ap (λ (x : Checked). written_as x file out) (sym e)

pub returns-in_err-check : goal.returns-in_err-check
unfolding writing
returns-in_err-check c =
    let a = c.args in
    let w : Words =
    record {
      inputs = a.o.inputs;
      counts = a.o.counts;
      nexts = a.nexts.now;
      resets = a.resets.now;
      gates = a.gates.now;
      sizes = a.sizes.now;
      roots = a.roots.now;
    } in
    let fault = ap (λ (l : Lit). checked w l.0) (sym c.from_code.ensures) ∙ sym c.check.ensures ∙ c.in_err-check.was in
    handed_on (checked w 0) (file_of (file_in w)) a.out.now _ _ fault (search rules)

pub fitted-requires : goal.fitted-requires
fitted-requires c =
    ((fits_exactly _ _).0 (sym c.check.ensures ∙ c.in_ok-check.was)).0

pub returns : goal.returns
unfolding writing
returns c =
    let a = c.args in
    let w : Words =
    record {
      inputs = a.o.inputs;
      counts = a.o.counts;
      nexts = a.nexts.now;
      resets = a.resets.now;
      gates = a.gates.now;
      sizes = a.sizes.now;
      roots = a.roots.now;
    } in
    let none : checked w 0 ≡ fits
    = ap (λ (l : Lit). checked w l.0) (sym c.from_code.ensures) ∙ sym c.check.ensures ∙ c.in_ok-check.was in
    c.fitted.ensures ∙ ap (λ (k : Checked). written_as k (file_of (file_in w)) a.out.now) (sym none)
