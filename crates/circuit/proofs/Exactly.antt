-- Renumbering succeeds exactly when what it asks holds: it answers, a success has all that is asked, and a true refusal leaves some of it out. Assumes
-- nothing.
use Rattle.std.specs.Prelude.{Ok}
use mathlib.Core.Path.{◌≡◌, refl, ◌∙◌, ap}
use mathlib.Core.Logic.{◌↔◌}
use Rattle.circuit.specs.declared.Summary.{Summary}
use Rattle.circuit.specs.Graph.{DefinedOnce}
use Rattle.circuit.specs.Walk.{Out, reached, stopped}
use Rattle.circuit.specs.Circuit.{graph, renumber}
use Rattle.circuit.specs.Ordered.{ordered_of}
use Rattle.circuit.specs.Outcome.{Lent, Outcome, circuit_of, summary_of, outcome}
use Rattle.circuit.specs.Claims.{AllGrounded}
use Rattle.circuit.specs.Tested.{Tested}
use Rattle.circuit.proofs.Renumber.{Answered, answered, why_not}
use Rattle.circuit.proofs.Outcome.{limits, clean, success_of, conclusion_of}
use Rattle.circuit.proofs.Success.{success, facts}

pub exactly : (l : Lent) → Tested l → ((s : Summary) × ((outcome l).answer ≡ Ok s)) ↔ (DefinedOnce (graph (circuit_of l)) × AllGrounded (circuit_of l))
exactly l p = (
  λ r. let k = success l r.0 r.1 in let f = (facts l k.work k.ends).1 in (f.once, f.grounded),
  λ r. go r (renumber (circuit_of l)) refl (answered (circuit_of l) (limits l p.fits)),
)
  where
    go : DefinedOnce (graph (circuit_of l)) × AllGrounded (circuit_of l) → (o : Out) → renumber (circuit_of l) ≡ o → Answered (circuit_of l) o
        → (s : Summary) × ((outcome l).answer ≡ Ok s)
    go r (reached w) e a =
        (summary_of (ordered_of (circuit_of l) w), ap (λ (o : Outcome). o.answer) (success_of l w (conclusion_of l p.fits ∙ e)))
    go r (stopped why) e a = absurd (why_not (circuit_of l) why a (clean l p) r.0 r.1)
