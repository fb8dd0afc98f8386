-- What the contract of `order` promises: any two outcomes that it allows for the same arguments are equal, the answer, each lent list and the lent bytes. What that
-- outcome is worth is said in proofs/Intake.antt. Assumes nothing.
use mathlib.Core.Path.{sym, ap, ◌∙◌}
use Rattle.promise.specs.Determined.{Determines, DeterminesCells}
use Rattle.intake.specs.Order.{Lists, Outcome}
use Rattle.intake.proofs.OrderFaultFromBroken.from.Kinds as unread-kinds
use Rattle.intake.proofs.OrderFaultFromBroken.from.Reads as unread-contract
use Rattle.intake.proofs.order.Kinds as order-kinds
use Rattle.intake.proofs.order.Reads as order-contract

pub one_unread : Determines 0 unread-kinds.ps unread-kinds.r unread-contract.Learnt
one_unread κs a x y e f p q = p ∙ sym q

pub one_order : DeterminesCells 16 order-kinds.ps order-kinds.r order-contract.Learnt {A = Lists}
    (λ κs e. record {
      file =
          record {
            nexts = e.1.1.0.now;
            resets = e.1.1.1.0.now;
            gates = e.1.1.1.1.0.now;
            sizes = e.1.1.1.1.1.0.now;
            roots = e.1.1.1.1.1.1.0.now;
          };
      codes =
          record {
            inputs = e.1.1.1.1.1.1.1.0.now;
            states = e.1.1.1.1.1.1.1.1.0.now;
            triples = e.1.1.1.1.1.1.1.1.1.0.now;
          };
      images =
          record {
            map = e.1.1.1.1.1.1.1.1.1.1.0.now;
            next_images = e.1.1.1.1.1.1.1.1.1.1.1.0.now;
            reset_images = e.1.1.1.1.1.1.1.1.1.1.1.1.0.now;
            root_images = e.1.1.1.1.1.1.1.1.1.1.1.1.1.0.now;
            gates_out = e.1.1.1.1.1.1.1.1.1.1.1.1.1.1.0.now;
            scratch = e.1.1.1.1.1.1.1.1.1.1.1.1.1.1.1.0.now;
          };
      bytes = e.1.1.1.1.1.1.1.1.1.1.1.1.1.1.1.1.0.now;
    })
one_order κs a x y e f p q = (ap (λ (o : Outcome). o.said) (p ∙ sym q), ap (λ (o : Outcome). o.lists) (p ∙ sym q))
