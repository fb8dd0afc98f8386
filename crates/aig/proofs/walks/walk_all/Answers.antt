-- `walks::walk_all` meets its contract: what is prepared refuses as checks 5 and 6 do, or is as the walks want it (proofs/Tabling.antt), and the walks
-- end as the definitions say (proofs/Joining.antt). Assumes nothing.
use Rattle.std.proofs.Common.{◌≡◌, Err, ℕ, ◌+◌, ◌*◌, ◌/◌, length, refl, sym, ap, ◌∙◌, rules}
use lib.Seq.{length-take-le}
use Rattle.aig.proofs.Tabling.{refused_ends, ready, out_front, scratch_front, ends_in_lem}
use Rattle.aig.proofs.Joining.{can_walk, walks_end}
use Rattle.aig.proofs.walks.walk_all.Goals as goal

pub returns-in_err-prepare : goal.returns-in_err-prepare
returns-in_err-prepare c =
    let p = c.prepare in
    let refused : c.from_residual.result ≡ Err c.in_err-prepare.field-0.0 = search rules in
    rw refused (refused_ends c.requires p.result _ _ _ p.ensures p.auto.map p.auto.scratch _ c.in_err-prepare.was)

pub slice_bounds-walked-end-3 : goal.slice_bounds-walked-end-3
slice_bounds-walked-end-3 c =
    let p = c.prepare in
    out_front c.requires p.result _ _ _ p.ensures p.auto.map p.auto.scratch c.in_ok-prepare.was (c.wide-vars.result + 1) (length c.args.lists.now.gates.now / 3)
    (ap (λ (k : ℕ). k + 1) (c.wide-vars.ensures ∙ c.index.ensures)) refl p.auto.gates_out

pub slice_bounds-walked-end-4 : goal.slice_bounds-walked-end-4
slice_bounds-walked-end-4 c =
    let p = c.prepare in
    sym (length-take-le (2 * (length c.args.lists.now.gates.now / 3)) p.new.gates_out
    (out_front c.requires p.result _ _ _ p.ensures p.auto.map p.auto.scratch c.in_ok-prepare.was (c.wide-vars.result + 1) (length c.args.lists.now.gates.now / 3)
    (ap (λ (k : ℕ). k + 1) (c.wide-vars.ensures ∙ c.index.ensures)) refl p.auto.gates_out))

pub slice_bounds-walked-end-5 : goal.slice_bounds-walked-end-5
slice_bounds-walked-end-5 c =
    let p = c.prepare in
    scratch_front c.requires p.result _ _ _ p.ensures p.auto.map p.auto.scratch c.in_ok-prepare.was (c.wide-vars.result + 1) (length c.args.lists.now.gates.now / 3)
    (ap (λ (k : ℕ). k + 1) (c.wide-vars.ensures ∙ c.index.ensures)) refl

pub slice_bounds-walked-end-6 : goal.slice_bounds-walked-end-6
slice_bounds-walked-end-6 c =
    let p = c.prepare in
    sym (length-take-le (3 * (c.wide-vars.result + 1) + 3 * (length c.args.lists.now.gates.now / 3)) p.new.scratch
    (scratch_front c.requires p.result _ _ _ p.ensures p.auto.map p.auto.scratch c.in_ok-prepare.was (c.wide-vars.result + 1) (length c.args.lists.now.gates.now / 3)
    (ap (λ (k : ℕ). k + 1) (c.wide-vars.ensures ∙ c.index.ensures)) refl))

pub walked-requires : goal.walked-requires
walked-requires c =
    let p = c.prepare in
    let top = ap (λ (k : ℕ). k + 1) (c.wide-vars.ensures ∙ c.index.ensures) in
    can_walk (ready c.requires p.result _ _ _ p.ensures p.auto.map p.auto.scratch c.in_ok-prepare.was (c.wide-vars.result + 1)
    (length c.args.lists.now.gates.now / 3) top refl) (c.wide-vars.result + 1) top

pub returns : goal.returns
returns c =
    let p = c.prepare in
    let w = c.walked in
    let top = ap (λ (k : ℕ). k + 1) (c.wide-vars.ensures ∙ c.index.ensures) in
    ends_in_lem c.requires p.result _ _ _ p.ensures p.auto.map p.auto.scratch c.in_ok-prepare.was (c.wide-vars.result + 1) (length c.args.lists.now.gates.now / 3)
    top refl p.auto.gates_out w.result _ _ _ (walks_end (ready c.requires p.result _ _ _ p.ensures p.auto.map p.auto.scratch c.in_ok-prepare.was
    (c.wide-vars.result + 1) (length c.args.lists.now.gates.now / 3) top refl) (c.wide-vars.result + 1) top w.result _ _ _ w.ensures) w.auto.map w.auto.out w.auto.scratch
