use Rattle.std.proofs.Common.{sym, ap, ◌∙◌, subst}
use Rattle.std.specs.Arc.{arc_value}
use Rattle.cd_lease.specs.Steps.{Sat}
use Rattle.cd_lease.specs.Stores.{number}
use Rattle.cd_lease.specs.Passes.{Rests, shown_by}
use Rattle.cd_lease.specs.Leases.{model_of}
use Rattle.cd_lease.proofs.Showing.{left_shown, left_rests}
use Rattle.cd_lease.proofs.lease_pass.LeasePassPass.give_up.Goals as goal

pub invariant_of-self-clause-rests : goal.invariant_of-self-clause-rests
unfolding model_of
invariant_of-self-clause-rests c =
    let pass = c.args.self.now in
    let size = (arc_value pass.table).shared.key in
    subst (λ (m : Sat). Rests size m.0) (sym c.let_go-free.ensures.me) (left_rests size pass.seat.me.0 c.args.id c.requires pass.rests)

pub returns-clause-model : goal.returns-clause-model
unfolding model_of
returns-clause-model c =
    let pass = c.args.self.now in
    let most = (arc_value pass.table).shared.key.most in
    let store = number (arc_value pass.table).shared.table_id in
    ap (λ (m : Sat). shown_by most store m.0) c.let_go-free.ensures.me ∙ left_shown most store pass.seat.me.0 c.args.id c.requires
