use Rattle.cd_lease.specs.Leases.{model_of, held_within_most}
use Rattle.cd_parts_tests.proofs.TurnLemmas.{can_return}
use Rattle.cd_parts_tests.proofs.tests.leases.splits_and_takes_back.Goals as goal

pub join-requires : goal.join-requires
join-requires c =
    can_return (model_of c.args.pass.now) (model_of c.split.new.self) (model_of c.in-Ok.child) c.in-Ok.ensures.rest c.in-Ok.ensures.child
    c.requires.room (held_within_most c.args.pass.now)
