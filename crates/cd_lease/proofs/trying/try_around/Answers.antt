use Rattle.cd_lease.proofs.Searching.{found_first}
use Rattle.cd_lease.proofs.trying.try_around.Goals as goal

pub returns-in-Some-clause-outcome : goal.returns-in-Some-clause-outcome
returns-in-Some-clause-outcome c =
    found_first c.args.start c.args.blocks c.args.seat.now.me c.try_between.new.seat.me c.in-Some.id c.in-Some.ensures.outcome
