use Rattle.cd_cover.proofs.Fresh.{fresh_on_the_way, outer_are_fresh}
use Rattle.cd_cover.proofs.laws.references_are_fresh_on_the_way.Goals as goal

pub returns : goal.returns
returns c = record { way = fresh_on_the_way; members = outer_are_fresh }
