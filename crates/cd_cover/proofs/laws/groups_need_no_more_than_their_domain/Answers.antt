use Rattle.cd_cover.proofs.NeedsWithin.{groups_need_within, children_need_within}
use Rattle.cd_cover.proofs.laws.groups_need_no_more_than_their_domain.Goals as goal

pub returns : goal.returns
returns c = record { groups = groups_need_within; children = children_need_within }
