use Rattle.cd_tree.specs.Domains.{node_of, members_by}
use Rattle.cd_foot.proofs.OverlapLemmas.{members_apart_first}
use Rattle.cd_foot.proofs.overlaps.members_apart.Goals as goal

pub returns-then-are_clear : goal.returns-then-are_clear
returns-then-are_clear c domains are =
    members_apart_first (members_by (node_of domains) c.args.members.now) (c.are_clear.ensures c.if-are_clear.true domains are)
