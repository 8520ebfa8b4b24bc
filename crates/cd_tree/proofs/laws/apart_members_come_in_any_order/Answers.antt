use Rattle.cd_tree.proofs.Absorbs.{members_give_their_own, order_does_not_matter, apart_is_unseen}
use Rattle.cd_tree.proofs.laws.apart_members_come_in_any_order.Goals as goal

pub returns : goal.returns
returns c = record { own = members_give_their_own; order = order_does_not_matter; unseen = apart_is_unseen }
