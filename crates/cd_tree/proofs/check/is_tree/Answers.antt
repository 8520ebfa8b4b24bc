use Rattle.std.proofs.Common.{refl}
use Rattle.cd_tree.proofs.Walk.{walkable}
use Rattle.cd_tree.proofs.check.is_tree.Goals as goal

pub are_in_order-requires-clause-view : goal.are_in_order-requires-clause-view
are_in_order-requires-clause-view c = walkable c.args.kinds.now c.args.domains.now (c.if-not-are_few.ensures.0 refl) (c.if-not-all_fit.ensures.0 refl)
