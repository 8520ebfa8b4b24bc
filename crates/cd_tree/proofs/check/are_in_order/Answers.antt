use Rattle.std.proofs.Common.{length}
use Rattle.std.proofs.lemmas.Bool.{eqb-true, eq-eqb}
use Rattle.cd_tree.proofs.Walk.{order_none, order_some}
use Rattle.cd_tree.proofs.check.are_in_order.Goals as goal

pub returns-in-None : goal.returns-in-None
returns-in-None c = (
  λ wrong. absurd (cc),
  λ ordered. absurd (order_none c.args.domains.now c.requires.some c.in-None.ensures ordered),
)

pub returns-in-Some : goal.returns-in-Some
returns-in-Some c = (
  λ test. (order_some c.args.domains.now c.in-Some.count c.requires.some c.in-Some.ensures).0
      (eqb-true c.in-Some.count (length c.args.domains.now) test),
  λ ordered. eq-eqb c.in-Some.count (length c.args.domains.now)
      ((order_some c.args.domains.now c.in-Some.count c.requires.some c.in-Some.ensures).1 ordered),
)
