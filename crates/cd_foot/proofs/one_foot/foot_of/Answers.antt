use Rattle.std.proofs.Common.{length}
use Rattle.cd_foot.specs.declared.gathered.Side.TheVariants.{Reads, Writes}
use Rattle.cd_foot.proofs.FeetLemmas.{is_foot}
use Rattle.cd_foot.proofs.SideLemmas.{can_gather, is_side}
use Rattle.cd_foot.proofs.one_foot.foot_of.Goals as goal

pub places_of-requires : goal.places_of-requires
places_of-requires c =
    can_gather c.args.tree.now c.requires.tree c.args.node c.node-domain.result.now c.node-domain.ensures (length c.args.feet.now) c.requires.after.size

pub places_of-requires-2 : goal.places_of-requires-2
places_of-requires-2 c =
    can_gather c.args.tree.now c.requires.tree c.args.node c.node-domain.result.now c.node-domain.ensures (length c.args.feet.now) c.requires.after.size

pub returns : goal.returns
returns c d found =
    is_foot d c.in_ok-reads.reads c.in_ok-writes.writes c.in_ok-reach.reach
    (is_side Reads c.args.tree.now c.requires.tree c.args.feet.now c.args.node c.node-domain.result.now c.requires.after c.node-domain.ensures
    c.in_ok-reads.reads c.in_ok-reads.ensures d found)
    (is_side Writes c.args.tree.now c.requires.tree c.args.feet.now c.args.node c.node-domain.result.now c.requires.after c.node-domain.ensures
    c.in_ok-writes.writes c.in_ok-writes.ensures d found)
    c.in_ok-reach.ensures.places
