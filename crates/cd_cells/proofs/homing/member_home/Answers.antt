use Rattle.cd_cells.proofs.Gathered.{held_one}
use Rattle.cd_cells.proofs.homing.member_home.Goals as goal

pub arrive-requires-clause-held : goal.arrive-requires-clause-held
arrive-requires-clause-held g c =
    let in_hand = c.requires.ended.1 in
    held_one c.args.seat.now.me.0 c.requires.ended.0 c.args.node.0 in_hand.has.holds in_hand.named
