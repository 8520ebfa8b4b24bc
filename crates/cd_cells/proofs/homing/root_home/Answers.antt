use Rattle.std.proofs.Common.{◌∙◌}
use Rattle.cd_cells.proofs.Gathered.{held_one}
use Rattle.cd_cells.proofs.homing.root_home.Goals as goal

pub arrive_root-requires-clause-held : goal.arrive_root-requires-clause-held
arrive_root-requires-clause-held g c =
    let in_hand = c.requires.ended.1 in
    held_one c.args.seat.now.me.0 c.requires.ended.0 0 in_hand.has.holds (in_hand.named ∙ c.requires.root)
