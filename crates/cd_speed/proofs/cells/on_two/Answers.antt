use Rattle.std.proofs.Common.{rules, []}
use Rattle.cd_speed.proofs.cells.on_two.Goals as goal

pub join-first-requires-after_bounds : goal.join-first-requires-after_bounds
join-first-requires-after_bounds g c κs within = let here = (c.split.ensures.stays [] [] c.requires).now in search (rules, here)
