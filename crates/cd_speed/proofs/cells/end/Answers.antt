use Rattle.std.proofs.Common.{[], ◌∷◌}
use Rattle.cd_speed.proofs.cells.end.Goals as goal

pub arrive-requires-clause-ended : goal.arrive-requires-clause-ended
arrive-requires-clause-ended c =
    let h = c.requires.hand in (h.ask, record { named = h.named; ended = tt; now = (c.stop.ensures.stops (h.ask ∷ []) [] h.holds).now })
