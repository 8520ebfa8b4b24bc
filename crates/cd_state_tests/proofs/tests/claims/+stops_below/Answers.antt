use Rattle.std.proofs.Common.{[]}
use Rattle.cd_state_tests.proofs.tests.claims.+stops_below.Goals as goal

pub split-requires : goal.split-requires
split-requires t c = record { here = ([], c.requires.here.0, (c.stopped-before.ensures.met [] c.requires.here.0 c.requires.here.1).1.now) }

pub stopped-after-requires : goal.stopped-after-requires
stopped-after-requires t c =
    let may = c.requires.here.0 in
    record { here = ([], may, (c.split.ensures.stays [] may (c.stopped-before.ensures.met [] may c.requires.here.1).1.now).now) }
