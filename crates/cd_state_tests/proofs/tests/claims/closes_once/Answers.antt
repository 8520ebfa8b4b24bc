use Rattle.std.proofs.Common.{[]}
use Rattle.cd_state_tests.proofs.tests.claims.closes_once.Goals as goal

pub close-requires : goal.close-requires
close-requires c = record { free = ([], (c.split.ensures.stays [] [] c.requires.has).now) }
