use Rattle.std.proofs.Common.{[]}
use Rattle.cd_state_tests.proofs.tests.roots.is_claimed_once.Goals as goal

pub finds-requires-clause-free : goal.finds-requires-clause-free
finds-requires-clause-free g c = ([], (c.split.ensures.stays [] [] c.in_ok-cells.ensures.works).now)
