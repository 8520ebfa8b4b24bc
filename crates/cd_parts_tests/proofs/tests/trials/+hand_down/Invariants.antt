use Rattle.cd_parts_tests.proofs.tests.trials.+hand_down.Given as goal

abbrev pub decreases-hand_down : goal.decreases-hand_down
decreases-hand_down g l = l.depth
