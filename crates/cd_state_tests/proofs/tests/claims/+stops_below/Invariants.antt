use Rattle.cd_state_tests.proofs.tests.claims.+stops_below.Given as goal

abbrev pub decreases-stops_below : goal.decreases-stops_below
decreases-stops_below l = l.more
