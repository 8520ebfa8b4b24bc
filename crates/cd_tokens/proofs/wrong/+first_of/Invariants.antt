use Rattle.std.proofs.Common.{length}
use Rattle.cd_tokens.proofs.wrong.+first_of.Given as goal

abbrev pub decreases-first_of : goal.decreases-first_of
decreases-first_of l = length l.tests.now
