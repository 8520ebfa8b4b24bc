use Rattle.std.proofs.Common.{vec_len}
use Rattle.cd_lease.proofs.hints.Hints.take.Given as goal

abbrev pub decreases-loop-block : goal.decreases-loop-block
decreases-loop-block l = vec_len l.other.free
