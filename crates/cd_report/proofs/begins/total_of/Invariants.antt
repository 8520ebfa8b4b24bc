use Rattle.std.proofs.Common.{◌≡◌, take, sum}
use Rattle.cd_report.proofs.begins.total_of.Given as goal

abbrev pub invariant-loop-k : goal.invariant-loop-k
invariant-loop-k l = l.total ≡ sum (take l.k l.begins)
