use Rattle.cd_script.proofs.Progress.{AreAccepted}
use Rattle.cd_script.proofs.script.accept.Given as goal

-- all faults so far have been accepted, and the rest decides
abbrev pub invariant-loop-k : goal.invariant-loop-k
invariant-loop-k l = AreAccepted l.tree l.faults l.k l.script
