use Rattle.std.proofs.Common.{◌≡◌}
use Rattle.cd_tries.specs.Fitting.{CanTry}
use Rattle.cd_tries.specs.Running.{means, stops, tries_from}
use Rattle.cd_tries.proofs.tries.more_tries.Given as goal

abbrev pub invariant-loop-begin : goal.invariant-loop-begin
invariant-loop-begin g l = record {
  tries : CanTry (means l.attempt.node l.attempt.domain.now l.attempt.halts (g.P.Pass.model l.fn.pass).known l.attempt.keeps.now)
      (g.F.Field.model l.field) (g.P.Pass.model l.pass);
  same : g.P.Pass.model l.pass ≡ g.P.Pass.model l.fn.pass;
  left : tries_from (means l.attempt.node l.attempt.domain.now l.attempt.halts (g.P.Pass.model l.fn.pass).known l.attempt.keeps.now)
      l.course.spare l.course.begin (stops (g.F.Field.model l.field) l.course.stop)
      ≡ tries_from (means l.attempt.node l.attempt.domain.now l.attempt.halts (g.P.Pass.model l.fn.pass).known l.attempt.keeps.now)
      l.fn.course.spare l.fn.course.begin (stops (g.F.Field.model l.fn.field) l.fn.course.stop);
}

abbrev pub decreases-loop-begin : goal.decreases-loop-begin
decreases-loop-begin g l = l.course.spare
