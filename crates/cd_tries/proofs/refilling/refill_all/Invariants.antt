use Rattle.std.proofs.Common.{◌≡◌, ◌≤◌, drop, length}
use Rattle.cd_tries.specs.Fitting.{HasWords}
use Rattle.cd_tries.specs.Keeping.{KeepsFit}
use Rattle.cd_tries.specs.Refilling.{refilled_from}
use Rattle.cd_tries.proofs.refilling.refill_all.Given as goal

abbrev pub invariant-loop-number : goal.invariant-loop-number
invariant-loop-number g l = record {
  within : l.number ≤ length l.entries;
  enough : length l.entries ≤ length l.keeps;
  fits : KeepsFit (g.P.Pass.model l.fn.pass).known (drop l.number l.entries) (drop l.number l.keeps);
  words : HasWords l.entries (g.F.Field.model l.field);
  same : g.P.Pass.model l.pass ≡ g.P.Pass.model l.fn.pass;
  left : refilled_from (g.P.Pass.model l.fn.pass).known l.number (drop l.number l.entries) (drop l.number l.keeps) (g.F.Field.model l.field)
      ≡ refilled_from (g.P.Pass.model l.fn.pass).known 0 l.entries l.keeps (g.F.Field.model l.fn.field);
}
