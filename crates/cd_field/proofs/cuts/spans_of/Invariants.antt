use Rattle.cd_field.proofs.CutLemmas.{Holding}
use Rattle.cd_field.proofs.cuts.spans_of.Given as goal

abbrev pub invariant-loop-range : goal.invariant-loop-range
invariant-loop-range l = Holding l.whole l.ranges l.range-index l.spans.items
