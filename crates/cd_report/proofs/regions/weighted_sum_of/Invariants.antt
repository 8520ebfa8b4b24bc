use Rattle.std.proofs.Common.{◌≡◌, ◌+◌, ◌-◌}
use Rattle.cd_base.specs.Words.{word_of}
use Rattle.cd_report.specs.Texts.{weighted, words_from}
use Rattle.cd_report.proofs.regions.weighted_sum_of.Given as goal

abbrev pub invariant-loop-index : goal.invariant-loop-index
invariant-loop-index g l =
    word_of (l.sum + weighted (l.index + 1) (words_from (g.F.Field.model l.machine).words l.region l.index (l.length - l.index)))
    ≡ word_of (weighted 1 (words_from (g.F.Field.model l.machine).words l.region 0 l.length))
