use Rattle.std.proofs.Common.{◌≡◌, ◌+◌, ◌-◌, sum}
use Rattle.cd_base.specs.Words.{word_of}
use Rattle.cd_report.specs.Texts.{words_from}
use Rattle.cd_report.proofs.regions.sum_of.Given as goal

abbrev pub invariant-loop-index : goal.invariant-loop-index
invariant-loop-index g l =
    word_of (l.sum + sum (words_from (g.F.Field.model l.machine).words l.region l.index (l.length - l.index)))
    ≡ word_of (sum (words_from (g.F.Field.model l.machine).words l.region 0 l.length))
