use Rattle.std.proofs.Common.{◌≡◌, ◌-◌, ◌++◌, string_bytes}
use Rattle.cd_report.specs.Texts.{words_from, listed}
use Rattle.cd_report.proofs.regions.add_words.Given as goal

abbrev pub invariant-loop-index : goal.invariant-loop-index
invariant-loop-index g l =
    string_bytes l.text ++ listed (words_from (g.F.Field.model l.machine).words l.region l.index (l.length - l.index))
    ≡ string_bytes l.fn.text ++ listed (words_from (g.F.Field.model l.machine).words l.region 0 l.length)
