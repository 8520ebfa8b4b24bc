use Rattle.std.proofs.Common.{◌≡◌, ◌≤◌, ◌*◌, take}
use Rattle.cd_report.specs.Texts.{word_count}
use Rattle.cd_report.proofs.accepted.word_count.Given as goal

abbrev pub invariant-loop-region : goal.invariant-loop-region
invariant-loop-region l = record {
  value : l.count ≡ word_count (take l.region-index l.regions);
  bound : l.count ≤ l.region-index * 4294967295;
}
