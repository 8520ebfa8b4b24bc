use Rattle.std.proofs.Common.{◌≡◌, take}
use Rattle.cd_report.specs.Texts.{item_count, entry_count}
use Rattle.cd_report.proofs.accepted.items_and_entries.Given as goal

abbrev pub invariant-loop-k : goal.invariant-loop-k
invariant-loop-k l = record {
  items : l.items ≡ item_count (take l.k l.tree.domains);
  entries : l.entries ≡ entry_count (take l.k l.tree.domains);
}
