use Rattle.std.proofs.Common.{◌≡◌, ◌≤◌, ◌*◌, take, sum_by}
use Rattle.cd_tree.specs.Meaning.{entry_need}
use Rattle.cd_cover.specs.Needs.{most_entry}
use Rattle.cd_cover.proofs.needs.own_blocks.Given as goal

abbrev pub invariant-loop-entry : goal.invariant-loop-entry
invariant-loop-entry l =
    (l.all ≡ sum_by entry_need (take l.entry-index l.entries)) × (l.all ≤ l.entry-index * most_entry)
