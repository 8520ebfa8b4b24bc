use Rattle.std.proofs.Common.{◌≡◌, ◌++◌, drop, map}
use Rattle.cd_tree.specs.declared.domain.Entry.{Entry}
use Rattle.cd_foot.proofs.gathered.add_ranges.Given as goal

abbrev pub invariant-loop-entry : goal.invariant-loop-entry
invariant-loop-entry l =
    l.ranges.items ++ map (λ (entry : Entry). entry.range) (drop l.entry-index l.entries)
    ≡ l.fn.ranges.items ++ map (λ (entry : Entry). entry.range) l.entries
