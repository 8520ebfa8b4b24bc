use Rattle.std.proofs.Common.{All, subst, sym}
use Rattle.cd_tree.specs.Operations.{IsFull}
use Rattle.cd_foot.proofs.GatherLemmas.{full_gathered}
use Rattle.cd_foot.proofs.gathered.places_of.Goals as goal

pub sorting-requires : goal.sorting-requires
sorting-requires c =
    subst (All IsFull) (sym c.as_mut_slice.ensures.value)
    (full_gathered c.args.side c.args.domain.now.entries c.items.result.now c.clear.new.self.items c.add_entries.new.ranges.items _ _
    c.items.ensures.value c.clear.ensures.items c.in_ok-add_entries.ensures c.in_ok-add_items.ensures.ranges
    c.requires.entries c.in_ok-add_items.ensures.full)
