use Rattle.std.specs.Arc.{arc_value}
use Rattle.cd_field.proofs.RegionLemmas.{part_of_part}
use Rattle.cd_field.proofs.region_words.part_of.Goals as goal

pub returns : goal.returns
returns c =
    let same = c.in_ok-all.ensures in
    rw same (part_of_part (arc_value c.args.shared.now.all).items c.args.shared.now.first c.args.shared.now.count c.args.first c.args.count c.requires)
