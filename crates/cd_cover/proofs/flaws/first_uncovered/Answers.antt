use Rattle.std.proofs.Common.{◌∙◌}
use Rattle.cd_tree.proofs.View.{domain_fits}
use Rattle.cd_cover.proofs.Coverage.{full_ranges, least_uncovered}
use Rattle.cd_cover.proofs.flaws.first_uncovered.Goals as goal

pub sorting-requires : goal.sorting-requires
sorting-requires c =
    full_ranges c.node.result.now.entries c.items.result.now c.as_mut_slice.result.now c.items.ensures.value
    (c.as_mut_slice.ensures.value ∙ c.in_ok-ranges.ensures)
    (domain_fits c.args.program.now.tree.now c.requires.program.sound c.args.node c.node.result.now c.node.ensures).ranges

pub returns : goal.returns
returns c =
    least_uncovered c.args.program.now.tree.now c.requires.program.sound c.the_nested_view_follows_the_list.ensures c.args.program.now.feet.now c.requires.program.footprints c.args.node
    c.node.result.now c.node.ensures c.items.result.now c.items.ensures.value c.as_mut_slice.result.now
    (c.as_mut_slice.ensures.value ∙ c.in_ok-ranges.ensures) c.in_ok-preserved.preserved c.in_ok-preserved.ensures.places c.reach.result.now
    c.reach.ensures c.first_left_out.result c.first_left_out.ensures
