use Rattle.cd_core.proofs.FitsTaken.{resuming_fits}
use Rattle.cd_core.proofs.taking_laws.resuming_fits.Goals as goal

pub returns : goal.returns
returns c =
    resuming_fits (record {
      follows = c.the_nested_view_follows_the_list.ensures;
      disjoint = c.each_domain_is_as_its_program.ensures.disjoint;
      slices = c.subtrees_are_slices.ensures.members;
      group = c.a_body_follows_its_items.ensures.group;
    })
