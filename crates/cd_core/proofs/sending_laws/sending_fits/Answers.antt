use Rattle.cd_core.proofs.LinksBelow.{OuterLaws}
use Rattle.cd_core.proofs.SentFit.{SendingLaws, sending_fits}
use Rattle.cd_core.proofs.sending_laws.sending_fits.Goals as goal

pub returns : goal.returns
returns c =
    let groups : SendingLaws = record {
      more = c.laws_below.ensures;
      disjoint = c.each_domain_is_as_its_program.ensures.disjoint;
      fill = c.children_fill_slices.ensures.fill;
      needs = c.groups_need_no_more_than_their_domain.ensures.groups;
    } in
    let outer : OuterLaws = record {
      these = c.laws_below.ensures.outer;
      references = c.outer_references_lead_out.ensures.references;
      links = c.laws_below.ensures.links;
      members = c.outer_references_of_members.ensures.members;
    } in
    sending_fits groups outer
