use Rattle.cd_core.proofs.SentFit.{groups_can_be_sent}
use Rattle.cd_core.proofs.sending_laws.groups_can_be_sent.Goals as goal

pub returns : goal.returns
returns c = groups_can_be_sent (record {
  more = c.laws_below.ensures;
  disjoint = c.each_domain_is_as_its_program.ensures.disjoint;
  fill = c.children_fill_slices.ensures.fill;
  needs = c.groups_need_no_more_than_their_domain.ensures.groups;
})
