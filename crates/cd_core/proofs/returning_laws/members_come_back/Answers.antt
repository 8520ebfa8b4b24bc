use Rattle.cd_core.proofs.MembersBack.{members_answer_still, members_can_come_back}
use Rattle.cd_core.proofs.returning_laws.members_come_back.Goals as goal

pub returns-clause-takes : goal.returns-clause-takes
returns-clause-takes c = members_can_come_back c.the_nested_view_follows_the_list.ensures

pub returns-clause-answers : goal.returns-clause-answers
returns-clause-answers c = members_answer_still
