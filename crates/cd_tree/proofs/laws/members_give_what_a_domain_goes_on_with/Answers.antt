use Rattle.cd_tree.proofs.FirstFacts.{members_resume, members_resume_in}
use Rattle.cd_tree.proofs.laws.members_give_what_a_domain_goes_on_with.Goals as goal

pub returns : goal.returns
returns c = record { all = members_resume; places = members_resume_in }
