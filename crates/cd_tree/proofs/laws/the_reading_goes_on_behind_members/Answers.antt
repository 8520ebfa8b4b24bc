use Rattle.cd_tree.proofs.FrontsWait.{members_lead, passes_groups, stops_at_groups}
use Rattle.cd_tree.proofs.laws.the_reading_goes_on_behind_members.Goals as goal

pub returns : goal.returns
returns c = record { leads = members_lead; done = passes_groups; escalated = stops_at_groups }
