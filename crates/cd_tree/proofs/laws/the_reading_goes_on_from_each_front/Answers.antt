use Rattle.cd_tree.proofs.FrontsStand.{fronts_lead, records_begin}
use Rattle.cd_tree.proofs.laws.the_reading_goes_on_from_each_front.Goals as goal

pub returns : goal.returns
returns c = record { leads = fronts_lead; events = records_begin }
