use Rattle.cd_cover.proofs.LinkLemmas.{links_lead}
use Rattle.cd_cover.proofs.laws.links_lead_to_what_is_kept.Goals as goal

pub returns : goal.returns
returns c = links_lead
