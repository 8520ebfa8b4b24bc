use Rattle.cd_cover.proofs.LinksHold.{references_have_links, only_references_have_links}
use Rattle.cd_cover.proofs.laws.references_and_no_others_have_links.Goals as goal

pub returns : goal.returns
returns c = record { references = references_have_links; only = only_references_have_links }
