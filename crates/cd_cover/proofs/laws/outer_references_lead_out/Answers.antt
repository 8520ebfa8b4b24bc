use Rattle.cd_cover.proofs.OuterWhich.{outer_are_these, outer_are_references}
use Rattle.cd_cover.proofs.OuterLemmas.{outer_in_order}
use Rattle.cd_cover.proofs.OuterAscend.{outer_ascend}
use Rattle.cd_cover.proofs.laws.outer_references_lead_out.Goals as goal

pub returns : goal.returns
returns c = record { these = outer_are_these; references = outer_are_references; order = outer_in_order; ascend = outer_ascend }
