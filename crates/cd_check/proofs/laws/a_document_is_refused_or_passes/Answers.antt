use Rattle.cd_check.proofs.ThereLemmas.{document_judged}
use Rattle.cd_check.proofs.laws.a_document_is_refused_or_passes.Goals as goal

pub returns : goal.returns
returns c =
    document_judged c.a_program_has_a_first_overlap_or_none.ensures c.a_program_without_overlaps_is_disjoint.ensures
    c.a_program_has_a_first_flaw_or_none.ensures c.a_script_has_an_answer.ensures.refusal c.a_script_has_an_answer.ensures.script
