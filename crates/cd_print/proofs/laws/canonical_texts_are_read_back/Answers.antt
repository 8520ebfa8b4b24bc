use Rattle.cd_print.proofs.ReadBack.{read_back, lifted_read_back}
use Rattle.cd_print.proofs.laws.canonical_texts_are_read_back.Goals as goal

pub returns-clause-document : goal.returns-clause-document
returns-clause-document c =
    λ bytes document parsed.
    read_back c.the_nested_view_follows_the_list.ensures document (c.a_document_is_well_read.ensures bytes document parsed)

pub returns-clause-lifted : goal.returns-clause-lifted
returns-clause-lifted c =
    λ bytes document parsed.
    lifted_read_back c.the_nested_view_follows_the_list.ensures document (c.a_document_is_well_read.ensures bytes document parsed)
