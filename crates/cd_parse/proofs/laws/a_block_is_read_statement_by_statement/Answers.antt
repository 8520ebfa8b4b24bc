use Rattle.cd_parse.proofs.UnrolledLemmas.{read_in_order, parsed_in_order}
use Rattle.cd_parse.proofs.laws.a_block_is_read_statement_by_statement.Goals as goal

pub returns-clause-block : goal.returns-clause-block
returns-clause-block c = read_in_order

pub returns-clause-text : goal.returns-clause-text
returns-clause-text c = parsed_in_order
