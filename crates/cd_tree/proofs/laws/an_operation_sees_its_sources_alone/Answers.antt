use Rattle.cd_tree.proofs.SameColumns.{column_is_local, operation_is_local, operation_leaves_others, operation_keeps_agreement}
use Rattle.cd_tree.proofs.laws.an_operation_sees_its_sources_alone.Goals as goal

pub returns-clause-column : goal.returns-clause-column
returns-clause-column c = column_is_local

pub returns-clause-acts : goal.returns-clause-acts
returns-clause-acts c = record { written = operation_is_local; others = operation_leaves_others; agreement = operation_keeps_agreement }
