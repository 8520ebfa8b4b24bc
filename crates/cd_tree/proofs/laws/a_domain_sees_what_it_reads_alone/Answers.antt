use Rattle.cd_tree.proofs.SeesReads.{meaning_is_local, node_leaves, node_keeps, agreement_in_entries}
use Rattle.cd_tree.proofs.laws.a_domain_sees_what_it_reads_alone.Goals as goal

pub returns-clause-acts : goal.returns-clause-acts
returns-clause-acts c = record { written = meaning_is_local; others = node_leaves; agreement = node_keeps }

pub returns-clause-entries : goal.returns-clause-entries
returns-clause-entries c = agreement_in_entries
