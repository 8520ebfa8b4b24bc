use Rattle.std.proofs.Common.{rules}
use Rattle.std.proofs.lemmas.List.Sorted.{IsPartitionPoint-from_clause}
use Rattle.cd_tree.specs.Scripts.{strikes_at}
use Rattle.cd_field.proofs.faults.count_at.Goals as goal

pub returns-clause-split : goal.returns-clause-split
returns-clause-split c =
    IsPartitionPoint-from_clause (strikes_at c.args.node c.args.begin c.args.point) _ _ c.partition_point.ensures.partitioned c.requires
    (λ a r q k. search rules)
