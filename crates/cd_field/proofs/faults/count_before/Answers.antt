use Rattle.std.proofs.Common.{rules}
use Rattle.std.proofs.lemmas.List.Sorted.{IsPartitionPoint-from_clause}
use Rattle.cd_field.specs.FaultOrder.{strikes_before}
use Rattle.cd_field.proofs.FaultLemmas.{before_first}
use Rattle.cd_field.proofs.faults.count_before.Goals as goal

pub returns-clause-split : goal.returns-clause-split
returns-clause-split c =
    IsPartitionPoint-from_clause (strikes_before c.args.node c.args.begin c.args.point) _ _ c.partition_point.ensures.partitioned
    (before_first c.args.order.now c.args.node c.args.begin c.args.point c.requires) (λ a r q k. search rules)
