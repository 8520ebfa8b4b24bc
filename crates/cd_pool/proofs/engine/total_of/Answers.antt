use Rattle.std.proofs.Common.{length, ap, sym, ◌∙◌}
use Rattle.cd_tree.specs.TreeModel.{TreeModel}
use Rattle.cd_pool.proofs.CountLemmas.{committed_each, exhausted_each}
use Rattle.cd_pool.proofs.engine.total_of.Goals as goal

pub sum_of-requires : goal.sum_of-requires
sum_of-requires g c =
    committed_each g.F.Field.model c.args.plan.now c.requires.0 c.args.outcome.now c.in-Committed.field-0 c.in-Committed.begins
    c.tree.ensures.sound c.requires.1 c.in-Committed.is
    ∙ sym (c.count-count.ensures.value ∙ ap (λ (tree : TreeModel). length tree.domains) c.tree.ensures.value)

pub sum_of-requires-in-Exhausted : goal.sum_of-requires-in-Exhausted
sum_of-requires-in-Exhausted g c =
    exhausted_each g.F.Field.model c.args.plan.now c.requires.0 c.args.outcome.now c.in-Exhausted.field-0 c.in-Exhausted.begins
    c.in-Exhausted.field-2 c.tree.ensures.sound c.requires.1 c.in-Exhausted.is
    ∙ sym (c.count-count.ensures.value ∙ ap (λ (tree : TreeModel). length tree.domains) c.tree.ensures.value)
