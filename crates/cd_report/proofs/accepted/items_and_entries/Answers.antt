use Rattle.std.proofs.Common.{ap, arith, length}
use Rattle.cd_tree.specs.declared.domain.Domain.{Domain}
use Rattle.cd_report.proofs.CountLemmas.{count_within, count_next}
use Rattle.cd_report.proofs.accepted.items_and_entries.Goals as goal

pub overflow_add-items : goal.overflow_add-items
overflow_add-items c =
    omega (arith, c.loop-k.invariant.items, c.requires.tree.items, count_within (λ (domain : Domain). length domain.items) c.args.tree.now.domains c.loop-k.k c.node-domain.result.now c.node-domain.ensures)

pub overflow_add-entries : goal.overflow_add-entries
overflow_add-entries c =
    omega (arith, c.loop-k.invariant.entries, c.requires.tree.preserves, count_within (λ (domain : Domain). length domain.entries) c.args.tree.now.domains c.loop-k.k c.node-domain.result.now c.node-domain.ensures)

pub loop-k-preserved : goal.loop-k-preserved
loop-k-preserved c = record {
  items = count_next (λ (domain : Domain). length domain.items) c.args.tree.now.domains c.loop-k.k c.node-domain.result.now (length c.items.result.now) c.loop-k.items c.node-domain.ensures c.loop-k.invariant.items (ap length c.items.ensures.value);
  entries = count_next (λ (domain : Domain). length domain.entries) c.args.tree.now.domains c.loop-k.k c.node-domain.result.now (length c.items-in-loop-k.result.now) c.loop-k.entries c.node-domain.ensures c.loop-k.invariant.entries (ap length c.items-in-loop-k.ensures.value);
}
