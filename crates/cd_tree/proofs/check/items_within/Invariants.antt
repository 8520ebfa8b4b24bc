use Rattle.std.proofs.Common.{◌↔◌, ◌≤◌, length, drop, sum_by}
use Rattle.cd_tree.specs.declared.domain.Domain.{Domain}
use Rattle.cd_tree.proofs.check.items_within.Given as goal

-- what is left of the sum is within what is left of the limit
abbrev pub invariant-loop-domain : goal.invariant-loop-domain
invariant-loop-domain l =
    (sum_by (λ (domain : Domain). length domain.items) (drop l.domain-index l.domains) ≤ l.left)
    ↔ (sum_by (λ (domain : Domain). length domain.items) l.domains ≤ l.fn.most)
