-- The parts of what a program is that a test of a list of domains asks for together.
use Rattle.std.specs.Prelude.{◌≡◌, ℕ, ◌-◌, ◌<◌, ◌≤◌, List, Option, None, Some, length, slice_get, sum_by}
use Rattle.cd_tree.specs.declared.domain.NodeId.{NodeId}
use Rattle.cd_tree.specs.declared.domain.Domain.{Domain}
use Rattle.cd_tree.specs.declared.kinds.KindName.{KindName}
use Rattle.cd_tree.specs.Limits.{kinds_limit, domains_limit, items_limit, preserves_limit}
use Rattle.cd_tree.specs.Domains.{node, body_by, node_of, numbers_from}

-- some domains, and within the limits on their number and on that of kinds, items and entries
pub record AreFew (kinds : List KindName) (domains : List Domain) : Type 0 where
  pub some : 0 < length domains
  pub few_kinds : length kinds ≤ kinds_limit
  pub few : length domains ≤ domains_limit
  pub items : sum_by (λ (domain : Domain). length domain.items) domains ≤ items_limit
  pub preserves : sum_by (λ (domain : Domain). length domain.entries) domains ≤ preserves_limit

-- domains that a walk can follow: few, and the nested view of each has the body that its own items describe
pub record IsWalkable (domains : List Domain) : Type 0 where
  pub few : length domains ≤ domains_limit
  pub view :
      (id : NodeId) (domain : Domain) → slice_get domains id.0 ≡ Some domain
      → node_of domains id ≡ Some (node id domain (body_by (node_of domains) domain.items))

-- what a walk answers over domains with these numbers and of this depth: the number behind the last, where they are
-- numbered from `at` on and stand in at most `levels` levels; else nothing
abbrev pub WalkGives : List ℕ → ℕ → ℕ → ℕ → Option ℕ → Type 0
WalkGives numbers depth at levels None = (n : ℕ) → numbers ≡ numbers_from at n → levels < depth
WalkGives numbers depth at levels (Some behind) =
    (at ≤ behind) × (numbers ≡ numbers_from at (behind - at)) × (depth ≤ levels)
