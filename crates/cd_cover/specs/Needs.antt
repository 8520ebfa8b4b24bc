-- The blocks of a domain's own entries, and needs kept in a list.
use Rattle.std.specs.Prelude.{◌≡◌, ℕ, ◌<◌, ◌≤◌, ◌+◌, ◌*◌, ◌^◌, List, Some, All, length, sum_by, slice_get, slice_index}
use Rattle.cd_tree.specs.declared.domain.NodeId.{NodeId}
use Rattle.cd_tree.specs.declared.domain.Item.{Item}
use Rattle.cd_tree.specs.declared.domain.Item.TheVariants.{Run, Group}
use Rattle.cd_tree.specs.declared.domain.Domain.{Domain}
use Rattle.cd_tree.specs.Domains.{Node, nodes_from}
use Rattle.cd_tree.specs.Limits.{entries_limit, blocks_for}
use Rattle.cd_tree.specs.Meaning.{entry_need, node_need}

abbrev pub own_need : Domain → ℕ
own_need domain = sum_by entry_need domain.entries

-- the blocks of a range of 2^32 words, and one more for a reference
abbrev pub most_entry : ℕ
most_entry = blocks_for (2 ^ 32) + 1

-- as many entries as a domain may have, each of them such a reference
abbrev pub most_own : ℕ
most_own = entries_limit * most_entry

abbrev pub AreSmall : List Domain → Type 0
AreSmall domains = (k : ℕ) (domain : Domain) → slice_get domains k ≡ Some domain → own_need domain ≤ most_own

-- the list has the needs of the domains from a number on
abbrev pub HoldsFrom : List Domain → ℕ → List ℕ → Type 0
HoldsFrom domains from needs =
    (k : ℕ) (d : Node) → from ≤ k → slice_get (nodes_from 0 domains) k ≡ Some d → slice_get needs k ≡ Some (node_need d)

-- what the members of an item need together, by the needs in a list; an operation needs nothing
abbrev pub item_need : List ℕ → Item → ℕ
item_need needs (Run op) = 0
item_need needs (Group ids) = sum_by (λ (id : NodeId). slice_index needs id.0) ids

-- the needs of an item's members are in the list, and their sum has room
abbrev pub CanAdd : List ℕ → Item → Type 0
CanAdd needs (Run op) = Unit {0}
CanAdd needs (Group ids) = All (λ (id : NodeId). id.0 < length needs) ids × (sum_by (λ (id : NodeId). slice_index needs id.0) ids < 2 ^ 64)
