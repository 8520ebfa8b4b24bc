-- Subtrees as slices of the list of domains: how many domains stand in one, where its slice ends, how slices follow.
use Rattle.std.specs.Prelude.{◌≡◌, ℕ, suc, ◌+◌, ◌<◌, ◌==◌, Bool, false, ◌||◌, ◌&&◌, nat_le, nat_lt, List, [], ◌∷◌, ◌++◌, length}
use Rattle.std.specs.Option.{option_map_or}
use Rattle.cd_tree.specs.declared.domain.NodeId.{NodeId}
use Rattle.cd_tree.specs.declared.domain.Item.{Item}
use Rattle.cd_tree.specs.declared.domain.Item.TheVariants.{Run, Group}
use Rattle.cd_tree.specs.declared.domain.Domain.{Domain}
use Rattle.cd_tree.specs.Domains.{Node, Body, Members, node, stop, run, group, no_more, member, number_of, node_of, node_numbers, member_numbers, numbers_from}

-- how many domains a domain and those below it are
abbrev pub node_size : Node → ℕ
node_size d = length (node_numbers d)

abbrev pub members_size : Members → ℕ
members_size members = length (member_numbers members)

-- the numbers of a domain and of those below it follow each other from its own on
abbrev pub IsSlice : Node → Type 0
IsSlice d = node_numbers d ≡ numbers_from (number_of d) (length (node_numbers d))

-- whether a number is one of these
abbrev pub among : List ℕ → ℕ → Bool
among [] n = false
among (number ∷ numbers) n = (n == number) || among numbers n

-- whether a number is one of `size` numbers from `at` on
abbrev pub in_slice : ℕ → ℕ → ℕ → Bool
in_slice at size n = nat_le at n && nat_lt n (at + size)

-- the number behind those of a domain and of all below it
abbrev pub slice_end : List Domain → NodeId → ℕ
slice_end domains id = id.0 + option_map_or node_size (node_of domains id) 0

-- members whose slices follow each other from a number on
abbrev pub MembersFollow : ℕ → Members → Type 0
MembersFollow at no_more = Unit {0}
MembersFollow at (member first rest) = (number_of first ≡ at) × MembersFollow (at + node_size first) rest

-- the members of a body, group after group
abbrev pub GroupsFollow : ℕ → Body → Type 0
GroupsFollow at stop = Unit {0}
GroupsFollow at (run op rest) = GroupsFollow at rest
GroupsFollow at (group members rest) = MembersFollow at members × GroupsFollow (at + members_size members) rest

-- the children that items name, in order
abbrev pub children_in : List Item → List NodeId
children_in [] = []
children_in (Run op ∷ items) = children_in items
children_in (Group ids ∷ items) = ids ++ children_in items

-- the slices of these domains, none of them empty, follow each other from a number to an end
abbrev pub FillSlice : List Domain → ℕ → List NodeId → ℕ → Type 0
FillSlice domains at [] end = at ≡ end
FillSlice domains at (id ∷ ids) end = (id.0 ≡ at) × (at < slice_end domains id) × FillSlice domains (slice_end domains id) ids end
