-- What the walk over a program's domains follows: nodes by their numbers, counts as lists, items one by one.
use Rattle.std.specs.Prelude.{ℕ, ◌<◌, ◌^◌, List, Option, unwrap_or, slice_index}
use Rattle.cd_tree.specs.declared.domain.NodeId.{NodeId}
use Rattle.cd_tree.specs.declared.domain.Item.{Item}
use Rattle.cd_tree.specs.declared.domain.Item.TheVariants.{Run, Group}
use Rattle.cd_tree.specs.declared.domain.Domain.{Domain}
use Rattle.cd_tree.specs.Domains.{Node, members_by, node_of, root_of}
use Rattle.cd_tree.specs.Reading.{Case, Counts, Told, TryEnd, Try, behind_group, read_members}

-- the nested view of the domain with this number; a number that no domain has stands for the root
abbrev pub the_node : List Domain → NodeId → Node
the_node domains id = unwrap_or (node_of domains id) (root_of domains)

-- counts in a list, by the domains' numbers
abbrev pub listed : List ℕ → Counts
listed counts = λ n. slice_index counts n

-- each count fits its type
abbrev pub AreCounts : Counts → Type 0
AreCounts counts = (n : ℕ) → counts n < 2 ^ 64

-- a try from behind a point on: its item, and then the rest
abbrev pub item_read : Case → Try → (NodeId → Option Node) → Item → ℕ → Counts → (ℕ → Counts → Told TryEnd) → Told TryEnd
item_read w h find (Run op) notes counts next = next notes counts
item_read w h find (Group ids) notes counts next = behind_group h notes (read_members w (members_by find ids) counts) next

-- the counts behind an item
abbrev pub item_counts : Case → (NodeId → Option Node) → Item → Counts → Counts
item_counts w find (Run op) counts = counts
item_counts w find (Group ids) counts = (read_members w (members_by find ids) counts).counts
