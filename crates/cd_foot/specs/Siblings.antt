-- The pairs of siblings, item by item, and what is refused of one pair by the numbers at hand.
use Rattle.std.specs.Prelude.{◌≡◌, List, [], Option, None, Some}
use Rattle.cd_base.specs.Places.{IsLeast}
use Rattle.cd_tree.specs.declared.domain.NodeId.{NodeId}
use Rattle.cd_tree.specs.declared.domain.Item.{Item}
use Rattle.cd_tree.specs.declared.domain.Item.TheVariants.{Run, Group}
use Rattle.cd_tree.specs.declared.refusal.Refusal.{Refusal}
use Rattle.cd_tree.specs.declared.refusal.Refusal.TheVariants.{Overlap}
use Rattle.cd_tree.specs.Domains.{Node, members_by}
use Rattle.cd_tree.specs.Meaning.{clash, DoNotClash}
use Rattle.cd_foot.specs.Overlaps.{pairs_among}

-- two members of an item, each found by its number
abbrev pub item_pairs : (NodeId → Option Node) → Item → List (Node × Node)
item_pairs find (Run op) = []
item_pairs find (Group ids) = pairs_among (members_by find ids)

-- what is refused of two members, the first and the second by these numbers
abbrev pub PairOf : NodeId → NodeId → Node → Node → Option Refusal → Type 0
PairOf one other d e None = DoNotClash d e
PairOf one other d e (Some (Overlap a b place)) = (a ≡ one) × (b ≡ other) × IsLeast (clash d e) (Some place)
PairOf one other d e (Some _) = ⊥
