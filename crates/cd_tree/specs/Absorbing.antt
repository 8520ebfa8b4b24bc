-- The words after a group, from what its members give: place by place, in whatever order they are taken.
use Rattle.std.specs.Prelude.{◌≡◌, ◌⊎◌, ◌↔◌, true, false, List, [], ◌∷◌}
use Rattle.cd_base.specs.declared.place.Place.{Place}
use Rattle.cd_base.specs.Words.{Words}
use Rattle.cd_tree.specs.Domains.{Node, Members, no_more, member}
use Rattle.cd_tree.specs.Meaning.{node_reach, node_writes, node_meaning, member_writes, members_meaning, written, DoNotClash, MembersApart}
use Rattle.cd_tree.specs.Locality.{SameWords}

-- a member of a group
abbrev pub IsMember : Node → Members → Type 0
IsMember d no_more = ⊥
IsMember d (member first rest) = (d ≡ first) ⊎ IsMember d rest

-- each member gives words, which in the places that it writes are those of its meaning from the words before the group
abbrev pub GiveMeanings : Members → Words → List Words → Type 0
GiveMeanings no_more before given = Unit {0}
GiveMeanings (member first rest) before [] = ⊥
GiveMeanings (member first rest) before (one ∷ given) =
    SameWords (node_writes first) one (node_meaning first before) × GiveMeanings rest before given

-- these words with what the members give, one member after another, each in the places that it writes
abbrev pub absorbed : Members → List Words → Words → Words
absorbed no_more given w = w
absorbed (member first rest) [] w = w
absorbed (member first rest) (one ∷ given) w = absorbed rest given (written (node_writes first) one w)

-- absorbing what the members of a group give leaves the words after the group
abbrev pub AbsorbingIsMeaning : Type 0
AbsorbingIsMeaning =
    (members : Members) (before after : Words) (given : List Words) → GiveMeanings members before given
    → absorbed members given after ≡ members_meaning members before after

-- one member at a time: what is left of the group gives the words after it
abbrev pub AbsorbingOne : Type 0
AbsorbingOne =
    (first : Node) (rest : Members) (before after one : Words) → SameWords (node_writes first) one (node_meaning first before)
    → members_meaning rest before (written (node_writes first) one after) ≡ members_meaning (member first rest) before after

-- where members are apart, each place that one writes has the word of that member's meaning after the group
abbrev pub MembersGiveTheirOwn : Type 0
MembersGiveTheirOwn =
    (members : Members) (d : Node) (before after : Words) → MembersApart members → IsMember d members
    → SameWords (node_writes d) (members_meaning members before after) (node_meaning d before)

-- a place that no member writes keeps its word
abbrev pub GroupLeavesOthers : Type 0
GroupLeavesOthers =
    (members : Members) (before after : Words) (p : Place) → member_writes members p ≡ false → members_meaning members before after p ≡ after p

-- a group writes the places that one of its members writes
abbrev pub GroupWritesByMembers : Type 0
GroupWritesByMembers =
    (members : Members) (p : Place) → (member_writes members p ≡ true) ↔ ((d : Node) × IsMember d members × (node_writes d p ≡ true))

-- groups of the same members, which are apart, have the same meaning, whatever their order
abbrev pub OrderDoesNotMatter : Type 0
OrderDoesNotMatter =
    (members others : Members) (before after : Words) → MembersApart members → ((d : Node) → IsMember d members ↔ IsMember d others)
    → members_meaning members before after ≡ members_meaning others before after

-- a domain sees nothing of what one that is apart from it has written
abbrev pub ApartIsUnseen : Type 0
ApartIsUnseen =
    (one other : Node) (given w : Words) → DoNotClash one other → SameWords (node_reach other) (written (node_writes one) given w) w
