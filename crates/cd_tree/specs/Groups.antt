-- The group of its parent in which a child stands, and its place in that group.
use Rattle.std.specs.Prelude.{◌≡◌, ℕ, List, Option, None, Some, slice_get, IsSomeAnd}
use Rattle.cd_tree.specs.declared.domain.NodeId.{NodeId}
use Rattle.cd_tree.specs.declared.domain.Item.{Item}
use Rattle.cd_tree.specs.declared.domain.Item.TheVariants.{Run, Group}
use Rattle.cd_tree.specs.declared.domain.Domain.{Domain}
use Rattle.cd_tree.specs.declared.groups.GroupPlace.{GroupPlace}

-- an item is a group whose member of this number is this domain
abbrev pub HasMember : Item → ℕ → NodeId → Type 0
HasMember (Run op) member id = ⊥
HasMember (Group ids) member id = slice_get ids member ≡ Some id

-- a domain stands at a place of these items
abbrev pub StandsAt : List Item → NodeId → ℕ → ℕ → Type 0
StandsAt items id item member = IsSomeAnd (slice_get items item) (λ it. HasMember it member id)

-- a domain stands at a place of the items of another
abbrev pub StandsIn : List Domain → NodeId → NodeId → GroupPlace → Type 0
StandsIn domains parent id at = IsSomeAnd (slice_get domains parent.0) (λ above. StandsAt above.items id at.item at.member)

-- where a domain stands under its parent; what has no parent stands nowhere
abbrev pub IsPlaceUnder : List Domain → Option NodeId → NodeId → Option GroupPlace → Type 0
IsPlaceUnder domains None id place = place ≡ None
IsPlaceUnder domains (Some parent) id place = IsSomeAnd place (StandsIn domains parent id)

-- where the domain of this number stands
abbrev pub IsPlaceOf : List Domain → NodeId → Option GroupPlace → Type 0
IsPlaceOf domains id place = IsSomeAnd (slice_get domains id.0) (λ domain. IsPlaceUnder domains domain.parent id place)
