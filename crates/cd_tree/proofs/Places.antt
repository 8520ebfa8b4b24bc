-- A domain that has a parent stands in one of its groups, and a search among the parent's items finds it there.
use Rattle.std.proofs.Common.{◌≡◌, ℕ, ◌<◌, List, Option, None, Some, IsSomeAnd, MatchOption, slice_get, refl, ap, sym, ◌∙◌, subst}
use Rattle.cd_tree.specs.declared.domain.NodeId.{NodeId}
use Rattle.cd_tree.specs.declared.domain.Item.{Item}
use Rattle.cd_tree.specs.declared.domain.Domain.{Domain}
use Rattle.cd_tree.specs.declared.groups.GroupPlace.{GroupPlace}
use Rattle.cd_tree.specs.TreeModel.{TreeModel, IsTree}
use Rattle.cd_tree.specs.Groups.{StandsAt, StandsIn, IsPlaceUnder, IsPlaceOf}
use Rattle.cd_tree.proofs.Named.{children_stand}

-- what a search among items finds
abbrev pub Finds : List Item → NodeId → Option GroupPlace → Type 0
Finds items id found = MatchOption found ((item member : ℕ) → StandsAt items id item member → ⊥) (λ at. StandsAt items id at.item at.member)

stands_by : (domains : List Domain) (parent id : NodeId) (above : Domain) (items : List Item) (at : GroupPlace)
    → slice_get domains parent.0 ≡ Some above → items ≡ above.items → StandsAt items id at.item at.member → StandsIn domains parent id at
stands_by domains parent id above items at there same stands =
    subst (λ (o : Option Domain). IsSomeAnd o (λ d. StandsAt d.items id at.item at.member)) (sym there)
    (subst (λ (those : List Item). StandsAt those id at.item at.member) same stands)

stands_at : (domains : List Domain) (parent id : NodeId) (above : Domain) (items : List Item) (at : GroupPlace)
    → slice_get domains parent.0 ≡ Some above → items ≡ above.items → StandsIn domains parent id at → StandsAt items id at.item at.member
stands_at domains parent id above items at there same stands =
    subst (λ (those : List Item). StandsAt those id at.item at.member) (sym same)
    (subst (λ (o : Option Domain). IsSomeAnd o (λ d. StandsAt d.items id at.item at.member)) there stands)

found_under : (domains : List Domain) (parent id : NodeId) (above : Domain) (items : List Item) (found : Option GroupPlace)
    → slice_get domains parent.0 ≡ Some above → items ≡ above.items → (at : GroupPlace) × StandsIn domains parent id at
    → Finds items id found → IsSomeAnd found (StandsIn domains parent id)
found_under domains parent id above items None there same (at, stands) finds =
    absurd (finds at.item at.member (stands_at domains parent id above items at there same stands))
found_under domains parent id above items (Some place) there same stands finds =
    stands_by domains parent id above items place there same finds

pub place_found : (tree : TreeModel) → IsTree tree → (id parent : NodeId) (domain above : Domain) (items : List Item) (found : Option GroupPlace)
    → slice_get tree.domains id.0 ≡ Some domain → domain.parent ≡ Some parent → slice_get tree.domains parent.0 ≡ Some above
    → items ≡ above.items → Finds items id found → IsPlaceOf tree.domains id found
place_found tree is id parent domain above items found there up over same finds =
    let place : IsPlaceUnder tree.domains domain.parent id found =
    subst (λ (o : Option NodeId). IsPlaceUnder tree.domains o id found) (sym up)
    (found_under tree.domains parent id above items found over same (children_stand tree is id parent domain there up) finds) in
    subst (λ (o : Option Domain). IsSomeAnd o (λ d. IsPlaceUnder tree.domains d.parent id found)) (sym there) place
