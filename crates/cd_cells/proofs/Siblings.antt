-- The group in which a domain is a member, as it is found: by its place among its parent's items.
use Rattle.std.proofs.Common.{◌≡◌, ℕ, zero, suc, ◌<◌, ◌≤◌, ◌==◌, Bool, if◌then◌else◌, lit≤, List, [], ◌∷◌, Option, None, Some, length, get_or, slice_get, refl, ap, sym, subst, ◌∙◌, arith}
use Rattle.std.proofs.lemmas.Bool.{eq-eqb}
use Rattle.std.specs.Option.{option_map_or}
use Rattle.std.proofs.lemmas.List.{length-map}
use Rattle.std.proofs.lemmas.Option.{slice_get-get_or, slice_get_within}
use Rattle.cd_base.proofs.BoolLemmas.{by_test}
use Rattle.cd_base.proofs.ListLemmas.{some_of}
use Rattle.cd_tree.specs.declared.domain.Domain.{Domain}
use Rattle.cd_tree.specs.declared.domain.Item.{Item}
use Rattle.cd_tree.specs.declared.domain.Item.TheVariants.{Run, Group}
use Rattle.cd_tree.specs.declared.domain.NodeId.{NodeId}
use Rattle.cd_tree.specs.declared.groups.GroupPlace.{GroupPlace}
use Rattle.cd_tree.specs.Groups.{HasMember, IsPlaceOf, IsPlaceUnder, StandsAt}
use Rattle.cd_tree.specs.SliceLaws.{ChildrenStandOnce, MembersAreChildren}
use Rattle.cd_tree.specs.Limits.{members_limit}
use Rattle.cd_tree.specs.Slices.{among}
use Rattle.cd_tree.specs.TreeModel.{FitsItems}
use Rattle.cd_tree.proofs.Named.{Stands, stands_somewhere}
use Rattle.cd_tree.proofs.View.{domain_fits, held}
use Rattle.cd_cover.specs.Plans.{PlanModel, IsPlan}
use Rattle.cd_cells.specs.Listing.{often, one_if}
use Rattle.cd_cells.specs.States.{group_having, numbers_of, parent_of, siblings_of}
use Rattle.cd_cells.proofs.StatesLawful.{member_so}

never : {A : Type 0} {x : A} → ◌≡◌ {A = Option A} None (Some x) → ⊥
never e = cc

-- all but the root have a parent
pub has_parent : MembersAreChildren → (plan : PlanModel) (m : ℕ) (domain : Domain) → IsPlan plan → slice_get plan.tree.domains m ≡ Some domain
    → domain.parent ≡ None → 0 < m → ⊥
has_parent children plan m domain is_plan listed none above =
    let s : Stands plan.tree.domains m =
    stands_somewhere plan.tree is_plan.program m above (slice_get_within plan.tree.domains m domain listed) in
    let child = children plan.tree is_plan.program s.parent (record { 0 = m }) s.place s.stands in
    let own : domain.parent ≡ Some s.parent = held (λ (d : Domain). d.parent ≡ Some s.parent) (slice_get plan.tree.domains m) domain listed child.1 in
    never (sym none ∙ own)

often_at : (ids : List NodeId) (k : ℕ) (id : NodeId) → slice_get ids k ≡ Some id → 0 < often id.0 (numbers_of ids)
often_at [] k id is = absurd (cc)
often_at (first ∷ ids) zero id is =
    let same : first ≡ id = cc in
    let one : one_if (first.0 == id.0) ≡ 1 = ap one_if (eq-eqb first.0 id.0 (ap (λ (x : NodeId). x.0) same)) in
    omega (arith, one)
often_at (first ∷ ids) (suc k) id is = let rest : 0 < often id.0 (numbers_of ids) = often_at ids k id is in omega (arith, rest)

pub group_found : ChildrenStandOnce → MembersAreChildren → (plan : PlanModel) (parent id : NodeId) (domain : Domain) (item k : ℕ) (ids : List NodeId) → IsPlan plan
    → slice_get plan.tree.domains parent.0 ≡ Some domain → slice_get domain.items item ≡ Some (Group ids) → slice_get ids k ≡ Some id
    → siblings_of plan id.0 ≡ numbers_of ids
group_found once children plan parent id domain item k ids is_plan listed group is =
    (member_so once children plan parent ids is_plan (record { domain = domain; listed = listed; point = item; group = group }) id.0 (often_at ids k id is)).4

-- where a child stands among its parent's items
pub place_so : (domains : List Domain) (id parent : NodeId) (domain above : Domain) (place : GroupPlace) → slice_get domains id.0 ≡ Some domain
    → domain.parent ≡ Some parent → slice_get domains parent.0 ≡ Some above → IsPlaceOf domains id (Some place)
    → StandsAt above.items id place.item place.member
place_so domains id parent domain above place listed up there is =
    let U : Option NodeId → Type 0 = λ o. IsPlaceUnder domains o id (Some place) in
    let under : IsPlaceUnder domains (Some parent) id (Some place) =
    subst U up (held (λ (d : Domain). IsPlaceUnder domains d.parent id (Some place)) (slice_get domains id.0) domain listed is) in
    held (λ (d : Domain). StandsAt d.items id place.item place.member) (slice_get domains parent.0) above there under

pub item_within : (items : List Item) (id : NodeId) (item member : ℕ) → StandsAt items id item member → item < length items
item_within items id item member stands =
    let found = some_of (slice_get items item) (λ (it : Item). HasMember it member id) stands in
    slice_get_within items item found.0 found.1

pub member_there : (items : List Item) (id : NodeId) (item member : ℕ) (it : Item) → slice_get items item ≡ Some it → StandsAt items id item member
    → HasMember it member id
member_there items id item member it is stands =
    let found = some_of (slice_get items item) (λ (x : Item). HasMember x member id) stands in
    let both : ◌≡◌ {A = Option Item} (Some found.0) (Some it) = sym found.1 ∙ is in
    let same : found.0 ≡ it = cc in
    subst (λ (x : Item). HasMember x member id) same found.2

-- the item at an index
pub at_index : (items shown : List Item) (item : ℕ) (found what : Item) → shown ≡ items → item < length items → found ≡ get_or shown item found
    → found ≡ what → slice_get items item ≡ Some what
at_index items shown item found what same within is what_is =
    slice_get-get_or items item found within
    ∙ ap (λ (x : Item). Some x) (ap (λ (xs : List Item). get_or xs item found) (sym same) ∙ sym is ∙ what_is)

-- ---- how many

group_short : (domains : List Domain) (at : ℕ) (items : List Item) (m : ℕ) → FitsItems domains at items → length (group_having items m) ≤ members_limit
group_short domains at [] m fits = lit≤ tt
group_short domains at (Run op ∷ items) m fits = group_short domains at items m fits.2
group_short domains at (Group ids ∷ items) m fits =
    let S : List ℕ → Type 0 = λ g. length g ≤ members_limit in
    let either : Bool → List ℕ = λ b. if b then numbers_of ids else group_having items m in
    by_test (among (numbers_of ids) m)
    (λ e. (
    let long : length (numbers_of ids) ≡ length ids = length-map ids (λ (id : NodeId). id.0) in
    let few : length ids ≤ members_limit = fits.1 in
    subst S (sym (ap either e)) (subst (λ (n : ℕ). n ≤ members_limit) (sym long) few)
    ))
    (λ e. subst S (sym (ap either e)) (group_short domains at items m fits.3))

pub siblings_short : (plan : PlanModel) (m : ℕ) → IsPlan plan → length (siblings_of plan m) ≤ members_limit
siblings_short plan m is_plan = by_above (slice_get plan.tree.domains (parent_of plan m)) refl
  where
    by_above : (o : Option Domain) → slice_get plan.tree.domains (parent_of plan m) ≡ o
        → length (option_map_or (λ (above : Domain). group_having above.items m) o []) ≤ members_limit
    by_above None none = lit≤ tt
    by_above (Some above) is =
        group_short plan.tree.domains (parent_of plan m) above.items m
        (domain_fits plan.tree is_plan.program (record { 0 = parent_of plan m }) above is).items
