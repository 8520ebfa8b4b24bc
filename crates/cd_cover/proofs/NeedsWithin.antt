-- What members need, and a domain with them.
use Rattle.std.proofs.Common.{◌≡◌, inl, inr, ℕ, zero, suc, ◌+◌, ◌≤◌, max, List, [], ◌∷◌, Option, Some, slice_get, sum_by, refl, sym, ap, ◌∙◌, subst, arith}
use Rattle.std.specs.Option.{option_map_or}
use Rattle.std.specs.List.{Contains}
use Rattle.std.proofs.lemmas.List.Sums.{sum_by-cons}
use Rattle.cd_base.proofs.ListLemmas.{some_of}
use Rattle.cd_tree.specs.declared.domain.NodeId.{NodeId}
use Rattle.cd_tree.specs.declared.domain.Item.{Item}
use Rattle.cd_tree.specs.declared.domain.Item.TheVariants.{Run, Group}
use Rattle.cd_tree.specs.declared.domain.Domain.{Domain}
use Rattle.cd_tree.specs.TreeModel.{FitsItems, NamesChildren}
use Rattle.cd_tree.specs.Domains.{Node, Members, put_first, members_by, body_by, node_of}
use Rattle.cd_tree.specs.Meaning.{node_need, body_need, members_need}
use Rattle.cd_cover.specs.Needs.{own_need}
use Rattle.cd_cover.specs.PlanLaws.{need_of, GroupsNeedWithin, ChildrenNeedWithin}
use Rattle.cd_cover.proofs.Downward.{Known, known_of, view_in, Child, child_of_group, contains_first, contains_cases, contains_none, IsNamed}
use Rattle.cd_cover.proofs.PathLemmas.{child_is_named}

need_there : (domains : List Domain) → Known domains → (id : NodeId) (domain : Domain) → slice_get domains id.0 ≡ Some domain
    → need_of domains id ≡ own_need domain + body_need (body_by (node_of domains) domain.items)
need_there domains all id domain there = ap (λ (o : Option Node). option_map_or node_need o 0) (all.view id domain there)

-- what a group needs is what the first of its members needs, and the others
group_need : (domains : List Domain) → Known domains → (at : ℕ) (first : NodeId) (ids : List NodeId) → NamesChildren domains at (first ∷ ids)
    → members_need (members_by (node_of domains) (first ∷ ids)) ≡ need_of domains first + members_need (members_by (node_of domains) ids)
group_need domains all at first ids named =
    let child : Child domains at first = child_of_group domains at (first ∷ ids) named first (contains_first first ids) in
    let found : node_of domains first ≡ Some (view_in domains first child.domain) = all.view first child.domain child.there in
    let rest : Members = members_by (node_of domains) ids in
    ap (λ (o : Option Node). members_need (put_first o rest)) found
    ∙ ap (λ (o : Option Node). option_map_or node_need o 0 + members_need rest) (sym found)

group_sum : (domains : List Domain) → Known domains → (at : ℕ) (ids : List NodeId) → NamesChildren domains at ids
    → sum_by (need_of domains) ids ≡ members_need (members_by (node_of domains) ids)
group_sum domains all at [] named = refl
group_sum domains all at (first ∷ ids) named =
    sum_by-cons (need_of domains) first ids
    ∙ ap (λ (n : ℕ). need_of domains first + n) (group_sum domains all at ids named.2)
    ∙ sym (group_need domains all at first ids named)

-- one group of a body
group_within : (domains : List Domain) → Known domains → (at : ℕ) (items : List Item) → FitsItems domains at items → (k : ℕ) (ids : List NodeId)
    → slice_get items k ≡ Some (Group ids) → sum_by (need_of domains) ids ≤ body_need (body_by (node_of domains) items)
group_within domains all at [] fits k ids is = absurd (cc)
group_within domains all at (Run op ∷ items) fits zero ids is = absurd (cc)
group_within domains all at (Run op ∷ items) fits (suc k) ids is = group_within domains all at items fits.2 k ids is
group_within domains all at (Group others ∷ items) fits zero ids is =
    let same : others ≡ ids = cc in
    let sum : sum_by (need_of domains) others ≡ members_need (members_by (node_of domains) others) = group_sum domains all at others fits.2 in
    subst
    (λ (xs : List NodeId). sum_by (need_of domains) xs ≤ max (members_need (members_by (node_of domains) others)) (body_need (body_by (node_of domains) items)))
    same (omega arith)
group_within domains all at (Group others ∷ items) fits (suc k) ids is =
    let rest : sum_by (need_of domains) ids ≤ body_need (body_by (node_of domains) items) = group_within domains all at items fits.3 k ids is in
    omega arith

-- one member of a group
member_within : (domains : List Domain) → Known domains → (at : ℕ) (ids : List NodeId) → NamesChildren domains at ids → (id : NodeId)
    → Contains ids id → need_of domains id ≤ members_need (members_by (node_of domains) ids)
member_within domains all at [] named id among = absurd (contains_none id among)
member_within domains all at (first ∷ ids) named id among =
    let need : members_need (members_by (node_of domains) (first ∷ ids)) ≡ need_of domains first + members_need (members_by (node_of domains) ids) =
    group_need domains all at first ids named in
    elim (contains_cases first ids id among) [
      | inl same ↦
          let here : need_of domains first ≡ need_of domains id = ap (need_of domains) same in
          omega arith
      | inr later ↦
          let rest : need_of domains id ≤ members_need (members_by (node_of domains) ids) = member_within domains all at ids named.2 id later in
          omega arith
    ]

named_within : (domains : List Domain) → Known domains → (at : ℕ) (items : List Item) → FitsItems domains at items → (id : NodeId)
    → IsNamed id items → need_of domains id ≤ body_need (body_by (node_of domains) items)
named_within domains all at [] fits id named = absurd named
named_within domains all at (Run op ∷ items) fits id named = named_within domains all at items fits.2 id named
named_within domains all at (Group ids ∷ items) fits id (inl here) =
    let one : need_of domains id ≤ members_need (members_by (node_of domains) ids) = member_within domains all at ids fits.2 id here in
    omega arith
named_within domains all at (Group ids ∷ items) fits id (inr later) =
    let rest : need_of domains id ≤ body_need (body_by (node_of domains) items) = named_within domains all at items fits.3 id later in
    omega arith

pub groups_need_within : GroupsNeedWithin
groups_need_within tree is id domain there k ids group =
    let all : Known tree.domains = known_of tree is in
    let whole : need_of tree.domains id ≡ own_need domain + body_need (body_by (node_of tree.domains) domain.items) =
    need_there tree.domains all id domain there in
    let part : sum_by (need_of tree.domains) ids ≤ body_need (body_by (node_of tree.domains) domain.items) =
    group_within tree.domains all id.0 domain.items (all.fits id domain there) k ids group in
    omega arith

pub children_need_within : ChildrenNeedWithin
children_need_within tree is parent id above here child =
    let all : Known tree.domains = known_of tree is in
    let found = some_of (slice_get tree.domains id.0) (λ domain. domain.parent ≡ Some parent) child in
    let whole : need_of tree.domains parent ≡ own_need above + body_need (body_by (node_of tree.domains) above.items) =
    need_there tree.domains all parent above here in
    let part : need_of tree.domains id ≤ body_need (body_by (node_of tree.domains) above.items) =
    named_within tree.domains all parent.0 above.items (all.fits parent above here) id
    (child_is_named tree is all id parent found.0 found.1 found.2 above here) in
    omega arith
