-- In a program the parent of every domain but the root stands before it: the walk meets each domain as a child of an
-- earlier one.
use Rattle.std.proofs.Common.{◌≡◌, ℕ, zero, suc, ◌+◌, ◌-◌, ◌<◌, List, [], ◌∷◌, Option, None, Some, IsSomeAnd, length, slice_get, refl, sym, ◌∙◌, subst, arith}
use Rattle.std.proofs.Common.{inl, inr}
use Rattle.std.proofs.lemmas.Bool.{cases_eq}
use Rattle.std.proofs.lemmas.Option.{slice_get_within}
use Rattle.cd_tree.specs.declared.domain.NodeId.{NodeId}
use Rattle.cd_tree.specs.declared.domain.Item.{Item}
use Rattle.cd_tree.specs.declared.domain.Item.TheVariants.{Run, Group}
use Rattle.cd_tree.specs.declared.domain.Domain.{Domain}
use Rattle.cd_tree.specs.declared.kinds.KindName.{KindName}
use Rattle.cd_tree.specs.Domains.{Node, node, Members, put_first, members_by, body_by, nodes_from, root_of, number_of, body_of, node_numbers, body_numbers, member_numbers, numbers_from}
use Rattle.cd_tree.specs.TreeModel.{TreeModel, IsTree, NamesChildren, FitsItems, EachFits}
use Rattle.cd_tree.proofs.View.{held, first_has_none}
use Rattle.cd_base.proofs.ListLemmas.{Each, each_append}
use Rattle.cd_tree.proofs.Numbers.{each_at}

-- the domain of this number is there and has a parent before it
abbrev HasEarlierParent : List Domain → ℕ → Type 0
HasEarlierParent all k = IsSomeAnd (slice_get all k) (λ domain. IsSomeAnd domain.parent (λ parent. parent.0 < k))

-- views numbered from `at` on, below each of which all domains have earlier parents
abbrev Sound : List Domain → ℕ → List Node → Type 0
Sound all at [] = Unit {0}
Sound all at (view ∷ views) = (number_of view ≡ at) × Each (HasEarlierParent all) (body_numbers (body_of view)) × Sound all (suc at) views

sound_at : (all : List Domain) (at : ℕ) (views : List Node) (k : ℕ) (view : Node) → Sound all at views
    → slice_get views k ≡ Some view → (number_of view ≡ at + k) × Each (HasEarlierParent all) (body_numbers (body_of view))
sound_at all at [] k view sound is = absurd (cc)
sound_at all at (first ∷ views) zero view (number, below, sound) is =
    let same : first ≡ view = cc in
    rw (← same) (number ∙ omega arith, below)
sound_at all at (first ∷ views) (suc k) view (number, below, sound) is =
    let there = sound_at all (suc at) views k view sound is in
    (there.0 ∙ omega arith, there.1)

child_parent : (domains : List Domain) (at k : ℕ) (found : Option Domain)
    → IsSomeAnd found (λ child. child.parent ≡ Some (record { 0 = at })) → at < k
    → IsSomeAnd found (λ domain. IsSomeAnd domain.parent (λ parent. parent.0 < k))
child_parent domains at k None is above = is
child_parent domains at k (Some child) is above = rw is above

node_each : (all : List Domain) (view : Node) → HasEarlierParent all (number_of view) → Each (HasEarlierParent all) (body_numbers (body_of view))
    → Each (HasEarlierParent all) (node_numbers view)
node_each all (node id domain body) here below = (here, below)

put_first_each : (all : List Domain) (first : Option Node) (rest : Members)
    → ((view : Node) → first ≡ Some view → Each (HasEarlierParent all) (node_numbers view))
    → Each (HasEarlierParent all) (member_numbers rest) → Each (HasEarlierParent all) (member_numbers (put_first first rest))
put_first_each all None rest each below = below
put_first_each all (Some view) rest each below = each_append (HasEarlierParent all) (node_numbers view) (member_numbers rest) (each view refl) below

-- the members that a group of domain `at` names, among the views behind it
members_each : (all : List Domain) (at : ℕ) (views : List Node) (ids : List NodeId) → Sound all (suc at) views → NamesChildren all at ids
    → Each (HasEarlierParent all) (member_numbers (members_by (λ i. slice_get views (i.0 - suc at)) ids))
members_each all at views [] sound fits = tt
members_each all at views (id ∷ ids) sound (above, child, fits) =
    let seek : NodeId → Option Node = λ i. slice_get views (i.0 - suc at) in
    put_first_each all (seek id) (members_by seek ids)
    (λ view is.
    let there : (number_of view ≡ suc at + (id.0 - suc at)) × Each (HasEarlierParent all) (body_numbers (body_of view)) =
    sound_at all (suc at) views (id.0 - suc at) view sound is in
    let number : number_of view ≡ id.0 = there.0 ∙ omega arith in
    node_each all view
    (subst (HasEarlierParent all) (sym number) (child_parent all at id.0 (slice_get all id.0) child above))
    there.1)
    (members_each all at views ids sound fits)

body_each : (all : List Domain) (at : ℕ) (views : List Node) (items : List Item) → Sound all (suc at) views → FitsItems all at items
    → Each (HasEarlierParent all) (body_numbers (body_by (λ i. slice_get views (i.0 - suc at)) items))
body_each all at views [] sound fits = tt
body_each all at views (Run op ∷ items) sound (full, shape, fits) = body_each all at views items sound fits
body_each all at views (Group ids ∷ items) sound (some, few, named, fits) =
    let seek : NodeId → Option Node = λ i. slice_get views (i.0 - suc at) in
    each_append (HasEarlierParent all) (member_numbers (members_by seek ids)) (body_numbers (body_by seek items))
    (members_each all at views ids sound named) (body_each all at views items sound fits)

views_sound : (kinds : List KindName) (all : List Domain) (at : ℕ) (domains : List Domain) → EachFits kinds all at domains
    → Sound all at (nodes_from at domains)
views_sound kinds all at [] fits = tt
views_sound kinds all at (domain ∷ domains) (here, fits) =
    let later : Sound all (suc at) (nodes_from (suc at) domains) = views_sound kinds all (suc at) domains fits in
    (refl, body_each all at (nodes_from (suc at) domains) domain.items later here.items, later)

-- all domains but the root have earlier parents
below_root : (kinds : List KindName) (all domains : List Domain) (k : ℕ) → EachFits kinds all 0 domains
    → node_numbers (root_of domains) ≡ numbers_from 0 (length domains) → 0 < k → k < length domains → HasEarlierParent all k
below_root kinds all [] k fits preorder some below = absurd (omega arith)
below_root kinds all (domain ∷ domains) k fits preorder some below =
    let sound = views_sound kinds all 0 (domain ∷ domains) fits in
    let rest : body_numbers (body_by (λ i. slice_get (nodes_from 1 domains) (i.0 - 1)) domain.items) ≡ numbers_from 1 (length domains) = cc in
    each_at (HasEarlierParent all) 1 (length domains) k (subst (Each (HasEarlierParent all)) rest sound.1) (omega arith) (omega arith)

-- the parent of a domain stands before it
pub parent_before : (tree : TreeModel) → IsTree tree → (id : NodeId) (domain : Domain) → slice_get tree.domains id.0 ≡ Some domain
    → (parent : NodeId) → domain.parent ≡ Some parent → parent.0 < id.0
parent_before tree is id domain there parent up =
    elim (cases_eq 0 id.0) [
      | inl first ↦
          let none : domain.parent ≡ None = first_has_none tree is id domain there first in
          absurd (cc)
      | inr later ↦
          let earlier : IsSomeAnd domain.parent (λ p. p.0 < id.0) =
          held (λ d. IsSomeAnd d.parent (λ p. p.0 < id.0)) (slice_get tree.domains id.0) domain there
          (below_root tree.kinds tree.domains tree.domains id.0 is.each is.preorder (omega arith)
          (slice_get_within tree.domains id.0 domain there)) in
          subst (λ (o : Option NodeId). IsSomeAnd o (λ p. p.0 < id.0)) up earlier
    ]
