-- In a program each member of a domain has it as its parent, and so no begin in the record is wrong.
use Rattle.std.proofs.Common.{◌≡◌, ℕ, ◌≤◌, Bool, true, false, List, [], ◌∷◌, Option, None, Some, IsSomeAnd, length, slice_get, option_and_then, refl, ap, sym, ◌∙◌, subst, arith, ◌==◌}
use Rattle.cd_tree.specs.declared.domain.NodeId.{NodeId}
use Rattle.cd_tree.specs.declared.domain.Item.{Item}
use Rattle.cd_tree.specs.declared.domain.Item.TheVariants.{Run, Group}
use Rattle.cd_tree.specs.declared.domain.Domain.{Domain}
use Rattle.cd_tree.specs.declared.document.Fault.{Fault}
use Rattle.cd_tree.specs.Domains.{Node, Members, put_first, members_by, body_by, node_of, root_of, number_of, node_numbers, numbers_from}
use Rattle.cd_tree.specs.TreeModel.{TreeModel, IsTree, NamesChildren, FitsItems}
use Rattle.cd_tree.specs.Reading.{no_begins}
use Rattle.cd_tree.specs.Record.{case_of, record_of}
use Rattle.cd_tree.specs.Begins.{HasParent}
use Rattle.cd_tree.specs.Laws.{OfEach}
use Rattle.cd_tree.specs.CountLaws.{copies}
use Rattle.cd_tree.proofs.Numbers.{copies-at_most_one}
use Rattle.cd_tree.proofs.View.{domain_fits}
use Rattle.cd_tree.proofs.EachDomain.{from_each, number_there, Behind, behind_view}
use Rattle.cd_tree.proofs.BeginsParts.{state_behind}
use Rattle.cd_tree.proofs.BeginsStates.{ready, along, IsRight, IsFit}
use Rattle.cd_tree.proofs.BeginsOwn.{MembersUnder, BodyUnder, IsParent}
use Rattle.cd_tree.proofs.BeginsReading.{node_right}

-- the parent of the domain with this number
abbrev pub parent_in : List Domain → ℕ → Option NodeId
parent_in domains n = option_and_then (λ (domain : Domain). domain.parent) (slice_get domains n)

parent_of_found : (found : Option Domain) (parent : NodeId) → IsSomeAnd found (λ domain. domain.parent ≡ Some parent)
    → option_and_then (λ (domain : Domain). domain.parent) found ≡ Some parent
parent_of_found None parent h = absurd h
parent_of_found (Some domain) parent h = h

found_parent : (found : Option Domain) (parent : NodeId) → option_and_then (λ (domain : Domain). domain.parent) found ≡ Some parent
    → IsSomeAnd found (λ domain. domain.parent ≡ Some parent)
found_parent None parent h = absurd (cc)
found_parent (Some domain) parent h = h

pub has_parent : (domains : List Domain) (id parent : NodeId) → parent_in domains id.0 ≡ Some parent → HasParent domains id parent
has_parent domains id parent h = found_parent (slice_get domains id.0) parent h

first_under : (up : ℕ → Option NodeId) (id : NodeId) (n : ℕ) (first : Option Node) (rest : Members)
    → ((d : Node) → first ≡ Some d → number_of d ≡ n) → up n ≡ Some id → MembersUnder up id rest
    → MembersUnder up id (put_first first rest)
first_under up id n None rest number parent under = under
first_under up id n (Some d) rest number parent under = (ap up (number d refl) ∙ parent, under)

members_under : (domains : List Domain) (id : NodeId) (ids : List NodeId) → NamesChildren domains id.0 ids
    → MembersUnder (parent_in domains) id (members_by (node_of domains) ids)
members_under domains id [] fits = tt
members_under domains id (m ∷ ids) (above, child, fits) =
    first_under (parent_in domains) id m.0 (node_of domains m) (members_by (node_of domains) ids)
    (λ d found. number_there 0 domains m.0 d found ∙ omega arith)
    (parent_of_found (slice_get domains m.0) id child) (members_under domains id ids fits)

body_under : (domains : List Domain) (id : NodeId) (items : List Item) → FitsItems domains id.0 items
    → BodyUnder (parent_in domains) id (body_by (node_of domains) items)
body_under domains id [] fits = tt
body_under domains id (Run op ∷ items) (full, shape, fits) = body_under domains id items fits
body_under domains id (Group ids ∷ items) (some, few, named, fits) =
    (members_under domains id ids named, body_under domains id items fits)

each_is_parent : (tree : TreeModel) → IsTree tree → OfEach tree (IsParent (parent_in tree.domains))
each_is_parent tree is id d found =
    let b : Behind tree.domains id d = behind_view tree is id d found in
    subst (IsParent (parent_in tree.domains)) (sym b.view)
    (body_under tree.domains id b.domain.items (domain_fits tree is id b.domain b.there).items)

fit_ready : (b : Bool) → IsFit b ready
fit_ready true = tt
fit_ready false = tt

pub record_right : (tree : TreeModel) (faults : List Fault) → IsTree tree → (k : ℕ)
    → IsRight (state_behind (along (parent_in tree.domains) k) ready (record_of tree faults))
record_right tree faults is k =
    let up : ℕ → Option NodeId = parent_in tree.domains in
    let same : copies k (node_numbers (root_of tree.domains)) ≡ copies k (numbers_from 0 (length tree.domains)) =
    ap (copies k) is.preorder in
    let once : copies k (node_numbers (root_of tree.domains)) ≤ 1 =
    subst (λ n. n ≤ 1) (sym same) (copies-at_most_one k 0 (length tree.domains)) in
    (node_right up k (case_of tree faults) (root_of tree.domains) no_begins ready
    (from_each tree is (IsParent up) (each_is_parent tree is)) once (fit_ready (k == number_of (root_of tree.domains)))).ends
