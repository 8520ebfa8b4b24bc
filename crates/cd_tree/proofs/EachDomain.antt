-- A property of each domain of a program, and the same property from the root down: one follows from the other.
use Rattle.std.proofs.Common.{◌≡◌, ℕ, zero, suc, ◌+◌, ◌-◌, ◌<◌, List, [], ◌∷◌, Option, None, Some, length, get_or, slice_get, refl, ap, sym, ◌∙◌, subst, arith}
use Rattle.std.proofs.lemmas.Option.{slice_get_within, slice_get-get_or}
use Rattle.cd_tree.specs.declared.domain.NodeId.{NodeId}
use Rattle.cd_tree.specs.declared.domain.Item.{Item}
use Rattle.cd_tree.specs.declared.domain.Item.TheVariants.{Run, Group}
use Rattle.cd_tree.specs.declared.domain.Domain.{Domain}
use Rattle.cd_tree.specs.Domains.{Node, Body, Members, node, stop, run, group, no_more, member, put_first, members_by, body_by, nodes_from, node_of, root_of, number_of, domain_of, node_numbers, body_numbers, member_numbers, numbers_from, Throughout, ThroughoutBody, ThroughoutMembers}
use Rattle.cd_tree.specs.TreeModel.{TreeModel, IsTree}
use Rattle.cd_tree.specs.Laws.{OfEach}
use Rattle.cd_base.proofs.ListLemmas.{Each, each_append}
use Rattle.cd_tree.proofs.Numbers.{each_at}
use Rattle.cd_tree.proofs.View.{nested_view_follows, length-nodes_from}

mutual
  -- what follows from two properties
  node_joined : (P Q R : Node → Type 0) → ((e : Node) → P e → Q e → R e) → (d : Node) → Throughout P d → Throughout Q d → Throughout R d
  node_joined P Q R gives (node id domain body) (p, ps) (q, qs) = (gives (node id domain body) p q, body_joined P Q R gives body ps qs)

  body_joined : (P Q R : Node → Type 0) → ((e : Node) → P e → Q e → R e) → (body : Body)
      → ThroughoutBody P body → ThroughoutBody Q body → ThroughoutBody R body
  body_joined P Q R gives stop p q = tt
  body_joined P Q R gives (run op rest) p q = body_joined P Q R gives rest p q
  body_joined P Q R gives (group members rest) (p, ps) (q, qs) =
      (members_joined P Q R gives members p q, body_joined P Q R gives rest ps qs)

  members_joined : (P Q R : Node → Type 0) → ((e : Node) → P e → Q e → R e) → (members : Members)
      → ThroughoutMembers P members → ThroughoutMembers Q members → ThroughoutMembers R members
  members_joined P Q R gives no_more p q = tt
  members_joined P Q R gives (member first rest) (p, ps) (q, qs) =
      (node_joined P Q R gives first p q, members_joined P Q R gives rest ps qs)

mutual
  -- a property of the numbers that a walk meets
  node_each : (Q : ℕ → Type 0) (d : Node) → Throughout (λ e. Q (number_of e)) d → Each Q (node_numbers d)
  node_each Q (node id domain body) (here, below) = (here, body_each Q body below)

  body_each : (Q : ℕ → Type 0) (body : Body) → ThroughoutBody (λ e. Q (number_of e)) body → Each Q (body_numbers body)
  body_each Q stop below = tt
  body_each Q (run op rest) below = body_each Q rest below
  body_each Q (group members rest) (here, below) =
      each_append Q (member_numbers members) (body_numbers rest) (members_each Q members here) (body_each Q rest below)

  members_each : (Q : ℕ → Type 0) (members : Members) → ThroughoutMembers (λ e. Q (number_of e)) members → Each Q (member_numbers members)
  members_each Q no_more below = tt
  members_each Q (member first rest) (here, below) =
      each_append Q (node_numbers first) (member_numbers rest) (node_each Q first here) (members_each Q rest below)

-- each domain that `find` gives has the property from there down
abbrev FindsThroughout : (Node → Type 0) → (NodeId → Option Node) → Type 0
FindsThroughout P find = (id : NodeId) (d : Node) → find id ≡ Some d → Throughout P d

first_throughout : (P : Node → Type 0) (first : Option Node) (rest : Members)
    → ((d : Node) → first ≡ Some d → Throughout P d) → ThroughoutMembers P rest → ThroughoutMembers P (put_first first rest)
first_throughout P None rest here below = below
first_throughout P (Some d) rest here below = (here d refl, below)

found_members : (P : Node → Type 0) (find : NodeId → Option Node) (ids : List NodeId) → FindsThroughout P find
    → ThroughoutMembers P (members_by find ids)
found_members P find [] finds = tt
found_members P find (id ∷ ids) finds =
    first_throughout P (find id) (members_by find ids) (finds id) (found_members P find ids finds)

found_body : (P : Node → Type 0) (find : NodeId → Option Node) (items : List Item) → FindsThroughout P find
    → ThroughoutBody P (body_by find items)
found_body P find [] finds = tt
found_body P find (Run op ∷ items) finds = found_body P find items finds
found_body P find (Group ids ∷ items) finds = (found_members P find ids finds, found_body P find items finds)

-- a property of each view of a list holds from each of them down: what stands below a view is a later view
pub views_throughout : (P : Node → Type 0) (at : ℕ) (domains : List Domain)
    → ((k : ℕ) (d : Node) → slice_get (nodes_from at domains) k ≡ Some d → P d)
    → (k : ℕ) (d : Node) → slice_get (nodes_from at domains) k ≡ Some d → Throughout P d
views_throughout P at [] each k d is = absurd (cc)
views_throughout P at (domain ∷ domains) each zero d is =
    let views : List Node = nodes_from (suc at) domains in
    let seek : NodeId → Option Node = λ id. slice_get views (id.0 - suc at) in
    let first : Node = node (record { 0 = at }) domain (body_by seek domain.items) in
    let same : first ≡ d = cc in
    subst (Throughout P) same (
      each 0 first refl,
      found_body P seek domain.items
          (λ id e found. views_throughout P (suc at) domains (λ k. each (suc k)) (id.0 - suc at) e found),
    )
views_throughout P at (domain ∷ domains) each (suc k) d is =
    views_throughout P (suc at) domains (λ j. each (suc j)) k d is

pub root_there : (domains : List Domain) → 0 < length domains → slice_get (nodes_from 0 domains) 0 ≡ Some (root_of domains)
root_there [] some = absurd (omega arith)
root_there (domain ∷ domains) some = refl

-- a property of each domain of a program holds from the root down
pub from_each : (tree : TreeModel) → IsTree tree → (P : Node → Type 0) → OfEach tree P → Throughout P (root_of tree.domains)
from_each tree is P each =
    views_throughout P 0 tree.domains (λ k d found. each (record { 0 = k }) d found) 0 (root_of tree.domains)
    (root_there tree.domains is.some)

pub number_there : (at : ℕ) (domains : List Domain) (k : ℕ) (d : Node) → slice_get (nodes_from at domains) k ≡ Some d → number_of d ≡ at + k
number_there at [] k d is = absurd (cc)
number_there at (domain ∷ domains) zero d is =
    let views : List Node = nodes_from (suc at) domains in
    let first : Node = node (record { 0 = at }) domain (body_by (λ id. slice_get views (id.0 - suc at)) domain.items) in
    let same : first ≡ d = cc in
    sym (ap number_of same) ∙ omega arith
number_there at (domain ∷ domains) (suc k) d is =
    let later : number_of d ≡ suc at + k = number_there (suc at) domains k d is in
    omega arith

-- the number of a domain that is there
pub number_within : (domains : List Domain) (id : NodeId) (d : Node) → node_of domains id ≡ Some d → id.0 < length domains
number_within domains id d found =
    let within : id.0 < length (nodes_from 0 domains) = slice_get_within (nodes_from 0 domains) id.0 d found in
    omega (arith, length-nodes_from 0 domains)

-- a property that holds from the root of a program down holds of each domain: the walk meets each number
pub of_each : (tree : TreeModel) → IsTree tree → (P : Node → Type 0) → Throughout P (root_of tree.domains) → OfEach tree P
of_each tree is P below id d found =
    let views : List Node = nodes_from 0 tree.domains in
    let Here : Node → Type 0 = λ e. slice_get views (number_of e) ≡ Some e in
    let Q : ℕ → Type 0 = λ k. (e : Node) → slice_get views k ≡ Some e → P e in
    let here : Throughout Here (root_of tree.domains) =
    from_each tree is Here
    (λ i e there.
    let number : number_of e ≡ i.0 = number_there 0 tree.domains i.0 e there ∙ omega arith in
    ap (slice_get views) number ∙ there) in
    let met : Throughout (λ e. Q (number_of e)) (root_of tree.domains) =
    node_joined P Here (λ e. Q (number_of e))
    (λ e p there other is_other.
    let same : e ≡ other = cc in
    subst P same p)
    (root_of tree.domains) below here in
    let each : Each Q (numbers_from 0 (length tree.domains)) = subst (Each Q) is.preorder (node_each Q (root_of tree.domains) met) in
    let within : id.0 < length tree.domains = number_within tree.domains id d found in
    each_at Q 0 (length tree.domains) id.0 each (omega arith) (omega arith) d found

-- the domain behind a view
pub record Behind (domains : List Domain) (id : NodeId) (d : Node) : Type 0 where
  pub domain : Domain
  pub there : slice_get domains id.0 ≡ Some domain
  pub view : d ≡ node id domain (body_by (node_of domains) domain.items)

pub behind_view : (tree : TreeModel) → IsTree tree → (id : NodeId) (d : Node) → node_of tree.domains id ≡ Some d → Behind tree.domains id d
behind_view tree is id d found =
    let here : Domain = get_or tree.domains id.0 (domain_of d) in
    let is_here : slice_get tree.domains id.0 ≡ Some here =
    slice_get-get_or tree.domains id.0 (domain_of d) (number_within tree.domains id d found) in
    let follows : node_of tree.domains id ≡ Some (node id here (body_by (node_of tree.domains) here.items)) =
    nested_view_follows tree is id here is_here in
    let same : d ≡ node id here (body_by (node_of tree.domains) here.items) = cc in
    record { domain = here; there = is_here; view = same }
