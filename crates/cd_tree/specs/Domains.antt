-- The nested view of a program. Code goes by numbers over a flat list in preorder; definitions recurse on this view.
use Rattle.std.specs.Prelude.{ℕ, zero, suc, ◌-◌, List, [], ◌∷◌, ◌++◌, Option, None, Some, slice_get, max}
use Rattle.cd_tree.specs.declared.domain.NodeId.{NodeId}
use Rattle.cd_tree.specs.declared.domain.Item.{Item}
use Rattle.cd_tree.specs.declared.domain.Item.TheVariants.{Run, Group}
use Rattle.cd_tree.specs.declared.domain.Domain.{Domain}
use Rattle.cd_tree.specs.declared.operation.Op.{Op}

mutual
  -- a domain with its number and its body
  pub data Node : Type 0 where
    node : (id : NodeId) (domain : Domain) (body : Body) → Node

  -- the items of a domain that are still to come
  pub data Body : Type 0 where
    stop : Body
    run : (op : Op) (rest : Body) → Body
    group : (members : Members) (rest : Body) → Body

  -- the members of a group
  pub data Members : Type 0 where
    no_more : Members
    member : (first : Node) (rest : Members) → Members

-- the items that are left behind the first ones of this number
abbrev pub body_behind : ℕ → Body → Body
body_behind zero body = body
body_behind (suc k) stop = stop
body_behind (suc k) (run op rest) = body_behind k rest
body_behind (suc k) (group members rest) = body_behind k rest

abbrev pub put_first : Option Node → Members → Members
put_first None rest = rest
put_first (Some first) rest = member first rest

-- the members that a group names, each found by its number
abbrev pub members_by : (NodeId → Option Node) → List NodeId → Members
members_by find [] = no_more
members_by find (id ∷ ids) = put_first (find id) (members_by find ids)

-- the body that a domain's items describe
abbrev pub body_by : (NodeId → Option Node) → List Item → Body
body_by find [] = stop
body_by find (Run op ∷ items) = run op (body_by find items)
body_by find (Group ids ∷ items) = group (members_by find ids) (body_by find items)

-- the nested views of domains numbered from `at` on; a group names later domains
abbrev pub nodes_from : ℕ → List Domain → List Node
nodes_from at [] = []
nodes_from at (domain ∷ domains) =
    let later : List Node = nodes_from (suc at) domains in
    node (record { 0 = at }) domain (body_by (λ id. slice_get later (id.0 - suc at)) domain.items) ∷ later

-- the nested view of the domain with this number
abbrev pub node_of : List Domain → NodeId → Option Node
node_of domains id = slice_get (nodes_from 0 domains) id.0

-- the domain at the head of a list; the empty list, which no program has, stands for a domain that does nothing
abbrev pub first_of_all : List Node → Node
first_of_all [] = node (record { 0 = 0 }) (record { name = []; parent = None; retry = 1; detects = 0; entries = []; items = [] }) stop
first_of_all (first ∷ rest) = first

-- the nested view of a whole program
abbrev pub root_of : List Domain → Node
root_of domains = first_of_all (nodes_from 0 domains)

abbrev pub number_of : Node → ℕ
number_of (node id domain body) = id.0

abbrev pub domain_of : Node → Domain
domain_of (node id domain body) = domain

abbrev pub body_of : Node → Body
body_of (node id domain body) = body

abbrev mutual
  -- the numbers of a domain and of all below it, as a walk meets them
  pub node_numbers : Node → List ℕ
  node_numbers (node id domain body) = id.0 ∷ body_numbers body

  pub body_numbers : Body → List ℕ
  body_numbers stop = []
  body_numbers (run op rest) = body_numbers rest
  body_numbers (group members rest) = member_numbers members ++ body_numbers rest

  pub member_numbers : Members → List ℕ
  member_numbers no_more = []
  member_numbers (member first rest) = node_numbers first ++ member_numbers rest

abbrev mutual
  -- how many domains stand inside each other
  pub node_depth : Node → ℕ
  node_depth (node id domain body) = suc (body_depth body)

  pub body_depth : Body → ℕ
  body_depth stop = 0
  body_depth (run op rest) = body_depth rest
  body_depth (group members rest) = max (members_depth members) (body_depth rest)

  pub members_depth : Members → ℕ
  members_depth no_more = 0
  members_depth (member first rest) = max (node_depth first) (members_depth rest)

-- at, at + 1, .. : n numbers
abbrev pub numbers_from : ℕ → ℕ → List ℕ
numbers_from at zero = []
numbers_from at (suc n) = at ∷ numbers_from (suc at) n

abbrev mutual
  -- a property of a domain and of all domains below it
  pub Throughout : (Node → Type 0) → Node → Type 0
  Throughout P (node id domain body) = P (node id domain body) × ThroughoutBody P body

  pub ThroughoutBody : (Node → Type 0) → Body → Type 0
  ThroughoutBody P stop = Unit {0}
  ThroughoutBody P (run op rest) = ThroughoutBody P rest
  ThroughoutBody P (group members rest) = ThroughoutMembers P members × ThroughoutBody P rest

  pub ThroughoutMembers : (Node → Type 0) → Members → Type 0
  ThroughoutMembers P no_more = Unit {0}
  ThroughoutMembers P (member first rest) = Throughout P first × ThroughoutMembers P rest
