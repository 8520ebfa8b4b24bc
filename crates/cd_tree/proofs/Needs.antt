-- What the root of a program needs is enough for each domain.
use Rattle.std.proofs.Common.{ℕ, ◌+◌, ◌≤◌, max, arith}
use Rattle.std.specs.Prelude.{sum_by}
use Rattle.cd_tree.specs.Domains.{Node, Body, Members, node, stop, run, group, no_more, member, root_of, Throughout, ThroughoutBody, ThroughoutMembers}
use Rattle.cd_tree.specs.Meaning.{entry_need, node_need, body_need, members_need}
use Rattle.cd_tree.specs.TreeModel.{TreeModel, IsTree}
use Rattle.cd_tree.specs.Laws.{OfEach}
use Rattle.cd_tree.proofs.EachDomain.{of_each}

mutual
  node_bounded : (most : ℕ) (d : Node) → node_need d ≤ most → Throughout (λ e. node_need e ≤ most) d
  node_bounded most (node id domain body) within =
      let own : sum_by entry_need domain.entries + body_need body ≤ most = within in
      (within, body_bounded most body (omega arith))

  body_bounded : (most : ℕ) (body : Body) → body_need body ≤ most → ThroughoutBody (λ e. node_need e ≤ most) body
  body_bounded most stop within = tt
  body_bounded most (run op rest) within = body_bounded most rest within
  body_bounded most (group members rest) within =
      let both : max (members_need members) (body_need rest) ≤ most = within in
      (members_bounded most members (omega arith), body_bounded most rest (omega arith))

  members_bounded : (most : ℕ) (members : Members) → members_need members ≤ most → ThroughoutMembers (λ e. node_need e ≤ most) members
  members_bounded most no_more within = tt
  members_bounded most (member first rest) within =
      let both : node_need first + members_need rest ≤ most = within in
      (node_bounded most first (omega arith), members_bounded most rest (omega arith))

pub need_is_roots : (tree : TreeModel) → IsTree tree → OfEach tree (λ d. node_need d ≤ node_need (root_of tree.domains))
need_is_roots tree is =
    of_each tree is (λ d. node_need d ≤ node_need (root_of tree.domains))
    (node_bounded (node_need (root_of tree.domains)) (root_of tree.domains) (omega arith))
