-- What a domain of a plan gives the members of one of its groups: they are apart, their slices follow each other inside its own,
-- and their numbers are among those of its body.
use Rattle.std.proofs.Common.{◌≡◌, ℕ, zero, suc, ◌+◌, ◌≤◌, true, List, Some, length, slice_get, subst, arith}
use Rattle.std.proofs.lemmas.List.{length-append}
use Rattle.cd_tree.specs.declared.domain.NodeId.{NodeId}
use Rattle.cd_tree.specs.declared.domain.Item.TheVariants.{Group}
use Rattle.cd_tree.specs.declared.domain.Domain.{Domain}
use Rattle.cd_tree.specs.Domains.{Body, Members, stop, run, group, body_behind, members_by, node_of, body_numbers, member_numbers}
use Rattle.cd_tree.specs.FirstItems.{BehindIsGroup}
use Rattle.cd_tree.specs.Laws.{NestedViewFollows}
use Rattle.cd_tree.specs.Locality.{DisjointInPrograms}
use Rattle.cd_tree.specs.Meaning.{GroupsApart, IsDisjoint, MembersApart}
use Rattle.cd_tree.specs.SliceLaws.{MembersAreSlices}
use Rattle.cd_tree.specs.Slices.{among, members_size, MembersFollow, GroupsFollow}
use Rattle.cd_tree.proofs.OtherCounts.{among_left, among_right}
use Rattle.cd_cover.specs.Plans.{PlanModel, IsPlan}
use Rattle.cd_core.proofs.Grounds.{view_in, body_in}

-- the laws of programs on which this rests
pub record GroupLaws : Type 0 where
  pub follows : NestedViewFollows
  pub disjoint : DisjointInPrograms
  pub slices : MembersAreSlices
  pub group : BehindIsGroup

-- the members of a group of a body whose slices begin at a number
pub record GroupAt (body : Body) (at : ℕ) (members : Members) : Type 0 where
  pub from : ℕ
  pub low : at ≤ from
  pub follow : MembersFollow from members
  pub within : from + members_size members ≤ at + length (body_numbers body)
  pub apart : MembersApart members
  pub numbers : (n : ℕ) → among (member_numbers members) n ≡ true → among (body_numbers body) n ≡ true

one_group : (one other : Members) (rest more : Body) → ◌≡◌ {A = Body} (group one rest) (group other more) → one ≡ other
one_group one other rest more e = cc

pub group_at : (k : ℕ) (body : Body) (at : ℕ) (members : Members) (rest : Body) → GroupsFollow at body → GroupsApart body
    → body_behind k body ≡ group members rest → GroupAt body at members
group_at zero stop at members rest follow apart is = absurd (cc)
group_at zero (run op more) at members rest follow apart is = absurd (cc)
group_at zero (group first more) at members rest follow apart is =
    let P : Members → Type 0 = λ m. GroupAt (group first more) at m in
    subst P (one_group first members more rest is) (record {
      from = at;
      low = omega arith;
      follow = follow.0;
      within = omega (arith, length-append (member_numbers first) (body_numbers more));
      apart = apart.0;
      numbers = λ n e. among_left (member_numbers first) (body_numbers more) n e;
    })
group_at (suc k) stop at members rest follow apart is = absurd (cc)
group_at (suc k) (run op more) at members rest follow apart is =
    let g : GroupAt more at members = group_at k more at members rest follow apart is in
    record { from = g.from; low = g.low; follow = g.follow; within = g.within; apart = g.apart; numbers = g.numbers }
group_at (suc k) (group first more) at members rest follow apart is =
    let g : GroupAt more (at + members_size first) members = group_at k more (at + members_size first) members rest follow.1 apart.1 is in
    record {
      from = g.from;
      low = omega (arith, g.low);
      follow = g.follow;
      within = omega (arith, g.within, length-append (member_numbers first) (body_numbers more));
      apart = g.apart;
      numbers = λ n e. among_right (member_numbers first) (body_numbers more) n (g.numbers n e);
    }

-- the members of the group at a point of a domain of a plan
pub group_given : GroupLaws → (plan : PlanModel) (id : NodeId) (domain : Domain) (point : ℕ) (ids : List NodeId) → IsPlan plan
    → slice_get plan.tree.domains id.0 ≡ Some domain → slice_get domain.items point ≡ Some (Group ids)
    → GroupAt (body_in plan.tree domain) (suc id.0) (members_by (node_of plan.tree.domains) ids)
group_given l plan id domain point ids is_plan listed here =
    let is : node_of plan.tree.domains id ≡ Some (view_in plan.tree id domain) = l.follows plan.tree is_plan.program id domain listed in
    let apart : IsDisjoint (view_in plan.tree id domain) = l.disjoint plan.tree is_plan.program is_plan.disjoint id (view_in plan.tree id domain) is in
    group_at point (body_in plan.tree domain) (suc id.0) (members_by (node_of plan.tree.domains) ids)
    (body_behind (suc point) (body_in plan.tree domain))
    (l.slices plan.tree is_plan.program id (view_in plan.tree id domain) is)
    apart.0
    (l.group point (node_of plan.tree.domains) domain.items ids here)
