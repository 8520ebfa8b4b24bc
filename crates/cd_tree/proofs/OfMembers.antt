-- What holds of a domain holds of the members of its groups.
use Rattle.std.proofs.Common.{◌≡◌, ◌⊎◌, ◌↔◌, ℕ, zero, suc, true, ◌||◌, List, [], ◌∷◌, Option, None, Some, slice_get, refl, ap, subst, sym, inl, inr}
use Rattle.std.proofs.lemmas.Bool.{or_left, or_right}
use Rattle.cd_base.specs.declared.place.Place.{Place}
use Rattle.cd_base.specs.Words.{PlaceSet}
use Rattle.cd_tree.specs.declared.domain.NodeId.{NodeId}
use Rattle.cd_tree.specs.Domains.{Node, Body, Members, node, stop, run, group, no_more, member, domain_of, body_of, put_first, members_by, body_behind, Throughout, ThroughoutBody, ThroughoutMembers}
use Rattle.cd_tree.specs.Meaning.{in_entries, node_reads, node_writes, node_reach, body_reads, body_writes, member_reads, member_writes, GroupsApart, IsDisjoint, IsCovered, CoversBody, CoversMembers, LieIn}
use Rattle.cd_tree.specs.Locality.{OwnShapesFit, AllShapesFit}
use Rattle.cd_tree.specs.Absorbing.{IsMember}
use Rattle.cd_tree.specs.FirstItems.{PartOf, IsMemberAt}
use Rattle.cd_tree.proofs.FirstFacts.{behind_are_part}

-- a property throughout a body holds throughout what stands behind its first items, and throughout each member of a group
behind_throughout : (P : Node → Type 0) (k : ℕ) (body : Body) → ThroughoutBody P body → ThroughoutBody P (body_behind k body)
behind_throughout P zero body below = below
behind_throughout P (suc k) stop below = tt
behind_throughout P (suc k) (run op rest) below = behind_throughout P k rest below
behind_throughout P (suc k) (group members rest) (here, below) = behind_throughout P k rest below

member_throughout : (P : Node → Type 0) (members : Members) (one : Node) → IsMember one members → ThroughoutMembers P members → Throughout P one
member_throughout P no_more one is below = absurd is
member_throughout P (member first rest) one (inl same) (here, below) = subst (Throughout P) (sym same) here
member_throughout P (member first rest) one (inr is) (here, below) = member_throughout P rest one is below

throughout_members : (P : Node → Type 0) (d one : Node) (k : ℕ) → IsMemberAt d k one → Throughout P d → Throughout P one
throughout_members P (node id domain body) one k (members, rest, is, at) (here, below) =
    let left : ThroughoutBody P (group members rest) = subst (ThroughoutBody P) is (behind_throughout P k body below) in
    member_throughout P members one at left.0

pub members_shapes_fit : (d one : Node) (k : ℕ) → IsMemberAt d k one → AllShapesFit d → AllShapesFit one
members_shapes_fit = throughout_members OwnShapesFit

pub members_are_disjoint : (d one : Node) (k : ℕ) → IsMemberAt d k one → IsDisjoint d → IsDisjoint one
members_are_disjoint = throughout_members (λ e. GroupsApart (body_of e))

-- what a member has of places, the group has, where a group has what its first member and the rest have
group_has : (own : Node → PlaceSet) (all : Members → PlaceSet)
    → ((first : Node) (rest : Members) (p : Place) → (own first p || all rest p) ≡ true → all (member first rest) p ≡ true)
    → (members : Members) (one : Node) → IsMember one members → LieIn (own one) (all members)
group_has own all joins no_more one is = absurd is
group_has own all joins (member first rest) one (inl same) =
    λ p h. joins first rest p (or_left (own first p) (all rest p) (let P : Node → Type 0 = λ e. own e p ≡ true in subst P same h))
group_has own all joins (member first rest) one (inr is) =
    λ p h. joins first rest p (or_right (own first p) (all rest p) (group_has own all joins rest one is p h))

read_by_group : (members : Members) (one : Node) → IsMember one members → LieIn (node_reads one) (member_reads members)
read_by_group = group_has node_reads member_reads (λ first rest p h. h)

written_by_group : (members : Members) (one : Node) → IsMember one members → LieIn (node_writes one) (member_writes members)
written_by_group = group_has node_writes member_writes (λ first rest p h. h)

pub members_touch_less : (d one : Node) (k : ℕ) → IsMemberAt d k one
    → LieIn (node_reads one) (node_reads d) × LieIn (node_writes one) (node_writes d)
members_touch_less (node id domain body) one k (members, rest, is, at) =
    let Reads : Body → Type 0 = λ left. LieIn (body_reads left) (body_reads body) in
    let Writes : Body → Type 0 = λ left. LieIn (body_writes left) (body_writes body) in
    let part : PartOf (body_behind k body) body = behind_are_part k body in
    let reads : LieIn (body_reads (group members rest)) (body_reads body) = subst Reads is part.reads in
    let writes : LieIn (body_writes (group members rest)) (body_writes body) = subst Writes is part.writes in (
      λ p h. or_right (in_entries domain.entries p) (body_reads body p)
          (reads p (or_left (member_reads members p) (body_reads rest p) (read_by_group members one at p h))),
      λ p h. writes p (or_left (member_writes members p) (body_writes rest p) (written_by_group members one at p h)),
    )

member_covered : (entries : PlaceSet) (members : Members) (one : Node) → IsMember one members → CoversMembers entries members
    → IsCovered one × LieIn (node_reach one) entries
member_covered entries no_more one is covered = absurd is
member_covered entries (member first rest) one (inl same) (reach, here, covered) =
    let P : Node → Type 0 = λ e. IsCovered e × LieIn (node_reach e) entries in
    subst P (sym same) (here, reach)
member_covered entries (member first rest) one (inr is) (reach, here, covered) = member_covered entries rest one is covered

pub members_are_covered : (d one : Node) (k : ℕ) → IsMemberAt d k one → IsCovered d
    → IsCovered one × LieIn (node_reach one) (in_entries (domain_of d).entries)
members_are_covered (node id domain body) one k (members, rest, is, at) covered =
    let entries : PlaceSet = in_entries domain.entries in
    let left : CoversBody entries (group members rest) =
    subst (CoversBody entries) is ((behind_are_part k body).covered entries covered) in
    member_covered entries members one at left.0

-- a member is found by the number at some place of the group's list
member_later : (found : Option Node) (rest : Members) (d : Node) → IsMember d rest → IsMember d (put_first found rest)
member_later None rest d is = is
member_later (Some first) rest d is = inr is

first_or_later : (found : Option Node) (rest : Members) (d : Node) → IsMember d (put_first found rest) → (found ≡ Some d) ⊎ IsMember d rest
first_or_later None rest d is = inr is
first_or_later (Some first) rest d (inl same) = inl (ap (λ (e : Node). Some e) (sym same))
first_or_later (Some first) rest d (inr is) = inr is

named_member : (find : NodeId → Option Node) (ids : List NodeId) (d : Node) (j : ℕ) (id : NodeId) → slice_get ids j ≡ Some id
    → find id ≡ Some d → IsMember d (members_by find ids)
named_member find [] d j id at found = absurd (cc)
named_member find (first ∷ ids) d zero id at found =
    let P : Option Node → Type 0 = λ o. IsMember d (put_first o (members_by find ids)) in
    let here : find first ≡ Some d = cc in
    subst P (sym here) (inl refl)
named_member find (first ∷ ids) d (suc j) id at found =
    member_later (find first) (members_by find ids) d (named_member find ids d j id at found)

-- where a member's number stands
record NamedAt (find : NodeId → Option Node) (ids : List NodeId) (d : Node) : Type 0 where
  place : ℕ
  number : NodeId
  there : slice_get ids place ≡ Some number
  found : find number ≡ Some d

named_later : (find : NodeId → Option Node) (first : NodeId) (ids : List NodeId) (d : Node) → NamedAt find ids d → NamedAt find (first ∷ ids) d
named_later find first ids d n = record { place = suc n.place; number = n.number; there = n.there; found = n.found }

named_at : (find : NodeId → Option Node) (ids : List NodeId) (d : Node) → IsMember d (members_by find ids) → NamedAt find ids d
named_at find [] d is = absurd is
named_at find (first ∷ ids) d is =
    elim (first_or_later (find first) (members_by find ids) d is) [
      | inl here ↦ record { place = 0; number = first; there = refl; found = here }
      | inr later ↦ named_later find first ids d (named_at find ids d later)
    ]

pub members_are_named : (find : NodeId → Option Node) (ids : List NodeId) (d : Node)
    → IsMember d (members_by find ids) ↔ ((j : ℕ) × (id : NodeId) × (slice_get ids j ≡ Some id) × (find id ≡ Some d))
members_are_named find ids d = (
  λ is. let n : NamedAt find ids d = named_at find ids d is in (n.place, n.number, n.there, n.found),
  λ (j, id, at, found). named_member find ids d j id at found,
)
