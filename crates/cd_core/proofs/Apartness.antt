-- Members that are apart: when one is sent, all that the others reach is still there.
use Rattle.std.proofs.Common.{◌≡◌, ℕ, ◌+◌, ◌-◌, ◌≤◌, Bool, true, false, ◌&&◌, ◌||◌, List, [], ◌∷◌, Option, Some, sum_by, ap, subst, sym, ◌∙◌, refl, arith}
use Rattle.std.proofs.lemmas.Bool.{or_left, or_right, or_parts}
use Rattle.std.proofs.lemmas.List.Sums.{sum_by-cons}
use Rattle.cd_base.proofs.ListLemmas.{Each}
use Rattle.cd_base.specs.declared.place.Place.{Place}
use Rattle.cd_base.specs.declared.place.Range.{Range}
use Rattle.cd_base.specs.Words.{in_ranges}
use Rattle.cd_tree.specs.declared.domain.NodeId.{NodeId}
use Rattle.cd_tree.specs.declared.domain.Entry.{Entry}
use Rattle.cd_tree.specs.Domains.{Node, Members, node_of, members_by, put_first}
use Rattle.cd_tree.specs.Meaning.{node_reads, node_writes, node_reach, member_writes, DoNotClash, IsApartFrom, MembersApart}
use Rattle.cd_field.specs.FieldModel.{FieldModel, IsPresent, without}
use Rattle.cd_keep.specs.PassModel.{PassModel}
use Rattle.cd_keep.specs.PassModel as passes
use Rattle.cd_cover.specs.PlanLaws.{need_of}
use Rattle.cd_cover.specs.Plans.{PlanModel}
use Rattle.cd_core.specs.Advancing.{field_behind, pass_behind}
use Rattle.cd_core.specs.Asks.{foot_of}
use Rattle.cd_core.specs.Fits.{IsHere}
use Rattle.cd_core.specs.Trying.{CanSendAll}
use Rattle.cd_core.proofs.Grounds.{view_in}
use Rattle.cd_core.proofs.Members.{MemberOf}

-- all that the domain of a number reaches is present
abbrev pub IsHereAt : PlanModel → FieldModel → NodeId → Type 0
IsHereAt plan m id = (d : Node) → node_of plan.tree.domains id ≡ Some d → IsHere d m

-- the members that these numbers name
abbrev pub named_members : PlanModel → List NodeId → Members
named_members plan ids = members_by (node_of plan.tree.domains) ids

not_written : (a b c : Bool) → ((a && b) || c) ≡ false → b ≡ true → a ≡ false
not_written false b c none reached = refl
not_written true true c none reached = absurd (cc)
not_written true false c none reached = absurd (cc)

-- a place that another reaches, and that the domain sent before it does not write, is still there
still_there : (one d : Node) (m : FieldModel) (writes : List Range) → ((q : Place) → in_ranges writes q ≡ node_writes one q) → DoNotClash one d
    → IsHere d m → IsHere d (without m writes)
still_there one d m writes same apart here q reached =
    let now : IsPresent m q = here q reached in
    let none : in_ranges writes q ≡ false = same q ∙ not_written (node_writes one q) (node_reach d q) (node_writes d q && node_reach one q) (apart q) reached in
    record { known = now.known; here = ap (λ (b : Bool). b || m.lost q) none ∙ now.here }

pub stay_there : (plan : PlanModel) (parent : NodeId) (entries : List Entry) (one : Node) (m : FieldModel) (writes : List Range) (ids : List NodeId)
    → ((q : Place) → in_ranges writes q ≡ node_writes one q) → Each (MemberOf plan parent entries) ids
    → IsApartFrom one (named_members plan ids) → Each (IsHereAt plan m) ids → Each (IsHereAt plan (without m writes)) ids
stay_there plan parent entries one m writes [] same members apart here = tt
stay_there plan parent entries one m writes (id ∷ ids) same members apart here =
    let A : Option Node → Type 0 = λ o. IsApartFrom one (put_first o (named_members plan ids)) in
    let rest : IsApartFrom one (named_members plan ids) = (subst A members.0.is apart).1 in (
      λ d is. still_there one d m writes same ((subst A is apart).0) (here.0 d is),
      stay_there plan parent entries one m writes ids same members.1 rest here.1,
    )

-- members that are apart, present, and have their room together can be sent one after another
pub can_send_all : (plan : PlanModel) (parent : NodeId) (entries : List Entry) (ids : List NodeId) (m : FieldModel) (p : PassModel)
    → Each (MemberOf plan parent entries) ids → MembersApart (named_members plan ids) → Each (IsHereAt plan m) ids
    → sum_by (need_of plan.tree.domains) ids ≤ p.room → CanSendAll plan ids m p
can_send_all plan parent entries [] m p members apart here room = tt
can_send_all plan parent entries (id ∷ ids) m p members apart here room =
    let i : MemberOf plan parent entries id = members.0 in
    let view : Node = view_in plan.tree id i.own in
    let need : ℕ = need_of plan.tree.domains id in
    let A : Option Node → Type 0 = λ o. MembersApart (put_first o (named_members plan ids)) in
    let parts : IsApartFrom view (named_members plan ids) × MembersApart (named_members plan ids) = subst A i.is apart in
    let sum : sum_by (need_of plan.tree.domains) (id ∷ ids) ≡ need + sum_by (need_of plan.tree.domains) ids = sum_by-cons (need_of plan.tree.domains) id ids in (
      λ q h. here.0 view i.is q (or_left (node_reads view q) (node_writes view q) (sym (i.foot.reads q) ∙ h)),
      λ q h. here.0 view i.is q (or_right (node_reads view q) (node_writes view q) (sym (i.foot.writes q) ∙ h)),
      omega (arith, room, sum),
      can_send_all plan parent entries ids (without m (foot_of plan id).writes) (passes.without p need) members.1 parts.1
          (stay_there plan parent entries view m (foot_of plan id).writes ids i.foot.writes members.1 parts.0 here.1)
          (omega (arith, room, sum)),
    )

-- ---- the machine and the pass after all were sent

pub field_stays : (plan : PlanModel) (ids : List NodeId) (m : FieldModel) → field_behind plan ids m ≡ record m { lost = (field_behind plan ids m).lost }
field_stays plan [] m = refl
field_stays plan (id ∷ ids) m = field_stays plan ids (without m (foot_of plan id).writes)

pub pass_stays : (plan : PlanModel) (ids : List NodeId) (p : PassModel) → pass_behind plan ids p ≡ record p { room = (pass_behind plan ids p).room }
pass_stays plan [] p = refl
pass_stays plan (id ∷ ids) p = pass_stays plan ids (passes.without p (need_of plan.tree.domains id))

pub room_left : (plan : PlanModel) (ids : List NodeId) (p : PassModel) → sum_by (need_of plan.tree.domains) ids ≤ p.room
    → (pass_behind plan ids p).room + sum_by (need_of plan.tree.domains) ids ≡ p.room
room_left plan [] p within = omega arith
room_left plan (id ∷ ids) p within =
    let need : ℕ = need_of plan.tree.domains id in
    let sum : sum_by (need_of plan.tree.domains) (id ∷ ids) ≡ need + sum_by (need_of plan.tree.domains) ids = sum_by-cons (need_of plan.tree.domains) id ids in
    let rest : (pass_behind plan ids (passes.without p need)).room + sum_by (need_of plan.tree.domains) ids ≡ p.room - need =
    room_left plan ids (passes.without p need) (omega (arith, within, sum)) in
    omega (arith, rest, sum, within)

-- a place that no member writes is where it was
pub stays_here : (plan : PlanModel) (parent : NodeId) (entries : List Entry) (ids : List NodeId) (m : FieldModel) (q : Place)
    → Each (MemberOf plan parent entries) ids → member_writes (named_members plan ids) q ≡ false → m.lost q ≡ false
    → (field_behind plan ids m).lost q ≡ false
stays_here plan parent entries [] m q members none here = here
stays_here plan parent entries (id ∷ ids) m q members none here =
    let i : MemberOf plan parent entries id = members.0 in
    let view : Node = view_in plan.tree id i.own in
    let A : Option Node → Type 0 = λ o. member_writes (put_first o (named_members plan ids)) q ≡ false in
    let parts : (node_writes view q ≡ false) × (member_writes (named_members plan ids) q ≡ false) =
    or_parts (node_writes view q) (member_writes (named_members plan ids) q) (subst A i.is none) in
    stays_here plan parent entries ids (without m (foot_of plan id).writes) q members.1 parts.1
    (ap (λ (b : Bool). b || m.lost q) (i.foot.writes q ∙ parts.0) ∙ here)
