-- Members that come back: each can be taken when its turn comes, since members are apart and have no more room than they were sent.
use Rattle.std.proofs.Common.{◌≡◌, ℕ, ◌+◌, ◌-◌, ◌≤◌, Bool, true, false, ◌&&◌, if◌then◌else◌, List, [], ◌∷◌, ◌++◌, Option, None, Some, length, take, drop, sum_by, refl, ap, sym, subst, ◌∙◌, arith}
use Rattle.std.proofs.lemmas.Bool.{and_from, or_parts, or_right, false_from_ne_true}
use Rattle.std.proofs.lemmas.List.{length-append, length-take-le, length-drop}
use Rattle.std.proofs.lemmas.List.Sums.{sum_by-cons}
use Rattle.cd_base.specs.declared.place.Place.{Place}
use Rattle.cd_base.specs.Words.{in_ranges}
use Rattle.cd_tree.specs.declared.domain.NodeId.{NodeId}
use Rattle.cd_tree.specs.declared.event.Cause.{Cause}
use Rattle.cd_tree.specs.Domains.{Node, Members, node, no_more, member, members_by, node_of, number_of, node_numbers, member_numbers}
use Rattle.cd_tree.specs.Meaning.{node_reads, node_reach, node_writes, node_need, DoNotClash, IsApartFrom, MembersApart}
use Rattle.cd_tree.specs.Slices.{node_size, members_size, MembersFollow}
use Rattle.cd_tree.proofs.View.{members_by-found}
use Rattle.cd_field.specs.FieldModel.{FieldModel, absorbed, CanAbsorb}
use Rattle.cd_keep.specs.PassModel.{HoldsNothing}
use Rattle.cd_cover.specs.PlanLaws.{need_of}
use Rattle.cd_cover.specs.Plans.{PlanModel}
use Rattle.cd_core.specs.declared.state.Ending.{Ending}
use Rattle.cd_core.specs.declared.state.Ending.TheVariants.{Done, Escalated}
use Rattle.cd_core.specs.declared.state.Stage.{Stage}
use Rattle.cd_core.specs.declared.state.Stage.TheVariants.{Ended}
use Rattle.cd_core.specs.StateModel.{StateModel}
use Rattle.cd_core.specs.Fits.{FitsStage, FitsEnded, BlamesOwn, IsOneOf}
use Rattle.cd_core.specs.Resuming.{CanTake, CanTakeEach, escalation, nodes_of, put_at}
use Rattle.cd_core.specs.TakingBack.{CanTakeAll, CanTakeNext, took}

-- a property of each member of a group and of the state that came back for it
abbrev pub Pairs : (Node → StateModel → Type 0) → Members → List StateModel → Type 0
Pairs P no_more [] = Unit {0}
Pairs P no_more (child ∷ children) = ⊥
Pairs P (member first rest) [] = ⊥
Pairs P (member first rest) (child ∷ children) = P first child × Pairs P rest children

-- a member that came back, for the state that takes it; what it has room for apart, which grows as members are taken
pub record ComesBack (plan : PlanModel) (commit : Bool) (s : StateModel) (d : Node) (child : StateModel) : Type 0 where
  pub number : number_of d ≡ child.node.0
  pub counts : length child.counts ≡ node_size d
  pub carved : (p : Place) → in_ranges child.field.carved p ≡ node_writes d p
  pub absorbs : CanAbsorb s.field child.field commit
  pub store : child.pass.store ≡ s.pass.store
  pub nothing : HoldsNothing child.pass
  pub room : child.pass.room ≡ need_of plan.tree.domains child.node
  pub blamed : (cause : Cause) (over : ℕ) → escalation child.stage ≡ Some (cause, over) → IsOneOf plan (node_numbers d) cause

-- the room of all
abbrev pub rooms : List StateModel → ℕ
rooms [] = 0
rooms (child ∷ children) = child.pass.room + rooms children

-- ---- from what may be taken

-- the cause in an escalation, or this one where there is none
abbrev cause_in : Cause → Option (Cause × ℕ) → Cause
cause_in cause None = cause
cause_in cause (Some first) = first.0

pub same_cause : (one two : Cause) (a b : ℕ) → ◌≡◌ {A = Option (Cause × ℕ)} (Some (one, a)) (Some (two, b)) → one ≡ two
same_cause one two a b e = ap (cause_in one) e

blames : (plan : PlanModel) (d : Node) (ending : Ending) (cause : Cause) (over : ℕ) → BlamesOwn plan d ending
    → escalation (Ended ending) ≡ Some (cause, over) → IsOneOf plan (node_numbers d) cause
blames plan d (Done leak) cause over own e = absurd (cc)
blames plan d (Escalated why more) cause over own e = subst (IsOneOf plan (node_numbers d)) (same_cause why cause more over e) own

need_is : (plan : PlanModel) (id : NodeId) (d : Node) → node_of plan.tree.domains id ≡ Some d → need_of plan.tree.domains id ≡ node_need d
need_is plan id d is = rw is

one_back : (plan : PlanModel) (s : StateModel) (commit : Bool) (child : StateModel) (c : CanTake plan s commit child)
    → ComesBack plan commit s (node child.node c.fits.domain c.fits.body) child
one_back plan s commit child c =
    let d : Node = node child.node c.fits.domain c.fits.body in
    let S : Stage → Type 0 = λ x. FitsStage plan d c.fits.domain child x in
    let end : FitsEnded plan d child c.ending = subst S c.ended c.fits.stage in
    record {
      number = refl;
      counts = c.fits.counts;
      carved = λ p. c.carved d c.fits.is p;
      absorbs = c.absorbs;
      store = c.joins.store;
      nothing = c.joins.nothing;
      room = end.nothing.room ∙ sym (need_is plan child.node d c.fits.is);
      blamed = λ cause over e. blames plan d c.ending cause over end.blamed (sym (ap escalation c.ended) ∙ e);
    }

pub all_back : (plan : PlanModel) (s : StateModel) (commit : Bool) (children : List StateModel) → CanTakeEach plan s commit children
    → Pairs (ComesBack plan commit s) (members_by (node_of plan.tree.domains) (nodes_of children)) children
all_back plan s commit [] takes = tt
all_back plan s commit (child ∷ children) (c, takes) =
    let P : Members → Type 0 = λ m. Pairs (ComesBack plan commit s) m (child ∷ children) in
    subst P (sym (members_by-found (node_of plan.tree.domains) child.node (nodes_of children) (node child.node c.fits.domain c.fits.body) c.fits.is))
    (one_back plan s commit child c, all_back plan s commit children takes)

-- ---- one is taken: the others are as they were

-- what one writes another does not
apart_writes : (one other : Node) (p : Place) → DoNotClash one other → node_writes other p ≡ true → node_writes one p ≡ false
apart_writes one other p apart writes =
    let none : (node_writes one p && node_reach other p) ≡ false = (or_parts (node_writes one p && node_reach other p) _ (apart p)).0 in
    false_from_ne_true (node_writes one p) (λ e.
    (let both : (node_writes one p && node_reach other p) ≡ true =
    and_from (node_writes one p) (node_reach other p) e (or_right (node_reads other p) (node_writes other p) writes) in
    absurd (cc)))

still_absorbs : (commit : Bool) (m part other : FieldModel)
    → ((p : Place) → in_ranges other.carved p ≡ true → in_ranges part.carved p ≡ false)
    → CanAbsorb m other commit → CanAbsorb (absorbed m part commit) other commit
still_absorbs true m part other apart c = record {
  script = c.script;
  away = λ p e. ap (λ (b : Bool). if b then false else m.lost p) (apart p e) ∙ c.away p e;
  present = c.present;
}
still_absorbs false m part other apart c = record { script = c.script; away = c.away; present = c.present }

one_still : (plan : PlanModel) (commit : Bool) (s child : StateModel) (first d : Node) (other : StateModel) → DoNotClash first d
    → ComesBack plan commit s first child → ComesBack plan commit s d other → ComesBack plan commit (took commit s child) d other
one_still plan commit s child first d other apart b c = record {
  number = c.number;
  counts = c.counts;
  carved = c.carved;
  absorbs = still_absorbs commit s.field child.field other.field
      (λ p e. b.carved p ∙ apart_writes first d p apart (sym (c.carved p) ∙ e)) c.absorbs;
  store = c.store;
  nothing = c.nothing;
  room = c.room;
  blamed = c.blamed;
}

pub all_still : (plan : PlanModel) (commit : Bool) (s child : StateModel) (first : Node) (members : Members) (children : List StateModel)
    → IsApartFrom first members → ComesBack plan commit s first child → Pairs (ComesBack plan commit s) members children
    → Pairs (ComesBack plan commit (took commit s child)) members children
all_still plan commit s child first no_more [] apart b back = tt
all_still plan commit s child first no_more (other ∷ children) apart b back = absurd back
all_still plan commit s child first (member d rest) [] apart b back = absurd back
all_still plan commit s child first (member d rest) (other ∷ children) apart b back =
    (one_still plan commit s child first d other apart.0 b back.0, all_still plan commit s child first rest children apart.1 b back.1)

-- a part put in keeps the length
pub length-put_at : (counts : List ℕ) (at : ℕ) (part : List ℕ) → at + length part ≤ length counts → length (put_at counts at part) ≡ length counts
length-put_at counts at part within =
    let one : length (put_at counts at part) ≡ length (take at counts) + length (part ++ drop (at + length part) counts) =
    length-append (take at counts) (part ++ drop (at + length part) counts) in
    let two : length (part ++ drop (at + length part) counts) ≡ length part + length (drop (at + length part) counts) =
    length-append part (drop (at + length part) counts) in
    let three : length (take at counts) ≡ at = length-take-le at counts (omega (arith, within)) in
    let four : length (drop (at + length part) counts) ≡ length counts - (at + length part) = length-drop (at + length part) counts in
    omega (arith, one, two, three, four, within)

-- ---- so each can be taken when its turn comes

pub can_take_all : (plan : PlanModel) (commit : Bool) (members : Members) (children : List StateModel) (s : StateModel) (from : ℕ)
    → Pairs (ComesBack plan commit s) members children → MembersApart members → MembersFollow from members
    → s.node.0 ≤ from → from + members_size members ≤ s.node.0 + length s.counts
    → s.pass.held + s.pass.room + rooms children ≤ s.pass.most
    → CanTakeAll commit s children
can_take_all plan commit no_more [] s from back apart follow low within few = tt
can_take_all plan commit no_more (child ∷ children) s from back apart follow low within few = absurd back
can_take_all plan commit (member first rest) [] s from back apart follow low within few = absurd back
can_take_all plan commit (member first rest) (child ∷ children) s from back apart follow low within few =
    let b : ComesBack plan commit s first child = back.0 in
    let at : child.node.0 ≡ from = sym b.number ∙ follow.0 in
    let both : length (node_numbers first ++ member_numbers rest) ≡ length (node_numbers first) + length (member_numbers rest) =
    length-append (node_numbers first) (member_numbers rest) in
    let next : CanTakeNext s commit child = record {
      absorbs = b.absorbs;
      joins = record { store = b.store; nothing = b.nothing; few = omega (arith, few) };
      below = omega (arith, at, low);
      counts = omega (arith, at, low, within, both, b.counts);
    } in
    let long : length (put_at s.counts (child.node.0 - s.node.0) child.counts) ≡ length s.counts =
    length-put_at s.counts (child.node.0 - s.node.0) child.counts next.counts in (
      next,
      can_take_all plan commit rest children (took commit s child) (from + node_size first)
          (all_still plan commit s child first rest children apart.0 b back.1) apart.1 follow.1
          (omega (arith, low)) (omega (arith, within, both, long)) (omega (arith, few)),
    )

-- the room of all is what they need
pub rooms_are : (plan : PlanModel) (s : StateModel) (commit : Bool) (members : Members) (children : List StateModel)
    → Pairs (ComesBack plan commit s) members children → rooms children ≡ sum_by (need_of plan.tree.domains) (nodes_of children)
rooms_are plan s commit no_more [] back = refl
rooms_are plan s commit no_more (child ∷ children) back = absurd back
rooms_are plan s commit (member first rest) [] back = absurd back
rooms_are plan s commit (member first rest) (child ∷ children) back =
    let here : child.pass.room ≡ need_of plan.tree.domains child.node = back.0.room in
    let more : rooms children ≡ sum_by (need_of plan.tree.domains) (nodes_of children) = rooms_are plan s commit rest children back.1 in
    let sum : sum_by (need_of plan.tree.domains) (child.node ∷ nodes_of children)
    ≡ need_of plan.tree.domains child.node + sum_by (need_of plan.tree.domains) (nodes_of children) =
    sum_by-cons (need_of plan.tree.domains) child.node (nodes_of children) in
    omega (arith, here, more, sum)
