-- Members that have ended, each as it was asked for: the domain that waits for them can take them.
use Rattle.std.proofs.Common.{◌≡◌, ℕ, suc, ◌+◌, ◌≤◌, ◌||◌, Bool, true, List, [], ◌∷◌, Option, None, Some, slice_get, sum_by, inl, inr, refl, ap, subst, sym, ◌∙◌, arith}
use Rattle.std.proofs.lemmas.Bool.{or_cases, or_left, or_right}
use Rattle.std.proofs.lemmas.List.Sums.{sum_by-cons}
use Rattle.cd_base.specs.declared.place.Place.{Place}
use Rattle.cd_base.specs.Words.{Words, in_ranges}
use Rattle.cd_base.proofs.ListLemmas.{Each}
use Rattle.cd_tree.specs.declared.domain.NodeId.{NodeId}
use Rattle.cd_tree.specs.declared.domain.Entry.{Entry}
use Rattle.cd_tree.specs.declared.domain.Item.TheVariants.{Group}
use Rattle.cd_tree.specs.declared.domain.Domain.{Domain}
use Rattle.cd_tree.specs.declared.document.Fault.{Fault}
use Rattle.cd_tree.specs.Domains.{Node, Body, Members, node, group, node_of, number_of, body_behind, members_by, put_first}
use Rattle.cd_tree.specs.FirstItems.{BehindIsGroup}
use Rattle.cd_tree.specs.Fronts.{front_of_node}
use Rattle.cd_tree.specs.Meaning.{in_entries, node_need, node_reach, node_reads, node_writes, member_writes}
use Rattle.cd_field.specs.FieldModel.{ArePresent}
use Rattle.cd_cover.specs.PlanLaws.{need_of}
use Rattle.cd_cover.specs.Plans.{PlanModel, IsPlan}
use Rattle.cd_core.specs.declared.state.Ending.{Ending}
use Rattle.cd_core.specs.declared.state.Stage.{Stage}
use Rattle.cd_core.specs.declared.state.Stage.TheVariants.{Ready, Waiting, Resumed, Lost, Ended}
use Rattle.cd_core.specs.StateModel.{StateModel}
use Rattle.cd_core.specs.Fits.{FitsEnded, FitsStage, FitsWaiting}
use Rattle.cd_core.specs.LawsBelow.{MoreLaws}
use Rattle.cd_core.specs.Stands.{Stands, StandsAt, StandsWaiting}
use Rattle.cd_core.specs.Advancing.{members_at}
use Rattle.cd_core.specs.Asks.{Answers, EachAnswers, member_ask, task_of}
use Rattle.cd_core.specs.Resuming.{CanTake, CanTakeEach, all_done, escalation, first_escalation, nodes_of}
use Rattle.cd_core.specs.Steps.{IsEnded, IsWaiting, waits_at}
use Rattle.cd_core.specs.Tasks.{Task, task_case}
use Rattle.cd_core.specs.Returning.{AllEnded, ArrivedCanBeTaken}
use Rattle.cd_core.proofs.Facts.{reach_is}
use Rattle.cd_core.proofs.FitsTaken.{FitsAs, fits_as, members_are}
use Rattle.cd_core.proofs.Grounds.{view_in, body_in}
use Rattle.cd_core.proofs.Members.{MemberOf, group_members}
use Rattle.cd_core.proofs.MembersBack.{ended_so, here_where_done, need_at, none_lost, none_of}

-- ---- one of them

one_domain : (one two : Node) → ◌≡◌ {A = Option Node} (Some one) (Some two) → one ≡ two
one_domain one two e = cc

-- a member whose places are away from the domain that waits for it, with room for what it gives back
one_arrived : (plan : PlanModel) (faults : List Fault) (loaded : Words) (s child : StateModel) (entries : List Entry) (commit : Bool)
    → (m : MemberOf plan s.node entries child.node) → s.field.script ≡ faults
    → Answers plan faults loaded (member_ask plan s child.node (view_in plan.tree child.node m.own)) child → IsEnded child.stage
    → ((q : Place) → node_writes (view_in plan.tree child.node m.own) q ≡ true → s.field.lost q ≡ true)
    → (commit ≡ true → escalation child.stage ≡ None)
    → s.pass.held + s.pass.room + need_of plan.tree.domains child.node ≤ s.pass.most → CanTake plan s commit child
one_arrived plan faults loaded s child entries commit m script a ends away done few =
    let d : Node = view_in plan.tree child.node m.own in
    let S : Node → Type 0 = λ x. Stands plan (task_of plan faults loaded (member_ask plan s child.node d) x) child in
    let stands : S d = subst S (one_domain a.domain d (sym a.is ∙ m.is)) a.stands in
    let own : Node = node child.node stands.fits.domain stands.fits.body in
    let same : own ≡ d = one_domain own d (sym stands.fits.is ∙ m.is) in
    let end : (ending : Ending) × (child.stage ≡ Ended ending) = ended_so child.stage ends in
    let F : Stage → Type 0 = λ stage. FitsStage plan own stands.fits.domain child stage in
    let fits : FitsEnded plan own child end.0 = subst F end.1 stands.fits.stage in
    let need : need_of plan.tree.domains child.node ≡ node_need own = need_at plan child.node own stands.fits.is in
    let room : child.pass.room ≡ node_need own = fits.nothing.room in
    let W : Node → Type 0 = λ x. (q : Place) → in_ranges child.field.carved q ≡ node_writes x q in
    let carved : W own = subst W (sym same) stands.carved in
    let present : commit ≡ true → ArePresent child.field child.field.carved =
    λ commits q e. here_where_done plan own child end.0 fits.present (sym (ap escalation end.1) ∙ done commits) q
    (or_right (node_reads own q) (node_writes own q) (sym (carved q) ∙ e)) in
    record {
      fits = stands.fits;
      ending = end.0;
      ended = end.1;
      carved = λ other there. subst W (one_domain own other (sym stands.fits.is ∙ there)) carved;
      absorbs = record {
        script = stands.script ∙ sym script;
        away = λ q e. away q (sym (stands.carved q) ∙ e);
        present = present;
      };
      joins = record { store = a.store; nothing = fits.nothing.holds; few = omega (arith, few, need, room) };
    }

-- ---- each of them

pub each_arrived : (plan : PlanModel) (faults : List Fault) (loaded : Words) (s : StateModel) (entries : List Entry) (commit : Bool)
    (children : List StateModel) → s.field.script ≡ faults → Each (MemberOf plan s.node entries) (nodes_of children)
    → EachAnswers plan faults loaded s children → AllEnded children
    → ((q : Place) → member_writes (members_by (node_of plan.tree.domains) (nodes_of children)) q ≡ true → s.field.lost q ≡ true)
    → (commit ≡ true → first_escalation children ≡ None)
    → s.pass.held + s.pass.room + sum_by (need_of plan.tree.domains) (nodes_of children) ≤ s.pass.most → CanTakeEach plan s commit children
each_arrived plan faults loaded s entries commit [] script members answers ended away done few = tt
each_arrived plan faults loaded s entries commit (child ∷ children) script members answers ended away done few =
    let find : NodeId → Option Node = node_of plan.tree.domains in
    let first : MemberOf plan s.node entries child.node = members.0 in
    let d : Node = view_in plan.tree child.node first.own in
    let rest : Members = members_by find (nodes_of children) in
    let A : Option Node → Type 0 = λ o. (q : Place) → member_writes (put_first o rest) q ≡ true → s.field.lost q ≡ true in
    let gone : A (Some d) = subst A first.is away in
    let sum : sum_by (need_of plan.tree.domains) (child.node ∷ nodes_of children)
    ≡ need_of plan.tree.domains child.node + sum_by (need_of plan.tree.domains) (nodes_of children) =
    sum_by-cons (need_of plan.tree.domains) child.node (nodes_of children) in (
      one_arrived plan faults loaded s child entries commit first script (answers.0 d first.is) ended.0
          (λ q e. gone q (or_left (node_writes d q) (member_writes rest q) e))
          (λ e. (none_of (escalation child.stage) (first_escalation children) (done e)).0) (omega (arith, few, sum)),
      each_arrived plan faults loaded s entries commit children script members.1 answers.1 ended.1
          (λ q e. gone q (or_right (node_writes d q) (member_writes rest q) e))
          (λ e. (none_of (escalation child.stage) (first_escalation children) (done e)).1) (omega (arith, few, sum)),
    )

-- ---- the domain that waits for them

waiting_so : (stage : Stage) → IsWaiting stage → (spare : ℕ) × (point : ℕ) × (stage ≡ Waiting spare point)
waiting_so Ready waits = absurd waits
waiting_so (Waiting spare point) waits = (spare, point, refl)
waiting_so (Resumed spare point) waits = absurd waits
waiting_so (Lost spare cause over) waits = absurd waits
waiting_so (Ended ending) waits = absurd waits

-- what members write lies in the entries of their domain
writes_within : (plan : PlanModel) (parent : NodeId) (entries : List Entry) (ids : List NodeId) (q : Place) → Each (MemberOf plan parent entries) ids
    → member_writes (members_by (node_of plan.tree.domains) ids) q ≡ true → in_entries entries q ≡ true
writes_within plan parent entries [] q members e = absurd (cc)
writes_within plan parent entries (id ∷ ids) q members e =
    let d : Node = view_in plan.tree id members.0.own in
    let rest : Members = members_by (node_of plan.tree.domains) ids in
    let W : Option Node → Type 0 = λ o. member_writes (put_first o rest) q ≡ true in
    let either : (node_writes d q || member_writes rest q) ≡ true = subst W members.0.is e in
    elim (or_cases (node_writes d q) (member_writes rest q) either) [
      | inl own ↦ members.0.within q (or_right (node_reads d q) (node_writes d q) own)
      | inr other ↦ writes_within plan parent entries ids q members.1 other
    ]

same_members : (ms ns : Members) (behind rest : Body) → group ms behind ≡ group ns rest → ms ≡ ns
same_members ms ns behind rest e = cc

module _ (l : MoreLaws) (at_group : BehindIsGroup) (plan : PlanModel) (t : Task) (s : StateModel) (children : List StateModel) (domain : Domain)
    (is_plan : IsPlan plan) (st : Stands plan t s) (listed : slice_get plan.tree.domains s.node.0 ≡ Some domain) (spare point : ℕ)
    (stage : s.stage ≡ Waiting spare point) (members : nodes_of children ≡ members_at domain point) where
  abbrev d : Node
  d = view_in plan.tree s.node domain

  abbrev find : NodeId → Option Node
  find = node_of plan.tree.domains

  own : FitsAs plan s d domain
  own = fits_as l.follows plan s domain is_plan listed st.fits

  fits : FitsWaiting plan d domain s spare point
  fits = let S : Stage → Type 0 = λ x. FitsStage plan d domain s x in subst S stage own.view.stage

  stands : StandsWaiting plan t s spare point
  stands = let S : Stage → Type 0 = λ x. StandsAt plan t s x in subst S stage st.stage

  ids : nodes_of children ≡ fits.ids
  ids = members ∙ members_are domain point fits.ids fits.group

  group_is : slice_get domain.items point ≡ Some (Group (nodes_of children))
  group_is = fits.group ∙ ap (λ (is : List NodeId). Some (Group is)) (sym ids)

  view : t.domain ≡ d
  view =
      let same : find (record { 0 = number_of t.domain }) ≡ find s.node = ap (λ (n : ℕ). find (record { 0 = n })) st.domain in
      one_domain t.domain d (sym st.task.domain ∙ same ∙ l.follows plan.tree is_plan.program s.node domain listed)

  named : stands.at.members ≡ members_by find (nodes_of children)
  named =
      let Is : Node → Type 0 = λ x. front_of_node (task_case plan t) x t.counts stands.at.attempt point ≡ Some stands.at.front in
      let rest : body_behind point (body_in plan.tree domain) ≡ group stands.at.members stands.at.behind =
      sym (l.laws.stand (task_case plan t) s.node domain (body_in plan.tree domain) t.counts stands.at.attempt point stands.at.front
      (subst Is view stands.at.is)).rest ∙ stands.at.waits.comes in
      same_members stands.at.members (members_by find (nodes_of children)) stands.at.behind (body_behind (suc point) (body_in plan.tree domain))
      (sym rest ∙ at_group point find domain.items (nodes_of children) group_is)

  all_members : Each (MemberOf plan s.node domain.entries) (nodes_of children)
  all_members = group_members l plan s.node domain point (nodes_of children) is_plan listed group_is

  away : (q : Place) → member_writes (members_by find (nodes_of children)) q ≡ true → s.field.lost q ≡ true
  away q e =
      let R : Node → Type 0 = λ x. node_reach x q ≡ true in
      let within : R d = reach_is l plan s.node domain is_plan listed q ∙ writes_within plan s.node domain.entries (nodes_of children) q all_members e in
      stands.away q (subst R (sym view) within) ∙ ap (λ (ms : Members). member_writes ms q) named ∙ e

  few : s.pass.held + s.pass.room + sum_by (need_of plan.tree.domains) (nodes_of children) ≤ s.pass.most
  few =
      let sum : sum_by (need_of plan.tree.domains) (nodes_of children) ≡ sum_by (need_of plan.tree.domains) fits.ids =
      ap (sum_by (need_of plan.tree.domains)) ids in
      omega (arith, sum, fits.room, own.most)

  can_be_taken : (commit : Bool) → (commit ≡ true → first_escalation children ≡ None) → EachAnswers plan t.faults t.loaded s children
      → AllEnded children → CanTakeEach plan s commit children
  can_be_taken commit done answers ended =
      each_arrived plan t.faults t.loaded s domain.entries commit children st.script all_members answers ended away done few

pub arrived_can_be_taken : MoreLaws → BehindIsGroup → ArrivedCanBeTaken
arrived_can_be_taken l at_group plan t s children domain is_plan st waits listed members answers ended =
    let at : (spare : ℕ) × (point : ℕ) × (s.stage ≡ Waiting spare point) = waiting_so s.stage waits in
    let there : nodes_of children ≡ members_at domain at.1 =
    members ∙ ap (λ (stage : Stage). members_at domain (waits_at stage)) at.2 in
    record {
      waits = waits;
      domain = domain;
      is = listed;
      members = members;
      takes = can_be_taken l at_group plan t s children domain is_plan st listed at.0 at.1 at.2 there (all_done (first_escalation children))
          (none_lost (first_escalation children)) answers ended;
    }
