-- The members that a domain sent, come back: each can be taken, and answers what was asked of it as it was sent.
use Rattle.std.proofs.Common.{◌≡◌, ℕ, ◌+◌, ◌≤◌, Bool, true, List, [], ◌∷◌, Option, None, Some, slice_get, sum_by, refl, ap, subst, sym, ◌∙◌, arith}
use Rattle.std.specs.Option.{option_map_or}
use Rattle.std.proofs.lemmas.Bool.{or_left, or_right}
use Rattle.std.proofs.lemmas.List.Sums.{sum_by-cons}
use Rattle.cd_base.specs.declared.place.Place.{Place}
use Rattle.cd_base.specs.declared.place.Range.{Range}
use Rattle.cd_base.specs.Words.{Words, in_ranges}
use Rattle.cd_tree.specs.declared.domain.NodeId.{NodeId}
use Rattle.cd_tree.specs.declared.domain.Domain.{Domain}
use Rattle.cd_tree.specs.declared.document.Fault.{Fault}
use Rattle.cd_tree.specs.declared.event.Cause.{Cause}
use Rattle.cd_tree.specs.Domains.{Node, node, node_of}
use Rattle.cd_tree.specs.Laws.{NestedViewFollows}
use Rattle.cd_tree.specs.Meaning.{node_need, node_reads, node_writes}
use Rattle.cd_field.specs.FieldModel.{FieldModel, ArePresent, without}
use Rattle.cd_keep.specs.PassModel.{PassModel}
use Rattle.cd_keep.specs.PassModel as passes
use Rattle.cd_cover.specs.PlanLaws.{need_of}
use Rattle.cd_cover.specs.Plans.{PlanModel, IsPlan}
use Rattle.cd_tries.specs.declared.keep.Keep.{Keep}
use Rattle.cd_core.specs.declared.state.Ending.{Ending}
use Rattle.cd_core.specs.declared.state.Ending.TheVariants.{Done, Escalated}
use Rattle.cd_core.specs.declared.state.Stage.{Stage}
use Rattle.cd_core.specs.declared.state.Stage.TheVariants.{Ready, Waiting, Resumed, Lost, Ended}
use Rattle.cd_core.specs.declared.verdict.Verdict.{Verdict}
use Rattle.cd_core.specs.declared.verdict.Verdict.TheVariants.{Waits, Completes, Escalates}
use Rattle.cd_core.specs.StateModel.{StateModel}
use Rattle.cd_core.specs.Fits.{FitsEnded, FitsStage, FitsWaiting, IsHere, IsHereAtEnd}
use Rattle.cd_core.specs.Advancing.{all_sent, field_behind, members_at, pass_behind, sent, state_behind, state_sending}
use Rattle.cd_core.specs.Asks.{Answers, foot_of, member_ask, task_of}
use Rattle.cd_core.specs.Resuming.{CanTake, CanTakeEach, all_done, escalation, first_escalation, nodes_of, with_more}
use Rattle.cd_core.specs.Steps.{AdvancesBy, IsEnded, IsWaiting, StepIs, sends, waits_at}
use Rattle.cd_core.specs.Returning.{CameBack, EachCameBack, MembersAnswerStill, MembersCanComeBack}
use Rattle.cd_core.proofs.Apartness.{field_stays, pass_stays}
use Rattle.cd_core.proofs.FitsTaken.{FitsAs, fits_as, members_are}
use Rattle.cd_core.proofs.Grounds.{view_in}
use Rattle.cd_core.proofs.Viewed.{foot_is}

-- ---- the state that sent them

-- it waits at a group, and these are the group's members as they were sent, from the machine and the pass of one moment
pub record HasSent (plan : PlanModel) (s : StateModel) (states : List StateModel) : Type 0 where
  pub domain : Domain
  pub listed : slice_get plan.tree.domains s.node.0 ≡ Some domain
  pub spare : ℕ
  pub point : ℕ
  pub stage : s.stage ≡ Waiting spare point
  pub sending : StateModel
  pub members : states ≡ all_sent plan sending (members_at domain point) sending.field sending.pass
  pub field : s.field ≡ field_behind plan (members_at domain point) sending.field
  pub pass : s.pass ≡ pass_behind plan (members_at domain point) sending.pass

by_verdict : (plan : PlanModel) (domain : Domain) (old new : StateModel) (keeps : List Keep) (q : PassModel) (begin : ℕ) (m : FieldModel)
    (verdict : Verdict) (states : List StateModel) → slice_get plan.tree.domains old.node.0 ≡ Some domain
    → new ≡ state_behind plan domain old keeps q begin m verdict
    → StepIs plan domain (state_sending old keeps begin m q) verdict (sends states) → HasSent plan new states
by_verdict plan domain old new keeps q begin m (Waits spare point) states listed is answer =
    let S : StateModel → Type 0 = λ x. HasSent plan x states in
    subst S (sym is) (record {
      domain = domain;
      listed = listed;
      spare = spare;
      point = point;
      stage = refl;
      sending = state_sending old keeps begin m q;
      members = answer;
      field = refl;
      pass = refl;
    })
by_verdict plan domain old new keeps q begin m (Completes leak) states listed is answer = absurd answer
by_verdict plan domain old new keeps q begin m (Escalates cause over) states listed is answer = absurd answer

pub has_sent : (plan : PlanModel) (old new : StateModel) (states : List StateModel) → AdvancesBy plan old new (sends states) → HasSent plan new states
has_sent plan old new states a =
    by_verdict plan a.domain old new a.keeps a.pass a.judged.begin a.judged.field a.judged.verdict states a.is a.behind a.answer

-- what is away stays away while others are sent
lost_still : (plan : PlanModel) (ids : List NodeId) (m : FieldModel) (p : Place) → m.lost p ≡ true → (field_behind plan ids m).lost p ≡ true
lost_still plan [] m p lost = lost
lost_still plan (id ∷ ids) m p lost =
    lost_still plan ids (without m (foot_of plan id).writes) p (or_right (in_ranges (foot_of plan id).writes p) (m.lost p) lost)

-- ---- how they ended

pub ended_so : (stage : Stage) → IsEnded stage → (ending : Ending) × (stage ≡ Ended ending)
ended_so Ready ends = absurd ends
ended_so (Waiting spare point) ends = absurd ends
ended_so (Resumed spare point) ends = absurd ends
ended_so (Lost spare cause over) ends = absurd ends
ended_so (Ended ending) ends = (ending, refl)

-- where no member escalated, this one did not, and none after it
pub none_of : (one rest : Option (Cause × ℕ)) → with_more one rest ≡ None → (one ≡ None) × (rest ≡ None)
none_of None rest none = (refl, none)
none_of (Some first) None none = absurd (cc)
none_of (Some (cause, over)) (Some (other, more)) none = absurd (cc)

pub none_lost : (lost : Option (Cause × ℕ)) → all_done lost ≡ true → lost ≡ None
none_lost None done = refl
none_lost (Some first) done = absurd (cc)

pub here_where_done : (plan : PlanModel) (d : Node) (s : StateModel) (ending : Ending) → IsHereAtEnd plan d s ending → escalation (Ended ending) ≡ None
    → IsHere d s.field
here_where_done plan d s (Done leak) here none = here
here_where_done plan d s (Escalated cause over) here none = absurd (cc)

-- ---- one of them

pub need_at : (plan : PlanModel) (id : NodeId) (d : Node) → node_of plan.tree.domains id ≡ Some d → need_of plan.tree.domains id ≡ node_need d
need_at plan id d is = ap (λ (o : Option Node). option_map_or node_need o 0) is

-- a member that was sent when machine and pass were these, before the members of these numbers
one_can : (plan : PlanModel) (s sending : StateModel) (id : NodeId) (ids : List NodeId) (m : FieldModel) (p : PassModel) (child : StateModel)
    (commit : Bool) → IsPlan plan → s.field ≡ field_behind plan (id ∷ ids) m → s.pass ≡ pass_behind plan (id ∷ ids) p
    → CameBack plan (sent plan sending id m p) child → (commit ≡ true → escalation child.stage ≡ None)
    → s.pass.held + s.pass.room + need_of plan.tree.domains id ≤ s.pass.most → CanTake plan s commit child
one_can plan s sending id ids m p child commit is_plan field pass back done few =
    let d : Node = node child.node back.fits.domain back.fits.body in
    let end : (ending : Ending) × (child.stage ≡ Ended ending) = ended_so child.stage back.ended in
    let S : Stage → Type 0 = λ stage. FitsStage plan d back.fits.domain child stage in
    let fits : FitsEnded plan d child end.0 = subst S end.1 back.fits.stage in
    let same : s.field ≡ record m { lost = (field_behind plan (id ∷ ids) m).lost } = field ∙ field_stays plan (id ∷ ids) m in
    let also : s.pass ≡ record p { room = (pass_behind plan (id ∷ ids) p).room } = pass ∙ pass_stays plan (id ∷ ids) p in
    let need : need_of plan.tree.domains id ≡ node_need d =
    ap (λ (x : NodeId). need_of plan.tree.domains x) (sym back.stays.node) ∙ need_at plan child.node d back.fits.is in
    let room : child.pass.room ≡ node_need d = fits.nothing.room in
    let carved : (q : Place) → in_ranges child.field.carved q ≡ in_ranges (foot_of plan id).writes q =
    λ q. ap (λ (ranges : List Range). in_ranges ranges q) back.stays.carved in
    let own : (other : Node) → node_of plan.tree.domains child.node ≡ Some other → (q : Place) → in_ranges child.field.carved q ≡ node_writes other q =
    λ other there q. carved q
    ∙ (foot_is plan id other is_plan (subst (λ (x : NodeId). node_of plan.tree.domains x ≡ Some other) back.stays.node there)).writes q in
    let L : FieldModel → Type 0 = λ x. (q : Place) → in_ranges child.field.carved q ≡ true → x.lost q ≡ true in
    let away : L (field_behind plan (id ∷ ids) m) =
    λ q e. lost_still plan ids (without m (foot_of plan id).writes) q (or_left (in_ranges (foot_of plan id).writes q) (m.lost q) (sym (carved q) ∙ e)) in
    let present : commit ≡ true → ArePresent child.field child.field.carved =
    λ commits q e. here_where_done plan d child end.0 fits.present (sym (ap escalation end.1) ∙ done commits) q
    (or_right (node_reads d q) (node_writes d q) (sym (own d back.fits.is q) ∙ e)) in
    record {
      fits = back.fits;
      ending = end.0;
      ended = end.1;
      carved = own;
      absorbs = record {
        script = back.stays.script ∙ sym (ap (λ (x : FieldModel). x.script) same);
        away = subst L (sym field) away;
        present = present;
      };
      joins = record {
        store = back.stays.store ∙ sym (ap (λ (x : PassModel). x.store) also);
        nothing = fits.nothing.holds;
        few = omega (arith, few, need, room);
      };
    }

-- ---- each of them

each_can : (plan : PlanModel) (s sending : StateModel) (ids : List NodeId) (m : FieldModel) (p : PassModel) (children : List StateModel)
    (commit : Bool) → IsPlan plan → s.field ≡ field_behind plan ids m → s.pass ≡ pass_behind plan ids p
    → EachCameBack plan (all_sent plan sending ids m p) children → (commit ≡ true → first_escalation children ≡ None)
    → s.pass.held + s.pass.room + sum_by (need_of plan.tree.domains) ids ≤ s.pass.most
    → CanTakeEach plan s commit children × (nodes_of children ≡ ids)
each_can plan s sending [] m p [] commit is_plan field pass back done few = (tt, refl)
each_can plan s sending [] m p (child ∷ children) commit is_plan field pass back done few = absurd back
each_can plan s sending (id ∷ ids) m p [] commit is_plan field pass back done few = absurd back
each_can plan s sending (id ∷ ids) m p (child ∷ children) commit is_plan field pass back done few =
    let sum : sum_by (need_of plan.tree.domains) (id ∷ ids) ≡ need_of plan.tree.domains id + sum_by (need_of plan.tree.domains) ids =
    sum_by-cons (need_of plan.tree.domains) id ids in
    let rest : CanTakeEach plan s commit children × (nodes_of children ≡ ids) =
    each_can plan s sending ids (without m (foot_of plan id).writes) (passes.without p (need_of plan.tree.domains id)) children commit is_plan
    field pass back.1 (λ e. (none_of (escalation child.stage) (first_escalation children) (done e)).1) (omega (arith, few, sum)) in (
      (
        one_can plan s sending id ids m p child commit is_plan field pass back.0
            (λ e. (none_of (escalation child.stage) (first_escalation children) (done e)).0) (omega (arith, few, sum)),
        rest.0,
      ),
      ap (λ (x : NodeId). x ∷ nodes_of children) back.0.stays.node ∙ ap (λ (xs : List NodeId). id ∷ xs) rest.1,
    )

pub members_can_come_back : NestedViewFollows → MembersCanComeBack
members_can_come_back follows plan old new states children is_plan advances f back =
    let h : HasSent plan new states = has_sent plan old new states advances in
    let ids : List NodeId = members_at h.domain h.point in
    let d : Node = view_in plan.tree new.node h.domain in
    let own : FitsAs plan new d h.domain = fits_as follows plan new h.domain is_plan h.listed f in
    let S : Stage → Type 0 = λ stage. FitsStage plan d h.domain new stage in
    let waits : FitsWaiting plan d h.domain new h.spare h.point = subst S h.stage own.view.stage in
    let sum : sum_by (need_of plan.tree.domains) ids ≡ sum_by (need_of plan.tree.domains) waits.ids =
    ap (sum_by (need_of plan.tree.domains)) (members_are h.domain h.point waits.ids waits.group) in
    let B : List StateModel → Type 0 = λ xs. EachCameBack plan xs children in
    let all : CanTakeEach plan new (all_done (first_escalation children)) children × (nodes_of children ≡ ids) =
    each_can plan new h.sending ids h.sending.field h.sending.pass children (all_done (first_escalation children)) is_plan h.field h.pass
    (subst B h.members back) (none_lost (first_escalation children)) (omega (arith, sum, waits.room, own.most)) in
    record {
      waits = subst IsWaiting (sym h.stage) tt;
      domain = h.domain;
      is = h.listed;
      members = all.1 ∙ sym (ap (λ (stage : Stage). members_at h.domain (waits_at stage)) h.stage);
      takes = all.0;
    }

-- ---- what they answer

one_answers : (plan : PlanModel) (faults : List Fault) (loaded : Words) (s one child : StateModel) (d : Node) → CameBack plan one child
    → Answers plan faults loaded (member_ask plan s one.node d) one → Answers plan faults loaded (member_ask plan s child.node d) child
one_answers plan faults loaded s one child d back a =
    let A : NodeId → Type 0 = λ id. Answers plan faults loaded (member_ask plan s id d) child in
    subst A (sym back.stays.node) (record {
      domain = a.domain;
      is = a.is;
      stands = back.stands (task_of plan faults loaded (member_ask plan s one.node d) a.domain) a.stands;
      store = back.stays.store ∙ a.store;
    })

pub members_answer_still : MembersAnswerStill
members_answer_still plan faults loaded s [] [] back answers = tt
members_answer_still plan faults loaded s [] (child ∷ children) back answers = absurd back
members_answer_still plan faults loaded s (one ∷ states) [] back answers = absurd back
members_answer_still plan faults loaded s (one ∷ states) (child ∷ children) back answers = (
  λ d there. one_answers plan faults loaded s one child d back.0
      (answers.0 d (subst (λ (id : NodeId). node_of plan.tree.domains id ≡ Some d) back.0.stays.node there)),
  members_answer_still plan faults loaded s states children back.1 answers.1,
)
