-- A domain whose members are sent stands waiting: what they write is away, all else stays, and each answers what is asked of it.
use Rattle.std.proofs.Common.{◌≡◌, ℕ, suc, ◌<◌, ◌≤◌, ◌^◌, ◌||◌, Bool, true, false, List, [], ◌∷◌, length, unwrap_or, Option, Some, None, slice_get, inl, inr, arith, refl, ap, subst, sym, ◌∙◌}
use Rattle.std.specs.Option.{option_map_or}
use Rattle.std.proofs.lemmas.Bool.{cases_lt}
use Rattle.std.proofs.lemmas.Option.{slice_get-get_or, slice_get_past}
use Rattle.cd_base.specs.declared.place.Place.{Place}
use Rattle.cd_base.specs.Words.{PlaceSet, in_ranges}
use Rattle.cd_base.proofs.BoolLemmas.{or-assoc, or-none, or-swap}
use Rattle.cd_tree.specs.declared.domain.NodeId.{NodeId}
use Rattle.cd_tree.specs.declared.domain.Item.{Item}
use Rattle.cd_tree.specs.declared.domain.Item.TheVariants.{Group}
use Rattle.cd_tree.specs.declared.domain.Domain.{Domain}
use Rattle.cd_tree.specs.CountLaws.{EachMember}
use Rattle.cd_tree.specs.Domains.{Node, Members, group, body_of, body_behind, members_by, nodes_from, node_of, put_first, root_of}
use Rattle.cd_tree.specs.FrontLaws.{StandsThere}
use Rattle.cd_tree.specs.Fronts.{front_of_node}
use Rattle.cd_tree.specs.Meaning.{member_writes, node_reach}
use Rattle.cd_tree.proofs.View.{length-nodes_from}
use Rattle.cd_foot.specs.declared.footprints.Foot.{Foot}
use Rattle.cd_field.specs.FieldModel.{FieldModel, without}
use Rattle.cd_keep.specs.PassModel.{PassModel}
use Rattle.cd_keep.specs.PassModel as passes
use Rattle.cd_cover.specs.PlanLaws.{need_of}
use Rattle.cd_cover.specs.Plans.{PlanModel, IsPlan}
use Rattle.cd_core.specs.declared.state.Stage.TheVariants.{Waiting}
use Rattle.cd_core.specs.declared.verdict.Verdict.TheVariants.{Waits as waits}
use Rattle.cd_core.specs.Advancing.{all_sent, field_behind, members_at, members_of_item, pass_behind}
use Rattle.cd_core.specs.Asks.{EachAnswers, foot_of}
use Rattle.cd_core.specs.Fits.{Fits}
use Rattle.cd_core.specs.StateLaws.{SendingFits, SendingStands, StandsApart, StandsTried, waiting_for}
use Rattle.cd_core.specs.StateModel.{StateModel}
use Rattle.cd_core.specs.Stands.{Stands}
use Rattle.cd_core.specs.Steps.{AllFit}
use Rattle.cd_core.specs.Tasks.{IsTask, Task, task_case, task_reading}
use Rattle.cd_core.specs.Trying.{FitsTried}
use Rattle.cd_core.proofs.AskedMembers.{IsAsked, all_asked}
use Rattle.cd_core.proofs.Asking.{AskLaws, Waits, each_answers}
use Rattle.cd_core.proofs.Grounds.{body_in, view_in}
use Rattle.cd_core.proofs.Viewed.{foot_is, view_is}

-- ---- what members take away

-- sending members changes which places are away, and nothing else of the machine
sent_field : (plan : PlanModel) (ids : List NodeId) (m : FieldModel) → field_behind plan ids m ≡ record m { lost = (field_behind plan ids m).lost }
sent_field plan [] m = refl
sent_field plan (id ∷ ids) m = sent_field plan ids (without m (foot_of plan id).writes)

-- and how much room the pass has, and nothing else of it
sent_pass : (plan : PlanModel) (ids : List NodeId) (p : PassModel) → pass_behind plan ids p ≡ record p { room = (pass_behind plan ids p).room }
sent_pass plan [] p = refl
sent_pass plan (id ∷ ids) p = sent_pass plan ids (passes.without p (need_of plan.tree.domains id))

-- a number that no domain has touches nothing
no_writes : (plan : PlanModel) (id : NodeId) (p : Place) → IsPlan plan → node_of plan.tree.domains id ≡ None → in_ranges (foot_of plan id).writes p ≡ false
no_writes plan id p is_plan none =
    let blank : Foot = record { reads = []; writes = []; reach = [] } in
    let size : length plan.feet ≡ length plan.tree.domains = is_plan.footprints.size in
    let many : length (nodes_from 0 plan.tree.domains) ≡ length plan.tree.domains = length-nodes_from 0 plan.tree.domains in
    elim (cases_lt id.0 (length plan.tree.domains)) [
      | inl within ↦
          let found : slice_get (nodes_from 0 plan.tree.domains) id.0 ≡ Some _ =
          slice_get-get_or (nodes_from 0 plan.tree.domains) id.0 (root_of plan.tree.domains) (omega (arith, many, within)) in
          absurd (cc)
      | inr past ↦
          ap (λ (o : Option Foot). in_ranges (unwrap_or o blank).writes p) (slice_get_past plan.feet id.0 (omega (arith, size, past)))
    ]

writes_of : (plan : PlanModel) (id : NodeId) (found : Option Node) (rest : Members) (p : Place) → IsPlan plan → node_of plan.tree.domains id ≡ found
    → member_writes (put_first found rest) p ≡ (in_ranges (foot_of plan id).writes p || member_writes rest p)
writes_of plan id None rest p is_plan is =
    ap (λ (b : Bool). b || member_writes rest p) (sym (no_writes plan id p is_plan is))
writes_of plan id (Some d) rest p is_plan is =
    ap (λ (b : Bool). b || member_writes rest p) (sym ((foot_is plan id d is_plan is).writes p))

-- what the members write is away
taken_away : (plan : PlanModel) (ids : List NodeId) (m : FieldModel) (p : Place) → IsPlan plan
    → (field_behind plan ids m).lost p ≡ (member_writes (members_by (node_of plan.tree.domains) ids) p || m.lost p)
taken_away plan [] m p is_plan = refl
taken_away plan (id ∷ ids) m p is_plan =
    let rest : Members = members_by (node_of plan.tree.domains) ids in
    let own : Bool = in_ranges (foot_of plan id).writes p in
    taken_away plan ids (without m (foot_of plan id).writes) p is_plan
    ∙ or-swap (member_writes rest p) own (m.lost p) ∙ sym (or-assoc own (member_writes rest p) (m.lost p))
    ∙ ap (λ (b : Bool). b || m.lost p) (sym (writes_of plan id (node_of plan.tree.domains id) rest p is_plan refl))

-- ---- the group at which it waits

module _ (a : AskLaws) (plan : PlanModel) (is_plan : IsPlan plan) (t : Task) (s : StateModel) (domain : Domain) (spare point : ℕ)
    (listed : slice_get plan.tree.domains s.node.0 ≡ Some domain) (task : IsTask plan t) (apart : StandsApart plan t s)
    (tried : FitsTried plan t.domain domain s (waits spare point)) (stands : StandsTried plan t s spare point) where
  abbrev ids : List NodeId
  ids = members_at domain point

  abbrev named : Members
  named = members_by (node_of plan.tree.domains) ids

  view : t.domain ≡ view_in plan.tree s.node domain
  view = view_is a.more.follows plan s.node domain t.domain is_plan listed tried.is

  -- the group of the list, and where the front stands at it
  group_there : slice_get domain.items point ≡ Some (Group ids)
  group_there =
      let same : ids ≡ tried.leaves.ids = ap (λ (o : Option Item). option_map_or members_of_item o []) tried.leaves.group in
      tried.leaves.group ∙ ap (λ (members : List NodeId). Some (Group members)) (sym same)

  there : StandsThere (task_case plan t) s.node domain (body_in plan.tree domain) t.counts stands.at.attempt point stands.at.front.answer stands.at.front.counts
  there =
      let Is : Node → Type 0 = λ d. front_of_node (task_case plan t) d t.counts stands.at.attempt point ≡ Some stands.at.front in
      a.more.laws.stand (task_case plan t) s.node domain (body_in plan.tree domain) t.counts stands.at.attempt point stands.at.front
      (subst Is view stands.at.is)

  -- so the front's members are those that the group names
  members_named : stands.at.members ≡ named
  members_named =
      let both : group stands.at.members stands.at.behind ≡ group named (body_behind (suc point) (body_in plan.tree domain)) =
      sym stands.at.waits.comes ∙ there.rest ∙ a.group point (node_of plan.tree.domains) domain.items ids group_there in
      cc

  group_next : body_behind point (body_of t.domain) ≡ group stands.at.members stands.at.behind
  group_next = ap (λ (d : Node). body_behind point (body_of d)) view ∙ sym there.rest ∙ stands.at.waits.comes

  -- the counts at the front are small, and each member's facts are there
  few : (n : ℕ) → stands.at.front.counts n < 2 ^ 64
  few n =
      let less : stands.at.front.counts n ≤ (task_reading plan t).counts n =
      (a.more.laws.between (task_case plan t) t.domain t.counts stands.at.attempt point stands.at.front n stands.at.is).1 in
      omega (arith, less, task.small n)

  each_asked : EachMember (IsAsked (task_case plan t) t.domain stands.at.front.counts) named
  each_asked =
      let Each : Members → Type 0 = λ members. EachMember (IsAsked (task_case plan t) t.domain stands.at.front.counts) members in
      subst Each members_named
      (all_asked a.below a.groups (task_case plan t) t.domain t.counts stands.at.attempt point stands.at.front stands.at.members stands.at.behind
      (a.more.distinct plan.tree is_plan.program s.node t.domain tried.is) stands.at.is stands.at.waits group_next task.small)

  -- with these places away and this room it stands waiting
  waiting : (away : PlaceSet) (room : ℕ)
      → Fits plan (record s { stage = Waiting spare point; field = record s.field { lost = away }; pass = record s.pass { room = room } })
      → ((p : Place) → node_reach t.domain p ≡ true → away p ≡ member_writes stands.at.members p)
      → Stands plan t (record s { stage = Waiting spare point; field = record s.field { lost = away }; pass = record s.pass { room = room } })
  waiting away room fits lost = record {
    task = task;
    fits = fits;
    domain = apart.domain;
    script = apart.script;
    carved = apart.carved;
    lapses = apart.lapses;
    links = apart.links;
    stage = record {
      sent = record { begin = stands.sent.begin; keeps = stands.sent.keeps };
      at = stands.at;
      legal = stands.legal;
      notes = stands.notes;
      counts = stands.counts;
      away = lost;
      words = stands.words;
    };
  }

  -- what the members write is away there, and nothing else
  taken : (p : Place) → node_reach t.domain p ≡ true → (field_behind plan ids s.field).lost p ≡ member_writes stands.at.members p
  taken p h =
      taken_away plan ids s.field p is_plan ∙ ap (λ (b : Bool). member_writes named p || b) (stands.present p h).here
      ∙ or-none (member_writes named p) ∙ ap (λ (members : Members). member_writes members p) (sym members_named)

  -- so the domain stands as its members are sent, and each of them answers
  sent_stands : Fits plan (waiting_for plan s ids spare point) → AllFit plan (all_sent plan s ids s.field s.pass)
      → Stands plan t (waiting_for plan s ids spare point)
      × EachAnswers plan t.faults t.loaded (waiting_for plan s ids spare point) (all_sent plan s ids s.field s.pass)
  sent_stands fits all_fit =
      let m : FieldModel = field_behind plan ids s.field in
      let p : PassModel = pass_behind plan ids s.pass in
      let n : FieldModel = record s.field { lost = m.lost } in
      let q : PassModel = record s.pass { room = p.room } in
      let at : FieldModel → PassModel → StateModel = λ x y. record s { stage = Waiting spare point; field = x; pass = y } in
      let FitsField : FieldModel → Type 0 = λ x. Fits plan (at x p) in
      let FitsPass : PassModel → Type 0 = λ y. Fits plan (at n y) in
      let Both : FieldModel → PassModel → Type 0 = λ x y.
      Stands plan t (at x y) × EachAnswers plan t.faults t.loaded (at x y) (all_sent plan s ids s.field s.pass) in
      let Field : FieldModel → Type 0 = λ x. Both x p in
      let Pass : PassModel → Type 0 = λ y. Both n y in
      let w : Waits plan t s stands.at.front.counts =
      record { task = task; domain = apart.domain; script = apart.script; counts = stands.counts; few = few } in
      subst Field (sym (sent_field plan ids s.field)) (subst Pass (sym (sent_pass plan ids s.pass)) (
        waiting m.lost p.room (subst FitsPass (sent_pass plan ids s.pass) (subst FitsField (sent_field plan ids s.field) fits)) taken,
        each_answers a plan is_plan t s stands.at.front.counts w spare point m.lost p.room ids s.field.lost s.pass.room all_fit each_asked,
      ))

-- the law: a domain stands as it sends its members, and each answers what is asked of it
pub sends_stand : AskLaws → SendingFits → SendingStands
sends_stand a sends_fit plan t s domain spare point is_plan task listed apart tried stands =
    let fits : Fits plan (waiting_for plan s (members_at domain point) spare point) × AllFit plan (all_sent plan s (members_at domain point) s.field s.pass) =
    sends_fit plan s t.domain domain spare point is_plan listed tried in
    sent_stands a plan is_plan t s domain spare point listed task apart tried stands fits.0 fits.1
