-- A turn of one worker alone: the domain in hand comes to a group, or ends, or goes on with the members that have come back.
use Rattle.std.proofs.Common.{◌≡◌, ℕ, zero, suc, ◌<◌, arith, MatchOption, List, [], ◌∷◌, Option, None, Some, map, slice_get, refl, ap, sym, subst, ◌∙◌}
use Rattle.std.specs.Option.{option_map_or}
use Rattle.cd_base.specs.Words.{Words}
use Rattle.cd_tree.specs.declared.document.Fault.{Fault}
use Rattle.cd_tree.specs.declared.domain.Domain.{Domain}
use Rattle.cd_tree.specs.declared.domain.NodeId.{NodeId}
use Rattle.cd_tree.specs.Domains.{Node, node, node_of}
use Rattle.cd_tree.specs.Laws.{NestedViewFollows}
use Rattle.cd_field.specs.FieldModel.{FieldModel}
use Rattle.cd_keep.specs.PassModel.{PassModel}
use Rattle.cd_keep.specs.PassModel as passes
use Rattle.cd_cover.specs.PlanLaws.{need_of}
use Rattle.cd_cover.specs.Plans.{PlanModel, IsPlan}
use Rattle.cd_core.specs.declared.ask.Ask.{Ask}
use Rattle.cd_core.specs.declared.state.NodeState.{NodeState}
use Rattle.cd_core.specs.declared.state.Stage.{Stage}
use Rattle.cd_core.specs.declared.state.Stage.TheVariants.{Ready}
use Rattle.cd_core.specs.Advancing.{all_sent, members_at}
use Rattle.cd_core.specs.Asks.{Answers, EachAnswers, IsOfStore, foot_of, member_ask, task_of}
use Rattle.cd_core.specs.Resuming.{nodes_of}
use Rattle.cd_core.specs.Returning.{AllEnded, ArrivedCanBeTaken, Stays}
use Rattle.cd_core.specs.StateLaws.{TakesBack}
use Rattle.cd_core.specs.Stands.{Stands}
use Rattle.cd_core.specs.StateModel.{StateModel, state_model}
use Rattle.cd_core.specs.Steps.{AdvancesBy, AllFit, IsEnded, IsWaiting, sends, waits_at}
use Rattle.cd_core.specs.Tasks.{Task}
use Rattle.cd_core.proofs.MembersBack.{HasSent, has_sent}
use Rattle.cd_field.specs.FieldModel.{without}
use Rattle.cd_tree.specs.SliceLaws.{MembersAreChildren}
use Rattle.cd_tree.proofs.View.{first_has_none}
use Rattle.cd_cells.specs.declared.cell_pass.CellPass.{CellPass}
use Rattle.cd_cells.specs.declared.start.Start.{Start}
use Rattle.cd_cells.specs.Passes.{key_of}
use Rattle.cd_cells.specs.Working.{EachReadyFor, Ends, CanGoOn, HasResumed, Sends, WaitsFor, Works, plan_of, was_of}
use Rattle.cd_cells.specs.States.{Rests, ask_of, group_of, numbers_of, parent_of, states_of}
use Rattle.cd_cells.specs.Arrivals.{EndedEach}
use Rattle.cd_cells.proofs.StatesLawful.{WaitsIn, ask_named, group_as, of_ask, waits_in}
use Rattle.cd_cells.proofs.Siblings.{has_parent}

-- ---- what stays answers still

of_store : (store : Option ℕ) (old new : StateModel) → new.pass.store ≡ old.pass.store → IsOfStore store old → IsOfStore store new
of_store None old new same is = tt
of_store (Some store) old new same is = same ∙ is

pub answers_on : (plan : PlanModel) (faults : List Fault) (loaded : Words) (ask : Ask) (old new : StateModel) → Stays old new
    → (a : Answers plan faults loaded ask old) → Stands plan (task_of plan faults loaded ask a.domain) new → Answers plan faults loaded ask new
answers_on plan faults loaded ask old new stays a stands =
    record { domain = a.domain; is = a.is; stands = stands; store = of_store ask.store old new stays.store a.store }

-- ---- at a group

-- members as they are sent are ready, and are those of the group
sent_nodes : (plan : PlanModel) (s : StateModel) (ids : List NodeId) (m : FieldModel) (p : PassModel) → nodes_of (all_sent plan s ids m p) ≡ ids
sent_nodes plan s [] m p = refl
sent_nodes plan s (id ∷ ids) m p =
    ap (λ (rest : List NodeId). id ∷ rest)
    (sent_nodes plan s ids (without m (foot_of plan id).writes) (passes.without p (need_of plan.tree.domains id)))

abbrev pub AllReady : List StateModel → Type 0
AllReady [] = Unit {0}
AllReady (s ∷ states) = (s.stage ≡ Ready) × AllReady states

sent_ready : (plan : PlanModel) (s : StateModel) (ids : List NodeId) (m : FieldModel) (p : PassModel) → AllReady (all_sent plan s ids m p)
sent_ready plan s [] m p = tt
sent_ready plan s (id ∷ ids) m p =
    (refl, sent_ready plan s ids (without m (foot_of plan id).writes) (passes.without p (need_of plan.tree.domains id)))

numbers_as : {F P : Type 0} (field : F → FieldModel) (pass : P → PassModel) (children : List (NodeState F P))
    → map (λ (child : NodeState F P). child.node.0) children ≡ numbers_of (nodes_of (map (state_model field pass) children))
numbers_as field pass [] = refl
numbers_as field pass (child ∷ children) = ap (λ (ns : List ℕ). child.node.0 ∷ ns) (numbers_as field pass children)

pub group_sent : {F P : Type 0} (field : F → FieldModel) (pass : P → PassModel) (plan : PlanModel) (old new : StateModel) (children : List (NodeState F P))
    → AdvancesBy plan old new (sends (map (state_model field pass) children))
    → (map (λ (child : NodeState F P). child.node.0) children ≡ group_of plan new) × AllReady (map (state_model field pass) children)
group_sent field pass plan old new children advances =
    let h : HasSent plan new (map (state_model field pass) children) = has_sent plan old new (map (state_model field pass) children) advances in
    let ids : List NodeId = members_at h.domain h.point in
    let nodes : nodes_of (map (state_model field pass) children) ≡ ids =
    ap nodes_of h.members ∙ sent_nodes plan h.sending ids h.sending.field h.sending.pass in
    let group : group_of plan new ≡ numbers_of ids =
    ap (λ (o : Option Domain). option_map_or (λ (domain : Domain). numbers_of (members_at domain (waits_at new.stage))) o []) h.listed
    ∙ ap (λ (stage : Stage). numbers_of (members_at h.domain (waits_at stage))) h.stage in (
      numbers_as field pass children ∙ ap numbers_of nodes ∙ sym group,
      subst AllReady (sym h.members) (sent_ready plan h.sending ids h.sending.field h.sending.pass),
    )

-- what is asked of a domain of the program
ask_is : (plan : PlanModel) (s : StateModel) (id : NodeId) (d : Node) → node_of plan.tree.domains id ≡ Some d → ask_of plan s id.0 ≡ member_ask plan s id d
ask_is plan s id d is =
    ap (λ (o : Option Node). option_map_or (member_ask plan s id) o (record { node = id; words = []; counts = []; links = []; store = None })) is

pub each_ready : {F P : Type 0} (field : F → FieldModel) (pass : P → PassModel) (plan : PlanModel) (faults : List Fault) (loaded : Words) (s : StateModel)
    (children : List (NodeState F P)) → AllReady (map (state_model field pass) children) → AllFit plan (map (state_model field pass) children)
    → EachAnswers plan faults loaded s (map (state_model field pass) children)
    → EachReadyFor field pass plan faults loaded s children
each_ready field pass plan faults loaded s [] ready fit answers = tt
each_ready field pass plan faults loaded s (child ∷ children) ready fit answers =
    let c : StateModel = state_model field pass child in
    let d : Node = node c.node fit.0.domain fit.0.body in
    let A : Ask → Type 0 = λ ask. Answers plan faults loaded ask c in (
      (ready.0, subst A (sym (ask_is plan s c.node d fit.0.is)) (answers.0 d fit.0.is)),
      each_ready field pass plan faults loaded s children ready.1 fit.1 answers.1,
    )

-- ---- members that have come back

-- the states of members that have ended, each as it is asked for
pub record CameBack (plan : PlanModel) (faults : List Fault) (loaded : Words) (s : StateModel) (group : List ℕ) (children : List StateModel) : Type 0 where
  pub numbers : numbers_of (nodes_of children) ≡ group
  pub ended : AllEnded children
  pub answers : EachAnswers plan faults loaded s children

pub came_back : {T : Type 0} (model : T → StateModel) (plan : PlanModel) (faults : List Fault) (loaded : Words) (parent : T) (group : List ℕ) (members : List T)
    → EndedEach (states_of model plan faults loaded) parent group members → CameBack plan faults loaded (model parent) group (map model members)
came_back {T} model plan faults loaded parent [] [] each = record { numbers = refl; ended = tt; answers = tt }
came_back {T} model plan faults loaded parent [] (t ∷ members) each = absurd each
came_back {T} model plan faults loaded parent (m ∷ group) [] each = absurd each
came_back {T} model plan faults loaded parent (m ∷ group) (t ∷ members) each =
    let rest : CameBack plan faults loaded (model parent) group (map model members) =
    came_back model plan faults loaded parent group members each.1 in
    let number : (model t).node.0 ≡ m =
    of_ask plan faults loaded (ask_of plan (model parent) m) (model t) each.0.1 ∙ ask_named plan (model parent) m in
    let A : ℕ → Type 0 = λ n. Answers plan faults loaded (ask_of plan (model parent) n) (model t) in
    let B : Ask → Type 0 = λ ask. Answers plan faults loaded ask (model t) in
    record {
      numbers = ap (λ (n : ℕ). n ∷ numbers_of (nodes_of (map model members))) number ∙ ap (λ (ns : List ℕ). m ∷ ns) rest.numbers;
      ended = (each.0.0, rest.ended);
      answers = (λ d is. subst B (ask_is plan (model parent) (model t).node d is) (subst A (sym number) each.0.1), rest.answers);
    }

-- domains with these numbers are these
pub same_ids : (one other : List NodeId) → numbers_of one ≡ numbers_of other → one ≡ other
same_ids [] [] e = refl
same_ids [] (id ∷ other) e = absurd (cc)
same_ids (id ∷ one) [] e = absurd (cc)
same_ids (id ∷ one) (two ∷ other) e =
    let first : id.0 ≡ two.0 = cc in
    let rest : numbers_of one ≡ numbers_of other = cc in
    ap (λ (n : ℕ). record { 0 = n } ∷ one) first ∙ ap (λ (ids : List NodeId). two ∷ ids) (same_ids one other rest)

-- a domain that waits can take them back
pub taken_back : ArrivedCanBeTaken → NestedViewFollows → {F P : Type 0} (field : F → FieldModel) (pass : P → PassModel) (plan : PlanModel) (faults : List Fault)
    (loaded : Words) (ask : Ask) (above : NodeState F P) (members : List (NodeState F P)) → IsPlan plan → WaitsFor field pass plan faults loaded ask above members
    → TakesBack plan (state_model field pass above) (map (state_model field pass) members)
taken_back law follows {F} {P} field pass plan faults loaded ask above members is_plan w =
    let model : NodeState F P → StateModel = state_model field pass in
    let s : StateModel = model above in
    let in_group : WaitsIn plan s = waits_in follows plan faults loaded ask s is_plan w.rests in
    let came : CameBack plan faults loaded s (group_of plan s) (map model members) =
    came_back model plan faults loaded above (group_of plan s) members w.ended in
    let nodes : nodes_of (map model members) ≡ members_at in_group.domain (waits_at s.stage) =
    same_ids (nodes_of (map model members)) (members_at in_group.domain (waits_at s.stage))
    (came.numbers ∙ group_as plan s in_group ∙ ap numbers_of (sym in_group.members)) in
    let a : Answers plan faults loaded ask s = w.rests.1 in
    law plan (task_of plan faults loaded ask a.domain) s (map model members) in_group.domain is_plan a.stands w.rests.0 in_group.listed nodes came.answers came.ended

pub members_answer : {F P : Type 0} (field : F → FieldModel) (pass : P → PassModel) (plan : PlanModel) (faults : List Fault) (loaded : Words) (ask : Ask)
    (above : NodeState F P) (members : List (NodeState F P)) → WaitsFor field pass plan faults loaded ask above members
    → EachAnswers plan faults loaded (state_model field pass above) (map (state_model field pass) members)
members_answer {F} {P} field pass plan faults loaded ask above members w =
    (came_back (state_model field pass) plan faults loaded above (group_of plan (state_model field pass above)) members w.ended).answers

-- ---- the parent of a domain

none_some : {A : Type 0} {x : A} → ◌≡◌ {A = Option A} None (Some x) → ⊥
none_some e = cc

pub parent_so : MembersAreChildren → (plan : PlanModel) (m : ℕ) (domain : Domain) (parent : Option NodeId) → IsPlan plan
    → slice_get plan.tree.domains m ≡ Some domain → domain.parent ≡ parent
    → MatchOption parent (m ≡ 0) (λ (above : NodeId). (0 < m) × (above.0 ≡ parent_of plan m))
parent_so children plan zero domain None is_plan listed is = refl
parent_so children plan (suc m) domain None is_plan listed is = absurd (has_parent children plan (suc m) domain is_plan listed is (omega arith))
parent_so children plan zero domain (Some above) is_plan listed is =
    let none : domain.parent ≡ None = first_has_none plan.tree is_plan.program (record { 0 = 0 }) domain listed refl in
    absurd (none_some (sym none ∙ is))
parent_so children plan (suc m) domain (Some above) is_plan listed is = (
  omega arith,
  sym (ap (λ (o : Option Domain). option_map_or (λ (d : Domain). option_map_or (λ (id : NodeId). id.0) d.parent 0) o 0) listed
      ∙ ap (λ (o : Option NodeId). option_map_or (λ (id : NodeId). id.0) o 0) is),
)

-- ---- a turn, on a plan that is the table's

module _ {F P : Type 0} (field : F → FieldModel) (pass : P → PassModel) (cells : CellPass (Start F) (NodeState F P)) where
  abbrev seen : NodeState F P → StateModel
  seen = state_model field pass

  -- what an advance to a group gives
  abbrev pub SendsBy : NodeState F P → NodeState F P → List (NodeState F P) → PlanModel → Type 0
  SendsBy old new children plan =
      AdvancesBy plan (seen old) (seen new) (sends (map seen children)) → AllFit plan (map seen children)
      → ((t : Task) → Stands plan t (seen old) → Stands plan t (seen new) × EachAnswers plan t.faults t.loaded (seen new) (map seen children))
      → Stays (seen old) (seen new) → IsWaiting new.stage → Sends field pass cells new children

  pub sends_so : (plan : PlanModel) (old new : NodeState F P) (children : List (NodeState F P)) → plan_of cells ≡ plan → CanGoOn field pass cells old
      → SendsBy old new children plan
  sends_so plan old new children is goes = subst (SendsBy old new children) is (λ exact fit stands stays waits. (
      let faults : List Fault = (was_of field cells).script in
      let loaded : Words = (was_of field cells).words in
      let own : PlanModel = plan_of cells in
      let a : Answers own faults loaded goes.ask (seen old) = goes.answers in
      let both = stands (task_of own faults loaded goes.ask a.domain) a.stands in
      let group = group_sent field pass own (seen old) (seen new) children exact in
      record {
        ask = goes.ask;
        works = goes.works;
        rests = (waits, answers_on own faults loaded goes.ask (seen old) (seen new) stays a both.0);
        group = group.0;
        ready = each_ready field pass own faults loaded (seen new) children group.1 fit both.1;
      }
      ))

  -- and what one to its end gives
  abbrev pub EndsBy : NodeState F P → NodeState F P → PlanModel → Type 0
  EndsBy old new plan =
      ((t : Task) → Stands plan t (seen old) → Stands plan t (seen new)) → Stays (seen old) (seen new) → IsEnded new.stage → Ends field pass cells new

  pub ends_so : (plan : PlanModel) (old new : NodeState F P) → plan_of cells ≡ plan → CanGoOn field pass cells old → EndsBy old new plan
  ends_so plan old new is goes = subst (EndsBy old new) is (λ stands stays ended. (
      let faults : List Fault = (was_of field cells).script in
      let loaded : Words = (was_of field cells).words in
      let a : Answers (plan_of cells) faults loaded goes.ask (seen old) = goes.answers in
      record {
        ask = goes.ask;
        works = goes.works;
        ended = (
          ended,
          answers_on (plan_of cells) faults loaded goes.ask (seen old) (seen new) stays a
              (stands (task_of (plan_of cells) faults loaded goes.ask a.domain) a.stands),
        );
      }
      ))

  -- a parent in hand, with its members
  pub waits_so : (plan : PlanModel) (ask : Ask) (above : NodeState F P) (members : List (NodeState F P)) → plan_of cells ≡ plan
      → Rests (plan_of cells) (was_of field cells).script (was_of field cells).words ask (seen above)
      → EndedEach (states_of seen (plan_of cells) (was_of field cells).script (was_of field cells).words) above (group_of (plan_of cells) (seen above)) members
      → WaitsFor field pass plan (was_of field cells).script (was_of field cells).words ask above members
  waits_so plan ask above members is rests ended =
      subst (λ (p : PlanModel). WaitsFor field pass p (was_of field cells).script (was_of field cells).words ask above members) is
      (record { rests = rests; ended = ended })

  pub goes_so : (plan : PlanModel) (now : CellPass (Start F) (NodeState F P)) (ask : Ask) (above : NodeState F P) → plan_of cells ≡ plan → key_of now ≡ key_of cells
      → Works field pass now (ask ∷ []) [] → HasResumed field pass plan (was_of field cells).script (was_of field cells).words ask above
      → CanGoOn field pass now above
  goes_so plan now ask above is key works r =
      let A : PlanModel → Type 0 = λ p. Answers p (was_of field cells).script (was_of field cells).words ask (seen above) in
      let B : Start F → Type 0 = λ k. Answers k.plan.value (field k.field.value).script (field k.field.value).words ask (seen above) in
      record { ask = ask; works = works; moves = r.moves; answers = subst B (sym key) (subst A (sym is) r.answers) }
