-- A domain that waited fits after its members were taken back: it goes on with all present, or its try is over.
use Rattle.std.proofs.Common.{◌≡◌, ℕ, suc, ◌+◌, ◌≤◌, Bool, true, false, List, [], Option, None, Some, length, sum_by, slice_get, refl, ap, sym, subst, ◌∙◌, arith}
use Rattle.std.specs.Option.{option_map_or}
use Rattle.std.proofs.lemmas.Option.{slice_get_within}
use Rattle.cd_base.specs.declared.place.Place.{Place}
use Rattle.cd_base.proofs.BoolLemmas.{by_test}
use Rattle.cd_tree.specs.declared.domain.NodeId.{NodeId}
use Rattle.cd_tree.specs.declared.domain.Item.{Item}
use Rattle.cd_tree.specs.declared.domain.Item.TheVariants.{Group}
use Rattle.cd_tree.specs.declared.domain.Domain.{Domain}
use Rattle.cd_tree.specs.declared.document.Fault.{Fault}
use Rattle.cd_tree.specs.declared.event.Cause.{Cause}
use Rattle.cd_tree.specs.Domains.{Node, Members, node, node_of, body_of, members_by, node_numbers, body_numbers, member_numbers}
use Rattle.cd_tree.specs.Laws.{NestedViewFollows}
use Rattle.cd_tree.specs.Meaning.{node_reach, node_need, member_writes}
use Rattle.cd_tree.specs.Scripts.{IsAccepted}
use Rattle.cd_tree.specs.Slices.{among}
use Rattle.cd_field.specs.FieldModel.{IsPresent}
use Rattle.cd_keep.specs.declared.keep_id.KeepId.{KeepId}
use Rattle.cd_cover.specs.PlanLaws.{need_of}
use Rattle.cd_cover.specs.Plans.{PlanModel, IsPlan}
use Rattle.cd_tries.specs.Keeping.{Known, KeepsFit}
use Rattle.cd_core.specs.declared.state.Stage.{Stage}
use Rattle.cd_core.specs.declared.state.Stage.TheVariants.{Ready, Waiting, Resumed, Lost, Ended}
use Rattle.cd_core.specs.StateModel.{StateModel}
use Rattle.cd_core.specs.Fits.{Fits, FitsStage, FitsWaiting, HasBegun, IsHere, LinksAreKept}
use Rattle.cd_core.specs.Advancing.{members_at, members_of_item}
use Rattle.cd_core.specs.Resuming.{CanTakeEach, absorbed_all, all_done, counts_taken, first_escalation, joined_all, nodes_of, resumed_at, stage_behind}
use Rattle.cd_core.specs.StateLaws.{ResumingFits, TakesBack}
use Rattle.cd_core.specs.Steps.{IsWaiting, waits_at}
use Rattle.cd_core.specs.TakingBack.{CanTakeAll, MembersCanBeTaken}
use Rattle.cd_core.proofs.AfterTaking.{KeepsSo, StaysSo, all_blamed, all_joined, all_present, all_stays, all_words, carved_so, length-counts_taken, wider, written_present}
use Rattle.cd_core.proofs.Grounds.{view_in, body_in}
use Rattle.cd_core.proofs.GroupsGiven.{GroupAt, GroupLaws, group_given}
use Rattle.cd_core.proofs.TakenBack.{ComesBack, Pairs, all_back, can_take_all, rooms, rooms_are}
use Rattle.cd_core.proofs.Views.{FitsView, fits_view}

-- what a state that fits has as a state of this domain
pub record FitsAs (plan : PlanModel) (s : StateModel) (d : Node) (domain : Domain) : Type 0 where
  pub view : FitsView plan s domain
  pub counts : length s.counts ≡ length (node_numbers d)
  pub script : IsAccepted plan.tree s.field.script
  pub most : node_need d ≤ s.pass.most

one_view : (one two : Node) → ◌≡◌ {A = Option Node} (Some one) (Some two) → one ≡ two
one_view one two e = cc

pub fits_as : NestedViewFollows → (plan : PlanModel) (s : StateModel) (domain : Domain) → IsPlan plan
    → slice_get plan.tree.domains s.node.0 ≡ Some domain → Fits plan s → FitsAs plan s (view_in plan.tree s.node domain) domain
fits_as follows plan s domain is_plan listed f =
    let own : Node = node s.node f.domain f.body in
    let e : own ≡ view_in plan.tree s.node domain =
    one_view own (view_in plan.tree s.node domain) (sym f.is ∙ follows plan.tree is_plan.program s.node domain listed) in
    let N : Node → Type 0 = λ d. node_need d ≤ s.pass.most in
    record {
      view = fits_view follows plan s domain is_plan listed f;
      counts = f.counts ∙ ap (λ (d : Node). length (node_numbers d)) e;
      script = f.script;
      most = subst N e f.most;
    }

-- ---- what is taken back

-- whether they are committed
abbrev commits : List StateModel → Bool
commits children = all_done (first_escalation children)

-- members that come back to a domain that waits for them
record Returns (plan : PlanModel) (s : StateModel) (d : Node) (members : Members) (children : List StateModel) : Type 0 where
  back : Pairs (ComesBack plan (commits children) s) members children
  can : CanTakeAll (commits children) s children
  present : (p : Place) → node_reach d p ≡ true → member_writes members p ≡ false → IsPresent s.field p
  room : s.pass.room + s.pass.held + rooms children ≡ node_need d
  numbers : (n : ℕ) → among (member_numbers members) n ≡ true → among (body_numbers (body_of d)) n ≡ true

pub members_are : (domain : Domain) (point : ℕ) (ids : List NodeId) → slice_get domain.items point ≡ Some (Group ids) → members_at domain point ≡ ids
members_are domain point ids e = ap (λ (o : Option Item). option_map_or members_of_item o []) e

returns : GroupLaws → (plan : PlanModel) (s : StateModel) (domain : Domain) (children : List StateModel) (spare point : ℕ) → IsPlan plan
    → slice_get plan.tree.domains s.node.0 ≡ Some domain → FitsAs plan s (view_in plan.tree s.node domain) domain
    → FitsWaiting plan (view_in plan.tree s.node domain) domain s spare point
    → nodes_of children ≡ members_at domain point → CanTakeEach plan s (commits children) children
    → Returns plan s (view_in plan.tree s.node domain) (members_by (node_of plan.tree.domains) (nodes_of children)) children
returns l plan s domain children spare point is_plan listed f w named takes =
    let d : Node = view_in plan.tree s.node domain in
    let find : NodeId → Option Node = node_of plan.tree.domains in
    let same : nodes_of children ≡ w.ids = named ∙ members_are domain point w.ids w.group in
    let members : Members = members_by find (nodes_of children) in
    let G : List NodeId → Type 0 = λ ids. GroupAt (body_in plan.tree domain) (suc s.node.0) (members_by find ids) in
    let g : GroupAt (body_in plan.tree domain) (suc s.node.0) members =
    subst G (sym same) (group_given l plan s.node domain point w.ids is_plan listed w.group) in
    let back : Pairs (ComesBack plan (commits children) s) members children = all_back plan s (commits children) children takes in
    let need : sum_by (need_of plan.tree.domains) (nodes_of children) ≡ sum_by (need_of plan.tree.domains) w.ids =
    ap (sum_by (need_of plan.tree.domains)) same in
    let all : rooms children ≡ sum_by (need_of plan.tree.domains) (nodes_of children) = rooms_are plan s (commits children) members children back in
    let P : List NodeId → Type 0 = λ ids. (p : Place) → node_reach d p ≡ true → member_writes (members_by find ids) p ≡ false → IsPresent s.field p in
    let room : s.pass.room + s.pass.held + rooms children ≡ node_need d = omega (arith, w.room, need, all) in
    record {
      back = back;
      can = can_take_all plan (commits children) members children s g.from back g.apart g.follow
          (omega (arith, g.low)) (omega (arith, g.within, f.counts)) (omega (arith, room, f.most));
      present = subst P (sym same) w.present;
      room = room;
      numbers = g.numbers;
    }

-- ---- the state after

-- the state when all are taken, at a stage
abbrev taken_to : StateModel → List StateModel → Stage → StateModel
taken_to s children stage = record s {
  counts = counts_taken s.node children s.counts;
  stage = stage;
  field = absorbed_all (commits children) children s.field;
  pass = joined_all children s.pass;
}

begun_still : (domain : Domain) (s : StateModel) (children : List StateModel) (stage : Stage) → HasBegun domain s
    → HasBegun domain (taken_to s children stage)
begun_still domain s children stage b =
    let k : KeepsSo s.pass (joined_all children s.pass) (rooms children) = all_joined children s.pass in
    let K : Known → Type 0 = λ known. KeepsFit known domain.entries s.keeps in
    record {
      here = (all_stays (commits children) children s.field).node ∙ b.here;
      keeps = subst K (sym k.known) b.keeps;
      holds = record { each = λ id. ap (λ (h : KeepId → ℕ). h id) k.holds ∙ b.holds.each id; held = k.held ∙ b.holds.held };
    }

-- all is present when all are done
here_again : (plan : PlanModel) (s : StateModel) (d : Node) (members : Members) (children : List StateModel) → Returns plan s d members children
    → commits children ≡ true → IsHere d (absorbed_all (commits children) children s.field)
here_again plan s d members children r done p reach =
    let C : Bool → Type 0 = λ b. CanTakeAll b s children in
    let A : Bool → Type 0 = λ b. IsPresent (absorbed_all b children s.field) p in
    by_test (member_writes members p)
    (λ e. subst A (sym done) (written_present plan members children s p (carved_so plan (commits children) s members children r.back) (subst C done r.can) e))
    (λ e. all_present (commits children) children s p r.can (r.present p reach e))

stage_fits : (plan : PlanModel) (s : StateModel) (d : Node) (domain : Domain) (members : Members) (children : List StateModel) (spare point : ℕ)
    → Returns plan s d members children → FitsWaiting plan d domain s spare point
    → (lost : Option (Cause × ℕ)) → first_escalation children ≡ lost
    → FitsStage plan d domain (taken_to s children (stage_behind domain.detects spare point lost)) (stage_behind domain.detects spare point lost)
stage_fits plan s d domain members children spare point r w None is =
    let k : KeepsSo s.pass (joined_all children s.pass) (rooms children) = all_joined children s.pass in
    record {
      begun = begun_still domain s children (Resumed spare point) w.begun;
      tries = w.tries;
      group = slice_get_within domain.items point (Group w.ids) w.group;
      present = here_again plan s d members children r (ap all_done is);
      room = omega (arith, k.room, k.held, r.room);
    }
stage_fits plan s d domain members children spare point r w (Some (cause, over)) is =
    let k : KeepsSo s.pass (joined_all children s.pass) (rooms children) = all_joined children s.pass in
    record {
      blamed = wider plan (member_numbers members) (body_numbers (body_of d)) cause r.numbers
          (all_blamed plan (commits children) s members children cause over r.back is);
      begun = begun_still domain s children (stage_behind domain.detects spare point (Some (cause, over))) w.begun;
      tries = w.tries;
      room = omega (arith, k.room, k.held, r.room);
    }

-- at the stage at which it waits
fits_at : GroupLaws → (plan : PlanModel) (s : StateModel) (domain : Domain) (children : List StateModel) (stage : Stage) → IsPlan plan
    → slice_get plan.tree.domains s.node.0 ≡ Some domain → FitsAs plan s (view_in plan.tree s.node domain) domain
    → FitsStage plan (view_in plan.tree s.node domain) domain s stage → IsWaiting stage
    → nodes_of children ≡ members_at domain (waits_at stage) → CanTakeEach plan s (commits children) children
    → CanTakeAll (commits children) s children × Fits plan (resumed_at s domain children stage)
fits_at l plan s domain children Ready is_plan listed f st waits named takes = absurd waits
fits_at l plan s domain children (Waiting spare point) is_plan listed f st waits named takes =
    let d : Node = view_in plan.tree s.node domain in
    let members : Members = members_by (node_of plan.tree.domains) (nodes_of children) in
    let r : Returns plan s d members children = returns l plan s domain children spare point is_plan listed f st named takes in
    let k : KeepsSo s.pass (joined_all children s.pass) (rooms children) = all_joined children s.pass in
    let m : StaysSo s.field (absorbed_all (commits children) children s.field) = all_stays (commits children) children s.field in
    let S : List Fault → Type 0 = λ script. IsAccepted plan.tree script in
    let L : Known → Type 0 = λ known. LinksAreKept plan known d s.above in (
      r.can,
      record {
        domain = domain;
        body = body_in plan.tree domain;
        is = l.follows plan.tree is_plan.program s.node domain listed;
        counts = length-counts_taken (commits children) children s r.can ∙ f.counts;
        script = subst S (sym m.script) f.script;
        words = λ p reach. all_words (commits children) children s p r.can (f.view.words p reach);
        most = omega (arith, k.most, f.most);
        links = subst L (sym k.known) f.view.links;
        stage = stage_fits plan s d domain members children spare point r st (first_escalation children) refl;
      },
    )
fits_at l plan s domain children (Resumed spare point) is_plan listed f st waits named takes = absurd waits
fits_at l plan s domain children (Lost spare cause over) is_plan listed f st waits named takes = absurd waits
fits_at l plan s domain children (Ended ending) is_plan listed f st waits named takes = absurd waits

both : GroupLaws → (plan : PlanModel) (s : StateModel) (children : List StateModel) → IsPlan plan → Fits plan s
    → (back : TakesBack plan s children) → CanTakeAll (commits children) s children × Fits plan (resumed_at s back.domain children s.stage)
both l plan s children is_plan f back =
    let own : FitsAs plan s (view_in plan.tree s.node back.domain) back.domain = fits_as l.follows plan s back.domain is_plan back.is f in
    fits_at l plan s back.domain children s.stage is_plan back.is own own.view.stage back.waits back.members back.takes

pub resuming_fits : GroupLaws → ResumingFits
resuming_fits l plan s children is_plan f back = (both l plan s children is_plan f back).1

pub members_can_be_taken : GroupLaws → MembersCanBeTaken
members_can_be_taken l plan s children is_plan f back = (both l plan s children is_plan f back).0
