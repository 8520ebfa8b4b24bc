-- A state that stood, and whose domain has ended, stands arrived.
use Rattle.std.proofs.Common.{◌≡◌, ℕ, zero, suc, ◌+◌, ◌≤◌, Bool, true, false, cond, is_none, List, [], ◌∷◌, ◌++◌, Option, None, Some, length, slice_get, refl, ap, subst, sym, ◌∙◌, arith}
use Rattle.cd_base.specs.declared.place.Place.{Place}
use Rattle.cd_base.specs.declared.place.Range.{Range}
use Rattle.cd_base.specs.Words.{in_ranges}
use Rattle.cd_tree.specs.declared.domain.NodeId.{NodeId}
use Rattle.cd_tree.specs.declared.domain.Entry.{Entry}
use Rattle.cd_tree.specs.declared.domain.Domain.{Domain}
use Rattle.cd_tree.specs.declared.document.Fault.{Fault}
use Rattle.cd_tree.specs.declared.event.Event.TheVariants.{Complete, Escalate, Refilled}
use Rattle.cd_tree.specs.Domains.{number_of}
use Rattle.cd_tree.specs.Meaning.{node_writes}
use Rattle.cd_field.specs.FieldModel.{FieldModel, told, gone_up}
use Rattle.cd_keep.specs.declared.keep_id.KeepId.{KeepId}
use Rattle.cd_keep.specs.PassModel.{PassModel, Gone}
use Rattle.cd_cover.specs.Plans.{PlanModel, IsPlan}
use Rattle.cd_tries.specs.declared.keep.Keep.{Keep}
use Rattle.cd_tries.specs.declared.shelf.Level.{Level}
use Rattle.cd_tries.specs.Keeping.{Known, all_ids}
use Rattle.cd_tries.specs.Refilling.{put_back, refilled_from, refilled_all}
use Rattle.cd_core.specs.declared.state.Ending.{Ending}
use Rattle.cd_core.specs.declared.state.Ending.TheVariants.{Done, Escalated}
use Rattle.cd_core.specs.declared.state.Stage.{Stage}
use Rattle.cd_core.specs.declared.state.Stage.TheVariants.{Ended}
use Rattle.cd_core.specs.StateModel.{StateModel}
use Rattle.cd_core.specs.Fits.{Fits}
use Rattle.cd_core.specs.Tasks.{Task, LinksGive}
use Rattle.cd_core.specs.Stands.{Stands, StandsAt, StandsArrived}
use Rattle.cd_core.specs.Advancing.{Judged, TriesSo, put_back_at_root, state_behind}
use Rattle.cd_core.specs.declared.verdict.Verdict.{Verdict}
use Rattle.cd_core.specs.declared.verdict.Verdict.TheVariants.{Waits, Completes, Escalates}
use Rattle.cd_core.specs.StateLaws.{verdict_ending}
use Rattle.cd_core.proofs.Arriving.{tries_end}
use Rattle.cd_core.proofs.Commons.{Common, common}
use Rattle.cd_core.specs.LawsBelow.{MoreLaws}
use Rattle.cd_core.proofs.Lapses.{lapses, one_more, refilled_lapses, given_up}
use Rattle.cd_core.proofs.ReadyOnes.{task_at}
use Rattle.cd_core.proofs.Standing.{task_is}
use Rattle.cd_core.proofs.Views.{FitsView, fits_view}

-- what the end of a domain leaves of machine and pass
pub record LeftAs (plan : PlanModel) (s : StateModel) (q : PassModel) (m : FieldModel) (new : StateModel) (ending : Ending) : Type 0 where
  pub stage : new.stage ≡ Ended ending
  pub node : new.node ≡ s.node
  pub above : new.above ≡ s.above
  pub script : new.field.script ≡ m.script
  pub carved : new.field.carved ≡ m.carved
  pub events : lapses new.field.events ≡ lapses m.events
  pub gone : new.pass.gone ≡ q.gone
  pub known : new.pass.known ≡ q.known

refilled_same : (known : Known) (at : ℕ) (entries : List Entry) (keeps : List Keep) (m : FieldModel)
    → ((refilled_from known at entries keeps m).script ≡ m.script) × ((refilled_from known at entries keeps m).carved ≡ m.carved)
refilled_same known at [] keeps m = (refl, refl)
refilled_same known at (entry ∷ entries) [] m = (refl, refl)
refilled_same known at (entry ∷ entries) (keep ∷ keeps) m =
    refilled_same known (suc at) entries keeps (told (put_back known entry keep m) (Refilled m.node at))

up_same : (domain : Domain) (known : Known) (keeps : List Keep) (m : FieldModel) (b : Bool)
    → ((gone_up (cond b (refilled_all known domain.entries keeps m) m)).script ≡ m.script)
    × ((gone_up (cond b (refilled_all known domain.entries keeps m) m)).carved ≡ m.carved)
    × (lapses (gone_up (cond b (refilled_all known domain.entries keeps m) m)).events ≡ lapses m.events)
up_same domain known keeps m true = (
  (refilled_same known 0 domain.entries keeps m).0,
  (refilled_same known 0 domain.entries keeps m).1,
  one_more (refilled_all known domain.entries keeps m).events (Escalate (refilled_all known domain.entries keeps m).node) refl
      ∙ refilled_lapses known 0 domain.entries keeps m,
)
up_same domain known keeps m false = (refl, refl, one_more m.events (Escalate m.node) refl)

left_as : (plan : PlanModel) (domain : Domain) (s : StateModel) (keeps : List Keep) (q : PassModel) (begin : ℕ) (m : FieldModel) (v : Verdict) (ending : Ending)
    → verdict_ending v ≡ Some ending → LeftAs plan s q m (state_behind plan domain s keeps q begin m v) ending
left_as plan domain s keeps q begin m (Waits spare point) ending e = absurd (cc)
left_as plan domain s keeps q begin m (Completes leak) ending e =
    let same : Done leak ≡ ending = cc in
    record {
      stage = ap (λ (x : Ending). Ended x) same;
      node = refl;
      above = refl;
      script = refl;
      carved = refl;
      events = one_more m.events (Complete s.node) refl;
      gone = (given_up q (all_ids keeps)).0;
      known = (given_up q (all_ids keeps)).1;
    }
left_as plan domain s keeps q begin m (Escalates cause over) ending e =
    let same : Escalated cause over ≡ ending = cc in
    record {
      stage = ap (λ (x : Ending). Ended x) same;
      node = refl;
      above = refl;
      script = (up_same domain q.known keeps m (is_none domain.parent)).0;
      carved = (up_same domain q.known keeps m (is_none domain.parent)).1;
      events = (up_same domain q.known keeps m (is_none domain.parent)).2;
      gone = (given_up q (all_ids keeps)).0;
      known = (given_up q (all_ids keeps)).1;
    }

-- what stays of a state that stands, whatever its tries come to
pub common_of : MoreLaws → (plan : PlanModel) (t : Task) (s : StateModel) (domain : Domain) (keeps : List Keep) (q : PassModel) (j : Judged)
    → IsPlan plan → Stands plan t s → slice_get plan.tree.domains s.node.0 ≡ Some domain → TriesSo plan domain s keeps q j s.stage → Common plan t s q j
common_of l plan t s domain keeps q j is_plan st listed so =
    let e : t ≡ task_at plan s domain t.loaded t.words t.counts t.links = task_is l plan t s domain is_plan listed st in
    let S : Task → Type 0 = λ x. Stands plan x s in
    let K : Task → Type 0 = λ x. Common plan x s q j in
    let st_at : Stands plan (task_at plan s domain t.loaded t.words t.counts t.links) s = subst S e st in
    let view : FitsView plan s domain = fits_view l.follows plan s domain is_plan listed st.fits in
    subst K (sym e) (common l plan s domain is_plan listed t.loaded t.words t.counts t.links view st_at keeps q j s.stage view.stage st_at.stage so)

-- a state that stood stands arrived where its tries come to an end
pub ends_stand : MoreLaws → (plan : PlanModel) (t : Task) (s : StateModel) (domain : Domain) (keeps : List Keep) (q : PassModel) (j : Judged) (ending : Ending)
    → IsPlan plan → Stands plan t s → slice_get plan.tree.domains s.node.0 ≡ Some domain
    → TriesSo plan domain s keeps q j s.stage → verdict_ending j.verdict ≡ Some ending
    → Fits plan (state_behind plan domain s keeps q j.begin j.field j.verdict)
    → Stands plan t (state_behind plan domain s keeps q j.begin j.field j.verdict)
ends_stand l plan t s domain keeps q j ending is_plan st listed so verdict fits =
    let new : StateModel = state_behind plan domain s keeps q j.begin j.field j.verdict in
    let left : LeftAs plan s q j.field new ending = left_as plan domain s keeps q j.begin j.field j.verdict ending verdict in
    let c : Common plan t s q j = common_of l plan t s domain keeps q j is_plan st listed so in
    let arrived : StandsArrived plan t new ending = tries_end l plan t s domain keeps q j ending is_plan st listed so verdict in
    let A : Stage → Type 0 = λ x. StandsAt plan t new x in
    let C : List Range → Type 0 = λ rs. (p : Place) → in_ranges rs p ≡ node_writes t.domain p in
    let L : Known → Type 0 = λ k. LinksGive plan t k new.above in
    let M : List Level → Type 0 = λ a. LinksGive plan t q.known a in
    record {
      task = st.task;
      fits = fits;
      domain = st.domain ∙ sym (ap (λ (i : NodeId). i.0) left.node);
      script = left.script ∙ c.script ∙ st.script;
      carved = subst C (sym (left.carved ∙ c.carved)) st.carved;
      lapses = omega (arith, st.lapses, c.answered, left.events, ap (λ (xs : List Gone). length xs) left.gone);
      links = subst L (sym left.known) (subst M (sym left.above) c.links);
      stage = subst A (sym left.stage) arrived;
    }
