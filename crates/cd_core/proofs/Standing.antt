-- The tries of a domain that stands come to groups as its reading does: from wherever it was.
use Rattle.std.proofs.Common.{◌≡◌, ℕ, zero, suc, ◌<◌, ◌^◌, ◌==◌, Bool, true, false, Option, Some, List, slice_get, refl, ap, subst, sym, ◌∙◌}
use Rattle.cd_base.specs.Words.{Words}
use Rattle.cd_tree.specs.declared.domain.NodeId.{NodeId}
use Rattle.cd_tree.specs.declared.domain.Domain.{Domain}
use Rattle.cd_tree.specs.declared.document.Fault.{Fault}
use Rattle.cd_tree.specs.declared.event.Cause.{Cause}
use Rattle.cd_tree.specs.KindSets.{no_kinds, halting}
use Rattle.cd_tree.specs.Domains.{Node, node_of, number_of}
use Rattle.cd_tree.specs.Locality.{SameWords}
use Rattle.cd_tree.specs.Meaning.{in_entries, node_reach}
use Rattle.cd_tree.specs.Reading.{Counts}
use Rattle.cd_field.specs.FieldModel.{begun as begun_on}
use Rattle.cd_keep.specs.PassModel.{PassModel}
use Rattle.cd_cover.specs.Plans.{PlanModel, IsPlan}
use Rattle.cd_tries.specs.declared.keep.Keep.{Keep}
use Rattle.cd_tries.specs.Fitting.{StrikesWithin, CanPreserve}
use Rattle.cd_tries.specs.KeepLaws.{HoldsKeeps}
use Rattle.cd_tries.specs.Preserving.{links_for}
use Rattle.cd_tries.specs.Running.{next_begin}
use Rattle.cd_core.specs.declared.state.Ending.{Ending}
use Rattle.cd_core.specs.declared.state.Stage.{Stage}
use Rattle.cd_core.specs.declared.state.Stage.TheVariants.{Ready, Waiting, Resumed, Lost, Ended}
use Rattle.cd_core.specs.StateModel.{StateModel}
use Rattle.cd_core.specs.Fits.{Fits, FitsStage}
use Rattle.cd_core.specs.Tasks.{Task, KeepsGive, task_reading}
use Rattle.cd_core.specs.Stands.{Stands, StandsAt, StandsReady, StandsLost}
use Rattle.cd_core.specs.Advancing.{own_count, Judged, after_loss, means_of, BeginsSo, TriesSo, state_sending}
use Rattle.cd_core.specs.declared.verdict.Verdict.{Verdict}
use Rattle.cd_core.specs.declared.verdict.Verdict.TheVariants.{Waits, Escalates}
use Rattle.cd_core.specs.StateLaws.{StandsTried, TriesComeToGroups}
use Rattle.cd_core.specs.LawsBelow.{MoreLaws}
use Rattle.cd_core.proofs.Facts.{strikes_within, reach_is}
use Rattle.cd_core.proofs.Given.{keeps_given}
use Rattle.cd_core.proofs.Grounds.{view_in}
use Rattle.cd_core.proofs.ReadyOnes.{task_at, Comes, can_preserve, come_ready}
use Rattle.cd_core.proofs.ResumedOnes.{come_resumed, come_lost}
use Rattle.cd_core.proofs.ToGroups.{stands_tried}
use Rattle.cd_core.proofs.Views.{FitsView, fits_view}

-- the task of a state that stands is that of the listed domain, with the state's script
pub task_is : MoreLaws → (plan : PlanModel) (t : Task) (s : StateModel) (domain : Domain) → IsPlan plan
    → slice_get plan.tree.domains s.node.0 ≡ Some domain → Stands plan t s
    → t ≡ task_at plan s domain t.loaded t.words t.counts t.links
task_is l plan t s domain is_plan listed st =
    let same : node_of plan.tree.domains (record { 0 = number_of t.domain }) ≡ node_of plan.tree.domains s.node =
    ap (λ (n : ℕ). node_of plan.tree.domains (record { 0 = n })) st.domain in
    let both : ◌≡◌ {A = Option Node} (Some t.domain) (Some (view_in plan.tree s.node domain)) =
    sym st.task.domain ∙ same ∙ l.follows plan.tree is_plan.program s.node domain listed in
    let e : t.domain ≡ view_in plan.tree s.node domain = cc in
    ap (λ (d : Node). record t { domain = d }) e
    ∙ ap (λ (fs : List Fault). record t { domain = view_in plan.tree s.node domain; faults = fs }) (sym st.script)

never : {cause : Cause} {over spare point : ℕ} → ◌≡◌ {A = Verdict} (Escalates cause over) (Waits spare point) → ⊥
never e = cc

module _ (l : MoreLaws) (plan : PlanModel) (s : StateModel) (domain : Domain) (is_plan : IsPlan plan) (listed : slice_get plan.tree.domains s.node.0 ≡ Some domain)
    (loaded words : Words) (counts : Counts) (links : NodeId × ℕ → Words) where
  abbrev t : Task
  t = task_at plan s domain loaded words counts links

  -- a first try keeps what gives the words that the domain was sent with
  pub ready_gives : FitsView plan s domain → (st : Stands plan t s) → StandsReady plan t s → FitsStage plan (view_in plan.tree s.node domain) domain s Ready
      → (keeps : List Keep) (q : PassModel) (j : Judged) → BeginsSo plan domain s keeps q j → KeepsGive q.known t s.node 0 domain.entries keeps
  ready_gives view st stands ready keeps q j so =
      let number : ℕ = next_begin (own_count s) in
      let can : CanPreserve domain (links_for plan.tree.domains s.node s.above) (begun_on s.field s.node number) s.pass = can_preserve l plan s domain is_plan listed loaded words counts links view ready number in
      let holds : HoldsKeeps domain keeps s.pass q =
      l.held s.node domain (links_for plan.tree.domains s.node s.above) keeps (begun_on s.field s.node number) so.saved s.pass q can ready.nothing.holds so.preserved in
      keeps_given l plan t s.node domain s.pass.known q.known s.above s.field.words keeps is_plan listed refl holds.knows view.links st.links
      (λ p h. stands.words p (reach_is l plan s.node domain is_plan listed p ∙ h)) holds.fit
      (l.given s.node domain (links_for plan.tree.domains s.node s.above) keeps (begun_on s.field s.node number) so.saved s.pass q can so.preserved)

  pub strikes_here : Stands plan t s → StrikesWithin s.node domain.entries s.field.script
  strikes_here st = strikes_within l plan s.node domain s.field.script is_plan listed st.task.accepted

  -- a loss after which tries come to a group is followed by another try
  lost_to_group : FitsView plan s domain → (spare : ℕ) (cause : Cause) (over point more : ℕ) (b : Bool) → (over == no_kinds) ≡ b
      → FitsStage plan (view_in plan.tree s.node domain) domain s (Lost spare cause over) → Stands plan t s → StandsLost plan t s spare cause over
      → (j : Judged) → j ≡ after_loss plan (means_of plan domain s.node s.pass.known s.keeps) spare (own_count s) s.field cause over b
      → j.verdict ≡ Waits more point → StandsTried plan t (state_sending s s.keeps j.begin j.field s.pass) more point
  lost_to_group view zero cause over point more b test fits st stands j is verdict =
      absurd (never (sym (ap (λ (x : Judged). x.verdict) is) ∙ verdict))
  lost_to_group view (suc spare) cause over point more false test fits st stands j is verdict =
      absurd (never (sym (ap (λ (x : Judged). x.verdict) is) ∙ verdict))
  lost_to_group view (suc spare) cause over point more true test fits st stands j is verdict =
      let c : Comes plan t s domain s.keeps s.pass j _ =
      come_lost l plan s domain is_plan listed loaded words counts links view spare cause over fits.begun (strikes_here st) st.task.small stands test j is in
      stands_tried l plan s domain is_plan listed loaded words counts _ links s.keeps s.pass j more point c verdict

  -- from wherever it was
  by_stage : FitsView plan s domain → (st : Stands plan t s) → (keeps : List Keep) (q : PassModel) (j : Judged) (spare point : ℕ) (stage : Stage)
      → FitsStage plan (view_in plan.tree s.node domain) domain s stage → StandsAt plan t s stage → TriesSo plan domain s keeps q j stage
      → j.verdict ≡ Waits spare point → StandsTried plan t (state_sending s keeps j.begin j.field q) spare point
  by_stage view st keeps q j spare point Ready fits stands so verdict =
      let c : Comes plan t s domain keeps q j counts =
      come_ready l plan s domain is_plan listed loaded words counts links view fits (strikes_here st) st.task.small st.task.root stands keeps q j so
      (ready_gives view st stands fits keeps q j so) in
      stands_tried l plan s domain is_plan listed loaded words counts counts links keeps q j spare point c verdict
  by_stage view st keeps q j spare point (Waiting left k) fits stands so verdict = absurd so
  by_stage view st keeps q j spare point (Resumed left k) fits stands so verdict =
      let c : Comes plan t s domain s.keeps s.pass j _ =
      come_resumed l plan s domain is_plan listed loaded words counts links view left k fits (strikes_here st) st.task.small stands j so.2 in
      let A : List Keep → Type 0 = λ ks. StandsTried plan t (state_sending s ks j.begin j.field q) spare point in
      let B : PassModel → Type 0 = λ x. StandsTried plan t (state_sending s s.keeps j.begin j.field x) spare point in
      subst A (sym so.0) (subst B (sym so.1)
      (stands_tried l plan s domain is_plan listed loaded words counts _ links s.keeps s.pass j spare point c verdict))
  by_stage view st keeps q j spare point (Lost left cause over) fits stands so verdict =
      let A : List Keep → Type 0 = λ ks. StandsTried plan t (state_sending s ks j.begin j.field q) spare point in
      let B : PassModel → Type 0 = λ x. StandsTried plan t (state_sending s s.keeps j.begin j.field x) spare point in
      subst A (sym so.0) (subst B (sym so.1)
      (lost_to_group view left cause over point spare (over == no_kinds) refl fits st stands j so.2 verdict))
  by_stage view st keeps q j spare point (Ended ending) fits stands so verdict = absurd so

-- the law: tries come to groups as readings do
pub tries_come : MoreLaws → TriesComeToGroups
tries_come l plan t s domain keeps q j spare point is_plan st listed so verdict =
    let e : t ≡ task_at plan s domain t.loaded t.words t.counts t.links = task_is l plan t s domain is_plan listed st in
    let S : Task → Type 0 = λ x. Stands plan x s in
    let R : Task → Type 0 = λ x. StandsTried plan x (state_sending s keeps j.begin j.field q) spare point in
    let st_at : Stands plan (task_at plan s domain t.loaded t.words t.counts t.links) s = subst S e st in
    let view : FitsView plan s domain = fits_view l.follows plan s domain is_plan listed st.fits in
    subst R (sym e)
    (by_stage l plan s domain is_plan listed t.loaded t.words t.counts t.links view st_at keeps q j spare point s.stage view.stage st_at.stage so verdict)
