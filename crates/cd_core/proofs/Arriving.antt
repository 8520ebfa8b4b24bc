-- The tries of a domain that stands come to its end as its reading does: from wherever it was.
use Rattle.std.proofs.Common.{◌≡◌, ℕ, zero, suc, ◌<◌, ◌==◌, Bool, true, false, is_none, Option, None, Some, List, slice_get, slice_index, IsSomeAnd, Contains, refl, ap, subst, sym, ◌∙◌, arith}
use Rattle.std.proofs.lemmas.Bool.{eqb-true}
use Rattle.cd_base.specs.declared.place.Place.{Place}
use Rattle.cd_base.specs.Words.{Words}
use Rattle.cd_tree.specs.declared.domain.NodeId.{NodeId}
use Rattle.cd_tree.specs.declared.domain.Entry.{Entry}
use Rattle.cd_tree.specs.declared.domain.Domain.{Domain}
use Rattle.cd_tree.specs.declared.event.Cause.{Cause}
use Rattle.cd_tree.specs.KindSets.{no_kinds, halting, kinds_without}
use Rattle.cd_tree.specs.Domains.{Node}
use Rattle.cd_tree.specs.Meaning.{in_entries}
use Rattle.cd_tree.specs.Reading.{Counts, TryEnd, NodeEnd, Blame, blame, stopped, escalation}
use Rattle.cd_tree.specs.Reading.{Failed as failed, Broken as broken, Escalated as escalated}
use Rattle.cd_tree.specs.Legal.{entry_at}
use Rattle.cd_tree.specs.Scripts.{path_of}
use Rattle.cd_field.specs.FieldModel.{FieldModel, IsPresent}
use Rattle.cd_keep.specs.PassModel.{PassModel}
use Rattle.cd_cover.specs.Links.{link_of}
use Rattle.cd_cover.specs.Outer.{outer_references}
use Rattle.cd_cover.specs.OuterLaws.{LiesAbove}
use Rattle.cd_cover.specs.Plans.{PlanModel, IsPlan}
use Rattle.cd_tries.specs.declared.keep.Keep.{Keep}
use Rattle.cd_tries.specs.declared.tries.Stop.{Stop}
use Rattle.cd_tries.specs.declared.tries.Stop.TheVariants.{Group, Passed, Failed, Broken}
use Rattle.cd_tries.specs.Fitting.{HasWords}
use Rattle.cd_tries.specs.Keeping.{Known, KeepsFit}
use Rattle.cd_tries.specs.TryLaws.{EachGives}
use Rattle.cd_core.specs.declared.state.Ending.{Ending}
use Rattle.cd_core.specs.declared.state.Ending.TheVariants.{Done, Escalated}
use Rattle.cd_core.specs.declared.state.Stage.{Stage}
use Rattle.cd_core.specs.declared.state.Stage.TheVariants.{Ready, Waiting, Resumed, Lost, Ended}
use Rattle.cd_core.specs.StateModel.{StateModel}
use Rattle.cd_core.specs.Fits.{FitsStage, HasBegun}
use Rattle.cd_core.specs.Tasks.{Task, LinksAgree, KeepsGive, counts_in, task_reading}
use Rattle.cd_core.specs.Stands.{Stands, StandsAt, StandsArrived, StandsLost, members_told, named}
use Rattle.cd_core.specs.Advancing.{own_count, Judged, verdict_of, judged_course, after_loss, means_of, TriesSo, state_behind, ended}
use Rattle.cd_core.specs.declared.verdict.Verdict.{Verdict}
use Rattle.cd_core.specs.declared.verdict.Verdict.TheVariants.{Waits, Completes, Escalates}
use Rattle.cd_core.specs.StateLaws.{verdict_ending, TriesComeToEnds}
use Rattle.cd_core.specs.LawsBelow.{MoreLaws}
use Rattle.cd_core.proofs.Facts.{reach_is, there_and}
use Rattle.cd_core.proofs.Grounds.{view_in, body_in}
use Rattle.cd_core.proofs.Judging.{Over, StopsAt}
use Rattle.cd_core.proofs.Keeping.{all_give}
use Rattle.cd_core.proofs.ReadyOnes.{task_at, Comes, come_ready}
use Rattle.cd_core.proofs.ResumedOnes.{come_resumed, come_lost, over_lost}
use Rattle.cd_core.proofs.Rounds.{IsLastStop}
use Rattle.cd_core.proofs.Standing.{task_is, ready_gives, strikes_here}
use Rattle.cd_core.proofs.ToEnds.{completes_so, escalates_so}
use Rattle.cd_core.proofs.Trying.{IsLast, last_events, node_end}
use Rattle.cd_core.proofs.Views.{FitsView, fits_view}

no_link : {id : ℕ} → (x : Option (NodeId × ℕ)) → (P : NodeId → Type 0) → id ≡ 0 → IsSomeAnd x (λ (link : NodeId × ℕ). P link.0 × (link.0.0 < id)) → ⊥
no_link {id} None P top h = h
no_link {id} (Some link) P top h = omega (arith, h.1, top)

module _ (l : MoreLaws) (plan : PlanModel) (s : StateModel) (domain : Domain) (is_plan : IsPlan plan) (listed : slice_get plan.tree.domains s.node.0 ≡ Some domain)
    (loaded words : Words) (counts base : Counts) (links : NodeId × ℕ → Words) (keeps : List Keep) (q : PassModel) where
  abbrev t : Task
  t = task_at plan s domain loaded words counts links

  -- the root has no parent and no links, so its keeps give the words that it began with
  root_keeps : KeepsFit q.known domain.entries keeps → KeepsGive q.known t s.node 0 domain.entries keeps → s.node.0 ≡ 0
      → (is_none domain.parent ≡ true) × EachGives q.known words domain.entries keeps
  root_keeps fit gives top =
      let first : slice_get plan.tree.domains 0 ≡ Some domain = ap (λ (n : ℕ). slice_get plan.tree.domains n) (sym top) ∙ listed in
      let none : domain.parent ≡ None = there_and (λ (d : Domain). d.parent ≡ None) (slice_get plan.tree.domains 0) domain first is_plan.program.root in
      let agree : LinksAgree plan t = λ reference entry outer stands.
      absurd (no_link (link_of plan.tree.domains reference.0 reference.1) (λ up. Contains (path_of plan.tree.domains s.node) up) top
      ((l.outer plan is_plan s.node (view_in plan.tree s.node domain) (l.follows plan.tree is_plan.program s.node domain listed) reference).0 outer).1) in (
        ap (λ (o : Option NodeId). is_none o) none,
        all_give l.outer l.links l.follows plan t s.node domain q.known keeps is_plan listed refl agree fit gives,
      )

  -- the end of a domain whose tries come to one
  by_stop : (attempt spare begin : ℕ) (n : FieldModel) (stop : Stop) (ending : Ending) → Comes plan t s domain keeps q (record { field = n; begin = begin; verdict = verdict_of plan s.node spare stop }) base
      → verdict_ending (verdict_of plan s.node spare stop) ≡ Some ending
      → StopsAt plan.tree loaded (halting plan.tree.kinds) domain (body_in plan.tree domain) counts base words (LinksAgree plan t) attempt spare n stop
      → IsLastStop spare stop → n.node ≡ s.node → n.script ≡ s.field.script → begin ≡ n.begin
      → ((p : Place) → in_entries domain.entries p ≡ true → IsPresent n p)
      → StandsArrived plan t (state_behind plan domain s keeps q begin n (verdict_of plan s.node spare stop)) ending
  by_stop attempt spare begin n (Group point) ending c verdict at last here script number present = absurd (cc)
  by_stop attempt spare begin n (Passed leak) ending c verdict at last here script number present =
      let S : Ending → Type 0 = λ e. StandsArrived plan t (state_behind plan domain s keeps q begin n (Completes leak)) e in
      let same : Done leak ≡ ending = cc in
      subst S same (completes_so l plan s domain is_plan listed loaded words counts base links keeps q n attempt spare begin leak at here script number c.based present)
  by_stop attempt spare begin n (Failed kinds) ending c verdict at last here script number present =
      let C : NodeId → Cause = λ i. named plan (blame i kinds) in
      let S : Ending → Type 0 = λ e. StandsArrived plan t (state_behind plan domain s keeps q begin n (Escalates (C s.node) no_kinds)) e in
      let R : NodeId → Type 0 = λ i. StandsArrived plan t (state_behind plan domain s keeps q begin n (Escalates (C i) no_kinds)) (Escalated (C i) no_kinds) in
      let same : Escalated (C s.node) no_kinds ≡ ending = cc in
      subst S same (subst R here
      (escalates_so l plan s domain is_plan listed loaded words counts base links keeps q n attempt spare begin (failed (blame n.node kinds)) (blame n.node kinds) no_kinds
      at last refl here script number c.based (λ p h. (present p h).known) c.fit refl (root_keeps c.fit c.gives)))
  by_stop attempt spare begin n (Broken kinds over) ending c verdict at last here script number present =
      let C : NodeId → Cause = λ i. named plan (blame i kinds) in
      let S : Ending → Type 0 = λ e. StandsArrived plan t (state_behind plan domain s keeps q begin n (Escalates (C s.node) over)) e in
      let R : NodeId → Type 0 = λ i. StandsArrived plan t (state_behind plan domain s keeps q begin n (Escalates (C i) over)) (Escalated (C i) over) in
      let same : Escalated (C s.node) over ≡ ending = cc in
      subst S same (subst R here
      (escalates_so l plan s domain is_plan listed loaded words counts base links keeps q n attempt spare begin (broken (blame n.node kinds) over) (blame n.node kinds) over
      at tt refl here script number c.based (λ p h. (present p h).known) c.fit refl (root_keeps c.fit c.gives)))

  pub stands_arrived : (j : Judged) (ending : Ending) → Comes plan t s domain keeps q j base → verdict_ending j.verdict ≡ Some ending
      → StandsArrived plan t (state_behind plan domain s keeps q j.begin j.field j.verdict) ending
  stands_arrived j ending c verdict =
      let G : Judged → Type 0 = λ x. StandsArrived plan t (state_behind plan domain s keeps q x.begin x.field x.verdict) ending in
      let H : Judged → Type 0 = λ x. Comes plan t s domain keeps q x base in
      subst G (sym c.is)
      (by_stop c.rests.attempt c.tried.course.spare c.tried.course.begin c.tried.field c.tried.course.stop ending (subst H c.is c)
      (ap (λ (x : Judged). verdict_ending x.verdict) (sym c.is) ∙ verdict) c.rests.stops c.rests.last c.node c.script c.rests.begin c.present)

module _ (l : MoreLaws) (plan : PlanModel) (s : StateModel) (domain : Domain) (is_plan : IsPlan plan) (listed : slice_get plan.tree.domains s.node.0 ≡ Some domain)
    (loaded words : Words) (counts : Counts) (links : NodeId × ℕ → Words) where
  abbrev task : Task
  task = task_at plan s domain loaded words counts links

  -- a loss that ends a domain
  end_of_loss : (cause : Blame) (left : ℕ) (b : Bool) → (left == no_kinds) ≡ b → node_end (stopped cause left b) ≡ escalated cause left
  end_of_loss cause left true test = ap (λ (k : ℕ). escalated cause k) (sym (eqb-true left no_kinds test))
  end_of_loss cause left false test = refl

  last_of_loss : (spare : ℕ) (cause : Blame) (left : ℕ) (b : Bool) → (b ≡ true → spare ≡ 0) → IsLast spare (stopped cause left b)
  last_of_loss spare cause left true last = last refl
  last_of_loss spare cause left false last = tt

  events_of_loss : (id : NodeId) (cause : Blame) (left : ℕ) (b : Bool) → last_events id domain (stopped cause left b) ≡ escalation id domain (is_none domain.parent)
  events_of_loss id cause left true = refl
  events_of_loss id cause left false = refl

  stuck : FitsView plan s domain → (spare : ℕ) (cause : Cause) (over : ℕ) → HasBegun domain s → StandsLost plan task s spare cause over
      → ((over == no_kinds) ≡ true → spare ≡ 0) → (ending : Ending) → Escalated cause over ≡ ending
      → StandsArrived plan task (state_behind plan domain s s.keeps s.pass (own_count s) s.field (Escalates cause over)) ending
  stuck view spare cause over begun stands last ending is =
      let left : ℕ = kinds_without stands.more domain.detects in
      let base : Counts = (members_told plan task spare stands.point stands.at).counts in
      let S : Ending → Type 0 = λ e. StandsArrived plan task (state_behind plan domain s s.keeps s.pass (own_count s) s.field (Escalates cause over)) e in
      let A : Cause → Type 0 = λ c.
      StandsArrived plan task (state_behind plan domain s s.keeps s.pass (own_count s) s.field (Escalates c over)) (Escalated c over) in
      let B : ℕ → Type 0 = λ k.
      StandsArrived plan task (state_behind plan domain s s.keeps s.pass (own_count s) s.field (Escalates (named plan stands.blame) k)) (Escalated (named plan stands.blame) k) in
      let L : ℕ → Type 0 = λ k. (k == no_kinds) ≡ true → spare ≡ 0 in
      subst S is (subst A (sym stands.blamed) (subst B (sym stands.undeclared)
      (escalates_so l plan s domain is_plan listed loaded words counts base links s.keeps s.pass s.field stands.at.attempt spare (own_count s)
      (stopped stands.blame left (left == no_kinds)) stands.blame left
      (over_lost l plan s domain is_plan listed loaded words counts links spare cause over begun.here stands)
      (last_of_loss spare stands.blame left (left == no_kinds) (subst L stands.undeclared last))
      (end_of_loss stands.blame left (left == no_kinds) refl) begun.here refl (sym stands.sent.begin) stands.counts
      (λ p h. view.words p (reach_is l plan s.node domain is_plan listed p ∙ h)) begun.keeps
      (events_of_loss s.field.node stands.blame left (left == no_kinds))
      (root_keeps l plan s domain is_plan listed loaded words counts base links s.keeps s.pass begun.keeps stands.sent.keeps))))

  lost_to_end : FitsView plan s domain → (spare : ℕ) (cause : Cause) (over : ℕ) (b : Bool) → (over == no_kinds) ≡ b
      → FitsStage plan (view_in plan.tree s.node domain) domain s (Lost spare cause over) → Stands plan task s → StandsLost plan task s spare cause over
      → (j : Judged) (ending : Ending) → j ≡ after_loss plan (means_of plan domain s.node s.pass.known s.keeps) spare (own_count s) s.field cause over b
      → verdict_ending j.verdict ≡ Some ending
      → StandsArrived plan task (state_behind plan domain s s.keeps s.pass j.begin j.field j.verdict) ending
  lost_to_end view zero cause over b test fits st stands j ending is verdict =
      let G : Judged → Type 0 = λ x. StandsArrived plan task (state_behind plan domain s s.keeps s.pass x.begin x.field x.verdict) ending in
      let e : verdict_ending (Escalates cause over) ≡ Some ending = ap (λ (x : Judged). verdict_ending x.verdict) (sym is) ∙ verdict in
      let same : Escalated cause over ≡ ending = cc in
      subst G (sym is) (stuck view zero cause over fits.begun stands (λ n. refl) ending same)
  lost_to_end view (suc spare) cause over false test fits st stands j ending is verdict =
      let G : Judged → Type 0 = λ x. StandsArrived plan task (state_behind plan domain s s.keeps s.pass x.begin x.field x.verdict) ending in
      let e : verdict_ending (Escalates cause over) ≡ Some ending = ap (λ (x : Judged). verdict_ending x.verdict) (sym is) ∙ verdict in
      let same : Escalated cause over ≡ ending = cc in
      subst G (sym is) (stuck view (suc spare) cause over fits.begun stands (λ n. absurd (cc)) ending same)
  lost_to_end view (suc spare) cause over true test fits st stands j ending is verdict =
      let c : Comes plan task s domain s.keeps s.pass j _ =
      come_lost l plan s domain is_plan listed loaded words counts links view spare cause over fits.begun (strikes_here l plan s domain is_plan listed loaded words counts links st) st.task.small stands test j is in
      stands_arrived l plan s domain is_plan listed loaded words counts _ links s.keeps s.pass j ending c verdict

  by_stage : FitsView plan s domain → (st : Stands plan task s) → (keeps : List Keep) (q : PassModel) (j : Judged) (ending : Ending) (stage : Stage)
      → FitsStage plan (view_in plan.tree s.node domain) domain s stage → StandsAt plan task s stage → TriesSo plan domain s keeps q j stage
      → verdict_ending j.verdict ≡ Some ending → StandsArrived plan task (state_behind plan domain s keeps q j.begin j.field j.verdict) ending
  by_stage view st keeps q j ending Ready fits stands so verdict =
      let c : Comes plan task s domain keeps q j counts =
      come_ready l plan s domain is_plan listed loaded words counts links view fits (strikes_here l plan s domain is_plan listed loaded words counts links st) st.task.small st.task.root stands keeps q j so
      (ready_gives l plan s domain is_plan listed loaded words counts links view st stands fits keeps q j so) in
      stands_arrived l plan s domain is_plan listed loaded words counts counts links keeps q j ending c verdict
  by_stage view st keeps q j ending (Waiting left k) fits stands so verdict = absurd so
  by_stage view st keeps q j ending (Resumed left k) fits stands so verdict =
      let c : Comes plan task s domain s.keeps s.pass j _ =
      come_resumed l plan s domain is_plan listed loaded words counts links view left k fits (strikes_here l plan s domain is_plan listed loaded words counts links st) st.task.small stands j so.2 in
      let A : List Keep → Type 0 = λ ks. StandsArrived plan task (state_behind plan domain s ks q j.begin j.field j.verdict) ending in
      let B : PassModel → Type 0 = λ x. StandsArrived plan task (state_behind plan domain s s.keeps x j.begin j.field j.verdict) ending in
      subst A (sym so.0) (subst B (sym so.1)
      (stands_arrived l plan s domain is_plan listed loaded words counts _ links s.keeps s.pass j ending c verdict))
  by_stage view st keeps q j ending (Lost left cause over) fits stands so verdict =
      let A : List Keep → Type 0 = λ ks. StandsArrived plan task (state_behind plan domain s ks q j.begin j.field j.verdict) ending in
      let B : PassModel → Type 0 = λ x. StandsArrived plan task (state_behind plan domain s s.keeps x j.begin j.field j.verdict) ending in
      subst A (sym so.0) (subst B (sym so.1)
      (lost_to_end view left cause over (over == no_kinds) refl fits st stands j ending so.2 verdict))
  by_stage view st keeps q j ending (Ended last) fits stands so verdict = absurd so

-- the law: tries come to ends as readings do
pub tries_end : MoreLaws → TriesComeToEnds
tries_end l plan t s domain keeps q j ending is_plan st listed so verdict =
    let e : t ≡ task_at plan s domain t.loaded t.words t.counts t.links = task_is l plan t s domain is_plan listed st in
    let S : Task → Type 0 = λ x. Stands plan x s in
    let R : Task → Type 0 = λ x. StandsArrived plan x (state_behind plan domain s keeps q j.begin j.field j.verdict) ending in
    let st_at : Stands plan (task_at plan s domain t.loaded t.words t.counts t.links) s = subst S e st in
    let view : FitsView plan s domain = fits_view l.follows plan s domain is_plan listed st.fits in
    subst R (sym e)
    (by_stage l plan s domain is_plan listed t.loaded t.words t.counts t.links view st_at keeps q j ending s.stage view.stage st_at.stage so verdict)
