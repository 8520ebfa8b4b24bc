-- What stays of a state that stands behind its tries, whatever they come to: the script, what it was carved for, that lapses are
-- answered, and what the links give.
use Rattle.std.proofs.Common.{◌≡◌, ℕ, zero, suc, ◌+◌, ◌-◌, ◌≤◌, ◌==◌, Bool, true, false, cond, List, [], ◌∷◌, ◌++◌, Option, None, Some, length, drop, slice_get, IsSomeAnd, refl, ap, subst, sym, ◌∙◌, arith}
use Rattle.std.proofs.lemmas.List.Sums.{sum_by-append}
use Rattle.cd_base.specs.declared.place.Range.{Range}
use Rattle.cd_base.specs.Words.{Words, in_range}
use Rattle.cd_tree.specs.declared.domain.NodeId.{NodeId}
use Rattle.cd_tree.specs.declared.domain.Domain.{Domain}
use Rattle.cd_tree.specs.declared.document.Fault.{Fault}
use Rattle.cd_tree.specs.declared.event.Cause.{Cause}
use Rattle.cd_tree.specs.declared.event.Event.{Event}
use Rattle.cd_tree.specs.declared.event.Event.TheVariants.{Begin}
use Rattle.cd_tree.specs.KindSets.{no_kinds, halting}
use Rattle.cd_tree.specs.Locality.{SameWords}
use Rattle.cd_tree.specs.Reading.{Counts}
use Rattle.cd_field.specs.FieldModel.{FieldModel, begun as begun_on}
use Rattle.cd_keep.specs.PassModel.{PassModel}
use Rattle.cd_cover.specs.Links.{link_of}
use Rattle.cd_cover.specs.Plans.{PlanModel, IsPlan}
use Rattle.cd_tries.specs.declared.keep.Keep.{Keep}
use Rattle.cd_tries.specs.declared.keep.Pieces.{Pieces}
use Rattle.cd_tries.specs.Fitting.{CanPreserve}
use Rattle.cd_tries.specs.Keeping.{Known, Cover, piece_words, linked_by}
use Rattle.cd_tries.specs.KeepLaws.{HoldsKeeps, KnowsMore, is_lapse}
use Rattle.cd_tries.specs.Preserving.{links_for}
use Rattle.cd_tries.specs.Running.{Run as Ran, Trial, run_to, tried_from, next_begin, tries_from, tried_again}
use Rattle.cd_core.specs.declared.state.Stage.{Stage}
use Rattle.cd_core.specs.declared.state.Stage.TheVariants.{Ready, Waiting, Resumed, Lost, Ended}
use Rattle.cd_core.specs.StateModel.{StateModel}
use Rattle.cd_core.specs.Fits.{FitsStage, LinksAreKept}
use Rattle.cd_core.specs.Tasks.{Task, LinksGive}
use Rattle.cd_core.specs.Stands.{Stands, StandsAt}
use Rattle.cd_core.specs.Advancing.{own_count, Judged, after_loss, means_of, TriesSo}
use Rattle.cd_core.specs.declared.verdict.Verdict.{Verdict}
use Rattle.cd_core.specs.LawsBelow.{MoreLaws}
use Rattle.cd_core.proofs.Given.{same_pieces}
use Rattle.cd_core.proofs.Grounds.{view_in}
use Rattle.cd_core.proofs.Lapses.{lapses, tries_lapses, judged_lapses, run_lapses, again_lapses, one_more}
use Rattle.cd_core.proofs.ReadyOnes.{task_at, Comes, can_preserve, come_ready}
use Rattle.cd_core.proofs.ResumedOnes.{come_resumed, come_lost}
use Rattle.cd_core.proofs.Standing.{ready_gives, strikes_here}
use Rattle.cd_core.proofs.Views.{FitsView}

pub record Common (plan : PlanModel) (t : Task) (s : StateModel) (q : PassModel) (j : Judged) : Type 0 where
  pub script : j.field.script ≡ s.field.script
  pub carved : j.field.carved ≡ s.field.carved
  pub answered : lapses j.field.events + length s.pass.gone ≤ lapses s.field.events + length q.gone
  pub links : LinksGive plan t q.known s.above

-- what links give stays where more is known
gives_still : (known more : Known) (t : Task) (reference : NodeId × ℕ) (range : Range) (link : Option Pieces) → KnowsMore known more
    → IsSomeAnd link (λ (of : Pieces). Cover known of range)
    → IsSomeAnd link (λ (of : Pieces). SameWords (in_range range) (piece_words known of) (t.links reference))
    → IsSomeAnd link (λ (of : Pieces). SameWords (in_range range) (piece_words more of) (t.links reference))
gives_still known more t reference range None knows covers gives = gives
gives_still known more t reference range (Some of) knows covers gives = λ p h. sym (same_pieces known more of p knows covers.cut) ∙ gives p h

module _ (l : MoreLaws) (plan : PlanModel) (s : StateModel) (domain : Domain) (is_plan : IsPlan plan) (listed : slice_get plan.tree.domains s.node.0 ≡ Some domain)
    (loaded words : Words) (counts : Counts) (links : NodeId × ℕ → Words) where
  abbrev t : Task
  t = task_at plan s domain loaded words counts links

  from_comes : (keeps : List Keep) (q : PassModel) (j : Judged) (base : Counts) → Comes plan t s domain keeps q j base
      → (j.field.script ≡ s.field.script) × (j.field.carved ≡ s.field.carved)
  from_comes keeps q j base c =
      (ap (λ (x : Judged). x.field.script) c.is ∙ c.script, ap (λ (x : Judged). x.field.carved) c.is ∙ c.carved)

  by_lost : FitsView plan s domain → (st : Stands plan t s) → (spare : ℕ) (cause : Cause) (over : ℕ) (b : Bool) → (over == no_kinds) ≡ b
      → FitsStage plan (view_in plan.tree s.node domain) domain s (Lost spare cause over) → StandsAt plan t s (Lost spare cause over)
      → (j : Judged) → j ≡ after_loss plan (means_of plan domain s.node s.pass.known s.keeps) spare (own_count s) s.field cause over b
      → Common plan t s s.pass j
  by_lost view st zero cause over b test fits stands j is = record {
    script = ap (λ (x : Judged). x.field.script) is;
    carved = ap (λ (x : Judged). x.field.carved) is;
    answered = omega (arith, ap (λ (x : Judged). lapses x.field.events) is);
    links = st.links;
  }
  by_lost view st (suc spare) cause over false test fits stands j is = record {
    script = ap (λ (x : Judged). x.field.script) is;
    carved = ap (λ (x : Judged). x.field.carved) is;
    answered = omega (arith, ap (λ (x : Judged). lapses x.field.events) is);
    links = st.links;
  }
  by_lost view st (suc spare) cause over true test fits stands j is =
      let c : (j.field.script ≡ s.field.script) × (j.field.carved ≡ s.field.carved) =
      from_comes s.keeps s.pass j _
      (come_lost l plan s domain is_plan listed loaded words counts links view spare cause over fits.begun (strikes_here l plan s domain is_plan listed loaded words counts links st) st.task.small stands test j is) in
      let n : Trial = tried_again (means_of plan domain s.node s.pass.known s.keeps) (next_begin (own_count s)) s.field in
      let same : lapses j.field.events ≡ lapses s.field.events =
      ap (λ (x : Judged). lapses x.field.events) is
      ∙ tries_lapses (means_of plan domain s.node s.pass.known s.keeps) spare (next_begin (own_count s)) n.field n.stop
      ∙ again_lapses (means_of plan domain s.node s.pass.known s.keeps) (next_begin (own_count s)) s.field in
      record { script = c.0; carved = c.1; answered = omega (arith, same); links = st.links }

  pub common : FitsView plan s domain → (st : Stands plan t s) → (keeps : List Keep) (q : PassModel) (j : Judged) (stage : Stage)
      → FitsStage plan (view_in plan.tree s.node domain) domain s stage → StandsAt plan t s stage → TriesSo plan domain s keeps q j stage
      → Common plan t s q j
  common view st keeps q j Ready fits stands so =
      let halts : ℕ = halting plan.tree.kinds in
      let number : ℕ = next_begin (own_count s) in
      let b : FieldModel = begun_on s.field s.node number in
      let can : CanPreserve domain (links_for plan.tree.domains s.node s.above) b s.pass = can_preserve l plan s domain is_plan listed loaded words counts links view fits number in
      let holds : HoldsKeeps domain keeps s.pass q =
      l.held s.node domain (links_for plan.tree.domains s.node s.above) keeps b so.saved s.pass q can fits.nothing.holds so.preserved in
      let c : (j.field.script ≡ s.field.script) × (j.field.carved ≡ s.field.carved) =
      from_comes keeps q j counts
      (come_ready l plan s domain is_plan listed loaded words counts links view fits (strikes_here l plan s domain is_plan listed loaded words counts links st) st.task.small st.task.root stands keeps q j so
      (ready_gives l plan s domain is_plan listed loaded words counts links view st stands fits keeps q j so)) in
      let n : Trial = tried_from halts domain so.saved 0 in
      let told : lapses j.field.events ≡ lapses so.saved.events =
      ap (λ (x : Judged). lapses x.field.events) so.tried
      ∙ tries_lapses (means_of plan domain s.node q.known keeps) (domain.retry - 1) number n.field n.stop
      ∙ judged_lapses halts domain.detects (run_to halts so.saved 0 domain.items).field (run_to halts so.saved 0 domain.items).arrival
      ∙ run_lapses halts so.saved 0 domain.items in
      let saved : lapses so.saved.events ≡ lapses (b.events ++ so.preserved.events) = ap (λ (m : FieldModel). lapses m.events) so.preserved.told in
      let more : lapses (b.events ++ so.preserved.events) ≡ lapses b.events + lapses so.preserved.events =
      sum_by-append (λ (e : Event). cond (is_lapse e) 1 0) b.events so.preserved.events in
      let begin : lapses b.events ≡ lapses s.field.events = one_more s.field.events (Begin s.node number) refl in
      let given : lapses so.preserved.events + length s.pass.gone ≤ length q.gone =
      l.answered s.node domain (links_for plan.tree.domains s.node s.above) keeps b so.saved s.pass q so.preserved in
      record {
        script = c.0;
        carved = c.1;
        answered = omega (arith, told, saved, more, begin, given);
        links = λ reference entry outer stands.
            gives_still s.pass.known q.known t reference entry.range (linked_by s.above (link_of plan.tree.domains reference.0 reference.1)) holds.knows
            (view.links reference entry outer stands) (st.links reference entry outer stands);
      }
  common view st keeps q j (Waiting left k) fits stands so = absurd so
  common view st keeps q j (Resumed left k) fits stands so =
      let halts : ℕ = halting plan.tree.kinds in
      let c : (j.field.script ≡ s.field.script) × (j.field.carved ≡ s.field.carved) =
      from_comes s.keeps s.pass j _
      (come_resumed l plan s domain is_plan listed loaded words counts links view left k fits (strikes_here l plan s domain is_plan listed loaded words counts links st) st.task.small stands j so.2) in
      let n : Trial = tried_from halts domain s.field (suc k) in
      let r : Ran = run_to halts s.field (suc k) (drop (suc k) domain.items) in
      let same : lapses j.field.events ≡ lapses s.field.events =
      ap (λ (x : Judged). lapses x.field.events) so.2
      ∙ tries_lapses (means_of plan domain s.node s.pass.known s.keeps) left (own_count s) n.field n.stop
      ∙ judged_lapses halts domain.detects r.field r.arrival ∙ run_lapses halts s.field (suc k) (drop (suc k) domain.items) in
      let C : PassModel → Type 0 = λ x. Common plan t s x j in
      subst C (sym so.1) (record { script = c.0; carved = c.1; answered = omega (arith, same); links = st.links })
  common view st keeps q j (Lost left cause over) fits stands so =
      let C : PassModel → Type 0 = λ x. Common plan t s x j in
      subst C (sym so.1) (by_lost view st left cause over (over == no_kinds) refl fits stands j so.2)
  common view st keeps q j (Ended ending) fits stands so = absurd so
