-- An advance from its parts: the tries, and then the members are sent, or the domain ends.
use Rattle.std.proofs.Common.{◌≡◌, ℕ, ◌+◌, ◌≤◌, List, Option, Some, None, slice_get, length, ap, sym, subst, ◌∙◌, refl, arith}
use Rattle.cd_base.specs.declared.place.Place.{Place}
use Rattle.cd_base.specs.declared.place.Range.{Range}
use Rattle.cd_base.specs.Words.{in_ranges}
use Rattle.cd_tree.specs.declared.domain.Domain.{Domain}
use Rattle.cd_tree.specs.declared.event.Cause.{Cause}
use Rattle.cd_tree.specs.Domains.{Node, node_of}
use Rattle.cd_tree.specs.Laws.{NestedViewFollows}
use Rattle.cd_tree.specs.Meaning.{node_writes}
use Rattle.cd_field.specs.FieldModel.{FieldModel}
use Rattle.cd_keep.specs.PassModel.{PassModel}
use Rattle.cd_cover.specs.Plans.{PlanModel, IsPlan}
use Rattle.cd_tries.specs.declared.keep.Keep.{Keep}
use Rattle.cd_core.specs.declared.state.Ending.{Ending}
use Rattle.cd_core.specs.declared.state.Ending.TheVariants.{Done, Escalated}
use Rattle.cd_core.specs.declared.verdict.Verdict.{Verdict}
use Rattle.cd_core.specs.declared.verdict.Verdict.TheVariants.{Waits, Completes, Escalates}
use Rattle.cd_core.specs.Advancing.{Judged, TriesSo, all_sent, members_at, state_behind, state_sending}
use Rattle.cd_core.specs.Asks.{EachAnswers}
use Rattle.cd_core.specs.Fits.{Fits}
use Rattle.cd_core.specs.StateLaws.{AdvancingFits, AdvancingStands, CompletingFits, Concludes, EscalatingFits, SendingFits, SendingStands, StandsApart, StandsTried, TriesComeToGroups, TriesFit, completed, escalated_by, verdict_ending, waiting_for}
use Rattle.cd_core.specs.StateModel.{StateModel}
use Rattle.cd_core.specs.Stands.{Stands}
use Rattle.cd_core.specs.Steps.{AdvancesBy, AllFit, CanMove, FitsBehind, StandsBehind, StepIs, StepModel, ends_done, ends_escalated, no_memory, sends}
use Rattle.cd_core.specs.Tasks.{Task}
use Rattle.cd_core.specs.Trying.{FitsTried, TriedFrom}
use Rattle.cd_core.specs.LawsBelow.{MoreLaws}
use Rattle.cd_core.proofs.Commons.{Common}
use Rattle.cd_core.proofs.EndsStand.{common_of, ends_stand}
use Rattle.cd_core.proofs.Grounds.{view_in}

-- ---- exactly

-- what follows the verdict of tries is the step of an advance
concluded : (plan : PlanModel) (domain : Domain) (old mid new : StateModel) (step : StepModel) (verdict : Verdict)
    → slice_get plan.tree.domains old.node.0 ≡ Some domain → (t : TriedFrom old.stage plan domain old mid verdict)
    → new ≡ state_behind plan domain old t.keeps t.pass t.judged.begin t.judged.field verdict
    → StepIs plan domain (state_sending old t.keeps t.judged.begin t.judged.field t.pass) verdict step → AdvancesBy plan old new step
concluded plan domain old mid new step verdict listed t after is =
    let j : Judged = t.judged in
    let A : Verdict → Type 0 = λ v. new ≡ state_behind plan domain old t.keeps t.pass j.begin j.field v in
    let B : Verdict → Type 0 = λ v. StepIs plan domain (state_sending old t.keeps j.begin j.field t.pass) v step in
    record {
      domain = domain;
      is = listed;
      keeps = t.keeps;
      pass = t.pass;
      judged = j;
      tried = t.tried;
      behind = subst A t.is after;
      answer = subst B t.is is;
    }

-- by the verdict
pub advanced : (plan : PlanModel) (domain : Domain) (old mid new : StateModel) (step : StepModel) (verdict : Verdict)
    → slice_get plan.tree.domains old.node.0 ≡ Some domain → TriedFrom old.stage plan domain old mid verdict
    → Concludes plan domain mid verdict new step → AdvancesBy plan old new step
advanced plan domain old mid new step (Waits spare point) listed t ends =
    let was : StateModel = state_sending old t.keeps t.judged.begin t.judged.field t.pass in
    let P : StateModel → Type 0 = λ s. new ≡ waiting_for plan s (members_at domain point) spare point in
    let Q : StateModel → Type 0 = λ s. step ≡ sends (all_sent plan s (members_at domain point) s.field s.pass) in
    let S : StepModel → Type 0 = λ x. StepIs plan domain was (Waits spare point) x in
    concluded plan domain old mid new step (Waits spare point) listed t (subst P t.state ends.0) (subst S (sym (subst Q t.state ends.1)) refl)
advanced plan domain old mid new step (Completes leak) listed t ends =
    let was : StateModel = state_sending old t.keeps t.judged.begin t.judged.field t.pass in
    let P : StateModel → Type 0 = λ s. new ≡ completed s leak in
    let S : StepModel → Type 0 = λ x. StepIs plan domain was (Completes leak) x in
    concluded plan domain old mid new step (Completes leak) listed t (subst P t.state ends.0) (subst S (sym ends.1) tt)
advanced plan domain old mid new step (Escalates cause over) listed t ends =
    let was : StateModel = state_sending old t.keeps t.judged.begin t.judged.field t.pass in
    let P : StateModel → Type 0 = λ s. new ≡ escalated_by domain s cause over in
    let S : StepModel → Type 0 = λ x. StepIs plan domain was (Escalates cause over) x in
    concluded plan domain old mid new step (Escalates cause over) listed t (subst P t.state ends.0) (subst S (sym ends.1) tt)

-- ---- fitting

-- the state when the tries of an advance are done
abbrev pub after_tries : (plan : PlanModel) (old new : StateModel) (step : StepModel) → AdvancesBy plan old new step → StateModel
after_tries plan old new step a = state_sending old a.keeps a.judged.begin a.judged.field a.pass

pub tried_of : (plan : PlanModel) (old new : StateModel) (step : StepModel) (a : AdvancesBy plan old new step)
    → TriedFrom old.stage plan a.domain old (after_tries plan old new step a) a.judged.verdict
tried_of plan old new step a = record { keeps = a.keeps; pass = a.pass; judged = a.judged; tried = a.tried; is = refl; state = refl }

module _ (sends_fit : SendingFits) (completes : CompletingFits) (escalates : EscalatingFits) (plan : PlanModel) (is_plan : IsPlan plan) (domain : Domain)
    (d : Node) (old : StateModel) (keeps : List Keep) (q : PassModel) (begin : ℕ) (m : FieldModel) (listed : slice_get plan.tree.domains old.node.0 ≡ Some domain) where
  -- what follows a verdict fits
  fits_by : (new : StateModel) (step : StepModel) (verdict : Verdict) → FitsTried plan d domain (state_sending old keeps begin m q) verdict
      → new ≡ state_behind plan domain old keeps q begin m verdict → StepIs plan domain (state_sending old keeps begin m q) verdict step
      → FitsBehind plan new step
  fits_by new (sends children) (Waits spare point) fits after is =
      let mid : StateModel = state_sending old keeps begin m q in
      let both : Fits plan (waiting_for plan mid (members_at domain point) spare point) × AllFit plan (all_sent plan mid (members_at domain point) m q) =
      sends_fit plan mid d domain spare point is_plan listed fits in
      let F : StateModel → Type 0 = λ s. Fits plan s in
      let A : List StateModel → Type 0 = λ ss. AllFit plan ss in (subst F (sym after) both.0, subst A (sym is) both.1)
  fits_by new ends_done (Waits spare point) fits after is = absurd is
  fits_by new ends_escalated (Waits spare point) fits after is = absurd is
  fits_by new no_memory (Waits spare point) fits after is = tt
  fits_by new (sends children) (Completes leak) fits after is = absurd is
  fits_by new ends_done (Completes leak) fits after is =
      let F : StateModel → Type 0 = λ s. Fits plan s in
      subst F (sym after) (completes plan (state_sending old keeps begin m q) d domain leak is_plan listed fits)
  fits_by new ends_escalated (Completes leak) fits after is = absurd is
  fits_by new no_memory (Completes leak) fits after is = tt
  fits_by new (sends children) (Escalates cause over) fits after is = absurd is
  fits_by new ends_done (Escalates cause over) fits after is = absurd is
  fits_by new ends_escalated (Escalates cause over) fits after is =
      let F : StateModel → Type 0 = λ s. Fits plan s in
      subst F (sym after) (escalates plan (state_sending old keeps begin m q) d domain cause over is_plan listed fits)
  fits_by new no_memory (Escalates cause over) fits after is = tt

-- a domain that moved by an advance fits
fits_moved : NestedViewFollows → TriesFit → SendingFits → CompletingFits → EscalatingFits → (plan : PlanModel) (old new : StateModel) (step : StepModel)
    → IsPlan plan → Fits plan old → CanMove old.stage → AdvancesBy plan old new step → FitsBehind plan new step
fits_moved follows tries sends_fit completes escalates plan old new step is_plan fits moves a =
    let d : Node = view_in plan.tree old.node a.domain in
    let is : node_of plan.tree.domains old.node ≡ Some d = follows plan.tree is_plan.program old.node a.domain a.is in
    fits_by sends_fit completes escalates plan is_plan a.domain d old a.keeps a.pass a.judged.begin a.judged.field a.is new step a.judged.verdict
    (tries plan old (after_tries plan old new step a) a.domain a.judged.verdict is_plan a.is fits moves (tried_of plan old new step a) d is) a.behind a.answer

-- the law: advancing fits
pub advancing_fits : NestedViewFollows → TriesFit → SendingFits → CompletingFits → EscalatingFits → AdvancingFits
advancing_fits follows tries sends_fit completes escalates plan old new (sends children) is_plan fits moves a =
    fits_moved follows tries sends_fit completes escalates plan old new (sends children) is_plan fits moves a
advancing_fits follows tries sends_fit completes escalates plan old new ends_done is_plan fits moves a =
    fits_moved follows tries sends_fit completes escalates plan old new ends_done is_plan fits moves a
advancing_fits follows tries sends_fit completes escalates plan old new ends_escalated is_plan fits moves a =
    fits_moved follows tries sends_fit completes escalates plan old new ends_escalated is_plan fits moves a
advancing_fits follows tries sends_fit completes escalates plan old new no_memory is_plan fits moves a = tt

-- ---- standing

-- what stays of a state that stands, when its tries are done
stands_apart : MoreLaws → (plan : PlanModel) (t : Task) (s : StateModel) (domain : Domain) (keeps : List Keep) (q : PassModel) (j : Judged)
    → IsPlan plan → Stands plan t s → slice_get plan.tree.domains s.node.0 ≡ Some domain → TriesSo plan domain s keeps q j s.stage
    → StandsApart plan t (state_sending s keeps j.begin j.field q)
stands_apart l plan t s domain keeps q j is_plan st listed so =
    let c : Common plan t s q j = common_of l plan t s domain keeps q j is_plan st listed so in
    let C : List Range → Type 0 = λ rs. (p : Place) → in_ranges rs p ≡ node_writes t.domain p in
    record {
      domain = st.domain;
      script = c.script ∙ st.script;
      carved = subst C (sym c.carved) st.carved;
      lapses = omega (arith, st.lapses, c.answered);
      links = c.links;
    }

module _ (l : MoreLaws) (come : TriesComeToGroups) (send : SendingStands) (plan : PlanModel) (is_plan : IsPlan plan) (t : Task) (domain : Domain)
    (old : StateModel) (keeps : List Keep) (q : PassModel) (j : Judged) (st : Stands plan t old) (listed : slice_get plan.tree.domains old.node.0 ≡ Some domain)
    (so : TriesSo plan domain old keeps q j old.stage) where
  -- what ends a domain leaves it standing
  ended_by : (new : StateModel) (ending : Ending) → verdict_ending j.verdict ≡ Some ending
      → new ≡ state_behind plan domain old keeps q j.begin j.field j.verdict → Fits plan new → Stands plan t new
  ended_by new ending ends after fits =
      let F : StateModel → Type 0 = λ s. Fits plan s in
      let S : StateModel → Type 0 = λ s. Stands plan t s in
      subst S (sym after) (ends_stand l plan t old domain keeps q j ending is_plan st listed so ends (subst F after fits))

  -- what follows a verdict stands
  stands_by : (new : StateModel) (step : StepModel) (verdict : Verdict) → j.verdict ≡ verdict
      → FitsTried plan t.domain domain (state_sending old keeps j.begin j.field q) verdict
      → new ≡ state_behind plan domain old keeps q j.begin j.field j.verdict → StepIs plan domain (state_sending old keeps j.begin j.field q) verdict step
      → FitsBehind plan new step → StandsBehind plan t new step
  stands_by new (sends children) (Waits spare point) e tried after is fits =
      let mid : StateModel = state_sending old keeps j.begin j.field q in
      let waiting : StateModel = waiting_for plan mid (members_at domain point) spare point in
      let N : Verdict → Type 0 = λ v. new ≡ state_behind plan domain old keeps q j.begin j.field v in
      let same : new ≡ waiting = subst N e after in
      let both : Stands plan t waiting × EachAnswers plan t.faults t.loaded waiting (all_sent plan mid (members_at domain point) j.field q) =
      send plan t mid domain spare point is_plan st.task listed (stands_apart l plan t old domain keeps q j is_plan st listed so) tried
      (come plan t old domain keeps q j spare point is_plan st listed so e) in
      let S : StateModel → Type 0 = λ s. Stands plan t s in
      let A : StateModel → Type 0 = λ s. EachAnswers plan t.faults t.loaded s children in
      let B : List StateModel → Type 0 = λ ss. EachAnswers plan t.faults t.loaded waiting ss in
      (subst S (sym same) both.0, subst A (sym same) (subst B (sym is) both.1))
  stands_by new ends_done (Waits spare point) e tried after is fits = absurd is
  stands_by new ends_escalated (Waits spare point) e tried after is fits = absurd is
  stands_by new no_memory (Waits spare point) e tried after is fits = tt
  stands_by new (sends children) (Completes leak) e tried after is fits = absurd is
  stands_by new ends_done (Completes leak) e tried after is fits =
      ended_by new (Done leak) (ap (λ (v : Verdict). verdict_ending v) e) after fits
  stands_by new ends_escalated (Completes leak) e tried after is fits = absurd is
  stands_by new no_memory (Completes leak) e tried after is fits = tt
  stands_by new (sends children) (Escalates cause over) e tried after is fits = absurd is
  stands_by new ends_done (Escalates cause over) e tried after is fits = absurd is
  stands_by new ends_escalated (Escalates cause over) e tried after is fits =
      ended_by new (Escalated cause over) (ap (λ (v : Verdict). verdict_ending v) e) after fits
  stands_by new no_memory (Escalates cause over) e tried after is fits = tt

-- a domain that moved by an advance stands
stands_moved : MoreLaws → TriesComeToGroups → TriesFit → AdvancingFits → SendingStands → (plan : PlanModel) (t : Task) (old new : StateModel) (step : StepModel)
    → IsPlan plan → CanMove old.stage → Stands plan t old → AdvancesBy plan old new step → FitsBehind plan new step → StandsBehind plan t new step
stands_moved l come tries fit send plan t old new step is_plan moves st a fits =
    let is : node_of plan.tree.domains old.node ≡ Some t.domain =
    ap (λ (n : ℕ). node_of plan.tree.domains (record { 0 = n })) (sym st.domain) ∙ st.task.domain in
    stands_by l come send plan is_plan t a.domain old a.keeps a.pass a.judged st a.is a.tried new step a.judged.verdict refl
    (tries plan old (after_tries plan old new step a) a.domain a.judged.verdict is_plan a.is st.fits moves (tried_of plan old new step a) t.domain is)
    a.behind a.answer fits

-- the law: advancing stands
pub advancing_stands : MoreLaws → TriesComeToGroups → TriesFit → AdvancingFits → SendingStands → AdvancingStands
advancing_stands l come tries fit send plan t old new (sends children) is_plan moves a st =
    stands_moved l come tries fit send plan t old new (sends children) is_plan moves st a (fit plan old new (sends children) is_plan st.fits moves a)
advancing_stands l come tries fit send plan t old new ends_done is_plan moves a st =
    stands_moved l come tries fit send plan t old new ends_done is_plan moves st a (fit plan old new ends_done is_plan st.fits moves a)
advancing_stands l come tries fit send plan t old new ends_escalated is_plan moves a st =
    stands_moved l come tries fit send plan t old new ends_escalated is_plan moves st a (fit plan old new ends_escalated is_plan st.fits moves a)
advancing_stands l come tries fit send plan t old new no_memory is_plan moves a st = tt
