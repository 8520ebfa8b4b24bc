-- A domain that stands behind a group: what its tries come to.
use Rattle.std.proofs.Common.{◌≡◌, ℕ, zero, suc, ◌+◌, ◌≤◌, ◌<◌, ◌^◌, Bool, true, false, ◌==◌, List, ◌∷◌, Option, Some, drop, slice_get, slice_index, refl, ap, subst, sym, ◌∙◌, arith}
use Rattle.cd_base.specs.declared.place.Place.{Place}
use Rattle.cd_base.specs.Words.{Words}
use Rattle.cd_tree.specs.declared.domain.NodeId.{NodeId}
use Rattle.cd_tree.specs.declared.domain.Domain.{Domain}
use Rattle.cd_tree.specs.declared.event.Cause.{Cause}
use Rattle.cd_tree.specs.KindSets.{no_kinds, halting, kinds_without}
use Rattle.cd_tree.specs.Domains.{Node, Body, node, node_of, body_numbers}
use Rattle.cd_tree.specs.Fronts.{front_of_node}
use Rattle.cd_tree.specs.Meaning.{in_entries, node_reach}
use Rattle.cd_tree.specs.Reading.{Counts, Told, TryEnd, GroupEnd, joined, read_members, read_node, stopped}
use Rattle.cd_tree.specs.Reading.{Failed as failed, Broken as broken}
use Rattle.cd_tree.specs.Slices.{among}
use Rattle.cd_field.specs.FieldModel.{FieldModel, IsPresent}
use Rattle.cd_cover.specs.Plans.{PlanModel, IsPlan}
use Rattle.cd_tries.specs.Fitting.{StrikesWithin, CanRun, HasWords}
use Rattle.cd_tries.specs.Running.{Trial, tried_from, tried_again, next_begin, Tried, tries_from, Means, means}
use Rattle.cd_tries.specs.Keeping.{Known}
use Rattle.cd_tries.specs.TryLaws.{EachGives, Stays}
use Rattle.cd_core.specs.StateModel.{StateModel}
use Rattle.cd_core.specs.Fits.{FitsResumed, FitsLost, HasBegun}
use Rattle.cd_core.specs.Tasks.{Task, task_case, task_reading}
use Rattle.cd_core.specs.Tasks.{LinksAgree}
use Rattle.cd_core.specs.Stands.{AsSent, WaitingFront, members_told, StandsResumed, StandsLost, named}
use Rattle.cd_core.specs.Advancing.{own_count, Judged, judged_course, after_loss}
use Rattle.cd_core.proofs.Beginnings.{WaitsFor, before_next, lost_over}
use Rattle.cd_core.proofs.Coming.{Behind, tries_rest, goes_on}
use Rattle.cd_core.specs.LawsBelow.{MoreLaws}
use Rattle.cd_core.proofs.Facts.{reach_is}
use Rattle.cd_core.proofs.Following.{Before, case_on}
use Rattle.cd_core.proofs.Grounds.{view_in, body_in, plan_sound, plan_apart}
use Rattle.cd_core.proofs.Judging.{Over, StopsAt}
use Rattle.cd_core.proofs.Keeping.{all_give}
use Rattle.cd_core.proofs.ReadyOnes.{task_at, Comes}
use Rattle.cd_core.proofs.Rounds.{Rests, GoesOn, rounds, still_goes, again_begin, again_from}
use Rattle.cd_core.proofs.Views.{FitsView}

module _ (l : MoreLaws) (plan : PlanModel) (s : StateModel) (domain : Domain) (is_plan : IsPlan plan) (listed : slice_get plan.tree.domains s.node.0 ≡ Some domain)
    (loaded words : Words) (counts : Counts) (links : NodeId × ℕ → Words) where
  abbrev t : Task
  t = task_at plan s domain loaded words counts links

  abbrev P : Type 0
  P = LinksAgree plan t

  abbrev halts : ℕ
  halts = halting plan.tree.kinds

  abbrev body : Body
  body = body_in plan.tree domain

  -- the front at which it waited, on its machine
  waited : (spare point : ℕ) → s.field.node ≡ s.node → (at : WaitingFront plan t spare point) → (base : Counts)
      → WaitsFor plan.tree loaded halts domain body counts base words P s.field at.attempt point spare at.front at.members at.behind
  waited spare point here at base =
      let Q : NodeId → Type 0 = λ i. front_of_node (task_case plan t) (node i domain body) counts at.attempt point ≡ Some at.front in
      record { is = subst Q (sym here) at.is; left = at.left; waits = at.waits }

  apart_here : s.field.node ≡ s.node → among (body_numbers body) s.field.node.0 ≡ false
  apart_here here =
      let A : NodeId → Type 0 = λ i. among (body_numbers body) i.0 ≡ false in
      subst A (sym here) (plan_apart l.follows l.distinct plan s.node domain is_plan listed)

  small_here : s.field.node ≡ s.node → ((n : ℕ) → (task_reading plan t).counts n < 2 ^ 64)
      → (n : ℕ) → (read_node (case_on halts s.field) (node s.field.node domain body) counts).counts n < 2 ^ 64
  small_here here small =
      let D : NodeId → Type 0 = λ i. (n : ℕ) → (read_node (case_on halts s.field) (node i domain body) counts).counts n < 2 ^ 64 in
      subst D (sym here) small

  -- the number of its begin is the count behind the members
  begin_here : (now : Counts) → s.field.node ≡ s.node → AsSent plan t s → own_count s ≡ now s.node.0 → s.field.begin ≡ now s.field.node.0
  begin_here now here sent own = sent.begin ∙ own ∙ ap (λ (i : NodeId). now i.0) (sym here)

  pub come_resumed : FitsView plan s domain → (spare point : ℕ) → FitsResumed (view_in plan.tree s.node domain) domain s spare point
      → StrikesWithin s.node domain.entries s.field.script → ((n : ℕ) → (task_reading plan t).counts n < 2 ^ 64)
      → (stands : StandsResumed plan t s spare point) → (j : Judged)
      → j ≡ judged_course plan s.node (tries_from (means s.node domain halts s.pass.known s.keeps) spare (own_count s) (tried_from halts domain s.field (suc point)))
      → Comes plan t s domain s.keeps s.pass j (members_told plan t spare point stands.at).counts
  come_resumed view spare point fits strikes small stands j is =
      let here : s.field.node ≡ s.node = fits.begun.here in
      let all : Told GroupEnd = members_told plan t spare point stands.at in
      let own : own_count s ≡ all.counts s.node.0 = ap (λ (cs : List ℕ). slice_index cs 0) stands.counts in
      let before : Before plan.tree loaded halts domain body counts all.counts words P s.field stands.at.attempt (suc point)
      (joined stands.at.front.past all.past) spare stands.at.behind all.counts =
      before_next plan.tree loaded halts domain body counts all.counts words P l.laws l.passes s.field stands.at.attempt point spare
      stands.at.front stands.at.members stands.at.behind stands.leaks (apart_here here) (waited spare point here stands.at all.counts) stands.done
      stands.notes (begin_here all.counts here stands.sent own) stands.legal
      (λ none agree p h. stands.words none agree p (reach_is l plan s.node domain is_plan listed p ∙ h)) (λ n. refl) in
      let run_on : CanRun s.node domain s.field = record {
        sound = plan_sound l.follows l.covered plan s.node domain is_plan listed;
        here = here;
        present = λ p h. fits.present p (reach_is l plan s.node domain is_plan listed p ∙ h);
        strikes = strikes;
      } in
      let tries : Tried = tries_from (means s.node domain halts s.pass.known s.keeps) spare (own_count s) (tried_from halts domain s.field (suc point)) in
      let rests : Rests plan.tree loaded halts domain body counts all.counts words P tries
      × Behind l plan s.node domain is_plan listed loaded counts all.counts words P s.field tries.field =
      tries_rest l plan s.node domain is_plan listed loaded counts all.counts words P s.pass.known s.keeps s.field stands.at.attempt spare (suc point)
      (own_count s) (joined stands.at.front.past all.past) stands.at.behind all.counts fits.begun.keeps
      (λ agree. all_give l.outer l.links l.follows plan t s.node domain s.pass.known s.keeps is_plan listed refl agree fits.begun.keeps stands.sent.keeps)
      run_on (omega (arith, fits.group)) (sym stands.sent.begin) (small_here here small)
      (sym before.behind ∙ l.items (suc point) (node_of plan.tree.domains) domain.items) before in
      record {
        tried = tries;
        is = is;
        rests = rests.0;
        node = rests.1.node;
        script = rests.1.script;
        carved = rests.1.carved;
        present = rests.1.present;
        fit = fits.begun.keeps;
        gives = stands.sent.keeps;
        based = stands.counts;
      }

  -- the try that a loss ended
  pub over_lost : (spare : ℕ) (cause : Cause) (over : ℕ) → s.field.node ≡ s.node → (stands : StandsLost plan t s spare cause over)
      → Over plan.tree loaded halts domain body counts (members_told plan t spare stands.point stands.at).counts words P s.field stands.at.attempt spare
      (stopped stands.blame (kinds_without stands.more domain.detects) (kinds_without stands.more domain.detects == no_kinds))
  over_lost spare cause over here stands =
      let all : Told GroupEnd = members_told plan t spare stands.point stands.at in
      let own : own_count s ≡ all.counts s.node.0 = ap (λ (cs : List ℕ). slice_index cs 0) stands.counts in
      lost_over plan.tree loaded halts domain body counts all.counts words P l.laws s.field stands.at.attempt stands.point spare
      stands.at.front stands.at.members stands.at.behind stands.blame stands.more (waited spare stands.point here stands.at all.counts) stands.lost
      (begin_here all.counts here stands.sent own) stands.legal (λ n. refl)

  -- where nothing is left over and a try is to spare, another follows
  pub come_lost : FitsView plan s domain → (spare : ℕ) (cause : Cause) (over : ℕ) → HasBegun domain s
      → StrikesWithin s.node domain.entries s.field.script → ((n : ℕ) → (task_reading plan t).counts n < 2 ^ 64)
      → (stands : StandsLost plan t s (suc spare) cause over) → (over == no_kinds) ≡ true → (j : Judged)
      → j ≡ judged_course plan s.node (tries_from (means s.node domain halts s.pass.known s.keeps) spare (next_begin (own_count s))
      (tried_again (means s.node domain halts s.pass.known s.keeps) (next_begin (own_count s)) s.field))
      → Comes plan t s domain s.keeps s.pass j (members_told plan t (suc spare) stands.point stands.at).counts
  come_lost view spare cause over begun strikes small stands none j is =
      let here : s.field.node ≡ s.node = begun.here in
      let m : FieldModel = s.field in
      let find : NodeId → Option Node = node_of plan.tree.domains in
      let known : Known = s.pass.known in
      let base : Counts = (members_told plan t (suc spare) stands.point stands.at).counts in
      let left : ℕ = kinds_without stands.more domain.detects in
      let E : Bool → Type 0 = λ b. Over plan.tree loaded halts domain body counts base words P m stands.at.attempt (suc spare) (stopped stands.blame left b) in
      let lost : Over plan.tree loaded halts domain body counts base words P m stands.at.attempt (suc spare) (failed stands.blame) =
      subst E (sym (ap (λ (k : ℕ). k == no_kinds) stands.undeclared) ∙ none) (over_lost (suc spare) cause over here stands) in
      let has : HasWords domain.entries m = λ p h. view.words p (reach_is l plan s.node domain is_plan listed p ∙ h) in
      let goes : GoesOn plan.tree loaded halts domain body counts base words P find m =
      goes_on l plan s.node domain is_plan listed loaded counts base words P m m here strikes (small_here here small) here refl has in
      let gives : P → EachGives known words domain.entries s.keeps =
      λ agree. all_give l.outer l.links l.follows plan t s.node domain known s.keeps is_plan listed refl agree begun.keeps stands.sent.keeps in
      let with : NodeId → Means = λ i. means i domain halts known s.keeps in
      let n : NodeId → ℕ → Trial = λ i b. tried_again (with i) (next_begin b) m in
      let still : ((n m.node m.begin).field.node ≡ m.node) × GoesOn plan.tree loaded halts domain body counts base words P find (n m.node m.begin).field =
      still_goes plan.tree loaded halts domain body counts base words P l.laws find known s.keeps m (next_begin m.begin) begun.keeps goes in
      let whole : NodeId → ℕ → Tried = λ i b. tries_from (with i) spare (next_begin b) (n i b) in
      let rests : Rests plan.tree loaded halts domain body counts base words P (whole m.node m.begin) =
      rounds plan.tree loaded halts domain body counts base words P l.laws find known s.keeps spare (suc stands.at.attempt) (next_begin m.begin) m.node
      (n m.node m.begin).field (n m.node m.begin).stop begun.keeps gives still.1
      (sym (again_begin plan.tree loaded halts domain body counts base words P l.laws known s.keeps m (next_begin m.begin) begun.keeps has)) still.0
      (again_from plan.tree loaded halts domain body counts base words P l.laws find known s.keeps m stands.at.attempt spare stands.blame begun.keeps gives goes lost) in
      let first : Stays m.node domain m (n m.node m.begin).field =
      l.laws.stays (with m.node) (next_begin m.begin) m goes.sound has goes.strikes begun.keeps in
      let S : NodeId → Type 0 = λ i. StrikesWithin i domain.entries (n m.node m.begin).field.script in
      let run_on : CanRun m.node domain (n m.node m.begin).field =
      record { sound = goes.sound; here = first.node; present = first.present; strikes = subst S first.node still.1.strikes } in
      let later : Stays m.node domain (n m.node m.begin).field (whole m.node m.begin).field =
      l.tries (with m.node) spare (next_begin m.begin) (n m.node m.begin) run_on begun.keeps in
      let C : NodeId → ℕ → Type 0 = λ i b. Comes plan t s domain s.keeps s.pass (judged_course plan s.node (whole i b)) base in
      let D : NodeId → Type 0 = λ i. C i m.begin in
      let F : ℕ → Type 0 = λ b. C s.node b in
      let G : Judged → Type 0 = λ x. Comes plan t s domain s.keeps s.pass x base in
      subst G (sym is) (subst F stands.sent.begin (subst D here (record {
        tried = whole m.node m.begin;
        is = refl;
        rests = rests;
        node = later.node ∙ here;
        script = later.script ∙ first.script;
        carved = later.carved ∙ first.carved;
        present = later.present;
        fit = begun.keeps;
        gives = stands.sent.keeps;
        based = stands.counts;
      })))
