-- The root at its start answers its ask; where it has ended, as its ask says, the program has run.
use Rattle.std.proofs.Common.{◌≡◌, ℕ, zero, suc, ◌-◌, true, false, List, [], ◌∷◌, map, slice_get, slice_index, Option, Some, IsSome, Contains, inr, refl, ap, subst, sym, ◌∙◌}
use Rattle.std.proofs.Math.Path.{fun_ext}
use Rattle.std.proofs.lemmas.Bool.{or_left}
use Rattle.cd_base.specs.declared.place.Place.{Place}
use Rattle.cd_base.specs.Words.{Words}
use Rattle.cd_base.proofs.BoolLemmas.{by_test}
use Rattle.cd_tree.specs.declared.domain.NodeId.{NodeId}
use Rattle.cd_tree.specs.declared.domain.Domain.{Domain}
use Rattle.cd_tree.specs.declared.document.Fault.{Fault}
use Rattle.cd_tree.specs.Domains.{Node, node, node_of, number_of, root_of}
use Rattle.cd_tree.specs.KindSets.{no_kinds}
use Rattle.cd_tree.specs.Locality.{AllShapesFit, DomainsActLocally, SameWords, ShapesFitInPrograms}
use Rattle.cd_tree.specs.Meaning.{node_meaning, node_reach, node_reads, node_writes}
use Rattle.cd_tree.specs.Reading.{Counts, no_begins}
use Rattle.cd_tree.proofs.EachDomain.{number_there, root_there}
use Rattle.cd_tree.proofs.View.{domain_here}
use Rattle.cd_field.specs.FieldModel.{FieldModel}
use Rattle.cd_keep.specs.PassModel.{PassModel}
use Rattle.cd_cover.specs.Outer.{outer_references}
use Rattle.cd_cover.specs.Plans.{PlanModel, IsPlan}
use Rattle.cd_core.specs.declared.state.Ending.{Ending}
use Rattle.cd_core.specs.declared.state.Ending.TheVariants.{Done, Escalated}
use Rattle.cd_core.specs.declared.state.Stage.{Stage}
use Rattle.cd_core.specs.declared.state.Stage.TheVariants.{Ended}
use Rattle.cd_core.specs.StateModel.{StateModel}
use Rattle.cd_core.specs.Fits.{FitsEnded, FitsStage, IsHere, IsHereAtEnd}
use Rattle.cd_core.specs.LawsBelow.{MoreLaws}
use Rattle.cd_core.specs.Stands.{Sound, Stands, StandsArrived, StandsAt}
use Rattle.cd_core.specs.Asks.{Answers, counts_listed, foot_of, laid_over, links_listed, root_ask, task_of, words_over}
use Rattle.cd_core.specs.Running.{EndedRootsRan, Ran, StartedRootsAnswer}
use Rattle.cd_core.specs.StateLaws.{CanStart, StartingStands}
use Rattle.cd_core.specs.Steps.{root_state, root_task}
use Rattle.cd_core.specs.Tasks.{LinksAgree, Task}
use Rattle.cd_core.proofs.AskedWords.{words_back}
use Rattle.cd_core.proofs.Grounds.{view_in}
use Rattle.cd_core.proofs.RootStands.{no_outer}
use Rattle.cd_core.proofs.Viewed.{foot_is, view_is}

-- no begin is listed for the root
none_listed : (domains : List Domain) (k : ℕ) → slice_index (map (λ (domain : Domain). 0) domains) k ≡ 0
none_listed [] k = refl
none_listed (domain ∷ domains) zero = refl
none_listed (domain ∷ domains) (suc k) = none_listed domains k

-- all is present where the root has ended
pub here_at_end : (plan : PlanModel) (d : Node) (s : StateModel) (ending : Ending) → s.node.0 ≡ 0 → IsHereAtEnd plan d s ending → IsHere d s.field
here_at_end plan d s (Done leak) top here = here
here_at_end plan d s (Escalated cause over) top here = here (inr top)

one_root : (one two : Node) → ◌≡◌ {A = Option Node} (Some one) (Some two) → one ≡ two
one_root one two e = cc

module _ (l : MoreLaws) (plan : PlanModel) (is_plan : IsPlan plan) (faults : List Fault) (loaded : Words)
    (here : (q : Place) → node_reach (root_of plan.tree.domains) q ≡ true → IsSome (loaded q)) where
  abbrev top : NodeId
  top = record { 0 = 0 }

  abbrev d : Node
  d = root_of plan.tree.domains

  -- what the root's ask sends it with
  abbrev asked : Task
  asked = task_of plan faults loaded (root_ask plan loaded) d

  -- the same, with no begins
  abbrev own : Task
  own = record { domain = d; faults = faults; loaded = loaded; words = asked.words; counts = no_begins; links = asked.links }

  there : node_of plan.tree.domains top ≡ Some d
  there = root_there plan.tree.domains is_plan.program.some

  number : number_of d ≡ 0
  number = number_there 0 plan.tree.domains 0 d there

  asked_is : asked ≡ own
  asked_is =
      let none : counts_listed d (map (λ (domain : Domain). 0) plan.tree.domains) ≡ no_begins =
      fun_ext (λ n. none_listed plan.tree.domains (n - number_of d)) in
      ap (λ (counts : Counts). record { domain = d; faults = faults; loaded = loaded; words = asked.words; counts = counts; links = asked.links }) none

  words_same : SameWords (node_reach d) asked.words loaded
  words_same q h = words_back (foot_of plan top).reach loaded q ((foot_is plan top d is_plan there).reach q ∙ h) (here q h)

  -- no reference leads out of the root
  none_out : (reference : NodeId × ℕ) → Contains (outer_references d) reference → ⊥
  none_out reference outer =
      let first : (domain : Domain) × (slice_get plan.tree.domains 0 ≡ Some domain) = domain_here plan.tree.domains 0 is_plan.program.some in
      let view : d ≡ view_in plan.tree top first.0 = view_is l.follows plan top first.0 d is_plan first.1 there in
      let Outer : Node → Type 0 = λ e. Contains (outer_references e) reference in
      no_outer l plan top first.0 reference is_plan refl first.1 (subst Outer view outer)

pub started_roots_answer : MoreLaws → StartingStands → StartedRootsAnswer
started_roots_answer l starts plan m p is_plan room can =
    let here : (q : Place) → node_reach (root_of plan.tree.domains) q ≡ true → IsSome (m.words q) = λ q h. (can.present q h).known in
    let st : Stands plan (root_task plan m) (root_state plan m p) = starts plan m p is_plan room can in
    let S : Task → Type 0 = λ t. Stands plan t (root_state plan m p) in
    let same : SameWords (node_reach (root_of plan.tree.domains)) (asked l plan is_plan m.script m.words here).words m.words =
    words_same l plan is_plan m.script m.words here in
    record {
      domain = root_of plan.tree.domains;
      is = there l plan is_plan m.script m.words here;
      stands = subst S (sym (asked_is l plan is_plan m.script m.words here)) (record {
        task = record { domain = st.task.domain; accepted = st.task.accepted; root = λ e q h. same q h; small = st.task.small };
        fits = st.fits;
        domain = st.domain;
        script = st.script;
        carved = st.carved;
        lapses = st.lapses;
        links = λ reference entry outer stands. absurd (none_out l plan is_plan m.script m.words here reference outer);
        stage = record { words = λ q h. sym (same q h); counts = st.stage.counts; events = st.stage.events; notes = st.stage.notes };
      });
      store = tt;
    }

-- ---- the end

-- what is computed from words that are the same on all that a domain reaches is the same there
same_meaning : DomainsActLocally → (d : Node) (v w : Words) → AllShapesFit d → SameWords (node_reach d) v w
    → SameWords (node_reach d) (node_meaning d v) (node_meaning d w)
same_meaning acts d v w shapes same q h =
    by_test (node_writes d q)
    (λ e. acts.written d v w shapes (λ x k. same x (or_left (node_reads d x) (node_writes d x) k)) q e)
    (λ e. acts.others d v q e ∙ same q h ∙ sym (acts.others d w q e))

module _ (l : MoreLaws) (acts : DomainsActLocally) (shapes : ShapesFitInPrograms) (plan : PlanModel) (is_plan : IsPlan plan) (was : FieldModel)
    (p : PassModel) (can : CanStart plan was p) (s : StateModel) (ending : Ending)
    (a : Answers plan was.script was.words (root_ask plan was.words) s) (is : s.stage ≡ Ended ending) where
  abbrev root : Node
  root = root_of plan.tree.domains

  here : (q : Place) → node_reach root q ≡ true → IsSome (was.words q)
  here q h = (can.present q h).known

  abbrev t : Task
  t = own l plan is_plan was.script was.words here

  same : SameWords (node_reach root) t.words was.words
  same = words_same l plan is_plan was.script was.words here

  stands : Stands plan t s
  stands =
      let S : Node → Type 0 = λ x. Stands plan (task_of plan was.script was.words (root_ask plan was.words) x) s in
      let T : Task → Type 0 = λ x. Stands plan x s in
      subst T (asked_is l plan is_plan was.script was.words here)
      (subst S (one_root a.domain root (sym a.is ∙ there l plan is_plan was.script was.words here)) a.stands)

  arrived : StandsArrived plan t s ending
  arrived = let A : Stage → Type 0 = λ x. StandsAt plan t s x in subst A is stands.stage

  abbrev mine : Node
  mine = node s.node stands.fits.domain stands.fits.body

  first : s.node.0 ≡ 0
  first = sym stands.domain ∙ number l plan is_plan was.script was.words here

  mine_is : mine ≡ root
  mine_is =
      let at : node_of plan.tree.domains s.node ≡ node_of plan.tree.domains (record { 0 = 0 }) =
      ap (λ (n : ℕ). node_of plan.tree.domains (record { 0 = n })) first in
      one_root mine root (sym stands.fits.is ∙ at ∙ there l plan is_plan was.script was.words here)

  fits : FitsEnded plan mine s ending
  fits = let F : Stage → Type 0 = λ x. FitsStage plan mine stands.fits.domain s x in subst F is stands.fits.stage

  sound_as : (e : Ending) → Sound plan t s.field e → Sound plan (root_task plan was) s.field e
  sound_as (Done leak) sound = λ none agree.
      (let links : LinksAgree plan t =
      λ reference entry outer there. absurd (none_out l plan is_plan was.script was.words here reference outer) in
      let both : IsHere root s.field × SameWords (node_reach root) s.field.words (node_meaning root t.words) = sound none links in (
        both.0,
        λ q h. both.1 q h
            ∙ same_meaning acts root t.words was.words (shapes plan.tree is_plan.program (record { 0 = 0 }) root (there l plan is_plan was.script was.words here)) same q h,
      ))
  sound_as (Escalated cause over) sound = λ begun_at.
      (let both : IsHere root s.field × SameWords (node_reach root) s.field.words t.words = sound begun_at in (both.0, λ q h. both.1 q h ∙ same q h))

  root_ran : Ran plan was s.field s.counts ending
  root_ran =
      let H : Node → Type 0 = λ x. IsHere x s.field in
      record {
        legal = arrived.legal;
        counts = arrived.counts;
        ends = arrived.ends;
        notes = arrived.notes;
        here = subst H mine_is (here_at_end plan mine s ending first fits.present);
        sound = sound_as ending arrived.sound;
        script = stands.script;
        carved = λ q. stands.carved q ∙ sym (can.carved q);
      }

pub ended_roots_ran : MoreLaws → DomainsActLocally → ShapesFitInPrograms → EndedRootsRan
ended_roots_ran l acts shapes plan was p s ending is_plan can a is = root_ran l acts shapes plan is_plan was p can s ending a is
