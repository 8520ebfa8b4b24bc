-- A domain that stands ready: what its tries come to.
use Rattle.std.proofs.Common.{◌≡◌, ℕ, zero, suc, ◌+◌, ◌-◌, ◌≤◌, ◌<◌, ◌^◌, true, false, ◌==◌, List, [], ◌∷◌, ◌++◌, Option, Some, length, drop, map, slice_get, slice_index, sum_by, refl, ap, subst, sym, ◌∙◌, arith}
use Rattle.std.proofs.lemmas.Bool.{eq-eqb}
use Rattle.cd_base.specs.declared.place.Place.{Place}
use Rattle.cd_base.specs.Words.{Words}
use Rattle.cd_tree.specs.declared.domain.NodeId.{NodeId}
use Rattle.cd_tree.specs.declared.domain.Domain.{Domain}
use Rattle.cd_tree.specs.declared.event.Event.{Event}
use Rattle.cd_tree.specs.declared.event.Event.TheVariants.{Begin}
use Rattle.cd_tree.specs.KindSets.{no_kinds, halting}
use Rattle.cd_tree.specs.Domains.{Node, Body, node, node_of}
use Rattle.cd_tree.specs.Fronts.{first_front}
use Rattle.cd_tree.specs.Legal.{Legal}
use Rattle.cd_tree.specs.Locality.{SameWords}
use Rattle.cd_tree.specs.Meaning.{in_entries, node_reach, entry_need}
use Rattle.cd_tree.specs.Reading.{Counts, counted, saved_from, only_events, read_node}
use Rattle.cd_field.specs.FieldModel.{FieldModel, IsPresent, begun as begun_on}
use Rattle.cd_keep.specs.PassModel.{PassModel}
use Rattle.cd_cover.specs.Plans.{PlanModel, IsPlan}
use Rattle.cd_tries.specs.declared.keep.Keep.{Keep}
use Rattle.cd_tries.specs.Fitting.{StrikesWithin, CanRun, CanPreserve}
use Rattle.cd_tries.specs.Keeping.{KeepsFit}
use Rattle.cd_tries.specs.KeepLaws.{HoldsKeeps}
use Rattle.cd_tries.specs.Preserving.{IsPreserved, told_all, links_for}
use Rattle.cd_tries.specs.Running.{tried_from, next_begin, Tried, tries_from, means}
use Rattle.cd_core.specs.StateModel.{StateModel}
use Rattle.cd_core.specs.Fits.{FitsReady}
use Rattle.cd_core.specs.Tasks.{Task, LinksAgree, LinksGive, KeepsGive, counts_in, task_reading}
use Rattle.cd_core.specs.Stands.{StandsReady}
use Rattle.cd_core.specs.Advancing.{own_count, Judged, judged_course, BeginsSo}
use Rattle.cd_core.proofs.Beginnings.{before_first}
use Rattle.cd_core.proofs.Choices.{chosen}
use Rattle.cd_core.proofs.Following.{Before}
use Rattle.cd_core.proofs.Coming.{Behind, tries_rest}
use Rattle.cd_core.specs.LawsBelow.{MoreLaws}
use Rattle.cd_core.proofs.Facts.{strikes_within, own_links, reach_is}
use Rattle.cd_core.proofs.Grounds.{view_in, body_in, plan_sound}
use Rattle.cd_core.proofs.Keeping.{all_give, all_stand}
use Rattle.cd_core.proofs.Retrying.{least_of}
use Rattle.cd_core.proofs.Rounds.{Rests}
use Rattle.cd_core.proofs.Views.{FitsView}

-- the task of a state of a listed domain, with its script
abbrev pub task_at : PlanModel → StateModel → Domain → Words → Words → Counts → (NodeId × ℕ → Words) → Task
task_at plan s domain loaded words counts links =
    record { domain = view_in plan.tree s.node domain; faults = s.field.script; loaded = loaded; words = words; counts = counts; links = links }

-- what the tries of a domain come to: where they rest, and what the keeps give
pub record Comes (plan : PlanModel) (t : Task) (s : StateModel) (domain : Domain) (keeps : List Keep) (q : PassModel) (j : Judged) (base : Counts) : Type 0 where
  pub tried : Tried
  pub is : j ≡ judged_course plan s.node tried
  pub rests : Rests plan.tree t.loaded (halting plan.tree.kinds) domain (body_in plan.tree domain) t.counts base t.words (LinksAgree plan t) tried
  pub node : tried.field.node ≡ s.node
  pub script : tried.field.script ≡ s.field.script
  pub carved : tried.field.carved ≡ s.field.carved
  pub present : (p : Place) → in_entries domain.entries p ≡ true → IsPresent tried.field p
  pub fit : KeepsFit q.known domain.entries keeps
  pub gives : KeepsGive q.known t s.node 0 domain.entries keeps
  pub based : s.counts ≡ counts_in t.domain base

module _ (l : MoreLaws) (plan : PlanModel) (s : StateModel) (domain : Domain) (is_plan : IsPlan plan) (listed : slice_get plan.tree.domains s.node.0 ≡ Some domain)
    (loaded words : Words) (counts : Counts) (links : NodeId × ℕ → Words) where
  abbrev t : Task
  t = task_at plan s domain loaded words counts links

  -- its first begin has the number behind its count
  number_first : ((n : ℕ) → (task_reading plan t).counts n < 2 ^ 64) → own_count s ≡ counts s.node.0 → next_begin (own_count s) ≡ counts s.node.0 + 1
  number_first small own =
      let below : counted s.node.0 counts s.node.0 ≤ (task_reading plan t).counts s.node.0 =
      (l.laws.between _ (view_in plan.tree s.node domain) counts 1 0 _ s.node.0
      (l.first (record { halts = halting plan.tree.kinds; faults = s.field.script }) (view_in plan.tree s.node domain) counts)).1 in
      let here : counted s.node.0 counts s.node.0 ≡ counts s.node.0 + 1 = chosen (s.node.0 == s.node.0) _ _ (eq-eqb s.node.0 s.node.0 refl) in
      let fits : counts s.node.0 + 1 < 2 ^ 64 = omega (arith, small s.node.0) in
      ap (λ (n : ℕ). next_begin n) own ∙ least_of (counts s.node.0) fits

  -- what its domain can be preserved on
  pub can_preserve : FitsView plan s domain → FitsReady (view_in plan.tree s.node domain) s → (number : ℕ)
      → CanPreserve domain (links_for plan.tree.domains s.node s.above) (begun_on s.field s.node number) s.pass
  can_preserve view ready number = record {
    sound = plan_sound l.follows l.covered plan s.node domain is_plan listed;
    present = λ p h.
        let there : IsPresent s.field p = ready.present p (reach_is l plan s.node domain is_plan listed p ∙ h) in
        record { known = there.known; here = there.here };
    covered = own_links l plan s.node domain s.pass.known s.above is_plan listed view.links 0 domain.entries (all_stand plan s.node domain listed);
    room = omega (arith, ready.nothing.room);
  }

  -- it comes to rest, where what it keeps gives what it was sent with
  pub come_ready : FitsView plan s domain → FitsReady (view_in plan.tree s.node domain) s
      → StrikesWithin s.node domain.entries s.field.script → ((n : ℕ) → (task_reading plan t).counts n < 2 ^ 64)
      → (s.node.0 ≡ 0 → SameWords (node_reach (view_in plan.tree s.node domain)) words loaded)
      → StandsReady plan t s → (keeps : List Keep) (q : PassModel) (j : Judged) → BeginsSo plan domain s keeps q j
      → KeepsGive q.known t s.node 0 domain.entries keeps
      → Comes plan t s domain keeps q j counts
  come_ready view ready strikes small root stands keeps q j so gives =
      let number : ℕ = next_begin (own_count s) in
      let b : FieldModel = begun_on s.field s.node number in
      let m : FieldModel = told_all b so.preserved.events in
      let own : own_count s ≡ counts s.node.0 = ap (λ (cs : List ℕ). slice_index cs 0) stands.counts in
      let can : CanPreserve domain (links_for plan.tree.domains s.node s.above) b s.pass = can_preserve view ready number in
      let holds : HoldsKeeps domain keeps s.pass q =
      l.held s.node domain (links_for plan.tree.domains s.node s.above) keeps b so.saved s.pass q can ready.nothing.holds so.preserved in
      let entry_words : SameWords (in_entries domain.entries) s.field.words words =
      λ p h. stands.words p (reach_is l plan s.node domain is_plan listed p ∙ h) in
      let legal : Legal plan.tree loaded so.preserved.events (saved_from s.node 0 domain.entries) =
      l.legal plan.tree loaded s.node domain (links_for plan.tree.domains s.node s.above) keeps b so.saved s.pass q listed
      (λ z p h. entry_words p h ∙ root z p (reach_is l plan s.node domain is_plan listed p ∙ h)) so.preserved in
      let run_on : CanRun s.node domain m = record {
        sound = can.sound;
        here = refl;
        present = λ p h. (let there : IsPresent b p = can.present p h in record { known = there.known; here = there.here });
        strikes = strikes;
      } in
      let before : Before plan.tree loaded (halting plan.tree.kinds) domain (body_in plan.tree domain) counts counts words (LinksAgree plan t) m 1 0
      (only_events (Begin s.node number ∷ saved_from s.node 0 domain.entries)) (domain.retry - 1) (body_in plan.tree domain) (counted s.node.0 counts) =
      before_first plan.tree loaded (halting plan.tree.kinds) domain (body_in plan.tree domain) counts counts words (LinksAgree plan t)
      l.laws.pieces l.first b so.preserved.events number refl refl (number_first small own)
      (ap (λ (es : List Event). es ++ Begin s.node number ∷ []) stands.events) legal (λ agree. entry_words) (λ n. refl) in
      let tries : FieldModel → Tried = λ x.
      tries_from (means s.node domain (halting plan.tree.kinds) q.known keeps) (domain.retry - 1) number (tried_from (halting plan.tree.kinds) domain x 0) in
      let rests : Rests plan.tree loaded (halting plan.tree.kinds) domain (body_in plan.tree domain) counts counts words (LinksAgree plan t) (tries m)
      × Behind l plan s.node domain is_plan listed loaded counts counts words (LinksAgree plan t) m (tries m).field =
      tries_rest l plan s.node domain is_plan listed loaded counts counts words (LinksAgree plan t) q.known keeps m 1 (domain.retry - 1) 0 number
      (only_events (Begin s.node number ∷ saved_from s.node 0 domain.entries)) (body_in plan.tree domain) (counted s.node.0 counts)
      holds.fit (λ agree. all_give l.outer l.links l.follows plan t s.node domain q.known keeps is_plan listed refl agree holds.fit gives)
      run_on (omega arith) refl small refl before in
      record {
        tried = tries m;
        is = so.tried ∙ ap (λ (x : FieldModel). judged_course plan s.node (tries x)) so.preserved.told;
        rests = rests.0;
        node = rests.1.node;
        script = rests.1.script;
        carved = rests.1.carved;
        present = rests.1.present;
        fit = holds.fit;
        gives = gives;
        based = stands.counts;
      }
