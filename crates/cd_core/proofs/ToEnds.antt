-- A domain whose last try is over stands arrived as its reading does.
use Rattle.std.proofs.Common.{◌≡◌, ℕ, zero, suc, ◌<◌, ◌==◌, Bool, true, false, is_none, cond, List, [], ◌∷◌, ◌++◌, Option, None, Some, slice_get, slice_set, refl, ap, subst, sym, ◌∙◌, append_assoc, arith}
use Rattle.cd_base.specs.declared.place.Place.{Place}
use Rattle.cd_base.specs.Words.{Words}
use Rattle.cd_tree.specs.declared.domain.NodeId.{NodeId}
use Rattle.cd_tree.specs.declared.domain.Domain.{Domain}
use Rattle.cd_tree.specs.declared.document.Fault.{Fault}
use Rattle.cd_tree.specs.declared.event.Cause.{Cause}
use Rattle.cd_tree.specs.declared.event.Event.{Event}
use Rattle.cd_tree.specs.declared.event.Event.TheVariants.{Complete, Escalate}
use Rattle.cd_tree.specs.KindSets.{no_kinds, halting}
use Rattle.cd_tree.specs.Domains.{Node, Body, node, number_of, body_numbers}
use Rattle.cd_tree.specs.Legal.{Legal, nothing, same}
use Rattle.cd_tree.specs.Locality.{SameWords}
use Rattle.cd_tree.specs.Meaning.{in_entries, node_reach}
use Rattle.cd_tree.specs.Reading.{Counts, Told, TryEnd, NodeEnd, Blame, escalation, refilled_from as told_refilled, read_node}
use Rattle.cd_tree.specs.Reading.{Done as done, Escalated as escalated, Passed as passed}
use Rattle.cd_tree.specs.Slices.{among}
use Rattle.cd_tree.specs.TreeModel.{TreeModel}
use Rattle.cd_field.specs.FieldModel.{FieldModel, IsPresent, told, gone_up}
use Rattle.cd_keep.specs.PassModel.{PassModel}
use Rattle.cd_cover.specs.Plans.{PlanModel, IsPlan}
use Rattle.cd_tries.specs.declared.keep.Keep.{Keep}
use Rattle.cd_tries.specs.Fitting.{HasWords}
use Rattle.cd_tries.specs.Keeping.{Known, KeepsFit}
use Rattle.cd_tries.specs.Refilling.{refilled_all}
use Rattle.cd_tries.specs.TryLaws.{EachGives, PutBack}
use Rattle.cd_core.specs.declared.state.Ending.TheVariants.{Done, Escalated}
use Rattle.cd_core.specs.StateModel.{StateModel}
use Rattle.cd_core.specs.Tasks.{Task, LinksAgree, counts_in, task_reading}
use Rattle.cd_core.specs.Stands.{StandsArrived, ending_of, named}
use Rattle.cd_core.specs.Advancing.{ended, put_back_at_root}
use Rattle.cd_core.specs.LawsBelow.{MoreLaws}
use Rattle.cd_core.proofs.Facts.{reach_is}
use Rattle.cd_core.proofs.Following.{case_on}
use Rattle.cd_core.proofs.Grounds.{view_in, body_in, plan_apart}
use Rattle.cd_core.proofs.Judging.{Over, all_told}
use Rattle.cd_core.proofs.LastTries.{over_reads}
use Rattle.cd_core.proofs.ReadyOnes.{task_at}
use Rattle.cd_core.proofs.Retrying.{legal_refilled}
use Rattle.cd_core.proofs.ToGroups.{counts_put}
use Rattle.cd_core.proofs.Trying.{IsLast, EndsAfter, last_events, node_end}

module _ (l : MoreLaws) (plan : PlanModel) (s : StateModel) (domain : Domain) (is_plan : IsPlan plan) (listed : slice_get plan.tree.domains s.node.0 ≡ Some domain)
    (loaded words : Words) (counts base : Counts) (links : NodeId × ℕ → Words) (keeps : List Keep) (q : PassModel) where
  abbrev t : Task
  t = task_at plan s domain loaded words counts links

  abbrev Ended : FieldModel → ℕ → ℕ → TryEnd → Type 0
  Ended n attempt spare end =
      Over plan.tree loaded (halting plan.tree.kinds) domain (body_in plan.tree domain) counts base words (LinksAgree plan t) n attempt spare end

  abbrev told_by : (n : FieldModel) (attempt spare : ℕ) (end : TryEnd) → Ended n attempt spare end → Told TryEnd
  told_by n attempt spare end o =
      all_told plan.tree loaded (halting plan.tree.kinds) domain (body_in plan.tree domain) counts base words (LinksAgree plan t) n o.front

  -- the reading behind a last try
  read_behind : (n : FieldModel) (attempt spare : ℕ) (end : TryEnd) → (o : Ended n attempt spare end) → IsLast spare end
      → n.node ≡ s.node → n.script ≡ s.field.script
      → EndsAfter n.node domain (told_by n attempt spare end o) (task_reading plan t)
  read_behind n attempt spare end o last here script =
      let body : Body = body_in plan.tree domain in
      let halts : ℕ = halting plan.tree.kinds in
      let A : NodeId → Type 0 = λ i. EndsAfter n.node domain (told_by n attempt spare end o) (read_node (case_on halts n) (node i domain body) counts) in
      let B : List Fault → Type 0 = λ fs.
      EndsAfter n.node domain (told_by n attempt spare end o) (read_node (record { halts = halts; faults = fs }) (node s.node domain body) counts) in
      subst B script (subst A here
      (over_reads plan.tree loaded halts domain body counts base words (LinksAgree plan t) l.lead n attempt spare end o last))

  -- its counts
  counts_behind : (n : FieldModel) (attempt spare begin : ℕ) (end : TryEnd) → (o : Ended n attempt spare end) → IsLast spare end
      → n.node ≡ s.node → n.script ≡ s.field.script → begin ≡ n.begin → s.counts ≡ counts_in t.domain base
      → slice_set s.counts 0 begin ≡ counts_in t.domain (task_reading plan t).counts
  counts_behind n attempt spare begin end o last here script number based =
      let now : Counts = (told_by n attempt spare end o).counts in
      let N : NodeId → Type 0 = λ i. (k : ℕ) → (k == i.0) ≡ false → now k ≡ base k in
      counts_put s.node domain (body_in plan.tree domain) base now s.counts begin based
      (plan_apart l.follows l.distinct plan s.node domain is_plan listed) (subst N here o.others)
      (ap (λ (i : NodeId). now i.0) (sym here) ∙ o.begin ∙ sym number)
      ∙ ap (λ (c : Counts). counts_in t.domain c) (sym (read_behind n attempt spare end o last here script).counts)

  -- a domain that completes
  pub completes_so : (n : FieldModel) (attempt spare begin leak : ℕ) → Ended n attempt spare (passed leak)
      → n.node ≡ s.node → n.script ≡ s.field.script → begin ≡ n.begin → s.counts ≡ counts_in t.domain base
      → ((p : Place) → in_entries domain.entries p ≡ true → IsPresent n p)
      → StandsArrived plan t (ended s keeps q begin (told n (Complete s.node)) (Done leak)) (Done leak)
  completes_so n attempt spare begin leak o here script number based present =
      let r : EndsAfter n.node domain (told_by n attempt spare (passed leak) o) (task_reading plan t) =
      read_behind n attempt spare (passed leak) o tt here script in
      let T : Told TryEnd = told_by n attempt spare (passed leak) o in
      let events : (task_reading plan t).past.events ≡ T.past.events ++ Complete s.node ∷ [] =
      r.events ∙ ap (λ (e : TryEnd). T.past.events ++ last_events n.node domain e) o.ends
      ∙ ap (λ (i : NodeId). T.past.events ++ Complete i ∷ []) here in
      let L : List Event → Type 0 = λ es. Legal plan.tree loaded (n.events ++ Complete s.node ∷ []) es in
      record {
        legal = subst L (sym events) (l.laws.pieces plan.tree loaded n.events T.past.events (Complete s.node ∷ []) (Complete s.node ∷ []) o.legal
            (same (Complete s.node) [] [] tt nothing));
        counts = counts_behind n attempt spare begin (passed leak) o tt here script number based;
        ends = sym (ap (λ (e : NodeEnd). ending_of plan e) (r.answer ∙ ap (λ (e : TryEnd). node_end e) o.ends));
        notes = o.leaks leak refl;
        sound = λ none agree. (
          λ p h. (let there : IsPresent n p = present p (sym (reach_is l plan s.node domain is_plan listed p) ∙ h) in
              record { known = there.known; here = there.here }),
          λ p h. o.words leak refl none agree p (sym (reach_is l plan s.node domain is_plan listed p) ∙ h),
        );
      }

  -- the last events of a domain that escalates, where it is the root and where it is not
  escalation_legal : (n : FieldModel) (before : List Event) (b : Bool) → n.node ≡ s.node → HasWords domain.entries n
      → KeepsFit q.known domain.entries keeps → Legal plan.tree loaded n.events before
      → Legal plan.tree loaded (gone_up (cond b (refilled_all q.known domain.entries keeps n) n)).events (before ++ escalation n.node domain b)
  escalation_legal n before true here has fit legal =
      let m : FieldModel = refilled_all q.known domain.entries keeps n in
      let put : PutBack q.known domain.entries keeps n m = l.laws.back q.known domain.entries keeps n has fit in
      let refills : List Event = told_refilled n.node 0 domain.entries in
      let G : FieldModel → Type 0 = λ x. Legal plan.tree loaded (gone_up x).events (before ++ (refills ++ Escalate n.node ∷ [])) in
      let S : List Event → Type 0 = λ es. Legal plan.tree loaded es (before ++ (refills ++ Escalate n.node ∷ [])) in
      subst G (sym put.same) (subst S (sym (append_assoc n.events refills (Escalate n.node ∷ [])))
      (l.laws.pieces plan.tree loaded n.events before (refills ++ Escalate n.node ∷ []) (refills ++ Escalate n.node ∷ []) legal
      (l.laws.pieces plan.tree loaded refills refills (Escalate n.node ∷ []) (Escalate n.node ∷ [])
      (legal_refilled plan.tree loaded n.node 0 domain.entries) (same (Escalate n.node) [] [] tt nothing))))
  escalation_legal n before false here has fit legal =
      l.laws.pieces plan.tree loaded n.events before (Escalate n.node ∷ []) (Escalate n.node ∷ []) legal (same (Escalate n.node) [] [] tt nothing)

  -- at the root all is put back, with the words with which it began
  root_put : (n : FieldModel) (b : Bool) → b ≡ true → HasWords domain.entries n → KeepsFit q.known domain.entries keeps
      → EachGives q.known words domain.entries keeps → (p : Place) → in_entries domain.entries p ≡ true
      → IsPresent (gone_up (cond b (refilled_all q.known domain.entries keeps n) n)) p
      × ((gone_up (cond b (refilled_all q.known domain.entries keeps n) n)).words p ≡ words p)
  root_put n true rooted has fit gives p h =
      let m : FieldModel = refilled_all q.known domain.entries keeps n in
      let put : PutBack q.known domain.entries keeps n m = l.laws.back q.known domain.entries keeps n has fit in
      let there : IsPresent m p = put.present p h in
      (record { known = there.known; here = there.here }, put.words words gives p h)
  root_put n false rooted has fit gives p h = absurd (cc)

  -- a domain that escalates
  pub escalates_so : (n : FieldModel) (attempt spare begin : ℕ) (end : TryEnd) (cause : Blame) (over : ℕ)
      → (o : Ended n attempt spare end) → IsLast spare end → node_end end ≡ escalated cause over
      → n.node ≡ s.node → n.script ≡ s.field.script → begin ≡ n.begin → s.counts ≡ counts_in t.domain base
      → HasWords domain.entries n → KeepsFit q.known domain.entries keeps
      → last_events n.node domain end ≡ escalation n.node domain (is_none domain.parent)
      → (s.node.0 ≡ 0 → (is_none domain.parent ≡ true) × EachGives q.known words domain.entries keeps)
      → StandsArrived plan t (ended s keeps q begin (gone_up (put_back_at_root domain q.known keeps n)) (Escalated (named plan cause) over)) (Escalated (named plan cause) over)
  escalates_so n attempt spare begin end cause over o last is here script number based has fit lasts root =
      let r : EndsAfter n.node domain (told_by n attempt spare end o) (task_reading plan t) = read_behind n attempt spare end o last here script in
      let T : Told TryEnd = told_by n attempt spare end o in
      let events : (task_reading plan t).past.events ≡ T.past.events ++ escalation n.node domain (is_none domain.parent) =
      r.events ∙ ap (λ (e : TryEnd). T.past.events ++ last_events n.node domain e) o.ends
      ∙ ap (λ (es : List Event). T.past.events ++ es) lasts in
      let L : List Event → Type 0 = λ es. Legal plan.tree loaded (gone_up (put_back_at_root domain q.known keeps n)).events es in
      record {
        legal = subst L (sym events) (escalation_legal n T.past.events (is_none domain.parent) here has fit o.legal);
        counts = counts_behind n attempt spare begin end o last here script number based;
        ends = sym (ap (λ (e : NodeEnd). ending_of plan e) (r.answer ∙ ap (λ (e : TryEnd). node_end e) o.ends ∙ is));
        notes = tt;
        sound = λ zero. (
          λ p h. (root_put n (is_none domain.parent) (root zero).0 has fit (root zero).1 p (sym (reach_is l plan s.node domain is_plan listed p) ∙ h)).0,
          λ p h. (root_put n (is_none domain.parent) (root zero).0 has fit (root zero).1 p (sym (reach_is l plan s.node domain is_plan listed p) ∙ h)).1,
        );
      }
