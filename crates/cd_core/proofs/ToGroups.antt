-- A domain whose tries come to a group stands before it as its reading does.
use Rattle.std.proofs.Common.{◌≡◌, ℕ, zero, suc, ◌==◌, ◌||◌, Bool, true, false, List, [], ◌∷◌, Option, Some, map, slice_get, slice_index, slice_set, refl, ap, subst, sym, ◌∙◌, bit_and}
use Rattle.std.proofs.lemmas.Bool.{eq-eqb, or_parts, eqb-true}
use Rattle.cd_base.specs.Words.{Words}
use Rattle.cd_tree.specs.declared.domain.NodeId.{NodeId}
use Rattle.cd_tree.specs.declared.domain.Domain.{Domain}
use Rattle.cd_tree.specs.declared.document.Fault.{Fault}
use Rattle.cd_tree.specs.KindSets.{no_kinds, halting}
use Rattle.cd_tree.specs.Domains.{Node, Body, node, group, node_of, number_of, body_numbers, node_numbers}
use Rattle.cd_tree.specs.Fronts.{Front, front_of_node}
use Rattle.cd_base.specs.declared.place.Place.{Place}
use Rattle.cd_tree.specs.Meaning.{in_entries}
use Rattle.cd_tree.specs.Reading.{Counts, Told}
use Rattle.cd_tree.specs.Slices.{among}
use Rattle.cd_field.specs.FieldModel.{FieldModel, IsPresent}
use Rattle.cd_keep.specs.PassModel.{PassModel}
use Rattle.cd_cover.specs.Plans.{PlanModel, IsPlan}
use Rattle.cd_tries.specs.declared.keep.Keep.{Keep}
use Rattle.cd_tries.specs.declared.tries.Stop.{Stop}
use Rattle.cd_tries.specs.declared.tries.Stop.TheVariants.{Group, Passed, Failed, Broken}
use Rattle.cd_tries.specs.Running.{Tried}
use Rattle.cd_core.specs.StateModel.{StateModel}
use Rattle.cd_core.specs.Tasks.{Task, LinksAgree, counts_in, task_case}
use Rattle.cd_core.specs.Stands.{Stands, AsSent, WaitingFront}
use Rattle.cd_core.specs.Advancing.{Judged, judged_course, verdict_of, state_sending}
use Rattle.cd_core.specs.declared.verdict.Verdict.{Verdict}
use Rattle.cd_core.specs.declared.verdict.Verdict.TheVariants.{Waits, Completes, Escalates}
use Rattle.cd_core.specs.StateLaws.{StandsTried}
use Rattle.cd_core.proofs.Choices.{by_test}
use Rattle.cd_core.specs.LawsBelow.{MoreLaws}
use Rattle.cd_core.proofs.Facts.{reach_is}
use Rattle.cd_core.proofs.Following.{case_on, try_on, At, front_on}
use Rattle.cd_core.proofs.Grounds.{view_in, body_in, plan_apart}
use Rattle.cd_core.proofs.Judging.{AtGroup, StopsAt}
use Rattle.cd_core.proofs.ReadyOnes.{task_at, Comes}

-- a verdict that waits is a stop at a group
pub group_of : (plan : PlanModel) (id : NodeId) (left spare point : ℕ) (stop : Stop) → verdict_of plan id left stop ≡ Waits spare point
    → (stop ≡ Group point) × (left ≡ spare)
group_of plan id left spare point (Group k) e =
    let same : k ≡ point = cc in (ap (λ (n : ℕ). Group n) same, cc)
group_of plan id left spare point (Passed leak) e = absurd (cc)
group_of plan id left spare point (Failed kinds) e = absurd (cc)
group_of plan id left spare point (Broken kinds over) e = absurd (cc)

not_same : (a b : ℕ) → (a == b) ≡ false → (b == a) ≡ false
not_same a b e = by_test (b == a)
    (λ yes. (let one : (a == b) ≡ true = eq-eqb a b (sym (eqb-true b a yes)) in absurd (cc)))
    (λ no. no)

-- the counts of the domains below are as they were
map_same : (base now : Counts) (own : ℕ) (numbers : List ℕ) → among numbers own ≡ false → ((n : ℕ) → (n == own) ≡ false → now n ≡ base n)
    → map base numbers ≡ map now numbers
map_same base now own [] apart stay = refl
map_same base now own (n ∷ numbers) apart stay =
    let parts : ((own == n) ≡ false) × (among numbers own ≡ false) = or_parts (own == n) (among numbers own) apart in
    ap (λ (x : ℕ). x ∷ map base numbers) (sym (stay n (not_same own n parts.0)))
    ∙ ap (λ (xs : List ℕ). now n ∷ xs) (map_same base now own numbers parts.1 stay)

-- with the own count put in they are those of the front
pub counts_put : (id : NodeId) (domain : Domain) (body : Body) (base now : Counts) (counts : List ℕ) (begin : ℕ)
    → counts ≡ counts_in (node id domain body) base → among (body_numbers body) id.0 ≡ false
    → ((n : ℕ) → (n == id.0) ≡ false → now n ≡ base n) → now id.0 ≡ begin
    → slice_set counts 0 begin ≡ counts_in (node id domain body) now
counts_put id domain body base now counts begin is apart stay own =
    ap (λ (cs : List ℕ). slice_set cs 0 begin) is
    ∙ ap (λ (x : ℕ). x ∷ map base (body_numbers body)) (sym own)
    ∙ ap (λ (xs : List ℕ). now id.0 ∷ xs) (map_same base now id.0 (body_numbers body) apart stay)

module _ (l : MoreLaws) (plan : PlanModel) (s : StateModel) (domain : Domain) (is_plan : IsPlan plan) (listed : slice_get plan.tree.domains s.node.0 ≡ Some domain)
    (loaded words : Words) (counts base : Counts) (links : NodeId × ℕ → Words) (keeps : List Keep) (q : PassModel) where
  abbrev t : Task
  t = task_at plan s domain loaded words counts links

  -- at the group itself
  at_group : (spare point begin : ℕ) (n : FieldModel) → (attempt : ℕ)
      → AtGroup plan.tree loaded (halting plan.tree.kinds) domain (body_in plan.tree domain) counts base words (LinksAgree plan t) n attempt spare point
      → (j : Judged) → Comes plan t s domain keeps q j base → n.node ≡ s.node → n.script ≡ s.field.script → begin ≡ n.begin
      → ((p : Place) → in_entries domain.entries p ≡ true → IsPresent n p)
      → StandsTried plan t (state_sending s keeps begin n q) spare point
  at_group spare point begin n attempt g j c here script number present =
      let body : Body = body_in plan.tree domain in
      let halts : ℕ = halting plan.tree.kinds in
      let front : Told Front = front_on plan.tree loaded halts domain body counts base words (LinksAgree plan t) n point g.past spare g.kinds (group g.members g.more) g.now in
      let Q : NodeId → Type 0 = λ i. front_of_node (case_on halts n) (node i domain body) counts attempt point ≡ Some front in
      let R : List Fault → Type 0 = λ fs. front_of_node (record { halts = halts; faults = fs }) (node s.node domain body) counts attempt point ≡ Some front in
      let own : g.now n.node.0 ≡ n.begin =
      (l.laws.stand (case_on halts n) n.node domain body counts attempt point front g.stands.front).own
      (let A : NodeId → Type 0 = λ i. among (body_numbers body) i.0 ≡ false in subst A (sym here) (plan_apart l.follows l.distinct plan s.node domain is_plan listed)) in
      let N : NodeId → Type 0 = λ i. (k : ℕ) → (k == i.0) ≡ false → g.now k ≡ base k in
      let apart : among (body_numbers body) s.node.0 ≡ false = plan_apart l.follows l.distinct plan s.node domain is_plan listed in
      let put : slice_set s.counts 0 begin ≡ counts_in t.domain g.now =
      counts_put s.node domain body base g.now s.counts begin c.based apart (subst N here g.stands.others)
      (ap (λ (i : NodeId). g.now i.0) (sym here) ∙ own ∙ sym number) in
      record {
        sent = record {
          begin = sym number ∙ sym (ap (λ (cs : List ℕ). slice_index cs 0) put ∙ ap (λ (i : NodeId). g.now i.0) (sym here) ∙ own ∙ sym number);
          keeps = c.gives;
        };
        at = record {
          attempt = attempt;
          front = front;
          is = subst R script (subst Q here g.stands.front);
          left = refl;
          members = g.members;
          behind = g.more;
          waits = record { comes = refl; goes_on = g.quiet };
        };
        legal = g.stands.legal;
        notes = refl;
        counts = put;
        present = λ p h. present p (sym (reach_is l plan s.node domain is_plan listed p) ∙ h);
        words = λ none agree p h. g.stands.words none agree p (sym (reach_is l plan s.node domain is_plan listed p) ∙ h);
      }

  -- a domain whose tries come to a group stands before it
  pub stands_tried : (j : Judged) (spare point : ℕ) → Comes plan t s domain keeps q j base → j.verdict ≡ Waits spare point
      → StandsTried plan t (state_sending s keeps j.begin j.field q) spare point
  stands_tried j spare point c verdict =
      let body : Body = body_in plan.tree domain in
      let halts : ℕ = halting plan.tree.kinds in
      let v : verdict_of plan s.node c.tried.course.spare c.tried.course.stop ≡ Waits spare point =
      sym (ap (λ (x : Judged). x.verdict) c.is) ∙ verdict in
      let g : (c.tried.course.stop ≡ Group point) × (c.tried.course.spare ≡ spare) = group_of plan s.node c.tried.course.spare spare point c.tried.course.stop v in
      let A : Stop → Type 0 = λ x. StopsAt plan.tree loaded halts domain body counts base words (LinksAgree plan t) c.rests.attempt c.tried.course.spare c.tried.field x in
      let B : ℕ → Type 0 = λ n. AtGroup plan.tree loaded halts domain body counts base words (LinksAgree plan t) c.tried.field c.rests.attempt n point in
      let G : Judged → Type 0 = λ x. StandsTried plan t (state_sending s keeps x.begin x.field q) spare point in
      subst G (sym c.is)
      (at_group spare point c.tried.course.begin c.tried.field c.rests.attempt (subst B g.1 (subst A g.0 c.rests.stops)) j c c.node c.script c.rests.begin c.present)
