-- A member as it is sent answers what the domain that waits asks of it: it stands ready, with the words, the counts and the links
-- that the ask carries.
use Rattle.std.proofs.Common.{◌≡◌, ℕ, ◌-◌, ◌<◌, ◌^◌, ◌||◌, Bool, true, List, [], ◌∷◌, length, Option, Some, None, IsSome, arith, refl, ap, subst, sym, ◌∙◌}
use Rattle.std.specs.Option.{option_map_or}
use Rattle.cd_base.specs.Words.{PlaceSet, in_ranges}
use Rattle.cd_tree.specs.declared.domain.NodeId.{NodeId}
use Rattle.cd_tree.specs.CountLaws.{EachMember, MembersStayBelow, ReadsOwnCounts, from_other}
use Rattle.cd_tree.specs.Domains.{Node, Members, members_by, node_of, node_numbers, number_of}
use Rattle.cd_tree.specs.FirstItems.{BehindIsGroup}
use Rattle.cd_tree.specs.FrontLaws.{MemberCountsLieBelow}
use Rattle.cd_tree.specs.Meaning.{node_reach, node_reads}
use Rattle.cd_tree.specs.Reading.{Counts, Told, NodeEnd, read_node}
use Rattle.cd_tree.specs.SliceLaws.{SubtreesAreSlices}
use Rattle.cd_tree.specs.Slices.{IsSlice, among, node_size}
use Rattle.cd_foot.specs.Feet.{IsFoot}
use Rattle.cd_cover.specs.Links.{link_of}
use Rattle.cd_cover.specs.Outer.{outer_references}
use Rattle.cd_cover.specs.PlanLaws.{need_of}
use Rattle.cd_cover.specs.Plans.{PlanModel, IsPlan}
use Rattle.cd_tries.specs.Keeping.{linked_by}
use Rattle.cd_core.specs.declared.state.Stage.TheVariants.{Waiting}
use Rattle.cd_core.specs.Advancing.{sent, all_sent, size_of}
use Rattle.cd_core.specs.Asks.{Answers, EachAnswers, counts_listed, counts_of, foot_of, levels_below, member_ask, task_of}
use Rattle.cd_core.specs.Fits.{Fits, LinksAreKept}
use Rattle.cd_core.specs.LawsBelow.{MoreLaws}
use Rattle.cd_core.specs.StateModel.{StateModel}
use Rattle.cd_core.specs.Stands.{StandsReady}
use Rattle.cd_core.specs.Steps.{AllFit}
use Rattle.cd_core.specs.Tasks.{IsTask, LinksGive, Task, counts_in, task_case, task_reading}
use Rattle.cd_core.proofs.AskedCounts.{LiesBelow, counts_again, counts_back, counts_carried, listed_below}
use Rattle.cd_core.proofs.AskedLinks.{links_kept}
use Rattle.cd_core.proofs.AskedMembers.{IsAsked, each_first, each_later, lies_below}
use Rattle.cd_core.proofs.AskedWords.{words_back}
use Rattle.cd_core.proofs.Choices.{by_test, chosen, other}
use Rattle.cd_core.proofs.Viewed.{Viewed, viewed, foot_is}
use Rattle.cd_core.proofs.Views.{FitsView, fits_view}

-- the laws of lower crates on asks
pub record AskLaws : Type 0 where
  pub more : MoreLaws
  pub own : ReadsOwnCounts
  pub below : MembersStayBelow
  pub groups : MemberCountsLieBelow
  pub slices : SubtreesAreSlices
  pub group : BehindIsGroup

-- a domain that waits for its members, from the counts of its front
pub record Waits (plan : PlanModel) (t : Task) (s : StateModel) (f : Counts) : Type 0 where
  pub task : IsTask plan t
  pub domain : number_of t.domain ≡ s.node.0
  pub script : s.field.script ≡ t.faults
  pub counts : s.counts ≡ counts_in t.domain f
  pub few : (n : ℕ) → f n < 2 ^ 64

module _ (a : AskLaws) (plan : PlanModel) (is_plan : IsPlan plan) (t : Task) (s : StateModel) (f : Counts) (w : Waits plan t s f) where
  -- a member as it is sent
  abbrev child : NodeId → StateModel
  child id = sent plan s id s.field s.pass

  -- what it is asked
  abbrev asked : NodeId → Node → Task
  asked id d = task_of plan t.faults t.loaded (member_ask plan s id d) d

  own_slice : (id : NodeId) (d : Node) → node_of plan.tree.domains id ≡ Some d → IsSlice d
  own_slice id d there = a.slices plan.tree is_plan.program id d there

  below : (id : NodeId) (d : Node) → node_of plan.tree.domains id ≡ Some d → IsAsked (task_case plan t) t.domain f d → LiesBelow t.domain d
  below id d there is =
      lies_below t.domain d (own_slice (record { 0 = number_of t.domain }) t.domain w.task.domain) (own_slice id d there) is.inside

  -- the counts that it is sent are the front's
  carried : (id : NodeId) (d : Node) → node_of plan.tree.domains id ≡ Some d → IsAsked (task_case plan t) t.domain f d
      → counts_of s.node s.counts id (length (node_numbers d)) ≡ counts_in d f
  carried id d there is =
      counts_carried f s.node id t.domain d s.counts w.counts (own_slice (record { 0 = number_of t.domain }) t.domain w.task.domain) (own_slice id d there)
      w.domain (viewed a.more.follows plan id d is_plan there).number (below id d there is)

  -- so its reading comes to no large count
  small : (id : NodeId) (d : Node) → node_of plan.tree.domains id ≡ Some d → IsAsked (task_case plan t) t.domain f d
      → (n : ℕ) → (task_reading plan (asked id d)).counts n < 2 ^ 64
  small id d there is n =
      let sent_counts : List ℕ = counts_of s.node s.counts id (length (node_numbers d)) in
      let now : Counts = counts_listed d sent_counts in
      let same : sent_counts ≡ counts_in d f = carried id d there is in
      let read : Told NodeEnd = read_node (task_case plan t) d f in
      let all : read_node (task_case plan t) d now ≡ from_other (node_numbers d) now read =
      a.own (task_case plan t) d f now (counts_back f d sent_counts same (own_slice id d there)) in
      let Small : ℕ → Type 0 = λ k. k < 2 ^ 64 in
      let at : (read_node (task_case plan t) d now).counts n ≡ (from_other (node_numbers d) now read).counts n =
      ap (λ (r : Told NodeEnd). r.counts n) all in
      by_test (among (node_numbers d) n)
      (λ e. subst Small (sym (at ∙ chosen (among (node_numbers d) n) (read.counts n) (now n) e)) (is.small n))
      (λ e. subst Small
      (sym (at ∙ other (among (node_numbers d) n) (read.counts n) (now n) e ∙ ap (λ (xs : List ℕ). counts_listed d xs n) same))
      (listed_below f (node_numbers d) (2 ^ 64) (n - number_of d) (omega arith) w.few))

  is_task : (id : NodeId) (d : Node) → node_of plan.tree.domains id ≡ Some d → IsAsked (task_case plan t) t.domain f d → IsTask plan (asked id d)
  is_task id d there is =
      let number : number_of d ≡ id.0 = (viewed a.more.follows plan id d is_plan there).number in
      let lies : LiesBelow t.domain d = below id d there is in
      let after : number_of t.domain < number_of d = lies.below in
      record {
        domain = ap (λ (n : ℕ). node_of plan.tree.domains (record { 0 = n })) number ∙ there;
        accepted = w.task.accepted;
        root = λ first. absurd (let none : ⊥ = omega (arith, after, first) in none);
        small = small id d there is;
      }

  -- and it finds the words that the ask lists
  ready : (id : NodeId) (d : Node) → node_of plan.tree.domains id ≡ Some d → IsAsked (task_case plan t) t.domain f d → Fits plan (child id)
      → StandsReady plan (asked id d) (child id)
  ready id d there is fits =
      let v : Viewed plan id d = viewed a.more.follows plan id d is_plan there in
      let view : FitsView plan (child id) v.domain = fits_view a.more.follows plan (child id) v.domain is_plan v.listed fits in
      let foot : IsFoot d (foot_of plan id) = foot_is plan id d is_plan there in
      let size : size_of plan id ≡ length (node_numbers d) = ap (λ (o : Option Node). option_map_or node_size o 0) there in
      let sent_counts : List ℕ = counts_of s.node s.counts id (length (node_numbers d)) in
      record {
        words = λ q h.
            let reads : Bool = in_ranges (foot_of plan id).reads q in
            let writes : Bool = in_ranges (foot_of plan id).writes q in
            let touched : (reads || writes) ≡ true =
            ap (λ (b : Bool). b || writes) (foot.reads q) ∙ ap (λ (b : Bool). node_reads d q || b) (foot.writes q) ∙ h in
            let here : (child id).field.words q ≡ s.field.words q = chosen (reads || writes) (s.field.words q) None touched in
            let Reaches : Node → Type 0 = λ e. node_reach e q ≡ true in
            let There : Option ℕ → Type 0 = λ o. IsSome o in
            let some : IsSome (s.field.words q) = subst There here (view.words q (subst Reaches v.view h)) in
            here ∙ sym (words_back (foot_of plan id).reach s.field.words q (foot.reach q ∙ h) some);
        counts =
            ap (λ (n : ℕ). counts_of s.node s.counts id n) size
            ∙ counts_again f d sent_counts (carried id d there is) (own_slice id d there);
        events = refl;
        notes = refl;
      }

  links : (id : NodeId) (d : Node) → node_of plan.tree.domains id ≡ Some d → Fits plan (child id)
      → LinksGive plan (asked id d) s.pass.known (levels_below s)
  links id d there fits reference entry outer stands =
      let v : Viewed plan id d = viewed a.more.follows plan id d is_plan there in
      let view : FitsView plan (child id) v.domain = fits_view a.more.follows plan (child id) v.domain is_plan v.listed fits in
      let Kept : Node → Type 0 = λ e. LinksAreKept plan s.pass.known e (levels_below s) in
      let kept : LinksAreKept plan s.pass.known d (levels_below s) = subst Kept (sym v.view) view.links in
      links_kept plan.tree.domains (outer_references d) s.pass.known
      (λ r. linked_by (levels_below s) (link_of plan.tree.domains r.0 r.1)) reference entry outer stands (kept reference entry outer stands)

  -- a member answers
  answers : (id : NodeId) (d : Node) → node_of plan.tree.domains id ≡ Some d → IsAsked (task_case plan t) t.domain f d → Fits plan (child id)
      → Answers plan t.faults t.loaded (member_ask plan s id d) (child id)
  answers id d there is fits = record {
    domain = d;
    is = there;
    stands = record {
      task = is_task id d there is;
      fits = fits;
      domain = (viewed a.more.follows plan id d is_plan there).number;
      script = w.script;
      carved = (foot_is plan id d is_plan there).writes;
      lapses = omega arith;
      links = links id d there fits;
      stage = ready id d there is fits;
    };
    store = refl;
  }

  -- and so does each, sent one after another
  pub each_answers : (spare point : ℕ) (away : PlaceSet) (left : ℕ) (ids : List NodeId) (lost : PlaceSet) (room : ℕ)
      → AllFit plan (all_sent plan s ids (record s.field { lost = lost }) (record s.pass { room = room }))
      → EachMember (IsAsked (task_case plan t) t.domain f) (members_by (node_of plan.tree.domains) ids)
      → EachAnswers plan t.faults t.loaded
      (record s { stage = Waiting spare point; field = record s.field { lost = away }; pass = record s.pass { room = left } })
      (all_sent plan s ids (record s.field { lost = lost }) (record s.pass { room = room }))
  each_answers spare point away left [] lost room fits each = tt
  each_answers spare point away left (id ∷ ids) lost room fits each =
      let P : Node → Type 0 = IsAsked (task_case plan t) t.domain f in
      let rest : Members = members_by (node_of plan.tree.domains) ids in (
        λ d there. answers id d there (each_first P (node_of plan.tree.domains id) rest d there each) fits.0,
        each_answers spare point away left ids (λ q. in_ranges (foot_of plan id).writes q || lost q) (room - need_of plan.tree.domains id) fits.1
            (each_later P (node_of plan.tree.domains id) rest each),
      )
