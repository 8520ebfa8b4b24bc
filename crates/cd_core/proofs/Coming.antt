-- What the tries of a domain that stands come to, in `advance`.
use Rattle.std.proofs.Common.{◌≡◌, ℕ, zero, suc, ◌+◌, ◌-◌, ◌≤◌, ◌<◌, ◌^◌, true, false, ◌==◌, List, [], ◌∷◌, ◌++◌, Option, Some, All, length, drop, map, slice_get, slice_index, sum_by, refl, ap, subst, sym, ◌∙◌, arith}
use Rattle.std.proofs.lemmas.Bool.{eq-eqb}
use Rattle.std.proofs.lemmas.List.Elements.{All-drop}
use Rattle.cd_base.specs.declared.place.Place.{Place}
use Rattle.cd_base.specs.Words.{Words}
use Rattle.cd_tree.specs.declared.domain.NodeId.{NodeId}
use Rattle.cd_tree.specs.declared.domain.Entry.{Entry}
use Rattle.cd_tree.specs.declared.domain.Domain.{Domain}
use Rattle.cd_tree.specs.declared.document.Fault.{Fault}
use Rattle.cd_tree.specs.declared.event.Event.{Event}
use Rattle.cd_tree.specs.declared.event.Event.TheVariants.{Begin}
use Rattle.cd_tree.specs.KindSets.{no_kinds, halting}
use Rattle.cd_tree.specs.Domains.{Node, Body, node, node_of, body_by, body_numbers}
use Rattle.cd_tree.specs.Fronts.{first_front}
use Rattle.cd_tree.specs.Legal.{Legal}
use Rattle.cd_tree.specs.Locality.{SameWords}
use Rattle.cd_tree.specs.Meaning.{in_entries, node_reach, node_need, entry_need}
use Rattle.cd_tree.specs.Reading.{Counts, Past, counted, read_node}
use Rattle.cd_tree.specs.Slices.{among}
use Rattle.cd_field.specs.FieldModel.{FieldModel, IsPresent, begun as begun_on}
use Rattle.cd_keep.specs.PassModel.{PassModel}
use Rattle.cd_cover.specs.Plans.{PlanModel, IsPlan}
use Rattle.cd_tries.specs.declared.keep.Keep.{Keep}
use Rattle.cd_tries.specs.declared.keep.Pieces.{Pieces}
use Rattle.cd_tries.specs.Fitting.{IsSound, ItemStays, HasWords, StrikesWithin, ArePresentIn, CanRun, CanPreserve}
use Rattle.cd_tries.specs.Keeping.{Known, KeepsFit}
use Rattle.cd_tries.specs.KeepLaws.{HoldsKeeps}
use Rattle.cd_tries.specs.Preserving.{IsPreserved, told_all, links_for}
use Rattle.cd_tries.specs.Running.{Trial, tried_from, run_to, next_begin, Tried, tries_from, means}
use Rattle.cd_tries.specs.TryLaws.{EachGives, Stays}
use Rattle.cd_core.specs.StateModel.{StateModel}
use Rattle.cd_core.specs.Tasks.{Task, LinksAgree, KeepsGive}
use Rattle.cd_core.specs.Advancing.{own_count}
use Rattle.cd_core.proofs.Choices.{chosen}
use Rattle.cd_core.specs.LawsBelow.{MoreLaws}
use Rattle.cd_core.proofs.Following.{case_on, Before}
use Rattle.cd_core.proofs.Grounds.{view_in, body_in, plan_sound, plan_apart}
use Rattle.cd_core.proofs.Judging.{StopsAt}
use Rattle.cd_core.specs.LawsBelow.{Laws}
use Rattle.cd_core.proofs.Rounds.{GoesOn, Rests, rounds, points_judged, run_begin, judged_begin}

-- ---- a machine behind tries goes on

module _ (l : MoreLaws) (plan : PlanModel) (id : NodeId) (domain : Domain) (is_plan : IsPlan plan) (listed : slice_get plan.tree.domains id.0 ≡ Some domain)
    (loaded : Words) (counts base : Counts) (begun : Words) (P : Type 0) where
  abbrev pub halts_in : ℕ
  halts_in = halting plan.tree.kinds

  -- a machine of this domain and script on which the domain can go on
  pub goes_on : (m n : FieldModel) → m.node ≡ id → StrikesWithin id domain.entries m.script
      → ((k : ℕ) → (read_node (case_on halts_in m) (node m.node domain (body_in plan.tree domain)) counts).counts k < 2 ^ 64)
      → n.node ≡ id → n.script ≡ m.script → HasWords domain.entries n
      → GoesOn plan.tree loaded halts_in domain (body_in plan.tree domain) counts base begun P (node_of plan.tree.domains) n
  goes_on m n here strikes small there script words =
      let body : Body = body_in plan.tree domain in
      let A : NodeId → Type 0 = λ i. among (body_numbers body) i.0 ≡ false in
      let B : NodeId → Type 0 = λ i. StrikesWithin i domain.entries n.script in
      let C : List Fault → Type 0 = λ fs. StrikesWithin id domain.entries fs in
      let D : NodeId → Type 0 = λ i. (k : ℕ) → (read_node (case_on halts_in n) (node i domain body) counts).counts k < 2 ^ 64 in
      let E : List Fault → Type 0 = λ fs. (k : ℕ) → (read_node (record { halts = halts_in; faults = fs }) (node m.node domain body) counts).counts k < 2 ^ 64 in
      record {
        sound = plan_sound l.follows l.covered plan id domain is_plan listed;
        named = refl;
        apart = subst A (sym there) (plan_apart l.follows l.distinct plan id domain is_plan listed);
        words = words;
        strikes = subst B (sym there) (subst C (sym script) strikes);
        small = subst D (here ∙ sym there) (subst E (sym script) small);
      }

  -- the machine behind the tries: whose it is, and what has stayed
  pub record Behind (m n : FieldModel) : Type 0 where
    pub node : n.node ≡ id
    pub script : n.script ≡ m.script
    pub carved : n.carved ≡ m.carved
    pub words : HasWords domain.entries n
    pub present : ArePresentIn domain.entries n

  can_still : (m n : FieldModel) → Stays id domain m n
      → GoesOn plan.tree loaded halts_in domain (body_in plan.tree domain) counts base begun P (node_of plan.tree.domains) n → CanRun id domain n
  can_still m n s goes =
      let S : NodeId → Type 0 = λ i. StrikesWithin i domain.entries n.script in
      record { sound = goes.sound; here = s.node; present = s.present; strikes = subst S s.node goes.strikes }

  -- from before a point on, the tries come to rest
  pub tries_rest : (known : Known) (keeps : List Keep) (m : FieldModel) (attempt spare point begin : ℕ) (past : Past) (rest : Body) (now : Counts)
      → KeepsFit known domain.entries keeps → (P → EachGives known begun domain.entries keeps)
      → CanRun id domain m → point ≤ length domain.items → begin ≡ m.begin
      → ((k : ℕ) → (read_node (case_on halts_in m) (node m.node domain (body_in plan.tree domain)) counts).counts k < 2 ^ 64)
      → rest ≡ body_by (node_of plan.tree.domains) (drop point domain.items)
      → Before plan.tree loaded halts_in domain (body_in plan.tree domain) counts base begun P m attempt point past spare rest now
      → Rests plan.tree loaded halts_in domain (body_in plan.tree domain) counts base begun P
      (tries_from (means id domain halts_in known keeps) spare begin (tried_from halts_in domain m point))
      × Behind m (tries_from (means id domain halts_in known keeps) spare begin (tried_from halts_in domain m point)).field
  tries_rest known keeps m attempt spare point begin past rest now fit gives can within number small named before =
      let body : Body = body_in plan.tree domain in
      let find : NodeId → Option Node = node_of plan.tree.domains in
      let t : Trial = tried_from halts_in domain m point in
      let s : Stays id domain m t.field = l.points id domain halts_in point m can within in
      let A : NodeId → Type 0 = λ i. among (body_numbers body) i.0 ≡ false in
      let apart : among (body_numbers body) m.node.0 ≡ false = subst A (sym can.here) (plan_apart l.follows l.distinct plan id domain is_plan listed) in
      let S : NodeId → Type 0 = λ i. StrikesWithin i domain.entries m.script in
      let strikes : StrikesWithin m.node domain.entries m.script = subst S (sym can.here) can.strikes in
      let B : Body → Type 0 = λ b. Before plan.tree loaded halts_in domain body counts base begun P m attempt point past spare b now in
      let stops_at : StopsAt plan.tree loaded halts_in domain body counts base begun P attempt spare t.field t.stop =
      points_judged plan.tree loaded halts_in domain body counts base begun P l.laws find m attempt spare point (drop point domain.items) past now
      apart strikes (All-drop (ItemStays domain.entries) point domain.items can.sound.stays) (subst B named before) in
      let begin_is : begin ≡ t.field.begin =
      number ∙ sym ((judged_begin halts_in domain.detects (run_to halts_in m point (drop point domain.items)).field (run_to halts_in m point (drop point domain.items)).arrival).1
      ∙ (run_begin halts_in m point (drop point domain.items)).1) in
      let goes : GoesOn plan.tree loaded halts_in domain body counts base begun P find t.field =
      goes_on m t.field can.here can.strikes small s.node s.script s.words in
      let again : Stays id domain t.field (tries_from (means id domain halts_in known keeps) spare begin t).field =
      l.tries (means id domain halts_in known keeps) spare begin t (can_still m t.field s goes) fit in (
        rounds plan.tree loaded halts_in domain body counts base begun P l.laws find known keeps spare attempt begin id t.field t.stop fit gives goes begin_is s.node stops_at,
        record {
          node = again.node;
          script = again.script ∙ s.script;
          carved = again.carved ∙ s.carved;
          words = again.words;
          present = again.present;
        },
      )
