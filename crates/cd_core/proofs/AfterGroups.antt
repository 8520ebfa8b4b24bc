-- A domain that stood waiting stands after its members came back: resumed where all are done, and else lost.
use Rattle.std.proofs.Common.{◌≡◌, ◌⊎◌, ℕ, suc, ◌||◌, Bool, true, false, bit_or, List, [], ◌∷◌, ◌++◌, Option, None, Some, IsSome, IsSomeAnd, Contains, length, map, slice_get, slice_index, inl, inr, refl, ap, subst, sym, ◌∙◌, arith}
use Rattle.std.specs.Option.{option_map_or}
use Rattle.cd_base.specs.declared.place.Place.{Place}
use Rattle.cd_base.specs.declared.place.Range.{Range}
use Rattle.cd_base.specs.Words.{Words, in_range, in_ranges}
use Rattle.cd_base.proofs.ListLemmas.{some_and}
use Rattle.cd_tree.specs.declared.document.Fault.{Fault}
use Rattle.cd_tree.specs.declared.domain.NodeId.{NodeId}
use Rattle.cd_tree.specs.declared.domain.Entry.{Entry}
use Rattle.cd_tree.specs.declared.domain.Item.{Item}
use Rattle.cd_tree.specs.declared.domain.Item.TheVariants.{Group}
use Rattle.cd_tree.specs.declared.domain.Domain.{Domain}
use Rattle.cd_tree.specs.declared.event.Cause.{Cause}
use Rattle.cd_tree.specs.declared.event.Event.{Event}
use Rattle.cd_tree.specs.declared.groups.GroupPlace.{GroupPlace}
use Rattle.cd_tree.specs.Absorbing.{GiveMeanings}
use Rattle.cd_tree.specs.CountLaws.{AgreeOn, ReadsOwnCounts, EachIsInOrder, read_each}
use Rattle.cd_tree.specs.Domains.{Node, Body, Members, node, group, node_of, node_numbers, body_behind, members_by, numbers_from}
use Rattle.cd_tree.specs.FirstItems.{MembersAreNamed, MembersResumeIn, MembersTouchLess, IsMemberAt, resumed_words}
use Rattle.cd_tree.specs.Groups.{StandsIn, StandsAt as stands_at, HasMember}
use Rattle.cd_tree.specs.KindSets.{no_kinds}
use Rattle.cd_tree.specs.Legal.{Legal, entry_at}
use Rattle.cd_tree.specs.Locality.{SameWords, DomainsActLocally, ShapesFitInPrograms}
use Rattle.cd_tree.specs.Meaning.{node_reads, node_writes, node_reach, LieIn}
use Rattle.cd_tree.specs.Reading.{Case, Counts, Told, GroupEnd, AllDone, SomeEscalated, joined, read_members}
use Rattle.cd_tree.specs.Scripts.{path_of}
use Rattle.cd_tree.specs.Slices.{IsSlice}
use Rattle.cd_tree.specs.SliceLaws.{SubtreesAreSlices, MembersAreChildren}
use Rattle.cd_cover.specs.KeptWords.{OuterWordsStay}
use Rattle.cd_cover.specs.Laws.{LinksLead}
use Rattle.cd_cover.specs.Links.{link_of}
use Rattle.cd_cover.specs.Outer.{outer_references}
use Rattle.cd_cover.specs.OuterLaws.{IsOuter, IsChild, LinksTo, OuterOfMembers, EntriesAreRead}
use Rattle.cd_cover.specs.Plans.{PlanModel, IsPlan}
use Rattle.cd_tries.specs.declared.keep.Pieces.{Pieces}
use Rattle.cd_tries.specs.Keeping.{Known, piece_words, linked_by}
use Rattle.cd_tries.specs.TryLaws.{EachGives}
use Rattle.cd_core.specs.declared.state.Stage.{Stage}
use Rattle.cd_core.specs.declared.state.Stage.TheVariants.{Ready, Waiting, Resumed, Lost, Ended}
use Rattle.cd_core.specs.StateModel.{StateModel}
use Rattle.cd_core.specs.Fits.{Fits, FitsStage, FitsWaiting}
use Rattle.cd_core.specs.Tasks.{Task, task_case, counts_in, LinksAgree, LinksGive, KeepsGive}
use Rattle.cd_core.specs.Stands.{Stands, StandsAt, StandsWaiting, AsSent, members_told}
use Rattle.cd_core.specs.Asks.{EachAnswers, member_ask, task_of, foot_of, range_of, link_words, levels_below, laid_over, links_listed, counts_of}
use Rattle.cd_core.specs.Advancing.{members_at, members_of_item}
use Rattle.cd_core.specs.Resuming.{CanTakeEach, absorbed_all, joined_all, counts_taken, all_done, first_escalation, nodes_of, resumed, resumed_at, stage_behind}
use Rattle.cd_core.specs.Steps.{IsWaiting, waits_at}
use Rattle.cd_core.specs.StateLaws.{ResumingFits, ResumingStands}
use Rattle.cd_core.specs.LawsBelow.{MoreLaws}
use Rattle.cd_core.proofs.AfterTaking.{all_joined}
use Rattle.cd_core.proofs.AskedCounts.{LiesBelow, counts_carried, counts_back}
use Rattle.cd_core.proofs.AskedLinks.{links_back}
use Rattle.cd_core.proofs.AskedWords.{words_back}
use Rattle.cd_core.proofs.Choices.{or_left, or_right}
use Rattle.cd_core.proofs.Counting.{LiesIn, IsPart, Apart, all_counted, own_stays, members_apart}
use Rattle.cd_core.proofs.Grounds.{view_in, body_in}
use Rattle.cd_core.proofs.GroupsGiven.{GroupLaws, group_given}
use Rattle.cd_core.proofs.Keeping.{all_give}
use Rattle.cd_core.proofs.Lapses.{lapses}
use Rattle.cd_core.proofs.MemberLinks.{of_all, some_within, own_link, outer_link, listed_link}
use Rattle.cd_core.proofs.Pairing.{paired, paired_at, nodes_at, OneAnswer, one_answer, came_back, gives_meaning}
use Rattle.cd_core.proofs.ReadyOnes.{task_at}
use Rattle.cd_core.proofs.Returning.{CameBack, GivesMeaning, Left, all_left, events_of, all_told, all_legal, all_answered, told_end, all_end, NotesJoin, all_join, given_by, all_put, notes_none, all_meanings}
use Rattle.cd_core.proofs.Standing.{task_is}
use Rattle.cd_core.proofs.TakenBack.{Pairs}
use Rattle.cd_core.proofs.Viewed.{foot_is}
use Rattle.cd_core.proofs.Views.{FitsView, fits_view}

-- the laws of lower crates on members
pub record MembersLaws : Type 0 where
  pub own : ReadsOwnCounts
  pub order : EachIsInOrder
  pub slices : SubtreesAreSlices
  pub groups : GroupLaws
  pub children : MembersAreChildren
  pub named : MembersAreNamed
  pub acts : DomainsActLocally
  pub shapes : ShapesFitInPrograms
  pub touch : MembersTouchLess
  pub resume : MembersResumeIn
  pub lead : LinksLead
  pub outer : OuterOfMembers
  pub stay : OuterWordsStay
  pub read : EntriesAreRead

either : (a b c d : Bool) → (a ≡ true → c ≡ true) → (b ≡ true → d ≡ true) → (a || b) ≡ true → (c || d) ≡ true
either true b c d left right h = or_left c d (left refl)
either false b c d left right h = or_right c d (right h)

-- an outer reference lies in its domain's subtree
outer_in : (plan : PlanModel) (x : Node) (reference : NodeId × ℕ) → IsOuter plan.tree.domains x reference → Contains (node_numbers x) reference.0.0
outer_in plan (node id domain body) (below, at) h = h.0

range_is : (plan : PlanModel) (reference : NodeId × ℕ) (entry : Entry) → entry_at plan.tree.domains reference.0 reference.1 ≡ Some entry
    → range_of plan.tree.domains reference ≡ entry.range ∷ []
range_is plan reference entry stands = ap (λ (o : Option Entry). option_map_or (λ (e : Entry). e.range ∷ []) o []) stands

same_members : (ms ns : Members) (behind rest : Body) → group ms behind ≡ group ns rest → ms ≡ ns
same_members ms ns behind rest e = cc

module _ (l : MoreLaws) (r : MembersLaws) (plan : PlanModel) (s : StateModel) (domain : Domain) (is_plan : IsPlan plan)
    (listed : slice_get plan.tree.domains s.node.0 ≡ Some domain) (loaded words : Words) (counts : Counts) (links : NodeId × ℕ → Words)
    (children : List StateModel) (spare point : ℕ) (st : Stands plan (task_at plan s domain loaded words counts links) s)
    (view : FitsView plan s domain) (fits : FitsWaiting plan (view_in plan.tree s.node domain) domain s spare point)
    (stands : StandsWaiting plan (task_at plan s domain loaded words counts links) s spare point)
    (commit : Bool) (takes : CanTakeEach plan s commit children) (answers : EachAnswers plan s.field.script loaded s children)
    (members : nodes_of children ≡ members_at domain point) where
  abbrev t : Task
  t = task_at plan s domain loaded words counts links

  abbrev d : Node
  d = view_in plan.tree s.node domain

  abbrev find : NodeId → Option Node
  find = node_of plan.tree.domains

  abbrev w : Case
  w = task_case plan t

  abbrev ms : Members
  ms = members_by find (nodes_of children)

  abbrev rest : Body
  rest = body_behind (suc point) (body_in plan.tree domain)

  abbrev sent : Counts
  sent = stands.at.front.counts

  abbrev size : ℕ
  size = length (node_numbers d)

  abbrev all : Told GroupEnd
  all = members_told plan t spare point stands.at

  -- ---- who they are

  is_here : find s.node ≡ Some d
  is_here = l.follows plan.tree is_plan.program s.node domain listed

  group_is : slice_get domain.items point ≡ Some (Group (nodes_of children))
  group_is =
      let ids : nodes_of children ≡ fits.ids = members ∙ ap (λ (o : Option Item). option_map_or members_of_item o []) fits.group in
      fits.group ∙ ap (λ (is : List NodeId). Some (Group is)) (sym ids)

  behind_is : body_behind point (body_in plan.tree domain) ≡ group ms rest
  behind_is = r.groups.group point find domain.items (nodes_of children) group_is

  are : stands.at.members ≡ ms
  are =
      let here : body_behind point (body_in plan.tree domain) ≡ group stands.at.members stands.at.behind =
      sym (l.laws.stand w s.node domain (body_in plan.tree domain) counts stands.at.attempt point stands.at.front stands.at.is).rest ∙ stands.at.waits.comes in
      same_members stands.at.members ms stands.at.behind rest (sym here ∙ behind_is)

  one : (j : ℕ) (child : StateModel) → slice_get children j ≡ Some child → OneAnswer plan s.field.script loaded s child
  one j child e = one_answer plan s.field.script loaded s commit children takes answers j child e

  parts : Pairs (λ x c. IsPart x c) ms children
  parts =
      paired (λ x c. IsPart x c) find children
      (λ j child e. (let o : OneAnswer plan s.field.script loaded s child = one j child e in
      (o.domain, o.is, record { number = o.stands.domain; slice = r.slices plan.tree is_plan.program child.node o.domain o.is })))

  apart : Apart s.node.0 size ms children
  apart =
      members_apart s.node.0 size (body_in plan.tree domain) ms children
      (group_given r.groups plan s.node domain point (nodes_of children) is_plan listed group_is) (omega arith) parts

  run : node_numbers d ≡ numbers_from s.node.0 size
  run = r.slices plan.tree is_plan.program s.node d is_here

  counts_are : s.counts ≡ map sent (numbers_from s.node.0 size)
  counts_are = stands.counts ∙ ap (λ (ns : List ℕ). map sent ns) run

  agree : (j : ℕ) (child : StateModel) (e : slice_get children j ≡ Some child)
      → AgreeOn (node_numbers (one j child e).domain)
      (task_of plan s.field.script loaded (member_ask plan s child.node (one j child e).domain) (one j child e).domain).counts sent
  agree j child e =
      let o : OneAnswer plan s.field.script loaded s child = one j child e in
      let lie : LiesIn s.node.0 size o.domain child =
      paired_at (λ x c. LiesIn s.node.0 size x c) find children (λ k c h. ((one k c h).domain, (one k c h).is)) apart.lie j child e o.domain o.is in
      let slice : IsSlice o.domain = r.slices plan.tree is_plan.program child.node o.domain o.is in
      let below : LiesBelow d o.domain = record {
        below = omega (arith, lie.low, o.stands.domain);
        within = omega (arith, lie.high, o.stands.domain);
      } in
      let own : List ℕ = counts_of s.node s.counts child.node (length (node_numbers o.domain)) in
      let carried : own ≡ counts_in o.domain sent =
      counts_carried sent s.node child.node d o.domain s.counts stands.counts run slice refl o.stands.domain below in
      λ n h. sym (counts_back sent o.domain own carried slice n h)

  came : Pairs (λ x c. CameBack plan w loaded sent x c) ms children
  came =
      paired (λ x c. CameBack plan w loaded sent x c) find children
      (λ j child e. (let o : OneAnswer plan s.field.script loaded s child = one j child e in
      let task : Task = task_of plan s.field.script loaded (member_ask plan s child.node o.domain) o.domain in
      (o.domain, o.is, came_back r.own plan task sent child o.ending (agree j child e) o.ended o.stands)))

  -- ---- what they come to

  same_all : read_each w ms sent sent ≡ all
  same_all = r.order w ms sent apart.distinct ∙ ap (λ (m : Members). read_members w m sent) (sym are)

  ends : first_escalation children ≡ told_end plan all.answer
  ends = all_end plan w loaded sent ms children sent came ∙ ap (λ (x : Told GroupEnd). told_end plan x.answer) same_all

  legal : (b : Bool) → Legal plan.tree loaded (absorbed_all b children s.field).events (joined stands.at.front.past all.past).events
  legal b =
      let L : List Event → Type 0 = λ es. Legal plan.tree loaded es (joined stands.at.front.past all.past).events in
      let M : Told GroupEnd → Type 0 = λ x. Legal plan.tree loaded (s.field.events ++ events_of children) (joined stands.at.front.past x.past).events in
      subst L (sym (all_told b children s.field))
      (subst M same_all
      (l.laws.pieces plan.tree loaded s.field.events stands.at.front.past.events (events_of children) (read_each w ms sent sent).past.events
      stands.legal (all_legal l.laws.pieces plan w loaded sent ms children sent came)))

  counts_now : counts_taken s.node children s.counts ≡ counts_in d all.counts
  counts_now =
      ap (λ (cs : List ℕ). counts_taken s.node children cs) counts_are
      ∙ all_counted plan w loaded sent s.node size ms children sent came apart.lie
      ∙ ap (λ (x : Told GroupEnd). map x.counts (numbers_from s.node.0 size)) same_all
      ∙ ap (λ (ns : List ℕ). map all.counts ns) (sym run)

  own_now : slice_index s.counts 0 ≡ slice_index (counts_taken s.node children s.counts) 0
  own_now =
      ap (λ (cs : List ℕ). slice_index cs 0) stands.counts
      ∙ sym (own_stays w sent s.node.0 size ms children sent s.node.0 (omega arith) apart.lie)
      ∙ ap (λ (x : Told GroupEnd). x.counts s.node.0) same_all
      ∙ sym (ap (λ (cs : List ℕ). slice_index cs 0) counts_now)

  notes_now : NotesJoin all.answer s.field.notes (absorbed_all true children s.field).notes
  notes_now =
      let N : Told GroupEnd → Type 0 = λ x. NotesJoin x.answer s.field.notes (absorbed_all true children s.field).notes in
      subst N same_all (all_join plan w loaded sent ms children sent s.field came)

  -- ---- words

  member_at : (j : ℕ) (child : StateModel) (e : slice_get children j ≡ Some child) → IsMemberAt d point (one j child e).domain
  member_at j child e =
      (ms, rest, behind_is, (r.named find (nodes_of children) (one j child e).domain).1 (j, child.node, nodes_at children j child e, (one j child e).is))

  reach_less : (j : ℕ) (child : StateModel) (e : slice_get children j ≡ Some child) → LieIn (node_reach (one j child e).domain) (node_reach d)
  reach_less j child e p h =
      let x : Node = (one j child e).domain in
      let less : LieIn (node_reads x) (node_reads d) × LieIn (node_writes x) (node_writes d) = r.touch d x point (member_at j child e) in
      either (node_reads x p) (node_writes x p) (node_reads d p) (node_writes d p) (less.0 p) (less.1 p) h

  -- a member is sent with the words of the state, on its reach
  words_sent : (j : ℕ) (child : StateModel) (e : slice_get children j ≡ Some child)
      → SameWords (node_reach (one j child e).domain)
      (task_of plan s.field.script loaded (member_ask plan s child.node (one j child e).domain) (one j child e).domain).words s.field.words
  words_sent j child e p h =
      let o : OneAnswer plan s.field.script loaded s child = one j child e in
      words_back (foot_of plan child.node).reach s.field.words p ((foot_is plan child.node o.domain is_plan o.is).reach p ∙ h)
      (view.words p (reach_less j child e p h))

  abbrev place_at : ℕ → GroupPlace
  place_at j = record { item = point; member = j }

  stands_in : (j : ℕ) (child : StateModel) → slice_get children j ≡ Some child → StandsIn plan.tree.domains s.node child.node (place_at j)
  stands_in j child e =
      some_and (slice_get plan.tree.domains s.node.0) (λ (above : Domain). stands_at above.items child.node point j) domain listed
      (some_and (slice_get domain.items point) (λ (it : Item). HasMember it j child.node) (Group (nodes_of children)) group_is (nodes_at children j child e))

  -- what the keeps and the links give a reference of a member
  link_gives : LinksAgree plan t → (j : ℕ) (child : StateModel) (e : slice_get children j ≡ Some child) (reference : NodeId × ℕ) (entry : Entry)
      → Contains (outer_references (one j child e).domain) reference → entry_at plan.tree.domains reference.0 reference.1 ≡ Some entry
      → IsSomeAnd (linked_by (levels_below s) (link_of plan.tree.domains reference.0 reference.1)) (λ (pieces : Pieces).
      SameWords (in_range entry.range) (piece_words s.pass.known pieces) words)
  link_gives links_agree j child e reference entry outer listed_at =
      let o : OneAnswer plan s.field.script loaded s child = one j child e in
      let link : Option (NodeId × ℕ) = link_of plan.tree.domains reference.0 reference.1 in
      let child_of : IsChild plan.tree.domains s.node child.node = (r.children plan.tree is_plan.program s.node child.node (place_at j) (stands_in j child e)).1 in
      let leads : LinksTo plan.tree.domains s.node reference ⊎ Contains (outer_references d) reference =
      of_all (λ (one : NodeId × ℕ). LinksTo plan.tree.domains s.node one ⊎ Contains (outer_references d) one) (outer_references o.domain) reference
      (r.outer plan is_plan s.node child.node d o.domain is_here o.is child_of) outer in
      let gives : EachGives s.pass.known words domain.entries s.keeps =
      all_give l.outer l.links l.follows plan t s.node domain s.pass.known s.keeps is_plan listed refl links_agree fits.begun.keeps stands.sent.keeps in
      elim leads [
        | inl to ↦ own_link r.lead plan s domain words reference entry link is_plan listed listed_at refl to fits.begun.keeps gives
        | inr out ↦
            outer_link s link (λ up. Contains (path_of plan.tree.domains s.node) up)
            (λ pieces. SameWords (in_range entry.range) (piece_words s.pass.known pieces) words)
            ((l.outer plan is_plan s.node d is_here reference).0 out).1
            (some_within (λ pieces. SameWords (in_range entry.range) (piece_words s.pass.known pieces) (links reference))
            (λ pieces. SameWords (in_range entry.range) (piece_words s.pass.known pieces) words)
            (linked_by s.above link) (st.links reference entry out listed_at)
            (λ pieces same p i. same p i ∙ sym (links_agree reference entry out listed_at p i)))
      ]

  -- so the links of a member agree with its words
  member_agrees : s.field.notes ≡ no_kinds → LinksAgree plan t → (j : ℕ) (child : StateModel) (e : slice_get children j ≡ Some child)
      → LinksAgree plan (task_of plan s.field.script loaded (member_ask plan s child.node (one j child e).domain) (one j child e).domain)
  member_agrees quiet links_agree j child e reference entry outer listed_at p h =
      let o : OneAnswer plan s.field.script loaded s child = one j child e in
      let listing : NodeId × ℕ → List ℕ = λ one.
      link_words s.pass.known (linked_by (levels_below s) (link_of plan.tree.domains one.0 one.1)) (range_of plan.tree.domains one) in
      let link : Option Pieces = linked_by (levels_below s) (link_of plan.tree.domains reference.0 reference.1) in
      let lies : Contains (node_numbers o.domain) reference.0.0 =
      outer_in plan o.domain reference ((l.outer plan is_plan child.node o.domain o.is reference).0 outer) in
      let reads : node_reads o.domain p ≡ true = r.read plan.tree is_plan.program child.node reference.0 o.domain reference.1 entry o.is lies listed_at p h in
      let reach : node_reach o.domain p ≡ true = or_left (node_reads o.domain p) (node_writes o.domain p) reads in
      let began : s.field.words p ≡ words p =
      stands.words quiet links_agree p (reach_less j child e p reach)
      ∙ r.stay plan is_plan s.node child.node (place_at j) d o.domain is_here o.is (stands_in j child e) reference entry outer listed_at words p h in
      let S : Option ℕ → Type 0 = λ o. IsSome o in
      let some : IsSome (words p) = subst S began (view.words p (reach_less j child e p reach)) in
      let links_are : links_listed plan.tree.domains (outer_references o.domain) (map listing (outer_references o.domain)) reference p ≡ words p =
      ap (λ (v : Words). v p) (links_back plan.tree.domains (outer_references o.domain) listing reference outer)
      ∙ ap (λ (rs : List Range). laid_over rs (link_words s.pass.known link rs) p) (range_is plan reference entry listed_at)
      ∙ listed_link s.pass.known link entry.range words p h some (link_gives links_agree j child e reference entry outer listed_at) in
      words_sent j child e p reach ∙ began ∙ sym links_are

  words_now : (leaks : ℕ) → all.answer ≡ AllDone leaks → (absorbed_all true children s.field).notes ≡ no_kinds → LinksAgree plan t
      → SameWords (node_reach d) (absorbed_all true children s.field).words (resumed_words d point words)
  words_now leaks done quiet links_agree =
      let J : GroupEnd → Type 0 = λ g. NotesJoin g s.field.notes (absorbed_all true children s.field).notes in
      let join : (absorbed_all true children s.field).notes ≡ bit_or s.field.notes leaks = subst J done notes_now in
      let none : (s.field.notes ≡ no_kinds) × (leaks ≡ no_kinds) = notes_none s.field.notes leaks (sym join ∙ quiet) in
      let gives : Pairs (λ x c. GivesMeaning w sent s.field.words x c) ms children =
      paired (λ x c. GivesMeaning w sent s.field.words x c) find children
      (λ j child e. (let o : OneAnswer plan s.field.script loaded s child = one j child e in
      let task : Task = task_of plan s.field.script loaded (member_ask plan s child.node o.domain) o.domain in (
        o.domain,
        o.is,
        gives_meaning r.own plan task sent child o.ending (agree j child e) o.ended o.stands r.acts s.field.words
            (r.shapes plan.tree is_plan.program child.node o.domain o.is) (words_sent j child e) (member_agrees none.0 links_agree j child e),
      ))) in
      let given : GiveMeanings ms s.field.words (given_by children) =
      all_meanings w sent s.field.words ms children sent gives
      (ap (λ (x : Told GroupEnd). x.answer) same_all ∙ done ∙ ap (λ (n : ℕ). AllDone n) none.1) in
      let R : Words → Type 0 = λ v. SameWords (node_reach d) v (resumed_words d point words) in
      subst R (sym (all_put plan w loaded sent ms children s.field came))
      (r.resume d point ms rest (node_reach d) words s.field.words (given_by children) (r.shapes plan.tree is_plan.program s.node d is_here)
      (λ p h. or_left (node_reads d p) (node_writes d p) h) behind_is (stands.words none.0 links_agree) given)

  -- ---- the state after them

  abbrev state_with : Option (Cause × ℕ) → StateModel
  state_with first = record s {
    counts = counts_taken s.node children s.counts;
    stage = stage_behind domain.detects spare point first;
    field = absorbed_all (all_done first) children s.field;
    pass = joined_all children s.pass;
  }

  sent_still : (first : Option (Cause × ℕ)) → AsSent plan t (state_with first)
  sent_still first =
      let K : Known → Type 0 = λ known. KeepsGive known t s.node 0 domain.entries s.keeps in
      record {
        begin = (all_left (all_done first) children s.field).begin ∙ stands.sent.begin ∙ own_now;
        keeps = subst K (sym (all_joined children s.pass).known) stands.sent.keeps;
      }

  stage_stands : (g : GroupEnd) → all.answer ≡ g → StandsAt plan t (state_with (told_end plan g)) (stage_behind domain.detects spare point (told_end plan g))
  stage_stands (AllDone leaks) done =
      let J : GroupEnd → Type 0 = λ g. NotesJoin g s.field.notes (absorbed_all true children s.field).notes in
      let join : (absorbed_all true children s.field).notes ≡ bit_or s.field.notes leaks = subst J done notes_now in
      record {
        sent = sent_still None;
        at = stands.at;
        leaks = leaks;
        done = done;
        legal = legal true;
        notes = join ∙ ap (λ (n : ℕ). bit_or n leaks) stands.notes;
        counts = counts_now;
        words = words_now leaks done;
      }
  stage_stands (SomeEscalated cause over) lost = record {
    sent = sent_still (told_end plan (SomeEscalated cause over));
    point = point;
    at = stands.at;
    blame = cause;
    more = over;
    lost = lost;
    blamed = refl;
    undeclared = refl;
    legal = legal false;
    counts = counts_now;
  }

  pub stands_after : Fits plan (state_with (first_escalation children)) → Stands plan t (state_with (first_escalation children))
  stands_after =
      let S : Option (Cause × ℕ) → Type 0 = λ first. Fits plan (state_with first) → Stands plan t (state_with first) in
      subst S (sym ends) (λ fits_now.
      (let first : Option (Cause × ℕ) = told_end plan all.answer in
      let left : Left s.field (absorbed_all (all_done first) children s.field) = all_left (all_done first) children s.field in
      let C : List Range → Type 0 = λ rs. (p : Place) → in_ranges rs p ≡ node_writes d p in
      let K : Known → Type 0 = λ known. LinksGive plan t known s.above in
      record {
        task = st.task;
        fits = fits_now;
        domain = st.domain;
        script = left.script ∙ st.script;
        carved = subst C (sym left.carved) st.carved;
        lapses = all_answered plan w loaded sent ms children came (all_done first) s.field s.pass st.lapses;
        links = subst K (sym (all_joined children s.pass).known) st.links;
        stage = stage_stands all.answer refl;
      }))

-- by the stage, which is that of a domain that waits
by_stage : MoreLaws → MembersLaws → (plan : PlanModel) (s : StateModel) (domain : Domain) → IsPlan plan → slice_get plan.tree.domains s.node.0 ≡ Some domain
    → (loaded words : Words) (counts : Counts) (links : NodeId × ℕ → Words) (children : List StateModel) (stage : Stage) → IsWaiting stage
    → Stands plan (task_at plan s domain loaded words counts links) s → FitsView plan s domain
    → FitsStage plan (view_in plan.tree s.node domain) domain s stage → StandsAt plan (task_at plan s domain loaded words counts links) s stage
    → (commit : Bool) → CanTakeEach plan s commit children → EachAnswers plan s.field.script loaded s children
    → nodes_of children ≡ members_at domain (waits_at stage) → Fits plan (resumed_at s domain children stage)
    → Stands plan (task_at plan s domain loaded words counts links) (resumed_at s domain children stage)
by_stage l r plan s domain is_plan listed loaded words counts links children Ready waits st view fits stands commit takes answers members now = absurd waits
by_stage l r plan s domain is_plan listed loaded words counts links children (Waiting spare point) waits st view fits stands commit takes answers members now =
    stands_after l r plan s domain is_plan listed loaded words counts links children spare point st view fits stands commit takes answers members now
by_stage l r plan s domain is_plan listed loaded words counts links children (Resumed spare point) waits st view fits stands commit takes answers members now = absurd waits
by_stage l r plan s domain is_plan listed loaded words counts links children (Lost spare cause over) waits st view fits stands commit takes answers members now = absurd waits
by_stage l r plan s domain is_plan listed loaded words counts links children (Ended ending) waits st view fits stands commit takes answers members now = absurd waits

-- the law: a domain that waited stands after its members came back
pub resuming_stands : MoreLaws → MembersLaws → ResumingFits → ResumingStands
resuming_stands l r fit plan t s children is_plan back st answers =
    let domain : Domain = back.domain in
    let e : t ≡ task_at plan s domain t.loaded t.words t.counts t.links = task_is l plan t s domain is_plan back.is st in
    let S : Task → Type 0 = λ x. Stands plan x s in
    let R : Task → Type 0 = λ x. Stands plan x (resumed s domain children) in
    let A : List Fault → Type 0 = λ faults. EachAnswers plan faults t.loaded s children in
    let st_at : Stands plan (task_at plan s domain t.loaded t.words t.counts t.links) s = subst S e st in
    let view : FitsView plan s domain = fits_view l.follows plan s domain is_plan back.is st.fits in
    subst R (sym e)
    (by_stage l r plan s domain is_plan back.is t.loaded t.words t.counts t.links children s.stage back.waits st_at view view.stage st_at.stage
    (all_done (first_escalation children)) back.takes (subst A (sym st.script) answers) back.members (fit plan s children is_plan st.fits back))
