-- The walk over a program's domains: items and members from the front of a list, and what is known of each domain.
use Rattle.std.proofs.Common.{◌≡◌, ℕ, suc, ◌+◌, ◌<◌, ◌≤◌, ◌^◌, ◌==◌, Bool, true, false, cond, bit_or, bit_and, List, [], ◌∷◌, Option, Some, unwrap_or, length, filter, set, slice_get, slice_index, refl, sym, ap, ◌∙◌, subst, arith, add-one, inl, inr}
use Rattle.std.proofs.Math.Path.{fun_ext}
use Rattle.std.proofs.lemmas.Bool.{cases_eq, eq-eqb}
use Rattle.std.proofs.lemmas.Option.{slice_get_within}
use Rattle.std.proofs.lemmas.List.{get_or-set_same, get_or-set_other}
use Rattle.cd_base.proofs.ListLemmas.{some_of}
use Rattle.cd_tree.specs.KindSets.{no_kinds}
use Rattle.cd_tree.specs.declared.domain.NodeId.{NodeId}
use Rattle.cd_tree.specs.declared.domain.Domain.{Domain}
use Rattle.cd_tree.specs.declared.domain.Item.{Item}
use Rattle.cd_tree.specs.declared.domain.Item.TheVariants.{Run, Group}
use Rattle.cd_tree.specs.declared.document.Fault.{Fault}
use Rattle.cd_tree.specs.Scripts.{struck, kinds_of}
use Rattle.cd_tree.specs.TreeModel.{TreeModel, IsTree, NamesChildren}
use Rattle.cd_tree.specs.Domains.{Node, Members, node, members_by, body_by, put_first, node_of, nodes_from, root_of, first_of_all}
use Rattle.cd_tree.specs.Laws.{NestedViewFollows}
use Rattle.cd_tree.specs.Reading.{Case, Counts, counted, Told, told, silence, TryEnd, NodeEnd, GroupEnd, ends_joined, Try, unless_halted, arrived, detected, with_member, read_node, read_points, read_members, read_try}
use Rattle.cd_tree.specs.Reading as reading
use Rattle.cd_tree.proofs.KindLemmas.{bit_or-assoc, bit_or-none}
use Rattle.cd_reading.specs.declared.ends.Tried.{Tried}
use Rattle.cd_reading.specs.declared.steps.Step.{Step}
use Rattle.cd_reading.specs.declared.steps.Step.TheVariants.{On, Over}
use Rattle.cd_reading.specs.Ends.{try_end, groups_joined, alone}
use Rattle.cd_reading.specs.Steps.{quiet, went}
use Rattle.cd_reading.specs.Strikes.{strikes_in}
use Rattle.cd_reading.specs.Walk.{the_node, listed, AreCounts, item_read, item_counts}
use Rattle.cd_reading.proofs.KindLemmas.{none_or, neq-eqb}
use Rattle.cd_reading.proofs.StruckLemmas.{struck_twice}
use Rattle.cd_reading.proofs.Rises.{Rises, points_rise, members_rise, item_rises}

-- ---- each domain of a program

-- the view of a domain, by its number
pub view_is : (tree : TreeModel) → IsTree tree → NestedViewFollows → (id : NodeId) (domain : Domain) → slice_get tree.domains id.0 ≡ Some domain
    → the_node tree.domains id ≡ node id domain (body_by (node_of tree.domains) domain.items)
view_is tree is views id domain there =
    ap (λ (o : Option Node). unwrap_or o (root_of tree.domains)) (views tree is id domain there)

pub found_is : (tree : TreeModel) → IsTree tree → NestedViewFollows → (id : NodeId) (domain : Domain) → slice_get tree.domains id.0 ≡ Some domain
    → node_of tree.domains id ≡ Some (the_node tree.domains id)
found_is tree is views id domain there = views tree is id domain there ∙ ap (λ (d : Node). Some d) (sym (view_is tree is views id domain there))

first_or : (nodes : List Node) → unwrap_or (slice_get nodes 0) (first_of_all nodes) ≡ first_of_all nodes
first_or [] = refl
first_or (d ∷ ds) = refl

pub root_is : (domains : List Domain) → the_node domains (record { 0 = 0 }) ≡ root_of domains
root_is domains = first_or (nodes_from 0 domains)

-- ---- counts in a list

pub count_set : (counts : List ℕ) (n v : ℕ) → n < length counts → v ≡ slice_index counts n + 1 → listed (set counts n v) ≡ counted n (listed counts)
count_set counts n v within is =
    fun_ext (λ k. elim (cases_eq k n) [
      | inl same ↦
          ap (λ (m : ℕ). slice_index (set counts n v) m) same
          ∙ get_or-set_same counts n v 0 within
          ∙ is
          ∙ ap (λ (m : ℕ). slice_index counts m + 1) (sym same)
          ∙ sym (chosen (k == n) (slice_index counts k + 1) (slice_index counts k) (eq-eqb k n same))
      | inr other ↦
          get_or-set_other counts n k v 0 other
          ∙ sym (other_one (k == n) (slice_index counts k + 1) (slice_index counts k) (neq-eqb k n other))
    ])
  where
    chosen : (b : Bool) (x y : ℕ) → b ≡ true → cond b x y ≡ x
    chosen true x y e = refl
    chosen false x y e = absurd (cc)

    other_one : (b : Bool) (x y : ℕ) → b ≡ false → cond b x y ≡ y
    other_one true x y e = absurd (cc)
    other_one false x y e = refl

pub counts_same : (a b : Counts) → a ≡ b → AreCounts b → AreCounts a
counts_same a b e few n = subst (λ (m : ℕ). m < 2 ^ 64) (sym (ap (λ (c : Counts). c n) e)) (few n)

pub counts_below : (a b : Counts) → Rises a b → AreCounts b → AreCounts a
counts_below a b rises few n =
    let most : b n < 2 ^ 64 = few n in
    let less : a n ≤ b n = rises.each n in
    omega arith

-- ---- points

-- what a point and its item read, as one step and then another
body_read : (w : Case) (find : NodeId → Option Node) (item : Item) (items : List Item) (h : Try) (point notes : ℕ) (counts : Counts)
    → read_points w (body_by find (item ∷ items)) h point notes counts
    ≡ arrived w h point notes counts (λ seen. item_read w h find item seen counts (λ all more. read_points w (body_by find items) h (suc point) all more))
unfolding read_node read_points read_members
body_read w find (Run op) items h point notes counts = refl
body_read w find (Group ids) items h point notes counts = refl

-- the kinds of a point's faults
pub kinds_are : (faults own : List Fault) (id : NodeId) (begin point kinds : ℕ) → own ≡ filter (strikes_in id.0 begin) faults
    → kinds ≡ kinds_of (filter (λ (fault : Fault). fault.item == point) own) → kinds ≡ kinds_of (struck faults id begin point)
kinds_are faults own id begin point kinds own_is is =
    is ∙ ap (λ (fs : List Fault). kinds_of (filter (λ (fault : Fault). fault.item == point) fs)) own_is
    ∙ ap kinds_of (struck_twice faults id begin point)

-- a try's arrival at a point, whose faults are of these kinds, is this step
pub record Arrives (h : Try) (halts kinds notes : ℕ) (step : Step) : Type 0 where
  pub each : (counts : Counts) (next : ℕ → Told TryEnd)
      → quiet (unless_halted h (bit_and kinds halts) (bit_or notes kinds) counts next (bit_and kinds halts == no_kinds)) ≡ quiet (went step counts next)

-- a point at which faults of these kinds strike is this step
pub arrived_step : (w : Case) (h : Try) (point kinds halts notes : ℕ) (step : Step) (counts : Counts) (next : ℕ → Told TryEnd)
    → kinds ≡ kinds_of (struck w.faults h.node h.begin point) → halts ≡ w.halts → Arrives h halts kinds notes step
    → quiet (arrived w h point notes counts next) ≡ quiet (went step counts next)
arrived_step w h point kinds halts notes step counts next kinds_is halts_is arrives =
    let at : ℕ → ℕ → Told TryEnd =
    λ k m. unless_halted h (bit_and k m) (bit_or notes k) counts next (bit_and k m == no_kinds) in
    sym (ap (λ (k : ℕ). quiet (at k w.halts)) kinds_is)
    ∙ sym (ap (λ (m : ℕ). quiet (at kinds m)) halts_is)
    ∙ arrives.each counts next

-- the try from a point on, with these items left, is what is left of the whole
pub record PointsLeft (w : Case) (find : NodeId → Option Node) (h : Try) (point notes : ℕ) (counts : Counts) (items : List Item) (whole : Told TryEnd) : Type 0 where
  pub same : quiet (read_points w (body_by find items) h point notes counts) ≡ quiet whole

pub points_all : (w : Case) (find : NodeId → Option Node) (h : Try) (counts : Counts) (items : List Item)
    → PointsLeft w find h 0 no_kinds counts items (read_points w (body_by find items) h 0 no_kinds counts)
points_all w find h counts items = record { same = refl }

-- at a point with an item the try is over
pub point_over : (w : Case) (find : NodeId → Option Node) (h : Try) (point kinds halts notes : ℕ) (end : Tried) (counts : Counts) (item : Item)
    (items : List Item) (whole : Told TryEnd)
    → kinds ≡ kinds_of (struck w.faults h.node h.begin point) → halts ≡ w.halts → Arrives h halts kinds notes (Over end)
    → PointsLeft w find h point notes counts (item ∷ items) whole → quiet whole ≡ (counts, try_end end)
point_over w find h point kinds halts notes end counts item items whole kinds_is halts_is arrives left =
    sym left.same
    ∙ ap (λ (t : Told TryEnd). quiet t) (body_read w find item items h point notes counts)
    ∙ arrived_step w h point kinds halts notes (Over end) counts
    (λ seen. item_read w h find item seen counts (λ all more. read_points w (body_by find items) h (suc point) all more))
    kinds_is halts_is arrives

-- the try goes on to the item
pub record ItemLeft (w : Case) (find : NodeId → Option Node) (h : Try) (point notes : ℕ) (counts : Counts) (item : Item) (items : List Item) (whole : Told TryEnd) : Type 0 where
  pub same : quiet (item_read w h find item notes counts (λ all more. read_points w (body_by find items) h (suc point) all more)) ≡ quiet whole

pub point_on : (w : Case) (find : NodeId → Option Node) (h : Try) (point kinds halts notes seen : ℕ) (counts : Counts) (item : Item)
    (items : List Item) (whole : Told TryEnd)
    → kinds ≡ kinds_of (struck w.faults h.node h.begin point) → halts ≡ w.halts → Arrives h halts kinds notes (On seen)
    → PointsLeft w find h point notes counts (item ∷ items) whole → ItemLeft w find h point seen counts item items whole
point_on w find h point kinds halts notes seen counts item items whole kinds_is halts_is arrives left =
    let next : ℕ → Told TryEnd =
    λ s. item_read w h find item s counts (λ all more. read_points w (body_by find items) h (suc point) all more) in
    record {
      same =
          sym (arrived_step w h point kinds halts notes (On seen) counts next kinds_is halts_is arrives)
          ∙ sym (ap (λ (t : Told TryEnd). quiet t) (body_read w find item items h point notes counts))
          ∙ left.same;
    }

-- the counts behind the item fit, since those of the whole do
pub item_few : (w : Case) (find : NodeId → Option Node) (h : Try) (point notes : ℕ) (counts : Counts) (item : Item) (items : List Item) (whole : Told TryEnd)
    → AreCounts whole.counts → ItemLeft w find h point notes counts item items whole → AreCounts (item_counts w find item counts)
item_few w find h point notes counts item items whole few left =
    let next : ℕ → Counts → Told TryEnd = λ all more. read_points w (body_by find items) h (suc point) all more in
    let t : Told TryEnd = item_read w h find item notes counts next in
    counts_below (item_counts w find item counts) t.counts
    (item_rises w h find item notes counts next (λ all more. points_rise w (body_by find items) h (suc point) all more))
    (counts_same t.counts whole.counts (ap (λ (p : Counts × TryEnd). p.0) left.same) few)

-- what an item reads is this step
pub record Passes (w : Case) (find : NodeId → Option Node) (h : Try) (notes : ℕ) (counts more : Counts) (item : Item) (step : Step) : Type 0 where
  pub each : (next : ℕ → Counts → Told TryEnd) → quiet (item_read w h find item notes counts next) ≡ quiet (went step more (λ all. next all more))

pub item_over : (w : Case) (find : NodeId → Option Node) (h : Try) (point notes : ℕ) (end : Tried) (counts more : Counts) (item : Item) (items : List Item) (whole : Told TryEnd)
    → Passes w find h notes counts more item (Over end) → ItemLeft w find h point notes counts item items whole → quiet whole ≡ (more, try_end end)
item_over w find h point notes end counts more item items whole passes left =
    sym left.same ∙ passes.each (λ all m. read_points w (body_by find items) h (suc point) all m)

pub item_on : (w : Case) (find : NodeId → Option Node) (h : Try) (point notes all : ℕ) (counts more : Counts) (item : Item) (items : List Item) (whole : Told TryEnd)
    → Passes w find h notes counts more item (On all) → ItemLeft w find h point notes counts item items whole
    → PointsLeft w find h (point + 1) all more items whole
item_on w find h point notes all counts more item items whole passes left =
    record {
      same =
          ap (λ (n : ℕ). quiet (read_points w (body_by find items) h n all more)) (add-one point)
          ∙ sym (passes.each (λ a m. read_points w (body_by find items) h (suc point) a m))
          ∙ left.same;
    }

-- behind the last item
pub end_over : (w : Case) (find : NodeId → Option Node) (h : Try) (point kinds halts notes : ℕ) (end : Tried) (counts : Counts) (whole : Told TryEnd)
    → kinds ≡ kinds_of (struck w.faults h.node h.begin point) → halts ≡ w.halts → Arrives h halts kinds notes (Over end)
    → PointsLeft w find h point notes counts [] whole → quiet whole ≡ (counts, try_end end)
unfolding read_node read_points read_members
end_over w find h point kinds halts notes end counts whole kinds_is halts_is arrives left =
    sym left.same ∙ arrived_step w h point kinds halts notes (Over end) counts (λ seen. detected h seen counts) kinds_is halts_is arrives

pub end_on : (w : Case) (find : NodeId → Option Node) (h : Try) (point kinds halts notes seen : ℕ) (end : Tried) (counts : Counts) (whole : Told TryEnd)
    → kinds ≡ kinds_of (struck w.faults h.node h.begin point) → halts ≡ w.halts → Arrives h halts kinds notes (On seen)
    → quiet (detected h seen counts) ≡ (counts, try_end end)
    → PointsLeft w find h point notes counts [] whole → quiet whole ≡ (counts, try_end end)
unfolding read_node read_points read_members
end_on w find h point kinds halts notes seen end counts whole kinds_is halts_is arrives judged left =
    sym left.same ∙ arrived_step w h point kinds halts notes (On seen) counts (λ s. detected h s counts) kinds_is halts_is arrives ∙ judged

-- ---- members

joined_assoc : (so : GroupEnd) (end : NodeEnd) (rest : GroupEnd) → groups_joined so (ends_joined end rest) ≡ groups_joined (groups_joined so (alone end)) rest
joined_assoc (reading.AllDone a) (reading.Done b) (reading.AllDone c) = ap (λ (n : ℕ). reading.AllDone n) (sym (bit_or-assoc a b c))
joined_assoc (reading.AllDone a) (reading.Done b) (reading.SomeEscalated cause over) = refl
joined_assoc (reading.AllDone a) (reading.Escalated cause over) (reading.AllDone c) = refl
joined_assoc (reading.AllDone a) (reading.Escalated cause over) (reading.SomeEscalated other more) = refl
joined_assoc (reading.SomeEscalated first a) (reading.Done b) (reading.AllDone c) = refl
joined_assoc (reading.SomeEscalated first a) (reading.Done b) (reading.SomeEscalated cause over) = refl
joined_assoc (reading.SomeEscalated first a) (reading.Escalated cause over) (reading.AllDone c) = refl
joined_assoc (reading.SomeEscalated first a) (reading.Escalated cause over) (reading.SomeEscalated other more) =
    ap (λ (n : ℕ). reading.SomeEscalated first n) (sym (bit_or-assoc a over more))

joined_first : (end : GroupEnd) → groups_joined (reading.AllDone no_kinds) end ≡ end
joined_first (reading.AllDone leaks) = ap (λ (n : ℕ). reading.AllDone n) (none_or leaks)
joined_first (reading.SomeEscalated cause over) = refl

joined_last : (end : GroupEnd) → groups_joined end (reading.AllDone no_kinds) ≡ end
joined_last (reading.AllDone leaks) = ap (λ (n : ℕ). reading.AllDone n) (bit_or-none leaks)
joined_last (reading.SomeEscalated cause over) = refl

-- the ends so far, with those of the members that are left
abbrev with_rest : GroupEnd → Told GroupEnd → Counts × GroupEnd
with_rest so t = (t.counts, groups_joined so t.answer)

pub record MembersLeft (w : Case) (domains : List Domain) (at : ℕ) (so : GroupEnd) (counts : Counts) (ids : List NodeId) (whole : Told GroupEnd) : Type 0 where
  pub same : with_rest so (read_members w (members_by (node_of domains) ids) counts) ≡ quiet whole
  pub named : NamesChildren domains at ids

pub members_all : (w : Case) (domains : List Domain) (at : ℕ) (counts : Counts) (ids : List NodeId) → NamesChildren domains at ids
    → MembersLeft w domains at (reading.AllDone no_kinds) counts ids (read_members w (members_by (node_of domains) ids) counts)
members_all w domains at counts ids named =
    let t : Told GroupEnd = read_members w (members_by (node_of domains) ids) counts in
    record {
      same = ap (λ (e : GroupEnd). let q : Counts × GroupEnd = (t.counts, e) in q) (joined_first t.answer);
      named = named;
    }

first_read : (w : Case) (found : Option Node) (d : Node) (rest : Members) (counts : Counts) → found ≡ Some d
    → read_members w (put_first found rest) counts ≡ with_member (read_node w d counts) (λ now. read_members w rest now)
unfolding read_node read_points read_members
first_read w found d rest counts is = ap (λ (o : Option Node). read_members w (put_first o rest) counts) is

-- the first member that is left is there
pub member_here : (tree : TreeModel) (at : ℕ) (id : NodeId) (ids : List NodeId) → NamesChildren tree.domains at (id ∷ ids)
    → (at < id.0) × (id.0 < length tree.domains) × ((domain : Domain) × (slice_get tree.domains id.0 ≡ Some domain))
member_here tree at id ids named =
    let child = some_of (slice_get tree.domains id.0) (λ d. d.parent ≡ Some (record { 0 = at })) named.1 in
    (named.0, slice_get_within tree.domains id.0 child.0 child.1, (child.0, child.1))

pub member_few : (w : Case) (tree : TreeModel) → IsTree tree → NestedViewFollows → (at : ℕ) (so : GroupEnd) (counts : Counts) (id : NodeId) (ids : List NodeId)
    (whole : Told GroupEnd) → AreCounts whole.counts → MembersLeft w tree.domains at so counts (id ∷ ids) whole
    → AreCounts (read_node w (the_node tree.domains id) counts).counts
member_few w tree is views at so counts id ids whole few left =
    let here = member_here tree at id ids left.named in
    let d : Node = the_node tree.domains id in
    let rest : Members = members_by (node_of tree.domains) ids in
    let t : Told NodeEnd = read_node w d counts in
    let found : node_of tree.domains id ≡ Some d = found_is tree is views id here.2.0 here.2.1 in
    let last : Counts = (read_members w rest t.counts).counts in
    let same : last ≡ whole.counts =
    sym (ap (λ (u : Told GroupEnd). u.counts) (first_read w (node_of tree.domains id) d rest counts found))
    ∙ ap (λ (p : Counts × GroupEnd). p.0) left.same in
    counts_below t.counts last (members_rise w rest t.counts) (counts_same last whole.counts same few)

pub member_read : (w : Case) (tree : TreeModel) → IsTree tree → NestedViewFollows → (at : ℕ) (so more : GroupEnd) (counts now : Counts) (end : NodeEnd) (id : NodeId)
    (ids : List NodeId) (whole : Told GroupEnd) → quiet (read_node w (the_node tree.domains id) counts) ≡ (now, end)
    → more ≡ groups_joined so (alone end) → MembersLeft w tree.domains at so counts (id ∷ ids) whole → MembersLeft w tree.domains at more now ids whole
member_read w tree is views at so more counts now end id ids whole read more_is left =
    let here = member_here tree at id ids left.named in
    let d : Node = the_node tree.domains id in
    let rest : Members = members_by (node_of tree.domains) ids in
    let found : node_of tree.domains id ≡ Some d = found_is tree is views id here.2.0 here.2.1 in
    let behind : Counts × NodeEnd → Counts × GroupEnd =
    λ p. let t : Told GroupEnd = read_members w rest p.0 in let q : Counts × GroupEnd = (t.counts, groups_joined so (ends_joined p.1 t.answer)) in q in
    let last : Told GroupEnd = read_members w rest now in
    record {
      same =
          ap (λ (e : GroupEnd). with_rest e last) more_is
          ∙ sym (ap (λ (e : GroupEnd). let q : Counts × GroupEnd = (last.counts, e) in q) (joined_assoc so end last.answer))
          ∙ sym (ap behind read)
          ∙ sym (ap (with_rest so) (first_read w (node_of tree.domains id) d rest counts found))
          ∙ left.same;
      named = left.named.2;
    }

pub members_end : (w : Case) (domains : List Domain) (at : ℕ) (so : GroupEnd) (counts : Counts) (whole : Told GroupEnd)
    → MembersLeft w domains at so counts [] whole → quiet whole ≡ (counts, so)
unfolding read_node read_points read_members
members_end w domains at so counts whole left =
    sym left.same ∙ ap (λ (e : GroupEnd). let q : Counts × GroupEnd = (counts, e) in q) (joined_last so)
