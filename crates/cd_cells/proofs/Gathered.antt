-- A pass whose arrival was the last of a group takes its members, and goes on with their parent.
use Rattle.std.proofs.Common.{◌≡◌, ◌≢◌, ℕ, ◌+◌, ◌<◌, ◌≤◌, ◌==◌, List, [], ◌∷◌, ◌++◌, length, drop, slice_index_or, Option, None, Some, vec_capacity, sym, refl, ap, subst, ◌∙◌, arith, ⊎_elim, eq-eqb, ne_eqb}
use Rattle.std.proofs.lemmas.Bool.{cases_eq, cond-true, cond-false}
use Rattle.std.proofs.lemmas.List.{append-nil, drop_more, length-append}
use Rattle.atomic_table.specs.Table.{rest}
use Rattle.atomic_table.specs.Seated.{TableId}
use Rattle.cd_tree.specs.declared.domain.NodeId.{NodeId}
use Rattle.cd_core.specs.declared.ask.Ask.{Ask}
use Rattle.cd_cells.specs.declared.view.Meeting.{Meeting}
use Rattle.cd_cells.specs.declared.view.View.{View}
use Rattle.cd_cells.specs.declared.view.Cell.{Cell}
use Rattle.cd_cells.specs.Places.Sort.{holds, lasts, owes, takes, clears, names}
use Rattle.cd_cells.specs.Listing.{one_if, often, one_out, all_out, nodes, find, asks_out}
use Rattle.cd_cells.specs.Kinds.{Kind, Lawful}
use Rattle.cd_cells.specs.Views.{naming, tally}
use Rattle.cd_cells.specs.Seats.{IsAt}
use Rattle.cd_cells.specs.States.{numbers_of}
use Rattle.cd_cells.specs.Steps.{Sat, with_view, homing, handed, meeting, taking, Taken, clearing, also_naming, resuming, Resumed}
use Rattle.cd_cells.specs.Hands.{Has}
use Rattle.cd_cells.specs.Gathering.{EndedBy, gathered, HasGathered, gathering, Gathers}
use Rattle.cd_cells.specs.Arrivals.{EndedEach, ArrivedLast}
use Rattle.cd_cells.proofs.Listed.{one_at, one_off, often_here, often_append, often_all_out, nodes_append, nodes_all_out}
use Rattle.cd_cells.proofs.Sums.{some_or_none}
use Rattle.cd_cells.proofs.Handing.{same_table, taken_in_hand}

-- ---- lists

out_first : (d : ℕ) (xs : List ℕ) → one_out d (d ∷ xs) ≡ xs
out_first d xs = cond-true (d == d) xs (d ∷ one_out d xs) (eq-eqb d d refl)

none_listed : (xs : List ℕ) → ((e : ℕ) → often e xs ≡ 0) → xs ≡ []
none_listed [] h = refl
none_listed (x ∷ xs) h = absurd (let a : often x (x ∷ xs) ≡ 0 = h x in let o = often_here x xs in omega arith)

-- all of a group out of a list that has each as often as the group
all_out_same : (g xs : List ℕ) → ((e : ℕ) → often e xs ≡ often e g) → all_out g xs ≡ []
all_out_same g xs h = none_listed (all_out g xs) (λ e. let a = h e in let r = often_all_out g xs (λ i. let b = h i in omega arith) e in omega arith)

no_nodes : (asks : List Ask) → nodes asks ≡ [] → asks ≡ []
no_nodes [] e = refl
no_nodes (a ∷ asks) e = absurd (let z : length (nodes (a ∷ asks)) ≡ 0 = ap length e in omega arith)

asks_out_same : (g : List ℕ) (asks : List Ask) → nodes asks ≡ g → asks_out g asks ≡ []
asks_out_same g asks e = no_nodes (asks_out g asks) (nodes_all_out g asks ∙ all_out_same g (nodes asks) (λ i. ap (often i) e))

nodes_more : (asks : List Ask) (a : Ask) (left : List ℕ) → nodes (asks ++ a ∷ []) ++ left ≡ nodes asks ++ a.node.0 ∷ left
nodes_more [] a left = refl
nodes_more (b ∷ asks) a left = ap (λ (l : List ℕ). b.node.0 ∷ l) (nodes_more asks a left)

length_nodes : (asks : List Ask) → length (nodes asks) ≡ length asks
length_nodes [] = refl
length_nodes (a ∷ asks) = let r = length_nodes asks in omega arith

first_of : (g : List ℕ) → 0 < length g → (m : ℕ) × (0 < often m g)
first_of [] h = absurd (omega arith)
first_of (m ∷ ms) h = (m, (let o = often_here m ms in omega arith))

not_found : (d : ℕ) (asks : List Ask) → often d (nodes asks) ≡ 0 → (find d asks).node.0 ≡ 0
not_found d [] z = refl
not_found d (a ∷ asks) z = ⊎_elim
    (λ (q : a.node.0 ≡ d). absurd (let o = one_at a.node.0 d q in omega arith))
    (λ ne.
    let o = one_off a.node.0 d ne in
    ap (λ (b : Ask). b.node.0) (cond-false (a.node.0 == d) a (find d asks) (ne_eqb a.node.0 d ne)) ∙ not_found d asks (omega arith))
    (cases_eq a.node.0 d)

-- ---- states that have ended

module _ {T : Type 0} (k : Kind T) where
  ended_more : (asks : List Ask) (states : List T) (a : Ask) (t : T) → EndedBy k asks states → k.Ended a t → EndedBy k (asks ++ a ∷ []) (states ++ t ∷ [])
  ended_more [] [] a t e h = (h, tt)
  ended_more [] (s ∷ states) a t e h = absurd e
  ended_more (b ∷ asks) [] a t e h = absurd e
  ended_more (b ∷ asks) (s ∷ states) a t e h = (e.0, ended_more asks states a t e.1 h)

  ended_length : (asks : List Ask) (states : List T) → EndedBy k asks states → length states ≡ length asks
  ended_length [] [] e = refl
  ended_length [] (s ∷ states) e = absurd e
  ended_length (b ∷ asks) [] e = absurd e
  ended_length (b ∷ asks) (s ∷ states) e = let r = ended_length asks states e.1 in omega arith

  ended_each : (parent : T) (asks : List Ask) (states : List T) → EndedBy k asks states
      → ((i : ℕ) → 0 < often i (nodes asks) → find i asks ≡ k.asks parent i) → ((i : ℕ) → often i (nodes asks) ≤ 1) → EndedEach k parent (nodes asks) states
  ended_each parent [] [] e same once = tt
  ended_each parent [] (s ∷ states) e same once = absurd e
  ended_each parent (a ∷ asks) [] e same once = absurd e
  ended_each parent (a ∷ asks) (s ∷ states) e same once =
      let o = often_here a.node.0 (nodes asks) in (
        subst (λ (x : Ask). k.Ended x s) (sym (cond-true (a.node.0 == a.node.0) a (find a.node.0 asks) (eq-eqb a.node.0 a.node.0 refl)) ∙ same a.node.0 (omega arith)) e.0,
        ended_each parent asks states e.1
            (λ i h.
            let most = once i in
            let ne : a.node.0 ≢ i = (λ q. absurd (let p = one_at a.node.0 i q in omega arith)) in
            sym (cond-false (a.node.0 == i) a (find i asks) (ne_eqb a.node.0 i ne)) ∙ same i (omega arith))
            (λ i. let most = once i in omega arith),
      )

-- ---- what is in hand

pub held_one : {K : Type 0} (v : View K) (a : Ask) (d : ℕ) → v.holds ≡ a ∷ [] → a.node.0 ≡ d → 0 < tally holds d v
unfolding tally
held_one v a d e is =
    let n : often d (nodes v.holds) ≡ one_if (a.node.0 == d) + 0 = ap (λ (l : List Ask). often d (nodes l)) e in
    let o = one_at a.node.0 d is in
    omega arith

-- ---- a member is taken

module _ {K T : Type 0} (k : Kind T) (key : K) (me first : Sat K T) (d : ℕ) (cell : Cell K T) (t : Taken k key me d first cell None) where
  pub ticket_now : cell.ticket.views ≡ naming (Some key) first.0.table t.ask ∷ []
  ticket_now = t.ticket.views ∙ ap (λ (l : List ℕ). naming (Some key) l t.ask ∷ []) (sym (ap (λ (m : Sat K T). m.0.table) t.now))

  module _ (second : Sat K T) (e : second ≡ with_view first (also_naming first.0 t.ask)) where
    joined : second ≡ handed me (also_naming (taking me.0 d) t.ask) d None
    joined = e ∙ ap (λ (m : Sat K T). with_view m (also_naming m.0 t.ask)) t.now

    pub still_in_hand : second.1 ≡ (d, None) ∷ rest second.1
    still_in_hand = taken_in_hand second d None joined

    pub one_taken : 0 < tally takes d second.0
    unfolding tally
    one_taken =
        let n : often d second.0.takes ≡ often d (d ∷ me.0.takes) = ap (λ (m : Sat K T). often d m.0.takes) joined in
        let o = often_here d me.0.takes in
        omega arith

    pub one_named : 0 < tally names d second.0
    unfolding tally
    one_named =
        let n : often d (nodes second.0.named) ≡ often d (nodes (me.0.named ++ t.ask ∷ [])) = ap (λ (m : Sat K T). often d (nodes m.0.named)) joined in
        let a = nodes_append d me.0.named (t.ask ∷ []) in
        let o = one_at t.ask.node.0 d t.node in
        omega arith

    pub one_gathered : (third : Sat K T) → third ≡ homing second (clearing second.0 d) → HasGathered k me third d cell.state
    one_gathered third f = record {
      ask = t.ask;
      named = t.node;
      ended = t.ended;
      now = f ∙ ap (λ (m : Sat K T). homing m (clearing m.0 d)) joined;
    }

-- ---- one member more

-- the group by its domains
pub gather_from : {K T : Type 0} (k : Kind T) (key : K) (table seat : TableId) (old : View K) (node : ℕ) (me : Sat K T)
    → Gathers k key table seat old node me (k.siblings node) [] → (ids : List NodeId) → (0 < node → numbers_of ids ≡ k.siblings node)
    → (states : List T) → states ≡ [] → Gathers k key table seat old node me (numbers_of ids) states
gather_from k key table seat old node me g ids are states none =
    let above : 0 < node = (g.grouped.each node g.grouped.own).above in
    subst (Gathers k key table seat old node me (numbers_of ids)) (sym none) (subst (λ (l : List ℕ). Gathers k key table seat old node me l []) (sym (are above)) g)

module _ {K T : Type 0} (k : Kind T) (key : K) (table seat : TableId) (old : View K) (node : ℕ) (me : Sat K T) (ids : List NodeId) (i : ℕ) (h : i < length ids)
    (states : List T) (before : Gathers k key table seat old node me (numbers_of (drop i ids)) states) where
  abbrev m : ℕ
  m = (slice_index_or ids i (record { 0 = 0 })).0

  abbrev left : List ℕ
  left = numbers_of (drop (i + 1) ids)

  g : Gathers k key table seat old node me (m ∷ left) states
  g = subst (λ (l : List NodeId). Gathers k key table seat old node me (numbers_of l) states) (drop_more ids i (record { 0 = 0 }) h) before

  pub owed_next : 0 < tally owes m me.0
  unfolding tally
  owed_next =
      let n : often m me.0.owes ≡ often m (m ∷ left) = ap (λ (v : View K). often m v.owes) g.view in
      let o = often_here m left in
      omega arith

  pub next_below : m < k.count
  next_below =
      let a : often m (nodes g.asks ++ m ∷ left) ≡ often m (k.siblings node) = ap (often m) g.all in
      let b = often_append m (nodes g.asks) (m ∷ left) in
      let o = often_here m left in
      (g.grouped.each m (omega arith)).below

  step_view : (a : Ask) → gathered (gathering k old node (m ∷ left) g.asks g.clears) m a ≡ gathering k old node left (g.asks ++ a ∷ []) (m ∷ g.clears)
  step_view a = λ i. record (meeting old Meeting.Arrival (k.up node) 1) {
    rights = [];
    turns = [];
    holds = [];
    lasts = k.up node ∷ [];
    owes = out_first m left i;
    takes = out_first m [] i;
    clears = m ∷ g.clears;
    named = g.asks ++ a ∷ [];
    arrives = node ∷ old.arrives;
  }

  pub gather_step : (now : TableId) (after : Sat K T) (t : T) (list : List T) → list ≡ states ++ t ∷ [] → IsAt k key table now after.0 → HasGathered k me after m t
      → Gathers k key table now old node after left list
  gather_step now after t list e at one = record {
    at = at;
    slots = ap (λ (x : Sat K T). x.1) one.now ∙ g.slots;
    grouped = g.grouped;
    asks = g.asks ++ one.ask ∷ [];
    clears = m ∷ g.clears;
    view = ap (λ (x : Sat K T). x.0) one.now ∙ (ap (λ (v : View K). gathered v m one.ask) g.view ∙ step_view one.ask);
    all = nodes_more g.asks one.ask left ∙ (ap (λ (x : ℕ). nodes g.asks ++ x ∷ left) one.named ∙ g.all);
    cleared = λ j.
        let a = nodes_append j g.asks (one.ask ∷ []) in
        let b : often j (one.ask.node.0 ∷ []) ≡ often j (m ∷ []) = ap (λ (x : ℕ). often j (x ∷ [])) one.named in
        let c = g.cleared j in
        omega arith;
    ended = subst (EndedBy k (g.asks ++ one.ask ∷ [])) (sym e) (ended_more k g.asks states one.ask t g.ended one.ended);
  }

pub room_left : {T : Type 0} (ids : List NodeId) (i : ℕ) → i < length ids → (before after : List T) (t : T) → after ≡ before ++ t ∷ [] → (capacity now : ℕ) → now ≡ capacity
    → length before + length (drop i ids) ≤ capacity → length after + length (drop (i + 1) ids) ≤ now
room_left ids i h before after t e capacity now same fits =
    let a : length after ≡ length (before ++ t ∷ []) = ap length e in
    let b : length (before ++ t ∷ []) ≡ length before + 1 = length-append before (t ∷ []) in
    let c : length (drop i ids) ≡ length (slice_index_or ids i (record { 0 = 0 }) ∷ drop (i + 1) ids) = ap length (drop_more ids i (record { 0 = 0 }) h) in
    omega arith

-- ---- all members

abbrev empty_slot : {C : Type 0} → ℕ → List (ℕ × Option C)
empty_slot d = (d, None) ∷ []

module _ {K T : Type 0} (k : Kind T) (key : K) (table seat : TableId) (old : View K) (node : ℕ) (me : Sat K T) (states : List T)
    (g : Gathers k key table seat old node me [] states) where
  all_named : nodes g.asks ≡ k.siblings node
  all_named = sym (append-nil (nodes g.asks)) ∙ g.all

  pub parent_owed : (p : ℕ) → p ≡ k.up node → 0 < tally lasts p me.0
  unfolding tally
  parent_owed p e =
      let n : often p me.0.lasts ≡ one_if (k.up node == p) + 0 = ap (λ (v : View K). often p v.lasts) g.view in
      let o = one_at (k.up node) p (sym e) in
      omega arith

  pub cleared_each : (i : ℕ) → 0 < often i (k.siblings node) → 0 < tally clears i me.0
  unfolding tally
  cleared_each i h =
      let n : often i me.0.clears ≡ often i g.clears = ap (λ (v : View K). often i v.clears) g.view in
      let c = g.cleared i in
      let a : often i (nodes g.asks) ≡ often i (k.siblings node) = ap (often i) all_named in
      omega arith

  pub own_cleared : 0 < tally clears node me.0
  own_cleared = cleared_each node g.grouped.own

  module _ (lawful : Lawful k) (p : ℕ) (parent : p ≡ k.up node) (new : Sat K T) (cell : Cell K T) (r : Resumed k key me p new cell None) where
    -- the group of the parent is the siblings: a member of it is named, and so is one of them
    same_group : k.siblings node ≡ k.group cell.state
    same_group =
        let m = first_of (k.group cell.state) (lawful.length r.ask cell.state r.waits) in
        let member = lawful.group r.ask cell.state r.waits m.0 m.1 in
        let asked : (find m.0 g.asks).node.0 ≡ m.0 = ap (λ (v : View K). (find m.0 v.named).node.0) (sym g.view)
        ∙ (ap (λ (x : Ask). x.node.0) (r.asks m.0 m.1) ∙ lawful.asks r.ask cell.state r.waits m.0 m.1) in
        some_or_none (often m.0 (nodes g.asks))
        (λ z. absurd (let f = not_found m.0 g.asks z in let a = member.above in omega arith))
        (λ there. sym (g.grouped.each m.0 (subst (λ (l : List ℕ). 0 < often m.0 l) all_named there)).same ∙ member.same)

    all_group : nodes g.asks ≡ k.group cell.state
    all_group = all_named ∙ same_group

    once_each : (i : ℕ) → often i (k.group cell.state) ≤ 1
    once_each i = some_or_none (often i (k.group cell.state)) (λ z. omega arith)
        (λ there. let o = (lawful.group r.ask cell.state r.waits i there).once in omega arith)

    pub has_room : length cell.list.items + length states ≤ vec_capacity cell.list
    has_room =
        let a = ended_length k g.asks states g.ended in
        let b = length_nodes g.asks in
        let c : length (nodes g.asks) ≡ length (k.group cell.state) = ap length all_group in
        let d = r.list.room in
        let e : length cell.list.items ≡ 0 = ap length r.list.bare in
        omega arith

    each_ended : EndedEach k cell.state (k.group cell.state) states
    each_ended = subst (λ (l : List ℕ). EndedEach k cell.state l states) all_group
        (ended_each k cell.state g.asks states g.ended
        (λ i h. ap (λ (v : View K). find i v.named) (sym g.view) ∙ r.asks i (subst (λ (l : List ℕ). 0 < often i l) all_group h))
        (λ i. subst (λ (l : List ℕ). often i l ≤ 1) (sym all_group) (once_each i)))

    -- a part of the view, as it was before the parent was taken
    part : {A : Type 0} (f : View K → A) → f new.0 ≡ f (resuming (gathering k old node [] g.asks g.clears) p r.ask (k.group cell.state))
    part f = ap (λ (m : Sat K T). f m.0) r.now ∙ ap (λ (v : View K). f (resuming v p r.ask (k.group cell.state))) g.view

    parent_in_hand : (now : TableId) → IsAt k key table now new.0 → Has k key table now new (Some cell.ticket) (r.ask ∷ []) []
    parent_in_hand now at = record {
      at = at;
      slots = ap (λ (m : Sat K T). m.1) r.now
          ∙ (ap (λ (l : List (ℕ × Option (Cell K T))). (p, None) ∷ l) g.slots ∙ ap empty_slot (sym r.node));
      holds = part (λ v. v.holds);
      rights = part (λ v. v.rights);
      named = part (λ v. v.named) ∙ asks_out_same (k.group cell.state) g.asks all_group;
      settled = record {
        turns = part (λ v. v.turns);
        lasts = part (λ v. v.lasts) ∙ (ap (λ (x : ℕ). one_out x (k.up node ∷ [])) parent ∙ out_first (k.up node) []);
        owes = part (λ v. v.owes);
        takes = part (λ v. v.takes);
        clears = part (λ v. v.clears) ∙ all_out_same (k.group cell.state) g.clears (λ e. g.cleared e ∙ ap (often e) all_group);
      };
      ticket = record {
        views = r.ticket.views ∙ ap (λ (t : List ℕ). naming (Some key) t r.ask ∷ []) g.at.named;
        same = same_table cell.ticket.table_id table (r.ticket.table ∙ g.at.named);
      };
    }

    pub goes_on : (now : TableId) (before : Sat K T) → before.0 ≡ old → 0 < node → IsAt k key table now new.0 → (members : List T) → members ≡ cell.list.items ++ states
        → ArrivedLast k key table now before new (Some cell.ticket) node cell.state members
    goes_on now before is above at members e = record {
      member = above;
      met = (old.met, part (λ v. v.met), ap (λ (v : View K). v.met) is);
      ask = r.ask;
      named = r.node ∙ parent;
      waits = r.waits;
      has = parent_in_hand now at;
      ended = subst (EndedEach k cell.state (k.group cell.state)) (sym (e ∙ ap (λ (l : List T). l ++ states) r.list.bare)) each_ended;
    }
