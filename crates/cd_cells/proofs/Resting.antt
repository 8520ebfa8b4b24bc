-- A domain rests at a group: its members may be posted.
use Rattle.std.proofs.Common.{◌≡◌, ◌≢◌, ℕ, ◌+◌, ◌*◌, ◌<◌, ◌≤◌, List, [], ◌∷◌, map, length, get_or, set, Option, None, Some, vec_capacity, sym, refl, ap, subst, ◌∙◌, arith, ⊎_elim, length-set, get_or-set_same, get_or-set_other}
use Rattle.std.proofs.lemmas.Bool.{cases_eq}
use mathlib.Core.Option.{Option as Maybe, some, none}
use lib.ListN.{get_elem?}
use Rattle.atomic_table.specs.Table.{State, rest, put_back, step, stepped, gives, Allows}
use Rattle.atomic_table.proofs.Lists.{set_here, set_else}
use Rattle.atomic_table.specs.Seated.{TableId}
use Rattle.cd_cells.specs.Asks.{Ask}
use Rattle.cd_cells.specs.declared.view.View.{View}
use Rattle.cd_cells.specs.declared.view.Cell.{Cell}
use Rattle.cd_cells.specs.Places.{Where, Sort, Content, phase, mark, ahead, rests, ends, side, content}
use Rattle.cd_cells.specs.Places.Where.{idle, due, out, waiting}
use Rattle.cd_cells.specs.Places.Sort.{rights, turns, holds, names}
use Rattle.cd_cells.specs.Places.Content.{nothing, away, fresh, waits, ended}
use Rattle.cd_cells.specs.Listing.{often, weigh, nodes, one_out, find, ask_out}
use Rattle.cd_cells.specs.Kinds.{Kind, IsMember}
use Rattle.cd_cells.specs.Views.{name_of, tally}
use Rattle.cd_cells.specs.Rule.{count_at, root_at, stop_of, Counts, Groups, Rooted, Fine, Ticketed, IsSpareList, Slot, Keeps, Waiting, Has, Homes, Ordered}
use Rattle.cd_cells.specs.Steps.{Sat, homing, resting, Rests}
use Rattle.cd_cells.proofs.Listed.{often_append, often_one_less, often_out_else, nodes_append, nodes_out, nodes_map, knows_find, knows_out, knows_append, knows_map, knows_else, weigh_same, weigh_all}
use Rattle.cd_cells.proofs.Sums.{put, put_here, put_else, spread, spread_in, spread_out, some_or_none, fan, fan_here, fan_each}
use Rattle.cd_cells.proofs.Placed.{in_out, in_idle}
use Rattle.cd_cells.proofs.Framing.{within_mark, counts_kept, phases_stay, fine_set}
use Rattle.cd_cells.proofs.Moving.{total_same}
use Rattle.cd_cells.proofs.Sending.{table_is, of_key}

-- ---- where what is wanted of other domains changes

module _ {K T : Type 0} (k : Kind T) (want now : ℕ → Ask) (table : List ℕ) where
  module _ (v : View K) (f : Fine k want table v) (named : (e : ℕ) → 0 < tally names e v → now e ≡ want e)
      (turned : (e : ℕ) → 0 < tally turns e v → now e ≡ want e) (held : (e : ℕ) → 0 < tally holds e v → now e ≡ want e) where
    pub fine_now : Fine k now table v
    unfolding tally
    fine_now = record {
      table = f.table;
      named = knows_else want now v.named f.named named;
      turned = knows_else want now v.turns f.turned turned;
      held = knows_else want now v.holds f.held held;
      names = f.names;
      last = f.last;
    }

  pub has_now : (key : K) (d : ℕ) (g : List ℕ) (c : Content) (h : Slot K T) → Has k key table want d g c h → now d ≡ want d
      → ((m : ℕ) → 0 < often m g → now m ≡ want m) → Has k key table now d g c h
  has_now key d g nothing h is e other = is
  has_now key d g away h is e other = is
  has_now key d g fresh h is e other = subst (λ (a : Ask). Keeps key table a k.Ready h) (sym e) is
  has_now key d g ended h is e other = subst (λ (a : Ask). Keeps key table a k.Ended h) (sym e) is
  has_now key d g waits h is e other = record {
    cell = is.cell;
    home = is.home;
    answers = subst (λ (a : Ask). k.Waits a is.cell.state) (sym e) is.answers;
    ticket = subst (λ (a : Ask). Ticketed key table a is.cell) (sym e) is.ticket;
    group = is.group;
    asks = λ m l. other m l ∙ is.asks m l;
    list = is.list;
  }

-- ---- what the pass lists after it

module _ {K T : Type 0} (k : Kind T) (v : View K) (d : ℕ) (t : T) (node : (m : ℕ) → 0 < often m (k.group t) → (k.asks t m).node.0 ≡ m) where
  rest_names : (e : ℕ) → tally names e (resting k v d t) ≡ often e (k.group t) + tally names e v
  unfolding tally
  rest_names e = nodes_append e (map (k.asks t) (k.group t)) v.named ∙ ap (λ (l : List ℕ). often e l + often e (nodes v.named)) (nodes_map (k.asks t) (k.group t) node)

  rest_off : (x : Sort) (e : ℕ) → e ≢ d → often e (k.group t) ≡ 0 → tally x e (resting k v d t) ≡ tally x e v
  unfolding tally
  rest_off rights e ne z = let a = often_append e (k.group t) v.rights in omega arith
  rest_off names e ne z = let a : often e (nodes (resting k v d t).named) ≡ often e (k.group t) + often e (nodes v.named) = rest_names e in omega arith
  rest_off holds e ne z = ap (often e) (nodes_out d v.holds) ∙ often_out_else e d (nodes v.holds) ne
  rest_off _ e ne z = refl

  rest_on : (x : Sort) (n : ℕ) → often d (k.group t) ≡ 0 → 0 < tally holds d v → tally x d (resting k v d t) + mark x out n ≡ tally x d v + mark x waiting n
  unfolding tally
  rest_on rights n z h = let a = often_append d (k.group t) v.rights in omega arith
  rest_on names n z h = let a : often d (nodes (resting k v d t).named) ≡ often d (k.group t) + often d (nodes v.named) = rest_names d in omega arith
  rest_on holds n z h =
      let a : often d (nodes (ask_out d v.holds)) ≡ often d (one_out d (nodes v.holds)) = ap (often d) (nodes_out d v.holds) in
      let o = often_one_less d (nodes v.holds) h in
      omega arith
  rest_on _ n z h = refl

  rest_in : (x : Sort) (e n : ℕ) → e ≢ d → often e (k.group t) ≡ 1 → tally x e (resting k v d t) + mark x idle n ≡ tally x e v + mark x due n
  unfolding tally
  rest_in rights e n ne z = let a = often_append e (k.group t) v.rights in omega arith
  rest_in names e n ne z = let a : often e (nodes (resting k v d t).named) ≡ often e (k.group t) + often e (nodes v.named) = rest_names e in omega arith
  rest_in holds e n ne z = ap (λ (m : ℕ). m + 0) (ap (often e) (nodes_out d v.holds) ∙ often_out_else e d (nodes v.holds) ne)
  rest_in _ e n ne z = refl

  rest_fine : (want : ℕ → Ask) (table : List ℕ) → Fine k want table v → ((m : ℕ) → 0 < often m (k.group t) → want m ≡ k.asks t m) → Fine k want table (resting k v d t)
  unfolding tally
  rest_fine want table f asked = record {
    table = f.table;
    named = knows_append want (map (k.asks t) (k.group t)) v.named (knows_map want (k.asks t) (k.group t) node asked) f.named;
    turned = f.turned;
    held = knows_out want d v.holds f.held;
    names = λ e l.
        let a = often_append e (k.group t) v.rights in
        let b : often e (nodes (resting k v d t).named) ≡ often e (k.group t) + often e (nodes v.named) = rest_names e in
        let c : often e v.rights + often e v.clears ≤ often e (nodes v.named) = f.names e l in
        omega arith;
    last = f.last;
  }

-- ---- the step

module _ {K T : Type 0} (k : Kind T) (key : K) (s : State (Option (Cell K T)) (View K)) (r : Ordered k key s) (id : ℕ) (v : View K)
    (at : get_elem? s.views id ≡ some v) (d : ℕ) (h : d < k.count) (is : r.place d ≡ out) (c : Cell K T) (stands : k.Waits (r.want d) c.state) where
  abbrev g : List ℕ
  g = k.group c.state

  members : (m : ℕ) → 0 < often m g → IsMember k d g m
  members m l = subst (λ (p : ℕ). IsMember k p g m) (r.homes d h).1 (r.lawful.group (r.want d) c.state stands m l)

  bare : r.group d ≡ []
  bare = r.groups.none d h (ap rests is)

  -- whoever is sent is a member of another group
  not_here : (m : ℕ) → 0 < m → m < k.count → 0 < side (r.place m) → k.up m ≢ d
  not_here m above below sent e =
      let a : 0 < often m (r.group (k.up m)) = r.groups.grouped m above below sent in
      let b : often m (r.group (k.up m)) ≡ 0 = ap (λ (p : ℕ). often m (r.group p)) e ∙ ap (often m) bare in
      omega arith

  idle_before : (m : ℕ) → 0 < often m g → r.place m ≡ idle
  idle_before m l =
      let i = members m l in
      some_or_none (side (r.place m)) (in_idle (r.place m)) (λ sent. absurd (not_here m i.above i.below sent i.parent))

  not_self : often d g ≡ 0
  not_self = some_or_none (often d g) (λ z. z) (λ l. absurd (let a : out ≡ idle = sym is ∙ idle_before d l in let b : 1 ≡ 0 = ap side a in omega arith))

  abbrev place' : ℕ → Where
  place' = fan r.place g due d waiting

  abbrev group' : ℕ → List ℕ
  group' = put r.group d g

  abbrev want' : ℕ → Ask
  want' = spread r.want g (k.asks c.state)

  -- three cases: the domain, its members, the others
  each : (P : ℕ → Where → Type 0) → P d waiting → ((e : ℕ) → e ≢ d → 0 < often e g → P e due) → ((e : ℕ) → e ≢ d → often e g ≡ 0 → P e (r.place e)) → (e : ℕ) → P e (place' e)
  each = fan_each r.place g due d waiting

  group_else : (p : ℕ) → p ≢ d → group' p ≡ r.group p
  group_else p ne = put_else r.group d g p ne

  group_here : group' d ≡ g
  group_here = put_here r.group d g

  -- a domain that is sent keeps what is wanted of it
  want_sent : (e : ℕ) → 0 < side (r.place e) → want' e ≡ r.want e
  want_sent e sent = spread_out r.want g (k.asks c.state) e (some_or_none (often e g) (λ z. z)
      (λ l. absurd (let z : side (r.place e) ≡ 0 = ap side (idle_before e l) in omega arith)))

  in_group : (p : ℕ) → p < k.count → (m : ℕ) → 0 < often m (r.group p) → 0 < side (r.place m)
  in_group p l m i = let a : side (r.place m) ≡ 1 + ends (r.place p) = r.groups.sides p l m i in omega arith

  -- a domain that is sent has the same numbers for its group
  same_as : (f : Where → ℕ) → f waiting ≡ f out → (e : ℕ) → 0 < side (r.place e) → f (place' e) ≡ f (r.place e)
  same_as f q = each (λ e x. 0 < side (r.place e) → f x ≡ f (r.place e))
      (λ _. q ∙ ap f (sym is))
      (λ e ne l sent. absurd (let z : side (r.place e) ≡ 0 = ap side (idle_before e l) in omega arith))
      (λ e ne z sent. refl)

  always_as : (f : Where → ℕ) → f waiting ≡ f out → f due ≡ f idle → (e : ℕ) → f (place' e) ≡ f (r.place e)
  always_as f q u = each (λ e x. f x ≡ f (r.place e)) (q ∙ ap f (sym is)) (λ e ne l. u ∙ ap f (sym (idle_before e l))) (λ e ne z. refl)

  resting_groups : (words : List ℕ) → get_or words (count_at d) 0 ≡ length g → ((p : ℕ) → p ≢ d → get_or words (count_at p) 0 ≡ get_or s.words (count_at p) 0)
      → Groups k place' group' words
  resting_groups words here other = record {
    word = λ p l rest. ⊎_elim
        (λ (q : p ≡ d). subst (λ (x : ℕ). get_or words (count_at x) 0 ≡ weigh (λ m. ahead (place' m)) (group' x)) (sym q)
        (here ∙ (sym (weigh_all (λ m. ahead (place' m)) g (λ m i. due_ahead m i)) ∙ ap (weigh (λ m. ahead (place' m))) (sym group_here))))
        (λ ne. other p ne ∙ (r.groups.word p l (sym (always_rests p ne) ∙ rest)
        ∙ (weigh_same (λ m. ahead (r.place m)) (λ m. ahead (place' m)) (r.group p) (λ m i. sym (same_as ahead refl m (in_group p l m i)))
        ∙ ap (weigh (λ m. ahead (place' m))) (sym (group_else p ne)))))
        (cases_eq p d);
    above = λ p l waits. ⊎_elim
        (λ (q : p ≡ d). subst (λ (x : ℕ). 0 < get_or words (count_at x) 0) (sym q) (subst (λ (n : ℕ). 0 < n) (sym here) (r.lawful.length (r.want d) c.state stands)))
        (λ ne. subst (λ (n : ℕ). 0 < n) (sym (other p ne)) (r.groups.above p l (waiting_before p ne waits)))
        (cases_eq p d);
    member = λ p l m i. ⊎_elim
        (λ (q : p ≡ d). subst (λ (x : ℕ). IsMember k x (group' x) m) (sym q)
        (subst (λ (y : List ℕ). IsMember k d y m) (sym group_here) (members m (subst (λ (y : List ℕ). 0 < often m y) (ap group' q ∙ group_here) i))))
        (λ ne. subst (λ (y : List ℕ). IsMember k p y m) (sym (group_else p ne)) (r.groups.member p l m (subst (λ (y : List ℕ). 0 < often m y) (group_else p ne) i)))
        (cases_eq p d);
    sides = λ p l m i. ⊎_elim
        (λ (q : p ≡ d). due_side m (subst (λ (y : List ℕ). 0 < often m y) (ap group' q ∙ group_here) i)
        ∙ subst (λ (x : ℕ). 1 ≡ 1 + ends (place' x)) (sym q) (ap (λ (x : Where). 1 + ends x) (sym (fan_here r.place g due d waiting))))
        (λ ne.
        let j : 0 < often m (r.group p) = subst (λ (y : List ℕ). 0 < often m y) (group_else p ne) i in
        same_as side refl m (in_group p l m j) ∙ (r.groups.sides p l m j ∙ ap (λ (x : ℕ). 1 + x) (sym (always_as ends refl refl p))))
        (cases_eq p d);
    grouped = λ m above below sent. some_or_none (often m g)
        (λ z.
        let before : 0 < side (r.place m) = sent_before m z sent in
        subst (λ (y : List ℕ). 0 < often m y) (sym (group_else (k.up m) (not_here m above below before))) (r.groups.grouped m above below before))
        (λ i. subst (λ (y : List ℕ). 0 < often m y) (sym (ap group' (members m i).parent ∙ group_here)) i);
    none = λ p l rest. ⊎_elim
        (λ (q : p ≡ d). absurd (let a : rests (place' p) ≡ 1 = ap (λ (x : ℕ). rests (place' x)) q ∙ ap rests (fan_here r.place g due d waiting) in omega arith))
        (λ ne. group_else p ne ∙ r.groups.none p l (sym (always_rests p ne) ∙ rest))
        (cases_eq p d);
  }
    where
      due_ahead : (m : ℕ) → 0 < often m g → ahead (place' m) ≡ 1
      due_ahead = each (λ m x. 0 < often m g → ahead x ≡ 1) (λ i. refl) (λ m ne l i. refl) (λ m ne z i. absurd (omega arith))

      due_side : (m : ℕ) → 0 < often m g → side (place' m) ≡ 1
      due_side = each (λ m x. 0 < often m g → side x ≡ 1) (λ i. refl) (λ m ne l i. refl) (λ m ne z i. absurd (omega arith))

      always_rests : (p : ℕ) → p ≢ d → rests (place' p) ≡ rests (r.place p)
      always_rests = each (λ p x. p ≢ d → rests x ≡ rests (r.place p)) (λ ne. absurd (ne refl)) (λ p ne l _. ap rests (sym (idle_before p l))) (λ p ne z _. refl)

      waiting_before : (p : ℕ) → p ≢ d → place' p ≡ waiting → r.place p ≡ waiting
      waiting_before = each (λ p x. p ≢ d → x ≡ waiting → r.place p ≡ waiting) (λ ne. absurd (ne refl)) (λ p ne l _ e. absurd (let z : 0 ≡ 1 = ap rests e in omega arith)) (λ p ne z _ e. e)

      sent_before : (m : ℕ) → often m g ≡ 0 → 0 < side (place' m) → 0 < side (r.place m)
      sent_before = each (λ m x. often m g ≡ 0 → 0 < side x → 0 < side (r.place m))
          (λ z l. subst (λ (x : Where). 0 < side x) (sym is) l) (λ m ne l z. absurd (omega arith)) (λ m ne z _ l. l)

  resting_homes : (homes : List (Maybe (Option (Cell K T)))) → get_elem? homes d ≡ some (some (Some c)) → ((e : ℕ) → e ≢ d → get_elem? homes e ≡ get_elem? s.homes e)
      → Ticketed key r.table (r.want d) c → IsSpareList (length g) c.list.items (vec_capacity c.list)
      → Homes k key r.table want' group' place' homes
  resting_homes homes here other ticket list = each (λ e x. e < k.count → Has k key r.table want' e (group' e) (content x) (get_elem? homes e) × ((want' e).node.0 ≡ e))
      (λ l. (
        subst (λ (y : List ℕ). Waiting k key r.table want' d y (get_elem? homes d)) (sym group_here) (record {
          cell = c;
          home = here;
          answers = subst (λ (a : Ask). k.Waits a c.state) (sym same_want) stands;
          ticket = subst (λ (a : Ask). Ticketed key r.table a c) (sym same_want) ticket;
          group = refl;
          asks = λ m i. spread_in r.want g (k.asks c.state) m i;
          list = list;
        }),
        ap (λ (a : Ask). a.node.0) same_want ∙ (r.homes d h).1,
      ))
      (λ e ne i l. (
        other e ne ∙ subst (λ (x : Where). Has k key r.table r.want e (r.group e) (content x) (get_elem? s.homes e)) (idle_before e i) (r.homes e l).0,
        ap (λ (a : Ask). a.node.0) (spread_in r.want g (k.asks c.state) e i) ∙ r.lawful.asks (r.want d) c.state stands e i,
      ))
      (λ e ne z l. (
        subst (λ (y : List ℕ). Has k key r.table want' e y (content (r.place e)) (get_elem? homes e)) (sym (group_else e ne))
            (has_now k r.want want' r.table key e (r.group e) (content (r.place e)) (get_elem? homes e)
            (subst (Has k key r.table r.want e (r.group e) (content (r.place e))) (sym (other e ne)) (r.homes e l).0)
            (spread_out r.want g (k.asks c.state) e z)
            (λ m i. want_sent m (in_group e l m i))),
        ap (λ (a : Ask). a.node.0) (spread_out r.want g (k.asks c.state) e z) ∙ (r.homes e l).1,
      ))
    where
      same_want : want' d ≡ r.want d
      same_want = spread_out r.want g (k.asks c.state) d not_self

  -- a pass that names a domain names one that is sent
  fine_after : (j : ℕ) (u : View K) → get_elem? s.views j ≡ some u → Fine k want' r.table u
  fine_after j u e = fine_now k r.want want' r.table u (r.fine j u e) (unlisted names (λ n. refl)) (unlisted turns (λ n. refl)) (unlisted holds (λ n. refl))
    where
      unlisted : (q : Sort) → ((n : ℕ) → mark q idle n ≡ 0) → (i : ℕ) → 0 < tally q i u → want' i ≡ r.want i
      unlisted q z i l = spread_out r.want g (k.asks c.state) i (some_or_none (often i g) (λ y. y) (λ y. absurd (
          let m : tally q i u ≤ mark q (r.place i) (r.times i) = within_mark k.count r.place r.times s.views r.counts j u e q i (members i y).below in
          let none_there : mark q (r.place i) (r.times i) ≡ 0 = ap (λ (x : Where). mark q x (r.times i)) (idle_before i y) ∙ z (r.times i) in
          omega arith)))

  resting_counts : 0 < tally holds d v → Counts k.count place' r.times (set s.views id (resting k v d c.state))
  resting_counts held = counts_kept k.count r.place r.times s.views r.counts id v at (resting k v d c.state) place' r.times (λ q e l. each
      (λ i x. tally q i (resting k v d c.state) + mark q (r.place i) (r.times i) ≡ tally q i v + mark q x (r.times i))
      (subst (λ (x : Where). tally q d (resting k v d c.state) + mark q x (r.times d) ≡ tally q d v + mark q waiting (r.times d)) (sym is)
      (rest_on k v d c.state node q (r.times d) not_self held))
      (λ i ne m. subst (λ (x : Where). tally q i (resting k v d c.state) + mark q x (r.times i) ≡ tally q i v + mark q due (r.times i)) (sym (idle_before i m))
      (rest_in k v d c.state node q i (r.times i) ne (members i m).once))
      (λ i ne z. ap (λ (n : ℕ). n + mark q (r.place i) (r.times i)) (rest_off k v d c.state node q i ne z))
      e)
    where
      node : (m : ℕ) → 0 < often m (k.group c.state) → (k.asks c.state m).node.0 ≡ m
      node = r.lawful.asks (r.want d) c.state stands

  resting_kept : 0 < tally holds d v → Ticketed key r.table (r.want d) c → IsSpareList (length g) c.list.items (vec_capacity c.list)
      → (cs : List (ℕ × Option (Cell K T))) → cs ≡ (d, Some c) ∷ rest cs
      → Ordered k key (stepped s (count_at d) (length g) id cs (resting k v d c.state) gives)
  resting_kept held ticket list cs e =
      subst (λ (hs : List (Maybe (Option (Cell K T)))). Ordered k key (record { words = set s.words (count_at d) (length g); homes = hs; views = set s.views id (resting k v d c.state) }))
      (sym (ap (put_back s.homes) e))
      (record {
        lawful = r.lawful;
        place = place';
        times = r.times;
        group = group';
        want = want';
        table = r.table;
        words = length-set s.words (count_at d) (length g) ∙ r.words;
        slots = length-set s.homes d (some (Some c)) ∙ r.slots;
        counts = resting_counts held;
        phases = phases_stay s.words k.count r.place place' r.phases (count_at d) (length g) (λ p l q. absurd (omega arith)) (always_as phase refl refl);
        groups = resting_groups (set s.words (count_at d) (length g))
            (get_or-set_same s.words (2 * d + 2) (length g) 0 (let w : length s.words ≡ 2 * k.count + 2 = r.words in omega arith))
            (λ p ne. get_or-set_other s.words (2 * d + 2) (2 * p + 2) (length g) 0 (λ q. ne (omega arith)));
        root = each (λ i x. i ≡ 0 → (t n : ℕ) → Rooted (r.place i) t n → Rooted x t n)
            (λ _. subst (λ (x : Where). (t n : ℕ) → Rooted x t n → Rooted waiting t n) (sym is) (λ t n y. record { word = y.word; never = omega arith; times = y.times }))
            (λ i ne m z. absurd (let a : 0 < i = (members i m).above in omega arith))
            (λ i ne z _ t n y. y) 0 refl (r.times 0) (get_or (set s.words (count_at d) (length g)) (root_at k.count) 0)
            (subst (Rooted (r.place 0) (r.times 0)) (sym (get_or-set_other s.words (2 * d + 2) (2 * k.count + 1) (length g) 0 (λ q. absurd (omega arith)))) r.root);
        asked = spread_out r.want g (k.asks c.state) 0 (some_or_none (often 0 g) (λ z. z) (λ l. absurd (let a : 0 < 0 = (members 0 l).above in omega arith))) ∙ r.asked;
        homes = resting_homes (set s.homes d (some (Some c))) (set_here s.homes d (some (Some c)) (subst (λ (n : ℕ). d < n) (sym r.slots) h))
            (λ i ne. set_else s.homes d i (some (Some c)) ne) ticket list;
        fine = fine_set k want' r.table s.views id (resting k v d c.state) fine_after
            (rest_fine k v d c.state (r.lawful.asks (r.want d) c.state stands) want' r.table (fine_after id v at) (λ m i. spread_in r.want g (k.asks c.state) m i));
        stop = get_or-set_other s.words (2 * d + 2) 0 (length g) 0 (λ q. absurd (omega arith))
            ∙ (r.stop ∙ ap stop_of (sym (total_same (λ u. u.stops) s.views id v (resting k v d c.state) at refl)));
        fresh = total_same (λ u. u.fresh) s.views id v (resting k v d c.state) at refl ∙ r.fresh;
      })

-- what a pass has in hand to go on with is what is wanted of it
pub held_as : {K T : Type 0} (k : Kind T) (want : ℕ → Ask) (table : List ℕ) (v : View K) (d : ℕ) → Fine k want table v → 0 < tally holds d v → want d ≡ find d v.holds
unfolding tally
held_as k want table v d f t = knows_find want d v.holds f.held t

-- the cell in hand is one cell
abbrev first_of : {A : Type 0} → A → List A → A
first_of x [] = x
first_of x (z ∷ zs) = z

abbrev cell_or : {A : Type 0} → A → Option A → A
cell_or b None = b
cell_or b (Some x) = x

pub same_hand : {C A : Type 0} (l : List (ℕ × Option C)) (i j : ℕ) (a b : C) → ◌≡◌ {A = List (ℕ × Option C)} ((i, Some a) ∷ rest l) ((j, Some b) ∷ rest l) → (f : ℕ → C → A) → f i a ≡ f j b
same_hand {C} l i j a b e f = ap (λ (m : List (ℕ × Option C)). f (first_of (i, Some a) m).0 (cell_or a (first_of (i, Some a) m).1)) e

module _ {K T : Type 0} (kind : K → Kind T) (key : K) (slots id : ℕ) (me : Sat K T) where
  pub rest_allows : (d : ℕ) → d < (kind key).count → me.0.key ≡ Some key → (c : Cell K T) → me.1 ≡ (d, Some c) ∷ rest me.1
      → 0 < tally holds d me.0 → (t : TableId) → me.0.table ≡ name_of t
      → (kind key).Waits (find d me.0.holds) c.state → Ticketed key me.0.table (find d me.0.holds) c
      → IsSpareList (length ((kind key).group c.state)) c.list.items (vec_capacity c.list)
      → (n : ℕ) → n ≡ length ((kind key).group c.state)
      → Allows (Ordered (kind key) key) slots id me (count_at d) (λ _. n) (λ _. Rests kind (step slots (count_at d) n 0 none) me n)
  rest_allows d h is_key c in_hand held t known stands ticket list n same s r len at small =
      let m = within_mark (kind key).count r.place r.times s.views r.counts id me.0 at holds d h in
      let is : r.place d ≡ out = in_out (r.place d) (r.times d) (omega arith) in
      let f = r.fine id me.0 at in
      let table : me.0.table ≡ r.table = table_is (kind key) r.want r.table me.0 f t known in
      let ask : find d me.0.holds ≡ r.want d = sym (held_as (kind key) r.want r.table me.0 d f held) in
      let waits_for : (kind key).Waits (r.want d) c.state = subst (λ (a : Ask). (kind key).Waits a c.state) ask stands in (
        resting (kind key) me.0 d c.state,
        gives,
        tt,
        subst (λ (x : ℕ). Ordered (kind key) key (stepped s (count_at d) x id me.1 (resting (kind key) me.0 d c.state) gives)) (sym same)
            (resting_kept (kind key) key s r id me.0 at d h is c waits_for held
            (subst (λ (a : Ask). Ticketed key r.table a c) ask (subst (λ (l : List ℕ). Ticketed key l (find d me.0.holds) c) table ticket))
            list me.1 in_hand),
        of_key key me is_key (λ z. (i : ℕ) (b : Cell K T) → me.1 ≡ (i, Some b) ∷ rest me.1 → homing me (resting (kind key) me.0 d c.state) ≡ homing me (resting (kind z) me.0 i b.state))
            (λ i b e. same_hand me.1 d i c b (sym in_hand ∙ e) (λ j a. homing me (resting (kind key) me.0 j a.state))),
      )
