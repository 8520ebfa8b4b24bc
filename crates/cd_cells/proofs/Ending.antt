-- The last of a group arrives: the pass may take the members, and then the parent.
use Rattle.std.proofs.Common.{◌≡◌, ◌≢◌, ℕ, ◌+◌, ◌-◌, ◌*◌, ◌%◌, ◌^◌, ◌<◌, ◌≤◌, ◌==◌, List, ◌∷◌, length, get_or, set, Option, Some, sym, refl, ap, subst, ◌∙◌, arith, ⊎_elim, length-set, get_or-set_same, get_or-set_other}
use Rattle.std.proofs.lemmas.Bool.{cases_eq}
use mathlib.Core.Option.{Option as Maybe, some, none}
use lib.ListN.{get_elem?}
use Rattle.atomic_table.specs.Table.{State, rest, put_back, step, stepped, gives, Allows}
use Rattle.atomic_table.proofs.Lists.{set_here, set_else}
use Rattle.atomic_table.specs.Seated.{TableId}
use Rattle.cd_cells.specs.Asks.{Ask}
use Rattle.cd_cells.specs.declared.view.Meeting.{Meeting}
use Rattle.cd_cells.specs.declared.view.View.{View}
use Rattle.cd_cells.specs.declared.view.Cell.{Cell}
use Rattle.cd_cells.specs.Places.{Where, Sort, phase, mark, ahead, rests, ends, side, content}
use Rattle.cd_cells.specs.Places.Where.{out, waiting, full, arrived, owed}
use Rattle.cd_cells.specs.Places.Sort.{holds, lasts, owes, posts, claims, arrives}
use Rattle.cd_cells.specs.Listing.{one_if, often, weigh, nodes, one_out, find, ask_out}
use Rattle.cd_cells.specs.Kinds.{Kind, IsMember, IsGrouped}
use Rattle.cd_cells.specs.Views.{name_of, tally}
use Rattle.cd_cells.specs.Rule.{count_at, root_at, stop_of, Counts, Groups, Rooted, Fine, Ticketed, Has, Homes, Ordered}
use Rattle.cd_cells.specs.Steps.{Sat, homing, meeting, arriving, arriving_last, Arrives}
use Rattle.cd_cells.proofs.Listed.{one_at, often_here, often_else, often_append, often_one_less, often_out_else, nodes_out, knows_out, weigh_same, weigh_less, weigh_zero, weigh_none}
use Rattle.cd_cells.proofs.Sums.{put, put_here, put_else, fan, fan_here, fan_each, some_or_none}
use Rattle.cd_cells.proofs.Placed.{in_out, in_arrived}
use Rattle.cd_cells.proofs.Framing.{within_mark, counts_kept, phases_stay, fine_set}
use Rattle.cd_cells.proofs.Moving.{total_same}
use Rattle.cd_cells.proofs.Sending.{table_is, of_key}
use Rattle.cd_cells.proofs.Resting.{held_as, same_hand}
use Rattle.cd_cells.proofs.Arriving.{parent_below, in_parents, parent_waits, parent_counts, some_ahead, member_kept}

-- ---- what the pass lists after it

module _ {K T : Type 0} (k : Kind T) (v : View K) (d : ℕ) where
  abbrev after : View K
  after = meeting (arriving_last k v d) Meeting.Arrival (k.up d) 1

  last_off : (x : Sort) (e : ℕ) → e ≢ d → e ≢ k.up d → often e (k.siblings d) ≡ 0 → tally x e after ≡ tally x e v
  unfolding tally
  last_off holds e ne np z = ap (often e) (nodes_out d v.holds) ∙ often_out_else e d (nodes v.holds) ne
  last_off arrives e ne np z = often_else d e v.arrives ne
  last_off lasts e ne np z = often_else (k.up d) e v.lasts np
  last_off owes e ne np z = let a = often_append e (k.siblings d) v.owes in omega arith
  last_off _ e ne np z = refl

  last_parent : (x : Sort) (t : ℕ) → k.up d ≢ d → often (k.up d) (k.siblings d) ≡ 0 → tally x (k.up d) after + mark x waiting t ≡ tally x (k.up d) v + mark x full t
  unfolding tally
  last_parent holds t ne z = ap (λ (n : ℕ). n + 0) (ap (often (k.up d)) (nodes_out d v.holds) ∙ often_out_else (k.up d) d (nodes v.holds) ne)
  last_parent arrives t ne z = ap (λ (n : ℕ). n + t) (often_else d (k.up d) v.arrives ne)
  last_parent lasts t ne z = let o = often_here (k.up d) v.lasts in omega arith
  last_parent owes t ne z = let a = often_append (k.up d) (k.siblings d) v.owes in omega arith
  last_parent _ t ne z = refl

  last_self : (x : Sort) (t : ℕ) → d ≢ k.up d → often d (k.siblings d) ≡ 1 → 0 < tally holds d v → tally x d after + mark x out t ≡ tally x d v + mark x owed (t + 1)
  unfolding tally
  last_self holds t ne z h =
      let a : often d (nodes (ask_out d v.holds)) ≡ often d (one_out d (nodes v.holds)) = ap (often d) (nodes_out d v.holds) in
      let o = often_one_less d (nodes v.holds) h in
      omega arith
  last_self arrives t ne z h = let o = often_here d v.arrives in omega arith
  last_self lasts t ne z h = ap (λ (n : ℕ). n + 0) (often_else (k.up d) d v.lasts ne)
  last_self owes t ne z h = let a = often_append d (k.siblings d) v.owes in omega arith
  last_self posts t ne z h = omega arith
  last_self claims t ne z h = omega arith
  last_self _ t ne z h = refl

  last_in : (x : Sort) (e t : ℕ) → e ≢ d → e ≢ k.up d → often e (k.siblings d) ≡ 1 → tally x e after + mark x arrived t ≡ tally x e v + mark x owed t
  unfolding tally
  last_in holds e t ne np z = ap (λ (n : ℕ). n + 0) (ap (often e) (nodes_out d v.holds) ∙ often_out_else e d (nodes v.holds) ne)
  last_in arrives e t ne np z = ap (λ (n : ℕ). n + t) (often_else d e v.arrives ne)
  last_in lasts e t ne np z = ap (λ (n : ℕ). n + 0) (often_else (k.up d) e v.lasts np)
  last_in owes e t ne np z = let a = often_append e (k.siblings d) v.owes in omega arith
  last_in _ e t ne np z = refl

  last_fine : (want : ℕ → Ask) (table : List ℕ) → Fine k want table v → ((e : ℕ) → 0 < e → e < k.count → often e (k.siblings d) ≤ one_if (k.up d == k.up e)) → Fine k want table after
  unfolding tally
  last_fine want table f within = record {
    table = f.table;
    named = f.named;
    turned = f.turned;
    held = knows_out want d v.holds f.held;
    names = f.names;
    last = λ e a b.
        let x = often_append e (k.siblings d) v.owes in
        let y : often e (k.siblings d) ≤ one_if (k.up d == k.up e) = within e a b in
        let z : often e v.owes + often e v.takes + often e v.clears ≤ often (k.up e) v.lasts = f.last e a b in
        omega arith;
  }

-- ---- the step

module _ {K T : Type 0} (k : Kind T) (key : K) (s : State (Option (Cell K T)) (View K)) (r : Ordered k key s) (id : ℕ) (v : View K)
    (at : get_elem? s.views id ≡ some v) (d : ℕ) (h : d < k.count) (is : r.place d ≡ out) (above : 0 < d)
    (word : get_or s.words (count_at (k.up d)) 0 ≡ 1) where
  abbrev p : ℕ
  p = k.up d

  abbrev g : List ℕ
  g = r.group p

  below : p < k.count
  below = parent_below k key s r id v at d h is above 1 word

  self_in : 0 < often d g
  self_in = in_parents k key s r id v at d h is above 1 word

  parent_is : r.place p ≡ waiting
  parent_is = parent_waits k key s r id v at d h is above 1 word

  siblings_are : k.siblings d ≡ g
  siblings_are = (r.groups.member p below d self_in).same

  pub last_grouped : IsGrouped k d
  last_grouped = record {
    own = subst (λ (y : List ℕ). 0 < often d y) (sym siblings_are) self_in;
    each = λ m i. subst (λ (y : List ℕ). IsMember k p y m) (sym siblings_are) (r.groups.member p below m (subst (λ (y : List ℕ). 0 < often m y) siblings_are i));
  }

  apart : p ≢ d
  apart e = absurd (let a : waiting ≡ out = sym parent_is ∙ (ap r.place e ∙ is) in let b : 1 ≡ 0 = ap rests a in omega arith)

  none_ahead : (m : ℕ) → 0 < often m g → m ≢ d → ahead (r.place m) ≡ 0
  none_ahead m i ne =
      let f : ℕ → ℕ = λ j. ahead (r.place j) in
      let a : weigh f g ≡ weigh (put f d 0) g + often d g = weigh_less f (put f d 0) d g (λ j nj. sym (put_else f d 0 j nj))
      (let x : ahead (r.place d) ≡ 1 = ap ahead is in let y : put f d 0 d ≡ 0 = put_here f d 0 in omega arith) in
      let b : 1 ≡ weigh f g = parent_counts k key s r id v at d h is above 1 word in
      let c : often d g ≡ 1 = (r.groups.member p below d self_in).once in
      let z : weigh (put f d 0) g ≡ 0 = omega arith in
      sym (put_else f d 0 m ne) ∙ weigh_zero (put f d 0) g z m i

  others_arrived : (m : ℕ) → 0 < often m g → m ≢ d → r.place m ≡ arrived
  others_arrived m i ne = in_arrived (r.place m) (r.groups.sides p below m i ∙ ap (λ (x : Where). 1 + ends x) parent_is) (none_ahead m i ne)

  parent_out : often p g ≡ 0
  parent_out = some_or_none (often p g) (λ z. z) (λ i. absurd (let a : waiting ≡ arrived = sym parent_is ∙ others_arrived p i apart in let b : 1 ≡ 0 = ap rests a in omega arith))

  self_else : (e : ℕ) → often e g ≡ 0 → e ≢ d
  self_else e z q = absurd (let a : often e g ≡ often d g = ap (λ (x : ℕ). often x g) q in let b = self_in in omega arith)

  abbrev place' : ℕ → Where
  place' = fan r.place g owed p full

  abbrev times' : ℕ → ℕ
  times' = put r.times d (r.times d + 1)

  -- of a member: it is the one that arrives, or has arrived
  of_member : (P : Where → Type 0) → P out → P arrived → (e : ℕ) → 0 < often e g → P (r.place e)
  of_member P now before e i = ⊎_elim
      (λ (q : e ≡ d). subst P (sym (ap r.place q ∙ is)) now)
      (λ ne. subst P (sym (others_arrived e i ne)) before)
      (cases_eq e d)

  always_as : (f : Where → ℕ) → f full ≡ f waiting → f owed ≡ f out → f owed ≡ f arrived → (e : ℕ) → f (place' e) ≡ f (r.place e)
  always_as f a b c = fan_each r.place g owed p full (λ e x. f x ≡ f (r.place e)) (a ∙ ap f (sym parent_is))
      (λ e ne i. of_member (λ x. f owed ≡ f x) b c e i) (λ e ne z. refl)

  last_counts : 0 < tally holds d v → Counts k.count place' times' (set s.views id (after k v d))
  last_counts held = counts_kept k.count r.place r.times s.views r.counts id v at (after k v d) place' times' (λ q e l. fan_each r.place g owed p full
      (λ i x. tally q i (after k v d) + mark q (r.place i) (r.times i) ≡ tally q i v + mark q x (times' i))
      (subst (λ (t : ℕ). tally q p (after k v d) + mark q (r.place p) (r.times p) ≡ tally q p v + mark q full t) (sym (put_else r.times d (r.times d + 1) p apart))
      (subst (λ (x : Where). tally q p (after k v d) + mark q x (r.times p) ≡ tally q p v + mark q full (r.times p)) (sym parent_is)
      (last_parent k v d q (r.times p) apart (ap (often p) siblings_are ∙ parent_out))))
      (λ i ne m. ⊎_elim
      (λ (x : i ≡ d). subst (λ (j : ℕ). tally q j (after k v d) + mark q (r.place j) (r.times j) ≡ tally q j v + mark q owed (times' j)) (sym x)
      (subst (λ (t : ℕ). tally q d (after k v d) + mark q (r.place d) (r.times d) ≡ tally q d v + mark q owed t) (sym (put_here r.times d (r.times d + 1)))
      (subst (λ (y : Where). tally q d (after k v d) + mark q y (r.times d) ≡ tally q d v + mark q owed (r.times d + 1)) (sym is)
      (last_self k v d q (r.times d) (λ y. apart (sym y)) (ap (often d) siblings_are ∙ (r.groups.member p below d self_in).once) held))))
      (λ nd. subst (λ (t : ℕ). tally q i (after k v d) + mark q (r.place i) (r.times i) ≡ tally q i v + mark q owed t) (sym (put_else r.times d (r.times d + 1) i nd))
      (subst (λ (y : Where). tally q i (after k v d) + mark q y (r.times i) ≡ tally q i v + mark q owed (r.times i)) (sym (others_arrived i m nd))
      (last_in k v d q i (r.times i) nd ne (ap (often i) siblings_are ∙ (r.groups.member p below i m).once))))
      (cases_eq i d))
      (λ i ne z.
      let nd = self_else i z in
      subst (λ (t : ℕ). tally q i (after k v d) + mark q (r.place i) (r.times i) ≡ tally q i v + mark q (r.place i) t) (sym (put_else r.times d (r.times d + 1) i nd))
      (ap (λ (n : ℕ). n + mark q (r.place i) (r.times i)) (last_off k v d q i nd ne (ap (often i) siblings_are ∙ z))))
      e)

  other_group : (q : ℕ) → q < k.count → q ≢ p → (m : ℕ) → 0 < often m (r.group q) → often m g ≡ 0
  other_group q l ne m i = some_or_none (often m g) (λ z. z) (λ j. absurd (ne (sym (r.groups.member q l m i).parent ∙ (r.groups.member p below m j).parent)))

  same_ahead : (m : ℕ) → often m g ≡ 0 → ahead (place' m) ≡ ahead (r.place m)
  same_ahead = fan_each r.place g owed p full (λ m x. often m g ≡ 0 → ahead x ≡ ahead (r.place m))
      (λ z. ap ahead (sym parent_is)) (λ m ne i z. absurd (omega arith)) (λ m ne z _. refl)

  same_side : (m : ℕ) → often m g ≡ 0 → side (place' m) ≡ side (r.place m)
  same_side = fan_each r.place g owed p full (λ m x. often m g ≡ 0 → side x ≡ side (r.place m))
      (λ z. ap side (sym parent_is)) (λ m ne i z. absurd (omega arith)) (λ m ne z _. refl)

  same_ends : (q : ℕ) → q ≢ p → ends (place' q) ≡ ends (r.place q)
  same_ends = fan_each r.place g owed p full (λ q x. q ≢ p → ends x ≡ ends (r.place q))
      (λ ne. absurd (ne refl)) (λ q ne i _. of_member (λ x. 0 ≡ ends x) refl refl q i) (λ q ne z _. refl)

  member_owed : (m : ℕ) → 0 < often m g → place' m ≡ owed
  member_owed = fan_each r.place g owed p full (λ m x. 0 < often m g → x ≡ owed) (λ i. absurd (let z = parent_out in omega arith)) (λ m ne i _. refl) (λ m ne z i. absurd (omega arith))

  waiting_before : (q : ℕ) → place' q ≡ waiting → (q ≢ p) × (r.place q ≡ waiting)
  waiting_before = fan_each r.place g owed p full (λ q x. x ≡ waiting → (q ≢ p) × (r.place q ≡ waiting))
      (λ e. absurd (let z : 1 ≡ 0 = ap ends e in omega arith)) (λ q ne i e. absurd (let z : 0 ≡ 1 = ap rests e in omega arith)) (λ q ne z e. (ne, e))

  sent_before : (m : ℕ) → 0 < side (place' m) → 0 < side (r.place m)
  sent_before = fan_each r.place g owed p full (λ m x. 0 < side x → 0 < side (r.place m))
      (λ l. subst (λ (x : Where). 0 < side x) (sym parent_is) (omega arith)) (λ m ne i l. of_member (λ x. 0 < side x) (omega arith) (omega arith) m i) (λ m ne z l. l)

  last_groups : Groups k place' r.group (set s.words (count_at p) 0)
  last_groups = record {
    word = λ q l rest. ⊎_elim
        (λ (e : q ≡ p). subst (λ (x : ℕ). get_or (set s.words (count_at p) 0) (count_at x) 0 ≡ weigh (λ m. ahead (place' m)) (r.group x)) (sym e)
        (here ∙ sym (weigh_none (λ m. ahead (place' m)) g (λ m i. ap ahead (member_owed m i)))))
        (λ ne. there q ne ∙ (r.groups.word q l (sym (always_as rests refl refl refl q) ∙ rest)
        ∙ weigh_same (λ m. ahead (r.place m)) (λ m. ahead (place' m)) (r.group q) (λ m i. sym (same_ahead m (other_group q l ne m i)))))
        (cases_eq q p);
    above = λ q l waits. let b = waiting_before q waits in subst (λ (x : ℕ). 0 < x) (sym (there q b.0)) (r.groups.above q l b.1);
    member = r.groups.member;
    sides = λ q l m i. ⊎_elim
        (λ (e : q ≡ p).
        let j : 0 < often m g = subst (λ (x : ℕ). 0 < often m (r.group x)) e i in
        ap side (member_owed m j) ∙ sym (ap (λ (x : ℕ). 1 + ends (place' x)) e ∙ ap (λ (x : Where). 1 + ends x) (fan_here r.place g owed p full)))
        (λ ne. same_side m (other_group q l ne m i) ∙ (r.groups.sides q l m i ∙ ap (λ (x : ℕ). 1 + x) (sym (same_ends q ne))))
        (cases_eq q p);
    grouped = λ m a b sent. r.groups.grouped m a b (sent_before m sent);
    none = λ q l rest. r.groups.none q l (sym (always_as rests refl refl refl q) ∙ rest);
  }
    where
      here : get_or (set s.words (count_at p) 0) (count_at p) 0 ≡ 0
      here = get_or-set_same s.words (2 * p + 2) 0 0 (let w : length s.words ≡ 2 * k.count + 2 = r.words in let b = below in omega arith)

      there : (q : ℕ) → q ≢ p → get_or (set s.words (count_at p) 0) (count_at q) 0 ≡ get_or s.words (count_at q) 0
      there q ne = get_or-set_other s.words (2 * p + 2) (2 * q + 2) 0 0 (λ e. ne (omega arith))

  last_root : Rooted (place' 0) (times' 0) (get_or (set s.words (count_at p) 0) (root_at k.count) 0)
  last_root =
      let not_self : 0 ≢ d = (λ q. absurd (omega arith)) in
      subst (Rooted (place' 0) (times' 0)) (sym (get_or-set_other s.words (2 * p + 2) (2 * k.count + 1) 0 0 (λ q. absurd (omega arith))))
      (subst (λ (t : ℕ). Rooted (place' 0) t (get_or s.words (root_at k.count) 0)) (sym (put_else r.times d (r.times d + 1) 0 not_self))
      (fan_each r.place g owed p full (λ i x. i ≡ 0 → (t n : ℕ) → Rooted (r.place i) t n → Rooted x t n)
      (λ _. subst (λ (x : Where). (t n : ℕ) → Rooted x t n → Rooted full t n) (sym parent_is) (λ t n y. record { word = y.word; never = omega arith; times = y.times }))
      (λ i ne m z. absurd (let a : 0 < i = (r.groups.member p below i m).above in omega arith))
      (λ i ne z _ t n y. y) 0 refl (r.times 0) (get_or s.words (root_at k.count) 0) r.root))

  last_homes : (homes : List (Maybe (Option (Cell K T)))) (c : Cell K T) → get_elem? homes d ≡ some (some (Some c)) → ((e : ℕ) → e ≢ d → get_elem? homes e ≡ get_elem? s.homes e)
      → k.Ended (r.want d) c.state → Ticketed key r.table (r.want d) c → Homes k key r.table r.want r.group place' homes
  last_homes homes c here other stands ticket = fan_each r.place g owed p full
      (λ e x. e < k.count → Has k key r.table r.want e (r.group e) (content x) (get_elem? homes e) × ((r.want e).node.0 ≡ e))
      (λ l. (
        subst (Has k key r.table r.want p (r.group p) (content full)) (sym (other p apart))
            (subst (λ (x : Where). Has k key r.table r.want p (r.group p) (content x) (get_elem? s.homes p)) parent_is (r.homes p l).0),
        (r.homes p l).1,
      ))
      (λ e ne i l. ⊎_elim
      (λ (q : e ≡ d). (
        subst (λ (y : ℕ). Has k key r.table r.want y (r.group y) (content owed) (get_elem? homes y)) (sym q) (record { cell = c; home = here; answers = stands; ticket = ticket }),
        (r.homes e l).1,
      ))
      (λ nd. (
        subst (Has k key r.table r.want e (r.group e) (content owed)) (sym (other e nd))
            (subst (λ (x : Where). Has k key r.table r.want e (r.group e) (content x) (get_elem? s.homes e)) (others_arrived e i nd) (r.homes e l).0),
        (r.homes e l).1,
      ))
      (cases_eq e d))
      (λ e ne z l. (subst (Has k key r.table r.want e (r.group e) (content (r.place e))) (sym (other e (self_else e z))) (r.homes e l).0, (r.homes e l).1))

  pub last_kept : 0 < tally holds d v → (c : Cell K T) → k.Ended (r.want d) c.state → Ticketed key r.table (r.want d) c
      → (cs : List (ℕ × Option (Cell K T))) → cs ≡ (d, Some c) ∷ rest cs
      → Ordered k key (stepped s (count_at p) 0 id cs (after k v d) gives)
  last_kept held c stands ticket cs e =
      subst (λ (hs : List (Maybe (Option (Cell K T)))). Ordered k key (record { words = set s.words (count_at p) 0; homes = hs; views = set s.views id (after k v d) }))
      (sym (ap (put_back s.homes) e))
      (record {
        lawful = r.lawful;
        place = place';
        times = times';
        group = r.group;
        want = r.want;
        table = r.table;
        words = length-set s.words (count_at p) 0 ∙ r.words;
        slots = length-set s.homes d (some (Some c)) ∙ r.slots;
        counts = last_counts held;
        phases = phases_stay s.words k.count r.place place' r.phases (count_at p) 0 (λ i l q. absurd (omega arith)) (always_as phase refl refl refl);
        groups = last_groups;
        root = last_root;
        asked = r.asked;
        homes = last_homes (set s.homes d (some (Some c))) c (set_here s.homes d (some (Some c)) (subst (λ (n : ℕ). d < n) (sym r.slots) h))
            (λ i ne. set_else s.homes d i (some (Some c)) ne) stands ticket;
        fine = fine_set k r.want r.table s.views id (after k v d) r.fine (last_fine k v d r.want r.table (r.fine id v at) (λ i a b. some_or_none (often i g)
            (λ z. let x : often i (k.siblings d) ≡ 0 = ap (often i) siblings_are ∙ z in omega arith)
            (λ m.
            let x : often i (k.siblings d) ≡ 1 = ap (often i) siblings_are ∙ (r.groups.member p below i m).once in
            let y : one_if (k.up d == k.up i) ≡ 1 = one_at (k.up d) (k.up i) (sym (r.groups.member p below i m).parent) in
            omega arith)));
        stop = get_or-set_other s.words (2 * p + 2) 0 0 0 (λ q. absurd (omega arith)) ∙ (r.stop ∙ ap stop_of (sym (total_same (λ u. u.stops) s.views id v (after k v d) at refl)));
        fresh = total_same (λ u. u.fresh) s.views id v (after k v d) at refl ∙ r.fresh;
      })

less_one : (n : ℕ) → 0 < n → n < 18446744073709551616 → n - 1 ≡ (n + (2 ^ 64 - 1)) % 2 ^ 64
less_one n some_there small = omega arith

module _ {K T : Type 0} (kind : K → Kind T) (key : K) (slots id : ℕ) (me : Sat K T) where
  pub arrive_allows : (d : ℕ) → 0 < d → d < (kind key).count → me.0.key ≡ Some key → (c : Cell K T) → me.1 ≡ (d, Some c) ∷ rest me.1
      → 0 < tally holds d me.0 → (t : TableId) → me.0.table ≡ name_of t
      → (kind key).Ended (find d me.0.holds) c.state → Ticketed key me.0.table (find d me.0.holds) c
      → Allows (Ordered (kind key) key) slots id me (count_at ((kind key).up d)) (λ n. (n + (2 ^ 64 - 1)) % 2 ^ 64)
      (Arrives kind (step slots (count_at ((kind key).up d)) 1 0 none) me)
  arrive_allows d above h is_key c in_hand held t known stands ticket s r len at small =
      let k : Kind T = kind key in
      let m = within_mark k.count r.place r.times s.views r.counts id me.0 at holds d h in
      let is : r.place d ≡ out = in_out (r.place d) (r.times d) (omega arith) in
      let table : me.0.table ≡ r.table = table_is k r.want r.table me.0 (r.fine id me.0 at) t known in
      let ask : find d me.0.holds ≡ r.want d = sym (held_as k r.want r.table me.0 d (r.fine id me.0 at) held) in
      let has_ended : k.Ended (r.want d) c.state = subst (λ (a : Ask). k.Ended a c.state) ask stands in
      let ticketed : Ticketed key r.table (r.want d) c = subst (λ (a : Ask). Ticketed key r.table a c) ask (subst (λ (l : List ℕ). Ticketed key l (find d me.0.holds) c) table ticket) in
      let p : ℕ = k.up d in
      let n : ℕ = get_or s.words (count_at p) 0 in
      ⊎_elim
      (λ (e : n ≡ 1).
      let w : View K = meeting (arriving_last k me.0 d) Meeting.Arrival p 1 in (
        w,
        gives,
        tt,
        subst (λ (x : ℕ). Ordered k key (stepped s (count_at p) ((x + (2 ^ 64 - 1)) % 2 ^ 64) id me.1 w gives)) (sym e)
            (last_kept k key s r id me.0 at d h is above e held c has_ended ticketed me.1 in_hand),
        of_key key me is_key (λ z. (i : ℕ) (b : Cell K T) → me.1 ≡ (i, Some b) ∷ rest me.1
            → (n ≡ 1 → homing me w ≡ homing me (meeting (arriving_last (kind z) me.0 i) Meeting.Arrival ((kind z).up i) 1))
            × (n ≢ 1 → homing me w ≡ homing me (meeting (arriving me.0 i) Meeting.Arrival ((kind z).up i) n))
            × (n ≡ 1 → IsGrouped (kind z) i))
            (λ i b q. (
              (λ _. same_hand me.1 d i c b (sym in_hand ∙ q) (λ j a. homing me (meeting (arriving_last k me.0 j) Meeting.Arrival (k.up j) 1))),
              (λ ne. absurd (ne e)),
              λ _. subst (IsGrouped k) (same_hand me.1 d i c b (sym in_hand ∙ q) (λ j a. j)) (last_grouped k key s r id me.0 at d h is above e),
            )),
      ))
      (λ ne.
      let w : View K = meeting (arriving me.0 d) Meeting.Arrival p n in
      let more : 0 < n = some_ahead k key s r id me.0 at d h is above n refl in (
        w,
        gives,
        tt,
        subst (λ (x : ℕ). Ordered k key (stepped s (count_at p) x id me.1 w gives)) (less_one n more small)
            (member_kept k key s r id me.0 at d h is above n refl (omega arith) held c has_ended ticketed me.1 in_hand),
        of_key key me is_key (λ z. (i : ℕ) (b : Cell K T) → me.1 ≡ (i, Some b) ∷ rest me.1
            → (n ≡ 1 → homing me w ≡ homing me (meeting (arriving_last (kind z) me.0 i) Meeting.Arrival ((kind z).up i) 1))
            × (n ≢ 1 → homing me w ≡ homing me (meeting (arriving me.0 i) Meeting.Arrival ((kind z).up i) n))
            × (n ≡ 1 → IsGrouped (kind z) i))
            (λ i b q. (
              (λ e. absurd (ne e)),
              (λ _. same_hand me.1 d i c b (sym in_hand ∙ q) (λ j a. homing me (meeting (arriving me.0 j) Meeting.Arrival (k.up j) n))),
              λ e. absurd (ne e),
            )),
      ))
      (cases_eq n 1)

  -- the parent by its number
  pub arrive_allows_at : (p : ℕ) (d : ℕ) → p ≡ (kind key).up d → 0 < d → d < (kind key).count → me.0.key ≡ Some key → (c : Cell K T) → me.1 ≡ (d, Some c) ∷ rest me.1
      → 0 < tally holds d me.0 → (t : TableId) → me.0.table ≡ name_of t
      → (kind key).Ended (find d me.0.holds) c.state → Ticketed key me.0.table (find d me.0.holds) c
      → Allows (Ordered (kind key) key) slots id me (count_at p) (λ n. (n + (2 ^ 64 - 1)) % 2 ^ 64) (Arrives kind (step slots (count_at p) 1 0 none) me)
  arrive_allows_at p d e above h is_key c in_hand held t known stands ticket =
      subst (λ (x : ℕ). Allows (Ordered (kind key) key) slots id me (count_at x) (λ n. (n + (2 ^ 64 - 1)) % 2 ^ 64) (Arrives kind (step slots (count_at x) 1 0 none) me))
      (sym e) (arrive_allows d above h is_key c in_hand held t known stands ticket)
