-- A domain arrives, not as the last of its group: the root, or a member.
use Rattle.std.proofs.Common.{◌≡◌, ◌≢◌, ℕ, ◌+◌, ◌-◌, ◌*◌, ◌%◌, ◌^◌, ◌<◌, List, [], ◌∷◌, length, get_or, set, Option, Some, sym, refl, ap, subst, ◌∙◌, arith, ⊎_elim, length-set, get_or-set_same, get_or-set_other}
use Rattle.std.proofs.lemmas.Bool.{cases_eq}
use mathlib.Core.Option.{Option as Maybe, some, none}
use lib.ListN.{get_elem?}
use Rattle.atomic_table.specs.Table.{State, rest, put_back, step, stepped, gives, Allows}
use Rattle.atomic_table.proofs.Lists.{set_here, set_else}
use Rattle.atomic_table.specs.Seated.{TableId}
use Rattle.cd_cells.specs.Asks.{Ask}
use Rattle.cd_cells.specs.declared.view.Meeting.{Meeting}
use Rattle.cd_cells.specs.declared.view.View.{View}
use Rattle.cd_cells.specs.declared.view.Cell.{Cell}
use Rattle.cd_cells.specs.Places.{Where, Sort, phase, mark, ahead, rests, ends, side, seal, over}
use Rattle.cd_cells.specs.Places.Where.{out, waiting, full, arrived}
use Rattle.cd_cells.specs.Places.Sort.{holds, posts, claims, arrives}
use Rattle.cd_cells.specs.Listing.{often, weigh, nodes, one_out, find, ask_out}
use Rattle.cd_cells.specs.Kinds.{Kind}
use Rattle.cd_cells.specs.Views.{name_of, tally}
use Rattle.cd_cells.specs.Rule.{phase_at, count_at, root_at, stop_of, Counts, Groups, Rooted, Fine, Ticketed, Ordered}
use Rattle.cd_cells.specs.Steps.{Sat, meeting, arriving, ArrivesAtRoot}
use Rattle.cd_cells.proofs.Listed.{often_here, often_else, often_one_less, often_out_else, nodes_out, knows_out, weigh_less}
use Rattle.cd_cells.proofs.Sums.{put, put_here, put_else, put_each, some_or_none}
use Rattle.cd_cells.proofs.Placed.{in_out, in_waiting}
use Rattle.cd_cells.proofs.Framing.{within_mark, counts_kept, phases_stay, groups_at_root, homes_moved, fine_set}
use Rattle.cd_cells.proofs.Moving.{total_same}
use Rattle.cd_cells.proofs.Sending.{table_is}
use Rattle.cd_cells.proofs.Resting.{held_as}

-- ---- what the pass lists after it

module _ {K : Type 0} (v : View K) (d : ℕ) (by : Meeting) (i n : ℕ) where
  pub arrive_off : (x : Sort) (e : ℕ) → e ≢ d → tally x e (meeting (arriving v d) by i n) ≡ tally x e v
  unfolding tally
  arrive_off holds e ne = ap (often e) (nodes_out d v.holds) ∙ often_out_else e d (nodes v.holds) ne
  arrive_off arrives e ne = often_else d e v.arrives ne
  arrive_off _ e ne = refl

  pub arrive_on : (x : Sort) (t : ℕ) → 0 < tally holds d v → tally x d (meeting (arriving v d) by i n) + mark x out t ≡ tally x d v + mark x arrived (t + 1)
  unfolding tally
  arrive_on holds t h =
      let a : often d (nodes (ask_out d v.holds)) ≡ often d (one_out d (nodes v.holds)) = ap (often d) (nodes_out d v.holds) in
      let o = often_one_less d (nodes v.holds) h in
      omega arith
  arrive_on arrives t h = let o = often_here d v.arrives in omega arith
  arrive_on posts t h = omega arith
  arrive_on claims t h = omega arith
  arrive_on _ t h = refl

  pub arrive_fine : {T : Type 0} (k : Kind T) (want : ℕ → Ask) (table : List ℕ) → Fine k want table v → Fine k want table (meeting (arriving v d) by i n)
  unfolding tally
  arrive_fine k want table f = record { table = f.table; named = f.named; turned = f.turned; held = knows_out want d v.holds f.held; names = f.names; last = f.last }

-- one domain goes from one place to another, and its rounds are one more
pub counts_timed : {K : Type 0} (n : ℕ) (place : ℕ → Where) (times : ℕ → ℕ) (views : List (View K)) → Counts n place times views → (id : ℕ) (v : View K)
    → get_elem? views id ≡ some v → (w : View K) (d : ℕ) (p q : Where) → place d ≡ p
    → ((x : Sort) (e : ℕ) → e ≢ d → tally x e w ≡ tally x e v)
    → ((x : Sort) (t : ℕ) → tally x d w + mark x p t ≡ tally x d v + mark x q (t + 1))
    → Counts n (put place d q) (put times d (times d + 1)) (set views id w)
counts_timed n place times views r id v at w d p q is off on =
    let place' : ℕ → Where = put place d q in
    let times' : ℕ → ℕ = put times d (times d + 1) in
    counts_kept n place times views r id v at w place' times' (λ x e l. put_each place d q
    (λ i y. tally x i w + mark x (place i) (times i) ≡ tally x i v + mark x y (times' i))
    (subst (λ (t : ℕ). tally x d w + mark x (place d) (times d) ≡ tally x d v + mark x q t) (sym (put_here times d (times d + 1)))
    (subst (λ (y : Where). tally x d w + mark x y (times d) ≡ tally x d v + mark x q (times d + 1)) (sym is) (on x (times d))))
    (λ i ne. subst (λ (t : ℕ). tally x i w + mark x (place i) (times i) ≡ tally x i v + mark x (place i) t) (sym (put_else times d (times d + 1) i ne))
    (ap (λ (m : ℕ). m + mark x (place i) (times i)) (off x i ne)))
    e)

-- ---- the step, for the root and for a member

module _ {K T : Type 0} (k : Kind T) (key : K) (s : State (Option (Cell K T)) (View K)) (r : Ordered k key s) (id : ℕ) (v : View K)
    (at : get_elem? s.views id ≡ some v) (d : ℕ) (h : d < k.count) (is : r.place d ≡ out) where
  abbrev place' : ℕ → Where
  place' = put r.place d arrived

  abbrev times' : ℕ → ℕ
  times' = put r.times d (r.times d + 1)

  always_as : (f : Where → ℕ) → f arrived ≡ f out → (e : ℕ) → f (place' e) ≡ f (r.place e)
  always_as f q = put_each r.place d arrived (λ e x. f x ≡ f (r.place e)) (q ∙ ap f (sym is)) (λ e ne. refl)

  waiting_before : (p : ℕ) → place' p ≡ waiting → r.place p ≡ waiting
  waiting_before = put_each r.place d arrived (λ p x. x ≡ waiting → r.place p ≡ waiting) (λ e. absurd (let z : 0 ≡ 1 = ap rests e in omega arith)) (λ p ne e. e)

  arrived_kept : (i x : ℕ) (by : Meeting) (b n : ℕ) → 0 < i → ((e : ℕ) → e < k.count → phase_at e ≢ i)
      → Groups k place' r.group (set s.words i x) → Rooted (place' 0) (times' 0) (get_or (set s.words i x) (root_at k.count) 0)
      → 0 < tally holds d v → (c : Cell K T) → k.Ended (r.want d) c.state → Ticketed key r.table (r.want d) c
      → (cs : List (ℕ × Option (Cell K T))) → cs ≡ (d, Some c) ∷ rest cs
      → Ordered k key (stepped s i x id cs (meeting (arriving v d) by b n) gives)
  arrived_kept i x by b n above other groups root held c stands ticket cs e =
      let w : View K = meeting (arriving v d) by b n in
      subst (λ (hs : List (Maybe (Option (Cell K T)))). Ordered k key (record { words = set s.words i x; homes = hs; views = set s.views id w }))
      (sym (ap (put_back s.homes) e))
      (record {
        lawful = r.lawful;
        place = place';
        times = times';
        group = r.group;
        want = r.want;
        table = r.table;
        words = length-set s.words i x ∙ r.words;
        slots = length-set s.homes d (some (Some c)) ∙ r.slots;
        counts = counts_timed k.count r.place r.times s.views r.counts id v at w d out arrived is (arrive_off v d by b n) (λ q t. arrive_on v d by b n q t held);
        phases = phases_stay s.words k.count r.place place' r.phases i x other (always_as phase refl);
        groups = groups;
        root = root;
        asked = r.asked;
        homes = homes_moved k key r.table r.want r.group r.place s.homes r.homes (set s.homes d (some (Some c))) d arrived h
            (λ j ne. set_else s.homes d j (some (Some c)) ne)
            (record { cell = c; home = set_here s.homes d (some (Some c)) (subst (λ (m : ℕ). d < m) (sym r.slots) h); answers = stands; ticket = ticket });
        fine = fine_set k r.want r.table s.views id w r.fine (arrive_fine v d by b n k r.want r.table (r.fine id v at));
        stop = get_or-set_other s.words i 0 x 0 (λ q. absurd (omega arith)) ∙ (r.stop ∙ ap stop_of (sym (total_same (λ u. u.stops) s.views id v w at refl)));
        fresh = total_same (λ u. u.fresh) s.views id v w at refl ∙ r.fresh;
      })

  -- a member, where the count of its parent is 2 or more
  module _ (above : 0 < d) (n : ℕ) (word : get_or s.words (count_at (k.up d)) 0 ≡ n) where
    pub parent_below : k.up d < k.count
    parent_below = r.lawful.above d above h

    pub in_parents : 0 < often d (r.group (k.up d))
    in_parents = r.groups.grouped d above h (let z : side (r.place d) ≡ 1 = ap side is in omega arith)

    pub parent_rests : rests (r.place (k.up d)) ≡ 1
    parent_rests = rests_or (r.place (k.up d)) refl
      where
        rests_or : (p : Where) → r.place (k.up d) ≡ p → rests p ≡ 1
        rests_or waiting e = refl
        rests_or full e = refl
        rests_or p e = absurd (
            let z : r.group (k.up d) ≡ [] = r.groups.none (k.up d) parent_below (ap rests e) in
            let y : often d (r.group (k.up d)) ≡ 0 = ap (often d) z in
            let x = in_parents in
            omega arith)

    pub parent_waits : r.place (k.up d) ≡ waiting
    parent_waits = in_waiting (r.place (k.up d)) parent_rests (
        let a : side (r.place d) ≡ 1 + ends (r.place (k.up d)) = r.groups.sides (k.up d) parent_below d in_parents in
        let b : side (r.place d) ≡ 1 = ap side is in
        omega arith)

    pub parent_counts : n ≡ weigh (λ m. ahead (r.place m)) (r.group (k.up d))
    parent_counts = sym word ∙ r.groups.word (k.up d) parent_below parent_rests

    lighter : (p : ℕ) → weigh (λ m. ahead (r.place m)) (r.group p) ≡ weigh (λ m. ahead (place' m)) (r.group p) + often d (r.group p)
    lighter p = weigh_less (λ m. ahead (r.place m)) (λ m. ahead (place' m)) d (r.group p)
        (λ m ne. ap ahead (sym (put_else r.place d arrived m ne)))
        (let a : ahead (place' d) ≡ 0 = ap ahead (put_here r.place d arrived) in let b : ahead (r.place d) ≡ 1 = ap ahead is in omega arith)

    pub some_ahead : 0 < n
    some_ahead =
        let a = lighter (k.up d) in
        let b : often d (r.group (k.up d)) ≡ 1 = (r.groups.member (k.up d) parent_below d in_parents).once in
        let c : n ≡ weigh (λ m. ahead (r.place m)) (r.group (k.up d)) = parent_counts in
        omega arith

    arrived_groups : 1 < n → Groups k place' r.group (set s.words (count_at (k.up d)) (n - 1))
    arrived_groups more = record {
      word = λ p l rest. ⊎_elim
          (λ (q : p ≡ k.up d). subst (λ (x : ℕ). get_or (set s.words (count_at (k.up d)) (n - 1)) (count_at x) 0 ≡ weigh (λ m. ahead (place' m)) (r.group x)) (sym q)
          (here ∙ (
          let a = lighter (k.up d) in
          let b : often d (r.group (k.up d)) ≡ 1 = (r.groups.member (k.up d) parent_below d in_parents).once in
          let c : n ≡ weigh (λ m. ahead (r.place m)) (r.group (k.up d)) = parent_counts in
          omega arith)))
          (λ ne. there p ne ∙ (r.groups.word p l (sym (always_as rests refl p) ∙ rest) ∙ (
          let a = lighter p in
          let b : often d (r.group p) ≡ 0 = some_or_none (often d (r.group p)) (λ z. z) (λ i. absurd (ne (sym (r.groups.member p l d i).parent))) in
          omega arith)))
          (cases_eq p (k.up d));
      above = λ p l waits. ⊎_elim
          (λ (q : p ≡ k.up d). subst (λ (x : ℕ). 0 < get_or (set s.words (count_at (k.up d)) (n - 1)) (count_at x) 0) (sym q)
          (subst (λ (x : ℕ). 0 < x) (sym here) (omega arith)))
          (λ ne. subst (λ (x : ℕ). 0 < x) (sym (there p ne)) (r.groups.above p l (waiting_before p waits)))
          (cases_eq p (k.up d));
      member = r.groups.member;
      sides = λ p l m i. always_as side refl m ∙ (r.groups.sides p l m i ∙ ap (λ (x : ℕ). 1 + x) (sym (always_as ends refl p)));
      grouped = λ m a b sent. r.groups.grouped m a b (subst (λ (x : ℕ). 0 < x) (always_as side refl m) sent);
      none = λ p l rest. r.groups.none p l (sym (always_as rests refl p) ∙ rest);
    }
      where
        here : get_or (set s.words (count_at (k.up d)) (n - 1)) (count_at (k.up d)) 0 ≡ n - 1
        here = get_or-set_same s.words (2 * k.up d + 2) (n - 1) 0 (let w : length s.words ≡ 2 * k.count + 2 = r.words in let b = parent_below in omega arith)

        there : (p : ℕ) → p ≢ k.up d → get_or (set s.words (count_at (k.up d)) (n - 1)) (count_at p) 0 ≡ get_or s.words (count_at p) 0
        there p ne = get_or-set_other s.words (2 * k.up d + 2) (2 * p + 2) (n - 1) 0 (λ q. ne (omega arith))

    root_else : (i x : ℕ) → i ≢ root_at k.count → Rooted (place' 0) (times' 0) (get_or (set s.words i x) (root_at k.count) 0)
    root_else i x ne =
        let apart : 0 ≢ d = (λ q. absurd (omega arith)) in
        subst (Rooted (place' 0) (times' 0)) (sym (get_or-set_other s.words i (2 * k.count + 1) x 0 (λ q. ne (sym q))))
        (subst (λ (y : Where). Rooted y (times' 0) (get_or s.words (root_at k.count) 0)) (sym (put_else r.place d arrived 0 apart))
        (subst (λ (t : ℕ). Rooted (r.place 0) t (get_or s.words (root_at k.count) 0)) (sym (put_else r.times d (r.times d + 1) 0 apart)) r.root))

    pub member_kept : 1 < n → 0 < tally holds d v → (c : Cell K T) → k.Ended (r.want d) c.state → Ticketed key r.table (r.want d) c
        → (cs : List (ℕ × Option (Cell K T))) → cs ≡ (d, Some c) ∷ rest cs
        → Ordered k key (stepped s (count_at (k.up d)) (n - 1) id cs (meeting (arriving v d) Meeting.Arrival (k.up d) n) gives)
    member_kept more held c stands ticket cs e = arrived_kept (count_at (k.up d)) (n - 1) Meeting.Arrival (k.up d) n (omega arith) (λ p l q. absurd (omega arith))
        (arrived_groups more)
        (root_else (count_at (k.up d)) (n - 1) (λ q. absurd (omega arith)))
        held c stands ticket cs e

module _ {K T : Type 0} (k : Kind T) (key : K) (s : State (Option (Cell K T)) (View K)) (r : Ordered k key s) (id : ℕ) (v : View K)
    (at : get_elem? s.views id ≡ some v) (is : r.place 0 ≡ out) where
  pub root_word : get_or s.words (root_at k.count) 0 ≡ 1
  root_word = r.root.word ∙ ap seal is

  pub root_kept : 0 < tally holds 0 v → (c : Cell K T) → k.Ended (r.want 0) c.state → Ticketed key r.table (r.want 0) c
      → (cs : List (ℕ × Option (Cell K T))) → cs ≡ (0, Some c) ∷ rest cs
      → Ordered k key (stepped s (root_at k.count) 0 id cs (meeting (arriving v 0) Meeting.RootArrival 0 1) gives)
  root_kept held c stands ticket cs e = arrived_kept k key s r id v at 0 r.lawful.some is (root_at k.count) 0 Meeting.RootArrival 0 1 (omega arith)
      (λ p l q. absurd (omega arith))
      (groups_at_root k r.place arrived r.group s.words (set s.words (root_at k.count) 0) r.groups (ap rests (sym is)) (ap ends (sym is)) (λ q. absurd (cc))
      (λ p l. get_or-set_other s.words (2 * k.count + 1) (2 * p + 2) 0 0 (λ q. absurd (omega arith))))
      (subst (λ (y : Where). Rooted y (put r.times 0 (r.times 0 + 1) 0) (get_or (set s.words (root_at k.count) 0) (root_at k.count) 0)) (sym (put_here r.place 0 arrived))
      (record {
        word = get_or-set_same s.words (2 * k.count + 1) 0 0 (let w : length s.words ≡ 2 * k.count + 2 = r.words in omega arith);
        never = omega arith;
        times = put_here r.times 0 (r.times 0 + 1) ∙ ap (λ (t : ℕ). t + 1) (r.root.times ∙ ap over is);
      }))
      held c stands ticket cs e

module _ {K T : Type 0} (kind : K → Kind T) (key : K) (slots id : ℕ) (me : Sat K T) where
  pub root_allows : (c : Cell K T) → me.1 ≡ (0, Some c) ∷ rest me.1 → 0 < tally holds 0 me.0 → (t : TableId) → me.0.table ≡ name_of t
      → (kind key).Ended (find 0 me.0.holds) c.state → Ticketed key me.0.table (find 0 me.0.holds) c
      → Allows (Ordered (kind key) key) slots id me (root_at (kind key).count) (λ n. (n + (2 ^ 64 - 1)) % 2 ^ 64)
      (ArrivesAtRoot (step slots (root_at (kind key).count) 1 0 none) me)
  root_allows c in_hand held t known stands ticket s r len at small =
      let m = within_mark (kind key).count r.place r.times s.views r.counts id me.0 at holds 0 r.lawful.some in
      let is : r.place 0 ≡ out = in_out (r.place 0) (r.times 0) (omega arith) in
      let f = r.fine id me.0 at in
      let table : me.0.table ≡ r.table = table_is (kind key) r.want r.table me.0 f t known in
      let ask : find 0 me.0.holds ≡ r.want 0 = sym (held_as (kind key) r.want r.table me.0 0 f held) in
      let n : ℕ = get_or s.words (root_at (kind key).count) 0 in
      let one : n ≡ 1 = root_word (kind key) key s r id me.0 at is in (
        meeting (arriving me.0 0) Meeting.RootArrival 0 1,
        gives,
        tt,
        subst (λ (x : ℕ). Ordered (kind key) key (stepped s (root_at (kind key).count) ((x + (2 ^ 64 - 1)) % 2 ^ 64) id me.1 (meeting (arriving me.0 0) Meeting.RootArrival 0 1) gives)) (sym one)
            (root_kept (kind key) key s r id me.0 at is held c (subst (λ (a : Ask). (kind key).Ended a c.state) ask stands)
            (subst (λ (a : Ask). Ticketed key r.table a c) ask (subst (λ (l : List ℕ). Ticketed key l (find 0 me.0.holds) c) table ticket)) me.1 in_hand),
        (one, refl),
      )

  -- the number of domains by its number
  pub root_allows_at : (count : ℕ) → count ≡ (kind key).count → (c : Cell K T) → me.1 ≡ (0, Some c) ∷ rest me.1 → 0 < tally holds 0 me.0 → (t : TableId) → me.0.table ≡ name_of t
      → (kind key).Ended (find 0 me.0.holds) c.state → Ticketed key me.0.table (find 0 me.0.holds) c
      → Allows (Ordered (kind key) key) slots id me (root_at count) (λ n. (n + (2 ^ 64 - 1)) % 2 ^ 64) (ArrivesAtRoot (step slots (root_at count) 1 0 none) me)
  root_allows_at count e c in_hand held t known stands ticket =
      subst (λ (x : ℕ). Allows (Ordered (kind key) key) slots id me (root_at x) (λ n. (n + (2 ^ 64 - 1)) % 2 ^ 64) (ArrivesAtRoot (step slots (root_at x) 1 0 none) me))
      (sym e) (root_allows c in_hand held t known stands ticket)
