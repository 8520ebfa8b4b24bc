-- The last arriver takes the parent, when it has cleared all members.
use Rattle.std.proofs.Common.{◌≡◌, ◌≢◌, ℕ, ◌+◌, ◌*◌, ◌/◌, ◌<◌, ◌≤◌, List, [], ◌∷◌, length, get_or, set, Option, Some, vec_capacity, sym, refl, ap, subst, ◌∙◌, arith, ⊎_elim, length-set, get_or-set_same, get_or-set_other}
use Rattle.std.proofs.lemmas.Bool.{cases_eq}
use mathlib.Core.Option.{some, none}
use lib.ListN.{get_elem?}
use Rattle.atomic_table.specs.Table.{State, step, stepped, takes as takes_slot, Allows}
use Rattle.atomic_table.proofs.Lists.{set_here, set_else}
use Rattle.atomic_table.specs.Seated.{TableId}
use Rattle.cd_cells.specs.Asks.{Ask}
use Rattle.cd_cells.specs.declared.view.View.{View}
use Rattle.cd_cells.specs.declared.view.Cell.{Cell}
use Rattle.cd_cells.specs.Places.{Where, Sort, phase, mark, ahead, rests, ends, side, content}
use Rattle.cd_cells.specs.Places.Where.{idle, out, waiting, full, cleared}
use Rattle.cd_cells.specs.Places.Sort.{holds, lasts, owes, takes, clears, names}
use Rattle.cd_cells.specs.Listing.{often, weigh, nodes, one_out, all_out, find, asks_out}
use Rattle.cd_cells.specs.Kinds.{Kind, IsMember}
use Rattle.cd_cells.specs.Views.{name_of, tally}
use Rattle.cd_cells.specs.Rule.{phase_at, root_at, stop_of, Counts, Phases, Groups, Rooted, Fine, Ticketed, IsSpareList, Waiting, Has, Homes, Ordered}
use Rattle.cd_cells.specs.Steps.{Sat, handed, resuming, Resumed, Resumes}
use Rattle.cd_cells.proofs.Listed.{often_here, often_else, often_one_less, often_out_else, often_all_out, nodes_all_out, knows_find, knows_all_out, weigh_same}
use Rattle.cd_cells.proofs.Sums.{put, put_here, put_else, fan, fan_here, fan_each, some_or_none}
use Rattle.cd_cells.proofs.Placed.{in_full, in_cleared, in_idle}
use Rattle.cd_cells.proofs.Framing.{within_mark, counts_kept, count_stays, root_stays, fine_set}
use Rattle.cd_cells.proofs.Moving.{total_same}
use Rattle.cd_cells.proofs.Sending.{domain_of_phase, table_is, of_key}

-- ---- what the pass lists after it

module _ {K : Type 0} (v : View K) (p : ℕ) (a : Ask) (node : a.node.0 ≡ p) (g : List ℕ) (cleared_all : (e : ℕ) → often e g ≤ tally clears e v)
    (named_all : (e : ℕ) → often e g ≤ tally names e v) where
  after_clears : (e : ℕ) → tally clears e (resuming v p a g) + often e g ≡ tally clears e v
  unfolding tally
  after_clears e = often_all_out g v.clears cleared_all e

  after_names : (e : ℕ) → tally names e (resuming v p a g) + often e g ≡ tally names e v
  unfolding tally
  after_names e = ap (λ (l : List ℕ). often e l + often e g) (nodes_all_out g v.named) ∙ often_all_out g (nodes v.named) named_all e

  resume_off : (x : Sort) (e : ℕ) → e ≢ p → often e g ≡ 0 → tally x e (resuming v p a g) ≡ tally x e v
  unfolding tally
  resume_off lasts e ne z = often_out_else e p v.lasts ne
  resume_off holds e ne z = often_else a.node.0 e (nodes v.holds) (λ q. ne (q ∙ node))
  resume_off clears e ne z = let b : often e (all_out g v.clears) + often e g ≡ often e v.clears = after_clears e in omega arith
  resume_off names e ne z = let b : often e (nodes (asks_out g v.named)) + often e g ≡ often e (nodes v.named) = after_names e in omega arith
  resume_off _ e ne z = refl

  resume_on : (x : Sort) (t : ℕ) → often p g ≡ 0 → 0 < tally lasts p v → tally x p (resuming v p a g) + mark x full t ≡ tally x p v + mark x out t
  unfolding tally
  resume_on lasts t z h = let o = often_one_less p v.lasts h in omega arith
  resume_on holds t z h =
      let b : often p (a.node.0 ∷ nodes v.holds) ≡ often p (p ∷ nodes v.holds) = ap (λ (y : ℕ). often p (y ∷ nodes v.holds)) node in
      let o = often_here p (nodes v.holds) in
      omega arith
  resume_on clears t z h = let b : often p (all_out g v.clears) + often p g ≡ often p v.clears = after_clears p in omega arith
  resume_on names t z h = let b : often p (nodes (asks_out g v.named)) + often p g ≡ often p (nodes v.named) = after_names p in omega arith
  resume_on _ t z h = refl

  resume_in : (x : Sort) (e t : ℕ) → e ≢ p → often e g ≡ 1 → tally x e (resuming v p a g) + mark x cleared t ≡ tally x e v + mark x idle t
  unfolding tally
  resume_in lasts e t ne z = ap (λ (n : ℕ). n + 0) (often_out_else e p v.lasts ne)
  resume_in holds e t ne z = ap (λ (n : ℕ). n + 0) (often_else a.node.0 e (nodes v.holds) (λ q. ne (q ∙ node)))
  resume_in clears e t ne z = let b : often e (all_out g v.clears) + often e g ≡ often e v.clears = after_clears e in omega arith
  resume_in names e t ne z = let b : often e (nodes (asks_out g v.named)) + often e g ≡ often e (nodes v.named) = after_names e in omega arith
  resume_in _ e t ne z = refl

  resume_fine : {T : Type 0} (k : Kind T) (want : ℕ → Ask) (table : List ℕ) → Fine k want table v → want a.node.0 ≡ a
      → ((e : ℕ) → 0 < e → e < k.count → k.up e ≡ p → tally owes e v + tally takes e v + tally clears e v ≤ often e g) → Fine k want table (resuming v p a g)
  unfolding tally
  resume_fine k want table f is settled = record {
    table = f.table;
    named = knows_all_out want g v.named f.named;
    turned = f.turned;
    held = (is, f.held);
    names = λ e l.
        let b : often e (all_out g v.clears) + often e g ≡ often e v.clears = after_clears e in
        let c : often e (nodes (asks_out g v.named)) + often e g ≡ often e (nodes v.named) = after_names e in
        let z : often e v.rights + often e v.clears ≤ often e (nodes v.named) = f.names e l in
        omega arith;
    last = λ e above below.
        let b : often e (all_out g v.clears) + often e g ≡ often e v.clears = after_clears e in
        let z : often e v.owes + often e v.takes + often e v.clears ≤ often (k.up e) v.lasts = f.last e above below in
        ⊎_elim
        (λ (q : k.up e ≡ p). let y : often e v.owes + often e v.takes + often e v.clears ≤ often e g = settled e above below q in omega arith)
        (λ ne. let y : often (k.up e) (one_out p v.lasts) ≡ often (k.up e) v.lasts = often_out_else (k.up e) p v.lasts ne in omega arith)
        (cases_eq (k.up e) p);
  }

-- ---- the step

module _ {K T : Type 0} (k : Kind T) (key : K) (s : State (Option (Cell K T)) (View K)) (r : Ordered k key s) (id : ℕ) (v : View K)
    (at : get_elem? s.views id ≡ some v) (p : ℕ) (h : p < k.count) (is : r.place p ≡ full)
    (all_cleared : (m : ℕ) → 0 < often m (r.group p) → 0 < tally clears m v) where
  abbrev g : List ℕ
  g = r.group p

  within : (q : Sort) (m : ℕ) → m < k.count → tally q m v ≤ mark q (r.place m) (r.times m)
  within q m l = within_mark k.count r.place r.times s.views r.counts id v at q m l

  member_cleared : (m : ℕ) → 0 < often m g → r.place m ≡ cleared
  member_cleared m i =
      let a = within clears m (r.groups.member p h m i).below in
      let b = all_cleared m i in
      in_cleared (r.place m) (r.times m) (omega arith)

  not_self : often p g ≡ 0
  not_self = some_or_none (often p g) (λ z. z) (λ i. absurd (let a : full ≡ cleared = sym is ∙ member_cleared p i in let b : 1 ≡ 0 = ap rests a in omega arith))

  abbrev place' : ℕ → Where
  place' = fan r.place g idle p out

  abbrev group' : ℕ → List ℕ
  group' = put r.group p []

  cleared_all : (e : ℕ) → often e g ≤ tally clears e v
  cleared_all e = some_or_none (often e g) (λ z. omega arith) (λ i. let a = (r.groups.member p h e i).once in let b = all_cleared e i in omega arith)

  named_all : (e : ℕ) → often e g ≤ tally names e v
  named_all e = some_or_none (often e g) (λ z. omega arith) (λ i.
      let a = (r.groups.member p h e i).once in
      let b = all_cleared e i in
      let c = (r.fine id v at).names e (r.groups.member p h e i).below in
      omega arith)

  -- a domain whose parent this is is a member that is cleared, or idle
  settled : (e : ℕ) → 0 < e → e < k.count → k.up e ≡ p → tally owes e v + tally takes e v + tally clears e v ≤ often e g
  settled e above below up = some_or_none (often e g)
      (λ z.
      let still : r.place e ≡ idle = some_or_none (side (r.place e)) (in_idle (r.place e))
      (λ sent. absurd (let a : 0 < often e (r.group (k.up e)) = r.groups.grouped e above below sent in let b : often e (r.group (k.up e)) ≡ often e g = ap (λ (x : ℕ). often e (r.group x)) up in omega arith)) in
      let a : tally owes e v ≤ 0 = subst (λ (x : Where). tally owes e v ≤ mark owes x (r.times e)) still (within owes e below) in
      let b : tally takes e v ≤ 0 = subst (λ (x : Where). tally takes e v ≤ mark takes x (r.times e)) still (within takes e below) in
      let c : tally clears e v ≤ 0 = subst (λ (x : Where). tally clears e v ≤ mark clears x (r.times e)) still (within clears e below) in
      omega arith)
      (λ i.
      let a : tally owes e v ≤ 0 = subst (λ (x : Where). tally owes e v ≤ mark owes x (r.times e)) (member_cleared e i) (within owes e below) in
      let b : tally takes e v ≤ 0 = subst (λ (x : Where). tally takes e v ≤ mark takes x (r.times e)) (member_cleared e i) (within takes e below) in
      let c : tally clears e v ≤ 1 = subst (λ (x : Where). tally clears e v ≤ mark clears x (r.times e)) (member_cleared e i) (within clears e below) in
      let d = (r.groups.member p h e i).once in
      omega arith)

  always_as : (f : Where → ℕ) → f out ≡ f full → f idle ≡ f cleared → (e : ℕ) → f (place' e) ≡ f (r.place e)
  always_as f a b = fan_each r.place g idle p out (λ e x. f x ≡ f (r.place e)) (a ∙ ap f (sym is)) (λ e ne i. b ∙ ap f (sym (member_cleared e i))) (λ e ne z. refl)

  group_else : (q : ℕ) → q ≢ p → group' q ≡ r.group q
  group_else q ne = put_else r.group p [] q ne

  group_here : group' p ≡ []
  group_here = put_here r.group p []

  none_here : (m : ℕ) → 0 < often m (group' p) → ⊥
  none_here m i = absurd (let a : often m (group' p) ≡ 0 = ap (often m) group_here in omega arith)

  other_group : (q : ℕ) → q < k.count → q ≢ p → (m : ℕ) → 0 < often m (r.group q) → often m g ≡ 0
  other_group q l ne m i = some_or_none (often m g) (λ z. z) (λ j. absurd (ne (sym (r.groups.member q l m i).parent ∙ (r.groups.member p h m j).parent)))

  same_as : (f : Where → ℕ) → f out ≡ f full → (m : ℕ) → often m g ≡ 0 → f (place' m) ≡ f (r.place m)
  same_as f a = fan_each r.place g idle p out (λ m x. often m g ≡ 0 → f x ≡ f (r.place m)) (λ z. a ∙ ap f (sym is)) (λ m ne i z. absurd (omega arith)) (λ m ne z _. refl)

  other_as : (f : Where → ℕ) → f idle ≡ f cleared → (q : ℕ) → q ≢ p → f (place' q) ≡ f (r.place q)
  other_as f b = fan_each r.place g idle p out (λ q x. q ≢ p → f x ≡ f (r.place q)) (λ ne. absurd (ne refl)) (λ q ne i _. b ∙ ap f (sym (member_cleared q i))) (λ q ne z _. refl)

  waiting_before : (q : ℕ) → place' q ≡ waiting → (q ≢ p) × (r.place q ≡ waiting)
  waiting_before = fan_each r.place g idle p out (λ q x. x ≡ waiting → (q ≢ p) × (r.place q ≡ waiting))
      (λ e. absurd (let z : 0 ≡ 1 = ap rests e in omega arith)) (λ q ne i e. absurd (let z : 0 ≡ 1 = ap rests e in omega arith)) (λ q ne z e. (ne, e))

  not_member : (m : ℕ) → 0 < side (place' m) → often m g ≡ 0
  not_member = fan_each r.place g idle p out (λ m x. 0 < side x → often m g ≡ 0) (λ l. not_self) (λ m ne i l. absurd (omega arith)) (λ m ne z l. z)

  abbrev words' : List ℕ
  words' = set s.words (phase_at p) 1

  resume_phases : Phases k.count place' words'
  resume_phases e l = ⊎_elim
      (λ (q : e ≡ p). subst (λ (x : ℕ). get_or words' (phase_at x) 0 ≡ phase (place' x)) (sym q)
      (get_or-set_same s.words (2 * p + 1) 1 0 (let w : length s.words ≡ 2 * k.count + 2 = r.words in omega arith) ∙ sym (ap phase (fan_here r.place g idle p out))))
      (λ ne. get_or-set_other s.words (2 * p + 1) (2 * e + 1) 1 0 (λ q. ne (omega arith)) ∙ (r.phases e l ∙ sym (always_as phase refl refl e)))
      (cases_eq e p)

  resume_groups : Groups k place' group' words'
  resume_groups = record {
    word = λ q l rest. ⊎_elim
        (λ (e : q ≡ p). absurd (let a : rests (place' q) ≡ 0 = ap (λ (x : ℕ). rests (place' x)) e ∙ ap rests (fan_here r.place g idle p out) in omega arith))
        (λ ne. count_stays s.words p 1 q ∙ (r.groups.word q l (sym (other_as rests refl q ne) ∙ rest)
        ∙ (weigh_same (λ m. ahead (r.place m)) (λ m. ahead (place' m)) (r.group q) (λ m i. sym (same_as ahead refl m (other_group q l ne m i)))
        ∙ ap (weigh (λ m. ahead (place' m))) (sym (group_else q ne)))))
        (cases_eq q p);
    above = λ q l waits. subst (λ (x : ℕ). 0 < x) (sym (count_stays s.words p 1 q)) (r.groups.above q l (waiting_before q waits).1);
    member = λ q l m i. ⊎_elim
        (λ (e : q ≡ p). absurd (none_here m (subst (λ (x : ℕ). 0 < often m (group' x)) e i)))
        (λ ne. subst (λ (y : List ℕ). IsMember k q y m) (sym (group_else q ne)) (r.groups.member q l m (subst (λ (y : List ℕ). 0 < often m y) (group_else q ne) i)))
        (cases_eq q p);
    sides = λ q l m i. ⊎_elim
        (λ (e : q ≡ p). absurd (none_here m (subst (λ (x : ℕ). 0 < often m (group' x)) e i)))
        (λ ne.
        let j : 0 < often m (r.group q) = subst (λ (y : List ℕ). 0 < often m y) (group_else q ne) i in
        same_as side refl m (other_group q l ne m j) ∙ (r.groups.sides q l m j ∙ ap (λ (x : ℕ). 1 + x) (sym (other_as ends refl q ne))))
        (cases_eq q p);
    grouped = λ m above below sent.
        let z = not_member m sent in
        let before : 0 < side (r.place m) = subst (λ (x : ℕ). 0 < x) (same_as side refl m z) sent in
        let i = r.groups.grouped m above below before in
        let apart : k.up m ≢ p = (λ e. absurd (let a : often m (r.group (k.up m)) ≡ often m g = ap (λ (x : ℕ). often m (r.group x)) e in omega arith)) in
        subst (λ (y : List ℕ). 0 < often m y) (sym (group_else (k.up m) apart)) i;
    none = λ q l rest. ⊎_elim
        (λ (e : q ≡ p). ap group' e ∙ group_here)
        (λ ne. group_else q ne ∙ r.groups.none q l (sym (other_as rests refl q ne) ∙ rest))
        (cases_eq q p);
  }

  resume_root : Rooted (place' 0) (r.times 0) (get_or words' (root_at k.count) 0)
  resume_root = subst (Rooted (place' 0) (r.times 0)) (sym (root_stays s.words p 1 k.count h))
      (fan_each r.place g idle p out (λ i x. i ≡ 0 → (t n : ℕ) → Rooted (r.place i) t n → Rooted x t n)
      (λ _. subst (λ (x : Where). (t n : ℕ) → Rooted x t n → Rooted out t n) (sym is) (λ t n y. record { word = y.word; never = omega arith; times = y.times }))
      (λ i ne m z. absurd (let a : 0 < i = (r.groups.member p h i m).above in omega arith))
      (λ i ne z _ t n y. y) 0 refl (r.times 0) (get_or s.words (root_at k.count) 0) r.root)

  resume_homes : Homes k key r.table r.want group' place' (set s.homes p none)
  resume_homes = fan_each r.place g idle p out
      (λ e x. e < k.count → Has k key r.table r.want e (group' e) (content x) (get_elem? (set s.homes p none) e) × ((r.want e).node.0 ≡ e))
      (λ l. (set_here s.homes p none (subst (λ (n : ℕ). p < n) (sym r.slots) h), (r.homes p l).1))
      (λ e ne i l. (
        set_else s.homes p e none ne ∙ subst (λ (x : Where). Has k key r.table r.want e (r.group e) (content x) (get_elem? s.homes e)) (member_cleared e i) (r.homes e l).0,
        (r.homes e l).1,
      ))
      (λ e ne z l. (
        subst (λ (y : List ℕ). Has k key r.table r.want e y (content (r.place e)) (get_elem? (set s.homes p none) e)) (sym (group_else e ne))
            (subst (Has k key r.table r.want e (r.group e) (content (r.place e))) (sym (set_else s.homes p e none ne)) (r.homes e l).0),
        (r.homes e l).1,
      ))

  resume_counts : 0 < tally lasts p v → Counts k.count place' r.times (set s.views id (resuming v p (r.want p) g))
  resume_counts last =
      let w : View K = resuming v p (r.want p) g in
      let node : (r.want p).node.0 ≡ p = (r.homes p h).1 in
      counts_kept k.count r.place r.times s.views r.counts id v at w place' r.times (λ q e l. fan_each r.place g idle p out
      (λ i x. tally q i w + mark q (r.place i) (r.times i) ≡ tally q i v + mark q x (r.times i))
      (subst (λ (x : Where). tally q p w + mark q x (r.times p) ≡ tally q p v + mark q out (r.times p)) (sym is)
      (resume_on v p (r.want p) node g cleared_all named_all q (r.times p) not_self last))
      (λ i ne m. subst (λ (x : Where). tally q i w + mark q x (r.times i) ≡ tally q i v + mark q idle (r.times i)) (sym (member_cleared i m))
      (resume_in v p (r.want p) node g cleared_all named_all q i (r.times i) ne (r.groups.member p h i m).once))
      (λ i ne z. ap (λ (n : ℕ). n + mark q (r.place i) (r.times i)) (resume_off v p (r.want p) node g cleared_all named_all q i ne z))
      e)

  pub resume_kept : 0 < tally lasts p v → (c : List (ℕ × Option (Cell K T))) (y : Option (Cell K T))
      → Ordered k key (stepped s (phase_at p) 1 id c (resuming v p (r.want p) g) (takes_slot p y))
  resume_kept last c y =
      let w : View K = resuming v p (r.want p) g in
      record {
        lawful = r.lawful;
        place = place';
        times = r.times;
        group = group';
        want = r.want;
        table = r.table;
        words = length-set s.words (phase_at p) 1 ∙ r.words;
        slots = length-set s.homes p none ∙ r.slots;
        counts = resume_counts last;
        phases = resume_phases;
        groups = resume_groups;
        root = resume_root;
        asked = r.asked;
        homes = resume_homes;
        fine = fine_set k r.want r.table s.views id w r.fine
            (resume_fine v p (r.want p) (r.homes p h).1 g cleared_all named_all k r.want r.table (r.fine id v at) (ap r.want (r.homes p h).1) settled);
        stop = get_or-set_other s.words (2 * p + 1) 0 1 0 (λ q. absurd (omega arith)) ∙ (r.stop ∙ ap stop_of (sym (total_same (λ u. u.stops) s.views id v w at refl)));
        fresh = total_same (λ u. u.fresh) s.views id v w at refl ∙ r.fresh;
      }

-- what a pass names is what is wanted
pub named_as : {K T : Type 0} (k : Kind T) (want : ℕ → Ask) (table : List ℕ) (v : View K) (d : ℕ) → Fine k want table v → 0 < tally names d v → want d ≡ find d v.named
unfolding tally
named_as k want table v d f t = knows_find want d v.named f.named t

module _ {K T : Type 0} (kind : K → Kind T) (key : K) (slots id : ℕ) (me : Sat K T) where
  pub resume_allows : (p m : ℕ) → 0 < m → m < (kind key).count → (kind key).up m ≡ p → me.0.key ≡ Some key → (t : TableId) → me.0.table ≡ name_of t
      → 0 < tally lasts p me.0 → 0 < tally clears m me.0 → ((i : ℕ) → 0 < often i ((kind key).siblings m) → 0 < tally clears i me.0)
      → Allows (Ordered (kind key) key) slots id me (phase_at p) (λ _. 1) (λ _. Resumes kind (step slots (phase_at p) 1 0 none) me 1)
  resume_allows p m above below up is_key t known last cleared_one all_cleared s r len at small =
      let k : Kind T = kind key in
      let v : View K = me.0 in
      let h : p < k.count = subst (λ (x : ℕ). x < k.count) up (r.lawful.above m above below) in
      let f = r.fine id v at in
      let table : v.table ≡ r.table = table_is k r.want r.table v f t known in
      let in_last = within_mark k.count r.place r.times s.views r.counts id v at lasts p h in
      let is : r.place p ≡ full = in_full (r.place p) (r.times p) (omega arith) in
      let in_clear = within_mark k.count r.place r.times s.views r.counts id v at clears m below in
      let one_is : r.place m ≡ cleared = in_cleared (r.place m) (r.times m) (omega arith) in
      let one_in : 0 < often m (r.group p) = subst (λ (x : ℕ). 0 < often m (r.group x)) up (r.groups.grouped m above below (subst (λ (x : Where). 0 < side x) (sym one_is) (omega arith))) in
      let same : k.siblings m ≡ r.group p = (r.groups.member p h m one_in).same in
      let all_there : (i : ℕ) → 0 < often i (r.group p) → 0 < tally clears i v = λ i j. all_cleared i (subst (λ (l : List ℕ). 0 < often i l) (sym same) j) in
      let kept : Waiting k key r.table r.want p (r.group p) (get_elem? s.homes p) =
      subst (λ (x : Where). Has k key r.table r.want p (r.group p) (content x) (get_elem? s.homes p)) is (r.homes p h).0 in
      let w : View K = resuming v p (r.want p) (r.group p) in (
        w,
        takes_slot p (Some kept.cell),
        kept.home,
        resume_kept k key s r id v at p h is all_there last me.1 (Some kept.cell),
        of_key key me is_key (λ z. (c : Cell K T) × Resumed (kind z) z me ((2 * p + 1) / 2) (w, (p, Some kept.cell) ∷ me.1) c (Some c)) (
          kept.cell,
          subst (λ (x : ℕ). Resumed k key me x (w, (p, Some kept.cell) ∷ me.1) kept.cell (Some kept.cell)) (domain_of_phase p) (record {
            ask = r.want p;
            node = (r.homes p h).1;
            now = ap (λ (l : List ℕ). handed me (resuming v p (r.want p) l) p (Some kept.cell)) (sym kept.group);
            waits = kept.answers;
            ticket = subst (λ (l : List ℕ). Ticketed key l (r.want p) kept.cell) (sym table) kept.ticket;
            asks = λ i j.
                let j' : 0 < often i (r.group p) = subst (λ (l : List ℕ). 0 < often i l) kept.group j in
                sym (named_as k r.want r.table v i f (let b = f.names i (r.groups.member p h i j').below in let c = all_there i j' in omega arith)) ∙ kept.asks i j';
            list = subst (λ (l : List ℕ). IsSpareList (length l) kept.cell.list.items (vec_capacity kept.cell.list)) (sym kept.group) kept.list;
          }),
        ),
      )
