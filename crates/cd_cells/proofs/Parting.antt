-- A pass or a ticket is split off, and one is taken back.
use Rattle.std.proofs.Common.{◌≡◌, ℕ, ◌+◌, ◌<◌, ◌≤◌, ◌⊎◌, inl, List, [], ◌∷◌, ◌++◌, set, Option, None, sym, refl, ap, subst, ◌∙◌, arith, ⊎_elim}
use Rattle.std.proofs.lemmas.Bool.{cases_eq}
use mathlib.Core.Option.{some}
use lib.ListN.{get_elem?}
use Rattle.atomic_table.specs.Table.{State, Splits, Joins}
use Rattle.atomic_table.proofs.Lists.{at_set, at_snoc, set_else}
use Rattle.cd_cells.specs.Asks.{Ask}
use Rattle.cd_cells.specs.declared.view.View.{View}
use Rattle.cd_cells.specs.declared.view.Cell.{Cell}
use Rattle.cd_cells.specs.Places.{Where, Sort, mark}
use Rattle.cd_cells.specs.Places.Where.{turning}
use Rattle.cd_cells.specs.Places.Sort.{rights, turns, holds, shuts, lasts, owes, takes, clears, names, posts, claims, arrives}
use Rattle.cd_cells.specs.Listing.{often, total, nodes, one_out, find, ask_out}
use Rattle.cd_cells.specs.Kinds.{Kind}
use Rattle.cd_cells.specs.Views.{tally, newcomer, naming, joining}
use Rattle.cd_cells.specs.Rule.{stop_of, Fine, Ordered}
use Rattle.cd_cells.specs.Steps.{unnaming, also_naming}
use Rattle.cd_cells.proofs.Listed.{often_append, often_one_out, often_one_less, often_out_else, nodes_append, nodes_out, find_node, knows_find, knows_out, knows_append}
use Rattle.cd_cells.proofs.Sums.{total_set, total_last}
use Rattle.cd_cells.proofs.Placed.{in_turning}
use Rattle.cd_cells.proofs.Framing.{within_mark}

module _ {K T : Type 0} (k : Kind T) (key : K) (s : State (Option (Cell K T)) (View K)) (r : Ordered k key s) where
  -- other views, which together list the same
  pub views_kept : (views : List (View K)) → ((q : Sort) (d : ℕ) → total (tally q d) views ≡ total (tally q d) s.views)
      → ((j : ℕ) (u : View K) → get_elem? views j ≡ some u → Fine k r.want r.table u)
      → total (λ u. u.stops) views ≡ total (λ u. u.stops) s.views → total (λ u. u.fresh) views ≡ total (λ u. u.fresh) s.views
      → Ordered k key (record { words = s.words; homes = s.homes; views = views })
  views_kept views same fine stops fresh = record {
    lawful = r.lawful;
    place = r.place;
    times = r.times;
    group = r.group;
    want = r.want;
    table = r.table;
    words = r.words;
    slots = r.slots;
    counts = λ q d l. same q d ∙ r.counts q d l;
    phases = r.phases;
    groups = r.groups;
    root = r.root;
    asked = r.asked;
    homes = r.homes;
    fine = fine;
    stop = r.stop ∙ ap stop_of (sym stops);
    fresh = fresh ∙ r.fresh;
  }

  module _ (id : ℕ) (v : View K) (at : get_elem? s.views id ≡ some v) where
    pub split_kept : (left right : View K) → ((q : Sort) (d : ℕ) → tally q d left + tally q d right ≡ tally q d v)
        → Fine k r.want r.table left → Fine k r.want r.table right → left.stops + right.stops ≡ v.stops → left.fresh + right.fresh ≡ v.fresh
        → Ordered k key (record { words = s.words; homes = s.homes; views = set s.views id left ++ right ∷ [] })
    split_kept left right same fine_left fine_right stops fresh = views_kept (set s.views id left ++ right ∷ [])
        (λ q d. sums (tally q d) (same q d))
        (λ j u e. ⊎_elim
        (λ before. ⊎_elim (λ t. subst (Fine k r.want r.table) t.1 fine_left) (λ t. r.fine j u t.1) (at_set s.views id j left u before))
        (λ is. subst (Fine k r.want r.table) is fine_right)
        (at_snoc (set s.views id left) right u j e))
        (sums (λ u. u.stops) stops)
        (sums (λ u. u.fresh) fresh)
      where
        sums : (f : View K → ℕ) → f left + f right ≡ f v → total f (set s.views id left ++ right ∷ []) ≡ total f s.views
        sums f e = let t = total_set f s.views id v left at in let l = total_last f (set s.views id left) right in omega arith

    pub join_kept : (other : ℕ) (w both spent : View K) → (other ≡ id → ⊥) → get_elem? (set s.views id both) other ≡ some w
        → ((q : Sort) (d : ℕ) → tally q d both + tally q d spent ≡ tally q d v + tally q d w)
        → Fine k r.want r.table both → Fine k r.want r.table spent → both.stops + spent.stops ≡ v.stops + w.stops → both.fresh + spent.fresh ≡ v.fresh + w.fresh
        → Ordered k key (record { words = s.words; homes = s.homes; views = set (set s.views id both) other spent })
    join_kept other w both spent ne at_other same fine_both fine_spent stops fresh = views_kept (set (set s.views id both) other spent)
        (λ q d. sums (tally q d) (same q d))
        (λ j u e. ⊎_elim
        (λ t. subst (Fine k r.want r.table) t.1 fine_spent)
        (λ before. ⊎_elim (λ t. subst (Fine k r.want r.table) t.1 fine_both) (λ t. r.fine j u t.1) (at_set s.views id j both u before.1))
        (at_set (set s.views id both) other j spent u e))
        (sums (λ u. u.stops) stops)
        (sums (λ u. u.fresh) fresh)
      where
        sums : (f : View K → ℕ) → f both + f spent ≡ f v + f w → total f (set (set s.views id both) other spent) ≡ total f s.views
        sums f e = let t = total_set f s.views id v both at in let l = total_set f (set s.views id both) other w spent at_other in omega arith

-- ---- views

new_tally : {K : Type 0} (key : Option K) (table : List ℕ) (q : Sort) (d : ℕ) → tally q d (newcomer key table) ≡ 0
unfolding tally
new_tally key table rights d = refl
new_tally key table turns d = refl
new_tally key table _ d = refl

module _ {K T : Type 0} (k : Kind T) (want : ℕ → Ask) (of : List ℕ) where
  new_fine : (key : Option K) (table : List ℕ) → (table ≡ []) ⊎ (table ≡ of) → Fine k want of (newcomer key table)
  unfolding tally
  new_fine key table e = record {
    table = e;
    named = tt;
    turned = tt;
    held = tt;
    names = λ d l. omega arith;
    last = λ d a b. omega arith;
  }

  name_fine : (key : Option K) (table : List ℕ) (a : Ask) → (table ≡ []) ⊎ (table ≡ of) → want a.node.0 ≡ a → Fine k want of (naming key table a)
  unfolding tally
  name_fine key table a e is = record {
    table = e;
    named = (is, tt);
    turned = tt;
    held = tt;
    names = λ d l. omega arith;
    last = λ d a b. omega arith;
  }

  join_fine : (v w : View K) → Fine k want of v → Fine k want of w → Fine k want of (joining v w)
  unfolding tally
  join_fine v w f h = record {
    table = f.table;
    named = knows_append want v.named w.named f.named h.named;
    turned = knows_append want v.turns w.turns f.turned h.turned;
    held = knows_append want v.holds w.holds f.held h.held;
    names = λ d l.
        let a = often_append d v.rights w.rights in
        let b = often_append d v.clears w.clears in
        let c = nodes_append d v.named w.named in
        let x : often d v.rights + often d v.clears ≤ often d (nodes v.named) = f.names d l in
        let y : often d w.rights + often d w.clears ≤ often d (nodes w.named) = h.names d l in
        omega arith;
    last = λ d m l.
        let a = often_append d v.owes w.owes in
        let b = often_append d v.takes w.takes in
        let c = often_append d v.clears w.clears in
        let e = often_append (k.up d) v.lasts w.lasts in
        let x : often d v.owes + often d v.takes + often d v.clears ≤ often (k.up d) v.lasts = f.last d m l in
        let y : often d w.owes + often d w.takes + often d w.clears ≤ often (k.up d) w.lasts = h.last d m l in
        omega arith;
  }

  unname_fine : (v : View K) (d : ℕ) → Fine k want of v → tally rights d v + tally clears d v < tally names d v → Fine k want of (unnaming v d)
  unfolding tally
  unname_fine v d f more = record {
    table = f.table;
    named = knows_out want d v.named f.named;
    turned = f.turned;
    held = f.held;
    names = λ e l.
        let a : often e (nodes (ask_out d v.named)) ≡ often e (one_out d (nodes v.named)) = ap (often e) (nodes_out d v.named) in
        let x : often e v.rights + often e v.clears ≤ often e (nodes v.named) = f.names e l in
        ⊎_elim
        (λ (q : e ≡ d).
        let y : often d v.rights + often d v.clears < often d (nodes v.named) = more in
        let z = often_one_less d (nodes v.named) (omega arith) in
        subst (λ (i : ℕ). often i v.rights + often i v.clears ≤ often i (nodes (ask_out d v.named))) (sym q)
        (let b : often d (nodes (ask_out d v.named)) ≡ often d (one_out d (nodes v.named)) = ap (often d) (nodes_out d v.named) in omega arith))
        (λ ne. let z = often_out_else e d (nodes v.named) ne in omega arith)
        (cases_eq e d);
    last = f.last;
  }

join_tally : {K : Type 0} (v w : View K) (q : Sort) (d : ℕ) → tally q d (joining v w) ≡ tally q d v + tally q d w
unfolding tally
join_tally v w rights d = often_append d v.rights w.rights
join_tally v w turns d = nodes_append d v.turns w.turns
join_tally v w holds d = nodes_append d v.holds w.holds
join_tally v w shuts d = often_append d v.shuts w.shuts
join_tally v w lasts d = often_append d v.lasts w.lasts
join_tally v w owes d = often_append d v.owes w.owes
join_tally v w takes d = often_append d v.takes w.takes
join_tally v w clears d = often_append d v.clears w.clears
join_tally v w names d = nodes_append d v.named w.named
join_tally v w posts d = often_append d v.posts w.posts
join_tally v w claims d = often_append d v.claims w.claims
join_tally v w arrives d = often_append d v.arrives w.arrives

unname_tally : {K : Type 0} (v : View K) (d : ℕ) → 0 < tally names d v → (q : Sort) (e : ℕ)
    → tally q e (unnaming v d) + tally q e (naming v.key v.table (find d v.named)) ≡ tally q e v
unfolding tally
unname_tally v d h names e =
    let a : often e (nodes (ask_out d v.named)) ≡ often e (one_out d (nodes v.named)) = ap (often e) (nodes_out d v.named) in
    let b = often_one_out e d (nodes v.named) h in
    let c : often e ((find d v.named).node.0 ∷ []) ≡ often e (d ∷ []) = ap (λ (y : ℕ). often e (y ∷ [])) (find_node d v.named h) in
    omega arith
unname_tally v d h _ e = omega arith

-- what a pass names is what is wanted
find_wanted : {K T : Type 0} (k : Kind T) (want : ℕ → Ask) (table : List ℕ) (v : View K) (d : ℕ) → Fine k want table v → 0 < tally names d v → want (find d v.named).node.0 ≡ find d v.named
unfolding tally
find_wanted k want table v d f h = ap want (find_node d v.named h) ∙ knows_find want d v.named f.named h

-- ---- the steps

module _ {K T : Type 0} (k : Kind T) (key : K) (id : ℕ) (v : View K) where
  pub splits : Splits {S = Option (Cell K T)} (Ordered k key) id v v (newcomer v.key v.table)
  splits s r at = split_kept k key s r id v at v (newcomer v.key v.table)
      (λ q d. let z = new_tally v.key v.table q d in omega arith)
      (r.fine id v at)
      (new_fine k r.want r.table v.key v.table (r.fine id v at).table)
      (omega arith) (omega arith)

  -- a domain that was turned and is to be posted takes its name along
  pub splits_ticket : (d : ℕ) → d < k.count → 0 < tally turns d v → 0 < tally names d v
      → Splits {S = Option (Cell K T)} (Ordered k key) id v (unnaming v d) (naming v.key v.table (find d v.named))
  splits_ticket d h turned named s r at =
      let within : (q : Sort) → tally q d v ≤ mark q (r.place d) (r.times d) = λ q. within_mark k.count r.place r.times s.views r.counts id v at q d h in
      let m = within turns in
      let is : r.place d ≡ turning = in_turning (r.place d) (r.times d) (omega arith) in
      let no_right : tally rights d v ≤ 0 = subst (λ (x : Where). tally rights d v ≤ mark rights x (r.times d)) is (within rights) in
      let not_cleared : tally clears d v ≤ 0 = subst (λ (x : Where). tally clears d v ≤ mark clears x (r.times d)) is (within clears) in
      let f = r.fine id v at in
      split_kept k key s r id v at (unnaming v d) (naming v.key v.table (find d v.named))
      (unname_tally v d named)
      (unname_fine k r.want r.table v d f (omega arith))
      (name_fine k r.want r.table v.key v.table (find d v.named) f.table (find_wanted k r.want r.table v d f named))
      (omega arith) (omega arith)

  pub joins : (other : ℕ) (w : View K) → Joins {S = Option (Cell K T)} (Ordered k key) id v other w (joining v w) (newcomer None [])
  joins other w s r at ne at_other =
      join_kept k key s r id v at other w (joining v w) (newcomer None []) ne at_other
      (λ q d. let a = join_tally v w q d in let z = new_tally {K = K} None [] q d in omega arith)
      (join_fine k r.want r.table v w (r.fine id v at) (r.fine other w (sym (set_else s.views id other (joining v w) ne) ∙ at_other)))
      (new_fine k r.want r.table None [] (inl refl))
      (omega arith) (omega arith)

-- a ticket that is taken back leaves its name
append_none : {A : Type 0} (xs : List A) → xs ++ [] ≡ xs
append_none [] = refl
append_none {A} (x ∷ xs) = ap (λ (l : List A). x ∷ l) (append_none xs)

none_more : (n : ℕ) → n + 0 ≡ n
none_more n = omega arith

pub join_ticket : {K : Type 0} (v : View K) (key : Option K) (table : List ℕ) (a : Ask) → joining v (naming key table a) ≡ also_naming v a
join_ticket v key table a = λ i. record v {
  fresh = none_more v.fresh i;
  rights = append_none v.rights i;
  turns = append_none v.turns i;
  holds = append_none v.holds i;
  shuts = append_none v.shuts i;
  lasts = append_none v.lasts i;
  owes = append_none v.owes i;
  takes = append_none v.takes i;
  clears = append_none v.clears i;
  named = v.named ++ a ∷ [];
  posts = append_none v.posts i;
  claims = append_none v.claims i;
  arrives = append_none v.arrives i;
  stops = none_more v.stops i;
}
