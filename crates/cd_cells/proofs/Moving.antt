-- A step that moves one domain, or none, keeps the rule.
use Rattle.std.proofs.Common.{◌≡◌, ◌≢◌, ℕ, zero, suc, ◌+◌, ◌*◌, ◌<◌, List, [], ◌∷◌, length, get_or, set, Option, sym, refl, ap, subst, ◌∙◌, arith, length-set, get_or-set_other}
use mathlib.Core.Option.{Option as Maybe, some, none}
use lib.ListN.{get_elem?}
use Rattle.atomic_table.specs.Table.{State, rest, put_back, stepped, takes, gives}
use Rattle.atomic_table.proofs.Lists.{set_here, set_else}
use Rattle.cd_cells.specs.declared.view.View.{View}
use Rattle.cd_cells.specs.declared.view.Cell.{Cell}
use Rattle.cd_cells.specs.Places.{Where, Sort, Content, phase, mark, seal, over, content}
use Rattle.cd_cells.specs.Places.Content.{away}
use Rattle.cd_cells.specs.Listing.{total}
use Rattle.cd_cells.specs.Kinds.{Kind}
use Rattle.cd_cells.specs.Views.{tally}
use Rattle.cd_cells.specs.Rule.{phase_at, root_at, Rooted, Fine, Has, stop_of, Ordered}
use Rattle.cd_cells.proofs.Sums.{total_set, put, put_each}
use Rattle.cd_cells.proofs.Framing.{counts_kept, counts_moved, count_stays, root_stays, phases_moved, Alike, alike_self, groups_alike, homes_moved, fine_set}

pub set_self : (l : List ℕ) (i : ℕ) → set l i (get_or l i 0) ≡ l
set_self [] i = refl
set_self (x ∷ xs) zero = refl
set_self (x ∷ xs) (suc i) = ap (λ (l : List ℕ). x ∷ l) (set_self xs i)

pub total_same : {A : Type 0} (f : A → ℕ) (l : List A) (i : ℕ) (v w : A) → get_elem? l i ≡ some v → f w ≡ f v → total f (set l i w) ≡ total f l
total_same f l i v w at e = let t = total_set f l i v w at in omega arith

pub rooted_as : (p q : Where) → seal q ≡ seal p → over q ≡ over p → (t w : ℕ) → Rooted p t w → Rooted q t w
rooted_as p q s o t w r = record { word = r.word ∙ sym s; never = subst (λ (x : ℕ). x < 3) (sym s) r.never; times = r.times ∙ sym o }

module _ {K T : Type 0} (k : Kind T) (key : K) (s : State (Option (Cell K T)) (View K)) (r : Ordered k key s) (id : ℕ) (v : View K)
    (at : get_elem? s.views id ≡ some v) where
  -- one domain goes from p to q, with its phase word and its slot
  pub moved : (d : ℕ) → d < k.count → (p q : Where) → r.place d ≡ p → Alike p q → seal q ≡ seal p → over q ≡ over p → (w : View K)
      → ((x : Sort) (e : ℕ) → e ≢ d → tally x e w ≡ tally x e v)
      → ((x : Sort) (t : ℕ) → tally x d w + mark x p t ≡ tally x d v + mark x q t)
      → Fine k r.want r.table w → w.stops ≡ v.stops → w.fresh ≡ v.fresh
      → (homes : List (Maybe (Option (Cell K T)))) → length homes ≡ length s.homes → ((e : ℕ) → e ≢ d → get_elem? homes e ≡ get_elem? s.homes e)
      → Has k key r.table r.want d (r.group d) (content q) (get_elem? homes d)
      → Ordered k key (record { words = set s.words (phase_at d) (phase q); homes = homes; views = set s.views id w })
  moved d h p q is alike sealed round w off on fine stops fresh homes len other here = record {
    lawful = r.lawful;
    place = put r.place d q;
    times = r.times;
    group = r.group;
    want = r.want;
    table = r.table;
    words = length-set s.words (phase_at d) (phase q) ∙ r.words;
    slots = len ∙ r.slots;
    counts = counts_moved k.count r.place r.times s.views r.counts id v at w d p q is off on;
    phases = phases_moved s.words k.count r.place r.phases r.words d h q;
    groups = groups_alike k r.place (put r.place d q) r.group s.words (set s.words (phase_at d) (phase q)) r.groups
        (put_each r.place d q (λ i x. Alike (r.place i) x) (subst (λ (x : Where). Alike x q) (sym is) alike) (λ i ne. alike_self (r.place i)))
        (λ i l. count_stays s.words d (phase q) i);
    root = put_each r.place d q (λ i x. (t n : ℕ) → Rooted (r.place i) t n → Rooted x t n)
        (subst (λ (x : Where). (t n : ℕ) → Rooted x t n → Rooted q t n) (sym is) (rooted_as p q sealed round))
        (λ i ne t n y. y) 0 (r.times 0) (get_or (set s.words (phase_at d) (phase q)) (root_at k.count) 0)
        (subst (Rooted (r.place 0) (r.times 0)) (sym (root_stays s.words d (phase q) k.count h)) r.root);
    asked = r.asked;
    homes = homes_moved k key r.table r.want r.group r.place s.homes r.homes homes d q h other here;
    fine = fine_set k r.want r.table s.views id w r.fine fine;
    stop = get_or-set_other s.words (2 * d + 1) 0 (phase q) 0 (λ e. omega arith) ∙ (r.stop ∙ ap stop_of (sym (total_same (λ u. u.stops) s.views id v w at stops)));
    fresh = total_same (λ u. u.fresh) s.views id v w at fresh ∙ r.fresh;
  }

  -- its cell comes in hand
  pub moved_out : (d : ℕ) → d < k.count → (p q : Where) → r.place d ≡ p → Alike p q → seal q ≡ seal p → over q ≡ over p → content q ≡ away → (w : View K)
      → ((x : Sort) (e : ℕ) → e ≢ d → tally x e w ≡ tally x e v)
      → ((x : Sort) (t : ℕ) → tally x d w + mark x p t ≡ tally x d v + mark x q t)
      → Fine k r.want r.table w → w.stops ≡ v.stops → w.fresh ≡ v.fresh
      → (c : List (ℕ × Option (Cell K T))) (y : Option (Cell K T))
      → Ordered k key (stepped s (phase_at d) (phase q) id c w (takes d y))
  moved_out d h p q is alike sealed round gone w off on fine stops fresh c y =
      moved d h p q is alike sealed round w off on fine stops fresh (set s.homes d none) (length-set s.homes d none)
      (λ e ne. set_else s.homes d e none ne)
      (subst (λ (x : Content). Has k key r.table r.want d (r.group d) x (get_elem? (set s.homes d none) d)) (sym gone)
      (set_here s.homes d none (subst (λ (n : ℕ). d < n) (sym r.slots) h)))

  -- its cell comes home
  pub moved_home : (d : ℕ) → d < k.count → (p q : Where) → r.place d ≡ p → Alike p q → seal q ≡ seal p → over q ≡ over p → (w : View K)
      → ((x : Sort) (e : ℕ) → e ≢ d → tally x e w ≡ tally x e v)
      → ((x : Sort) (t : ℕ) → tally x d w + mark x p t ≡ tally x d v + mark x q t)
      → Fine k r.want r.table w → w.stops ≡ v.stops → w.fresh ≡ v.fresh
      → (c : List (ℕ × Option (Cell K T))) (y : Option (Cell K T)) → c ≡ (d, y) ∷ rest c
      → Has k key r.table r.want d (r.group d) (content q) (some (some y))
      → Ordered k key (stepped s (phase_at d) (phase q) id c w gives)
  moved_home d h p q is alike sealed round w off on fine stops fresh c y e here =
      subst (λ (hs : List (Maybe (Option (Cell K T)))). Ordered k key (record { words = set s.words (phase_at d) (phase q); homes = hs; views = set s.views id w }))
      (sym (ap (put_back s.homes) e))
      (moved d h p q is alike sealed round w off on fine stops fresh (set s.homes d (some y)) (length-set s.homes d (some y))
      (λ i ne. set_else s.homes d i (some y) ne)
      (subst (Has k key r.table r.want d (r.group d) (content q)) (sym (set_here s.homes d (some y) (subst (λ (n : ℕ). d < n) (sym r.slots) h))) here))

  -- nothing moves
  pub unmoved : (w : View K) → ((x : Sort) (e : ℕ) → tally x e w ≡ tally x e v) → Fine k r.want r.table w → w.stops ≡ v.stops → w.fresh ≡ v.fresh
      → Ordered k key (record { words = s.words; homes = s.homes; views = set s.views id w })
  unmoved w off fine stops fresh = record {
    lawful = r.lawful;
    place = r.place;
    times = r.times;
    group = r.group;
    want = r.want;
    table = r.table;
    words = r.words;
    slots = r.slots;
    counts = counts_kept k.count r.place r.times s.views r.counts id v at w r.place r.times (λ x e l. ap (λ (n : ℕ). n + mark x (r.place e) (r.times e)) (off x e));
    phases = r.phases;
    groups = r.groups;
    root = r.root;
    asked = r.asked;
    homes = r.homes;
    fine = fine_set k r.want r.table s.views id w r.fine fine;
    stop = r.stop ∙ ap stop_of (sym (total_same (λ u. u.stops) s.views id v w at stops));
    fresh = total_same (λ u. u.fresh) s.views id v w at fresh ∙ r.fresh;
  }

  -- nothing moves, and the word that was met stays
  pub unmoved_at : (i : ℕ) (w : View K) → ((x : Sort) (e : ℕ) → tally x e w ≡ tally x e v) → Fine k r.want r.table w → w.stops ≡ v.stops → w.fresh ≡ v.fresh
      → Ordered k key (record { words = set s.words i (get_or s.words i 0); homes = s.homes; views = set s.views id w })
  unmoved_at i w off fine stops fresh =
      subst (λ (ws : List ℕ). Ordered k key (record { words = ws; homes = s.homes; views = set s.views id w })) (sym (set_self s.words i))
      (unmoved w off fine stops fresh)
