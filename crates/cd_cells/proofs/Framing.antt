-- What a step of one pass leaves of each part of the rule.
use Rattle.std.proofs.Common.{◌≡◌, ◌≢◌, ℕ, suc, ◌+◌, ◌*◌, ◌<◌, ◌≤◌, List, length, get_or, set, Option, sym, refl, ap, subst, ◌∙◌, arith, ⊎_elim, get_or-set_same, get_or-set_other}
use mathlib.Core.Option.{Option as Maybe, some}
use lib.ListN.{get_elem?}
use Rattle.atomic_table.proofs.Lists.{at_set}
use Rattle.cd_cells.specs.Asks.{Ask}
use Rattle.cd_cells.specs.declared.view.View.{View}
use Rattle.cd_cells.specs.declared.view.Cell.{Cell}
use Rattle.cd_cells.specs.Places.{Where, Sort, phase, mark, ahead, rests, ends, side, content}
use Rattle.cd_cells.specs.Places.Where.{waiting}
use Rattle.cd_cells.specs.Listing.{often, total}
use Rattle.cd_cells.specs.Kinds.{Kind}
use Rattle.cd_cells.specs.Views.{tally}
use Rattle.cd_cells.specs.Rule.{phase_at, count_at, root_at, Counts, Phases, Groups, Fine, Has, Homes}
use Rattle.cd_cells.proofs.Listed.{weigh_same}
use Rattle.cd_cells.proofs.Sums.{total_set, total_at, put, put_else, put_each}

-- ---- hands, rights and counts

module _ {K : Type 0} (n : ℕ) (place : ℕ → Where) (times : ℕ → ℕ) (views : List (View K)) (r : Counts n place times views) (id : ℕ) (v : View K)
    (at : get_elem? views id ≡ some v) where
  -- what a pass lists is within the mark of the place
  pub within_mark : (q : Sort) (d : ℕ) → d < n → tally q d v ≤ mark q (place d) (times d)
  within_mark q d h = let t = total_at (tally q d) views id v at in let c : total (tally q d) views ≡ mark q (place d) (times d) = r q d h in omega arith

  pub counts_kept : (w : View K) (place' : ℕ → Where) (times' : ℕ → ℕ)
      → ((q : Sort) (d : ℕ) → d < n → tally q d w + mark q (place d) (times d) ≡ tally q d v + mark q (place' d) (times' d))
      → Counts n place' times' (set views id w)
  counts_kept w place' times' h q d l =
      let t = total_set (tally q d) views id v w at in
      let c : total (tally q d) views ≡ mark q (place d) (times d) = r q d l in
      let k : tally q d w + mark q (place d) (times d) ≡ tally q d v + mark q (place' d) (times' d) = h q d l in
      let x : ℕ = total (tally q d) (set views id w) in
      let y : ℕ = mark q (place' d) (times' d) in
      let z : x ≡ y = omega arith in
      z

  -- one domain goes from one place to another
  pub counts_moved : (w : View K) (d : ℕ) (p p' : Where) → place d ≡ p
      → ((q : Sort) (e : ℕ) → e ≢ d → tally q e w ≡ tally q e v)
      → ((q : Sort) (t : ℕ) → tally q d w + mark q p t ≡ tally q d v + mark q p' t)
      → Counts n (put place d p') times (set views id w)
  counts_moved w d p p' is off on = counts_kept w (put place d p') times (λ q e l. put_each place d p'
      (λ i x. tally q i w + mark q (place i) (times i) ≡ tally q i v + mark q x (times i))
      (subst (λ (x : Where). tally q d w + mark q x (times d) ≡ tally q d v + mark q p' (times d)) (sym is) (on q (times d)))
      (λ i ne. ap (λ (x : ℕ). x + mark q (place i) (times i)) (off q i ne))
      e)

-- ---- words

module _ (words : List ℕ) where
  pub count_stays : (d x p : ℕ) → get_or (set words (phase_at d) x) (count_at p) 0 ≡ get_or words (count_at p) 0
  count_stays d x p = get_or-set_other words (2 * d + 1) (2 * p + 2) x 0 (λ e. omega arith)

  pub root_stays : (d x n : ℕ) → d < n → get_or (set words (phase_at d) x) (root_at n) 0 ≡ get_or words (root_at n) 0
  root_stays d x n h = get_or-set_other words (2 * d + 1) (2 * n + 1) x 0 (λ e. omega arith)

  pub stop_stays : (d x : ℕ) → get_or (set words (suc d) x) 0 0 ≡ get_or words 0 0
  stop_stays d x = get_or-set_other words (suc d) 0 x 0 (λ e. omega arith)

  pub phases_moved : (n : ℕ) (place : ℕ → Where) → Phases n place words → length words ≡ 2 * n + 2 → (d : ℕ) → d < n → (p' : Where)
      → Phases n (put place d p') (set words (phase_at d) (phase p'))
  phases_moved n place r long d h p' e = put_each place d p'
      (λ i x. i < n → get_or (set words (phase_at d) (phase p')) (phase_at i) 0 ≡ phase x)
      (λ l. get_or-set_same words (2 * d + 1) (phase p') 0 (omega arith))
      (λ i ne l. get_or-set_other words (2 * d + 1) (2 * i + 1) (phase p') 0 (λ q. ne (omega arith)) ∙ r i l)
      e

  -- a word that is no domain's phase word, and the places' phases stay
  pub phases_stay : (n : ℕ) (place place' : ℕ → Where) → Phases n place words → (i x : ℕ) → ((d : ℕ) → d < n → phase_at d ≢ i)
      → ((d : ℕ) → phase (place' d) ≡ phase (place d)) → Phases n place' (set words i x)
  phases_stay n place place' r i x other same d h = get_or-set_other words i (2 * d + 1) x 0 (other d h) ∙ (r d h ∙ sym (same d))

-- ---- groups

-- for a group two places are alike
pub record Alike (p q : Where) : Type 0 where
  pub ahead_is : ahead q ≡ ahead p
  pub rests_is : rests q ≡ rests p
  pub ends_is : ends q ≡ ends p
  pub side_is : side q ≡ side p
  pub waits : q ≡ waiting → p ≡ waiting

pub alike_self : (p : Where) → Alike p p
alike_self p = record { ahead_is = refl; rests_is = refl; ends_is = refl; side_is = refl; waits = λ e. e }

pub groups_alike : {T : Type 0} (k : Kind T) (place place' : ℕ → Where) (group : ℕ → List ℕ) (words words' : List ℕ) → Groups k place group words
    → ((d : ℕ) → Alike (place d) (place' d)) → ((p : ℕ) → p < k.count → get_or words' (count_at p) 0 ≡ get_or words (count_at p) 0)
    → Groups k place' group words'
groups_alike k place place' group words words' r same stays = record {
  word = λ p h is. stays p h ∙ (r.word p h (sym (same p).rests_is ∙ is)
      ∙ weigh_same (λ m. ahead (place m)) (λ m. ahead (place' m)) (group p) (λ m k. sym (same m).ahead_is));
  above = λ p h is. subst (λ (x : ℕ). 0 < x) (sym (stays p h)) (r.above p h ((same p).waits is));
  member = r.member;
  sides = λ p h m k. (same m).side_is ∙ (r.sides p h m k ∙ ap (λ (x : ℕ). 1 + x) (sym (same p).ends_is));
  grouped = λ m h l k. r.grouped m h l (subst (λ (x : ℕ). 0 < x) (same m).side_is k);
  none = λ p h is. r.none p h (sym (same p).rests_is ∙ is);
}

-- the root is no member: where it alone goes to another place, its numbers for members do not matter
pub groups_at_root : {T : Type 0} (k : Kind T) (place : ℕ → Where) (q : Where) (group : ℕ → List ℕ) (words words' : List ℕ) → Groups k place group words
    → rests q ≡ rests (place 0) → ends q ≡ ends (place 0) → (q ≡ waiting → place 0 ≡ waiting)
    → ((p : ℕ) → p < k.count → get_or words' (count_at p) 0 ≡ get_or words (count_at p) 0)
    → Groups k (put place 0 q) group words'
groups_at_root k place q group words words' r same_rests same_ends waits stays = record {
  word = λ p l rest. stays p l ∙ (r.word p l (sym (rests_as p) ∙ rest)
      ∙ weigh_same (λ m. ahead (place m)) (λ m. ahead (put place 0 q m)) (group p) (λ m i. ap ahead (sym (put_else place 0 q m (not_root p l m i)))));
  above = λ p l e. subst (λ (x : ℕ). 0 < x) (sym (stays p l)) (r.above p l (waits_before p e));
  member = r.member;
  sides = λ p l m i. ap side (put_else place 0 q m (not_root p l m i)) ∙ (r.sides p l m i ∙ ap (λ (x : ℕ). 1 + x) (sym (ends_as p)));
  grouped = λ m a b sent. r.grouped m a b (subst (λ (x : Where). 0 < side x) (put_else place 0 q m (λ z. absurd (omega arith))) sent);
  none = λ p l rest. r.none p l (sym (rests_as p) ∙ rest);
}
  where
    not_root : (p : ℕ) → p < k.count → (m : ℕ) → 0 < often m (group p) → m ≢ 0
    not_root p l m i z = let a : 0 < m = (r.member p l m i).above in omega arith

    rests_as : (p : ℕ) → rests (put place 0 q p) ≡ rests (place p)
    rests_as = put_each place 0 q (λ p x. rests x ≡ rests (place p)) same_rests (λ p ne. refl)

    ends_as : (p : ℕ) → ends (put place 0 q p) ≡ ends (place p)
    ends_as = put_each place 0 q (λ p x. ends x ≡ ends (place p)) same_ends (λ p ne. refl)

    waits_before : (p : ℕ) → put place 0 q p ≡ waiting → place p ≡ waiting
    waits_before = put_each place 0 q (λ p x. x ≡ waiting → place p ≡ waiting) waits (λ p ne e. e)

-- ---- cells at home

module _ {K T : Type 0} (k : Kind T) (key : K) (table : List ℕ) (want : ℕ → Ask) (group : ℕ → List ℕ) (place : ℕ → Where)
    (homes : List (Maybe (Option (Cell K T)))) (r : Homes k key table want group place homes) where
  pub homes_moved : (homes' : List (Maybe (Option (Cell K T)))) (d : ℕ) (p' : Where) → d < k.count
      → ((e : ℕ) → e ≢ d → get_elem? homes' e ≡ get_elem? homes e)
      → Has k key table want d (group d) (content p') (get_elem? homes' d)
      → Homes k key table want group (put place d p') homes'
  homes_moved homes' d p' h other here e = put_each place d p'
      (λ i x. i < k.count → Has k key table want i (group i) (content x) (get_elem? homes' i) × ((want i).node.0 ≡ i))
      (λ l. (here, (r d l).1))
      (λ i ne l. (subst (Has k key table want i (group i) (content (place i))) (sym (other i ne)) (r i l).0, (r i l).1))
      e

-- ---- views

pub fine_set : {K T : Type 0} (k : Kind T) (want : ℕ → Ask) (table : List ℕ) (views : List (View K)) (id : ℕ) (w : View K)
    → ((j : ℕ) (u : View K) → get_elem? views j ≡ some u → Fine k want table u) → Fine k want table w
    → (j : ℕ) (u : View K) → get_elem? (set views id w) j ≡ some u → Fine k want table u
fine_set k want table views id w r mine j u e = ⊎_elim
    (λ t. subst (Fine k want table) t.1 mine)
    (λ t. r j u t.1)
    (at_set views id j w u e)
