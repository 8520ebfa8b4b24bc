-- The laws that follow from the rule.
use Rattle.std.proofs.Common.{◌≡◌, ◌≢◌, ℕ, ◌+◌, ◌<◌, ◌≤◌, ◌==◌, ◌⊎◌, inl, inr, List, get_or, Option, None, Some, sym, refl, ap, subst, ◌∙◌, arith, ⊎_elim, zero, suc, ◌∷◌, []}
use mathlib.Core.Option.{some, none, some-injective, some-ne-none}
use lib.ListN.{get_elem?}
use Rattle.cd_cells.specs.Asks.{Ask}
use Rattle.cd_cells.specs.declared.view.View.{View}
use Rattle.cd_cells.specs.declared.view.Cell.{Cell}
use Rattle.cd_cells.specs.Places.{Where, Content, phase, behind, unmet, mark, rests, side, seal, over, content, ahead, ends}
use Rattle.cd_cells.specs.Places.Where.{idle, turning, ready, out, waiting, full, owed, taken, cleared, gone}
use Rattle.cd_cells.specs.Places.Sort.{rights, turns, holds, shuts, takes, names, posts, claims, arrives, lasts, owes, clears}
use Rattle.cd_cells.specs.Places.Content.{nothing, away, fresh, waits, ended}
use Rattle.cd_cells.specs.Listing.{one_if, often, find, total}
use Rattle.cd_cells.specs.Kinds.{Kind}
use Rattle.cd_cells.specs.Views.{tally}
use Rattle.cd_cells.specs.Rule.{phase_at, Slot, Waiting, Has}
use Rattle.cd_cells.specs.Laws.{all_of, CountsAgree, ClaimedOnce, RootOnce, OneHand, AsksOfParents, LastHasAll}
use Rattle.cd_cells.proofs.Framing.{within_mark}
use Rattle.cd_cells.proofs.Listed.{weigh_none}
use Rattle.cd_cells.proofs.Placed.{in_full}
use Rattle.cd_cells.proofs.Resuming.{named_as}

-- ---- numbers of a place

behind_is : (p : Where) → behind p ≡ unmet p + one_if (phase p == 2)
behind_is ready = refl
behind_is out = refl
behind_is _ = refl

unmet_is : (p : Where) (t : ℕ) → unmet p ≡ mark holds p t + rests p
unmet_is out t = refl
unmet_is waiting t = refl
unmet_is _ t = refl

unmet_most : (p : Where) → unmet p ≤ 1
unmet_most out = omega arith
unmet_most _ = omega arith

rests_is : (p : Where) → (rests p ≡ 0) ⊎ ((rests p ≡ 1) × (content p ≡ waits))
rests_is waiting = inr (refl, refl)
rests_is full = inr (refl, refl)
rests_is _ = inl refl

root_sum : (p : Where) (t : ℕ) → seal p < 3 → mark rights p t + mark turns p t + (over p + behind p) ≡ 1
root_sum idle t h = absurd (omega arith)
root_sum owed t h = absurd (omega arith)
root_sum taken t h = absurd (omega arith)
root_sum cleared t h = absurd (omega arith)
root_sum _ t h = refl

abbrev hands : Where → ℕ → ℕ
hands p t = mark turns p t + mark holds p t + mark takes p t + mark shuts p t

away_is : (p : Where) (t : ℕ) → ((content p ≡ away) × (hands p t ≡ 1)) ⊎ ((content p ≢ away) × (hands p t ≡ 0))
away_is turning t = inl (refl, refl)
away_is out t = inl (refl, refl)
away_is taken t = inl (refl, refl)
away_is gone t = inl (refl, refl)
away_is _ t = inr ((λ e. absurd (cc)), refl)

named_side : (p : Where) (t : ℕ) → 0 < mark names p t → 0 < side p
named_side idle t h = absurd (omega arith)
named_side _ t h = omega arith

named_most : (p : Where) (t : ℕ) → mark names p t ≤ 1
named_most idle t = omega arith
named_most _ t = omega arith

-- ---- what the slot of a place has

module _ {K T : Type 0} (k : Kind T) (key : K) (table : List ℕ) (want : ℕ → Ask) (d : ℕ) (g : List ℕ) (h : Slot K T) where
  some_apart : (o : Option (Cell K T)) → h ≡ some (some o) → h ≡ some none → ⊥
  some_apart o e n = some-ne-none o (some-injective (some o) none (sym e ∙ n))

  not_away : (c : Content) → Has k key table want d g c h → c ≢ away → h ≡ some none → ⊥
  not_away nothing is ne e = some_apart None is e
  not_away away is ne e = ne refl
  not_away fresh is ne e = some_apart (Some is.cell) is.home e
  not_away waits is ne e = some_apart (Some is.cell) is.home e
  not_away ended is ne e = some_apart (Some is.cell) is.home e

-- ---- the laws

module _ {K T : Type 0} (kind : K → Kind T) where
  pub counts_agree : CountsAgree kind
  counts_agree key s r d h =
      let k : Kind T = kind key in
      let p : Where = r.place d in
      let t : ℕ = r.times d in
      let a : all_of posts d s ≡ t + behind p = r.counts posts d h in
      let b : all_of claims d s ≡ t + unmet p = r.counts claims d h in
      let c : all_of arrives d s ≡ t = r.counts arrives d h in
      let e : all_of holds d s ≡ mark holds p t = r.counts holds d h in
      let x = behind_is p in
      let y = unmet_is p t in
      let z = unmet_most p in
      let word : one_if (get_or s.words (phase_at d) 0 == 2) ≡ one_if (phase p == 2) = ap (λ (n : ℕ). one_if (n == 2)) (r.phases d h) in
      record {
        resting = rests p;
        posted = omega arith;
        claimed = omega arith;
        rests = ⊎_elim
            (λ none_there. inl none_there)
            (λ one.
            let kept : Waiting k key r.table r.want d (r.group d) (get_elem? s.homes d) = subst (λ (i : Content). Has k key r.table r.want d (r.group d) i (get_elem? s.homes d)) one.1 (r.homes d h).0 in
            inr (one.0, record { cell = kept.cell; ask = r.want d; home = kept.home; node = (r.homes d h).1; waits = kept.answers }))
            (rests_is p);
        one = omega arith;
      }

  pub claimed_once : ClaimedOnce kind
  claimed_once key s r d h =
      let p : Where = r.place d in
      let t : ℕ = r.times d in
      let a : all_of posts d s ≡ t + behind p = r.counts posts d h in
      let b : all_of claims d s ≡ t + unmet p = r.counts claims d h in
      let c : all_of arrives d s ≡ t = r.counts arrives d h in
      let x = behind_is p in
      let y = behind_most p in
      record { claim = omega arith; arrival = omega arith; post = omega arith }
    where
      behind_most : (p : Where) → behind p ≤ 1
      behind_most ready = omega arith
      behind_most _ = omega arith

  pub root_once : RootOnce kind
  root_once key s r =
      let p : Where = r.place 0 in
      let t : ℕ = r.times 0 in
      let a : all_of rights 0 s ≡ mark rights p t = r.counts rights 0 r.lawful.some in
      let b : all_of turns 0 s ≡ mark turns p t = r.counts turns 0 r.lawful.some in
      let c : all_of posts 0 s ≡ t + behind p = r.counts posts 0 r.lawful.some in
      let e : t ≡ over p = r.root.times in
      let x = root_sum p t r.root.never in
      omega arith

  pub one_hand : OneHand kind
  one_hand key s r d h =
      let k : Kind T = kind key in
      let p : Where = r.place d in
      let t : ℕ = r.times d in
      let a : all_of turns d s ≡ mark turns p t = r.counts turns d h in
      let b : all_of holds d s ≡ mark holds p t = r.counts holds d h in
      let c : all_of takes d s ≡ mark takes p t = r.counts takes d h in
      let e : all_of shuts d s ≡ mark shuts p t = r.counts shuts d h in
      ⊎_elim
      (λ gone_out. record {
        away = λ _. let x : hands p t ≡ 1 = gone_out.1 in omega arith;
        home = λ o is. absurd (some_apart k key r.table r.want d (r.group d) (get_elem? s.homes d) o is
            (subst (λ (i : Content). Has k key r.table r.want d (r.group d) i (get_elem? s.homes d)) gone_out.0 (r.homes d h).0));
      })
      (λ here. record {
        away = λ is. absurd (not_away k key r.table r.want d (r.group d) (get_elem? s.homes d) (content p) (r.homes d h).0 here.0 is);
        home = λ o is. let x : hands p t ≡ 0 = here.1 in omega arith;
      })
      (away_is p t)

  pub asks_of_parents : AsksOfParents kind
  asks_of_parents key s r j v at d h named =
      let k : Kind T = kind key in
      let p : Where = r.place d in
      let t : ℕ = r.times d in
      let a : all_of names d s ≡ mark names p t = r.counts names d h in
      let m : tally names d v ≤ mark names p t = within_mark k.count r.place r.times s.views r.counts j v at names d h in
      let x = named_most p t in
      let wanted : r.want d ≡ find d v.named = named_as k r.want r.table v d (r.fine j v at) named in
      record {
        alone = omega arith;
        root = λ e. sym wanted ∙ (ap r.want e ∙ r.asked);
        member = λ above.
            let below : k.up d < k.count = r.lawful.above d above h in
            let i : 0 < often d (r.group (k.up d)) = r.groups.grouped d above h (named_side p t (omega arith)) in
            ⊎_elim
            (λ none_there. absurd (let z : often d (r.group (k.up d)) ≡ 0 = ap (often d) (r.groups.none (k.up d) below none_there) in omega arith))
            (λ one.
            let kept : Waiting k key r.table r.want (k.up d) (r.group (k.up d)) (get_elem? s.homes (k.up d)) =
            subst (λ (c : Content). Has k key r.table r.want (k.up d) (r.group (k.up d)) c (get_elem? s.homes (k.up d))) one.1 (r.homes (k.up d) below).0 in
            (kept.cell, kept.home, subst (λ (l : List ℕ). 0 < often d l) (sym kept.group) i, sym wanted ∙ kept.asks d i))
            (rests_is (r.place (k.up d)));
      }

-- ---- the pass that may take a domain's members

all_most : {A : Type 0} (f h : A → ℕ) (l : List A) → ((j : ℕ) (u : A) → get_elem? l j ≡ some u → f u ≤ h u) → total f l ≤ total h l
all_most f h [] most = omega arith
all_most f h (x ∷ xs) most = let a : f x ≤ h x = most zero x refl in let r = all_most f h xs (λ j u q. most (suc j) u q) in omega arith

-- what of all views is at most one thing of them: who has all of the one has all of the other
pub rest_most : {A : Type 0} (f h : A → ℕ) (l : List A) → ((j : ℕ) (u : A) → get_elem? l j ≡ some u → f u ≤ h u) → (i : ℕ) (v : A) → get_elem? l i ≡ some v
    → total f l + h v ≤ total h l + f v
rest_most f h [] most i v e = absurd (some-ne-none v (sym e))
rest_most f h (x ∷ xs) most zero v e =
    let a : f x ≡ f v = ap f (some-injective x v e) in
    let b : h x ≡ h v = ap h (some-injective x v e) in
    let c : total f xs ≤ total h xs = all_most f h xs (λ j u q. most (suc j) u q) in
    omega arith
rest_most f h (x ∷ xs) most (suc i) v e =
    let a : f x ≤ h x = most zero x refl in
    let r = rest_most f h xs (λ j u q. most (suc j) u q) i v e in
    omega arith

total_sum : {A : Type 0} (f h : A → ℕ) (l : List A) → total (λ u. f u + h u) l ≡ total f l + total h l
total_sum f h [] = refl
total_sum f h (x ∷ xs) = let r = total_sum f h xs in omega arith

one_late : (p : Where) (t : ℕ) → side p ≡ 2 → mark owes p t + mark takes p t + mark clears p t ≡ 1
one_late owed t h = refl
one_late taken t h = refl
one_late cleared t h = refl
one_late _ t h = absurd (omega arith)

not_ahead : (p : Where) → side p ≡ 2 → ahead p ≡ 0
not_ahead owed h = refl
not_ahead taken h = refl
not_ahead cleared h = refl
not_ahead _ h = absurd (omega arith)

module _ {K T : Type 0} (kind : K → Kind T) where
  pub last_has_all : LastHasAll kind
  last_has_all key s r j v at p h last =
      let k : Kind T = kind key in
      let a : all_of lasts p s ≡ mark lasts (r.place p) (r.times p) = r.counts lasts p h in
      let w = within_mark k.count r.place r.times s.views r.counts j v at lasts p h in
      let is : r.place p ≡ full = in_full (r.place p) (r.times p) (omega arith) in
      let one : all_of lasts p s ≡ 1 = a ∙ ap (λ (x : Where). mark lasts x (r.times p)) is in
      let mine : tally lasts p v ≤ 1 = subst (λ (x : Where). tally lasts p v ≤ mark lasts x (r.times p)) is w in
      let late : (m : ℕ) → 0 < often m (r.group p) → side (r.place m) ≡ 2 = λ m i. r.groups.sides p h m i ∙ ap (λ (x : Where). 1 + ends x) is in
      let kept : Waiting k key r.table r.want p (r.group p) (get_elem? s.homes p) =
      subst (λ (x : Where). Has k key r.table r.want p (r.group p) (content x) (get_elem? s.homes p)) is (r.homes p h).0 in (
        one,
        r.groups.word p h (ap rests is) ∙ weigh_none (λ m. ahead (r.place m)) (r.group p) (λ m i. not_ahead (r.place m) (late m i)),
        (
          kept.cell,
          kept.home,
          λ m i'.
              let i : 0 < often m (r.group p) = subst (λ (l : List ℕ). 0 < often m l) kept.group i' in
              let member = r.groups.member p h m i in
              let f : View K → ℕ = λ u. tally owes m u + tally takes m u + tally clears m u in
              let x : all_of owes m s ≡ mark owes (r.place m) (r.times m) = r.counts owes m member.below in
              let y : all_of takes m s ≡ mark takes (r.place m) (r.times m) = r.counts takes m member.below in
              let z : all_of clears m s ≡ mark clears (r.place m) (r.times m) = r.counts clears m member.below in
              let all_one = one_late (r.place m) (r.times m) (late m i) in
              let sums : total f s.views ≡ all_of owes m s + all_of takes m s + all_of clears m s =
              total_sum (λ u. tally owes m u + tally takes m u) (tally clears m) s.views
              ∙ ap (λ (n : ℕ). n + all_of clears m s) (total_sum (tally owes m) (tally takes m) s.views) in
              let under : (n : ℕ) (u : View K) → get_elem? s.views n ≡ some u → f u ≤ tally lasts p u = λ n u e.
              subst (λ (q : ℕ). f u ≤ tally lasts q u) member.parent ((r.fine n u e).last m member.above member.below) in
              let most : total f s.views + tally lasts p v ≤ all_of lasts p s + f v = rest_most f (tally lasts p) s.views under j v at in
              let here : f v ≤ tally lasts p v = under j v at in
              record {
                has = let g : ℕ = f v in let t : ℕ = total f s.views in let goal : g ≡ 1 = omega arith in goal;
                named = let n = (r.fine j v at).names m member.below in omega arith;
                alone = omega arith;
              },
        ),
      )
