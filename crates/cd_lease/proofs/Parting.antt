-- A pass that is split off, and one that is taken back.
use Rattle.std.proofs.Common.{◌≡◌, ℕ, ◌+◌, ◌≤◌, List, [], ◌∷◌, ◌++◌, length, set, refl, sym, ap, ◌∙◌, subst, ⊎_elim, arith}
use mathlib.Core.Option.{some}
use lib.ListN.{get_elem?}
use Rattle.atomic_table.specs.Table.{Splits, Joins}
use Rattle.atomic_table.proofs.Lists.{at_set, at_snoc, set_else}
use Rattle.cd_lease.specs.declared.rule.Size.{Size}
use Rattle.cd_lease.specs.declared.view.View.{View}
use Rattle.cd_lease.specs.declared.view.Miss.{Miss}
use Rattle.cd_lease.specs.Control.{users_in}
use Rattle.cd_lease.specs.Views.{one_there, ids_of, fills_of, tries_of, holds_in, fills_in, uses_in, spent_by, total}
use Rattle.cd_lease.specs.Rule.{fillers, AllMissed, Stands, Leased}
use Rattle.cd_lease.specs.Seats.{IsIdle}
use Rattle.cd_lease.specs.Steps.{newcomer, without, joining}
use Rattle.cd_lease.proofs.Sums.{total_set, total_last}
use Rattle.cd_lease.proofs.Counting.{not_some, ids_most}
use Rattle.cd_lease.proofs.Changing.{stays, stands_on}

-- a pass stands where each block is filled as before
still : (size : Size) (ws : List ℕ) (fill now : ℕ → ℕ) (u : View) → ((b : ℕ) → now b ≡ fill b) → Stands size.blocks ws fill u → Stands size.blocks ws now u
still size ws fill now u e r = stands_on size.blocks ws ws fill now u r (λ b h. stays refl (e b) (λ i k. refl))

-- one with no room left and nothing held, which knows the same
fresh : (size : Size) (ws : List ℕ) (fill : ℕ → ℕ) (u : View) (n : ℕ) → Stands size.blocks ws fill u → Stands size.blocks ws fill (newcomer u.known n)
fresh size ws fill u n r = record {
  held = λ q k. absurd (omega arith);
  seen = r.seen;
  filled = λ q e. absurd (not_some q e);
  missed = tt;
  tried = omega arith;
}

pub spent_stands : (size : Size) (ws : List ℕ) (fill : ℕ → ℕ) (n : ℕ) → Stands size.blocks ws fill (newcomer [] n)
spent_stands size ws fill n = record {
  held = λ q k. absurd (omega arith);
  seen = λ q piece e. absurd (not_some piece e);
  filled = λ q e. absurd (not_some q e);
  missed = tt;
  tried = omega arith;
}

both_missed : (blocks : ℕ) (ws : List ℕ) (gs hs : List Miss) → AllMissed blocks ws gs → AllMissed blocks ws hs → AllMissed blocks ws (gs ++ hs)
both_missed blocks ws [] hs a b = b
both_missed blocks ws (g ∷ gs) hs a b = (a.0, both_missed blocks ws gs hs a.1 b)

pub splits : (size : Size) (id : ℕ) (v : View) (n : ℕ) → IsIdle v → n ≤ v.room → Splits (Leased size) id v (without v n) (newcomer v.known n)
splits size id v n idle few s r at =
    let left : View = without v n in
    let right : View = newcomer v.known n in
    let views : List View = set s.views id left ++ right ∷ [] in
    let sums : (f : View → ℕ) → total f views + f v ≡ total f s.views + f left + f right = λ f.
    let t = total_set f s.views id v left at in let l = total_last f (set s.views id left) right in omega arith in
    let fills : (b : ℕ) → fillers views b ≡ fillers s.views b = λ b. let t = sums (fills_in b) in omega arith in
    let ours : (k : ℕ) (u : View) → get_elem? s.views k ≡ some u → Stands size.blocks s.words (fillers views) u = λ k u e.
    still size s.words (fillers s.views) (fillers views) u fills (r.each k u e) in
    record {
      long = r.long;
      few = r.few;
      within = let t = sums spent_by in let w : total spent_by s.views ≤ size.most = r.within in omega arith;
      counted = λ b h. let t = sums (uses_in b) in let c : users_in s.words b ≡ total (uses_in b) s.views = r.counted b h in omega arith;
      alone = λ b k.
          let f = fills b in
          let is = r.alone b (omega arith) in
          let none : total (holds_in b) s.views ≡ 0 = is.none in
          let t = sums (holds_in b) in
          record { one = f ∙ is.one; none = omega arith };
      each = λ k u e. ⊎_elim
          (λ before. ⊎_elim
          (λ t. subst (λ (x : View). Stands size.blocks s.words (fillers views) x) t.1
          (let mine = ours id v at in
          record {
            held = mine.held;
            seen = mine.seen;
            filled = mine.filled;
            missed = mine.missed;
            tried = let z : one_there v.trying ≡ 0 = ap one_there idle.trying in omega arith;
          }))
          (λ t. ours k u t.1)
          (at_set s.views id k left u before))
          (λ is. subst (λ (x : View). Stands size.blocks s.words (fillers views) x) is (fresh size s.words (fillers views) v n (ours id v at)))
          (at_snoc (set s.views id left) right u k e);
    }

pub joins : (size : Size) (id : ℕ) (v : View) (child : ℕ) (w : View) → IsIdle w → length w.holds ≡ 0
    → Joins (Leased size) id v child w (joining v w) (newcomer [] 0)
joins size id v child w idle nothing s r at ne at_child =
    let both : View = joining v w in
    let spent : View = newcomer [] 0 in
    let middle : List View = set s.views id both in
    let views : List View = set middle child spent in
    let sums : (f : View → ℕ) → total f views + f v + f w ≡ total f s.views + f both + f spent = λ f.
    let t = total_set f s.views id v both at in let l = total_set f middle child w spent at_child in omega arith in
    let w_fills : (b : ℕ) → fills_in b w ≡ 0 = λ b. ap (fills_of b) idle.filling in
    let w_tries : (b : ℕ) → tries_of b w.trying ≡ 0 = λ b. ap (tries_of b) idle.trying in
    let w_holds : (b : ℕ) → holds_in b w ≡ 0 = λ b. let m : ids_of b w.holds ≤ length w.holds = ids_most b w.holds in omega arith in
    let fills : (b : ℕ) → fillers views b ≡ fillers s.views b = λ b. let t = sums (fills_in b) in let z = w_fills b in omega arith in
    let ours : (k : ℕ) (u : View) → get_elem? s.views k ≡ some u → Stands size.blocks s.words (fillers views) u = λ k u e.
    still size s.words (fillers s.views) (fillers views) u fills (r.each k u e) in
    let theirs = ours child w (sym (set_else s.views id child both ne) ∙ at_child) in
    record {
      long = r.long;
      few = r.few;
      within =
          let t = sums spent_by in
          let l : total spent_by s.views ≤ size.most = r.within in
          let z : one_there w.filling ≡ 0 = ap one_there idle.filling in
          omega arith;
      counted = λ b h.
          let t = sums (uses_in b) in
          let c : users_in s.words b ≡ total (uses_in b) s.views = r.counted b h in
          let f = w_fills b in
          let g = w_tries b in
          let d = w_holds b in
          omega arith;
      alone = λ b k.
          let f = fills b in
          let is = r.alone b (omega arith) in
          let none : total (holds_in b) s.views ≡ 0 = is.none in
          let t = sums (holds_in b) in
          let d = w_holds b in
          record { one = f ∙ is.one; none = omega arith };
      each = λ k u e. ⊎_elim
          (λ t. subst (λ (x : View). Stands size.blocks s.words (fillers views) x) t.1 (spent_stands size s.words (fillers views) 0))
          (λ before. ⊎_elim
          (λ t. subst (λ (x : View). Stands size.blocks s.words (fillers views) x) t.1
          (let mine = ours id v at in
          record {
            held = mine.held;
            seen = mine.seen;
            filled = mine.filled;
            missed = both_missed size.blocks s.words v.gone w.gone mine.missed theirs.missed;
            tried = let m : one_there v.trying ≤ v.room = mine.tried in omega arith;
          }))
          (λ t. ours k u t.1)
          (at_set s.views id k both u before.1))
          (at_set middle child k spent u e);
    }
