-- A step of one pass keeps the rule where the counts agree, the stepping pass stands, and each block changes for the others in
-- one of three ways.
use Rattle.std.proofs.Common.{◌≡◌, ◌≢◌, ℕ, ◌+◌, ◌<◌, ◌≤◌, List, length, set, ◌∙◌, subst, ⊎_elim, arith, length-set}
use mathlib.Core.Option.{some}
use lib.ListN.{get_elem?}
use Rattle.atomic_table.specs.Table.{State, keeps, stepped}
use Rattle.atomic_table.proofs.Lists.{at_set}
use Rattle.cd_lease.specs.declared.rule.Size.{Size}
use Rattle.cd_lease.specs.declared.view.View.{View}
use Rattle.cd_lease.specs.Control.{users_in}
use Rattle.cd_lease.specs.Views.{one_there, ids_of, fills_of, tries_of, holds_in, fills_in, uses_in, spent_by, total}
use Rattle.cd_lease.specs.Rule.{fillers, Stands, IsAlone, Leased}
use Rattle.cd_lease.proofs.Sums.{total_set, total_most}
use Rattle.cd_lease.proofs.Counting.{ids_most, fills_most, tries_most}
use Rattle.cd_lease.proofs.Changing.{Change, stands_on}

abbrev pub St : Type 0
St = State (Unit {0}) View

-- what a pass uses of one block is within what it spends
pub uses_spent : (b : ℕ) (v : View) → one_there v.trying ≤ v.room → uses_in b v ≤ spent_by v
uses_spent b v h =
    let i : ids_of b v.holds ≤ length v.holds = ids_most b v.holds in
    let f : fills_of b v.filling ≤ one_there v.filling = fills_most b v.filling in
    let t : tries_of b v.trying ≤ one_there v.trying = tries_most b v.trying in
    omega arith

module _ (size : Size) (s : St) (r : Leased size s) where
  -- a count is far below 2^24
  pub few_users : (b : ℕ) → b < size.blocks → users_in s.words b ≤ 65536
  few_users b h =
      let c : users_in s.words b ≡ total (uses_in b) s.views = r.counted b h in
      let m : total (uses_in b) s.views ≤ total spent_by s.views = total_most (uses_in b) spent_by s.views (λ k v e. uses_spent b v (r.each k v e).tried) in
      let w : total spent_by s.views ≤ size.most = r.within in
      let f : size.most ≤ 65536 = r.few in
      omega arith

  module _ (id : ℕ) (v w : View) (at : get_elem? s.views id ≡ some v) where
    pub fillers_stay : (b : ℕ) → fills_in b w ≡ fills_in b v → fillers (set s.views id w) b ≡ fillers s.views b
    fillers_stay b e = let t = total_set (fills_in b) s.views id v w at in omega arith

    pub alone_still : (b : ℕ) → fills_in b w ≡ fills_in b v → (0 < fillers s.views b → holds_in b w ≤ holds_in b v) → 0 < fillers (set s.views id w) b
        → IsAlone b (set s.views id w)
    alone_still b e h more =
        let same : fillers (set s.views id w) b ≡ fillers s.views b = fillers_stay b e in
        let before : 0 < fillers s.views b = subst (λ (n : ℕ). 0 < n) same more in
        let is = r.alone b before in
        let none : total (holds_in b) s.views ≡ 0 = is.none in
        let le : holds_in b w ≤ holds_in b v = h before in
        let t = total_set (holds_in b) s.views id v w at in
        record { one = same ∙ is.one; none = omega arith }

    pub step_kept : (i n : ℕ) (c : List (ℕ × Unit {0}))
        → spent_by w ≤ spent_by v
        → ((b : ℕ) → b < size.blocks → users_in (set s.words i n) b + uses_in b v ≡ users_in s.words b + uses_in b w)
        → ((b : ℕ) → 0 < fillers (set s.views id w) b → IsAlone b (set s.views id w))
        → Stands size.blocks (set s.words i n) (fillers (set s.views id w)) w
        → ((k : ℕ) (u : View) → k ≢ id → get_elem? s.views k ≡ some u → (b : ℕ) → b < size.blocks
        → Change s.words (set s.words i n) (fillers s.views) (fillers (set s.views id w)) u b)
        → Leased size (stepped s i n id c w keeps)
    step_kept i n c spends counts alone mine others =
        let vs : List ℕ = set s.words i n in
        let now : ℕ → ℕ = fillers (set s.views id w) in
        record {
          long = length-set s.words i n ∙ r.long;
          few = r.few;
          within = let t = total_set spent_by s.views id v w at in let old : total spent_by s.views ≤ size.most = r.within in omega arith;
          counted = λ b h.
              let t = total_set (uses_in b) s.views id v w at in
              let old : users_in s.words b ≡ total (uses_in b) s.views = r.counted b h in
              let new = counts b h in
              omega arith;
          alone = alone;
          each = λ k u e. ⊎_elim
              (λ t. subst (λ (x : View). Stands size.blocks vs now x) t.1 mine)
              (λ t. stands_on size.blocks s.words vs (fillers s.views) now u (r.each k u t.1) (others k u t.0 t.1))
              (at_set s.views id k w u e);
        }
