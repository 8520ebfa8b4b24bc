-- The last arriver takes a member, and leaves its cell empty.
use Rattle.std.proofs.Common.{◌≡◌, ◌≢◌, ℕ, ◌+◌, ◌*◌, ◌/◌, ◌<◌, ◌≤◌, List, ◌∷◌, None, Some, sym, refl, ap, subst, arith}
use mathlib.Core.Option.{none}
use lib.ListN.{get_elem?}
use Rattle.atomic_table.specs.Table.{rest, step, takes as takes_slot, gives, Allows}
use Rattle.atomic_table.specs.Seated.{TableId}
use Rattle.cd_cells.specs.Asks.{Ask}
use Rattle.cd_cells.specs.declared.view.View.{View}
use Rattle.cd_cells.specs.declared.view.Cell.{Cell}
use Rattle.cd_cells.specs.Places.{Where, Sort, mark, content}
use Rattle.cd_cells.specs.Places.Where.{owed, taken, cleared}
use Rattle.cd_cells.specs.Places.Sort.{rights, owes, takes, clears, names}
use Rattle.cd_cells.specs.Listing.{often, nodes, one_out}
use Rattle.cd_cells.specs.Kinds.{Kind}
use Rattle.cd_cells.specs.Views.{name_of, tally}
use Rattle.cd_cells.specs.Rule.{phase_at, Fine, Ticketed, Keeps, Has, Ordered}
use Rattle.cd_cells.specs.Steps.{Sat, homing, taking, Taken, Takes, clearing, Clears}
use Rattle.cd_cells.proofs.Listed.{often_here, often_else, often_one_less, often_out_else}
use Rattle.cd_cells.proofs.Placed.{in_owed, in_taken}
use Rattle.cd_cells.proofs.Framing.{within_mark, Alike}
use Rattle.cd_cells.proofs.Moving.{moved_out, moved_home}
use Rattle.cd_cells.proofs.Sending.{domain_of_phase, table_is, of_key, by_self}

module _ {K : Type 0} (v : View K) (d : ℕ) where
  take_off : (x : Sort) (e : ℕ) → e ≢ d → tally x e (taking v d) ≡ tally x e v
  unfolding tally
  take_off owes e ne = often_out_else e d v.owes ne
  take_off takes e ne = often_else d e v.takes ne
  take_off _ e ne = refl

  take_on : (x : Sort) (t : ℕ) → 0 < tally owes d v → tally x d (taking v d) + mark x owed t ≡ tally x d v + mark x taken t
  unfolding tally
  take_on owes t h = let o = often_one_less d v.owes h in omega arith
  take_on takes t h = let o = often_here d v.takes in omega arith
  take_on _ t h = refl

  clear_off : (x : Sort) (e : ℕ) → e ≢ d → tally x e (clearing v d) ≡ tally x e v
  unfolding tally
  clear_off takes e ne = often_out_else e d v.takes ne
  clear_off clears e ne = often_else d e v.clears ne
  clear_off _ e ne = refl

  clear_on : (x : Sort) (t : ℕ) → 0 < tally takes d v → tally x d (clearing v d) + mark x taken t ≡ tally x d v + mark x cleared t
  unfolding tally
  clear_on takes t h = let o = often_one_less d v.takes h in omega arith
  clear_on clears t h = let o = often_here d v.clears in omega arith
  clear_on _ t h = refl

  module _ {T : Type 0} (k : Kind T) (want : ℕ → Ask) (table : List ℕ) (f : Fine k want table v) where
    take_fine : 0 < tally owes d v → Fine k want table (taking v d)
    unfolding tally
    take_fine h = record {
      table = f.table;
      named = f.named;
      turned = f.turned;
      held = f.held;
      names = f.names;
      last = λ e a b.
          let z : often e v.owes + often e v.takes + often e v.clears ≤ often (k.up e) v.lasts = f.last e a b in
          by_self d e (λ x. often x (one_out d v.owes) + often x (d ∷ v.takes) ≡ often x v.owes + often x v.takes)
          (let o = often_one_less d v.owes h in let i = often_here d v.takes in omega arith)
          (λ ne. let o = often_out_else e d v.owes ne in let i = often_else d e v.takes ne in omega arith)
          (λ same. omega arith);
    }

    clear_fine : 0 < tally takes d v → tally rights d v + tally clears d v < tally names d v → Fine k want table (clearing v d)
    unfolding tally
    clear_fine h named = record {
      table = f.table;
      named = f.named;
      turned = f.turned;
      held = f.held;
      names = λ e l.
          let z : often e v.rights + often e v.clears ≤ often e (nodes v.named) = f.names e l in
          by_self d e (λ x. often x v.rights + often x (d ∷ v.clears) ≤ often x (nodes v.named))
          (let y : often d v.rights + often d v.clears < often d (nodes v.named) = named in let i = often_here d v.clears in omega arith)
          (λ ne. let i = often_else d e v.clears ne in omega arith)
          (λ same. same);
      last = λ e a b.
          let z : often e v.owes + often e v.takes + often e v.clears ≤ often (k.up e) v.lasts = f.last e a b in
          by_self d e (λ x. often x (one_out d v.takes) + often x (d ∷ v.clears) ≡ often x v.takes + often x v.clears)
          (let o = often_one_less d v.takes h in let i = often_here d v.clears in omega arith)
          (λ ne. let o = often_out_else e d v.takes ne in let i = often_else d e v.clears ne in omega arith)
          (λ same. omega arith);
    }

owed_taken : Alike owed taken
owed_taken = record { ahead_is = refl; rests_is = refl; ends_is = refl; side_is = refl; waits = λ e. absurd (cc) }

taken_cleared : Alike taken cleared
taken_cleared = record { ahead_is = refl; rests_is = refl; ends_is = refl; side_is = refl; waits = λ e. absurd (cc) }

module _ {K T : Type 0} (kind : K → Kind T) (key : K) (slots id : ℕ) (me : Sat K T) where
  pub take_allows : (d : ℕ) → d < (kind key).count → me.0.key ≡ Some key → (t : TableId) → me.0.table ≡ name_of t → 0 < tally owes d me.0
      → Allows (Ordered (kind key) key) slots id me (phase_at d) (λ _. 1) (λ _. Takes kind (step slots (phase_at d) 1 0 none) me 1)
  take_allows d h is_key t known owing s r len at small =
      let m = within_mark (kind key).count r.place r.times s.views r.counts id me.0 at owes d h in
      let is : r.place d ≡ owed = in_owed (r.place d) (r.times d) (omega arith) in
      let f = r.fine id me.0 at in
      let table : me.0.table ≡ r.table = table_is (kind key) r.want r.table me.0 f t known in
      let kept : Keeps key r.table (r.want d) (kind key).Ended (get_elem? s.homes d) =
      subst (λ (x : Where). Has (kind key) key r.table r.want d (r.group d) (content x) (get_elem? s.homes d)) is (r.homes d h).0 in
      let w : View K = taking me.0 d in (
        w,
        takes_slot d (Some kept.cell),
        kept.home,
        moved_out (kind key) key s r id me.0 at d h owed taken is owed_taken refl refl refl w
            (take_off me.0 d)
            (λ x t. take_on me.0 d x t owing)
            (take_fine me.0 d (kind key) r.want r.table f owing)
            refl refl me.1 (Some kept.cell),
        of_key key me is_key (λ z. (c : Cell K T) × Taken (kind z) z me ((2 * d + 1) / 2) (w, (d, Some kept.cell) ∷ me.1) c (Some c)) (
          kept.cell,
          subst (λ (x : ℕ). Taken (kind key) key me x (w, (d, Some kept.cell) ∷ me.1) kept.cell (Some kept.cell)) (domain_of_phase d) (record {
            ask = r.want d;
            node = (r.homes d h).1;
            now = refl;
            ended = kept.answers;
            ticket = subst (λ (l : List ℕ). Ticketed key l (r.want d) kept.cell) (sym table) kept.ticket;
          }),
        ),
      )

  pub clear_allows : (d : ℕ) → d < (kind key).count → me.1 ≡ (d, None) ∷ rest me.1 → 0 < tally takes d me.0 → 0 < tally names d me.0
      → Allows (Ordered (kind key) key) slots id me (phase_at d) (λ _. 0) (λ _. Clears (step slots (phase_at d) 0 0 none) me 0)
  clear_allows d h in_hand taking_it named s r len at small =
      let within : (q : Sort) → tally q d me.0 ≤ mark q (r.place d) (r.times d) = λ q. within_mark (kind key).count r.place r.times s.views r.counts id me.0 at q d h in
      let m = within takes in
      let is : r.place d ≡ taken = in_taken (r.place d) (r.times d) (omega arith) in
      let no_right : tally rights d me.0 ≤ 0 = subst (λ (x : Where). tally rights d me.0 ≤ mark rights x (r.times d)) is (within rights) in
      let not_cleared : tally clears d me.0 ≤ 0 = subst (λ (x : Where). tally clears d me.0 ≤ mark clears x (r.times d)) is (within clears) in (
        clearing me.0 d,
        gives,
        tt,
        moved_home (kind key) key s r id me.0 at d h taken cleared is taken_cleared refl refl (clearing me.0 d)
            (clear_off me.0 d)
            (λ x t. clear_on me.0 d x t taking_it)
            (clear_fine me.0 d (kind key) r.want r.table (r.fine id me.0 at) taking_it (omega arith))
            refl refl me.1 None in_hand refl,
        ap (λ (x : ℕ). homing me (clearing me.0 x)) (domain_of_phase d),
      )
