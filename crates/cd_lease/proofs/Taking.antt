-- A take that wins: the block had no holder, and has the next serial and one pass that fills it.
use Rattle.std.proofs.Common.{◌≡◌, ℕ, ◌+◌, ◌*◌, ◌<◌, ◌≤◌, List, [], ◌∷◌, length, get_or, set, None, refl, sym, ap, ◌∙◌, subst, ⊎_elim, arith, le_refl, ◌==◌, eq-eqb, ne_eqb}
use Rattle.std.proofs.lemmas.Bool.{cases_eq}
use mathlib.Core.Option.{some, none}
use lib.ListN.{get_elem?}
use prog.Atomic.{either}
use Rattle.atomic_table.specs.Table.{keeps, stepped, step, Allows}
use Rattle.cd_lease.specs.declared.rule.Size.{Size}
use Rattle.cd_lease.specs.declared.view.View.{View}
use Rattle.cd_lease.specs.declared.view.Piece.{Piece}
use Rattle.cd_lease.specs.Control.{users_of, serial_of, control_at, users_in, serial_in, IsOpen}
use Rattle.cd_lease.specs.Views.{words_under, one_if, one_there, fills_of, holds_in, fills_in, uses_in, total}
use Rattle.cd_lease.specs.Rule.{fillers, IsFilled, IsAlone, Leased}
use Rattle.cd_lease.specs.Seats.{IsIdle}
use Rattle.cd_lease.specs.Steps.{with_view, Sat, met, look_of, next_id, piece_of, taking, Takes}
use Rattle.cd_lease.proofs.Sums.{total_set, total_at, total_most}
use Rattle.cd_lease.proofs.Counting.{inside, none_from, one_at, one_off}
use Rattle.cd_lease.proofs.TableWords.{control_now, control_else, words_stay}
use Rattle.cd_lease.proofs.Changing.{Change, stays, rises, stands_on}
use Rattle.cd_lease.proofs.Stepping.{St, fillers_stay, alone_still, step_kept}
use Rattle.cd_lease.proofs.Controls.{met_kept, block_from}

module _ (size : Size) (s : St) (r : Leased size s) (id : ℕ) (v : View) (at : get_elem? s.views id ≡ some v)
    (b old new : ℕ) (h : b < size.blocks) (found : get_or s.words (control_at b) 0 ≡ old) (is_open : IsOpen old)
    (rose : serial_of new ≡ serial_of old + 1) (one_user : users_of new ≡ 1) (idle : IsIdle v) where
  in_words : control_at b < length s.words
  in_words = let l : length s.words ≡ 65 * size.blocks = r.long in omega arith

  unused : total (uses_in b) s.views ≡ 0
  unused = sym (r.counted b h) ∙ (ap users_of found ∙ is_open.0)

  not_used : (k : ℕ) (u : View) → get_elem? s.views k ≡ some u → uses_in b u ≡ 0
  not_used k u e = let t : uses_in b u ≤ total (uses_in b) s.views = total_at (uses_in b) s.views k u e in let z = unused in omega arith

  not_filled : fillers s.views b ≡ 0
  not_filled =
      let m : total (fills_in b) s.views ≤ total (uses_in b) s.views = total_most (fills_in b) (uses_in b) s.views (λ k u e. omega arith) in
      let z = unused in
      omega arith

  not_held : total (holds_in b) s.views ≡ 0
  not_held =
      let m : total (holds_in b) s.views ≤ total (uses_in b) s.views = total_most (holds_in b) (uses_in b) s.views (λ k u e. omega arith) in
      let z = unused in
      omega arith

  -- its serial is past each that the pass knows
  pub fresh_id : words_under v.known (next_id b old) ≡ None
  fresh_id = none_from (words_under v.known (next_id b old)) (λ piece e.
      let is = (r.each id v at).seen (next_id b old) piece e in
      let past : serial_of old + 1 ≤ serial_in s.words b = is.past in
      let here : serial_in s.words b ≡ serial_of old = ap serial_of found in
      omega arith)

  abbrev vs : List ℕ
  vs = set s.words (control_at b) new

  serial_now : serial_in vs b ≡ serial_of old + 1
  serial_now = ap serial_of (control_now s.words b new in_words) ∙ rose

  empty_fill : one_there v.filling ≡ 0
  empty_fill = ap one_there idle.filling

  fills_none : (d : ℕ) → fills_in d v ≡ 0
  fills_none d = ap (fills_of d) idle.filling

  change : (u : View) → uses_in b u ≡ 0 → (d : ℕ) → Change s.words vs (fillers s.views) (fillers (set s.views id (taking v (next_id b old)))) u d
  change u unused_by d = ⊎_elim
      (λ (e : d ≡ b). subst (λ (x : ℕ). Change s.words vs (fillers s.views) (fillers (set s.views id (taking v (next_id b old)))) u x) (sym e) (rises
      (let now = serial_now in let here : serial_in s.words b ≡ serial_of old = ap serial_of found in omega arith)
      (omega arith)
      (omega arith)))
      (λ ne. stays
      (ap serial_of (control_else s.words b new d ne))
      (fillers_stay size s r id v (taking v (next_id b old)) at d (one_off b d (λ e. ne (sym e)) ∙ sym (fills_none d)))
      (λ i k. words_stay s.words b new d i k))
      (cases_eq d b)

  pub taken_kept : 0 < v.room → (c : List (ℕ × Unit {0})) → Leased size (stepped s (control_at b) new id c (taking v (next_id b old)) keeps)
  taken_kept room c =
      let to : View = taking v (next_id b old) in
      let mine = stands_on size.blocks s.words vs (fillers s.views) (fillers (set s.views id to)) v (r.each id v at)
      (λ d k. change v (not_used id v at) d) in
      step_kept size s r id v to at (control_at b) new c
      (let e = empty_fill in omega arith)
      (λ d k. ⊎_elim
      (λ (q : d ≡ b). subst (λ (x : ℕ). users_in vs x + uses_in x v ≡ users_in s.words x + uses_in x to) (sym q)
      (let now : users_in vs b ≡ 1 = ap users_of (control_now s.words b new in_words) ∙ one_user in
      let before : users_in s.words b ≡ 0 = ap users_of found ∙ is_open.0 in
      let n = not_used id v at in
      let one : one_if (b == b) ≡ 1 = one_at b b refl in
      omega arith))
      (λ ne.
      let now : users_in vs d ≡ users_in s.words d = ap users_of (control_else s.words b new d ne) in
      let off : one_if (b == d) ≡ 0 = one_off b d (λ e. ne (sym e)) in
      let n = fills_none d in
      omega arith)
      (cases_eq d b))
      (λ d k. ⊎_elim
      (λ (q : d ≡ b). subst (λ (x : ℕ). IsAlone x (set s.views id to)) (sym q) (record {
        one =
            let t = total_set (fills_in b) s.views id v to at in
            let f = fills_none b in
            let z = not_filled in
            let one : one_if (b == b) ≡ 1 = one_at b b refl in
            omega arith;
        none = let t = total_set (holds_in b) s.views id v to at in let z = not_held in omega arith;
      }))
      (λ ne. alone_still size s r id v to at d (one_off b d (λ e. ne (sym e)) ∙ sym (fills_none d)) (λ m. le_refl (holds_in d v)) k)
      (cases_eq d b))
      (record {
        held = mine.held;
        seen = mine.seen;
        filled = λ p e. subst (λ (x : Piece). IsFilled size.blocks vs x) (inside (piece_of (next_id b old) []) p e) (record {
          block = h;
          short = omega arith;
          serial = serial_now;
          begins = record { each = λ i k. absurd (omega arith) };
        });
        missed = mine.missed;
        tried = let t : one_there v.trying ≡ 0 = ap one_there idle.trying in omega arith;
      })
      (λ k u ne e d l. change u (not_used k u e) d)

module _ (size : Size) (slots id : ℕ) (me : Sat) where
  pub takes_allows : (b old new : ℕ) → b < size.blocks → IsOpen old → serial_of new ≡ serial_of old + 1 → users_of new ≡ 1 → IsIdle me.0 → 0 < me.0.room
      → Allows (Leased size) slots id me (control_at b) (λ n. either (n == old) new n) (Takes (step slots (control_at b) old new none) me)
  takes_allows b old new h is_open rose one_user idle room s r homes at small =
      let n : ℕ = get_or s.words (control_at b) 0 in
      ⊎_elim
      (λ (e : n ≡ old). (
        taking me.0 (next_id b n),
        keeps,
        tt,
        subst (λ t. Leased size (stepped s (control_at b) (either t new n) id me.1 (taking me.0 (next_id b n)) keeps)) (sym (eq-eqb n old e))
            (subst (λ (x : ℕ). Leased size (stepped s (control_at b) new id me.1 (taking me.0 (next_id b x)) keeps)) (sym e)
            (taken_kept size s r id me.0 at b old new h e is_open rose one_user idle room me.1)),
        (λ d q. (
          (λ _. (
            ap (λ (x : ℕ). with_view me (taking me.0 (next_id x n))) (block_from b d q),
            subst (λ (x : ℕ). words_under me.0.known (next_id x n) ≡ None) (block_from b d q)
                (subst (λ (x : ℕ). words_under me.0.known (next_id b x) ≡ None) (sym e) (fresh_id size s r id me.0 at b old new h e is_open rose one_user idle)),
          )),
          λ ne. absurd (ne e),
        )),
      ))
      (λ ne. (
        met me.0 (look_of b n ∷ []),
        keeps,
        tt,
        subst (λ t. Leased size (stepped s (control_at b) (either t new n) id me.1 (met me.0 (look_of b n ∷ [])) keeps)) (sym (ne_eqb n old ne))
            (met_kept size s r id me.0 at (look_of b n ∷ []) b h me.1),
        (λ d q. ((λ e. absurd (ne e)), λ _. ap (λ (x : ℕ). with_view me (met me.0 (look_of x n ∷ []))) (block_from b d q))),
      ))
      (cases_eq n old)
