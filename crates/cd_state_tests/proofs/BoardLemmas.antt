-- The board of the tests: what is loaded stays there, what its pass holds of it and of an entry, and that all comes back.
use Rattle.std.proofs.Common.{◌≡◌, ℕ, ◌+◌, ◌-◌, ◌<◌, ◌≤◌, true, List, [], ◌∷◌, ◌++◌, length, Some, arith, refl, ap, sym, subst, ◌∙◌, length-append}
use Rattle.std.proofs.lemmas.List.{append-nil}
use Rattle.cd_base.specs.declared.place.Place.{Place}
use Rattle.cd_base.specs.declared.place.Range.{Range}
use Rattle.cd_base.specs.Words.{Words, in_range}
use Rattle.cd_base.proofs.PlaceLemmas.{Inside, inside_from, inside_to}
use Rattle.cd_tree.specs.declared.domain.Entry.{Entry}
use Rattle.cd_tree.specs.declared.domain.How.{How}
use Rattle.cd_tree.specs.declared.domain.How.TheVariants.{Copy, Refer, Regen}
use Rattle.cd_tree.specs.Meaning.{blocks_kept, entry_need}
use Rattle.cd_field.specs.FieldModel.{FieldModel, ArePresent}
use Rattle.cd_keep.specs.declared.keep_id.KeepId.{KeepId}
use Rattle.cd_keep.specs.PassModel.{PassModel, HoldsNothing}
use Rattle.cd_tries.specs.declared.keep.Keep.{Keep}
use Rattle.cd_tries.specs.declared.keep.Pieces.{Pieces}
use Rattle.cd_state_tests.specs.Board.{board, HasBoard, HasLink, HasPart, IsKept, IsOnBoard}
use Rattle.cd_tries.specs.Keeping.{Cover, HoldsThese, all_ids, keep_ids, times_in}
use Rattle.cd_tries.specs.Preserving.{IsCopy, IsSaved, Spot, spot}
use Rattle.cd_tries.specs.Refilling.{gave_up_each, refilled_all}
use Rattle.cd_tries.proofs.Holding.{with_holds, given_up_all, times_in-append}
use Rattle.cd_tries.proofs.KeepsHeld.{HoldsMore, copies_hold, copy_fits, entry_fits, entry_holds, entry_few}
use Rattle.cd_tries.proofs.Preserved.{Spent, spent_by}
use Rattle.cd_tries.proofs.Ranges.{of_one}
use Rattle.cd_tries.proofs.Refilled.{refilled_present}

-- ---- the board's words

-- a place of a range on the board is the board's
of_board : (r : Range) (p : Place) → IsOnBoard r → in_range r p ≡ true → in_range board p ≡ true
of_board r p on h =
    let i : Inside r p = inside_from r p h in
    let high : r.high ≤ 200 = on.high in
    let short : p.index < r.high = i.high in
    inside_to board p (record { region = sym on.region ∙ i.region; low = omega arith; high = omega (arith, high, short) })

pub part_present : (m : FieldModel) (r : Range) → HasBoard m → IsOnBoard r → ArePresent m (r ∷ [])
part_present m r has on p h = has.each p (of_board r p on (of_one r p h))

pub board_refilled : (entry : Entry) (entries : List Entry) (keeps : List Keep) (m n : FieldModel) (p : PassModel) → HasBoard m
    → IsKept entry keeps p → entries ≡ entry ∷ [] → n ≡ refilled_all p.known entries keeps m → HasBoard n
board_refilled entry entries keeps m n p has kept one is =
    let P : FieldModel → Type 0 = λ v. HasBoard v in
    subst P (sym (is ∙ ap (λ (es : List Entry). refilled_all p.known es keeps m) one)) (record { each = λ q h. refilled_present p.known 0 (entry ∷ []) keeps m q kept.fit (λ out. has.each q h) })

-- ---- what the pass holds

pub link_kept : (w : Words) (link : Pieces) (p q : PassModel) → HoldsNothing p → p.room ≡ 9 → IsCopy w board link p q → HasLink link q
link_kept w link p q nothing room copy =
    let whole : Entry = record { range = board; how = Copy } in
    let more : HoldsMore link.ids p q = copies_hold w board 0 link.ids p q copy.keeps in
    let count : length link.ids ≡ 4 = copy.count in
    let left : q.room ≡ p.room - length link.ids = more.room in
    let held : q.held ≡ p.held + length link.ids = more.held in
    let none : p.held ≡ 0 = nothing.held in
    record {
      covers = (copy_fits w whole link p q (omega arith) copy).0;
      holds = record {
        each = λ id.
            let a : q.holds id ≡ p.holds id + times_in id link.ids = more.each id in
            let b : p.holds id ≡ 0 = nothing.none id in
            omega (arith, a, b);
        held = omega (arith, held, none);
      };
      room = omega (arith, left, room, count);
      count = count;
    }

pub link_covers : (link : Pieces) (r : Range) (p : PassModel) → IsOnBoard r → HasLink link p → Cover p.known link r
link_covers link r p on has =
    let low : link.begin ≤ 0 = has.covers.low in
    let end : 200 ≤ link.end = has.covers.high in
    let high : r.high ≤ 200 = on.high in
    record { cut = has.covers.cut; low = omega (arith, low); high = omega (arith, end, high) }

need_few : (how : How) (r : Range) → IsOnBoard r → blocks_kept how r ≤ 5
need_few Copy r on = (let high : r.high ≤ 200 = on.high in omega (arith, high))
need_few Refer r on = (let high : r.high ≤ 200 = on.high in omega (arith, high))
need_few (Regen pattern) r on = (let high : r.high ≤ 200 = on.high in omega (arith, high))

pub part_kept : (entry : Entry) (at : ℕ) (link : Pieces) (keep : Keep) (m n : FieldModel) (p q : PassModel) → IsOnBoard entry.range → HasLink link p
    → IsSaved (spot m at entry.range (Some link)) entry.how keep m n p q → HasPart entry link keep q
part_kept entry at link keep m n p q on has saved =
    let s : Spot = spot m at entry.range (Some link) in
    let spent : Spent (entry_need entry) p q = spent_by s entry.how keep saved.events p q saved.saved in
    let more : HoldsMore (keep_ids keep) p q = entry_holds s entry.how keep saved.events p q saved.saved in
    let few : length (keep_ids keep) ≤ blocks_kept entry.how entry.range = entry_few s entry.how keep saved.events p q saved.saved in
    let short : blocks_kept entry.how entry.range ≤ 5 = need_few entry.how entry.range on in
    let long : length (link.ids ++ keep_ids keep) ≡ length link.ids + length (keep_ids keep) = length-append link.ids (keep_ids keep) in
    record {
      fits = entry_fits m.words m.node at entry entry.how (Some link) keep saved.events p q refl on.some
          (λ refers. link_covers link entry.range p on has) spent.knows saved.saved;
      holds = record {
        each = λ id.
            let a : q.holds id ≡ p.holds id + times_in id (keep_ids keep) = more.each id in
            let b : p.holds id ≡ times_in id link.ids = has.holds.each id in
            let c : times_in id (link.ids ++ keep_ids keep) ≡ times_in id link.ids + times_in id (keep_ids keep) =
            times_in-append id link.ids (keep_ids keep) in
            omega (arith, a, b, c);
        held =
            let a : q.held ≡ p.held + length (keep_ids keep) = more.held in
            let b : p.held ≡ length link.ids = has.holds.held in
            omega (arith, a, b, long);
      };
      room = left (length (link.ids ++ keep_ids keep)) (length link.ids) (length (keep_ids keep)) (blocks_kept entry.how entry.range) p.room q.room
          long few short has.room has.count more.room;
    }
  where
    left : (all a b need before after : ℕ) → all ≡ a + b → b ≤ need → need ≤ 5 → before + a ≡ 9 → a ≡ 4 → after ≡ before - b → after + all ≡ 9
    left all a b need before after whole few short room count is = omega (arith, whole, few, short, room, count, is)

-- the board's pieces can be given up, and what is left is the entry's
pub link_held : (entry : Entry) (link : Pieces) (keep : Keep) (p : PassModel) (ids : List KeepId) → ids ≡ link.ids → HasPart entry link keep p
    → (id : KeepId) → times_in id ids ≤ p.holds id
link_held entry link keep p ids is has id =
    let a : p.holds id ≡ times_in id (link.ids ++ keep_ids keep) = has.holds.each id in
    let b : times_in id (link.ids ++ keep_ids keep) ≡ times_in id link.ids + times_in id (keep_ids keep) =
    times_in-append id link.ids (keep_ids keep) in
    let c : times_in id ids ≡ times_in id link.ids = ap (λ (v : List KeepId). times_in id v) is in
    omega (arith, a, b, c)

pub part_left : (entry : Entry) (link : Pieces) (keep : Keep) (keeps : List Keep) (ids : List KeepId) (p q : PassModel) → ids ≡ link.ids
    → keeps ≡ keep ∷ [] → q ≡ gave_up_each p ids → HasPart entry link keep p → IsKept entry keeps q
part_left entry link keep keeps ids p q same pushed is has =
    let P : List Keep → Type 0 = λ ks. IsKept entry ks q in
    let whole : PassModel = with_holds p (λ id. p.holds id - times_in id link.ids) (p.held - length link.ids) (p.room + length link.ids) in
    let Q : PassModel → Type 0 = λ v. IsKept entry (keep ∷ []) v in
    let gave : q ≡ whole = is ∙ ap (λ (v : List KeepId). gave_up_each p v) same ∙ given_up_all p link.ids in
    let long : length (link.ids ++ keep_ids keep) ≡ length link.ids + length (keep_ids keep) = length-append link.ids (keep_ids keep) in
    let one : length (all_ids (keep ∷ [])) ≡ length (keep_ids keep) = ap (λ (v : List KeepId). length v) (append-nil (keep_ids keep)) in
    subst P (sym pushed) (subst Q (sym gave) (record {
      fit = (has.fits, tt);
      holds = record {
        each = λ id.
            let a : p.holds id ≡ times_in id (link.ids ++ keep_ids keep) = has.holds.each id in
            let b : times_in id (link.ids ++ keep_ids keep) ≡ times_in id link.ids + times_in id (keep_ids keep) =
            times_in-append id link.ids (keep_ids keep) in
            let c : times_in id (all_ids (keep ∷ [])) ≡ times_in id (keep_ids keep) =
            ap (λ (v : List KeepId). times_in id v) (append-nil (keep_ids keep)) in
            omega (arith, a, b, c);
        held =
            let a : p.held ≡ length (link.ids ++ keep_ids keep) = has.holds.held in
            omega (arith, a, long, one);
      };
      room =
          let a : p.room + length (link.ids ++ keep_ids keep) ≡ 9 = has.room in
          omega (arith, a, long, one);
    }))

-- nothing is held when all is given up
pub none_held : (keeps : List Keep) (p q : PassModel) → HoldsThese p (all_ids keeps) → q ≡ gave_up_each p (all_ids keeps) → HoldsNothing q
none_held keeps p q holds is =
    let ids : List KeepId = all_ids keeps in
    let P : PassModel → Type 0 = λ v. HoldsNothing v in
    subst P (sym (is ∙ given_up_all p ids)) (record {
      none = λ id. (let a : p.holds id ≡ times_in id ids = holds.each id in omega (arith, a));
      held = (let a : p.held ≡ length ids = holds.held in omega (arith, a));
    })

-- and all room is there again
pub room_back : (keeps : List Keep) (p q : PassModel) → p.room + length (all_ids keeps) ≡ 9 → q ≡ gave_up_each p (all_ids keeps) → q.room ≡ 9
room_back keeps p q room is = ap (λ (v : PassModel). v.room) (is ∙ given_up_all p (all_ids keeps)) ∙ room
