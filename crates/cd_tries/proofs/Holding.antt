-- What a pass holds behind ids that were held once more, or given up, in order.
use Rattle.std.proofs.Common.{◌≡◌, ℕ, suc, ◌+◌, ◌-◌, ◌<◌, ◌≤◌, Bool, true, false, ◌==◌, cond, List, [], ◌∷◌, ◌++◌, length, get_or, drop, take, arith, refl, ap, sym, subst, ◌∙◌, Option, Some, IsSome, All, Contains}
use Rattle.std.proofs.Math.Path.{fun_ext}
use Rattle.std.proofs.lemmas.List.{drop_more, drop_all, take_more, length-take-le, get_or_default}
use Rattle.std.proofs.lemmas.Bool.{eq-eqb, and_from, and_parts, cond-true}
use Rattle.std.proofs.lemmas.Bool.Decides.{nat_tests}
use Rattle.cd_keep.specs.declared.keep_id.KeepId.{KeepId}
use Rattle.cd_keep.specs.declared.gone_note.GoneNote.{GoneNote}
use Rattle.cd_keep.specs.PassModel.{PassModel, same_id, known_with, one_more, one_less, shared, lapsed, gave_up}
use Rattle.cd_tries.specs.declared.keep.Keep.{Keep}
use Rattle.cd_tries.specs.Keeping.{times_in, keep_ids, all_ids}
use Rattle.cd_tries.specs.Preserving.{shared_each}
use Rattle.cd_tries.specs.Refilling.{gave_up_each}

-- a pass with these holds and this room
abbrev pub with_holds : PassModel → (KeepId → ℕ) → ℕ → ℕ → PassModel
with_holds p holds held room = record p { holds = holds; held = held; room = room }

same_holds : (p : PassModel) (h k : KeepId → ℕ) (a b c d : ℕ) → ((q : KeepId) → h q ≡ k q) → a ≡ b → c ≡ d
    → with_holds p h a c ≡ with_holds p k b d
same_holds p h k a b c d each held room =
    ap (λ (v : KeepId → ℕ). with_holds p v a c) (fun_ext each)
    ∙ ap (λ (v : ℕ). with_holds p k v c) held
    ∙ ap (λ (v : ℕ). with_holds p k b v) room

pub counted_more : (b : Bool) (n m : ℕ) → cond b (n + 1) n + m ≡ n + (cond b 1 0 + m)
counted_more true n m = omega arith
counted_more false n m = omega arith

counted_less : (b : Bool) (n m : ℕ) → cond b (n - 1) n - m ≡ n - (cond b 1 0 + m)
counted_less true n m = omega arith
counted_less false n m = omega arith

pub shared_all : (p : PassModel) (ids : List KeepId)
    → shared_each p ids ≡ with_holds p (λ q. p.holds q + times_in q ids) (p.held + length ids) (p.room - length ids)
shared_all p [] = same_holds p p.holds (λ q. p.holds q + 0) p.held (p.held + 0) p.room (p.room - 0) (λ q. omega arith) (omega arith) (omega arith)
shared_all p (id ∷ ids) =
    shared_all (shared p id) ids
    ∙ same_holds p (λ q. one_more p.holds id q + times_in q ids) (λ q. p.holds q + times_in q (id ∷ ids))
    (p.held + 1 + length ids) (p.held + suc (length ids)) (p.room - 1 - length ids) (p.room - suc (length ids))
    (λ q. counted_more (same_id id q) (p.holds q) (times_in q ids)) (omega arith) (omega arith)

pub given_up_all : (p : PassModel) (ids : List KeepId)
    → gave_up_each p ids ≡ with_holds p (λ q. p.holds q - times_in q ids) (p.held - length ids) (p.room + length ids)
given_up_all p [] = same_holds p p.holds (λ q. p.holds q - 0) p.held (p.held - 0) p.room (p.room + 0) (λ q. omega arith) (omega arith) (omega arith)
given_up_all p (id ∷ ids) =
    given_up_all (gave_up p id) ids
    ∙ same_holds p (λ q. one_less p.holds id q - times_in q ids) (λ q. p.holds q - times_in q (id ∷ ids))
    (p.held - 1 - length ids) (p.held - suc (length ids)) (p.room + 1 + length ids) (p.room + suc (length ids))
    (λ q. counted_less (same_id id q) (p.holds q) (times_in q ids)) (omega arith) (omega arith)

-- ids that were held once more and, after a gone answer, given up again leave the gone answer alone
pub shared_and_given_up : (p : PassModel) (ids : List KeepId) (id : KeepId) (note : GoneNote) → length ids ≤ p.room
    → gave_up_each (lapsed (shared_each p ids) id note) ids ≡ lapsed p id note
shared_and_given_up p ids id note few =
    ap (λ (v : PassModel). gave_up_each (lapsed v id note) ids) (shared_all p ids)
    ∙ given_up_all (lapsed (with_holds p (λ q. p.holds q + times_in q ids) (p.held + length ids) (p.room - length ids)) id note) ids
    ∙ same_holds (lapsed p id note) (λ q. p.holds q + times_in q ids - times_in q ids) p.holds
    (p.held + length ids - length ids) p.held (p.room - length ids + length ids) p.room
    (λ q. omega arith) (omega arith) (omega arith)

pub times_in-append : (q : KeepId) (xs ys : List KeepId) → times_in q (xs ++ ys) ≡ times_in q xs + times_in q ys
times_in-append q [] ys = omega arith
times_in-append q (x ∷ xs) ys = omega (arith, times_in-append q xs ys)

pub gave_up_each-append : (p : PassModel) (xs ys : List KeepId) → gave_up_each p (xs ++ ys) ≡ gave_up_each (gave_up_each p xs) ys
gave_up_each-append p [] ys = refl
gave_up_each-append p (x ∷ xs) ys = gave_up_each-append (gave_up p x) xs ys

pub shared_each-append : (p : PassModel) (xs ys : List KeepId) → shared_each p (xs ++ ys) ≡ shared_each (shared_each p xs) ys
shared_each-append p [] ys = refl
shared_each-append p (x ∷ xs) ys = shared_each-append (shared p x) xs ys

same_id_self : (x : KeepId) → same_id x x ≡ true
same_id_self x = and_from (x.block == x.block) (x.serial == x.serial) (eq-eqb x.block x.block refl) (eq-eqb x.serial x.serial refl)

-- what stands for an id that no list has
abbrev pub no_id : KeepId
no_id = record { block = 0; serial = 0 }

-- ---- ids in order

-- enough holds for these ids
abbrev pub Enough : PassModel → List KeepId → Type 0
Enough p ids = (q : KeepId) → times_in q ids ≤ p.holds q

is_held : (b : Bool) (n m : ℕ) → b ≡ true → cond b 1 0 + n ≤ m → 0 < m
is_held true n m e h = omega arith
is_held false n m e h = absurd (cc)

pub first_held : (p : PassModel) (id : KeepId) (ids : List KeepId) → Enough p (id ∷ ids) → 0 < p.holds id
first_held p id ids enough = is_held (same_id id id) (times_in id ids) (p.holds id) (same_id_self id) (enough id)

still_held : (b : Bool) (n m : ℕ) → cond b 1 0 + n ≤ m → n ≤ cond b (m - 1) m
still_held true n m h = omega arith
still_held false n m h = omega arith

pub rest_held : (p : PassModel) (id : KeepId) (ids : List KeepId) → Enough p (id ∷ ids) → Enough (gave_up p id) ids
rest_held p id ids enough q = still_held (same_id id q) (times_in q ids) (p.holds q) (enough q)

-- the id at an index, given up
pub nth_held : (p : PassModel) (ids : List KeepId) (i : ℕ) → i < length ids → Enough p (drop i ids) → 0 < p.holds (get_or ids i no_id)
nth_held p ids i within enough =
    let P : List KeepId → Type 0 = λ xs. Enough p xs in
    first_held p (get_or ids i no_id) (drop (i + 1) ids) (subst P (drop_more ids i no_id within) enough)

pub record IsLeft (p whole : PassModel) (ids : List KeepId) : Type 0 where
  pub left : gave_up_each p ids ≡ whole
  pub enough : Enough p ids

pub next_left : (p next whole : PassModel) (ids : List KeepId) (i : ℕ) → i < length ids → next ≡ gave_up p (get_or ids i no_id)
    → IsLeft p whole (drop i ids) → IsLeft next whole (drop (i + 1) ids)
next_left p next whole ids i within is left =
    let P : List KeepId → Type 0 = λ xs. IsLeft p whole xs in
    let now : IsLeft p whole (get_or ids i no_id ∷ drop (i + 1) ids) = subst P (drop_more ids i no_id within) left in
    let Q : PassModel → Type 0 = λ v. IsLeft v whole (drop (i + 1) ids) in
    subst Q (sym is) (record {
      left = now.left;
      enough = rest_held p (get_or ids i no_id) (drop (i + 1) ids) now.enough;
    })

pub none_left : (p whole : PassModel) (ids : List KeepId) (i : ℕ) → length ids ≤ i → IsLeft p whole (drop i ids) → p ≡ whole
none_left p whole ids i over left =
    let P : List KeepId → Type 0 = λ xs. IsLeft p whole xs in
    let now : IsLeft p whole [] = subst P (drop_all i ids over) left in
    now.left

-- ---- keeps in order

keeps_next : (keeps : List Keep) (i : ℕ) (keep : Keep) → i < length keeps → keep ≡ get_or keeps i keep → drop i keeps ≡ keep ∷ drop (i + 1) keeps
keeps_next keeps i keep within is = drop_more keeps i keep within ∙ ap (λ (v : Keep). v ∷ drop (i + 1) keeps) (sym is)

pub keep_held : (p whole : PassModel) (keeps : List Keep) (i : ℕ) (keep : Keep) → i < length keeps → keep ≡ get_or keeps i keep
    → IsLeft p whole (all_ids (drop i keeps)) → Enough p (keep_ids keep)
keep_held p whole keeps i keep within is left q =
    let P : List Keep → Type 0 = λ ks. IsLeft p whole (all_ids ks) in
    let now : IsLeft p whole (keep_ids keep ++ all_ids (drop (i + 1) keeps)) = subst P (keeps_next keeps i keep within is) left in
    let e : times_in q (keep_ids keep ++ all_ids (drop (i + 1) keeps)) ≤ p.holds q = now.enough q in
    omega (arith, times_in-append q (keep_ids keep) (all_ids (drop (i + 1) keeps)))

pub keeps_left : (p next whole : PassModel) (keeps : List Keep) (i : ℕ) (keep : Keep) → i < length keeps → keep ≡ get_or keeps i keep
    → next ≡ gave_up_each p (keep_ids keep) → IsLeft p whole (all_ids (drop i keeps)) → IsLeft next whole (all_ids (drop (i + 1) keeps))
keeps_left p next whole keeps i keep within is given left =
    let P : List Keep → Type 0 = λ ks. IsLeft p whole (all_ids ks) in
    let now : IsLeft p whole (keep_ids keep ++ all_ids (drop (i + 1) keeps)) = subst P (keeps_next keeps i keep within is) left in
    let Q : PassModel → Type 0 = λ v. IsLeft v whole (all_ids (drop (i + 1) keeps)) in
    let R : PassModel → Type 0 = λ v. Enough v (all_ids (drop (i + 1) keeps)) in
    subst Q (sym given) (record {
      left = sym (gave_up_each-append p (keep_ids keep) (all_ids (drop (i + 1) keeps))) ∙ now.left;
      enough = subst R (sym (given_up_all p (keep_ids keep))) (λ q.
          let e : times_in q (keep_ids keep ++ all_ids (drop (i + 1) keeps)) ≤ p.holds q = now.enough q in
          omega (arith, times_in-append q (keep_ids keep) (all_ids (drop (i + 1) keeps))));
    })

pub no_keeps_left : (p whole : PassModel) (keeps : List Keep) (i : ℕ) → length keeps ≤ i → IsLeft p whole (all_ids (drop i keeps)) → p ≡ whole
no_keeps_left p whole keeps i over left =
    let P : List Keep → Type 0 = λ ks. IsLeft p whole (all_ids ks) in
    let now : IsLeft p whole [] = subst P (drop_all i keeps over) left in
    now.left

-- ---- shared so far

pub known_then : (p : PassModel) (ids : List KeepId) → (shared_each p ids).known ≡ p.known
known_then p ids = ap (λ (v : PassModel). v.known) (shared_all p ids)

pub room_then : (p : PassModel) (ids : List KeepId) → (shared_each p ids).room ≡ p.room - length ids
room_then p ids = ap (λ (v : PassModel). v.room) (shared_all p ids)

pub held_then : (p : PassModel) (ids : List KeepId) → Enough (shared_each p ids) ids
held_then p ids =
    let P : PassModel → Type 0 = λ v. Enough v ids in
    subst P (sym (shared_all p ids)) (λ q. omega arith)

pub one_more_shared : (p now next : PassModel) (ids : List KeepId) (i : ℕ) → i < length ids → now ≡ shared_each p (take i ids)
    → next ≡ shared now (get_or ids i no_id) → next ≡ shared_each p (take (i + 1) ids)
one_more_shared p now next ids i within so_far is =
    is ∙ ap (λ (v : PassModel). shared v (get_or ids i no_id)) so_far
    ∙ sym (shared_each-append p (take i ids) (get_or ids i no_id ∷ []))
    ∙ sym (ap (shared_each p) (take_more ids i no_id within))

-- ids that are the same have the same parts
pub same_parts : (id other : KeepId) → same_id id other ≡ true → (id.block ≡ other.block) × (id.serial ≡ other.serial)
same_parts id other h =
    let parts : ((id.block == other.block) ≡ true) × ((id.serial == other.serial) ≡ true) = and_parts (id.block == other.block) (id.serial == other.serial) h in
    (grind (arith, nat_tests), grind (arith, nat_tests))

-- ---- ids of which the first i are held once more

pub nth_known : (p now : PassModel) (ids : List KeepId) (i : ℕ) → i < length ids → All (λ (id : KeepId). IsSome (p.known id)) ids
    → now ≡ shared_each p (take i ids) → IsSome (now.known (get_or ids i no_id))
nth_known p now ids i within known so_far =
    let P : (KeepId → Option (List ℕ)) → Type 0 = λ k. IsSome (k (get_or ids i no_id)) in
    subst P (sym (ap (λ (v : PassModel). v.known) so_far ∙ known_then p (take i ids))) (known i no_id within)

pub nth_room : (p now : PassModel) (ids : List KeepId) (i : ℕ) → i < length ids → length ids ≤ p.room → now ≡ shared_each p (take i ids)
    → 0 < now.room
nth_room p now ids i within room so_far =
    let e : now.room ≡ p.room - length (take i ids) = ap (λ (v : PassModel). v.room) so_far ∙ room_then p (take i ids) in
    let n : length (take i ids) ≡ i = length-take-le i ids (omega (arith, within)) in
    omega (arith, e, n, within, room)

pub gone_held : (p now gone : PassModel) (ids : List KeepId) (id : KeepId) (note : GoneNote) → now ≡ shared_each p ids
    → gone ≡ lapsed now id note → Enough gone ids
gone_held p now gone ids id note so_far is =
    let P : PassModel → Type 0 = λ v. Enough v ids in
    let Q : PassModel → Type 0 = λ v. Enough (lapsed v id note) ids in
    subst P (sym is) (subst Q (sym so_far) (held_then p ids))

-- one id is gone: none is held more
pub gone_undone : (p now gone next : PassModel) (ids : List KeepId) (i : ℕ) (note : GoneNote) → i < length ids → length ids ≤ p.room
    → now ≡ shared_each p (take i ids) → gone ≡ lapsed now (get_or ids i no_id) note → next ≡ gave_up_each gone (take i ids)
    → (id : KeepId) × Contains ids id × (next ≡ lapsed p id note)
gone_undone p now gone next ids i note within room so_far is given =
    let id : KeepId = get_or ids i no_id in
    let few : length (take i ids) ≡ i = length-take-le i ids (omega (arith, within)) in (
      id,
      (i, within, get_or_default ids i id no_id within),
      given ∙ ap (λ (v : PassModel). gave_up_each v (take i ids)) (is ∙ ap (λ (v : PassModel). lapsed v id note) so_far)
          ∙ shared_and_given_up p (take i ids) id note (omega (arith, few, within, room)),
    )

-- an id has the words under which it is known
pub known_itself : (known : KeepId → Option (List ℕ)) (id : KeepId) (words : List ℕ) → known_with known id words id ≡ Some words
known_itself known id words = cond-true (same_id id id) (Some words) (known id) (same_id_self id)
