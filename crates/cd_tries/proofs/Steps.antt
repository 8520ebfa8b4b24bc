-- One step of each loop that puts words back: what is left gives the whole, as before.
use Rattle.std.proofs.Common.{◌≡◌, ℕ, zero, suc, ◌+◌, ◌*◌, ◌<◌, ◌≤◌, min, max, true, List, [], ◌∷◌, ◌++◌, length, drop, get_or, Option, Some, IsSome, arith, refl, ap, subst, sym, ◌∙◌, add-one}
use Rattle.std.proofs.lemmas.Bool.{cond-false, cond-true, or_left, or_right}
use Rattle.cd_base.specs.declared.place.Place.{Place}
use Rattle.cd_base.specs.declared.place.Range.{Range}
use Rattle.cd_base.specs.Words.{Words, in_range, same_place}
use Rattle.cd_tree.specs.declared.domain.How.TheVariants as how
use Rattle.cd_tree.specs.declared.domain.Entry.{Entry}
use Rattle.cd_tree.specs.declared.event.Event.TheVariants.{Refilled}
use Rattle.cd_tree.specs.Meaning.{in_entries}
use Rattle.cd_field.specs.FieldModel.{FieldModel, told, refilled_word}
use Rattle.cd_keep.specs.declared.keep_id.KeepId.{KeepId}
use Rattle.cd_keep.specs.PassModel.{PassModel}
use Rattle.cd_tries.specs.declared.keep.Keep.{Keep}
use Rattle.cd_tries.specs.declared.keep.Pieces.{Pieces}
use Rattle.cd_tries.specs.Keeping.{Known, piece_words, keep_words, Cover, KeepFits, KeepsFit, HoldsThese, all_ids, keep_ids, times_in}
use Rattle.cd_tries.specs.Refilling.{put_words, put_back, part_of_piece, refilled_from}
use Rattle.cd_base.proofs.BoolLemmas.{by_test}
use Rattle.cd_base.proofs.PlaceLemmas.{Inside, inside_from, inside_to}
use Rattle.cd_tries.proofs.Putting.{from, rest_of, put_none, put_one, put_twice, range_parts, rest_parts}
use Rattle.cd_tries.proofs.Refilled.{pieces_known, keep_known}

-- a place has a word after words are put back, where it had one and they have one in the range
pub put_known : (w : Words) (r : Range) (m : FieldModel) (p : Place) → (in_range r p ≡ true → IsSome (w p)) → IsSome (m.words p)
    → IsSome ((put_words w r m).words p)
put_known w r m p some known =
    let Q : Option ℕ → Type 0 = λ o. IsSome o in
    by_test (in_range r p)
    (λ t. subst Q (sym (cond-true (in_range r p) (w p) (m.words p) t)) (some t))
    (λ f. subst Q (sym (cond-false (in_range r p) (w p) (m.words p) f)) known)

pub refilled_known : (m : FieldModel) (q : Place) (word : ℕ) (p : Place) → IsSome (m.words p) → IsSome ((refilled_word m q word).words p)
refilled_known m q word p known =
    let Q : Option ℕ → Type 0 = λ o. IsSome o in
    by_test (same_place q p)
    (λ t. subst Q (sym (cond-true (same_place q p) (Some word) (m.words p) t)) refl)
    (λ f. subst Q (sym (cond-false (same_place q p) (Some word) (m.words p) f)) known)

-- ---- a pattern

-- one word more
pub word_put : (w : Words) (r : Range) (at word : ℕ) (m later whole : FieldModel) → at < r.high
    → w (record { region = r.region; index = at }) ≡ Some word
    → later ≡ refilled_word m (record { region = r.region; index = at }) word
    → put_words w (from r at) m ≡ whole → put_words w (from r (at + 1)) later ≡ whole
word_put w r at word m later whole ahead is next left =
    ap (λ (v : FieldModel). put_words w (from r (at + 1)) v) (next ∙ put_one w r at word m is)
    ∙ put_twice w (from r at) (record { region = r.region; low = at; high = at + 1 }) (from r (at + 1)) m
    (range_parts (from r at) (at + 1) (omega arith) (omega (arith, ahead)))
    ∙ left

-- no word is left
pub words_put : (w : Words) (r : Range) (at : ℕ) (m whole : FieldModel) → r.high ≤ at → put_words w (from r at) m ≡ whole → m ≡ whole
words_put w r at m whole past left = sym (put_none w (from r at) m past) ∙ left

-- ---- pieces

-- the first piece begins at or before the range
pub none_put : (w : Words) (pieces : Pieces) (r : Range) (m : FieldModel) → pieces.begin ≤ r.low
    → put_words w (rest_of pieces r 0) m ≡ put_words w r m
none_put w pieces r m low =
    let at : max r.low (pieces.begin + 64 * 0) ≡ r.low = omega (arith, low) in
    ap (λ (n : ℕ). put_words w (record { region = r.region; low = n; high = r.high }) m) at

-- one piece more
pub piece_put : (w : Words) (pieces : Pieces) (r : Range) (k : ℕ) (m later whole : FieldModel)
    → max r.low (pieces.begin + 64 * k) ≤ min r.high (pieces.begin + 64 * k + 64)
    → later ≡ put_words w (part_of_piece pieces r k) m
    → put_words w (rest_of pieces r k) m ≡ whole → put_words w (rest_of pieces r (k + 1)) later ≡ whole
piece_put w pieces r k m later whole order next left =
    ap (λ (v : FieldModel). put_words w (rest_of pieces r (k + 1)) v) next
    ∙ put_twice w (rest_of pieces r k) (part_of_piece pieces r k) (rest_of pieces r (k + 1)) m (rest_parts pieces r k order)
    ∙ left

-- no piece is left
pub pieces_put : (w : Words) (pieces : Pieces) (r : Range) (k : ℕ) (m whole : FieldModel) → r.high ≤ pieces.begin + 64 * k
    → put_words w (rest_of pieces r k) m ≡ whole → m ≡ whole
pieces_put w pieces r k m whole past left = sym (put_none w (rest_of pieces r k) m (let e : r.high ≤ max r.low (pieces.begin + 64 * k) = omega (arith, past) in e)) ∙ left

-- a part of a range lies in it
pub part_inside : (pieces : Pieces) (r : Range) (k : ℕ) (p : Place) → in_range (part_of_piece pieces r k) p ≡ true → in_range r p ≡ true
part_inside pieces r k p h =
    let i : Inside (part_of_piece pieces r k) p = inside_from (part_of_piece pieces r k) p h in
    let low : max r.low (pieces.begin + 64 * k) ≤ p.index = i.low in
    let high : p.index < min r.high (pieces.begin + 64 * k + 64) = i.high in
    inside_to r p (record { region = i.region; low = omega arith; high = omega arith })

pub part_known : (known : Known) (pieces : Pieces) (r : Range) (k : ℕ) (m later : FieldModel) → Cover known pieces r
    → later ≡ put_words (piece_words known pieces) (part_of_piece pieces r k) m
    → ((p : Place) → in_range r p ≡ true → IsSome (m.words p)) → (p : Place) → in_range r p ≡ true → IsSome (later.words p)
part_known known pieces r k m later covers is words p h =
    let Q : FieldModel → Type 0 = λ v. IsSome (v.words p) in
    subst Q (sym is) (put_known (piece_words known pieces) (part_of_piece pieces r k) m p (λ t. pieces_known known pieces r p covers h) (words p h))

-- ---- entries

-- what stands for an entry that no list has
abbrev pub blank : Entry
blank = record { range = record { region = 0; low = 0; high = 0 }; how = how.Copy }

-- the entry at an index that is within
abbrev pub nth_entry : List Entry → ℕ → Entry
nth_entry entries n = get_or entries n blank

-- a place of the n-th entry's range is in the entries
pub in_entry : (entries : List Entry) (n : ℕ) (d : Entry) (p : Place) → n < length entries
    → in_range (get_or entries n d).range p ≡ true → in_entries entries p ≡ true
in_entry [] n d p short h = absurd (omega arith)
in_entry (entry ∷ entries) zero d p short h = or_left _ _ h
in_entry (entry ∷ entries) (suc n) d p short h =
    or_right (in_range entry.range p) _ (in_entry entries n d p (omega arith) h)

pub enough_keeps : (known : Known) (entries : List Entry) (keeps : List Keep) → KeepsFit known entries keeps → length entries ≤ length keeps
enough_keeps known [] keeps fits = omega arith
enough_keeps known (entry ∷ entries) [] fits = absurd fits
enough_keeps known (entry ∷ entries) (keep ∷ keeps) fits = omega (arith, enough_keeps known entries keeps fits.1)

-- the keeps that are left fit the entries that are left
pub keeps_left : (known : Known) (k : ℕ) (entries : List Entry) (keeps : List Keep) (entry : Entry) (keep : Keep)
    → drop k entries ≡ entry ∷ drop (k + 1) entries → drop k keeps ≡ keep ∷ drop (k + 1) keeps
    → KeepsFit known (drop k entries) (drop k keeps)
    → KeepFits known entry keep × KeepsFit known (drop (k + 1) entries) (drop (k + 1) keeps)
keeps_left known k entries keeps entry keep e c fits =
    let P : List Entry → Type 0 = λ es. KeepsFit known es (keep ∷ drop (k + 1) keeps) in
    let Q : List Keep → Type 0 = λ cs. KeepsFit known (drop k entries) cs in
    subst P e (subst Q c fits)

-- one entry more is put back
pub entry_refilled : (known : Known) (m later whole : FieldModel) (k : ℕ) (entries : List Entry) (keeps : List Keep) (entry : Entry) (keep : Keep)
    → drop k entries ≡ entry ∷ drop (k + 1) entries → drop k keeps ≡ keep ∷ drop (k + 1) keeps
    → later ≡ told (put_back known entry keep m) (Refilled m.node k)
    → refilled_from known k (drop k entries) (drop k keeps) m ≡ whole
    → refilled_from known (k + 1) (drop (k + 1) entries) (drop (k + 1) keeps) later ≡ whole
entry_refilled known m later whole k entries keeps entry keep e c next left =
    ap (λ (v : FieldModel). refilled_from known (k + 1) (drop (k + 1) entries) (drop (k + 1) keeps) v) next
    ∙ ap (λ (n : ℕ). refilled_from known n (drop (k + 1) entries) (drop (k + 1) keeps) (told (put_back known entry keep m) (Refilled m.node k))) (add-one k)
    ∙ sym (ap (λ (es : List Entry). refilled_from known k es (keep ∷ drop (k + 1) keeps) m) e)
    ∙ sym (ap (λ (cs : List Keep). refilled_from known k (drop k entries) cs m) c)
    ∙ left

pub entry_known : (known : Known) (entry : Entry) (keep : Keep) (m later : FieldModel) (k : ℕ) (p : Place) → KeepFits known entry keep
    → later ≡ told (put_back known entry keep m) (Refilled m.node k) → IsSome (m.words p) → IsSome (later.words p)
entry_known known entry keep m later k p fits is some =
    let Q : FieldModel → Type 0 = λ v. IsSome (v.words p) in
    subst Q (sym is) (put_known (keep_words known entry.how keep) entry.range m p (λ t. keep_known known entry keep p fits t) some)

-- ---- holds

pub times_append : (id : KeepId) (first rest : List KeepId) → times_in id (first ++ rest) ≡ times_in id first + times_in id rest
times_append id [] rest = omega arith
times_append id (one ∷ first) rest = omega (arith, times_append id first rest)

-- what stands among the ids of one keep stands among those of all
pub among_all : (id : KeepId) (keeps : List Keep) (n : ℕ) (d : Keep) → n < length keeps → 0 < times_in id (keep_ids (get_or keeps n d))
    → 0 < times_in id (all_ids keeps)
among_all id [] n d short some = absurd (omega arith)
among_all id (keep ∷ keeps) zero d short some = omega (arith, some, times_append id (keep_ids keep) (all_ids keeps))
among_all id (keep ∷ keeps) (suc n) d short some =
    omega (arith, times_append id (keep_ids keep) (all_ids keeps), among_all id keeps n d (omega arith) some)

pub keep_held : (p : PassModel) (keeps : List Keep) (n : ℕ) (keep : Keep) → HoldsThese p (all_ids keeps) → n < length keeps
    → keep ≡ get_or keeps n keep → (id : KeepId) → 0 < times_in id (keep_ids keep) → 0 < p.holds id
keep_held p keeps n keep holds short is id some =
    let P : Keep → Type 0 = λ v. 0 < times_in id (keep_ids v) in
    let all : 0 < times_in id (all_ids keeps) = among_all id keeps n keep short (subst P is some) in
    omega (arith, holds.each id, all)
