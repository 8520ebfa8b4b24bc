-- The words of pieces: how many each has, and where they stand in the text of all.
use Rattle.std.proofs.Common.{◌≡◌, ℕ, zero, suc, ◌+◌, ◌-◌, ◌*◌, ◌<◌, ◌≤◌, min, max, true, nat_le, List, [], ◌∷◌, ◌++◌, length, get_or, Option, Some, None, IsSomeAnd, unwrap_or, arith, refl, ap, subst, sym, ◌∙◌, length-append}
use Rattle.std.specs.Prelude.{slice_get, cond, ◌==◌}
use Rattle.std.proofs.lemmas.Bool.{and_from, cond-true, eq-eqb}
use Rattle.std.proofs.lemmas.Bool.Decides.{nat_tests}
use Rattle.std.proofs.lemmas.Option.{slice_get_within, slice_get-get_or}
use Rattle.cd_base.specs.declared.place.Range.{Range}
use Rattle.cd_base.specs.Words.{in_range}
use Rattle.cd_tree.specs.Locality.{SameWords}
use Rattle.cd_tree.specs.Operations.{IsFull}
use Rattle.cd_keep.specs.declared.keep_id.KeepId.{KeepId}
use Rattle.cd_keep.specs.PassModel.{IsPiece, same_id}
use Rattle.cd_tries.specs.declared.keep.Pieces.{Pieces}
use Rattle.cd_tries.specs.Keeping.{Known, text, piece_words, Cover, EachMeets, times_in}
use Rattle.cd_tries.specs.Refilling.{words_at, part_of_piece}
use Rattle.cd_base.proofs.PlaceLemmas.{Inside, inside_from}

pub some_is : {A : Type 0} (x y : A) → Some x ≡ Some y → x ≡ y
some_is {A} x y e = ap (λ (o : Option A). unwrap_or o x) e

-- the words of one id
abbrev words_for : Known → KeepId → List ℕ
words_for known id = unwrap_or (known id) []

-- each of these ids has words, none more than 64
abbrev AreSome : Known → List KeepId → Type 0
AreSome known ids = (k : ℕ) (id : KeepId) → slice_get ids k ≡ Some id → IsSomeAnd (known id) IsPiece

-- all but the last have 64
abbrev AreWhole : Known → List KeepId → Type 0
AreWhole known ids = (k : ℕ) (id : KeepId) → slice_get ids k ≡ Some id → suc k < length ids → length (words_for known id) ≡ 64

piece_size : (o : Option (List ℕ)) → IsSomeAnd o IsPiece → (0 < length (unwrap_or o [])) × (length (unwrap_or o []) ≤ 64)
piece_size None is = absurd is
piece_size (Some words) is = (is.some, is.few)

get_left : (xs ys : List ℕ) (i : ℕ) → i < length xs → slice_get (xs ++ ys) i ≡ slice_get xs i
get_left [] ys i short = absurd (omega arith)
get_left (x ∷ xs) ys zero short = refl
get_left (x ∷ xs) ys (suc i) short = get_left xs ys i (omega (arith, short))

get_right : (xs ys : List ℕ) (n i : ℕ) → n ≡ length xs + i → slice_get (xs ++ ys) n ≡ slice_get ys i
get_right [] ys n i at = ap (slice_get ys) (omega (arith, at))
get_right (x ∷ xs) ys zero i at = absurd (omega (arith, at))
get_right (x ∷ xs) ys (suc n) i at = get_right xs ys n i (omega (arith, at))

-- the number of words of the k-th id, and the words before it
size_of : (known : Known) (ids : List KeepId) (k : ℕ) (id : KeepId) → AreSome known ids → AreWhole known ids
    → slice_get ids k ≡ Some id
    → (64 * k < length (text known ids)) × (length (words_for known id) ≡ min 64 (length (text known ids) - 64 * k))
size_of known [] k id some whole at = absurd (let none : ⊥ = omega (arith, slice_get_within [] k id at) in none)
size_of known (one ∷ []) zero id some whole at =
    let size : (0 < length (words_for known one)) × (length (words_for known one) ≤ 64) = piece_size (known one) (some 0 one refl) in
    let same : one ≡ id = some_is one id at in
    let long : length (words_for known one ++ []) ≡ length (words_for known one) + 0 = length-append (words_for known one) [] in (
      omega (arith, size.0, long),
      ap (λ (i : KeepId). length (words_for known i)) (sym same) ∙ (let e : length (words_for known one) ≡ min 64 (length (words_for known one ++ []) - 64 * 0) = omega (arith, size.1, long) in e),
    )
size_of known (one ∷ []) (suc k) id some whole at = absurd (let none : ⊥ = omega (arith, slice_get_within (one ∷ []) (suc k) id at) in none)
size_of known (one ∷ two ∷ ids) zero id some whole at =
    let full : length (words_for known one) ≡ 64 = whole 0 one refl (omega arith) in
    let same : one ≡ id = some_is one id at in
    let long : length (words_for known one ++ text known (two ∷ ids)) ≡ length (words_for known one) + length (text known (two ∷ ids)) =
    length-append (words_for known one) (text known (two ∷ ids)) in (
      omega (arith, full, long),
      ap (λ (i : KeepId). length (words_for known i)) (sym same) ∙ (let e : length (words_for known one) ≡ min 64 (length (text known (one ∷ two ∷ ids)) - 64 * 0) = omega (arith, full, long) in e),
    )
size_of known (one ∷ two ∷ ids) (suc k) id some whole at =
    let full : length (words_for known one) ≡ 64 = whole 0 one refl (omega arith) in
    let long : length (words_for known one ++ text known (two ∷ ids)) ≡ length (words_for known one) + length (text known (two ∷ ids)) =
    length-append (words_for known one) (text known (two ∷ ids)) in
    let rest : (64 * k < length (text known (two ∷ ids))) × (length (words_for known id) ≡ min 64 (length (text known (two ∷ ids)) - 64 * k)) =
    size_of known (two ∷ ids) k id (λ j i e. some (suc j) i e) (λ j i e l. whole (suc j) i e (omega (arith, l))) at in
    (omega (arith, full, long, rest.0), (let e : length (words_for known id) ≡ min 64 (length (text known (one ∷ two ∷ ids)) - 64 * suc k) = omega (arith, full, long, rest.1) in e))

-- a word of the k-th id stands after those of the ids before it
word_of_piece : (known : Known) (ids : List KeepId) (k : ℕ) (id : KeepId) (n i : ℕ) → AreWhole known ids → slice_get ids k ≡ Some id
    → i < length (words_for known id) → n ≡ 64 * k + i → slice_get (text known ids) n ≡ slice_get (words_for known id) i
word_of_piece known [] k id n i whole at short place = absurd (let none : ⊥ = omega (arith, slice_get_within [] k id at) in none)
word_of_piece known (one ∷ ids) zero id n i whole at short place =
    let same : one ≡ id = some_is one id at in
    let P : KeepId → Type 0 = λ (v : KeepId). slice_get (words_for known v ++ text known ids) n ≡ slice_get (words_for known id) i in
    let here : n ≡ i = omega (arith, place) in
    subst P (sym same) (ap (slice_get (words_for known id ++ text known ids)) here ∙ get_left (words_for known id) (text known ids) i short)
word_of_piece known (one ∷ ids) (suc k) id n i whole at short place =
    let more : k < length ids = slice_get_within ids k id at in
    let full : length (words_for known one) ≡ 64 = whole 0 one refl (omega (arith, more)) in
    get_right (words_for known one) (text known ids) n (64 * k + i) (omega (arith, full, place))
    ∙ word_of_piece known ids k id (64 * k + i) i (λ j v e l. whole (suc j) v e (omega (arith, l))) at short refl

-- the k-th of pieces: where it begins, how many words it has, and what of a range it has
pub record IsNth (known : Known) (pieces : Pieces) (r : Range) (k : ℕ) (id : KeepId) : Type 0 where
  pub start : pieces.begin + 64 * k < pieces.end
  pub size : length (words_for known id) ≡ min (pieces.end - (pieces.begin + 64 * k)) 64
  pub order : max r.low (pieces.begin + 64 * k) ≤ min r.high (pieces.begin + 64 * k + 64)
  pub high : min r.high (pieces.begin + 64 * k + 64) ≡ min r.high (pieces.begin + 64 * k + min (pieces.end - (pieces.begin + 64 * k)) 64)
  pub words : SameWords (in_range (part_of_piece pieces r k)) (words_at (pieces.begin + 64 * k) (words_for known id)) (piece_words known pieces)

order_of : (low high begin end count k : ℕ) → low < high → begin ≤ low → high ≤ end → low < begin + 64 → k < count
    → begin + 64 * (count - 1) < high → max low (begin + 64 * k) ≤ min high (begin + 64 * k + 64)
order_of low high begin end count zero full over within first inside last = omega (arith, full, over, within, first, inside, last)
order_of low high begin end count (suc k) full over within first inside last = omega (arith, full, over, within, first, inside, last)

pub nth_of : (known : Known) (pieces : Pieces) (r : Range) (k : ℕ) (id : KeepId) → IsFull r → Cover known pieces r → EachMeets pieces r
    → slice_get pieces.ids k ≡ Some id → IsNth known pieces r k id
nth_of known pieces r k id full covers meets at =
    let begin : ℕ = pieces.begin in
    let inside : k < length pieces.ids = slice_get_within pieces.ids k id at in
    let end : begin + length (text known pieces.ids) ≡ pieces.end = covers.cut.size in
    let size : (64 * k < length (text known pieces.ids)) × (length (words_for known id) ≡ min 64 (length (text known pieces.ids) - 64 * k)) =
    size_of known pieces.ids k id covers.cut.each covers.cut.whole at in
    let few : length (words_for known id) ≡ min 64 (length (text known pieces.ids) - 64 * k) = size.1 in
    let some : 64 * k < length (text known pieces.ids) = size.0 in
    let within : r.high ≤ pieces.end = covers.high in
    record {
      start = omega (arith, end, some);
      size = omega (arith, end, some, few);
      order = order_of r.low r.high begin pieces.end (length pieces.ids) k full covers.low covers.high meets.first inside meets.last;
      high = omega (arith, end, some, within);
      words = λ p h.
          let i : Inside (part_of_piece pieces r k) p = inside_from (part_of_piece pieces r k) p h in
          let low : max r.low (begin + 64 * k) ≤ p.index = i.low in
          let high : p.index < min r.high (begin + 64 * k + 64) = i.high in
          let from : nat_le (begin + 64 * k) p.index ≡ true = (let l : begin + 64 * k ≤ p.index = omega (arith, low) in grind (arith, nat_tests)) in
          let over : nat_le begin p.index ≡ true = (let l : begin ≤ p.index = omega (arith, low) in grind (arith, nat_tests)) in
          let short : p.index - (begin + 64 * k) < length (words_for known id) = omega (arith, end, some, few, low, high, within) in
          let place : p.index - begin ≡ 64 * k + (p.index - (begin + 64 * k)) = omega (arith, low) in
          cond-true (nat_le (begin + 64 * k) p.index) (slice_get (words_for known id) (p.index - (begin + 64 * k))) None from
          ∙ sym (word_of_piece known pieces.ids k id (p.index - begin) (p.index - (begin + 64 * k)) covers.cut.whole at short place)
          ∙ sym (cond-true (nat_le begin p.index) (slice_get (text known pieces.ids) (p.index - begin)) None over);
    }

-- an id that stands among these is counted
pub is_counted : (ids : List KeepId) (k : ℕ) (id : KeepId) → slice_get ids k ≡ Some id → 0 < times_in id ids
is_counted [] k id at = absurd (let none : ⊥ = omega (arith, slice_get_within [] k id at) in none)
is_counted (one ∷ ids) zero id at =
    let same : one ≡ id = some_is one id at in
    let P : KeepId → Type 0 = λ (v : KeepId). 0 < times_in v (one ∷ ids) in
    let test : same_id one one ≡ true = and_from (one.block == one.block) (one.serial == one.serial) (eq-eqb one.block one.block refl) (eq-eqb one.serial one.serial refl) in
    let counted : ℕ = 1 in
    let none : ℕ = 0 in
    let first : cond (same_id one one) counted none ≡ counted = cond-true (same_id one one) counted none test in
    subst P same (let some : 0 < cond (same_id one one) counted none + times_in one ids = omega (arith, first) in some)
is_counted (one ∷ ids) (suc k) id at = omega (arith, is_counted ids k id at)

-- what stands for an id that no list has
abbrev pub blank_id : KeepId
blank_id = record { block = 0; serial = 0 }

pub id_at : (ids list : List KeepId) (k : ℕ) → list ≡ ids → k < length ids → slice_get ids k ≡ Some (get_or list k blank_id)
id_at ids list k same short =
    slice_get-get_or ids k blank_id short ∙ ap (λ (is : List KeepId). Some (get_or is k blank_id)) (sym same)

-- no more words than 64 for each id
text_few : (known : Known) (ids : List KeepId) → AreSome known ids → length (text known ids) ≤ 64 * length ids
text_few known [] some = omega arith
text_few known (one ∷ ids) some =
    let size : (0 < length (words_for known one)) × (length (words_for known one) ≤ 64) = piece_size (known one) (some 0 one refl) in
    let long : length (words_for known one ++ text known ids) ≡ length (words_for known one) + length (text known ids) =
    length-append (words_for known one) (text known ids) in
    omega (arith, size.1, long, text_few known ids (λ j i e. some (suc j) i e))

-- after the last piece nothing of a range is left
pub pieces_end : (known : Known) (pieces : Pieces) (r : Range) (k : ℕ) → Cover known pieces r → length pieces.ids ≤ k
    → r.high ≤ pieces.begin + 64 * k
pieces_end known pieces r k covers all = omega (arith, covers.high, covers.cut.size, text_few known pieces.ids covers.cut.each, all)
