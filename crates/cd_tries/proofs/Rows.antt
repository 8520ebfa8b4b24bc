-- The text of pieces: what a part of the pieces has of the whole text, and which words the pieces of a range have.
use Rattle.std.proofs.Common.{◌≡◌, ℕ, zero, suc, ◌+◌, ◌-◌, ◌*◌, ◌/◌, ◌<◌, ◌≤◌, min, true, nat_le, if◌then◌else◌, List, [], ◌∷◌, ◌++◌, length, take, drop, map, get_or, Option, None, Some, unwrap_or, IsSome, IsSomeAnd, slice_get, arith, refl, ap, sym, subst, ◌∙◌, inl, inr}
use Rattle.std.specs.List.{range_with_len}
use Rattle.std.proofs.lemmas.Bool.{cases_lt, cond-true}
use Rattle.std.proofs.lemmas.Bool.Decides.{nat_tests}
use Rattle.std.proofs.lemmas.List.{append-nil, map-append, take_all, drop_all, drop_at, drop-drop, length-take, length-drop, get_or-take, get_or-drop}
use Rattle.std.proofs.lemmas.List.FromFn.{length-map-range_with_len, get_or-map-range_with_len}
use Rattle.std.proofs.lemmas.Option.{slice_get-get_or, slice_get_within, none-some, same_Some}
use Rattle.cd_base.specs.declared.place.Place.{Place}
use Rattle.cd_base.specs.declared.place.Range.{Range}
use Rattle.cd_base.specs.Words.{Words, in_range, word_at}
use Rattle.cd_tree.specs.Locality.{SameWords}
use Rattle.cd_tree.specs.Meaning.{blocks_of}
use Rattle.cd_tree.specs.Operations.{length_of}
use Rattle.cd_field.specs.FieldModel.{words_in}
use Rattle.cd_keep.specs.declared.keep_id.KeepId.{KeepId}
use Rattle.cd_keep.specs.PassModel.{PassModel, IsPiece, kept}
use Rattle.cd_tries.specs.declared.keep.Pieces.{Pieces}
use Rattle.cd_tries.specs.Keeping.{Known, text, piece_words, AreCut}
use Rattle.cd_tries.specs.KeepLaws.{KnowsMore}
use Rattle.cd_tries.specs.Preserving.{nth_piece, KeepsFrom, IsCopy}
use Rattle.cd_tries.proofs.Cutting.{found, copies_know, same_text}
use Rattle.cd_tries.proofs.Holding.{known_itself}
use Rattle.cd_base.proofs.PlaceLemmas.{Inside, inside_from}

-- ---- parts of pieces

-- ids of which each is known, and all but the last have 64 words
pub record IsRow (known : Known) (ids : List KeepId) : Type 0 where
  pub each : (k : ℕ) (id : KeepId) → slice_get ids k ≡ Some id → IsSomeAnd (known id) IsPiece
  pub whole : (k : ℕ) (id : KeepId) → slice_get ids k ≡ Some id → suc k < length ids → length (unwrap_or (known id) []) ≡ 64

row_of : (known : Known) (pieces : Pieces) → AreCut known pieces → IsRow known pieces.ids
row_of known pieces cut = record { each = cut.each; whole = cut.whole }

behind_first : (known : Known) (id : KeepId) (ids : List KeepId) → IsRow known (id ∷ ids) → IsRow known ids
behind_first known id ids row =
    record { each = λ k x h. row.each (suc k) x h; whole = λ k x h short. row.whole (suc k) x h (omega (arith, short)) }

first_short : (known : Known) (id : KeepId) (ids : List KeepId) → IsRow known (id ∷ ids) → length (unwrap_or (known id) []) ≤ 64
first_short known id ids row =
    let f : (words : List ℕ) × (known id ≡ Some words) × IsPiece words = found IsPiece (known id) (row.each 0 id refl) in
    let few : length f.0 ≤ 64 = f.2.few in
    let is : length (unwrap_or (known id) []) ≡ length f.0 = ap (λ (o : Option (List ℕ)). length (unwrap_or o [])) f.1 in
    omega (arith, is, few)

last_short : (known : Known) (id : KeepId) → IsRow known (id ∷ []) → length (unwrap_or (known id) [] ++ []) ≤ 64
last_short known id row =
    let short : length (unwrap_or (known id) []) ≤ 64 = first_short known id [] row in
    let long : length (unwrap_or (known id) [] ++ []) ≡ length (unwrap_or (known id) []) = ap length (append-nil (unwrap_or (known id) [])) in
    omega (arith, short, long)

text_dropped : (known : Known) (f : ℕ) (ids : List KeepId) → IsRow known ids → text known (drop f ids) ≡ drop (64 * f) (text known ids)
text_dropped known zero ids row = refl
text_dropped known (suc f) [] row = sym (drop_all (64 * suc f) [] (omega arith))
text_dropped known (suc f) (id ∷ []) row =
    let short : length (unwrap_or (known id) [] ++ []) ≤ 64 = last_short known id row in
    ap (text known) (drop_all f [] (omega arith)) ∙ sym (drop_all (64 * suc f) (unwrap_or (known id) [] ++ []) (omega (arith, short)))
text_dropped known (suc f) (id ∷ (next ∷ ids)) row =
    let t : List ℕ = text known (next ∷ ids) in
    let first : List ℕ = unwrap_or (known id) [] in
    text_dropped known f (next ∷ ids) (behind_first known id (next ∷ ids) row)
    ∙ ap (drop (64 * f)) (sym (drop_at first t 64 (row.whole 0 id refl (omega arith))))
    ∙ drop-drop (64 * f) 64 (first ++ t)
    ∙ ap (λ (n : ℕ). drop n (first ++ t)) (omega arith)

take_more_than : (p q : List ℕ) (n m k : ℕ) → length p ≡ n → k ≡ n + m → take k (p ++ q) ≡ p ++ take m q
take_more_than [] q n m k e is = ap (λ (v : ℕ). take v q) (omega (arith, e, is))
take_more_than (x ∷ p) q n m k e is =
    let j : ℕ = length p + m in
    let s : k ≡ suc j = omega (arith, e, is) in
    ap (λ (v : ℕ). take v ((x ∷ p) ++ q)) s ∙ ap (λ (xs : List ℕ). x ∷ xs) (take_more_than p q (length p) m j refl refl)

text_taken : (known : Known) (n : ℕ) (ids : List KeepId) → IsRow known ids → text known (take n ids) ≡ take (64 * n) (text known ids)
text_taken known zero ids row = refl
text_taken known (suc n) [] row = sym (take_all (64 * suc n) [] (omega arith))
text_taken known (suc n) (id ∷ []) row =
    let short : length (unwrap_or (known id) [] ++ []) ≤ 64 = last_short known id row in
    ap (λ (ids : List KeepId). unwrap_or (known id) [] ++ text known ids) (take_all n [] (omega arith))
    ∙ sym (take_all (64 * suc n) (unwrap_or (known id) [] ++ []) (omega (arith, short)))
text_taken known (suc n) (id ∷ (next ∷ ids)) row =
    let t : List ℕ = text known (next ∷ ids) in
    let first : List ℕ = unwrap_or (known id) [] in
    ap (λ (xs : List ℕ). first ++ xs) (text_taken known n (next ∷ ids) (behind_first known id (next ∷ ids) row))
    ∙ sym (take_more_than first t 64 (64 * n) (64 * suc n) (row.whole 0 id refl (omega arith)) (omega arith))

-- the text of n pieces from the f-th on
pub text_part : (known : Known) (pieces : Pieces) (f n : ℕ) → AreCut known pieces
    → text known (take n (drop f pieces.ids)) ≡ take (64 * n) (drop (64 * f) (text known pieces.ids))
text_part known pieces f n cut =
    text_taken known n (drop f pieces.ids) (dropped_row known f pieces.ids (row_of known pieces cut))
    ∙ ap (take (64 * n)) (text_dropped known f pieces.ids (row_of known pieces cut))
  where
    dropped_row : (known : Known) (f : ℕ) (ids : List KeepId) → IsRow known ids → IsRow known (drop f ids)
    dropped_row known zero ids row = row
    dropped_row known (suc f) [] row = row
    dropped_row known (suc f) (id ∷ ids) row = dropped_row known f ids (behind_first known id ids row)

-- ---- the words of the pieces of a range

range_split : (a m n l b : ℕ) → l ≡ m + n → b ≡ a + m → range_with_len a l ≡ range_with_len a m ++ range_with_len b n
range_split a zero n l b e is =
    let same : l ≡ n = omega (arith, e) in
    let here : b ≡ a = omega (arith, is) in
    ap (range_with_len a) same ∙ ap (λ (v : ℕ). range_with_len v n) (sym here)
range_split a (suc m) n l b e is =
    let s : l ≡ suc (m + n) = omega (arith, e) in
    ap (range_with_len a) s ∙ ap (λ (xs : List ℕ). a ∷ xs) (range_split (a + 1) m n (m + n) b refl (omega (arith, is)))

range_none : (a n l b : ℕ) → l ≡ n → range_with_len a l ≡ range_with_len a n ++ range_with_len b 0
range_none a n l b e = ap (range_with_len a) e ∙ sym (append-nil (range_with_len a n))

-- a range from its k-th piece on
abbrev pub rest_of : Range → ℕ → Range
rest_of r k = record { region = r.region; low = r.low + 64 * k; high = r.high }

piece_and_rest : (w : Words) (r : Range) (k : ℕ) → words_in w (rest_of r k) ≡ words_in w (nth_piece r k) ++ words_in w (rest_of r (suc k))
piece_and_rest w r k =
    let f : ℕ → ℕ = λ i. word_at w (record { region = r.region; index = i }) in
    let low : ℕ = r.low + 64 * k in
    let m : ℕ = length_of (nth_piece r k) in
    let n : ℕ = length_of (rest_of r (suc k)) in
    let next : ℕ = r.low + 64 * suc k in
    let whole : range_with_len low (length_of (rest_of r k)) ≡ range_with_len low m ++ range_with_len next n =
    elim (cases_lt (r.high - low) 64) [
      | inl short ↦
          let none : n ≡ 0 = omega (arith, short) in
          range_none low m (length_of (rest_of r k)) next (omega (arith, short))
          ∙ ap (λ (v : ℕ). range_with_len low m ++ range_with_len next v) (sym none)
      | inr long ↦ range_split low m n (length_of (rest_of r k)) next (omega (arith, long)) (omega (arith, long))
    ] in
    ap (map f) whole ∙ map-append f (range_with_len low m) (range_with_len next n)

pub words_long : (w : Words) (r : Range) → length (words_in w r) ≡ length_of r
words_long w r = length-map-range_with_len (λ i. word_at w (record { region = r.region; index = i })) r.low (length_of r)

-- the text of the ids under which the pieces from the k-th on were kept
copied_text : (w : Words) (r : Range) (k : ℕ) (ids : List KeepId) (p q : PassModel) → length ids ≡ blocks_of (rest_of r k)
    → KeepsFrom w r k ids p q → text q.known ids ≡ words_in w (rest_of r k)
copied_text w r k [] p q count h =
    let none : length_of (rest_of r k) ≡ 0 = omega (arith, count) in
    sym (ap (λ (n : ℕ). map (λ i. word_at w (record { region = r.region; index = i })) (range_with_len (r.low + 64 * k) n)) none)
copied_text w r k (one ∷ ids) p q count h =
    let words : List ℕ = words_in w (nth_piece r k) in
    let now : PassModel = kept p one words in
    let known : q.known one ≡ Some words = copies_know w r (suc k) ids now q h.1 one words (known_itself p.known one words) in
    let rest : text q.known ids ≡ words_in w (rest_of r (suc k)) = copied_text w r (suc k) ids now q (omega (arith, count)) h.1 in
    ap (λ (o : Option (List ℕ)). unwrap_or o [] ++ text q.known ids) known
    ∙ ap (λ (xs : List ℕ). words ++ xs) rest
    ∙ sym (piece_and_rest w r k)

pub copy_text : (w : Words) (r : Range) (pieces : Pieces) (p q : PassModel) → IsCopy w r pieces p q → text q.known pieces.ids ≡ words_in w r
copy_text w r pieces p q copy =
    let whole : r ≡ rest_of r 0 = ap (λ (n : ℕ). record { region = r.region; low = n; high = r.high }) (omega arith) in
    copied_text w r 0 pieces.ids p q (copy.count ∙ ap blocks_of whole) copy.keeps ∙ ap (words_in w) (sym whole)

-- the words of each id
copied_words : (w : Words) (r : Range) (k : ℕ) (ids : List KeepId) (p q : PassModel) → KeepsFrom w r k ids p q
    → (i j : ℕ) (id : KeepId) → j ≡ k + i → slice_get ids i ≡ Some id → q.known id ≡ Some (words_in w (nth_piece r j))
copied_words w r k [] p q h i j id at there = absurd (none-some id there)
copied_words w r k (one ∷ ids) p q h zero j id at there =
    let words : List ℕ = words_in w (nth_piece r k) in
    let now : PassModel = kept p one words in
    let known : q.known one ≡ Some words = copies_know w r (suc k) ids now q h.1 one words (known_itself p.known one words) in
    let same : j ≡ k = omega (arith, at) in
    ap q.known (sym (same_Some one id there)) ∙ known ∙ ap (λ (n : ℕ). Some (words_in w (nth_piece r n))) (sym same)
copied_words w r k (one ∷ ids) p q h (suc i) j id at there =
    copied_words w r (suc k) ids (kept p one (words_in w (nth_piece r k))) q h.1 i j id (omega (arith, at)) there

piece_some : (low high k : ℕ) → k < (high - low + 63) / 64 → 0 < min (low + 64 * k + 64) high - (low + 64 * k)
piece_some low high k within = omega (arith, within)

piece_few : (low high k : ℕ) → min (low + 64 * k + 64) high - (low + 64 * k) ≤ 64
piece_few low high k = omega arith

piece_whole : (low high k : ℕ) → suc k < (high - low + 63) / 64 → min (low + 64 * k + 64) high - (low + 64 * k) ≡ 64
piece_whole low high k within = omega (arith, within)

pub copy_cut : (w : Words) (r : Range) (pieces : Pieces) (p q : PassModel) → r.low < r.high → IsCopy w r pieces p q → AreCut q.known pieces
copy_cut w r pieces p q full copy = record {
  each = λ k id there.
      let words : List ℕ = words_in w (nth_piece r k) in
      let known : q.known id ≡ Some words = copied_words w r 0 pieces.ids p q copy.keeps k k id (omega arith) there in
      let long : length words ≡ length_of (nth_piece r k) = words_long w (nth_piece r k) in
      let within : k < length pieces.ids = slice_get_within pieces.ids k id there in
      let blocks : length pieces.ids ≡ blocks_of r = copy.count in
      let some : 0 < length_of (nth_piece r k) = piece_some r.low r.high k (omega (arith, within, blocks)) in
      let few : length_of (nth_piece r k) ≤ 64 = piece_few r.low r.high k in
      let P : Option (List ℕ) → Type 0 = λ o. IsSomeAnd o IsPiece in
      subst P (sym known) (record { some = omega (arith, long, some); few = omega (arith, long, few) });
  whole = λ k id there short.
      let words : List ℕ = words_in w (nth_piece r k) in
      let known : q.known id ≡ Some words = copied_words w r 0 pieces.ids p q copy.keeps k k id (omega arith) there in
      let blocks : length pieces.ids ≡ blocks_of r = copy.count in
      ap (λ (o : Option (List ℕ)). length (unwrap_or o [])) known
      ∙ words_long w (nth_piece r k) ∙ piece_whole r.low r.high k (omega (arith, short, blocks));
  size =
      let long : length (text q.known pieces.ids) ≡ length_of r = ap length (copy_text w r pieces p q copy) ∙ words_long w r in
      let low : pieces.begin ≡ r.low = copy.begin in
      let high : pieces.end ≡ r.high = copy.end in
      omega (arith, long, low, high, full);
}

-- ---- words by places

pub text_at : (known : Known) (pieces : Pieces) (p : Place) → pieces.begin ≤ p.index
    → piece_words known pieces p ≡ slice_get (text known pieces.ids) (p.index - pieces.begin)
text_at known pieces p low =
    cond-true (nat_le pieces.begin p.index) (slice_get (text known pieces.ids) (p.index - pieces.begin)) None (le-true pieces.begin p.index low)
  where
    le-true : (a b : ℕ) → a ≤ b → nat_le a b ≡ true
    le-true a b h = grind (arith, nat_tests)

there_word : (o : Option ℕ) → IsSome o → Some (unwrap_or o 0) ≡ o
there_word None h = absurd (grind (arith, h))
there_word (Some word) h = refl

-- a copy gives the words of the machine
pub copy_gives : (w : Words) (r : Range) (pieces : Pieces) (p q : PassModel) → IsCopy w r pieces p q
    → ((at : Place) → in_range r at ≡ true → IsSome (w at)) → SameWords (in_range r) (piece_words q.known pieces) w
copy_gives w r pieces p q copy some at h =
    let i : Inside r at = inside_from r at h in
    let region : r.region ≡ at.region = i.region in
    let low : r.low ≤ at.index = i.low in
    let high : at.index < r.high = i.high in
    let begin : pieces.begin ≡ r.low = copy.begin in
    let f : ℕ → ℕ = λ n. word_at w (record { region = r.region; index = n }) in
    let long : length (words_in w r) ≡ length_of r = words_long w r in
    text_at q.known pieces at (omega (arith, begin, low))
    ∙ ap (λ (xs : List ℕ). slice_get xs (at.index - pieces.begin)) (copy_text w r pieces p q copy)
    ∙ ap (λ (n : ℕ). slice_get (words_in w r) (at.index - n)) begin
    ∙ slice_get-get_or (words_in w r) (at.index - r.low) 0 (omega (arith, long, low, high))
    ∙ ap (λ (n : ℕ). Some n) (get_or-map-range_with_len f r.low (length_of r) (at.index - r.low) at.index 0 (omega (arith, low, high)) (omega (arith, low)))
    ∙ ap (λ (n : ℕ). Some (word_at w (record { region = n; index = at.index }))) region
    ∙ there_word (w at) (some at h)

pub part_at : (t : List ℕ) (a b i j : ℕ) → i < a → j ≡ b + i → j < length t → slice_get (take a (drop b t)) i ≡ slice_get t j
part_at t a b i j within at short =
    let long : length (take a (drop b t)) ≡ min a (length t - b) = length-take a (drop b t) ∙ ap (min a) (length-drop b t) in
    slice_get-get_or (take a (drop b t)) i 0 (omega (arith, long, within, at, short))
    ∙ ap (λ (n : ℕ). Some n) (get_or-take a (drop b t) i 0 within ∙ get_or-drop b t i 0 ∙ ap (λ (n : ℕ). get_or t n 0) (sym at))
    ∙ sym (slice_get-get_or t j 0 short)

pub words_stay : (known more : Known) (pieces : Pieces) (p : Place) → KnowsMore known more → AreCut known pieces
    → piece_words more pieces p ≡ piece_words known pieces p
words_stay known more pieces p knows cut =
    ap (λ (xs : List ℕ). if nat_le pieces.begin p.index then slice_get xs (p.index - pieces.begin) else None)
    (same_text known more pieces.ids knows cut.each)
