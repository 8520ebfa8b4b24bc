-- Runs of words: read one by one into a list, and laid over a range one by one.
use Rattle.std.proofs.Common.{◌≡◌, ℕ, ◌+◌, ◌-◌, ◌<◌, ◌≤◌, max, ◌&&◌, ◌||◌, nat_lt, nat_le, ◌==◌, Bool, false, if◌then◌else◌, List, [], ◌∷◌, length, map, set, get_or, Option, None, Some, IsSome, unwrap_or, true, refl, ap, ap₂, sym, subst, ◌∙◌, arith, inl, inr}
use Rattle.std.specs.List.{range_with_len}
use Rattle.std.proofs.lemmas.Bool.{cases_lt, cond-true, cond-false, or_left}
use Rattle.std.proofs.lemmas.Bool.Decides.{nat_tests}
use Rattle.std.proofs.lemmas.List.{ext_get_or, get_or-set_same, get_or-set_other}
use Rattle.std.proofs.lemmas.List.FromFn.{length-map-range_with_len, get_or-map-range_with_len}
use Rattle.std.proofs.Math.Path.{fun_ext}
use Rattle.cd_base.specs.declared.place.Place.{Place}
use Rattle.cd_base.specs.declared.place.Range.{Range}
use Rattle.cd_base.specs.Words.{Words, PlaceSet, word_at, same_place, in_range}
use Rattle.cd_tree.specs.Operations.{length_of, nth_word}
use Rattle.cd_field.specs.FieldModel.{FieldModel, ArePresent, refilled_word, laid, words_in, wrote_run, refilled_run}
use Rattle.cd_base.proofs.BoolLemmas.{by_test}
use Rattle.cd_field.proofs.PlaceLemmas.{choice_at, choice_or, range_none}
use Rattle.cd_base.proofs.PlaceLemmas.{Inside, inside_from, place-same}
use Rattle.cd_tree.specs.Meaning.{written}

-- ---- reading

-- a list that has each word of a range is the list of its words
pub read_all : (w : Words) (r : Range) (xs : List ℕ) → length xs ≡ length_of r
    → ((j : ℕ) → j < length_of r → get_or xs j 0 ≡ nth_word w r j) → xs ≡ words_in w r
read_all w r xs long each =
    let f : ℕ → ℕ = λ i. word_at w (record { region = r.region; index = i }) in
    let n : ℕ = length_of r in
    let same : length xs ≡ length (map f (range_with_len r.low n)) = long ∙ sym (length-map-range_with_len f r.low n) in
    ext_get_or 0 xs (map f (range_with_len r.low n)) same
    (λ i short. let inside : i < n = omega (arith, long) in
    each i inside ∙ sym (get_or-map-range_with_len f r.low n i (r.low + i) 0 inside refl))

pub words_long : (w : Words) (r : Range) (xs : List ℕ) → xs ≡ words_in w r → length xs ≡ length_of r
words_long w r xs is =
    ap length is ∙ length-map-range_with_len (λ i. word_at w (record { region = r.region; index = i })) r.low (length_of r)

-- one word of them
pub word_read : (w : Words) (r : Range) (xs : List ℕ) → xs ≡ words_in w r → (j : ℕ) → j < length_of r → get_or xs j 0 ≡ nth_word w r j
word_read w r xs is j short =
    ap (λ (v : List ℕ). get_or v j 0) is
    ∙ get_or-map-range_with_len (λ i. word_at w (record { region = r.region; index = i })) r.low (length_of r) j (r.low + j) 0 short refl

-- one word more is read
pub read_more : (w : Words) (r : Range) (xs : List ℕ) (i word : ℕ) → r.low ≤ i → i - r.low < length xs
    → w (record { region = r.region; index = i }) ≡ Some word
    → ((j : ℕ) → j < i - r.low → get_or xs j 0 ≡ nth_word w r j)
    → (j : ℕ) → j < (i + 1) - r.low → get_or (set xs (i - r.low) word) j 0 ≡ nth_word w r j
read_more w r xs i word low short here each j before =
    elim (cases_lt j (i - r.low)) [
      | inl l ↦ get_or-set_other xs (i - r.low) j word 0 (λ e. omega arith) ∙ each j l
      | inr l ↦
          let at : i - r.low ≡ j = omega arith in
          let back : r.low + (i - r.low) ≡ i = omega arith in
          let P : ℕ → Type 0 = λ n. get_or (set xs (i - r.low) word) n 0 ≡ nth_word w r n in
          let read : nth_word w r (i - r.low) ≡ word =
          ap (λ (n : ℕ). unwrap_or (w (record { region = r.region; index = n })) 0) back ∙ ap (λ (o : Option ℕ). unwrap_or o 0) here in
          subst P at (get_or-set_same xs (i - r.low) word 0 short ∙ sym read)
    ]

-- ---- a function of places that changes over a range, one place at a time

span_last : (a b i j low : ℕ) → low ≤ i
    → ((a == b) && (nat_le low j && nat_lt j (i + 1))) ≡ (((a == b) && (nat_le low j && nat_lt j i)) || ((a == b) && (i == j)))
span_last a b i j low h = grind (arith, nat_tests)

pub span_more : {X : Type 0} (f old : Place → X) (r : Range) (i : ℕ) → r.low ≤ i → (q : Place)
    → (if same_place (record { region = r.region; index = i }) q then f (record { region = r.region; index = i })
    else (if in_range (record r { high = i }) q then f q else old q))
    ≡ (if in_range (record r { high = i + 1 }) q then f q else old q)
span_more {X} f old r i low q =
    let p : Place = record { region = r.region; index = i } in
    let front : Bool = in_range (record r { high = i }) q in
    choice_at f p q (if front then f q else old q)
    ∙ sym (choice_or front (same_place p q) (f q) (old q))
    ∙ ap (λ (b : Bool). if b then f q else old q) (sym (span_last r.region q.region i q.index r.low low))

-- up to the end of the range all is changed; an empty range changes nothing
pub span_end : {X : Type 0} (f old : Place → X) (r : Range) (i : ℕ) → r.high ≤ i → i ≤ max r.low r.high → (q : Place)
    → (if in_range (record r { high = i }) q then f q else old q) ≡ (if in_range r q then f q else old q)
span_end {X} f old r i past most q =
    elim (cases_lt r.low r.high) [
      | inl l ↦ let e : i ≡ r.high = omega arith in ap (λ (n : ℕ). if in_range (record r { high = n }) q then f q else old q) e
      | inr l ↦
          let empty : i ≤ r.low = omega arith in range_none f old (record r { high = i }) empty q ∙ sym (range_none f old r l q)
    ]

-- ---- machines

-- the word that a list lays over a place
abbrev word_for : Range → List ℕ → Place → Option ℕ
word_for r words q = Some (get_or words (q.index - r.low) 0)

-- words put back over places that are present are words written
pub refilled_present : (m : FieldModel) (r : Range) (words : List ℕ) → ArePresent m (r ∷ []) → refilled_run m r words ≡ wrote_run m r words
refilled_present m r words present =
    ap (λ (l : PlaceSet). record m { words = laid m.words r words; lost = l })
    (fun_ext (λ q. by_test (in_range r q)
    (λ t. cond-true (in_range r q) false (m.lost q) t ∙ sym (present q (or_left (in_range r q) false t)).here)
    (λ f. cond-false (in_range r q) false (m.lost q) f)))

pub refilled_none : (m : FieldModel) (r : Range) (words : List ℕ) → m ≡ refilled_run m (record r { high = r.low }) words
refilled_none m r words =
    ap₂ (λ (w : Words) (l : PlaceSet). record m { words = w; lost = l })
    (sym (fun_ext (range_none (word_for r words) m.words (record r { high = r.low }) (omega arith))))
    (sym (fun_ext (range_none (λ q. false) m.lost (record r { high = r.low }) (omega arith))))

pub refilled_more : (m was later : FieldModel) (r : Range) (words : List ℕ) (i : ℕ) → r.low ≤ i
    → m ≡ refilled_run was (record r { high = i }) words
    → later ≡ refilled_word m (record { region = r.region; index = i }) (get_or words (i - r.low) 0)
    → later ≡ refilled_run was (record r { high = i + 1 }) words
refilled_more m was later r words i low is after =
    after
    ∙ ap (λ (v : FieldModel). refilled_word v (record { region = r.region; index = i }) (get_or words (i - r.low) 0)) is
    ∙ ap₂ (λ (w : Words) (l : PlaceSet). record was { words = w; lost = l })
    (fun_ext (span_more (word_for r words) was.words r i low))
    (fun_ext (span_more (λ q. false) was.lost r i low))

pub refilled_all : (m was : FieldModel) (r : Range) (words : List ℕ) (i : ℕ) → r.high ≤ i → i ≤ max r.low r.high
    → m ≡ refilled_run was (record r { high = i }) words → m ≡ refilled_run was r words
refilled_all m was r words i past most is =
    is
    ∙ ap₂ (λ (w : Words) (l : PlaceSet). record was { words = w; lost = l })
    (fun_ext (span_end (word_for r words) was.words r i past most))
    (fun_ext (span_end (λ q. false) was.lost r i past most))

-- words laid over a range that are the words of others there
pub laid_others : (others old : Words) (r : Range) (run : List ℕ) (q : Place) → run ≡ words_in others r → ((p : Place) → in_range r p ≡ true → IsSome (others p))
    → laid old r run q ≡ written (in_range r) others old q
laid_others others old r run q is known =
    by_test (in_range r q)
    (λ t. let i : Inside r q = inside_from r q t in
    let low : r.low ≤ q.index = i.low in
    let high : q.index < r.high = i.high in
    let back : r.low + (q.index - r.low) ≡ q.index = omega arith in
    let same : record { region = r.region; index = q.index } ≡ q = place-same _ q i.region refl in
    cond-true (in_range r q) (word_for r run q) (old q) t
    ∙ ap (λ (n : ℕ). Some n) (word_read others r run is (q.index - r.low) (omega arith)
    ∙ ap (λ (n : ℕ). unwrap_or (others (record { region = r.region; index = n })) 0) back
    ∙ ap (λ (p : Place). unwrap_or (others p) 0) same)
    ∙ some_of_known (others q) (known q t)
    ∙ sym (cond-true (in_range r q) (others q) (old q) t))
    (λ f. cond-false (in_range r q) (word_for r run q) (old q) f ∙ sym (cond-false (in_range r q) (others q) (old q) f))
  where
    some_of_known : (o : Option ℕ) → IsSome o → Some (unwrap_or o 0) ≡ o
    some_of_known None some = absurd (cc)
    some_of_known (Some n) some = refl
