-- One region more: its words behind those of the regions before.
use Rattle.std.proofs.Common.{◌≡◌, ℕ, ◌+◌, ◌-◌, ◌<◌, Bool, true, false, ◌&&◌, ◌||◌, nat_lt, nat_le, ◌==◌, if◌then◌else◌, List, [], ◌∷◌, ◌++◌, length, get_or, Option, None, Some, arith, refl, ap, subst, sym, ◌∙◌, inl, inr}
use Rattle.std.proofs.lemmas.List.{length-append, get_or_past, get_or_append_left, get_or_push}
use Rattle.std.proofs.lemmas.Bool.{cases_lt, cond-true, cond-false}
use Rattle.std.proofs.lemmas.Bool.Decides.{nat_tests}
use Rattle.cd_base.specs.declared.place.Place.{Place}
use Rattle.cd_base.specs.declared.place.Range.{Range}
use Rattle.cd_base.specs.declared.pattern.Pattern.{Pattern}
use Rattle.cd_base.specs.Words.{in_range, in_ranges, pattern_word}
use Rattle.cd_base.proofs.PlaceLemmas.{Inside, inside_from}
use Rattle.cd_base.proofs.BoolLemmas.{by_test, or-none}
use Rattle.cd_base.proofs.RangeLemmas.{in_ranges-append}
use Rattle.cd_field.specs.Hulls.{HullModel, no_hull, hull_at, HasIndex, word_in, away_in, words_by, lost_by, AreCovered}
use Rattle.cd_field.proofs.HullLemmas.{index_short}

-- a region's range and hull
abbrev pub whole_range : ℕ → ℕ → Range
whole_range number count = record { region = number; low = 0; high = count }

-- a list has the words of a pattern
abbrev pub HasPattern : Pattern → ℕ → List ℕ → Type 0
HasPattern pattern count words = (length words ≡ count) × ((k : ℕ) → k < count → get_or words k 0 ≡ pattern_word pattern k)

choose_or : (a b : Bool) → a ≡ true → (a || b) ≡ true
choose_or true b e = refl
choose_or false b e = absurd (cc)

pass_or : (a b : Bool) → a ≡ false → (a || b) ≡ b
pass_or true b e = absurd (cc)
pass_or false b e = refl

pushed_test : (ranges : List Range) (r : Range) (q : Place) → in_ranges (ranges ++ r ∷ []) q ≡ (in_ranges ranges q || in_range r q)
pushed_test ranges r q =
    in_ranges-append ranges (r ∷ []) q ∙ ap (λ (b : Bool). in_ranges ranges q || b) (or-none (in_range r q))

-- the region's places are those of its range
region_test : (number count region i : ℕ) → ((number == region) && (nat_le 0 i && nat_lt i count)) ≡ ((number == region) && nat_lt i count)
region_test number count region i = grind (arith, nat_tests)

other_region : (n k i count : ℕ) → k < n → ((n == k) && nat_lt i count) ≡ false
other_region n k i count e = grind (arith, nat_tests)

-- the places of the regions before have the hulls that they had
hull_before : (hulls : List HullModel) (hull : HullModel) (k : ℕ) → k < length hulls → hull_at (hulls ++ hull ∷ []) k ≡ hull_at hulls k
hull_before hulls hull k short = get_or_append_left hulls (hull ∷ []) no_hull k short

hull_last : (hulls : List HullModel) (hull : HullModel) (k : ℕ) → length hulls ≡ k → hull_at (hulls ++ hull ∷ []) k ≡ hull
hull_last hulls hull k long = get_or_push hulls hull no_hull k long

-- a region loaded: its range and its hull stand last
pub record Loads (ranges later : List Range) (hulls after : List HullModel) (number count : ℕ) (words : List ℕ) : Type 0 where
  pub long : length hulls ≡ number
  pub ranges_are : later ≡ ranges ++ whole_range number count ∷ []
  pub hulls_are : after ≡ hulls ++ record { low = 0; words = words; away = [] } ∷ []
  pub covered : AreCovered ranges hulls

pub loaded_cover : (ranges later : List Range) (hulls after : List HullModel) (number count : ℕ) (words : List ℕ)
    → Loads ranges later hulls after number count words → length words ≡ count → AreCovered later after
loaded_cover ranges later hulls after number count words loads long = record {
  each = λ q inside.
      let hull : HullModel = record { low = 0; words = words; away = [] } in
      let r : Range = whole_range number count in
      let P : HullModel → Type 0 = λ h. HasIndex h q.index in
      let test : (in_ranges ranges q || in_range r q) ≡ true =
      sym (ap (λ (v : List Range). in_ranges v q) loads.ranges_are ∙ pushed_test ranges r q) ∙ inside in
      let at : hull_at after q.region ≡ hull_at (hulls ++ hull ∷ []) q.region = ap (λ (v : List HullModel). hull_at v q.region) loads.hulls_are in
      by_test (in_ranges ranges q)
      (λ t. let was : HasIndex (hull_at hulls q.region) q.index = loads.covered.each q t in
      subst P (sym (at ∙ hull_before hulls hull q.region (index_short hulls q.region q.index was))) was)
      (λ f. let i : Inside r q = inside_from r q (sym (pass_or (in_ranges ranges q) (in_range r q) f) ∙ test) in
      subst P (sym (at ∙ hull_last hulls hull q.region (loads.long ∙ i.region))) (omega arith, omega (arith, i.high, long)));
}

pub loaded_words : (ranges later : List Range) (hulls after : List HullModel) (number count : ℕ) (words : List ℕ) (pattern : Pattern)
    → Loads ranges later hulls after number count words → HasPattern pattern count words → (q : Place)
    → words_by later after q ≡ (if (number == q.region) && nat_lt q.index count then Some (pattern_word pattern q.index) else words_by ranges hulls q)
loaded_words ranges later hulls after number count words pattern loads has q =
    let hull : HullModel = record { low = 0; words = words; away = [] } in
    let r : Range = whole_range number count in
    let word : Option ℕ = Some (word_in (hull_at after q.region) q.index) in
    let test : in_ranges later q ≡ (in_ranges ranges q || in_range r q) =
    ap (λ (v : List Range). in_ranges v q) loads.ranges_are ∙ pushed_test ranges r q in
    let at : hull_at after q.region ≡ hull_at (hulls ++ hull ∷ []) q.region = ap (λ (v : List HullModel). hull_at v q.region) loads.hulls_are in
    let same : in_range r q ≡ ((number == q.region) && nat_lt q.index count) = region_test number count q.region q.index in
    by_test (in_ranges ranges q)
    (λ t. let was : HasIndex (hull_at hulls q.region) q.index = loads.covered.each q t in
    let short : q.region < length hulls = index_short hulls q.region q.index was in
    let other : ((number == q.region) && nat_lt q.index count) ≡ false = other_region number q.region q.index count (omega (arith, short, loads.long)) in
    cond-true (in_ranges later q) word None (test ∙ choose_or (in_ranges ranges q) (in_range r q) t)
    ∙ ap (λ (h : HullModel). Some (word_in h q.index)) (at ∙ hull_before hulls hull q.region short)
    ∙ sym (cond-true (in_ranges ranges q) (Some (word_in (hull_at hulls q.region) q.index)) None t)
    ∙ sym (cond-false ((number == q.region) && nat_lt q.index count) (Some (pattern_word pattern q.index)) (words_by ranges hulls q) other))
    (λ f. by_test (in_range r q)
    (λ s. let i : Inside r q = inside_from r q s in
    cond-true (in_ranges later q) word None (test ∙ pass_or (in_ranges ranges q) (in_range r q) f ∙ s)
    ∙ ap (λ (h : HullModel). Some (word_in h q.index)) (at ∙ hull_last hulls hull q.region (loads.long ∙ i.region))
    ∙ ap (λ (n : ℕ). Some (get_or words n 0)) (let same : q.index - 0 ≡ q.index = omega arith in same)
    ∙ ap (λ (n : ℕ). Some n) (has.1 q.index i.high)
    ∙ sym (cond-true ((number == q.region) && nat_lt q.index count) (Some (pattern_word pattern q.index)) (words_by ranges hulls q) (sym same ∙ s)))
    (λ n. cond-false (in_ranges later q) word None (test ∙ pass_or (in_ranges ranges q) (in_range r q) f ∙ n)
    ∙ sym (cond-false (in_ranges ranges q) (Some (word_in (hull_at hulls q.region) q.index)) None f)
    ∙ sym (cond-false ((number == q.region) && nat_lt q.index count) (Some (pattern_word pattern q.index)) (words_by ranges hulls q) (sym same ∙ n))))

pub loaded_here : (ranges later : List Range) (hulls after : List HullModel) (number count : ℕ) (words : List ℕ)
    → Loads ranges later hulls after number count words → (q : Place) → lost_by ranges hulls q ≡ false → lost_by later after q ≡ false
loaded_here ranges later hulls after number count words loads q here =
    let hull : HullModel = record { low = 0; words = words; away = [] } in
    let r : Range = whole_range number count in
    let away : Bool = away_in (hull_at after q.region) q.index in
    let test : in_ranges later q ≡ (in_ranges ranges q || in_range r q) =
    ap (λ (v : List Range). in_ranges v q) loads.ranges_are ∙ pushed_test ranges r q in
    let at : hull_at after q.region ≡ hull_at (hulls ++ hull ∷ []) q.region = ap (λ (v : List HullModel). hull_at v q.region) loads.hulls_are in
    by_test (in_ranges ranges q)
    (λ t. let was : HasIndex (hull_at hulls q.region) q.index = loads.covered.each q t in
    cond-true (in_ranges later q) away false (test ∙ choose_or (in_ranges ranges q) (in_range r q) t)
    ∙ ap (λ (h : HullModel). away_in h q.index) (at ∙ hull_before hulls hull q.region (index_short hulls q.region q.index was))
    ∙ sym (cond-true (in_ranges ranges q) (away_in (hull_at hulls q.region) q.index) false t) ∙ here)
    (λ f. by_test (in_range r q)
    (λ s. let i : Inside r q = inside_from r q s in
    cond-true (in_ranges later q) away false (test ∙ pass_or (in_ranges ranges q) (in_range r q) f ∙ s)
    ∙ ap (λ (h : HullModel). away_in h q.index) (at ∙ hull_last hulls hull q.region (loads.long ∙ i.region))
    ∙ get_or_past {X = Bool} [] (q.index - 0) false (omega arith))
    (λ n. cond-false (in_ranges later q) away false (test ∙ pass_or (in_ranges ranges q) (in_range r q) f ∙ n)))

-- one word of a pattern more
pub pattern_more : (pattern : Pattern) (words later : List ℕ) (k word : ℕ) → HasPattern pattern k words → later ≡ words ++ word ∷ []
    → word ≡ pattern_word pattern k → HasPattern pattern (k + 1) later
pattern_more pattern words later k word has is one = (
  ap (λ (v : List ℕ). length v) is ∙ (let l : length (words ++ word ∷ []) ≡ k + 1 = omega (arith, length-append words (word ∷ []), has.0) in l),
  λ j short. ap (λ (v : List ℕ). get_or v j 0) is
      ∙ elim (cases_lt j k) [
        | inl l ↦ get_or_append_left words (word ∷ []) 0 j (omega (arith, has.0)) ∙ has.1 j l
        | inr l ↦
            let same : k ≡ j = omega arith in
            get_or_push words word 0 j (has.0 ∙ same) ∙ one ∙ ap (pattern_word pattern) same
      ],
)
