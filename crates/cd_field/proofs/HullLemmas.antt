-- Lists of hulls: what is known of a place, what a change of one hull does, and how flags and runs change.
use Rattle.std.proofs.Common.{◌≡◌, ℕ, zero, suc, ◌+◌, ◌-◌, ◌<◌, ◌≤◌, Bool, true, false, ◌&&◌, ◌||◌, nat_lt, nat_le, ◌==◌, if◌then◌else◌, List, ◌++◌, length, set, take, drop, get_or, replicate, min, Option, None, Some, IsSome, unwrap_or, arith, refl, ap, subst, sym, ◌∙◌, inl, inr}
use Rattle.std.specs.List.{splice}
use Rattle.std.proofs.lemmas.List.{length-append, length-take, length-drop, length-replicate, get_or_past, get_or-set_same, get_or-set_other, get_or-take, get_or-drop, get_or_append_left, get_or-append_right, set_past}
use Rattle.std.proofs.lemmas.Bool.{cases_lt, cond-true, cond-false, eqb-true, false_from_ne_true}
use Rattle.std.proofs.lemmas.Bool.Decides.{nat_tests}
use Rattle.cd_base.specs.declared.place.Place.{Place}
use Rattle.cd_base.specs.declared.place.Range.{Range}
use Rattle.cd_base.specs.Words.{PlaceSet, same_place, in_range, in_ranges}
use Rattle.cd_base.proofs.PlaceLemmas.{Inside, inside_from, inside_to}
use Rattle.cd_base.proofs.BoolLemmas.{by_test}
use Rattle.cd_field.proofs.PlaceLemmas.{choice_true}
use Rattle.cd_field.specs.Hulls.{HullModel, no_hull, hull_at, HasIndex, HasRun, word_in, away_in, run_in, place_by, words_by, lost_by, AreCovered, changed, run_laid, cleared, flags_cleared, run_cleared, flags_grown, run_marked, with_hull}

-- ---- what is known of a place

pub index_short : (hulls : List HullModel) (region i : ℕ) → HasIndex (hull_at hulls region) i → region < length hulls
index_short hulls region i has =
    elim (cases_lt region (length hulls)) [
      | inl l ↦ l
      | inr l ↦
          let P : HullModel → Type 0 = λ h. HasIndex h i in
          let none : P no_hull = subst P (get_or_past hulls region no_hull l) has in
          absurd (omega (arith, none.1))
    ]

pub run_short : (hulls : List HullModel) (region low high : ℕ) → low < high → HasRun (hull_at hulls region) low high → region < length hulls
run_short hulls region low high full has = index_short hulls region low (has.0, omega (arith, has.0, has.2))

pub place_known : (ranges : List Range) (hulls : List HullModel) (q : Place) → IsSome (words_by ranges hulls q) → in_ranges ranges q ≡ true
place_known ranges hulls q some =
    by_test (in_ranges ranges q) (λ t. t)
    (λ f. let P : Option ℕ → Type 0 = λ o. IsSome o in
    let no : P None = subst P (cond-false (in_ranges ranges q) (Some (word_in (hull_at hulls q.region) q.index)) None f) some in
    absurd (cc))

pub index_known : (ranges : List Range) (hulls : List HullModel) (q : Place) → AreCovered ranges hulls → IsSome (words_by ranges hulls q)
    → HasIndex (hull_at hulls q.region) q.index
index_known ranges hulls q covered some = covered.each q (place_known ranges hulls q some)

pub word_known : (ranges : List Range) (hulls : List HullModel) (q : Place) → IsSome (words_by ranges hulls q)
    → words_by ranges hulls q ≡ Some (word_in (hull_at hulls q.region) q.index)
word_known ranges hulls q some = cond-true (in_ranges ranges q) (Some (word_in (hull_at hulls q.region) q.index)) None (place_known ranges hulls q some)

-- each place of a range has a word
abbrev pub AreKnown : List Range → List HullModel → Range → Type 0
AreKnown ranges hulls r = (q : Place) → in_range r q ≡ true → IsSome (words_by ranges hulls q)

pub run_known : (ranges : List Range) (hulls : List HullModel) (r : Range) → AreCovered ranges hulls → AreKnown ranges hulls r → r.low < r.high
    → HasRun (hull_at hulls r.region) r.low r.high
run_known ranges hulls r covered known full =
    let p : Place = record { region = r.region; index = r.low } in
    let q : Place = record { region = r.region; index = r.high - 1 } in
    let first : HasIndex (hull_at hulls r.region) r.low =
    index_known ranges hulls p covered (known p (inside_to r p (record { region = refl; low = omega arith; high = full }))) in
    let last : HasIndex (hull_at hulls r.region) (r.high - 1) =
    index_known ranges hulls q covered (known q (inside_to r q (record { region = refl; low = omega arith; high = omega arith }))) in
    (first.0, omega arith, omega (arith, first.0, last.1))

-- ---- lists changed at one place, in a run, or grown

pub set_read : {X : Type 0} (xs : List X) (i k : ℕ) (y d : X) → i < length xs → get_or (set xs i y) k d ≡ (if i == k then y else get_or xs k d)
set_read {X} xs i k y d short =
    by_test (i == k)
    (λ t. let same : i ≡ k = eqb-true i k t in
    let P : ℕ → Type 0 = λ n. get_or (set xs i y) n d ≡ y in
    subst P same (get_or-set_same xs i y d short) ∙ sym (cond-true (i == k) y (get_or xs k d) t))
    (λ f. get_or-set_other xs i k y d (λ e. tests_apart i k e f) ∙ sym (cond-false (i == k) y (get_or xs k d) f))
  where
    tests_apart : (i k : ℕ) → k ≡ i → (i == k) ≡ false → ⊥
    tests_apart i k e f = grind (arith, nat_tests)

-- a flag taken back, where there is one
pub flag_read : (away : List Bool) (i k : ℕ) → get_or (set away i false) k false ≡ (if i == k then false else get_or away k false)
flag_read away i k =
    elim (cases_lt i (length away)) [
      | inl l ↦ set_read away i k false false l
      | inr l ↦
          ap (λ (v : List Bool). get_or v k false) (set_past away i false l)
          ∙ by_test (i == k)
          (λ t. let same : i ≡ k = eqb-true i k t in
          get_or_past away k false (omega (arith, same, l)) ∙ sym (cond-true (i == k) false (get_or away k false) t))
          (λ f. sym (cond-false (i == k) false (get_or away k false) f))
    ]

-- whether an index is one of a run's
abbrev pub in_run : ℕ → ℕ → ℕ → Bool
in_run from to k = nat_le from k && nat_lt k to

run_says : (from to k : ℕ) → in_run from to k ≡ true → (from ≤ k) × (k < to)
run_says from to k e = (grind (arith, nat_tests), grind (arith, nat_tests))

run_denies : (from to k : ℕ) → in_run from to k ≡ false → from ≤ k → to ≤ k
run_denies from to k e at = grind (arith, nat_tests)

spliced_within : {X : Type 0} (xs run : List X) (a k : ℕ) (d : X) → a ≤ length xs → a ≤ k → k < a + length run
    → get_or (splice xs a (a + length run) run) k d ≡ get_or run (k - a) d
spliced_within {X} xs run a k d at from to =
    let front : length (take a xs) ≡ a = omega (arith, length-take a xs) in
    get_or-append_right (take a xs) (run ++ drop (a + length run) xs) a k d front from
    ∙ get_or_append_left run (drop (a + length run) xs) d (k - a) (omega arith)

spliced_before : {X : Type 0} (xs run : List X) (a k : ℕ) (d : X) → a ≤ length xs → k < a → get_or (splice xs a (a + length run) run) k d ≡ get_or xs k d
spliced_before {X} xs run a k d at before =
    let front : length (take a xs) ≡ a = omega (arith, length-take a xs) in
    get_or_append_left (take a xs) (run ++ drop (a + length run) xs) d k (omega arith) ∙ get_or-take a xs k d before

spliced_behind : {X : Type 0} (xs run : List X) (a k : ℕ) (d : X) → a ≤ length xs → a + length run ≤ k
    → get_or (splice xs a (a + length run) run) k d ≡ get_or xs k d
spliced_behind {X} xs run a k d at behind =
    let front : length (take a xs) ≡ a = omega (arith, length-take a xs) in
    let back : (a + length run) + ((k - a) - length run) ≡ k = omega arith in
    get_or-append_right (take a xs) (run ++ drop (a + length run) xs) a k d front (omega arith)
    ∙ get_or-append_right run (drop (a + length run) xs) (length run) (k - a) d refl (omega arith)
    ∙ get_or-drop (a + length run) xs ((k - a) - length run) d
    ∙ ap (λ (n : ℕ). get_or xs n d) back

pub splice_read : {X : Type 0} (xs run : List X) (a k : ℕ) (d : X) → a ≤ length xs
    → get_or (splice xs a (a + length run) run) k d ≡ (if in_run a (a + length run) k then get_or run (k - a) d else get_or xs k d)
splice_read {X} xs run a k d at =
    by_test (in_run a (a + length run) k)
    (λ t. let s : (a ≤ k) × (k < a + length run) = run_says a (a + length run) k t in
    spliced_within xs run a k d at s.0 s.1 ∙ sym (cond-true (in_run a (a + length run) k) (get_or run (k - a) d) (get_or xs k d) t))
    (λ f. let same : get_or (splice xs a (a + length run) run) k d ≡ get_or xs k d =
    elim (cases_lt k a) [
      | inl l ↦ spliced_before xs run a k d at l
      | inr l ↦ spliced_behind xs run a k d at (run_denies a (a + length run) k f l)
    ] in
    same ∙ sym (cond-false (in_run a (a + length run) k) (get_or run (k - a) d) (get_or xs k d) f))

pub splice_long : {X : Type 0} (xs run : List X) (a : ℕ) → a + length run ≤ length xs → length (splice xs a (a + length run) run) ≡ length xs
splice_long {X} xs run a room =
    omega (
      arith,
      length-append (take a xs) (run ++ drop (a + length run) xs),
      length-append run (drop (a + length run) xs),
      length-take a xs,
      length-drop (a + length run) xs,
    )

-- the same item throughout
pub all_read : {X : Type 0} (n k : ℕ) (x : X) → get_or (replicate n x) k x ≡ x
all_read {X} zero k x = refl
all_read {X} (suc n) zero x = refl
all_read {X} (suc n) (suc k) x = all_read n k x

some_read : {X : Type 0} (n k : ℕ) (x d : X) → k < n → get_or (replicate n x) k d ≡ x
some_read {X} zero k x d short = absurd (omega arith)
some_read {X} (suc n) zero x d short = refl
some_read {X} (suc n) (suc k) x d short = some_read n k x d (omega arith)

-- so many flags from one on become the same
filled_read : (away : List Bool) (a n k : ℕ) (b : Bool) → a ≤ length away
    → get_or (splice away a (a + n) (replicate n b)) k false ≡ (if in_run a (a + n) k then b else get_or away k false)
filled_read away a n k b at =
    let run : List Bool = replicate n b in
    let long : length run ≡ n = length-replicate n b in
    ap (λ (m : ℕ). get_or (splice away a (a + m) run) k false) (sym long)
    ∙ splice_read away run a k false at
    ∙ ap (λ (m : ℕ). if in_run a (a + m) k then get_or run (k - a) false else get_or away k false) long
    ∙ by_test (in_run a (a + n) k)
    (λ t. let s : (a ≤ k) × (k < a + n) = run_says a (a + n) k t in
    cond-true (in_run a (a + n) k) (get_or run (k - a) false) (get_or away k false) t
    ∙ some_read n (k - a) b false (omega arith)
    ∙ sym (cond-true (in_run a (a + n) k) b (get_or away k false) t))
    (λ f. cond-false (in_run a (a + n) k) (get_or run (k - a) false) (get_or away k false) f
    ∙ sym (cond-false (in_run a (a + n) k) b (get_or away k false) f))

-- a run that ends where the flags end, or goes on
cut_short : (from to count k : ℕ) (b : Bool) → from < min to count → (count ≤ k → b ≡ false)
    → (if in_run from (from + (min to count - from)) k then false else b) ≡ (if in_run from to k then false else b)
cut_short from to count k b full past =
    by_test (in_run from to k)
    (λ t. let s : (from ≤ k) × (k < to) = run_says from to k t in
    elim (cases_lt k count) [
      | inl l ↦
          let here : in_run from (from + (min to count - from)) k ≡ true = inside from to count k s.0 s.1 l in
          cond-true (in_run from (from + (min to count - from)) k) false b here ∙ sym (cond-true (in_run from to k) false b t)
      | inr l ↦
          same_choice (in_run from (from + (min to count - from)) k) b (past l) ∙ sym (cond-true (in_run from to k) false b t)
    ])
    (λ f. let out : in_run from (from + (min to count - from)) k ≡ false = outside from to count k f in
    cond-false (in_run from (from + (min to count - from)) k) false b out ∙ sym (cond-false (in_run from to k) false b f))
  where
    inside : (from to count k : ℕ) → from ≤ k → k < to → k < count → in_run from (from + (min to count - from)) k ≡ true
    inside from to count k a b c = grind (arith, nat_tests)

    outside : (from to count k : ℕ) → in_run from to k ≡ false → in_run from (from + (min to count - from)) k ≡ false
    outside from to count k e = grind (arith, nat_tests)

    same_choice : (b x : Bool) → x ≡ false → (if b then false else x) ≡ false
    same_choice true x e = refl
    same_choice false x e = e

pub cleared_read : (away : List Bool) (from to k : ℕ) → get_or (flags_cleared away from to) k false ≡ (if in_run from to k then false else get_or away k false)
cleared_read away from to k =
    let end : ℕ = min to (length away) in
    let run : List Bool = splice away from (from + (end - from)) (replicate (end - from) false) in
    by_test (nat_lt from end)
    (λ t. let full : from < end = lt_says from end t in
    ap (λ (v : List Bool). get_or v k false) (cond-true (nat_lt from end) run away t)
    ∙ filled_read away from (end - from) k false (omega arith)
    ∙ cut_short from to (length away) k (get_or away k false) full (λ past. get_or_past away k false past))
    (λ f. let none : end ≤ from = lt_denies from end f in
    ap (λ (v : List Bool). get_or v k false) (cond-false (nat_lt from end) run away f)
    ∙ by_test (in_run from to k)
    (λ t. let s : (from ≤ k) × (k < to) = run_says from to k t in
    get_or_past away k false (omega arith) ∙ sym (cond-true (in_run from to k) false (get_or away k false) t))
    (λ g. sym (cond-false (in_run from to k) false (get_or away k false) g)))
  where
    lt_says : (a b : ℕ) → nat_lt a b ≡ true → a < b
    lt_says a b e = grind (arith, nat_tests)

    lt_denies : (a b : ℕ) → nat_lt a b ≡ false → b ≤ a
    lt_denies a b e = grind (arith, nat_tests)

grown_read : (away : List Bool) (count k : ℕ) → get_or (flags_grown away count) k false ≡ get_or away k false
grown_read away count k =
    elim (cases_lt k (length away)) [
      | inl l ↦ get_or_append_left away (replicate (count - length away) false) false k l
      | inr l ↦
          get_or-append_right away (replicate (count - length away) false) (length away) k false refl l
          ∙ all_read (count - length away) (k - length away) false ∙ sym (get_or_past away k false l)
    ]

pub marked_read : (away : List Bool) (count a n k : ℕ) → a ≤ count
    → get_or (splice (flags_grown away count) a (a + n) (replicate n true)) k false ≡ (if in_run a (a + n) k then true else get_or away k false)
marked_read away count a n k at =
    let long : count ≤ length (flags_grown away count) =
    omega (arith, length-append away (replicate (count - length away) false), length-replicate (count - length away) false) in
    filled_read (flags_grown away count) a n k true (omega arith)
    ∙ ap (λ (b : Bool). if in_run a (a + n) k then true else b) (grown_read away count k)

-- ---- one hull of many

at_region : (hulls : List HullModel) (region k : ℕ) (hull : HullModel) → region < length hulls
    → hull_at (with_hull hulls region hull) k ≡ (if region == k then hull else hull_at hulls k)
at_region hulls region k hull short = set_read hulls region k hull no_hull short

pub covered_changed : (ranges : List Range) (hulls later : List HullModel) (region : ℕ) (hull : HullModel) → AreCovered ranges hulls → region < length hulls
    → hull.low ≡ (hull_at hulls region).low → length hull.words ≡ length (hull_at hulls region).words → later ≡ with_hull hulls region hull
    → AreCovered ranges later
covered_changed ranges hulls later region hull covered short low long is = record {
  each = λ q inside.
      let was : HasIndex (hull_at hulls q.region) q.index = covered.each q inside in
      let P : HullModel → Type 0 = λ h. HasIndex h q.index in
      let at : hull_at later q.region ≡ (if region == q.region then hull else hull_at hulls q.region) =
      ap (λ (v : List HullModel). hull_at v q.region) is ∙ at_region hulls region q.region hull short in
      by_test (region == q.region)
      (λ t. let same : region ≡ q.region = eqb-true region q.region t in
      let old : HullModel = hull_at hulls q.region in
      let lows : hull.low ≡ old.low = low ∙ ap (λ (n : ℕ). (hull_at hulls n).low) same in
      let longs : length hull.words ≡ length old.words = long ∙ ap (λ (n : ℕ). length (hull_at hulls n).words) same in
      subst P (sym (at ∙ cond-true (region == q.region) hull (hull_at hulls q.region) t))
      (omega (arith, was.0, lows), omega (arith, was.1, lows, longs)))
      (λ f. subst P (sym (at ∙ cond-false (region == q.region) hull (hull_at hulls q.region) f)) was);
}

region_other : (a b : ℕ) → b ≡ a → (a == b) ≡ false → ⊥
region_other a b e f = grind (arith, nat_tests)

-- what places have once one hull is another: the value of a test's places changes, and that of no other
pub place_changed : {X : Type 0} (seen : HullModel → ℕ → X) (none : X) (ranges : List Range) (hulls later : List HullModel) (region : ℕ) (hull : HullModel)
    (test : PlaceSet) (value : Place → X) → region < length hulls → later ≡ with_hull hulls region hull
    → ((q : Place) → in_ranges ranges q ≡ true → q.region ≡ region → seen hull q.index ≡ (if test q then value q else seen (hull_at hulls region) q.index))
    → ((q : Place) → test q ≡ true → (in_ranges ranges q ≡ true) × (q.region ≡ region))
    → (q : Place) → place_by seen none ranges later q ≡ (if test q then value q else place_by seen none ranges hulls q)
place_changed {X} seen none ranges hulls later region hull test value short is each inside q =
    let old : X = seen (hull_at hulls q.region) q.index in
    let at : hull_at later q.region ≡ (if region == q.region then hull else hull_at hulls q.region) =
    ap (λ (v : List HullModel). hull_at v q.region) is ∙ at_region hulls region q.region hull short in
    by_test (in_ranges ranges q)
    (λ here. let is_old : old ≡ place_by seen none ranges hulls q = sym (cond-true (in_ranges ranges q) old none here) in
    cond-true (in_ranges ranges q) (seen (hull_at later q.region) q.index) none here
    ∙ by_test (region == q.region)
    (λ t. let same : q.region ≡ region = sym (eqb-true region q.region t) in
    ap (λ (h : HullModel). seen h q.index) (at ∙ cond-true (region == q.region) hull (hull_at hulls q.region) t)
    ∙ each q here same
    ∙ ap (λ (n : ℕ). if test q then value q else seen (hull_at hulls n) q.index) (sym same)
    ∙ ap (λ (x : X). if test q then value q else x) is_old)
    (λ f. let other : test q ≡ false = false_from_ne_true _ (λ t. region_other region q.region (inside q t).1 f) in
    ap (λ (h : HullModel). seen h q.index) (at ∙ cond-false (region == q.region) hull (hull_at hulls q.region) f)
    ∙ is_old ∙ sym (cond-false (test q) (value q) (place_by seen none ranges hulls q) other)))
    (λ out. let other : test q ≡ false = false_from_ne_true _ (λ t. let here : in_ranges ranges q ≡ true = (inside q t).0 in cc) in
    cond-false (in_ranges ranges q) (seen (hull_at later q.region) q.index) none out
    ∙ sym (cond-false (in_ranges ranges q) old none out)
    ∙ sym (cond-false (test q) (value q) (place_by seen none ranges hulls q) other))

-- nothing that is asked seen the hull changes
pub place_same : {X : Type 0} (seen : HullModel → ℕ → X) (none : X) (ranges : List Range) (hulls later : List HullModel) (region : ℕ) (hull : HullModel)
    → region < length hulls → later ≡ with_hull hulls region hull → ((i : ℕ) → seen hull i ≡ seen (hull_at hulls region) i)
    → (q : Place) → place_by seen none ranges later q ≡ place_by seen none ranges hulls q
place_same {X} seen none ranges hulls later region hull short is same q =
    place_changed seen none ranges hulls later region hull (λ p. false) (λ p. none) short is (λ p here at. same p.index) (λ p t. absurd (cc)) q

-- ---- the changes of a machine's words

abbrev pub word_of : HullModel → ℕ → Option ℕ
word_of hull i = Some (word_in hull i)

same_index : (a b low i j : ℕ) → b ≡ a → low ≤ i → low ≤ j → (i - low == j - low) ≡ ((a == b) && (i == j))
same_index a b low i j e p q = grind (arith, nat_tests)

run_index : (a b low from to j n : ℕ) → b ≡ a → low ≤ from → low ≤ j → from + n ≡ to
    → in_run (from - low) ((from - low) + n) (j - low) ≡ ((a == b) && (nat_le from j && nat_lt j to))
run_index a b low from to j n e p q r = grind (arith, nat_tests)

same_says : (p q : Place) → same_place p q ≡ true → (p.region ≡ q.region) × (p.index ≡ q.index)
same_says p q e = both p.region q.region p.index q.index e
  where
    both : (a b i j : ℕ) → ((a == b) && (i == j)) ≡ true → (a ≡ b) × (i ≡ j)
    both a b i j e = (grind (arith, nat_tests), grind (arith, nat_tests))

-- the places of one that is known
only_known : (ranges : List Range) (p : Place) → in_ranges ranges p ≡ true → (q : Place) → same_place p q ≡ true
    → (in_ranges ranges q ≡ true) × (q.region ≡ p.region)
only_known ranges p known q e =
    let s : (p.region ≡ q.region) × (p.index ≡ q.index) = same_says p q e in
    let P : ℕ → ℕ → Type 0 = λ m n. in_ranges ranges (record { region = m; index = n }) ≡ true in
    let one : P q.region p.index = (let Q : ℕ → Type 0 = λ m. P m p.index in subst Q s.0 known) in
    (let Q : ℕ → Type 0 = λ n. P q.region n in subst Q s.1 one, sym s.0)

range_known : (ranges : List Range) (hulls : List HullModel) (r : Range) → AreKnown ranges hulls r → (q : Place) → in_range r q ≡ true
    → (in_ranges ranges q ≡ true) × (q.region ≡ r.region)
range_known ranges hulls r known q e = (place_known ranges hulls q (known q e), sym (inside_from r q e).region)

pub word_set : (ranges : List Range) (hulls later : List HullModel) (p : Place) (word : ℕ) → AreCovered ranges hulls → IsSome (words_by ranges hulls p)
    → later ≡ with_hull hulls p.region (changed (hull_at hulls p.region) p.index word)
    → (q : Place) → words_by ranges later q ≡ (if same_place p q then Some word else words_by ranges hulls q)
word_set ranges hulls later p word covered known is q =
    let hull : HullModel = hull_at hulls p.region in
    let has : HasIndex hull p.index = index_known ranges hulls p covered known in
    place_changed word_of None ranges hulls later p.region (changed hull p.index word) (same_place p) (λ v. Some word)
    (index_short hulls p.region p.index has) is
    (λ v here at. let P : ℕ → Type 0 = λ n. HasIndex (hull_at hulls n) v.index in
    let there : HasIndex hull v.index = subst P at (covered.each v here) in
    ap (λ (n : ℕ). Some n) (set_read hull.words (p.index - hull.low) (v.index - hull.low) word 0 has.1)
    ∙ ap (λ (b : Bool). Some (if b then word else word_in hull v.index)) (same_index p.region v.region hull.low p.index v.index at has.0 there.0)
    ∙ some_choice (same_place p v) word (word_in hull v.index))
    (only_known ranges p (place_known ranges hulls p known)) q
  where
    some_choice : (b : Bool) (x y : ℕ) → Some (if b then x else y) ≡ (if b then Some x else Some y)
    some_choice true x y = refl
    some_choice false x y = refl

pub run_laid_over : (ranges : List Range) (hulls later : List HullModel) (r : Range) (run : List ℕ) → AreCovered ranges hulls → AreKnown ranges hulls r
    → r.low < r.high → r.low + length run ≡ r.high → later ≡ with_hull hulls r.region (run_laid (hull_at hulls r.region) r.low run)
    → (q : Place) → words_by ranges later q ≡ (if in_range r q then Some (get_or run (q.index - r.low) 0) else words_by ranges hulls q)
run_laid_over ranges hulls later r run covered known full long is q =
    let hull : HullModel = hull_at hulls r.region in
    let has : HasRun hull r.low r.high = run_known ranges hulls r covered known full in
    let a : ℕ = r.low - hull.low in
    place_changed word_of None ranges hulls later r.region (run_laid hull r.low run) (in_range r) (λ v. Some (get_or run (v.index - r.low) 0))
    (run_short hulls r.region r.low r.high full has) is
    (λ v here at. let P : ℕ → Type 0 = λ n. HasIndex (hull_at hulls n) v.index in
    let there : HasIndex hull v.index = subst P at (covered.each v here) in
    ap (λ (n : ℕ). Some n) (splice_read hull.words run a (v.index - hull.low) 0 (omega (arith, has.0, has.2)))
    ∙ ap (λ (b : Bool). Some (if b then get_or run ((v.index - hull.low) - a) 0 else word_in hull v.index))
    (run_index r.region v.region hull.low r.low r.high v.index (length run) at has.0 there.0 long)
    ∙ by_test (in_range r v)
    (λ t. let i : Inside r v = inside_from r v t in
    let behind : (v.index - hull.low) - a ≡ v.index - r.low = omega (arith, i.low, has.0) in
    ap (λ (n : ℕ). Some n) (cond-true (in_range r v) (get_or run ((v.index - hull.low) - a) 0) (word_in hull v.index) t)
    ∙ ap (λ (n : ℕ). Some (get_or run n 0)) behind
    ∙ sym (cond-true (in_range r v) (Some (get_or run (v.index - r.low) 0)) (Some (word_in hull v.index)) t))
    (λ f. ap (λ (n : ℕ). Some n) (cond-false (in_range r v) (get_or run ((v.index - hull.low) - a) 0) (word_in hull v.index) f)
    ∙ sym (cond-false (in_range r v) (Some (get_or run (v.index - r.low) 0)) (Some (word_in hull v.index)) f)))
    (range_known ranges hulls r known) q

pub place_cleared : (ranges : List Range) (hulls later : List HullModel) (p : Place) → AreCovered ranges hulls → IsSome (words_by ranges hulls p)
    → later ≡ with_hull hulls p.region (cleared (hull_at hulls p.region) p.index)
    → (q : Place) → lost_by ranges later q ≡ (if same_place p q then false else lost_by ranges hulls q)
place_cleared ranges hulls later p covered known is q =
    let hull : HullModel = hull_at hulls p.region in
    let has : HasIndex hull p.index = index_known ranges hulls p covered known in
    place_changed away_in false ranges hulls later p.region (cleared hull p.index) (same_place p) (λ v. false)
    (index_short hulls p.region p.index has) is
    (λ v here at. let P : ℕ → Type 0 = λ n. HasIndex (hull_at hulls n) v.index in
    let there : HasIndex hull v.index = subst P at (covered.each v here) in
    flag_read hull.away (p.index - hull.low) (v.index - hull.low)
    ∙ ap (λ (b : Bool). if b then false else away_in hull v.index) (same_index p.region v.region hull.low p.index v.index at has.0 there.0))
    (only_known ranges p (place_known ranges hulls p known)) q

-- the flags of a run become the same
run_flagged : (ranges : List Range) (hulls later : List HullModel) (r : Range) (hull : HullModel) (b : Bool) → AreCovered ranges hulls → AreKnown ranges hulls r
    → r.low < r.high → later ≡ with_hull hulls r.region hull → hull.low ≡ (hull_at hulls r.region).low
    → ((k : ℕ) → get_or hull.away k false
    ≡ (if in_run (r.low - hull.low) ((r.low - hull.low) + (r.high - r.low)) k then b else get_or (hull_at hulls r.region).away k false))
    → (q : Place) → lost_by ranges later q ≡ (if in_range r q then b else lost_by ranges hulls q)
run_flagged ranges hulls later r hull b covered known full is low flags q =
    let old : HullModel = hull_at hulls r.region in
    let has : HasRun old r.low r.high = run_known ranges hulls r covered known full in
    place_changed away_in false ranges hulls later r.region hull (in_range r) (λ v. b)
    (run_short hulls r.region r.low r.high full has) is
    (λ v here at. let P : ℕ → Type 0 = λ n. HasIndex (hull_at hulls n) v.index in
    let there : HasIndex old v.index = subst P at (covered.each v here) in
    flags (v.index - hull.low)
    ∙ ap (λ (t : Bool). if t then b else get_or old.away (v.index - hull.low) false)
    (run_index r.region v.region hull.low r.low r.high v.index (r.high - r.low) at (omega (arith, low, has.0)) (omega (arith, low, there.0)) (omega arith))
    ∙ ap (λ (n : ℕ). if in_range r v then b else get_or old.away (v.index - n) false) low)
    (range_known ranges hulls r known) q

pub run_cleared_over : (ranges : List Range) (hulls later : List HullModel) (r : Range) → AreCovered ranges hulls → AreKnown ranges hulls r → r.low < r.high
    → later ≡ with_hull hulls r.region (run_cleared (hull_at hulls r.region) r.low r.high)
    → (q : Place) → lost_by ranges later q ≡ (if in_range r q then false else lost_by ranges hulls q)
run_cleared_over ranges hulls later r covered known full is =
    let old : HullModel = hull_at hulls r.region in
    let has : HasRun old r.low r.high = run_known ranges hulls r covered known full in
    let end : (r.low - old.low) + (r.high - r.low) ≡ r.high - old.low = omega (arith, has.0, full) in
    run_flagged ranges hulls later r (run_cleared old r.low r.high) false covered known full is refl
    (λ k. cleared_read old.away (r.low - old.low) (r.high - old.low) k
    ∙ ap (λ (n : ℕ). if in_run (r.low - old.low) n k then false else get_or old.away k false) (sym end))

pub run_marked_over : (ranges : List Range) (hulls later : List HullModel) (r : Range) → AreCovered ranges hulls → AreKnown ranges hulls r → r.low < r.high
    → later ≡ with_hull hulls r.region (run_marked (hull_at hulls r.region) r.low r.high)
    → (q : Place) → lost_by ranges later q ≡ (in_range r q || lost_by ranges hulls q)
run_marked_over ranges hulls later r covered known full is q =
    let old : HullModel = hull_at hulls r.region in
    let has : HasRun old r.low r.high = run_known ranges hulls r covered known full in
    run_flagged ranges hulls later r (run_marked old r.low r.high) true covered known full is refl
    (λ k. marked_read old.away (length old.words) (r.low - old.low) (r.high - r.low) k (omega (arith, has.0, has.2))) q
    ∙ choice_true (in_range r q) (lost_by ranges hulls q)

-- ---- the words of a run

pub run_words : (ranges : List Range) (hulls : List HullModel) (r : Range) (j : ℕ) → AreCovered ranges hulls → AreKnown ranges hulls r → r.low < r.high
    → j < r.high - r.low
    → get_or (run_in (hull_at hulls r.region) r.low r.high) j 0 ≡ unwrap_or (words_by ranges hulls (record { region = r.region; index = r.low + j })) 0
run_words ranges hulls r j covered known full short =
    let hull : HullModel = hull_at hulls r.region in
    let has : HasRun hull r.low r.high = run_known ranges hulls r covered known full in
    let q : Place = record { region = r.region; index = r.low + j } in
    let in_r : in_range r q ≡ true = inside_to r q (record { region = refl; low = omega arith; high = omega arith }) in
    let at : (r.low - hull.low) + j ≡ (r.low + j) - hull.low = omega (arith, has.0) in
    get_or-take (r.high - r.low) (drop (r.low - hull.low) hull.words) j 0 short
    ∙ get_or-drop (r.low - hull.low) hull.words j 0
    ∙ ap (λ (n : ℕ). get_or hull.words n 0) at
    ∙ sym (ap (λ (o : Option ℕ). unwrap_or o 0) (word_known ranges hulls q (known q in_r)))

pub run_long : (hull : HullModel) (low high : ℕ) → HasRun hull low high → length (run_in hull low high) ≡ high - low
run_long hull low high has =
    omega (arith, length-take (high - low) (drop (low - hull.low) hull.words), length-drop (low - hull.low) hull.words, has.0, has.1, has.2)
