-- Spans that hold ranges, hulls that are cut out along them, and hulls that are put last.
use Rattle.std.proofs.Common.{◌≡◌, ℕ, ◌+◌, ◌-◌, ◌<◌, ◌≤◌, Bool, true, false, ◌&&◌, ◌||◌, nat_lt, nat_le, ◌==◌, if◌then◌else◌, List, [], ◌∷◌, ◌++◌, length, drop, get_or, set, replicate, min, max, None, Some, IsSome, arith, refl, ap, subst, sym, ◌∙◌, inl, inr}
use Rattle.std.proofs.lemmas.List.{length-append, set-get_or, length-set, length-replicate, get_or_past, get_or-take, get_or-drop, get_or_append_left, get_or_push, drop_more, drop_all}
use Rattle.std.proofs.lemmas.Bool.{cases_lt, cond-true, cond-false, eqb-true}
use Rattle.std.proofs.lemmas.Bool.Decides.{nat_tests}
use Rattle.cd_base.specs.declared.place.Place.{Place}
use Rattle.cd_base.specs.declared.place.Range.{Range}
use Rattle.cd_base.specs.Words.{in_range, in_ranges}
use Rattle.cd_base.proofs.PlaceLemmas.{Inside, inside_from, inside_to}
use Rattle.cd_base.proofs.BoolLemmas.{by_test}
use Rattle.cd_field.specs.declared.spans.Span.{Span}
use Rattle.cd_field.specs.Hulls.{HullModel, no_hull, hull_at, HasIndex, HasRun, word_in, away_in, run_in, words_by, lost_by, AreCovered}
use Rattle.cd_field.specs.Spans.{no_span, span_at, InSpan, widened, widened_by, cut, HoldRanges}
use Rattle.cd_field.proofs.PartLemmas.{no_range, range_at, in_nth}
use Rattle.cd_field.proofs.HullLemmas.{index_short, index_known, word_known, set_read, all_read, run_long}

-- ---- one range more

lt_says : (a b : ℕ) → nat_lt a b ≡ true → a < b
lt_says a b e = grind (arith, nat_tests)

lt_denies : (a b : ℕ) → nat_lt a b ≡ false → b ≤ a
lt_denies a b e = grind (arith, nat_tests)

-- a span holds what it held
widened_keeps : (span : Span) (r : Range) (i : ℕ) → InSpan span i → InSpan (widened span r) i
widened_keeps span r i here =
    let full : nat_lt span.low span.high ≡ true = some_full span.low span.high i here.0 here.1 in
    let P : Span → Type 0 = λ s. InSpan s i in
    subst P (sym (cond-true (nat_lt span.low span.high) (record { low = min span.low r.low; high = max span.high r.high }) (record { low = r.low; high = r.high }) full))
    (omega (arith, here.0), omega (arith, here.1))
  where
    some_full : (low high i : ℕ) → low ≤ i → i < high → nat_lt low high ≡ true
    some_full low high i a b = grind (arith, nat_tests)

-- and the range
widened_holds : (span : Span) (r : Range) (i : ℕ) → r.low ≤ i → i < r.high → InSpan (widened span r) i
widened_holds span r i from to =
    let P : Span → Type 0 = λ s. InSpan s i in
    let both : Span = record { low = min span.low r.low; high = max span.high r.high } in
    let one : Span = record { low = r.low; high = r.high } in
    by_test (nat_lt span.low span.high)
    (λ t. subst P (sym (cond-true (nat_lt span.low span.high) both one t)) (omega arith, omega arith))
    (λ f. subst P (sym (cond-false (nat_lt span.low span.high) both one f)) (from, to))

-- the words of a span that is not empty are a hull's
abbrev pub IsWithin : HullModel → Span → Type 0
IsWithin hull span = span.low < span.high → HasRun hull span.low span.high

widened_within : (hull : HullModel) (span : Span) (r : Range) → IsWithin hull span → r.low < r.high → HasIndex hull r.low → HasIndex hull (r.high - 1)
    → IsWithin hull (widened span r)
widened_within hull span r within full first last =
    let both : Span = record { low = min span.low r.low; high = max span.high r.high } in
    let one : Span = record { low = r.low; high = r.high } in
    by_test (nat_lt span.low span.high)
    (λ t. let old : HasRun hull span.low span.high = within (lt_says span.low span.high t) in
    subst (IsWithin hull) (sym (cond-true (nat_lt span.low span.high) both one t))
    (λ some. (omega (arith, old.0, first.0), omega (arith, some), omega (arith, old.0, old.2, first.0, last.1))))
    (λ f. subst (IsWithin hull) (sym (cond-false (nat_lt span.low span.high) both one f))
    (λ some. (first.0, omega (arith, some), omega (arith, first.0, last.1))))

span_read : (spans : List Span) (region k : ℕ) (span : Span) → region < length spans
    → span_at (set spans region span) k ≡ (if region == k then span else span_at spans k)
span_read spans region k span short = set_read spans region k span no_span short

-- the places of the ranges before an index lie in the spans
pub record Holding (whole : List HullModel) (ranges : List Range) (i : ℕ) (spans : List Span) : Type 0 where
  pub long : length spans ≡ length whole
  pub within : (region : ℕ) → IsWithin (hull_at whole region) (span_at spans region)
  pub holds : (q : Place) → in_ranges ranges q ≡ true → in_ranges (drop i ranges) q ≡ false → InSpan (span_at spans q.region) q.index

pub nothing_held : (whole : List HullModel) (ranges : List Range) (spans : List Span) → spans ≡ replicate (length whole) no_span → Holding whole ranges 0 spans
nothing_held whole ranges spans is = record {
  long = ap (λ (v : List Span). length v) is ∙ length-replicate (length whole) no_span;
  within = λ region.
      let at : span_at spans region ≡ no_span = ap (λ (v : List Span). span_at v region) is ∙ all_read (length whole) region no_span in
      subst (IsWithin (hull_at whole region)) (sym at) (λ some. absurd (omega (arith, some)));
  holds = λ q inside out. absurd (cc);
}

-- a range that is not empty lies in its hull
range_in : (whole : List HullModel) (ranges : List Range) (i : ℕ) (r : Range) → AreCovered ranges whole → r ≡ range_at ranges i → i < length ranges
    → (q : Place) → in_range r q ≡ true → HasIndex (hull_at whole q.region) q.index
range_in whole ranges i r covered is short q here =
    let P : Range → Type 0 = λ v. in_range v q ≡ true in
    covered.each q (in_nth ranges i q short (subst P is here))

pub range_short : (whole : List HullModel) (ranges : List Range) (i : ℕ) (r : Range) → AreCovered ranges whole → r ≡ range_at ranges i → i < length ranges
    → r.low < r.high → r.region < length whole
range_short whole ranges i r covered is short full =
    let p : Place = record { region = r.region; index = r.low } in
    index_short whole r.region r.low
    (range_in whole ranges i r covered is short p (inside_to r p (record { region = refl; low = omega arith; high = full })))

empty_out : (r : Range) (q : Place) → r.high ≤ r.low → in_range r q ≡ false
empty_out r q empty = none r.region q.region r.low r.high q.index empty
  where
    none : (a b low high i : ℕ) → high ≤ low → ((a == b) && (nat_le low i && nat_lt i high)) ≡ false
    none a b low high i e = grind (arith, nat_tests)

out_of_both : (a b : Bool) → a ≡ false → b ≡ false → (a || b) ≡ false
out_of_both true b x y = absurd (cc)
out_of_both false b x y = y

pub held_more : (whole : List HullModel) (ranges : List Range) (i : ℕ) (r : Range) (spans later : List Span) → AreCovered ranges whole
    → r ≡ range_at ranges i → i < length ranges → Holding whole ranges i spans → later ≡ widened_by spans r → Holding whole ranges (i + 1) later
held_more whole ranges i r spans later covered is short holding more =
    let old : Span = span_at spans r.region in
    let wide : Span = widened old r in
    by_test (nat_lt r.low r.high)
    (λ t. let full : r.low < r.high = lt_says r.low r.high t in
    let p : Place = record { region = r.region; index = r.low } in
    let e : Place = record { region = r.region; index = r.high - 1 } in
    let first : HasIndex (hull_at whole r.region) r.low =
    range_in whole ranges i r covered is short p (inside_to r p (record { region = refl; low = omega arith; high = full })) in
    let last : HasIndex (hull_at whole r.region) (r.high - 1) =
    range_in whole ranges i r covered is short e (inside_to r e (record { region = refl; low = omega arith; high = omega arith })) in
    let room : r.region < length spans = omega (arith, holding.long, index_short whole r.region r.low first) in
    let set_is : later ≡ set spans r.region wide = more ∙ cond-true (nat_lt r.low r.high) (set spans r.region wide) spans t in
    let at : (k : ℕ) → span_at later k ≡ (if r.region == k then wide else span_at spans k) =
    (λ k. ap (λ (v : List Span). span_at v k) set_is ∙ span_read spans r.region k wide room) in
    record {
      long = ap (λ (v : List Span). length v) set_is ∙ length-set spans r.region wide ∙ holding.long;
      within = λ k. by_test (r.region == k)
          (λ s. let same : r.region ≡ k = eqb-true r.region k s in
          let P : ℕ → Type 0 = λ n. IsWithin (hull_at whole n) wide in
          subst (IsWithin (hull_at whole k)) (sym (at k ∙ cond-true (r.region == k) wide (span_at spans k) s))
          (subst P same (widened_within (hull_at whole r.region) old r (holding.within r.region) full first last)))
          (λ f. subst (IsWithin (hull_at whole k)) (sym (at k ∙ cond-false (r.region == k) wide (span_at spans k) f)) (holding.within k));
      holds = λ q inside out.
          let P : Span → Type 0 = λ v. InSpan v q.index in
          by_test (in_range r q)
          (λ s. let here : Inside r q = inside_from r q s in
          let Q : ℕ → Type 0 = λ n. InSpan (span_at later n) q.index in
          let there : span_at later r.region ≡ wide =
          at r.region ∙ cond-true (r.region == r.region) wide (span_at spans r.region) (same_number r.region) in
          subst Q here.region (subst P (sym there) (widened_holds old r q.index here.low here.high)))
          (λ f. let left : in_ranges (drop i ranges) q ≡ false =
          ap (λ (v : List Range). in_ranges v q) (drop_more ranges i no_range short)
          ∙ out_of_both (in_range (range_at ranges i) q) (in_ranges (drop (i + 1) ranges) q)
          (ap (λ (v : Range). in_range v q) (sym is) ∙ f) out in
          let was : InSpan (span_at spans q.region) q.index = holding.holds q inside left in
          by_test (r.region == q.region)
          (λ s. let same : r.region ≡ q.region = eqb-true r.region q.region s in
          let Q : ℕ → Type 0 = λ n. InSpan (widened (span_at spans n) r) q.index in
          subst P (sym (at q.region ∙ cond-true (r.region == q.region) wide (span_at spans q.region) s))
          (subst Q (sym same) (widened_keeps (span_at spans q.region) r q.index was)))
          (λ g. subst P (sym (at q.region ∙ cond-false (r.region == q.region) wide (span_at spans q.region) g)) was));
    })
    (λ f. let empty : r.high ≤ r.low = lt_denies r.low r.high f in
    let same : later ≡ spans = more ∙ cond-false (nat_lt r.low r.high) (set spans r.region wide) spans f in
    let H : List Span → Type 0 = λ v. Holding whole ranges (i + 1) v in
    subst H (sym same) (record {
      long = holding.long;
      within = holding.within;
      holds = λ q inside out.
          holding.holds q inside
          (ap (λ (v : List Range). in_ranges v q) (drop_more ranges i no_range short)
          ∙ out_of_both (in_range (range_at ranges i) q) (in_ranges (drop (i + 1) ranges) q)
          (ap (λ (v : Range). in_range v q) (sym is) ∙ empty_out r q empty) out);
    }))
  where
    same_number : (n : ℕ) → (n == n) ≡ true
    same_number n = grind (arith, nat_tests)

pub all_held : (whole : List HullModel) (ranges : List Range) (i : ℕ) (spans : List Span) → length ranges ≤ i → Holding whole ranges i spans
    → HoldRanges whole ranges spans
all_held whole ranges i spans past holding = record {
  long = holding.long;
  within = holding.within;
  holds = λ q inside. holding.holds q inside (ap (λ (v : List Range). in_ranges v q) (drop_all i ranges past));
}

-- ---- the cuts

-- a hull of a list that is read and stays
pub still_whole : (hulls : List HullModel) (i : ℕ) (old new : HullModel) → old ≡ get_or hulls i old → new ≡ old → set hulls i new ≡ hulls
still_whole hulls i old new read same = ap (set hulls i) (same ∙ read) ∙ set-get_or hulls i old

pub pushed_long : (hulls later : List HullModel) (hull : HullModel) (i : ℕ) → length hulls ≡ i → later ≡ hulls ++ hull ∷ [] → length later ≡ i + 1
pushed_long hulls later hull i long is =
    ap (λ (v : List HullModel). length v) is ∙ (let l : length (hulls ++ hull ∷ []) ≡ i + 1 = omega (arith, length-append hulls (hull ∷ []), long) in l)

pub cut_more : (whole : List HullModel) (spans : List Span) (hulls later : List HullModel) (hull : HullModel) (i : ℕ) → length hulls ≡ i
    → later ≡ hulls ++ hull ∷ [] → hull ≡ cut (hull_at whole i) (span_at spans i)
    → ((k : ℕ) → k < i → hull_at hulls k ≡ cut (hull_at whole k) (span_at spans k))
    → (k : ℕ) → k < i + 1 → hull_at later k ≡ cut (hull_at whole k) (span_at spans k)
cut_more whole spans hulls later hull i long is one each k short =
    ap (λ (v : List HullModel). hull_at v k) is
    ∙ elim (cases_lt k i) [
      | inl l ↦ get_or_append_left hulls (hull ∷ []) no_hull k (omega arith) ∙ each k l
      | inr l ↦
          let same : i ≡ k = omega arith in
          get_or_push hulls hull no_hull k (long ∙ same) ∙ one ∙ ap (λ (n : ℕ). cut (hull_at whole n) (span_at spans n)) same
    ]

abbrev pub AreCuts : List HullModel → List Span → List HullModel → Type 0
AreCuts whole spans hulls = (k : ℕ) → hull_at hulls k ≡ cut (hull_at whole k) (span_at spans k)

-- the hull of a place that its span holds
cut_there : (whole : List HullModel) (ranges : List Range) (spans : List Span) (hulls : List HullModel) (q : Place) → HoldRanges whole ranges spans
    → AreCuts whole spans hulls → in_ranges ranges q ≡ true
    → hull_at hulls q.region ≡ record {
      low = (span_at spans q.region).low;
      words = run_in (hull_at whole q.region) (span_at spans q.region).low (span_at spans q.region).high;
      away = [];
    }
cut_there whole ranges spans hulls q held cuts inside =
    let span : Span = span_at spans q.region in
    let here : InSpan span q.index = held.holds q inside in
    cuts q.region
    ∙ cond-true (nat_lt span.low span.high) (record { low = span.low; words = run_in (hull_at whole q.region) span.low span.high; away = [] }) no_hull
    (full span.low span.high q.index here.0 here.1)
  where
    full : (low high i : ℕ) → low ≤ i → i < high → nat_lt low high ≡ true
    full low high i a b = grind (arith, nat_tests)

run_there : (whole : List HullModel) (ranges : List Range) (spans : List Span) (q : Place) → HoldRanges whole ranges spans → in_ranges ranges q ≡ true
    → HasRun (hull_at whole q.region) (span_at spans q.region).low (span_at spans q.region).high
run_there whole ranges spans q held inside =
    let here : InSpan (span_at spans q.region) q.index = held.holds q inside in
    held.within q.region (omega (arith, here.0, here.1))

pub cuts_cover : (whole : List HullModel) (ranges : List Range) (spans : List Span) (hulls : List HullModel) → HoldRanges whole ranges spans
    → AreCuts whole spans hulls → AreCovered ranges hulls
cuts_cover whole ranges spans hulls held cuts = record {
  each = λ q inside.
      let span : Span = span_at spans q.region in
      let here : InSpan span q.index = held.holds q inside in
      let run : HasRun (hull_at whole q.region) span.low span.high = run_there whole ranges spans q held inside in
      let P : HullModel → Type 0 = λ h. HasIndex h q.index in
      subst P (sym (cut_there whole ranges spans hulls q held cuts inside))
      (here.0, omega (arith, here.0, here.1, run_long (hull_at whole q.region) span.low span.high run));
}

pub cuts_words : (whole : List HullModel) (ranges : List Range) (spans : List Span) (hulls : List HullModel) → HoldRanges whole ranges spans
    → AreCuts whole spans hulls → (q : Place) → words_by ranges hulls q ≡ words_by ranges whole q
cuts_words whole ranges spans hulls held cuts q =
    by_test (in_ranges ranges q)
    (λ t. let span : Span = span_at spans q.region in
    let old : HullModel = hull_at whole q.region in
    let here : InSpan span q.index = held.holds q t in
    let run : HasRun old span.low span.high = run_there whole ranges spans q held t in
    let at : (span.low - old.low) + (q.index - span.low) ≡ q.index - old.low = omega (arith, here.0, run.0) in
    let word : word_in (hull_at hulls q.region) q.index ≡ word_in old q.index =
    ap (λ (h : HullModel). word_in h q.index) (cut_there whole ranges spans hulls q held cuts t)
    ∙ get_or-take (span.high - span.low) (drop (span.low - old.low) old.words) (q.index - span.low) 0 (omega (arith, here.0, here.1))
    ∙ get_or-drop (span.low - old.low) old.words (q.index - span.low) 0
    ∙ ap (λ (n : ℕ). get_or old.words n 0) at in
    ap (λ (n : ℕ). if in_ranges ranges q then Some n else None) word)
    (λ f. cond-false (in_ranges ranges q) (Some (word_in (hull_at hulls q.region) q.index)) None f
    ∙ sym (cond-false (in_ranges ranges q) (Some (word_in (hull_at whole q.region) q.index)) None f))

pub cuts_here : (whole : List HullModel) (ranges : List Range) (spans : List Span) (hulls : List HullModel) → HoldRanges whole ranges spans
    → AreCuts whole spans hulls → (q : Place) → lost_by ranges hulls q ≡ false
cuts_here whole ranges spans hulls held cuts q =
    by_test (in_ranges ranges q)
    (λ t. cond-true (in_ranges ranges q) (away_in (hull_at hulls q.region) q.index) false t
    ∙ ap (λ (h : HullModel). away_in h q.index) (cut_there whole ranges spans hulls q held cuts t)
    ∙ get_or_past {X = Bool} [] (q.index - (span_at spans q.region).low) false (omega arith))
    (λ f. cond-false (in_ranges ranges q) (away_in (hull_at hulls q.region) q.index) false f)

-- ranges whose places are known are covered
pub covered_by_known : (ranges wanted : List Range) (hulls : List HullModel) → AreCovered ranges hulls
    → ((q : Place) → in_ranges wanted q ≡ true → IsSome (words_by ranges hulls q)) → AreCovered wanted hulls
covered_by_known ranges wanted hulls covered known = record { each = λ q inside. index_known ranges hulls q covered (known q inside) }

pub words_of_part : (ranges wanted : List Range) (hulls : List HullModel)
    → ((q : Place) → in_ranges wanted q ≡ true → IsSome (words_by ranges hulls q))
    → (q : Place) → words_by wanted hulls q ≡ (if in_ranges wanted q then words_by ranges hulls q else None)
words_of_part ranges wanted hulls known q =
    by_test (in_ranges wanted q)
    (λ t. cond-true (in_ranges wanted q) (Some (word_in (hull_at hulls q.region) q.index)) None t
    ∙ sym (word_known ranges hulls q (known q t))
    ∙ sym (cond-true (in_ranges wanted q) (words_by ranges hulls q) None t))
    (λ f. cond-false (in_ranges wanted q) (Some (word_in (hull_at hulls q.region) q.index)) None f
    ∙ sym (cond-false (in_ranges wanted q) (words_by ranges hulls q) None f))
