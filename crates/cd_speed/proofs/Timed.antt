-- The words that operations are timed on are there, and stay.
use Rattle.std.proofs.Common.{◌≡◌, ◌<◌, ◌≤◌, ℕ, Bool, false, inl, inr, true, ◌||◌, ◌∙◌, List, [], ◌∷◌, All, arith, refl, sym, subst}
use Rattle.std.proofs.lemmas.List.Elements.{All-nil, All-cons, All-head, All-tail}
use Rattle.std.proofs.lemmas.Bool.{cases_Bool}
use Rattle.std.proofs.lemmas.Bool.Decides.{nat_tests}
use Rattle.cd_base.specs.declared.place.Place.{Place}
use Rattle.cd_base.specs.declared.place.Range.{Range}
use Rattle.cd_base.specs.Words.{in_range, in_ranges, same_place}
use Rattle.cd_field.specs.FieldModel.{FieldModel, IsPresent, ArePresent, part_of, wrote}
use Rattle.cd_speed.specs.Timed.{HasRegions, IsInside}

-- a place of a range in the regions
pub place_inside : (from : ℕ) (r : Range) (p : Place) → IsInside from r → in_range r p ≡ true → (from ≤ p.region) × (p.region < 6) × (p.index < 330002)
place_inside from r p inside h =
    let first : from ≤ r.region = inside.first in
    let region : r.region < 6 = inside.region in
    let high : r.high ≤ 330002 = inside.high in
    (grind (arith, nat_tests), grind (arith, nat_tests), grind (arith, nat_tests))

pub by_test : {P : Type 0} (b : Bool) → (b ≡ true → P) → (b ≡ false → P) → P
by_test {P} b when unless = elim (cases_Bool b) [ inl e ↦ when e | inr e ↦ unless e ]

pub all_present : (m : FieldModel) (from : ℕ) (ranges : List Range) → HasRegions m from → All (IsInside from) ranges → ArePresent m ranges
all_present m from [] has inside p h = absurd (cc)
all_present m from (r ∷ ranges) has inside p h =
    by_test (in_range r p)
    (λ t. let at : (from ≤ p.region) × (p.region < 6) × (p.index < 330002) = place_inside from r p (All-head (IsInside from) r ranges inside) t in
    has.each p at.0 at.1 at.2)
    (λ f. all_present m from ranges has (All-tail (IsInside from) r ranges inside) p (rw f at h))

-- a word changes, and each is there as before
pub still_there : (m later : FieldModel) (from : ℕ) (at : Place) (word : ℕ) → later ≡ wrote m at word → HasRegions m from → HasRegions later from
still_there m later from at word is has =
    let P : FieldModel → Type 0 = λ v. HasRegions v from in
    subst P (sym is) (record {
      each = λ p first region index.
          let present : IsPresent m p = has.each p first region index in
          by_test (same_place at p)
          (λ t. record { known = rw t refl; here = present.here })
          (λ f. record { known = rw f present.known; here = present.here });
    })

pub fewer : (m : FieldModel) → HasRegions m 0 → HasRegions m 1
fewer m has = record { each = λ p first region index. has.each p (omega arith) region index }

-- the two words of the first region that a part reads, and the regions that it writes
abbrev pub span : ℕ → ℕ → ℕ → Range
span region low high = record { region = region; low = low; high = high }

abbrev pub two_words : List Range
two_words = span 0 0 1 ∷ span 0 2 3 ∷ []

abbrev pub five_regions : List Range
five_regions = span 1 0 330002 ∷ span 2 0 330002 ∷ span 3 0 330002 ∷ span 4 0 330002 ∷ span 5 0 330002 ∷ []

inside_all : (region low high : ℕ) → region < 6 → high ≤ 330002 → IsInside 0 (span region low high)
inside_all region low high below short = record { first = omega arith; region = below; high = short }

pub two_inside : All (IsInside 0) two_words
two_inside =
    All-cons (IsInside 0) (span 0 0 1) (span 0 2 3 ∷ []) (inside_all 0 0 1 (omega arith) (omega arith))
    (All-cons (IsInside 0) (span 0 2 3) [] (inside_all 0 2 3 (omega arith) (omega arith)) (All-nil (IsInside 0)))

pub five_inside : All (IsInside 0) five_regions
five_inside =
    let one : IsInside 0 (span 1 0 330002) = inside_all 1 0 330002 (omega arith) (omega arith) in
    let two : IsInside 0 (span 2 0 330002) = inside_all 2 0 330002 (omega arith) (omega arith) in
    let three : IsInside 0 (span 3 0 330002) = inside_all 3 0 330002 (omega arith) (omega arith) in
    let four : IsInside 0 (span 4 0 330002) = inside_all 4 0 330002 (omega arith) (omega arith) in
    let five : IsInside 0 (span 5 0 330002) = inside_all 5 0 330002 (omega arith) (omega arith) in
    let P : Range → Type 0 = IsInside 0 in
    let e : All P (span 5 0 330002 ∷ []) = All-cons P (span 5 0 330002) [] five (All-nil P) in
    let d : All P (span 4 0 330002 ∷ span 5 0 330002 ∷ []) = All-cons P (span 4 0 330002) (span 5 0 330002 ∷ []) four e in
    let c : All P (span 3 0 330002 ∷ span 4 0 330002 ∷ span 5 0 330002 ∷ []) =
    All-cons P (span 3 0 330002) (span 4 0 330002 ∷ span 5 0 330002 ∷ []) three d in
    let b : All P (span 2 0 330002 ∷ span 3 0 330002 ∷ span 4 0 330002 ∷ span 5 0 330002 ∷ []) =
    All-cons P (span 2 0 330002) (span 3 0 330002 ∷ span 4 0 330002 ∷ span 5 0 330002 ∷ []) two c in
    All-cons P (span 1 0 330002) (span 2 0 330002 ∷ span 3 0 330002 ∷ span 4 0 330002 ∷ span 5 0 330002 ∷ []) one b

-- ranges with the places of other ranges are as present
pub as_present : (m : FieldModel) (set ranges : List Range) → ((q : Place) → in_ranges set q ≡ in_ranges ranges q) → ArePresent m ranges
    → ArePresent m set
as_present m set ranges same present p h = present p (sym (same p) ∙ h)

pub five_have : (region index : ℕ) → 1 ≤ region → region < 6 → index < 330002
    → in_ranges five_regions (record { region = region; index = index }) ≡ true
five_have region index first below short = grind (arith, nat_tests)

pub or_right : (a b : Bool) → b ≡ true → (a || b) ≡ true
or_right true b e = refl
or_right false b e = e

-- the part has the five regions
pub part_has : (m part : FieldModel) (reads writes : List Range) → ((q : Place) → in_ranges writes q ≡ in_ranges five_regions q)
    → part ≡ part_of m reads writes → HasRegions m 0 → HasRegions part 1
part_has m part reads writes same is has =
    let P : FieldModel → Type 0 = λ v. HasRegions v 1 in
    subst P (sym is) (record {
      each = λ p first region index.
          let present : IsPresent m p = has.each p (omega arith) region index in
          let t : (in_ranges reads p || in_ranges writes p) ≡ true =
          or_right (in_ranges reads p) (in_ranges writes p) (same p ∙ five_have p.region p.index first region index) in
          record { known = rw t present.known; here = refl };
    })
