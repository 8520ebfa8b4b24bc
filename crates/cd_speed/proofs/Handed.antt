-- A part that is handed out and taken back leaves all words there.
use Rattle.std.proofs.Common.{◌≡◌, ◌<◌, ◌≤◌, ℕ, zero, suc, Bool, true, false, ◌&&◌, ◌||◌, not, ◌∙◌, List, [], ◌∷◌, All, length, get_or, refl, ap, arith, sym, subst}
use Rattle.std.proofs.lemmas.Bool.{or_left, or_right}
use Rattle.std.proofs.lemmas.List.Elements.{All-head, All-tail}
use Rattle.cd_base.specs.declared.place.Place.{Place}
use Rattle.cd_base.specs.declared.place.Range.{Range}
use Rattle.cd_base.specs.Places.{in_second_alone}
use Rattle.cd_base.specs.Words.{in_range, in_ranges}
use Rattle.cd_tree.specs.Operations.{length_of}
use Rattle.cd_field.specs.FieldModel.{FieldModel, IsPresent, ArePresent, CanAbsorb, part_of, without, wrote_run, refilled_run, absorbed}
use Rattle.cd_speed.specs.Timed.{AreWithin, HasRegions, IsInside, LieInRegions, Stays}
use Rattle.cd_speed.proofs.Timed.{by_test, place_inside}

pub or_none : (b : Bool) → (b || false) ≡ b
or_none true = refl
or_none false = refl

pub reads_present : (m : FieldModel) (reads : List Range) → HasRegions m 0 → LieInRegions reads → ArePresent m reads
reads_present m reads has lie p h = let s : (p.region < 6) × (p.index < 330002) = lie p h in has.each p (omega arith) s.0 s.1

right_of : (a b : Bool) → a ≡ false → (a || b) ≡ true → b ≡ true
right_of a b f h = rw f at h

-- a place that a part reads or writes
lie_either : (m : FieldModel) (reads writes : List Range) (p : Place) → HasRegions m 0 → LieInRegions reads → LieInRegions writes
    → (in_ranges reads p || in_ranges writes p) ≡ true → IsPresent m p
lie_either m reads writes p has r w h =
    by_test (in_ranges reads p) (λ t. reads_present m reads has r p t)
    (λ f. reads_present m writes has w p (right_of (in_ranges reads p) (in_ranges writes p) f h))

pub part_present : (m part : FieldModel) (reads writes changed : List Range) → HasRegions m 0 → LieInRegions reads → LieInRegions writes
    → AreWithin changed reads writes → part ≡ part_of m reads writes → ArePresent part changed
part_present m part reads writes changed has r w within is =
    let P : FieldModel → Type 0 = λ v. ArePresent v changed in
    subst P (sym is) (λ p h.
    let t : (in_ranges reads p || in_ranges writes p) ≡ true = within p h in
    record { known = rw t (lie_either m reads writes p has r w t).known; here = refl })

part_has_writes : (m part : FieldModel) (reads writes : List Range) → HasRegions m 0 → LieInRegions writes → part ≡ part_of m reads writes → ArePresent part writes
part_has_writes m part reads writes has w is =
    let P : FieldModel → Type 0 = λ v. ArePresent v writes in
    subst P (sym is) (λ p h.
    let t : (in_ranges reads p || in_ranges writes p) ≡ true = or_right (in_ranges reads p) (in_ranges writes p) h in
    record { known = rw t (reads_present m writes has w p h).known; here = refl })

-- the ranges that a changed part was carved to write
carved_of : (m part later : FieldModel) (reads writes : List Range) → part ≡ part_of m reads writes → Stays part later → later.carved ≡ writes
carved_of m part later reads writes is stays = stays.carved ∙ ap (λ (v : FieldModel). v.carved) is

pub can_absorb : (m part left later : FieldModel) (reads writes : List Range) → HasRegions m 0 → LieInRegions writes → part ≡ part_of m reads writes
    → left ≡ without m writes → Stays part later → CanAbsorb left later true
can_absorb m part left later reads writes has w is rest stays =
    let carved : later.carved ≡ writes = carved_of m part later reads writes is stays in
    let Q : FieldModel → Type 0 = λ v. CanAbsorb v later true in
    subst Q (sym rest) (record {
      script = stays.script ∙ ap (λ (v : FieldModel). v.script) is;
      away = λ p h.
          let t : in_ranges writes p ≡ true = ap (λ (rs : List Range). in_ranges rs p) (sym carved) ∙ h in
          rw t refl;
      present = λ e p h.
          let t : in_ranges writes p ≡ true = ap (λ (rs : List Range). in_ranges rs p) (sym carved) ∙ h in
          stays.present p (part_has_writes m part reads writes has w is p t);
    })

pub still_has : (m part left later after : FieldModel) (reads writes : List Range) → HasRegions m 0 → LieInRegions writes → part ≡ part_of m reads writes
    → left ≡ without m writes → Stays part later → after ≡ absorbed left later true → HasRegions after 0
still_has m part left later after reads writes has w is rest stays back =
    let carved : later.carved ≡ writes = carved_of m part later reads writes is stays in
    let P : FieldModel → Type 0 = λ v. HasRegions v 0 in
    subst P (sym (back ∙ ap (λ (v : FieldModel). absorbed v later true) rest)) (record {
      each = λ p first region index.
          let present : IsPresent m p = has.each p first region index in
          by_test (in_ranges later.carved p)
          (λ t.
          let here : in_ranges writes p ≡ true = ap (λ (rs : List Range). in_ranges rs p) (sym carved) ∙ t in
          let there : IsPresent later p = stays.present p (part_has_writes m part reads writes has w is p here) in
          record { known = rw t there.known; here = rw t refl })
          (λ f.
          let away : in_ranges writes p ≡ false = ap (λ (rs : List Range). in_ranges rs p) (sym carved) ∙ f in
          record { known = rw f present.known; here = rw (f, away) present.here });
    })

-- ---- ranges that are written one after another

abbrev no_range : Range
no_range = record { region = 0; low = 0; high = 0 }

-- a place of the i-th range is in the ranges
pub in_nth : (ranges : List Range) (i : ℕ) (p : Place) → i < length ranges → in_range (get_or ranges i no_range) p ≡ true → in_ranges ranges p ≡ true
in_nth [] i p short h = absurd (omega arith)
in_nth (r ∷ ranges) zero p short h = or_left (in_range r p) (in_ranges ranges p) h
in_nth (r ∷ ranges) (suc i) p short h = or_right (in_range r p) (in_ranges ranges p) (in_nth ranges i p (omega arith) h)

pub stays_itself : (m : FieldModel) → Stays m m
stays_itself m = record { script = refl; carved = refl; present = λ p h. h }

pub stays_written : (m n later : FieldModel) (r : Range) (words : List ℕ) → later ≡ wrote_run n r words → Stays m n → Stays m later
stays_written m n later r words is stays =
    let P : FieldModel → Type 0 = λ v. Stays m v in
    subst P (sym is) (record {
      script = stays.script;
      carved = stays.carved;
      present = λ p h.
          let was : IsPresent n p = stays.present p h in
          by_test (in_range r p) (λ t. record { known = rw t refl; here = was.here }) (λ f. record { known = rw f was.known; here = was.here });
    })

-- ---- ranges that lie in the regions

pub all_lie : (ranges : List Range) → All (IsInside 1) ranges → LieInRegions ranges
all_lie [] inside p h = absurd (cc)
all_lie (r ∷ ranges) inside p h =
    by_test (in_range r p)
    (λ t. let s : (1 ≤ p.region) × (p.region < 6) × (p.index < 330002) = place_inside 1 r p (All-head (IsInside 1) r ranges inside) t in (s.1, s.2))
    (λ f. all_lie ranges (All-tail (IsInside 1) r ranges inside) p (right_of (in_range r p) (in_ranges ranges p) f h))

pub same_lie : (set ranges : List Range) → ((q : Place) → in_ranges set q ≡ in_ranges ranges q) → LieInRegions ranges → LieInRegions set
same_lie set ranges same lie p h = lie p (sym (same p) ∙ h)

in_first : (a b : Bool) → (b && not a) ≡ false → b ≡ true → a ≡ true
in_first true b h e = refl
in_first false true h e = sym h
in_first false false h e = e

-- where no place of some ranges is lacking in those that are read and written together
pub within_none : (all places ranges reads writes : List Range) → ((q : Place) → in_second_alone all places q ≡ false)
    → ((q : Place) → in_ranges places q ≡ in_ranges ranges q) → ((q : Place) → in_ranges all q ≡ (in_ranges reads q || in_ranges writes q))
    → AreWithin ranges reads writes
within_none all places ranges reads writes none same both q h =
    sym (both q) ∙ in_first (in_ranges all q) (in_ranges places q) (none q) (same q ∙ h)

pub same_long : (ranges : List Range) (n m : ℕ) → n ≡ m → All (λ r. length_of r ≡ n) ranges → All (λ r. length_of r ≡ m) ranges
same_long ranges n m e all = subst (λ (k : ℕ). All (λ r. length_of r ≡ k) ranges) e all

-- ---- words put back

pub refilled_has : (m later : FieldModel) (r : Range) (words : List ℕ) → later ≡ refilled_run m r words → HasRegions m 1 → HasRegions later 1
refilled_has m later r words is has =
    let P : FieldModel → Type 0 = λ v. HasRegions v 1 in
    subst P (sym is) (record {
      each = λ p first region index.
          let was : IsPresent m p = has.each p first region index in
          by_test (in_range r p) (λ t. record { known = rw t refl; here = rw t refl }) (λ f. record { known = rw f was.known; here = rw f was.here });
    })
