-- Entries put back: what is present then, with which words, and what stays.
use Rattle.std.proofs.Common.{◌≡◌, ℕ, suc, ◌+◌, ◌-◌, ◌<◌, ◌≤◌, true, false, nat_le, List, [], ◌∷◌, ◌++◌, length, Option, None, IsSome, arith, refl, ap, subst, sym, ◌∙◌, append_assoc, append-nil}
use Rattle.std.specs.Prelude.{slice_get}
use Rattle.std.proofs.lemmas.Option.{slice_get-get_or}
use Rattle.std.proofs.lemmas.Bool.Decides.{nat_tests}
use Rattle.std.proofs.lemmas.Bool.{cond-false, cond-true, false_from_ne_true, or_left, or_right}
use Rattle.cd_base.specs.declared.place.Place.{Place}
use Rattle.cd_base.specs.declared.place.Range.{Range}
use Rattle.cd_base.specs.Words.{Words, in_range}
use Rattle.cd_tree.specs.declared.domain.How.{How}
use Rattle.cd_tree.specs.declared.domain.How.TheVariants.{Copy, Refer, Regen}
use Rattle.cd_tree.specs.declared.domain.Entry.{Entry}
use Rattle.cd_tree.specs.declared.event.Event.{Event}
use Rattle.cd_tree.specs.declared.event.Event.TheVariants.{Refilled}
use Rattle.cd_tree.specs.Legal.{OfPattern}
use Rattle.cd_tree.specs.Meaning.{in_entries}
use Rattle.cd_tree.specs.Reading.{refilled_from as told_refilled}
use Rattle.cd_field.specs.FieldModel.{FieldModel, IsPresent, told}
use Rattle.cd_tries.specs.declared.keep.Keep.{Keep}
use Rattle.cd_tries.specs.declared.keep.Keep.TheVariants.{Copied, Shared, Pattern as ByPattern}
use Rattle.cd_tries.specs.declared.keep.Pieces.{Pieces}
use Rattle.cd_tries.specs.Keeping.{Known, text, piece_words, pattern_words, keep_words, Cover, KeepFits, KeepsFit}
use Rattle.cd_tries.specs.Refilling.{put_back, refilled_from, refilled_all}
use Rattle.cd_tries.specs.TryLaws.{EachGives, PuttingBack}
use Rattle.cd_base.proofs.BoolLemmas.{by_test}
use Rattle.cd_base.proofs.PlaceLemmas.{Inside, inside_from}

-- the machine after one entry is put back and told
abbrev next : Known → ℕ → Entry → Keep → FieldModel → FieldModel
next known at entry keep m = told (put_back known entry keep m) (Refilled m.node at)

-- pieces that cover a range have a word at each of its places
pub pieces_known : (known : Known) (pieces : Pieces) (r : Range) (p : Place) → Cover known pieces r → in_range r p ≡ true
    → IsSome (piece_words known pieces p)
pieces_known known pieces r p covers h =
    let i : Inside r p = inside_from r p h in
    let low : r.low ≤ p.index = i.low in
    let high : p.index < r.high = i.high in
    let begin : pieces.begin ≤ r.low = covers.low in
    let end : r.high ≤ pieces.end = covers.high in
    let size : pieces.begin + length (text known pieces.ids) ≡ pieces.end = covers.cut.size in
    let over : nat_le pieces.begin p.index ≡ true = (let l : pieces.begin ≤ p.index = omega arith in grind (arith, nat_tests)) in
    let short : p.index - pieces.begin < length (text known pieces.ids) = omega arith in
    let Q : Option ℕ → Type 0 = λ o. IsSome o in
    subst Q (sym (cond-true (nat_le pieces.begin p.index) (slice_get (text known pieces.ids) (p.index - pieces.begin)) None over
    ∙ slice_get-get_or (text known pieces.ids) (p.index - pieces.begin) 0 short)) refl

pattern_known : (how : How) (entry : Entry) (p : Place) → OfPattern (λ r pattern. Unit {0}) entry how → IsSome (pattern_words how p)
pattern_known Copy entry p h = absurd h
pattern_known Refer entry p h = absurd h
pattern_known (Regen pattern) entry p h = refl

pub keep_known : (known : Known) (entry : Entry) (keep : Keep) (p : Place) → KeepFits known entry keep → in_range entry.range p ≡ true
    → IsSome (keep_words known entry.how keep p)
keep_known known entry (Copied pieces) p fits h = pieces_known known pieces entry.range p fits.0 h
keep_known known entry (Shared pieces) p fits h = pieces_known known pieces entry.range p fits.0 h
keep_known known entry ByPattern p fits h = pattern_known entry.how entry p fits

-- a place of the entry is present, with the keep's word
put_inside : (known : Known) (at : ℕ) (entry : Entry) (keep : Keep) (m : FieldModel) (p : Place) → in_range entry.range p ≡ true
    → ((next known at entry keep m).words p ≡ keep_words known entry.how keep p) × ((next known at entry keep m).lost p ≡ false)
put_inside known at entry keep m p t =
    (cond-true (in_range entry.range p) (keep_words known entry.how keep p) (m.words p) t, cond-true (in_range entry.range p) false (m.lost p) t)

-- a place outside of it is as it was
put_outside : (known : Known) (at : ℕ) (entry : Entry) (keep : Keep) (m : FieldModel) (p : Place) → in_range entry.range p ≡ false
    → ((next known at entry keep m).words p ≡ m.words p) × ((next known at entry keep m).lost p ≡ m.lost p)
put_outside known at entry keep m p f =
    (cond-false (in_range entry.range p) (keep_words known entry.how keep p) (m.words p) f, cond-false (in_range entry.range p) false (m.lost p) f)

-- what is present stays so
put_present : (known : Known) (at : ℕ) (entry : Entry) (keep : Keep) (m : FieldModel) (p : Place) → KeepFits known entry keep
    → (in_range entry.range p ≡ false → IsPresent m p) → IsPresent (next known at entry keep m) p
put_present known at entry keep m p fits present =
    let Q : Option ℕ → Type 0 = λ o. IsSome o in
    by_test (in_range entry.range p)
    (λ t.
    let is : ((next known at entry keep m).words p ≡ keep_words known entry.how keep p) × ((next known at entry keep m).lost p ≡ false) =
    put_inside known at entry keep m p t in
    record { known = subst Q (sym is.0) (keep_known known entry keep p fits t); here = is.1 })
    (λ f.
    let is : ((next known at entry keep m).words p ≡ m.words p) × ((next known at entry keep m).lost p ≡ m.lost p) =
    put_outside known at entry keep m p f in
    let before : IsPresent m p = present f in
    record { known = subst Q (sym is.0) before.known; here = is.1 ∙ before.here })

-- a place is present where it is in an entry, or was present
pub refilled_present : (known : Known) (at : ℕ) (entries : List Entry) (keeps : List Keep) (m : FieldModel) (p : Place)
    → KeepsFit known entries keeps → (in_entries entries p ≡ false → IsPresent m p)
    → IsPresent (refilled_from known at entries keeps m) p
refilled_present known at [] [] m p fits before = before refl
refilled_present known at [] (keep ∷ keeps) m p fits before = absurd fits
refilled_present known at (entry ∷ entries) [] m p fits before = absurd fits
refilled_present known at (entry ∷ entries) (keep ∷ keeps) m p fits before =
    refilled_present known (suc at) entries keeps (next known at entry keep m) p fits.1
    (λ out. put_present known at entry keep m p fits.0 (λ f. before (rw (f, out) refl)))

-- a place outside of the entries is as it was
pub refilled_outside : (known : Known) (at : ℕ) (entries : List Entry) (keeps : List Keep) (m : FieldModel) (p : Place)
    → in_entries entries p ≡ false
    → ((refilled_from known at entries keeps m).words p ≡ m.words p) × ((refilled_from known at entries keeps m).lost p ≡ m.lost p)
refilled_outside known at [] keeps m p out = (refl, refl)
refilled_outside known at (entry ∷ entries) [] m p out = (refl, refl)
refilled_outside known at (entry ∷ entries) (keep ∷ keeps) m p out =
    let first : in_range entry.range p ≡ false =
    false_from_ne_true (in_range entry.range p) (λ t. let in_one : in_entries (entry ∷ entries) p ≡ true = or_left (in_range entry.range p) (in_entries entries p) t in cc) in
    let others : in_entries entries p ≡ false =
    false_from_ne_true (in_entries entries p) (λ t. let in_one : in_entries (entry ∷ entries) p ≡ true = or_right (in_range entry.range p) (in_entries entries p) t in cc) in
    let one : ((next known at entry keep m).words p ≡ m.words p) × ((next known at entry keep m).lost p ≡ m.lost p) =
    put_outside known at entry keep m p first in
    let rest : ((refilled_from known (suc at) entries keeps (next known at entry keep m)).words p ≡ (next known at entry keep m).words p)
    × ((refilled_from known (suc at) entries keeps (next known at entry keep m)).lost p ≡ (next known at entry keep m).lost p) =
    refilled_outside known (suc at) entries keeps (next known at entry keep m) p others in
    (rest.0 ∙ one.0, rest.1 ∙ one.1)

-- where each keep gives these words, a place has its word where it is in an entry, or had it
pub refilled_words : (known : Known) (at : ℕ) (entries : List Entry) (keeps : List Keep) (m : FieldModel) (w : Words) (p : Place)
    → EachGives known w entries keeps → (in_entries entries p ≡ false → m.words p ≡ w p)
    → (refilled_from known at entries keeps m).words p ≡ w p
refilled_words known at [] keeps m w p gives before = before refl
refilled_words known at (entry ∷ entries) [] m w p gives before = absurd gives
refilled_words known at (entry ∷ entries) (keep ∷ keeps) m w p gives before =
    refilled_words known (suc at) entries keeps (next known at entry keep m) w p gives.1
    (λ out. by_test (in_range entry.range p)
    (λ t. (put_inside known at entry keep m p t).0 ∙ gives.0 p t)
    (λ f. (put_outside known at entry keep m p f).0 ∙ before (rw (f, out) refl)))

-- words, presence and the record are what has changed
pub refilled_frame : (known : Known) (at : ℕ) (entries : List Entry) (keeps : List Keep) (m : FieldModel)
    → refilled_from known at entries keeps m
    ≡ record m {
      words = (refilled_from known at entries keeps m).words;
      lost = (refilled_from known at entries keeps m).lost;
      events = (refilled_from known at entries keeps m).events;
    }
refilled_frame known at [] keeps m = refl
refilled_frame known at (entry ∷ entries) [] m = refl
refilled_frame known at (entry ∷ entries) (keep ∷ keeps) m = refilled_frame known (suc at) entries keeps (next known at entry keep m)

-- the record tells of each entry
pub refilled_events : (known : Known) (at : ℕ) (entries : List Entry) (keeps : List Keep) (m : FieldModel) → KeepsFit known entries keeps
    → (refilled_from known at entries keeps m).events ≡ m.events ++ told_refilled m.node at entries
refilled_events known at [] keeps m fits = sym (append-nil m.events)
refilled_events known at (entry ∷ entries) [] m fits = absurd fits
refilled_events known at (entry ∷ entries) (keep ∷ keeps) m fits =
    refilled_events known (suc at) entries keeps (next known at entry keep m) fits.1
    ∙ append_assoc m.events (Refilled m.node at ∷ []) (told_refilled m.node (suc at) entries)

pub putting_back : PuttingBack
putting_back known entries keeps m words fits =
    let n : FieldModel = refilled_all known entries keeps m in
    record {
      same = refilled_frame known 0 entries keeps m
          ∙ ap (λ (events : List Event). record m { words = n.words; lost = n.lost; events = events }) (refilled_events known 0 entries keeps m fits);
      present = λ p h. refilled_present known 0 entries keeps m p fits (λ out. absurd (let wrong : true ≡ false = sym h ∙ out in cc));
      outside = λ p out. refilled_outside known 0 entries keeps m p out;
      words = λ w gives p h. refilled_words known 0 entries keeps m w p gives (λ out. absurd (let wrong : true ≡ false = sym h ∙ out in cc));
    }
