-- One entry preserved: what is told of it, and what the pass knows and has room for then.
use Rattle.std.proofs.Common.{◌≡◌, ◌≢◌, ℕ, ◌+◌, ◌-◌, ◌<◌, min, List, [], ◌∷◌, length, take, drop, get_or, Option, Some, IsSome, slice_get, All, Contains, arith, refl, ap, sym, subst, ◌∙◌, append_assoc}
use Rattle.std.proofs.lemmas.List.{get_or-take, get_or-drop, length-take, length-drop}
use Rattle.std.proofs.lemmas.Option.{slice_get-get_or}
use Rattle.cd_base.specs.declared.place.Place.{Place}
use Rattle.cd_base.specs.declared.place.Range.{Range}
use Rattle.cd_base.specs.declared.pattern.Pattern.{Pattern}
use Rattle.cd_base.specs.Words.{pattern_word}
use Rattle.cd_tree.specs.declared.domain.How.TheVariants.{Refer, Regen}
use Rattle.cd_tree.specs.declared.event.Kept.TheVariants as kept_as
use Rattle.cd_tree.specs.declared.event.Event.{Event}
use Rattle.cd_tree.specs.declared.event.Event.TheVariants.{Saved, Fell, Lapsed}
use Rattle.cd_tree.specs.Legal.{Differs, DiffersFirst}
use Rattle.cd_field.specs.FieldModel.{FieldModel, IsPresent, ArePresent, told}
use Rattle.cd_keep.specs.declared.keep_id.KeepId.{KeepId}
use Rattle.cd_keep.specs.declared.gone_note.GoneNote.{GoneNote}
use Rattle.cd_keep.specs.PassModel.{PassModel, IsPiece, lapsed}
use Rattle.cd_tries.specs.declared.keep.Pieces.{Pieces}
use Rattle.cd_tries.specs.declared.keep.Keep.TheVariants as by
use Rattle.cd_tries.specs.Keeping.{Known, AreCut}
use Rattle.cd_tries.specs.Preserving.{IsCopy, IsSaved, met, first_met, count_met, spot, told_all}
use Rattle.cd_tries.proofs.Cutting.{found}

-- what is told leaves places present
pub told_present : (m mid : FieldModel) (event : Event) (r : Range) → mid ≡ told m event → ArePresent m (r ∷ []) → ArePresent mid (r ∷ [])
told_present m mid event r is there p h =
    let P : FieldModel → Type 0 = λ v. IsPresent v p in
    let now : IsPresent m p = there p h in
    subst P (sym is) (record { known = now.known; here = now.here })

told_two : (m : FieldModel) (a b : Event) → told (told m a) b ≡ told_all m (a ∷ b ∷ [])
told_two m a b = ap (λ (es : List Event). record m { events = es }) (append_assoc m.events (a ∷ []) (b ∷ []))

-- a copy behind an event
told_and_copied : (m mid n : FieldModel) (at : ℕ) (event : Event) → mid ≡ told m event → n ≡ told mid (Saved mid.node at kept_as.Copy)
    → n ≡ told_all m (event ∷ Saved m.node at kept_as.Copy ∷ [])
told_and_copied m mid n at event is then =
    then ∙ ap (λ (v : FieldModel). told v (Saved v.node at kept_as.Copy)) is ∙ told_two m event (Saved m.node at kept_as.Copy)

same_copy : (m mid : FieldModel) (event : Event) (r : Range) (pieces : Pieces) (p q : PassModel) → mid ≡ told m event
    → IsCopy mid.words r pieces p q → IsCopy m.words r pieces p q
same_copy m mid event r pieces p q is copy =
    let P : FieldModel → Type 0 = λ v. IsCopy v.words r pieces p q in
    subst P is copy

-- how a machine tells that a pattern does not give a word
abbrev pub TellsFall : FieldModel → FieldModel → ℕ → Place → ℕ → Type 0
TellsFall m mid at place wanted = (other : ℕ) → m.words place ≡ Some other → mid ≡ told m (Fell m.node at place wanted other)

fall_told : (m mid : FieldModel) (at : ℕ) (place : Place) (wanted other : ℕ) (r : Range) (pattern : Pattern)
    → DiffersFirst m.words place other r pattern → wanted ≡ pattern_word pattern place.index → TellsFall m mid at place wanted
    → mid ≡ told m (Fell m.node at place (pattern_word pattern place.index) other)
fall_told m mid at place wanted other r pattern first is tells =
    tells other first.0 ∙ ap (λ (n : ℕ). told m (Fell m.node at place n other)) is

pub fell_present : (m mid : FieldModel) (at : ℕ) (place : Place) (wanted other : ℕ) (r : Range) (pattern : Pattern)
    → Differs place (pattern_word pattern place.index) other r pattern × DiffersFirst m.words place other r pattern
    → TellsFall m mid at place wanted → ArePresent m (r ∷ []) → ArePresent mid (r ∷ [])
fell_present m mid at place wanted other r pattern differs tells there =
    told_present m mid (Fell m.node at place wanted other) r (tells other differs.1.0) there

pub fell_copied : (m mid n : FieldModel) (p q : PassModel) (at : ℕ) (place : Place) (wanted other : ℕ) (r : Range) (pattern : Pattern)
    (pieces : Pieces) (link : Option Pieces)
    → Differs place (pattern_word pattern place.index) other r pattern × DiffersFirst m.words place other r pattern
    → wanted ≡ pattern_word pattern place.index → TellsFall m mid at place wanted
    → IsCopy mid.words r pieces p q → n ≡ told mid (Saved mid.node at kept_as.Copy)
    → IsSaved (spot m at r link) (Regen pattern) (by.Copied pieces) m n p q
fell_copied m mid n p q at place wanted other r pattern pieces link differs is tells copy then =
    let fall : Event = Fell m.node at place (pattern_word pattern place.index) other in
    let now : mid ≡ told m fall = fall_told m mid at place wanted other r pattern differs.1 is tells in
    record {
      events = fall ∷ Saved m.node at kept_as.Copy ∷ [];
      saved = record {
        place = place;
        found = other;
        differs = differs.0;
        first = differs.1;
        copy = same_copy m mid fall r pieces p q now copy;
        said = refl;
      };
      told = told_and_copied m mid n at fall now then;
    }

-- ---- references

pub met_known : (known : Known) (link : Pieces) (r : Range) (ids : List KeepId) → ids ≡ (met link r).ids → AreCut known link
    → All (λ (id : KeepId). IsSome (known id)) ids
met_known known link r ids is cut =
    let P : List KeepId → Type 0 = λ xs. All (λ (id : KeepId). IsSome (known id)) xs in
    subst P (sym is) (λ k d short.
    let n : ℕ = count_met link r in
    let first : ℕ = first_met link r in
    let long : length (take n (drop first link.ids)) ≡ min n (length link.ids - first) =
    length-take n (drop first link.ids) ∙ ap (λ (v : ℕ). min n v) (length-drop first link.ids) in
    let within : k < min n (length link.ids - first) = omega (arith, short, long) in
    let at : get_or (take n (drop first link.ids)) k d ≡ get_or link.ids (first + k) d =
    get_or-take n (drop first link.ids) k d (omega (arith, within)) ∙ get_or-drop first link.ids k d in
    let there : slice_get link.ids (first + k) ≡ Some (get_or link.ids (first + k) d) =
    slice_get-get_or link.ids (first + k) d (omega (arith, within)) in
    let f : (words : List ℕ) × (known (get_or link.ids (first + k) d) ≡ Some words) × IsPiece words =
    found IsPiece (known (get_or link.ids (first + k) d)) (cut.each (first + k) (get_or link.ids (first + k) d) there) in
    let Q : Option (List ℕ) → Type 0 = λ o. IsSome o in
    subst Q (sym (ap known at ∙ f.1)) refl)

pub lapsed_copied : (m mid n : FieldModel) (p gone q : PassModel) (at : ℕ) (r : Range) (link pieces : Pieces) (ids : List KeepId)
    (note : GoneNote) → ids ≡ (met link r).ids → (id : KeepId) × Contains ids id × (gone ≡ lapsed p id note)
    → note.seen ≢ note.found → mid ≡ told m (Lapsed m.node at note.seen note.found)
    → IsCopy mid.words r pieces gone q → n ≡ told mid (Saved mid.node at kept_as.Copy)
    → IsSaved (spot m at r (Some link)) Refer (by.Copied pieces) m n p q
lapsed_copied m mid n p gone q at r link pieces ids note of one differ tells copy then =
    let lapse : Event = Lapsed m.node at note.seen note.found in
    let P : List KeepId → Type 0 = λ xs. Contains xs one.0 in
    let Q : PassModel → Type 0 = λ v. IsCopy m.words r pieces v q in
    record {
      events = lapse ∷ Saved m.node at kept_as.Copy ∷ [];
      saved = record {
        gone = record { id = one.0; note = note };
        asked = subst P of one.1;
        differ = differ;
        copy = subst Q one.2 (same_copy m mid lapse r pieces gone q tells copy);
        said = refl;
      };
      told = told_and_copied m mid n at lapse tells then;
    }
