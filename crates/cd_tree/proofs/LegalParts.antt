-- Legal records go together piece by piece, and go on: what the reading expects next can always be told legally.
use Rattle.std.proofs.Common.{◌≡◌, ◌≢◌, ℕ, zero, suc, ◌<◌, ◌⊎◌, true, false, List, [], ◌∷◌, ◌++◌, Option, None, Some, IsSome, IsSomeAnd, refl, ap, sym, ◌∙◌, subst, arith, inl, inr}
use Rattle.std.proofs.lemmas.Bool.{cases_eq, cases_Bool}
use Rattle.cd_base.specs.declared.place.Place.{Place}
use Rattle.cd_base.specs.declared.place.Range.{Range}
use Rattle.cd_base.specs.declared.pattern.Pattern.{Pattern}
use Rattle.cd_base.specs.Words.{Words, in_range, pattern_word}
use Rattle.cd_tree.specs.declared.domain.NodeId.{NodeId}
use Rattle.cd_tree.specs.declared.domain.How.{How}
use Rattle.cd_tree.specs.declared.domain.How.TheVariants.{Copy, Refer, Regen}
use Rattle.cd_tree.specs.declared.domain.Entry.{Entry}
use Rattle.cd_tree.specs.declared.event.Kept.{Kept}
use Rattle.cd_tree.specs.declared.event.Kept.TheVariants as kept
use Rattle.cd_tree.specs.declared.event.Event.{Event}
use Rattle.cd_tree.specs.declared.event.Event.TheVariants.{Begin, Saved, Fell, Lapsed, Refilled, Reached, Halted, Found, Complete, Escalate}
use Rattle.cd_tree.specs.TreeModel.{TreeModel}
use Rattle.cd_tree.specs.Reading.{how_kept}
use Rattle.cd_tree.specs.Legal.{entry_at, OfPattern, IsPatternAnd, GivesWords, Differs, DiffersFirst, MayStand, MayFall, Legal, nothing, same, fell, lapsed}
use Rattle.cd_tree.specs.LegalLaws.{LegalPieces, SavesAsDeclared, HasPatternWords, LegalFrontsGoOn, LegalFrontsOfRecords, LegalFront, nothing_yet, same_so_far, fell_so_far, falling, lapsed_so_far, lapsing, LegalFrontsAreFronts}
use Rattle.cd_base.proofs.PlaceLemmas.{Inside, inside_from}
use Rattle.cd_base.proofs.ListLemmas.{Each}
use Rattle.cd_tree.proofs.EventsTold.{every_all}
use Rattle.cd_tree.proofs.SavesDeclared.{records_save}

legal_append : {tree : TreeModel} {loaded : Words} {actual expected more rest : List Event}
    → Legal tree loaded actual expected → Legal tree loaded more rest → Legal tree loaded (actual ++ more) (expected ++ rest)
legal_append nothing second = second
legal_append (same event actual expected stands first) second =
    same event _ _ stands (legal_append first second)
legal_append (fell id entry place wanted found actual expected falls first) second =
    fell id entry place wanted found _ _ falls (legal_append first second)
legal_append (lapsed id entry seen found actual expected gone first) second =
    lapsed id entry seen found _ _ gone (legal_append first second)

pub legal_pieces : LegalPieces
legal_pieces tree loaded actual expected more rest first second = legal_append first second

-- a range's words up to an index are a pattern's
abbrev Gives : Words → Range → Pattern → ℕ → Type 0
Gives w r pattern n = (p : Place) → in_range r p ≡ true → p.index < n → w p ≡ Some (pattern_word pattern p.index)

-- the least place of a range whose word is not the pattern's
pub record LeastOther (w : Words) (r : Range) (pattern : Pattern) : Type 0 where
  pub place : Place
  pub found : ℕ
  pub inside : in_range r place ≡ true
  pub word : w place ≡ Some found
  pub other : pattern_word pattern place.index ≢ found
  pub least : (p : Place) → in_range r p ≡ true → p.index < place.index → w p ≡ Some (pattern_word pattern p.index)

abbrev place_at : Range → ℕ → Place
place_at r n = record { region = r.region; index = n }

same_place : (r : Range) (p : Place) (n : ℕ) → Inside r p → p.index ≡ n → p ≡ place_at r n
same_place r p n in_r e =
    ap (λ (k : ℕ). let at : Place = record { region = k; index = p.index } in at) (sym in_r.region)
    ∙ ap (place_at r) e

-- one index more
gives_more : (w : Words) (r : Range) (pattern : Pattern) (n : ℕ) → Gives w r pattern n
    → (in_range r (place_at r n) ≡ true → w (place_at r n) ≡ Some (pattern_word pattern n)) → Gives w r pattern (suc n)
gives_more w r pattern n gives here p inside below =
    elim (cases_eq p.index n) [
      | inl at ↦
          let is : p ≡ place_at r n = same_place r p n (inside_from r p inside) at in
          subst (λ (q : Place). w q ≡ Some (pattern_word pattern q.index)) (sym is) (here (subst (λ (q : Place). in_range r q ≡ true) is inside))
      | inr before ↦ gives p inside (omega arith)
    ]

next_word : (w : Words) (r : Range) (pattern : Pattern) (n : ℕ) (o : Option ℕ) → w (place_at r n) ≡ o → IsSome o
    → in_range r (place_at r n) ≡ true → Gives w r pattern n → Gives w r pattern (suc n) ⊎ LeastOther w r pattern
next_word w r pattern n None is there inside gives = absurd (cc)
next_word w r pattern n (Some found) is there inside gives =
    elim (cases_eq (pattern_word pattern n) found) [
      | inl agrees ↦ inl (gives_more w r pattern n gives (λ at. is ∙ ap (λ (k : ℕ). Some k) (sym agrees)))
      | inr differs ↦ inr (record { place = place_at r n; found = found; inside = inside; word = is; other = differs; least = gives })
    ]

search_up : (w : Words) (r : Range) (pattern : Pattern) (n : ℕ) → ((p : Place) → in_range r p ≡ true → IsSome (w p))
    → Gives w r pattern n ⊎ LeastOther w r pattern
search_up w r pattern zero words = inl (λ p inside below. absurd (omega arith))
search_up w r pattern (suc n) words =
    elim (search_up w r pattern n words) [
      | inr least ↦ inr least
      | inl gives ↦
          elim (cases_Bool (in_range r (place_at r n))) [
            | inl inside ↦ next_word w r pattern n (w (place_at r n)) refl (words (place_at r n) inside) inside gives
            | inr outside ↦
                inl (gives_more w r pattern n gives
                (λ inside. let no : true ≡ false = sym inside ∙ outside in cc))
          ]
    ]

-- a pattern gives the words of a range, or there is a least place where it does not
pub gives_or_not : (w : Words) (r : Range) (pattern : Pattern) → ((p : Place) → in_range r p ≡ true → IsSome (w p))
    → GivesWords w r pattern ⊎ LeastOther w r pattern
gives_or_not w r pattern words =
    elim (search_up w r pattern r.high words) [
      | inl gives ↦ inl (λ p inside. gives p inside (inside_from r p inside).high)
      | inr least ↦ inr least
    ]

-- an event can be told as the reading has it, or a fall can
abbrev CanBeTold : TreeModel → Words → Event → Type 0
CanBeTold tree loaded event =
    (front : List Event) × ((more rest : List Event) → Legal tree loaded more rest → Legal tree loaded (front ++ more) (event ∷ rest))

stand : (tree : TreeModel) (loaded : Words) (event : Event) → MayStand tree loaded event → CanBeTold tree loaded event
stand tree loaded event stands = (event ∷ [], λ more rest legal. same event more rest stands legal)

fall : (tree : TreeModel) (loaded : Words) (id : NodeId) (entry : ℕ) (place : Place) (wanted found : ℕ)
    → MayFall tree loaded id entry place wanted found → CanBeTold tree loaded (Saved id entry kept.Regen)
fall tree loaded id entry place wanted found falls =
    (Fell id entry place wanted found ∷ Saved id entry kept.Copy ∷ [], λ more rest legal. fell id entry place wanted found more rest falls legal)

-- an entry that is there, and how it is preserved
by_words : (tree : TreeModel) (loaded : Words) (id : NodeId) (entry : ℕ) (e : Entry) (pattern : Pattern) → entry_at tree.domains id entry ≡ Some e
    → e.how ≡ Regen pattern → GivesWords loaded e.range pattern ⊎ LeastOther loaded e.range pattern
    → CanBeTold tree loaded (Saved id entry kept.Regen)
by_words tree loaded id entry e pattern there how words =
    let carry : (P : Range → Pattern → Type 0) → P e.range pattern → IsPatternAnd tree id entry P =
    λ P p.
    subst (λ (o : Option Entry). IsSomeAnd o (λ e. OfPattern P e e.how)) (sym there)
    (subst (OfPattern P e) (sym how) p) in
    elim words [
      | inl gives ↦ stand tree loaded (Saved id entry kept.Regen) (λ root. carry (GivesWords loaded) gives)
      | inr least ↦
          let wanted : ℕ = pattern_word pattern least.place.index in
          fall tree loaded id entry least.place wanted least.found
          (record {
            differs = carry (Differs least.place wanted least.found) (least.inside, refl, least.other);
            first = λ root. carry (DiffersFirst loaded least.place least.found) (least.word, least.least);
          })
    ]

by_how : (tree : TreeModel) (loaded : Words) (id : NodeId) (entry : ℕ) (e : Entry) (how : How) → HasPatternWords tree loaded
    → entry_at tree.domains id entry ≡ Some e → e.how ≡ how → kept.Regen ≡ how_kept how → id.0 ≡ 0
    → CanBeTold tree loaded (Saved id entry kept.Regen)
by_how tree loaded id entry e Copy words there how is root = cc
by_how tree loaded id entry e Refer words there how is root = cc
by_how tree loaded id entry e (Regen pattern) words there how is root =
    let make : ℕ → NodeId = λ n. record { 0 = n } in
    let at_root : entry_at tree.domains (record { 0 = 0 }) entry ≡ Some e = ap (λ (n : ℕ). entry_at tree.domains (make n) entry) (sym root) ∙ there in
    by_words tree loaded id entry e pattern there how
    (gives_or_not loaded e.range pattern (λ p inside. words entry e pattern p at_root how inside))

by_entry : (tree : TreeModel) (loaded : Words) (id : NodeId) (entry : ℕ) (o : Option Entry) → HasPatternWords tree loaded
    → entry_at tree.domains id entry ≡ o → IsSomeAnd o (λ e. kept.Regen ≡ how_kept e.how) → id.0 ≡ 0
    → CanBeTold tree loaded (Saved id entry kept.Regen)
by_entry tree loaded id entry None words there is root = absurd is
by_entry tree loaded id entry (Some e) words there is root = by_how tree loaded id entry e e.how words there refl is root

saved_told : (tree : TreeModel) (loaded : Words) (id : NodeId) (entry : ℕ) (how : Kept) → HasPatternWords tree loaded
    → SavesAsDeclared tree (Saved id entry how) → CanBeTold tree loaded (Saved id entry how)
saved_told tree loaded id entry kept.Copy words is = stand tree loaded (Saved id entry kept.Copy) tt
saved_told tree loaded id entry kept.Refer words is = stand tree loaded (Saved id entry kept.Refer) tt
saved_told tree loaded id entry kept.Regen words is =
    elim (cases_eq id.0 0) [
      | inl root ↦ by_entry tree loaded id entry (entry_at tree.domains id entry) words refl is root
      | inr inner ↦ stand tree loaded (Saved id entry kept.Regen) (λ root. absurd (inner root))
    ]

can_be_told : (tree : TreeModel) (loaded : Words) (event : Event) → HasPatternWords tree loaded → SavesAsDeclared tree event
    → CanBeTold tree loaded event
can_be_told tree loaded (Begin id number) words is = stand tree loaded (Begin id number) tt
can_be_told tree loaded (Saved id entry how) words is = saved_told tree loaded id entry how words is
can_be_told tree loaded (Fell id entry place wanted found) words is = stand tree loaded (Fell id entry place wanted found) tt
can_be_told tree loaded (Lapsed id entry seen found) words is = stand tree loaded (Lapsed id entry seen found) tt
can_be_told tree loaded (Refilled id entry) words is = stand tree loaded (Refilled id entry) tt
can_be_told tree loaded (Reached id point) words is = stand tree loaded (Reached id point) tt
can_be_told tree loaded (Halted id kinds) words is = stand tree loaded (Halted id kinds) tt
can_be_told tree loaded (Found id kinds) words is = stand tree loaded (Found id kinds) tt
can_be_told tree loaded (Complete id) words is = stand tree loaded (Complete id) tt
can_be_told tree loaded (Escalate id) words is = stand tree loaded (Escalate id) tt

-- whatever the reading expects can be told
rest_told : (tree : TreeModel) (loaded : Words) (rest : List Event) → HasPatternWords tree loaded → Each (SavesAsDeclared tree) rest
    → (more : List Event) × Legal tree loaded more rest
rest_told tree loaded [] words every = ([], nothing)
rest_told tree loaded (event ∷ rest) words (here, every) =
    let first : CanBeTold tree loaded event = can_be_told tree loaded event words here in
    let others : (more : List Event) × Legal tree loaded more rest = rest_told tree loaded rest words every in
    (first.0 ++ others.0, first.1 others.0 rest others.1)

pub legal_fronts_go_on : LegalFrontsGoOn
legal_fronts_go_on tree loaded words actual front rest all legal =
    let others : (more : List Event) × Legal tree loaded more rest = rest_told tree loaded rest words (every_all (SavesAsDeclared tree) rest all) in
    (others.0, legal_append legal others.1)

every_behind : (P : Event → Type 0) (front rest : List Event) → Each P (front ++ rest) → Each P rest
every_behind P [] rest every = every
every_behind P (event ∷ front) rest (here, every) = every_behind P front rest every

pub legal_fronts_of_records : LegalFrontsOfRecords
legal_fronts_of_records tree faults loaded is words actual front rest e legal =
    let every : Each (SavesAsDeclared tree) (front ++ rest) =
    subst (Each (SavesAsDeclared tree)) (sym e) (every_all (SavesAsDeclared tree) _ (records_save tree faults is)) in
    let others : (more : List Event) × Legal tree loaded more rest = rest_told tree loaded rest words (every_behind (SavesAsDeclared tree) front rest every) in
    (others.0, subst (Legal tree loaded (actual ++ others.0)) e (legal_append legal others.1))

front_goes_on : {tree : TreeModel} {loaded : Words} {actual expected : List Event} → HasPatternWords tree loaded
    → LegalFront tree loaded actual expected → Each (SavesAsDeclared tree) expected
    → (more : List Event) × Legal tree loaded (actual ++ more) expected
front_goes_on words (nothing_yet expected) every = rest_told _ _ expected words every
front_goes_on words (same_so_far event actual expected stands front) (here, every) =
    let on = front_goes_on words front every in
    (on.0, same event _ _ stands on.1)
front_goes_on words (fell_so_far id entry place wanted found actual expected falls front) (here, every) =
    let on = front_goes_on words front every in
    (on.0, fell id entry place wanted found _ _ falls on.1)
front_goes_on words (falling id entry place wanted found expected falls) (here, every) =
    let on = rest_told _ _ expected words every in
    (Saved id entry kept.Copy ∷ on.0, fell id entry place wanted found _ _ falls on.1)
front_goes_on words (lapsed_so_far id entry seen found actual expected gone front) (here, every) =
    let on = front_goes_on words front every in
    (on.0, lapsed id entry seen found _ _ gone on.1)
front_goes_on words (lapsing id entry seen found expected gone) (here, every) =
    let on = rest_told _ _ expected words every in
    (Saved id entry kept.Copy ∷ on.0, lapsed id entry seen found _ _ gone on.1)

front_of_legal : {tree : TreeModel} {loaded : Words} {whole expected : List Event} → Legal tree loaded whole expected
    → (actual more : List Event) → whole ≡ actual ++ more → LegalFront tree loaded actual expected
front_of_legal legal [] more e = nothing_yet _
front_of_legal nothing (first ∷ actual) more e = absurd (cc)
front_of_legal {tree} {loaded} (same event whole expected stands rest) (first ∷ actual) more e =
    let here : event ≡ first = cc in
    let there : whole ≡ actual ++ more = cc in
    subst (λ (x : Event). LegalFront tree loaded (x ∷ actual) (event ∷ expected)) here
    (same_so_far event actual expected stands (front_of_legal rest actual more there))
front_of_legal {tree} {loaded} (fell id entry place wanted found whole expected falls rest) (first ∷ []) more e =
    let here : Fell id entry place wanted found ≡ first = cc in
    subst (λ (x : Event). LegalFront tree loaded (x ∷ []) (Saved id entry kept.Regen ∷ expected)) here
    (falling id entry place wanted found expected falls)
front_of_legal {tree} {loaded} (fell id entry place wanted found whole expected falls rest) (first ∷ second ∷ actual) more e =
    let here : Fell id entry place wanted found ≡ first = cc in
    let next : Saved id entry kept.Copy ≡ second = cc in
    let there : whole ≡ actual ++ more = cc in
    subst (λ (x : Event). LegalFront tree loaded (x ∷ second ∷ actual) (Saved id entry kept.Regen ∷ expected)) here
    (subst (λ (y : Event). LegalFront tree loaded (Fell id entry place wanted found ∷ y ∷ actual) (Saved id entry kept.Regen ∷ expected)) next
    (fell_so_far id entry place wanted found actual expected falls (front_of_legal rest actual more there)))
front_of_legal {tree} {loaded} (lapsed id entry seen found whole expected gone rest) (first ∷ []) more e =
    let here : Lapsed id entry seen found ≡ first = cc in
    subst (λ (x : Event). LegalFront tree loaded (x ∷ []) (Saved id entry kept.Refer ∷ expected)) here
    (lapsing id entry seen found expected gone)
front_of_legal {tree} {loaded} (lapsed id entry seen found whole expected gone rest) (first ∷ second ∷ actual) more e =
    let here : Lapsed id entry seen found ≡ first = cc in
    let next : Saved id entry kept.Copy ≡ second = cc in
    let there : whole ≡ actual ++ more = cc in
    subst (λ (x : Event). LegalFront tree loaded (x ∷ second ∷ actual) (Saved id entry kept.Refer ∷ expected)) here
    (subst (λ (y : Event). LegalFront tree loaded (Lapsed id entry seen found ∷ y ∷ actual) (Saved id entry kept.Refer ∷ expected)) next
    (lapsed_so_far id entry seen found actual expected gone (front_of_legal rest actual more there)))

pub legal_fronts_are_fronts : LegalFrontsAreFronts
legal_fronts_are_fronts tree loaded words actual expected all = (
  λ front. front_goes_on words front (every_all (SavesAsDeclared tree) expected all),
  λ on. front_of_legal on.1 actual on.0 refl,
)
