-- Which records are legal for a program's reading. The reading knows no word, so a run may tell more than it: that a
-- pattern does not give an entry's words, or that a shared copy was gone. It then falls back to a copy, and says so.
use Rattle.std.specs.Prelude.{◌≡◌, ◌≢◌, ℕ, ◌<◌, true, List, [], ◌∷◌, Option, Some, slice_get, IsSomeAnd}
use Rattle.std.specs.Option.{option_and_then}
use Rattle.cd_base.specs.declared.place.Place.{Place}
use Rattle.cd_base.specs.declared.place.Range.{Range}
use Rattle.cd_base.specs.declared.pattern.Pattern.{Pattern}
use Rattle.cd_base.specs.Words.{Words, in_range, pattern_word}
use Rattle.cd_tree.specs.declared.domain.NodeId.{NodeId}
use Rattle.cd_tree.specs.declared.domain.How.{How}
use Rattle.cd_tree.specs.declared.domain.How.TheVariants.{Copy, Refer, Regen}
use Rattle.cd_tree.specs.declared.domain.Entry.{Entry}
use Rattle.cd_tree.specs.declared.domain.Domain.{Domain}
use Rattle.cd_tree.specs.declared.event.Kept.{Kept}
use Rattle.cd_tree.specs.declared.event.Kept.TheVariants as kept
use Rattle.cd_tree.specs.declared.event.Event.{Event}
use Rattle.cd_tree.specs.declared.event.Event.TheVariants.{Begin, Saved, Fell, Lapsed, Refilled, Reached, Halted, Found, Complete, Escalate}
use Rattle.cd_tree.specs.TreeModel.{TreeModel}

-- an entry of a domain, both by their numbers
abbrev pub entry_at : List Domain → NodeId → ℕ → Option Entry
entry_at domains id entry = option_and_then (λ (domain : Domain). slice_get domain.entries entry) (slice_get domains id.0)

-- what is said of the range and the pattern of an entry that is given anew by a pattern
abbrev pub OfPattern : (Range → Pattern → Type 0) → Entry → How → Type 0
OfPattern P entry Copy = ⊥
OfPattern P entry Refer = ⊥
OfPattern P entry (Regen pattern) = P entry.range pattern

abbrev pub IsPatternAnd : TreeModel → NodeId → ℕ → (Range → Pattern → Type 0) → Type 0
IsPatternAnd tree id entry P = IsSomeAnd (entry_at tree.domains id entry) (λ e. OfPattern P e e.how)

-- the pattern gives each word of the range
abbrev pub GivesWords : Words → Range → Pattern → Type 0
GivesWords w range pattern = (p : Place) → in_range range p ≡ true → w p ≡ Some (pattern_word pattern p.index)

-- a place of the range, the pattern's word there, and another that was found
abbrev pub Differs : Place → ℕ → ℕ → Range → Pattern → Type 0
Differs place wanted found range pattern =
    (in_range range place ≡ true) × (wanted ≡ pattern_word pattern place.index) × (wanted ≢ found)

-- the least place of the range whose word is not the pattern's, and that word
abbrev pub DiffersFirst : Words → Place → ℕ → Range → Pattern → Type 0
DiffersFirst w place found range pattern =
    (w place ≡ Some found)
    × ((p : Place) → in_range range p ≡ true → p.index < place.index → w p ≡ Some (pattern_word pattern p.index))

-- the root's words are those that it was loaded with: there a pattern is kept to exactly where it gives them
abbrev pub IsKeptTo : TreeModel → Words → NodeId → ℕ → Kept → Type 0
IsKeptTo tree loaded id entry kept.Copy = Unit {0}
IsKeptTo tree loaded id entry kept.Refer = Unit {0}
IsKeptTo tree loaded id entry kept.Regen = id.0 ≡ 0 → IsPatternAnd tree id entry (GivesWords loaded)

-- an event that may stand as the reading has it
abbrev pub MayStand : TreeModel → Words → Event → Type 0
MayStand tree loaded (Begin id number) = Unit {0}
MayStand tree loaded (Saved id entry how) = IsKeptTo tree loaded id entry how
MayStand tree loaded (Fell id entry place wanted found) = Unit {0}
MayStand tree loaded (Lapsed id entry seen found) = Unit {0}
MayStand tree loaded (Refilled id entry) = Unit {0}
MayStand tree loaded (Reached id point) = Unit {0}
MayStand tree loaded (Halted id kinds) = Unit {0}
MayStand tree loaded (Found id kinds) = Unit {0}
MayStand tree loaded (Complete id) = Unit {0}
MayStand tree loaded (Escalate id) = Unit {0}

-- a pattern that was given up for a copy
pub record MayFall (tree : TreeModel) (loaded : Words) (id : NodeId) (entry : ℕ) (place : Place) (wanted found : ℕ) : Type 0 where
  pub differs : IsPatternAnd tree id entry (Differs place wanted found)
  pub first : id.0 ≡ 0 → IsPatternAnd tree id entry (DiffersFirst loaded place found)

-- a record, first, and the reading's, second: equal but for the entries that fell back to a copy
pub data Legal (tree : TreeModel) (loaded : Words) : List Event → List Event → Type 0 where
  nothing : Legal tree loaded [] []
  same : (event : Event) (actual expected : List Event) (stands : MayStand tree loaded event)
      (rest : Legal tree loaded actual expected) → Legal tree loaded (event ∷ actual) (event ∷ expected)
  fell : (id : NodeId) (entry : ℕ) (place : Place) (wanted found : ℕ) (actual expected : List Event)
      (falls : MayFall tree loaded id entry place wanted found) (rest : Legal tree loaded actual expected)
      → Legal tree loaded (Fell id entry place wanted found ∷ Saved id entry kept.Copy ∷ actual) (Saved id entry kept.Regen ∷ expected)
  lapsed : (id : NodeId) (entry seen found : ℕ) (actual expected : List Event)
      (gone : seen ≢ found) (rest : Legal tree loaded actual expected)
      → Legal tree loaded (Lapsed id entry seen found ∷ Saved id entry kept.Copy ∷ actual) (Saved id entry kept.Refer ∷ expected)
