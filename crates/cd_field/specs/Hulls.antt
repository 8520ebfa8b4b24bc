-- The words of a region's hull, what a list of hulls says of places, and what each change of a hull gives.
use Rattle.std.specs.Prelude.{◌≡◌, ℕ, ◌+◌, ◌-◌, ◌<◌, ◌≤◌, Bool, true, false, nat_lt, List, [], ◌++◌, length, take, drop, replicate, get_or, slice_set, None, Some, min, if◌then◌else◌}
use Rattle.std.specs.List.{splice}
use Rattle.cd_base.specs.declared.place.Place.{Place}
use Rattle.cd_base.specs.declared.place.Range.{Range}
use Rattle.cd_base.specs.Words.{Words, PlaceSet, in_ranges}

-- words from index `low` on, and which of them are away: those with a flag that says so
pub record HullModel : Type 0 where
  pub low : ℕ
  pub words : List ℕ
  pub away : List Bool

abbrev pub no_hull : HullModel
no_hull = record { low = 0; words = []; away = [] }

-- the hull of a region
abbrev pub hull_at : List HullModel → ℕ → HullModel
hull_at hulls region = get_or hulls region no_hull

-- an index is of a hull
abbrev pub HasIndex : HullModel → ℕ → Type 0
HasIndex hull i = (hull.low ≤ i) × (i - hull.low < length hull.words)

-- all indices from low to below high are
abbrev pub HasRun : HullModel → ℕ → ℕ → Type 0
HasRun hull low high = (hull.low ≤ low) × (low ≤ high) × (high - hull.low ≤ length hull.words)

abbrev pub word_in : HullModel → ℕ → ℕ
word_in hull i = get_or hull.words (i - hull.low) 0

abbrev pub away_in : HullModel → ℕ → Bool
away_in hull i = get_or hull.away (i - hull.low) false

-- the words of a run
abbrev pub run_in : HullModel → ℕ → ℕ → List ℕ
run_in hull low high = take (high - low) (drop (low - hull.low) hull.words)

-- ---- the words of places

-- what the hull of a region has for a place of some ranges
abbrev pub place_by : {X : Type 0} → (HullModel → ℕ → X) → X → List Range → List HullModel → Place → X
place_by {X} seen none ranges hulls q = if in_ranges ranges q then seen (hull_at hulls q.region) q.index else none

-- the words of the places of some ranges
abbrev pub words_by : List Range → List HullModel → Words
words_by ranges hulls = λ q. if in_ranges ranges q then Some (word_in (hull_at hulls q.region) q.index) else None

-- those of them that are away
abbrev pub lost_by : List Range → List HullModel → PlaceSet
lost_by ranges hulls = λ q. if in_ranges ranges q then away_in (hull_at hulls q.region) q.index else false

-- each place of some ranges has its word in the hull of its region
pub record AreCovered (ranges : List Range) (hulls : List HullModel) : Type 0 where
  pub each : (q : Place) → in_ranges ranges q ≡ true → HasIndex (hull_at hulls q.region) q.index

-- ---- changes

-- one word changed
abbrev pub changed : HullModel → ℕ → ℕ → HullModel
changed hull i word = record hull { words = slice_set hull.words (i - hull.low) word }

-- the words of a run changed
abbrev pub run_laid : HullModel → ℕ → List ℕ → HullModel
run_laid hull low run = record hull { words = splice hull.words (low - hull.low) ((low - hull.low) + length run) run }

-- one word is here
abbrev pub cleared : HullModel → ℕ → HullModel
cleared hull i = record hull { away = slice_set hull.away (i - hull.low) false }

-- flags from an index to below another taken back, as far as there are flags
abbrev pub flags_cleared : List Bool → ℕ → ℕ → List Bool
flags_cleared away from to =
    if nat_lt from (min to (length away))
    then splice away from (from + (min to (length away) - from)) (replicate (min to (length away) - from) false)
    else away

-- the words of a run are here
abbrev pub run_cleared : HullModel → ℕ → ℕ → HullModel
run_cleared hull low high = record hull { away = flags_cleared hull.away (low - hull.low) (high - hull.low) }

-- flags filled up to a count
abbrev pub flags_grown : List Bool → ℕ → List Bool
flags_grown away count = away ++ replicate (count - length away) false

-- the words of a run are away
abbrev pub run_marked : HullModel → ℕ → ℕ → HullModel
run_marked hull low high = record hull {
  away = splice (flags_grown hull.away (length hull.words)) (low - hull.low) ((low - hull.low) + (high - low)) (replicate (high - low) true);
}

-- a hull of a list becomes another
abbrev pub with_hull : List HullModel → ℕ → HullModel → List HullModel
with_hull hulls region hull = slice_set hulls region hull
