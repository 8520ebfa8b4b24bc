-- The words that operations are timed on: regions of one length, of which the first is used by none.
use Rattle.std.specs.Prelude.{◌≡◌, ℕ, ◌<◌, ◌≤◌, true, ◌||◌, List}
use Rattle.cd_base.specs.declared.place.Place.{Place}
use Rattle.cd_base.specs.declared.place.Range.{Range}
use Rattle.cd_base.specs.Words.{in_ranges}
use Rattle.cd_field.specs.FieldModel.{FieldModel, IsPresent}

-- each word of the six regions, from one on, is present
pub record HasRegions (m : FieldModel) (from : ℕ) : Type 0 where
  pub each : (p : Place) → from ≤ p.region → p.region < 6 → p.index < 330002 → IsPresent m p

-- a range of one of the regions from one on
pub record IsInside (from : ℕ) (r : Range) : Type 0 where
  pub first : from ≤ r.region
  pub region : r.region < 6
  pub high : r.high ≤ 330002

-- places of the six regions
abbrev pub LieInRegions : List Range → Type 0
LieInRegions ranges = (p : Place) → in_ranges ranges p ≡ true → (p.region < 6) × (p.index < 330002)

-- places that a part reads or writes
abbrev pub AreWithin : List Range → List Range → List Range → Type 0
AreWithin changed reads writes = (p : Place) → in_ranges changed p ≡ true → (in_ranges reads p || in_ranges writes p) ≡ true

-- words may have changed, but what is present, the script and the carved ranges stay
pub record Stays (m later : FieldModel) : Type 0 where
  pub script : later.script ≡ m.script
  pub carved : later.carved ≡ m.carved
  pub present : (p : Place) → IsPresent m p → IsPresent later p
