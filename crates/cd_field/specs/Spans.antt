-- The least spans that hold a list of ranges, one for each region, and the hulls that are cut out along them.
use Rattle.std.specs.Prelude.{◌≡◌, ℕ, ◌<◌, ◌≤◌, true, nat_lt, List, [], length, get_or, slice_set, min, max, if◌then◌else◌}
use Rattle.cd_base.specs.declared.place.Place.{Place}
use Rattle.cd_base.specs.declared.place.Range.{Range}
use Rattle.cd_base.specs.Words.{in_ranges}
use Rattle.cd_field.specs.declared.spans.Span.{Span}
use Rattle.cd_field.specs.Hulls.{HullModel, no_hull, hull_at, HasRun, run_in}

abbrev pub no_span : Span
no_span = record { low = 0; high = 0 }

-- the span of a region
abbrev pub span_at : List Span → ℕ → Span
span_at spans region = get_or spans region no_span

-- an index lies in a span
abbrev pub InSpan : Span → ℕ → Type 0
InSpan span i = (span.low ≤ i) × (i < span.high)

-- a span that holds a range too
abbrev pub widened : Span → Range → Span
widened span r =
    if nat_lt span.low span.high then record { low = min span.low r.low; high = max span.high r.high }
    else record { low = r.low; high = r.high }

-- the spans with that of the range's region so widened; an empty range changes nothing
abbrev pub widened_by : List Span → Range → List Span
widened_by spans r = if nat_lt r.low r.high then slice_set spans r.region (widened (span_at spans r.region) r) else spans

-- spans for the regions of some hulls, each within its hull; together they hold some ranges
pub record HoldRanges (whole : List HullModel) (ranges : List Range) (spans : List Span) : Type 0 where
  pub long : length spans ≡ length whole
  pub within : (region : ℕ) → (span_at spans region).low < (span_at spans region).high
      → HasRun (hull_at whole region) (span_at spans region).low (span_at spans region).high
  pub holds : (q : Place) → in_ranges ranges q ≡ true → InSpan (span_at spans q.region) q.index

-- the words of a hull in a span, none of them away
abbrev pub cut : HullModel → Span → HullModel
cut hull span =
    if nat_lt span.low span.high then record { low = span.low; words = run_in hull span.low span.high; away = [] } else no_hull
