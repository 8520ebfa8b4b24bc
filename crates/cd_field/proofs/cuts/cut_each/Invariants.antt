use Rattle.std.proofs.Common.{◌≡◌, ◌<◌, ℕ, length}
use Rattle.cd_field.specs.Hulls.{hull_at}
use Rattle.cd_field.specs.Spans.{span_at, cut}
use Rattle.cd_field.proofs.cuts.cut_each.Given as goal

abbrev pub invariant-loop-region : goal.invariant-loop-region
invariant-loop-region l = record {
  same : l.whole.items ≡ l.initial.whole.items;
  long : length l.hulls.items ≡ l.region;
  each : (k : ℕ) → k < l.region → hull_at l.hulls.items k ≡ cut (hull_at l.initial.whole.items k) (span_at l.spans k);
}
