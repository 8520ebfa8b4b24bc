use Rattle.std.proofs.Common.{◌≡◌, ◌≤◌, true, IsSome}
use Rattle.cd_base.specs.declared.place.Place.{Place}
use Rattle.cd_base.specs.Words.{in_range}
use Rattle.cd_tree.specs.declared.domain.How.TheVariants.{Regen}
use Rattle.cd_tries.specs.Keeping.{pattern_words}
use Rattle.cd_tries.specs.Refilling.{put_words}
use Rattle.cd_tries.proofs.Putting.{from}
use Rattle.cd_tries.proofs.refilling.refill_pattern.Given as goal

abbrev pub invariant-loop-index : goal.invariant-loop-index
invariant-loop-index g l = record {
  above : l.range.low ≤ l.index;
  within : l.index ≤ l.range.high;
  known : (p : Place) → in_range l.range p ≡ true → IsSome ((g.F.Field.model l.field).words p);
  left : put_words (pattern_words (Regen l.pattern)) (from l.range l.index) (g.F.Field.model l.field)
      ≡ put_words (pattern_words (Regen l.pattern)) l.range (g.F.Field.model l.fn.field);
}
