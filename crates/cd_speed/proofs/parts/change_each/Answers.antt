use Rattle.std.proofs.Common.{sym, ◌∙◌}
use Rattle.cd_speed.proofs.Handed.{in_nth, or_none, stays_written}
use Rattle.cd_speed.proofs.parts.change_each.Goals as goal

pub write_run-requires-clause-present : goal.write_run-requires-clause-present
write_run-requires-clause-present g c p h =
    c.loop-range.invariant.present p
    (c.requires.present p (in_nth c.args.ranges.now c.loop-range.range-index p c.loop-range-test.true (sym (or_none _) ∙ h)))

pub loop-range-preserved : goal.loop-range-preserved
loop-range-preserved g c =
    stays_written (g.F.Field.model c.args.part.now) (g.F.Field.model c.loop-range.part) (g.F.Field.model c.write_run.new.self) _ c.args.words.now
    c.write_run.ensures c.loop-range.invariant
