use Rattle.std.proofs.Common.{◌≡◌, ◌-◌, List, length, arith, refl}
use Rattle.cd_field.specs.Hulls.{HullModel, hull_at, HasRun, run_laid, away_in}
use Rattle.cd_field.proofs.HullLemmas.{run_known, run_short, covered_changed, run_laid_over, place_same, splice_long}
use Rattle.cd_field.proofs.flat_words.FlatWords.write_run.Goals as goal

pub lay_run-requires-clause-run : goal.lay_run-requires-clause-run
lay_run-requires-clause-run c =
    run_known c.args.self.now.ranges.items c.args.self.now.hulls.items c.args.range c.args.self.now.covered c.requires.known c.if-range.true

pub invariant_of-self : goal.invariant_of-self
invariant_of-self c =
    let hulls : List HullModel = c.args.self.now.hulls.items in
    let r = c.args.range in
    let hull : HullModel = hull_at hulls r.region in
    let has : HasRun hull r.low r.high =
    run_known c.args.self.now.ranges.items hulls r c.args.self.now.covered c.requires.known c.if-range.true in
    let long : length c.args.words.now ≡ r.high - r.low = c.requires.long in
    record {
      covered = covered_changed c.args.self.now.ranges.items hulls c.lay_run.new.hulls.items r.region (run_laid hull r.low c.args.words.now)
          c.args.self.now.covered (run_short hulls r.region r.low r.high c.if-range.true has) refl
          (splice_long hull.words c.args.words.now (r.low - hull.low) (omega (arith, has.0, has.2, long))) c.lay_run.ensures;
    }

pub returns-then-range-clause-words : goal.returns-then-range-clause-words
returns-then-range-clause-words c =
    let r = c.args.range in
    let long : length c.args.words.now ≡ r.high - r.low = c.requires.long in
    run_laid_over c.args.self.now.ranges.items c.args.self.now.hulls.items c.lay_run.new.hulls.items r c.args.words.now c.args.self.now.covered
    c.requires.known c.if-range.true (omega (arith, long, c.if-range.true)) c.lay_run.ensures

pub returns-then-range-clause-lost : goal.returns-then-range-clause-lost
returns-then-range-clause-lost c =
    let hulls : List HullModel = c.args.self.now.hulls.items in
    let r = c.args.range in
    place_same away_in _ c.args.self.now.ranges.items hulls c.lay_run.new.hulls.items r.region (run_laid (hull_at hulls r.region) r.low c.args.words.now)
    (run_short hulls r.region r.low r.high c.if-range.true
    (run_known c.args.self.now.ranges.items hulls r c.args.self.now.covered c.requires.known c.if-range.true)) c.lay_run.ensures (λ i. refl)
