use Rattle.std.proofs.Common.{List, refl}
use Rattle.cd_field.specs.Hulls.{HullModel, hull_at, HasRun, run_cleared}
use Rattle.cd_field.proofs.HullLemmas.{word_of, run_known, run_short, covered_changed, run_cleared_over, place_same}
use Rattle.cd_field.proofs.flat_words.FlatWords.clear_run.Goals as goal

pub clear_run-requires-clause-run : goal.clear_run-requires-clause-run
clear_run-requires-clause-run c =
    run_known c.args.self.now.ranges.items c.args.self.now.hulls.items c.args.range c.args.self.now.covered c.requires c.if-range.true

pub invariant_of-self : goal.invariant_of-self
invariant_of-self c =
    let hulls : List HullModel = c.args.self.now.hulls.items in
    let r = c.args.range in
    let has : HasRun (hull_at hulls r.region) r.low r.high =
    run_known c.args.self.now.ranges.items hulls r c.args.self.now.covered c.requires c.if-range.true in
    record {
      covered = covered_changed c.args.self.now.ranges.items hulls c.clear_run.new.hulls.items r.region (run_cleared (hull_at hulls r.region) r.low r.high)
          c.args.self.now.covered (run_short hulls r.region r.low r.high c.if-range.true has) refl refl c.clear_run.ensures;
    }

pub returns-then-range-clause-words : goal.returns-then-range-clause-words
returns-then-range-clause-words c =
    let hulls : List HullModel = c.args.self.now.hulls.items in
    let r = c.args.range in
    place_same word_of _ c.args.self.now.ranges.items hulls c.clear_run.new.hulls.items r.region (run_cleared (hull_at hulls r.region) r.low r.high)
    (run_short hulls r.region r.low r.high c.if-range.true
    (run_known c.args.self.now.ranges.items hulls r c.args.self.now.covered c.requires c.if-range.true)) c.clear_run.ensures (λ i. refl)

pub returns-then-range-clause-lost : goal.returns-then-range-clause-lost
returns-then-range-clause-lost c =
    run_cleared_over c.args.self.now.ranges.items c.args.self.now.hulls.items c.clear_run.new.hulls.items c.args.range c.args.self.now.covered
    c.requires c.if-range.true c.clear_run.ensures
