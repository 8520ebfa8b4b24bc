use Rattle.cd_field.proofs.HullLemmas.{run_known, run_marked_over}
use Rattle.cd_field.proofs.flat_words.FlatWords.mark_range.Goals as goal

pub mark_run-requires-clause-run : goal.mark_run-requires-clause-run
mark_run-requires-clause-run c =
    run_known c.args.self.now.ranges.items c.args.self.now.hulls.items c.args.range c.args.self.now.covered c.requires c.if-range.true

pub returns-in_ok-mark_run-clause-lost : goal.returns-in_ok-mark_run-clause-lost
returns-in_ok-mark_run-clause-lost c =
    run_marked_over c.args.self.now.ranges.items c.args.self.now.hulls.items c.mark_run.new.hulls.items c.args.range c.args.self.now.covered
    c.requires c.if-range.true c.in_ok-mark_run.ensures.marked
