use Rattle.std.proofs.Common.{◌<◌, ◌≤◌, length, arith}
use Rattle.cd_tree.specs.Limits.{need_limit}
use Rattle.cd_cover.proofs.PlanLemmas.{needs_within, need_read, need_fits}
use Rattle.cd_cover.proofs.settled.Plan.need.Goals as goal

pub index-requires : goal.index-requires
index-requires c =
    let within : c.args.node.0 < length c.self.inside.needs.items =
    needs_within _ _ c.self.view_is c.self.invariant c.args.node c.requires in
    omega arith

pub overflow_cast-result : goal.overflow_cast-result
overflow_cast-result c =
    let small : c.index.result.now ≤ need_limit =
    need_fits _ _ c.self.view_is c.self.invariant c.args.node c.requires c.index.result.now c.index.ensures in
    omega arith

pub returns : goal.returns
returns c = need_read _ _ c.self.view_is c.self.invariant c.args.node c.requires c.index.result.now c.index.ensures
