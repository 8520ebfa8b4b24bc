use Rattle.std.proofs.Common.{arith, refl, ◌-◌, ◌+◌, ◌≤◌, ◌≡◌, length}
use Rattle.cd_tree.specs.declared.domain.NodeId.{NodeId}
use Rattle.cd_foot.proofs.FeetLemmas.{feet_more}
use Rattle.cd_foot.proofs.footprints.Footprints.of.Goals as goal

pub loop-id-preserved : goal.loop-id-preserved
loop-id-preserved c =
    let node : NodeId = record { 0 = c.loop-id.id - 1 } in
    let step : c.loop-id.id ≡ (c.loop-id.id - 1) + 1 = omega arith in
    let within : c.loop-id.id ≤ length c.args.tree.now.domains = omega (arith, c.count-count.ensures.value) in
    feet_more (c.loop-id.id - 1) c.loop-id.id node c.args.tree.now.domains c.loop-id.feet.items _ c.in_ok-foot.foot
    refl step within c.loop-id.invariant refl c.in_ok-foot.ensures
