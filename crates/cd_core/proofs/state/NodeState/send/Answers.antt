use Rattle.std.proofs.Common.{◌≡◌, ℕ, ◌+◌, [], ◌∷◌, ◌++◌, ◌∙◌, List, ap, drop, map, slice_index_or}
use Rattle.std.proofs.lemmas.List.{drop_more, map_push}
use Rattle.cd_tree.specs.declared.domain.NodeId.{NodeId}
use Rattle.cd_core.specs.declared.state.NodeState.{NodeState}
use Rattle.cd_core.specs.StateModel.{StateModel, state_model}
use Rattle.cd_core.proofs.Sends.{one_sent}
use Rattle.cd_core.proofs.state.NodeState.send.Goals as goal

pub loop-id-preserved : goal.loop-id-preserved
loop-id-preserved g c =
    let seen : NodeState _ _ → StateModel = state_model g.F.Field.model g.P.Pass.model in
    let ids : List NodeId = c.args.ids.now in
    let i : ℕ = c.loop-id.id-index in
    let id : NodeId = slice_index_or ids i (record { 0 = 0 }) in
    let grown : c.push.new.self.items ≡ c.loop-id.children.items ++ c.in_ok-child.child ∷ [] = c.in_ok-push.ensures.items in
    one_sent c.args.plan.now (seen c.args.self.now) (seen c.loop-id.self) (seen c.send_one.new.self) ids (drop i ids) (drop (i + 1) ids)
    (map seen c.loop-id.children.items) (map seen c.push.new.self.items) id (seen c.in_ok-child.child)
    (drop_more ids i (record { 0 = 0 }) c.loop-id-test.true) c.in_ok-child.ensures.child c.in_ok-child.ensures.stays
    (ap (map seen) grown ∙ map_push seen c.loop-id.children.items c.in_ok-child.child) c.loop-id.invariant
