use Rattle.std.proofs.Common.{rules, ◌≡◌, ◌∷◌, map, ap}
use Rattle.std.specs.Vec.Iter.{into_iter_items}
use Rattle.cd_core.specs.StateModel.{state_model}
use Rattle.cd_core.proofs.TakenOn.{takes_next}
use Rattle.cd_core.proofs.state.NodeState.take_all.Goals as goal

pub loop-child-preserved : goal.loop-child-preserved
loop-child-preserved g c =
    let items : into_iter_items c.loop-child.child-iterator ≡ c.in-Some.child ∷ into_iter_items c.next.new.self = search rules in
    takes_next c.args.commit (state_model g.F.Field.model g.P.Pass.model c.args.self.now)
    (map (state_model g.F.Field.model g.P.Pass.model) c.args.children.items)
    (state_model g.F.Field.model g.P.Pass.model c.loop-child.self)
    (map (state_model g.F.Field.model g.P.Pass.model) (into_iter_items c.loop-child.child-iterator))
    c.loop-child.lost (state_model g.F.Field.model g.P.Pass.model c.in-Some.child)
    (map (state_model g.F.Field.model g.P.Pass.model) (into_iter_items c.next.new.self))
    (state_model g.F.Field.model g.P.Pass.model c.take_one.new.self) c.in_ok-more.more c.joined_losses-lost.result
    c.loop-child.invariant (ap (map (state_model g.F.Field.model g.P.Pass.model)) items) c.in_ok-more.ensures.taken c.in_ok-more.ensures.lost
    c.joined_losses-lost.ensures
