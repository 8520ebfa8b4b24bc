use Rattle.std.proofs.Common.{◌≡◌, Some, map, subst, slice_get}
use Rattle.cd_base.proofs.ListLemmas.{some_and}
use Rattle.cd_tree.specs.TreeModel.{TreeModel}
use Rattle.cd_tree.specs.declared.domain.Domain.{Domain}
use Rattle.cd_core.specs.Resuming.{resumed}
use Rattle.cd_core.specs.StateModel.{state_model}
use Rattle.cd_core.proofs.AfterResuming.{left_behind}
use Rattle.cd_core.proofs.TakesBack.{can_take, fits_after, stands_after}
use Rattle.cd_core.proofs.state.NodeState.resume.Goals as goal

pub take_group-requires-clause-can : goal.take_group-requires-clause-can
take_group-requires-clause-can g c κs within =
    let T : TreeModel → Type 0 = λ t. slice_get t.domains c.args.self.now.node.0 ≡ Some c.node.result.now in
    can_take c.members_can_be_taken.ensures c.args.plan.now (state_model g.F.Field.model g.P.Pass.model c.args.self.now)
    (map (state_model g.F.Field.model g.P.Pass.model) c.args.children.items) c.node.result.now
    c.tree.ensures.sound c.requires.fits (subst T c.tree.ensures.value c.node.ensures) c.requires.waits c.requires.members c.requires.takes

pub returns-clause-exact : goal.returns-clause-exact
returns-clause-exact g c =
    let T : TreeModel → Type 0 = λ t. slice_get t.domains c.args.self.now.node.0 ≡ Some c.node.result.now in
    let P : Domain → Type 0 = λ d. (state_model g.F.Field.model g.P.Pass.model c.take_group.new.self) ≡ resumed (state_model g.F.Field.model g.P.Pass.model c.args.self.now) d (map (state_model g.F.Field.model g.P.Pass.model) c.args.children.items) in
    some_and (slice_get c.args.plan.now.tree.domains c.args.self.now.node.0) P c.node.result.now (subst T c.tree.ensures.value c.node.ensures)
    c.in_ok-take_group.ensures

pub returns-clause-fits : goal.returns-clause-fits
returns-clause-fits g c =
    let T : TreeModel → Type 0 = λ t. slice_get t.domains c.args.self.now.node.0 ≡ Some c.node.result.now in
    fits_after c.resuming_fits.ensures c.args.plan.now (state_model g.F.Field.model g.P.Pass.model c.args.self.now)
    (state_model g.F.Field.model g.P.Pass.model c.take_group.new.self) (map (state_model g.F.Field.model g.P.Pass.model) c.args.children.items) c.node.result.now
    c.tree.ensures.sound c.requires.fits (subst T c.tree.ensures.value c.node.ensures) c.requires.waits c.requires.members c.requires.takes
    c.in_ok-take_group.ensures

pub returns-clause-stands : goal.returns-clause-stands
returns-clause-stands g c t stands answers =
    let T : TreeModel → Type 0 = λ t. slice_get t.domains c.args.self.now.node.0 ≡ Some c.node.result.now in
    stands_after c.resuming_stands.ensures c.args.plan.now t (state_model g.F.Field.model g.P.Pass.model c.args.self.now)
    (state_model g.F.Field.model g.P.Pass.model c.take_group.new.self) (map (state_model g.F.Field.model g.P.Pass.model) c.args.children.items) c.node.result.now
    c.tree.ensures.sound stands (subst T c.tree.ensures.value c.node.ensures) c.requires.waits c.requires.members c.requires.takes answers
    c.in_ok-take_group.ensures

pub returns-clause-stays : goal.returns-clause-stays
returns-clause-stays g c =
    (left_behind c.args.plan.now (state_model g.F.Field.model g.P.Pass.model c.args.self.now)
    (state_model g.F.Field.model g.P.Pass.model c.take_group.new.self) c.node.result.now (map (state_model g.F.Field.model g.P.Pass.model) c.args.children.items)
    c.requires.waits c.in_ok-take_group.ensures).stays

pub returns-clause-onward : goal.returns-clause-onward
returns-clause-onward g c =
    (left_behind c.args.plan.now (state_model g.F.Field.model g.P.Pass.model c.args.self.now)
    (state_model g.F.Field.model g.P.Pass.model c.take_group.new.self) c.node.result.now (map (state_model g.F.Field.model g.P.Pass.model) c.args.children.items)
    c.requires.waits c.in_ok-take_group.ensures).onward

pub returns-clause-moves : goal.returns-clause-moves
returns-clause-moves g c =
    (left_behind c.args.plan.now (state_model g.F.Field.model g.P.Pass.model c.args.self.now)
    (state_model g.F.Field.model g.P.Pass.model c.take_group.new.self) c.node.result.now (map (state_model g.F.Field.model g.P.Pass.model) c.args.children.items)
    c.requires.waits c.in_ok-take_group.ensures).moves
