use Rattle.std.proofs.Common.{◌<◌, length, slice_get, ap, subst, sym, ◌∙◌}
use Rattle.cd_tree.specs.Domains.{node}
use Rattle.cd_tree.specs.TreeModel.{TreeModel}
use Rattle.cd_tree.proofs.EachDomain.{number_within}
use Rattle.cd_core.specs.StateModel.{StateModel, state_model}
use Rattle.cd_core.specs.Steps.{step_model}
use Rattle.cd_core.proofs.Advanced.{advanced}
use Rattle.cd_core.proofs.Moving.{tried_fits}
use Rattle.cd_core.proofs.state.NodeState.move_on.Goals as goal

pub node-domain-requires : goal.node-domain-requires
node-domain-requires g c =
    let P : TreeModel → Type 0 = λ t. c.args.self.now.node.0 < length t.domains in
    subst P (sym c.tree-tree.ensures.value)
    (number_within c.args.plan.now.tree.domains c.args.self.now.node (node c.args.self.now.node c.requires.fits.domain c.requires.fits.body) c.requires.fits.is)

pub make_tries-requires-clause-can : goal.make_tries-requires-clause-can
make_tries-requires-clause-can g c κs within =
    let s : StateModel = state_model g.F.Field.model g.P.Pass.model c.args.self.now in
    c.tries_can_be_made.ensures c.args.plan.now s c.node-domain.result.now c.tree-tree.ensures.sound
    (ap (λ (t : TreeModel). slice_get t.domains c.args.self.now.node.0) (sym c.tree-tree.ensures.value) ∙ c.node-domain.ensures) c.requires.fits c.requires.moves

pub conclude-requires-clause-fits : goal.conclude-requires-clause-fits
conclude-requires-clause-fits g c κs within =
    let old : StateModel = state_model g.F.Field.model g.P.Pass.model c.args.self.now in
    let mid : StateModel = state_model g.F.Field.model g.P.Pass.model c.make_tries.new.self in
    (tried_fits c.laws_below.ensures c.tries_fit.ensures c.args.plan.now old mid c.node-domain.result.now c.in_ok-verdict.verdict c.tree-tree.ensures.sound
    (ap (λ (t : TreeModel). slice_get t.domains c.args.self.now.node.0) (sym c.tree-tree.ensures.value) ∙ c.node-domain.ensures) c.requires.fits c.requires.moves
    c.in_ok-verdict.ensures).1

pub returns-clause-exact : goal.returns-clause-exact
returns-clause-exact g c =
    let old : StateModel = state_model g.F.Field.model g.P.Pass.model c.args.self.now in
    let mid : StateModel = state_model g.F.Field.model g.P.Pass.model c.make_tries.new.self in
    let new : StateModel = state_model g.F.Field.model g.P.Pass.model c.conclude.new.self in
    advanced c.args.plan.now c.node-domain.result.now old mid new (step_model g.F.Field.model g.P.Pass.model c.in_ok-step.step) c.in_ok-verdict.verdict
    (ap (λ (t : TreeModel). slice_get t.domains c.args.self.now.node.0) (sym c.tree-tree.ensures.value) ∙ c.node-domain.ensures) c.in_ok-verdict.ensures
    c.in_ok-step.ensures
