use Rattle.std.proofs.Common.{◌≡◌, Option, Some, IsSomeAnd, slice_get, [], ap, subst, sym, ◌∙◌}
use Rattle.cd_tree.specs.TreeModel.{TreeModel}
use Rattle.cd_tree.specs.declared.domain.Domain.{Domain}
use Rattle.cd_tries.specs.Preserving.{links_for}
use Rattle.cd_state_tests.specs.Sample.{IsSample}
use Rattle.cd_state_tests.proofs.SampleLemmas.{sample_held}
use Rattle.cd_state_tests.proofs.tests.shelves.preserves.Goals as goal

pub give_up_all-requires-after_bounds : goal.give_up_all-requires-after_bounds
give_up_all-requires-after_bounds g c = λ _ _.
    let S : Option Domain → Type 0 = λ o. IsSomeAnd o (λ domain. IsSample domain) in
    let at : slice_get c.args.plan.now.tree.domains 0 ≡ Some c.node-domain.result.now =
    ap (λ (t : TreeModel). slice_get t.domains 0) (sym c.tree.ensures.value) ∙ c.node-domain.ensures in
    sample_held (record { 0 = 0 }) c.node-domain.result.now (links_for c.args.plan.now.tree.domains (record { 0 = 0 }) []) c.in_ok-shelf.shelf c.keeps.result.now
    (g.F.Field.model c.args.field.now) (g.F.Field.model c.preserve.new.field) (g.P.Pass.model c.args.pass.now) (g.P.Pass.model c.preserve.new.pass)
    (subst S at c.requires.sample) c.requires.words c.requires.nothing c.requires.room c.in_ok-shelf.ensures c.keeps.ensures
