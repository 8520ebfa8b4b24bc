use Rattle.std.proofs.Common.{◌∙◌, ap, length}
use Rattle.cd_tree.specs.TreeModel.{TreeModel}
use Rattle.cd_core.proofs.FitsStart.{made_root, root_fits, root_stands_there}
use Rattle.cd_core.proofs.start.start_root.Goals as goal

pub returns-clause-exact : goal.returns-clause-exact
returns-clause-exact g c =
    made_root c.args.plan.now (g.F.Field.model c.args.field) (g.P.Pass.model c.args.pass) c.in_ok-counts.counts.items c.empty.result c.new.result.items
    (c.in_ok-counts.ensures.size ∙ c.count.ensures.value ∙ ap (λ (tree : TreeModel). length tree.domains) c.tree.ensures.value)
    c.in_ok-counts.ensures.none c.empty.ensures c.new.ensures.items

pub returns-clause-fits : goal.returns-clause-fits
returns-clause-fits g c =
    root_fits c.starting_fits.ensures c.args.plan.now (g.F.Field.model c.args.field) (g.P.Pass.model c.args.pass) _ c.tree.ensures.sound
    c.room_is_within.ensures c.requires (returns-clause-exact g c)

pub returns-clause-stands : goal.returns-clause-stands
returns-clause-stands g c =
    root_stands_there c.starting_stands.ensures c.args.plan.now (g.F.Field.model c.args.field) (g.P.Pass.model c.args.pass) _
    c.tree.ensures.sound c.room_is_within.ensures c.requires (returns-clause-exact g c)
