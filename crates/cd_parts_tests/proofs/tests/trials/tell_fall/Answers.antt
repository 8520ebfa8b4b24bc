use Rattle.cd_tree.specs.declared.event.Event.{Event}
use Rattle.cd_tree.specs.declared.event.Event.TheVariants.{Fell}
use Rattle.cd_parts_tests.proofs.TrialLemmas.{ready_told}
use Rattle.cd_parts_tests.proofs.tests.trials.tell_fall.Goals as goal

pub returns-in_ok-fell : goal.returns-in_ok-fell
returns-in_ok-fell g c =
    let told : Event = Fell (g.F.Field.model c.args.field.now).node c.args.entry c.args.place c.args.wanted c.read.result in
    ready_told (g.F.Field.model c.args.field.now) (g.F.Field.model c.fell.new.self) told (c.in_ok-fell.ensures c.read.result c.read.ensures)
    c.requires.ready
