use Rattle.std.proofs.Common.{rules}
use Rattle.cd_tree.specs.Scripts.{IsAccepted}
use Rattle.cd_field.specs.FieldModel.{ArePresent}
use Rattle.cd_state_tests.proofs.GroupLemmas.{root_part}
use Rattle.cd_state_tests.proofs.tests.groups.carved.Goals as goal

pub returns : goal.returns
returns g c =
    let accepted : IsAccepted c.args.plan.now.tree (g.F.Field.model c.load-2.new.self).script = search rules in
    let known : ArePresent (g.F.Field.model c.load-2.new.self) c.reads-reads.result.now = search rules in
    let written : ArePresent (g.F.Field.model c.load-2.new.self) c.writes-writes.result.now = search rules in
    root_part c.args.plan.now c.feet.result.now c.feet-2.result.now c.reads-reads.result.now c.writes-writes.result.now
    (g.F.Field.model c.load-2.new.self) (g.F.Field.model c.in_ok-carve.field-0) c.feet.ensures.sound c.feet.ensures.value c.feet-2.ensures.value
    c.reads-reads.ensures c.writes-writes.ensures accepted known written c.in_ok-carve.ensures.part
