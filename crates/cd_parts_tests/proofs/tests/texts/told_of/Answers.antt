use Rattle.std.proofs.Common.{◌∙◌, ap}
use Rattle.cd_field.specs.FieldModel.{FieldModel, told}
use Rattle.cd_field.specs.FlatMachine.{flat_machine}
use Rattle.cd_parts_tests.proofs.TextLemmas.{all_present}
use Rattle.cd_parts_tests.proofs.tests.texts.told_of.Goals as goal

pub returns : goal.returns
returns c =
    all_present (flat_machine c.tell.new.self) c.args.regions.now _ c.args.event
    (c.in_ok-tell.ensures ∙ ap (λ (m : FieldModel). told m c.args.event) c.in_ok-load.ensures)
