use Rattle.std.proofs.Common.{rules, ◌≡◌, false, List, []}
use Rattle.cd_base.specs.declared.place.Place.{Place}
use Rattle.cd_tree.specs.declared.document.Fault.{Fault}
use Rattle.cd_tree.specs.declared.document.Region.{Region}
use Rattle.cd_tree.specs.Meaning.{initial}
use Rattle.cd_field.specs.FieldModel.{FieldModel, loaded}
use Rattle.cd_field.specs.FlatMachine.{flat_machine}
use Rattle.cd_field.proofs.script_field.ScriptFieldField.load.Goals as goal

machine_made : (made empty : FieldModel) (regions : List Region) (script : List Fault) → empty ≡ loaded [] []
    → ((q : Place) → made.words q ≡ initial regions q) → ((q : Place) → made.lost q ≡ false) → made.script ≡ script
    → made.events ≡ empty.events → made.notes ≡ empty.notes → made.node ≡ empty.node → made.begin ≡ empty.begin → made.carved ≡ empty.carved
    → made ≡ loaded regions script
machine_made made empty regions script is words lost faults events notes node begin carved = search rules

pub returns : goal.returns
returns c =
    machine_made _ (flat_machine c.empty-field.result) c.args.regions.now c.args.script.now c.empty-field.ensures
    (λ q. search rules) (λ q. search rules) (search rules) (search rules) (search rules) (search rules) (search rules) (search rules)
