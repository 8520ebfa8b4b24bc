use Rattle.std.proofs.Common.{rules, ◌≡◌, ◌||◌, false, List, None, [], if◌then◌else◌}
use Rattle.cd_base.specs.declared.place.Place.{Place}
use Rattle.cd_base.specs.declared.place.Range.{Range}
use Rattle.cd_base.specs.Words.{in_ranges}
use Rattle.cd_field.specs.FieldModel.{FieldModel, loaded, part_of, without}
use Rattle.cd_field.specs.FlatMachine.{flat_machine}
use Rattle.cd_field.proofs.script_field.ScriptFieldField.carve.Goals as goal

part_made : (made empty m : FieldModel) (reads writes : List Range) → empty ≡ loaded [] []
    → ((q : Place) → made.words q ≡ (if in_ranges reads q || in_ranges writes q then m.words q else None))
    → ((q : Place) → made.lost q ≡ false) → made.events ≡ empty.events → made.notes ≡ empty.notes → made.script ≡ m.script
    → made.node ≡ empty.node → made.begin ≡ empty.begin → made.carved ≡ writes → made ≡ part_of m reads writes
part_made made empty m reads writes is words lost events notes script node begin carved = search rules

rest_left : (left m : FieldModel) (writes : List Range) → ((q : Place) → left.words q ≡ m.words q)
    → ((q : Place) → left.lost q ≡ (in_ranges writes q || m.lost q)) → left.events ≡ m.events → left.notes ≡ m.notes → left.script ≡ m.script
    → left.node ≡ m.node → left.begin ≡ m.begin → left.carved ≡ m.carved → left ≡ without m writes
rest_left left m writes words lost events notes script node begin carved = search rules

pub returns-clause-part : goal.returns-clause-part
returns-clause-part c =
    let m : FieldModel = flat_machine c.args.self.now in
    part_made _ (flat_machine c.empty-part.result) m c.args.reads.now c.args.writes.now c.empty-part.ensures
    (λ q. search rules) (λ q. search rules) (search rules) (search rules) (search rules) (search rules) (search rules) (search rules)

pub returns-clause-rest : goal.returns-clause-rest
returns-clause-rest c =
    rest_left _ (flat_machine c.args.self.now) c.args.writes.now (λ q. search rules) (λ q. search rules) (search rules) (search rules)
    (search rules) (search rules) (search rules) (search rules)
