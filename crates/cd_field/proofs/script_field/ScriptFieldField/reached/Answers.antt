use Rattle.std.proofs.Common.{◌≡◌, ◌∙◌, ℕ, List, [], ◌∷◌, ◌++◌, ap, sym, bit_or}
use Rattle.std.specs.Int.Bits.{or_zero_r}
use Rattle.cd_tree.specs.declared.document.Fault.{Fault}
use Rattle.cd_tree.specs.declared.event.Event.{Event}
use Rattle.cd_tree.specs.declared.event.Event.TheVariants.{Reached}
use Rattle.cd_tree.specs.Scripts.{kinds_of, words_struck}
use Rattle.cd_field.specs.FaultOrder.{IsCalm}
use Rattle.cd_field.specs.FieldModel.{FieldModel, reached_point}
use Rattle.cd_field.specs.FlatMachine.{flat_machine}
use Rattle.cd_field.proofs.script_field.ScriptFieldField.reached.Goals as goal

-- a point at which no fault strikes is told, and nothing else happens
calm_point : (m : FieldModel) (point : ℕ) → IsCalm m.script m.node m.begin
    → record m { events = m.events ++ Reached m.node point ∷ [] } ≡ reached_point m point
calm_point m point calm =
    let told : List Event = m.events ++ Reached m.node point ∷ [] in
    let after : List Fault → FieldModel =
    λ hits. record m { words = words_struck hits m.words; events = told; notes = bit_or m.notes (kinds_of hits) } in
    ap (λ (n : ℕ). record m { events = told; notes = n }) (sym (or_zero_r m.notes)) ∙ ap after (sym (calm.none point))

pub returns-else-self : goal.returns-else-self
returns-else-self c =
    let m : FieldModel = flat_machine c.args.self.now in
    ap (λ (events : List Event). record m { events = events }) c.in_ok-push.ensures
    ∙ calm_point m c.args.point (c.args.self.now.calm c.if-self.false)
