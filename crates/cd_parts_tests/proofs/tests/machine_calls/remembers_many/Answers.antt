use Rattle.std.proofs.Common.{◌≡◌, false, subst, sym}
use Rattle.cd_tree.specs.declared.event.Event.{Event}
use Rattle.cd_field.specs.FieldModel.{FieldModel, CanAbsorb, told}
use Rattle.cd_parts_tests.proofs.tests.machine_calls.remembers_many.Goals as goal

still_absorbs : (m part later after : FieldModel) (e f : Event) → later ≡ told m e → after ≡ told part f → CanAbsorb m part false
    → CanAbsorb later after false
still_absorbs m part later after e f is was can =
    let P : FieldModel → Type 0 = λ v. CanAbsorb v after false in
    let Q : FieldModel → Type 0 = λ v. CanAbsorb (told m e) v false in
    subst P (sym is) (subst Q (sym was) (record { script = can.script; away = can.away; present = λ no. absurd (cc) }))

pub loop-entry-preserved : goal.loop-entry-preserved
loop-entry-preserved g c =
    still_absorbs (g.F.Field.model c.loop-entry.field) (g.F.Field.model c.loop-entry.part) (g.F.Field.model c.refilled.new.self)
    (g.F.Field.model c.refilled-in-loop-entry.new.self) _ _ c.in_ok-refilled.ensures c.in_ok-refilled-2.ensures c.loop-entry.invariant
