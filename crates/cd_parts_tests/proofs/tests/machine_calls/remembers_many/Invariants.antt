use Rattle.std.proofs.Common.{false}
use Rattle.cd_field.specs.FieldModel.{CanAbsorb}
use Rattle.cd_parts_tests.proofs.tests.machine_calls.remembers_many.Given as goal

abbrev pub invariant-loop-entry : goal.invariant-loop-entry
invariant-loop-entry g l = CanAbsorb (g.F.Field.model l.field) (g.F.Field.model l.part) false
