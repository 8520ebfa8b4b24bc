-- The numbers by which the program ends.
use Rattle.std.specs.Prelude.{ℕ}
use Rattle.cd_app.specs.declared.status.Status.{Status}
use Rattle.cd_app.specs.declared.status.Status.TheVariants.{Done, Exhausted, Usage, Refused, ReadFault, WriteFault, NoMemory}

abbrev pub code_of : Status → ℕ
code_of Done = 0
code_of (Exhausted cause) = 1
code_of Usage = 2
code_of (Refused refusal) = 3
code_of ReadFault = 4
code_of WriteFault = 5
code_of NoMemory = 6
