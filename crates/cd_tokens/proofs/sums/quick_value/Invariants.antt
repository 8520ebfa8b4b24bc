use Rattle.std.proofs.Common.{◌≡◌, drop}
use Rattle.cd_tokens.specs.Sums.{value_of}
use Rattle.cd_tokens.proofs.sums.quick_value.Given as goal

abbrev pub invariant-loop-variable : goal.invariant-loop-variable
invariant-loop-variable l = value_of (drop l.variable-index l.variables) l.name ≡ value_of l.variables l.name
