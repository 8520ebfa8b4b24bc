use Rattle.std.proofs.Common.{◌≡◌, ◌<◌, ◌^◌, drop}
use Rattle.std.specs.List.{list_all}
use Rattle.cd_command.specs.CommandLine.{number_behind, is_digit}
use Rattle.cd_command.proofs.value.number_of.Given as goal

abbrev pub invariant-loop-digit : goal.invariant-loop-digit
invariant-loop-digit l = record {
  small : l.number < 10 ^ l.digit-index;
  left : number_behind l.number (drop l.digit-index l.digits) ≡ number_behind 0 l.digits;
  digits : list_all is_digit (drop l.digit-index l.digits) ≡ list_all is_digit l.digits;
}
