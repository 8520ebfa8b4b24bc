-- The command line as the parser of words is told of it.
use Rattle.std.specs.Prelude.{true, codes, Option, Some, None}
use Rattle.clap.specs.Walk.{Rule}
use Rattle.clap.specs.Simple.{App, new_app, new_rule, on_top, with_rule}
use Rattle.clap.specs.declared.builder.action.ArgAction.{ArgAction}
use Rattle.clap.specs.declared.builder.action.ArgAction.TheVariants.{Set, SetTrue}
use Rattle.cd_command.specs.declared.value.Values.{Values}
use Rattle.cd_command.specs.CommandLine.{Bytes, Choice, for_workers, for_size, for_record, row_of}

-- an option takes a value, or it is a flag
abbrev pub way_of : Option Values → ArgAction
way_of (Some values) = Set
way_of None = SetTrue

abbrev pub rule_with : Bytes → Option Values → Rule
rule_with name values = record (new_rule name) { long = Some name; action = Some (way_of values) }

abbrev pub rule_for : Choice → Rule
rule_for choice = rule_with (row_of choice).name (row_of choice).values

abbrev pub workers_rule : Rule
workers_rule = rule_for for_workers

abbrev pub size_rule : Rule
size_rule = rule_for for_size

abbrev pub record_rule : Rule
record_rule = rule_for for_record

abbrev pub action_rule : Rule
action_rule = record (new_rule (codes "action")) { required = true; action = Some Set }

-- no word is the program's name, and there is no flag for help
abbrev pub bare : App
bare = on_top (λ s. record s { no_binary_name = true; disable_help_flag = true }) (new_app (codes "cd"))

-- two options, a flag, and one positional word that has to be there
abbrev pub line : App
line = with_rule (with_rule (with_rule (with_rule bare workers_rule) size_rule) record_rule) action_rule
