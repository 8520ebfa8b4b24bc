use Rattle.std.proofs.Common.{◌∙◌, ap, sym}
use Rattle.std.specs.Prelude.{option_map, option_and_then}
use Rattle.clap.specs.Walk.{texts}
use Rattle.cd_command.specs.CommandLine.{command_by}
use Rattle.cd_command.specs.Parses.{given_by, parsed_in}
use Rattle.cd_command.proofs.HyphenLemmas.{same_command}
use Rattle.cd_command.proofs.command.command_of.Goals as goal

pub returns-in-Some-clause-exact : goal.returns-in-Some-clause-exact
returns-in-Some-clause-exact c =
    let words = ap texts c.as_slice.ensures.value ∙ c.in_ok-texts.ensures.0 in
    let parsed = ap (option_map given_by) (sym c.in-Some.is) ∙ (c.in_ok-found.ensures ∙ ap parsed_in words) in
    c.command_by.ensures.exact ∙ (ap (option_and_then command_by) parsed ∙ same_command c.args.words.now)

pub returns-clause-exact : goal.returns-clause-exact
returns-clause-exact c =
    let words = ap texts c.as_slice.ensures.value ∙ c.in_ok-texts.ensures.0 in
    let parsed = ap (option_map given_by) (sym c.in-None.is) ∙ (c.in_ok-found.ensures ∙ ap parsed_in words) in
    ap (option_and_then command_by) parsed ∙ same_command c.args.words.now
