use Rattle.cd_tree.proofs.BeginsSaid as said
use Rattle.cd_tree.proofs.BeginsNumbers.{begins_number_on}
use Rattle.cd_tree.proofs.laws.begins_follow_failures.Goals as goal

pub returns : goal.returns
returns c = record { failures = said.begins_follow_failures; numbers = begins_number_on }
