use Rattle.cd_tree.proofs.FirstFacts.{first_are_part, behind_are_part}
use Rattle.cd_tree.proofs.laws.items_are_part_of_their_body.Goals as goal

pub returns : goal.returns
returns c = record { first = first_are_part; behind = behind_are_part }
