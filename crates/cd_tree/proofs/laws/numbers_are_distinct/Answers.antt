use Rattle.cd_tree.proofs.OtherCounts as other
use Rattle.cd_tree.proofs.laws.numbers_are_distinct.Goals as goal

pub returns : goal.returns
returns c = other.numbers_are_distinct
