use Rattle.cd_tree.proofs.Reach.{node_keeps_words}
use Rattle.cd_tree.proofs.laws.words_stay.Goals as goal

pub returns : goal.returns
returns c = node_keeps_words
