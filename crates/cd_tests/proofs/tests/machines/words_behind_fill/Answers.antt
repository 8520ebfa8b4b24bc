use Rattle.cd_tests.proofs.LookLemmas.{fill_has_four_words}
use Rattle.cd_tests.proofs.tests.machines.words_behind_fill.Goals as goal

pub words_behind-requires-after_bounds : goal.words_behind-requires-after_bounds
words_behind-requires-after_bounds g c κs within = fill_has_four_words
