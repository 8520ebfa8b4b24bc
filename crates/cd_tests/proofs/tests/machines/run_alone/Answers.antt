use Rattle.cd_tests.proofs.LookLemmas.{one_word_runs}
use Rattle.cd_tests.proofs.tests.machines.run_alone.Goals as goal

pub returns : goal.returns
returns c =
    one_word_runs c.new-words.result c.push.new.self c.in_ok-of.field-0 c.new-words.ensures c.in_ok-of.ensures c.in_ok-push.ensures.ok
