use Rattle.cd_tree.proofs.RepeatsReading.{repeats-le-strikes, strikes-le-entries, repeats-le-entries}
use Rattle.cd_tree.proofs.laws.repeats_are_at_most_strikes.Goals as goal

pub returns-clause-repeats : goal.returns-clause-repeats
returns-clause-repeats c = repeats-le-strikes

pub returns-clause-strikes : goal.returns-clause-strikes
returns-clause-strikes c = strikes-le-entries

pub returns-clause-program : goal.returns-clause-program
returns-clause-program c = repeats-le-entries
