use Rattle.cd_tree.proofs.ShortReading.{events-le-weight}
use Rattle.cd_tree.proofs.Weights.{weights_are_small, records_grow_by_entries, records_are_short}
use Rattle.cd_tree.proofs.laws.records_are_short.Goals as goal

pub returns : goal.returns
returns c = record {
  reading = events-le-weight;
  weight = weights_are_small;
  program = records_grow_by_entries;
  accepted = records_are_short;
}
