use Rattle.std.proofs.Common.{◌≤◌, vec_capacity}
use Rattle.cd_field.proofs.LoadLemmas.{HasPattern}
use Rattle.cd_field.proofs.loads.first_words.Given as goal

abbrev pub invariant-loop-index : goal.invariant-loop-index
invariant-loop-index l = record {
  words : HasPattern l.pattern l.index l.words.items;
  room : l.count ≤ vec_capacity l.words;
}
