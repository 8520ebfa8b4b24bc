use Rattle.std.proofs.Common.{◌≡◌, ◌++◌, drop}
use Rattle.clap.specs.Walk.{texts}
use Rattle.cd_command.specs.Parses.{AreTexts}
use Rattle.cd_command.proofs.line.texts_of.Given as goal

abbrev pub invariant-loop-word : goal.invariant-loop-word
invariant-loop-word l = record {
  same : texts l.texts.items ++ drop l.word-index l.fn.words ≡ l.fn.words;
  are_texts : AreTexts (drop l.word-index l.fn.words) → AreTexts l.fn.words;
}
