use Rattle.std.proofs.Common.{◌≡◌, ◌++◌, drop}
use Rattle.std.specs.List.{flat_map}
use Rattle.cd_make.specs.Making.{template, filled, make_text}
use Rattle.cd_make.proofs.make.whole_text.Given as goal

abbrev pub invariant-loop-letter : goal.invariant-loop-letter
invariant-loop-letter l = l.text.items ++ flat_map (filled l.size) (drop l.letter-index template) ≡ make_text l.size
