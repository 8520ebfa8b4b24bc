use Rattle.std.proofs.Common.{◌≡◌, bit_or, drop}
use Rattle.cd_tree.specs.Scripts.{struck, kinds_of, words_struck}
use Rattle.cd_field.specs.Maps.{words_of}
use Rattle.cd_field.proofs.words.strike.Given as goal

abbrev pub invariant-loop-fault : goal.invariant-loop-fault
invariant-loop-fault l =
    (words_struck (struck (drop l.fault-index l.script) l.node l.begin l.point) (words_of l.words)
    ≡ words_struck (struck l.script l.node l.begin l.point) (words_of l.initial.words))
    × (bit_or l.kinds (kinds_of (struck (drop l.fault-index l.script) l.node l.begin l.point))
    ≡ kinds_of (struck l.script l.node l.begin l.point))
