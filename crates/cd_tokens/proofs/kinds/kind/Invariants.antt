use Rattle.std.proofs.Common.{◌≡◌, drop}
use Rattle.cd_tokens.specs.Kinds.{kind_from}
use Rattle.cd_tokens.proofs.kinds.kind.Given as goal

abbrev pub invariant-loop-number : goal.invariant-loop-number
invariant-loop-number l = kind_from l.number (drop l.number l.kinds) l.name ≡ kind_from 0 l.kinds l.name
