use Rattle.std.proofs.Common.{◌≡◌, length}
use Rattle.std.specs.Prelude.{Ok}
use Rattle.std.specs.List.{slice_split}
use Rattle.cd_tree.specs.KindSets.{no_kinds}
use Rattle.cd_tokens.specs.Kinds.{is_comma, kinds_on}
use Rattle.cd_tokens.proofs.kinds.kind_set.Given as goal

abbrev pub invariant-loop-name : goal.invariant-loop-name
invariant-loop-name l = kinds_on l.kinds l.set (slice_split is_comma l.rest) ≡ kinds_on l.kinds (Ok no_kinds) (slice_split is_comma l.fn.token)

abbrev pub decreases-loop-name : goal.decreases-loop-name
decreases-loop-name l = length l.rest
