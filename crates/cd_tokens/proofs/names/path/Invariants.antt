use Rattle.std.proofs.Common.{◌≡◌, [], length}
use Rattle.std.specs.Prelude.{Ok}
use Rattle.std.specs.List.{slice_split}
use Rattle.cd_tokens.specs.Names.{is_slash, path_on}
use Rattle.cd_tokens.proofs.names.path.Given as goal

abbrev pub invariant-loop-first : goal.invariant-loop-first
invariant-loop-first l = path_on l.variables l.path (slice_split is_slash l.rest) ≡ path_on l.variables (Ok []) (slice_split is_slash l.fn.token)

abbrev pub decreases-loop-first : goal.decreases-loop-first
decreases-loop-first l = length l.rest
