use Rattle.std.proofs.Common.{◌≢◌, ◌<◌}
use Rattle.cd_tree.specs.declared.domain.NodeId.{NodeId}
use Rattle.cd_tree.specs.Paths.{path_text_of}
use Rattle.cd_tree.proofs.path.find.Given as goal

-- no domain so far has this path
abbrev pub invariant-loop-k : goal.invariant-loop-k
invariant-loop-k l = (other : NodeId) → other.0 < l.k → path_text_of l.tree.domains other ≢ l.path
