use Rattle.std.proofs.Common.{◌+◌, ◌*◌}
use Rattle.cd_reading.proofs.through.+path.Given as goal

-- a parent's number is less
abbrev pub decreases-path_of : goal.decreases-path_of
decreases-path_of l = 2 * l.node.0 + 1

abbrev pub decreases-path_above : goal.decreases-path_above
decreases-path_above l = 2 * l.node.0
