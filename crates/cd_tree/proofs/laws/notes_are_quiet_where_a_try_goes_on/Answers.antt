use Rattle.cd_tree.proofs.FrontsWait.{waiting_is_quiet}
use Rattle.cd_tree.proofs.FrontCounts.{passed_points_are_quiet, no_group_leak_halts}
use Rattle.cd_tree.proofs.laws.notes_are_quiet_where_a_try_goes_on.Goals as goal

pub returns : goal.returns
returns c = record { waiting = waiting_is_quiet; passing = passed_points_are_quiet; groups = no_group_leak_halts }
