use Rattle.cd_tree.proofs.FrontsWait.{first_point_is_there, next_point_is_there, next_try_is_there}
use Rattle.cd_tree.proofs.laws.a_front_is_where_the_reading_comes.Goals as goal

pub returns : goal.returns
returns c = record { first = first_point_is_there; points = next_point_is_there; tries = next_try_is_there }
