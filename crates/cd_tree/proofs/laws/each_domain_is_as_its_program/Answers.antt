use Rattle.cd_tree.proofs.ShapesHold.{shapes_fit_in_programs, covered_in_programs, disjoint_in_programs}
use Rattle.cd_tree.proofs.laws.each_domain_is_as_its_program.Goals as goal

pub returns : goal.returns
returns c = record { shapes = shapes_fit_in_programs; covered = covered_in_programs; disjoint = disjoint_in_programs }
