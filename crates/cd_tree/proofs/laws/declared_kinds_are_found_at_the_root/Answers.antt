use Rattle.cd_tree.proofs.Detected.{found_at_roots, found_in_programs}
use Rattle.cd_tree.proofs.laws.declared_kinds_are_found_at_the_root.Goals as goal

pub returns : goal.returns
returns c = record { roots = found_at_roots; programs = found_in_programs }
