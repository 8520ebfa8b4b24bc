use Rattle.cd_tree.proofs.Filled as filled
use Rattle.cd_tree.proofs.laws.children_fill_slices.Goals as goal

pub returns : goal.returns
returns c = record { fill = filled.children_fill_slices; within = filled.slice_ends }
