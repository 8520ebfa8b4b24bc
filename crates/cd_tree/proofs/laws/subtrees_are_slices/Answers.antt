use Rattle.cd_tree.proofs.Slices as slices
use Rattle.cd_tree.proofs.laws.subtrees_are_slices.Goals as goal

pub returns : goal.returns
returns c =
    record { slices = slices.subtrees_are_slices; numbers = slices.slices_have_their_numbers; members = slices.members_are_slices }
