use Rattle.std.proofs.Common.{◌-◌, length}
use Rattle.cd_tree.proofs.tree.Tree.+end_of.Given as goal

-- the domains behind get fewer
abbrev pub decreases-end_of : goal.decreases-end_of
decreases-end_of l = length l.self.now.domains - l.id.0
