use Rattle.cd_tree.proofs.Leaks as leaks
use Rattle.cd_tree.proofs.laws.no_leak_halts.Goals as goal

pub returns : goal.returns
returns c = leaks.no_leak_halts
