use Rattle.std.proofs.Common.{List, ℕ, Bor}
use Rattle.cd_tree.proofs.PathEnds.{no_name, before_slash}
use Rattle.cd_tree.proofs.path.before_name.Goals as goal

pub returns-in_err-above : goal.returns-in_err-above
returns-in_err-above c = rw c.from_residual.ensures (no_name c.args.path.now c.args.name.now c.in_err-above.ensures.cases)

pub returns : goal.returns
returns c =
    before_slash (λ (x : Bor (List ℕ)). x.now) c.args.path.now c.args.name.now c.in_ok-above.above.now c.strip_suffix-2.result
    c.in_ok-above.ensures.cases.0 c.in_ok-above.ensures.cases.1 c.strip_suffix-2.ensures.cases
