use Rattle.cd_foot.proofs.ClearLemmas.{clear_apart}
use Rattle.cd_foot.proofs.clear.are_clear.Goals as goal

pub returns-then-is_clear : goal.returns-then-is_clear
returns-then-is_clear c back domains are =
    clear_apart domains c.args.feet.now c.args.members.now are c.requires (c.is_clear.ensures c.if-is_clear.true)
    (c.is_clear-then-is_clear.ensures back)
