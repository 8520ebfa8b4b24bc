use Rattle.std.proofs.Common.{ℕ, subst}
use Rattle.cd_foot.specs.Clear.{Widens, member_at}
use Rattle.cd_foot.proofs.ClearLemmas.{clear_more, clear_all}
use Rattle.cd_foot.proofs.clear.is_clear.Goals as goal

pub loop-k-preserved : goal.loop-k-preserved
loop-k-preserved c =
    clear_more c.args.feet.now c.args.members.now c.args.order c.loop-k.k c.loop-k.hulls c.in-Some.all
    (subst (λ (i : ℕ). Widens c.args.feet.now c.loop-k.hulls (member_at c.args.members.now i) c.in-Some.all) c.at.ensures c.in-Some.ensures)
    c.loop-k.invariant

pub returns : goal.returns
returns c clear = clear_all c.args.feet.now c.args.members.now c.args.order c.loop-k.k c.loop-k.hulls c.loop-k-test.false c.loop-k.invariant
