use Rattle.std.proofs.Common.{arith, sym, ◌∙◌}
use Rattle.cd_field.proofs.FaultLemmas.{calm_from}
use Rattle.cd_field.proofs.faults.has_begin.Goals as goal

pub returns-then-first-order : goal.returns-then-first-order
returns-then-first-order c e =
    calm_from c.args.order.now c.args.node c.args.begin c.count_before-first.result c.requires c.count_before-first.ensures.split
    (λ there. sym c.is_of.ensures ∙ e)

pub returns-else-first-order : goal.returns-else-first-order
returns-else-first-order c e =
    calm_from c.args.order.now c.args.node c.args.begin c.count_before-first.result c.requires c.count_before-first.ensures.split
    (λ there. absurd (omega (arith, c.if-first-order.false, there)))
