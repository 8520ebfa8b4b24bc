use Rattle.std.proofs.Common.{◌∙◌, sym, None}
use Rattle.cd_cover.proofs.OuterSteps.{leading_hit, leading_miss, leading_none}
use Rattle.cd_cover.proofs.outer.first_leading.Goals as goal

pub loop-at-preserved : goal.loop-at-preserved
loop-at-preserved c id =
    c.loop-at.invariant id
    ∙ leading_miss c.args.first id c.args.links.now c.loop-at.at None c.loop-at-test.true (sym c.leads_out.ensures ∙ c.if-leads_out.false)

pub returns-then-leads_out-clause-value : goal.returns-then-leads_out-clause-value
returns-then-leads_out-clause-value c id =
    c.loop-at.invariant id
    ∙ leading_hit c.args.first id c.args.links.now c.loop-at.at None c.loop-at-test.true (sym c.leads_out.ensures ∙ c.if-leads_out.true)

pub returns-clause-value : goal.returns-clause-value
returns-clause-value c id =
    c.loop-at.invariant id ∙ leading_none c.args.first id c.args.links.now c.loop-at.at c.loop-at-test.false
