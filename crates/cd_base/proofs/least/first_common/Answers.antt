use Rattle.std.proofs.Common.{sym, ◌∙◌}
use Rattle.cd_base.proofs.LeastLemmas.{Left-common_first, Left-common_second, IsLeast-common}
use Rattle.cd_base.proofs.least.first_common.Goals as goal

pub loop-one-preserved-then-ends_before : goal.loop-one-preserved-then-ends_before
loop-one-preserved-then-ends_before c =
    Left-common_first c.in_ok-one.ensures c.in_ok-other.ensures c.loop-one.invariant (sym c.ends_before.ensures ∙ c.if-ends_before.true)

pub loop-one-preserved : goal.loop-one-preserved
loop-one-preserved c =
    Left-common_second c.in_ok-one.ensures c.in_ok-other.ensures c.loop-one.invariant
    (sym c.ends_before-else-ends_before.ensures ∙ c.if-ends_before-2.true)

pub returns-else-ends_before-2 : goal.returns-else-ends_before-2
returns-else-ends_before-2 c =
    IsLeast-common c.place_in.result c.in_ok-one.ensures c.in_ok-other.ensures c.loop-one.invariant
    (sym c.ends_before.ensures ∙ c.if-ends_before.false) (sym c.ends_before-else-ends_before.ensures ∙ c.if-ends_before-2.false)
    c.place_in.ensures.region (c.place_in.ensures.index ∙ c.max.ensures)
