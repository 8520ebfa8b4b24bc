use Rattle.std.proofs.Common.{sym, ◌∙◌, arith}
use Rattle.cd_base.proofs.LeastLemmas.{Left-alone_first, IsLeast-alone_last, IsLeast-alone_start, IsLeast-alone_end}
use Rattle.cd_base.proofs.least.first_lacking.Goals as goal

pub returns-in_default : goal.returns-in_default
returns-in_default c =
    IsLeast-alone_last c.place_in.result c.in_default.ensures c.in_ok-other.ensures c.loop-other.invariant c.place_in.ensures.region c.place_in.ensures.index

pub loop-other-preserved-then-ends_before : goal.loop-other-preserved-then-ends_before
loop-other-preserved-then-ends_before c =
    Left-alone_first c.in-Some.ensures c.in_ok-other.ensures c.loop-other.invariant (sym c.ends_before.ensures ∙ c.if-ends_before.true)

pub returns-then-begins_before : goal.returns-then-begins_before
returns-then-begins_before c =
    IsLeast-alone_start c.place_in-then-begins_before.result c.in-Some.ensures c.in_ok-other.ensures c.loop-other.invariant
    (sym c.begins_before.ensures ∙ c.if-begins_before.true) c.place_in-then-begins_before.ensures.region c.place_in-then-begins_before.ensures.index

pub returns-else-other-one : goal.returns-else-other-one
returns-else-other-one c =
    IsLeast-alone_end c.place_in-else-other-one.result c.in-Some.ensures c.in_ok-other.ensures c.loop-other.invariant (sym c.ends_before.ensures ∙ c.if-ends_before.false)
    (sym c.begins_before.ensures ∙ c.if-begins_before.false) (omega arith) c.place_in-else-other-one.ensures.region c.place_in-else-other-one.ensures.index
