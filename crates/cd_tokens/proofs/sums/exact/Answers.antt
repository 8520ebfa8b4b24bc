use Rattle.cd_tokens.specs.Sums.{expression}
use Rattle.cd_tokens.proofs.CutLemmas.{sum_part, sum_last}
use Rattle.cd_tokens.proofs.sums.exact.Goals as goal

pub loop-part-preserved : goal.loop-part-preserved
loop-part-preserved c =
    rw (c.plus-sum.ensures, c.term.ensures) (sum_part c.args.variables.now c.loop-part.sum c.loop-part.sign c.in-Some.next
    c.loop-part.rest.now c.in-Some.part.now c.in-Some.more.now _ c.in-Some.ensures.parts c.loop-part.invariant)

pub returns : goal.returns
unfolding expression
returns c =
    rw (c.plus.ensures, c.term-2.ensures) (sum_last c.args.variables.now c.loop-part.sum c.loop-part.sign
    c.loop-part.rest.now _ c.in_default.ensures c.loop-part.invariant)
