use Rattle.std.proofs.Common.{◌+◌, ◌∙◌, ℕ, bit_or, drop, ap}
use Rattle.cd_tree.specs.KindSets.{halting_from}
use Rattle.cd_tree.proofs.KindLemmas.{halting_more, halting_same, halting_all}
use Rattle.cd_tree.proofs.kinds.halting.Goals as goal
use Rattle.cd_tree.proofs.kinds.halting.Goals.{then-name, else-name}

pub loop-at-preserved : goal.loop-at-preserved
loop-at-preserved c =
    let names = c.args.names.now in
    let i = c.loop-at.at in
    elim c.if-name.branch [
      | then-name w ↦
          ap (λ (n : ℕ). bit_or n (halting_from (i + 1) (drop (i + 1) names))) (w.kinds-is ∙ w.with_number-kinds.ensures)
          ∙ halting_more c.loop-at.kinds names i c.index-names-at.result c.loop-at-test.true c.index-names-at.is w.if-name.true c.loop-at.invariant
      | else-name w ↦
          ap (λ (n : ℕ). bit_or n (halting_from (i + 1) (drop (i + 1) names))) w.kinds-is
          ∙ halting_same c.loop-at.kinds names i c.index-names-at.result c.loop-at-test.true c.index-names-at.is w.if-name.false c.loop-at.invariant
    ]

pub returns : goal.returns
returns c = halting_all c.loop-at.kinds c.args.names.now c.loop-at.at c.loop-at-test.false c.loop-at.invariant
