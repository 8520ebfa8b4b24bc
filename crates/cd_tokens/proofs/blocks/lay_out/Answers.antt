use Rattle.std.proofs.Common.{◌-◌, arith}
use Rattle.cd_tokens.specs.Blocks.{marked_lines}
use Rattle.cd_tokens.proofs.BlockLemmas.{line_stops, end_stops, lines_ended, laid, all_counted}
use Rattle.cd_tokens.proofs.blocks.lay_out.Goals as goal

pub returns-in-Err : goal.returns-in-Err
unfolding marked_lines
returns-in-Err c =
    rw c.at.ensures (line_stops c.loop-rest.number c.loop-rest.marking c.loop-rest.rest.now c.cut_line.result.0.now c.cut_line.result.1.now
    c.in-Err.stop _ c.cut_line.ensures.cut c.in-Err.ensures c.loop-rest.invariant.left)

pub returns-in-Ok : goal.returns-in-Ok
unfolding marked_lines
returns-in-Ok c =
    laid c.args.bytes.now c.in-Ok.lines (c.loop-rest.number - 1) c.laid_out.result c.laid_out.ensures
    (lines_ended c.loop-rest.number c.loop-rest.marking c.loop-rest.rest.now c.in-Ok.lines _ c.loop-rest-test.ensures c.in-Ok.ensures c.loop-rest.invariant.left)
    (all_counted c.loop-rest.number c.loop-rest.rest.now c.args.bytes.now c.loop-rest-test.ensures c.loop-rest.invariant.count)
    (omega (arith, c.loop-rest.invariant.few))

pub returns-in-Err-finish : goal.returns-in-Err-finish
unfolding marked_lines
returns-in-Err-finish c =
    rw c.at-in-Err-finish.ensures (end_stops c.loop-rest.number c.loop-rest.marking c.loop-rest.rest.now c.in-Err-finish.stop _
    c.loop-rest-test.ensures c.in-Err-finish.ensures c.loop-rest.invariant.left)
