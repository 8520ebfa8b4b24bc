use Rattle.std.proofs.Common.{◌-◌, length, take, drop, get_or, ◌∙◌}
use Rattle.cd_tokens.proofs.QuickLemmas.{nothing_left, first_and_rest, read_none, read_more, end_given}
use Rattle.cd_tokens.proofs.sums.quick.Goals as goal

pub loop-factor-init : goal.loop-factor-init
loop-factor-init c = read_none c.args.variables.now c.args.token.now

pub returns-in-empty : goal.returns-in-empty
returns-in-empty c =
    end_given c.args.variables.now c.loop-factor.reading c.in_ok-factor.factor c.read_last.result c.args.token.now c.loop-factor.rest.now
    c.in_ok-factor.behind.now c.in_ok-factor.ensures (nothing_left c.in_ok-factor.behind.now c.in-empty.len_below) c.read_last.ensures
    c.loop-factor.invariant

pub loop-factor-preserved : goal.loop-factor-preserved
loop-factor-preserved c =
    read_more c.args.variables.now c.loop-factor.reading c.in_ok-reading-in-len1-up.reading c.in_ok-factor.factor
    (get_or c.in_ok-factor.behind.now 0 0) c.loop-factor.rest.now c.in_ok-factor.behind.now
    (take (length c.in_ok-factor.behind.now - 1) (drop 1 c.in_ok-factor.behind.now)) c.in_ok-factor.ensures
    (first_and_rest c.in_ok-factor.behind.now c.in-len1-up.len_at_least) c.in_ok-reading-in-len1-up.ensures
    ∙ c.loop-factor.invariant
