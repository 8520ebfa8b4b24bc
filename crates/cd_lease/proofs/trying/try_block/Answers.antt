use Rattle.std.proofs.Common.{rules, ◌≡◌, ◌≢◌}
use Rattle.cd_lease.proofs.Searching.{shut_block, lost_block, won_block}
use Rattle.cd_lease.proofs.trying.try_block.Goals as goal

pub returns-then-not-is_open-clause-outcome : goal.returns-then-not-is_open-clause-outcome
returns-then-not-is_open-clause-outcome c =
    shut_block c.args.block c.look-word.result c.args.seat.now.me c.look-word.new.seat.me c.if-not-is_open.ensures c.look-word.ensures.me

pub returns-then-take_block-word-clause-outcome : goal.returns-then-take_block-word-clause-outcome
returns-then-take_block-word-clause-outcome c =
    let other : c.take_block.result ≢ c.look-word.result = search rules in
    lost_block c.args.block c.look-word.result c.take_block.result c.args.seat.now.me c.look-word.new.seat.me c.take_block.new.seat.me
    c.if-not-is_open.ensures other c.look-word.ensures.me (c.take_block.ensures.lost other)

pub returns-clause-outcome : goal.returns-clause-outcome
returns-clause-outcome c =
    let same : c.take_block.result ≡ c.look-word.result = search rules in
    rw c.serial_part.ensures (won_block c.args.block c.look-word.result c.args.seat.now.me c.look-word.new.seat.me c.take_block.new.seat.me
    c.if-not-is_open.ensures c.look-word.ensures.me (c.take_block.ensures.won same) (c.take_block.ensures.fresh same))
