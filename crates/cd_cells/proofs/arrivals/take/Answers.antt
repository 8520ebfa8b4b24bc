use Rattle.std.proofs.Common.{Some}
use Rattle.cd_cells.proofs.Handing.{taken_in_hand}
use Rattle.cd_cells.proofs.arrivals.take.Goals as goal

pub exchange-requires : goal.exchange-requires
exchange-requires g c =
    let won = c.take_word.ensures.taken in (
      c.take_word.ensures.at.same,
      (Some won.0, taken_in_hand c.take_word.new.seat.me c.args.node.0 (Some won.0) won.1.now),
    )
