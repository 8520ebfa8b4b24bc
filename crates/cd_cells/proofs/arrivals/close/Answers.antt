use Rattle.std.proofs.Common.{Some}
use Rattle.cd_cells.proofs.Handing.{taken_in_hand}
use Rattle.cd_cells.proofs.arrivals.close.Goals as goal

pub exchange-requires : goal.exchange-requires
exchange-requires g c =
    let won = c.close_word.ensures.won c.if-close_word-eq0.true in (
      c.close_word.ensures.at.same,
      (Some won.0, taken_in_hand c.close_word.new.seat.me 0 (Some won.0) won.1.now),
    )
