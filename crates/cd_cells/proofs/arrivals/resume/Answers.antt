use Rattle.std.proofs.Common.{Some}
use Rattle.cd_cells.proofs.Handing.{taken_in_hand}
use Rattle.cd_cells.proofs.arrivals.resume.Goals as goal

pub exchange-requires : goal.exchange-requires
exchange-requires g c =
    let won = c.resume_word.ensures.resumed in (
      c.resume_word.ensures.at.same,
      (Some won.0, taken_in_hand c.resume_word.new.seat.me c.args.parent.0 (Some won.0) won.1.now),
    )
