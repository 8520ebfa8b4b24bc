use Rattle.std.proofs.Common.{ℕ, ◌∷◌, ap, ◌∙◌}
use Rattle.cd_cells.specs.Listing.{nodes}
use Rattle.cd_cells.specs.Places.Sort.{rights, names}
use Rattle.cd_cells.proofs.HandLemmas.{first_there}
use Rattle.cd_cells.proofs.hands.send_next.Goals as goal

pub send-requires-clause-right : goal.send-requires-clause-right
send-requires-clause-right g c =
    let m = c.requires.may.3 in
    first_there rights c.args.node.0 c.args.seat.now.me.0 (nodes c.requires.may.2) (m.has.rights ∙ ap (λ (n : ℕ). n ∷ nodes c.requires.may.2) m.named)

pub send-requires-clause-named : goal.send-requires-clause-named
send-requires-clause-named g c =
    let m = c.requires.may.3 in
    first_there names c.args.node.0 c.args.seat.now.me.0 (nodes c.requires.may.2)
    (ap nodes m.has.named ∙ ap (λ (n : ℕ). n ∷ nodes c.requires.may.2) m.named)
