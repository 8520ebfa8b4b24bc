use Rattle.std.proofs.Common.{ℕ, [], ◌∷◌, ap, ◌∙◌}
use Rattle.cd_cells.specs.Listing.{nodes}
use Rattle.cd_cells.specs.Places.Sort.{holds}
use Rattle.cd_cells.proofs.HandLemmas.{first_there, rests_so}
use Rattle.cd_cells.proofs.hands.put_to_rest.Goals as goal

pub rest_at-requires-clause-held : goal.rest_at-requires-clause-held
rest_at-requires-clause-held g c =
    let w = c.requires.waits.2 in
    first_there holds c.args.node.0 c.args.seat.now.me.0 [] (ap nodes w.has.holds ∙ ap (λ (n : ℕ). n ∷ []) w.named)

pub returns-clause-has : goal.returns-clause-has
returns-clause-has g c = λ ask may w.
    rests_so (g.T.Shape.kind c.args.table.now.key) c.args.table.now.key c.args.table.now.table_id c.args.seat.now.table_id c.rest_at.new.seat.table_id
    c.args.seat.now.me c.rest_at.new.seat.me c.args.ticket.now c.take.new.self ask may c.args.node.0 c.args.state c.requires.lawful w
    c.rest_at.ensures.at c.rest_at.ensures.me
