use Rattle.cd_cells.proofs.passing.ticket.Given as goal

abbrev pub ghosts-ticket_as : goal.ghosts-ticket_as
ghosts-ticket_as g a = record { node = a.node.0 }
