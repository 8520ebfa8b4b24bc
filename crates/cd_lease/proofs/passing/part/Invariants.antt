use Rattle.cd_lease.proofs.passing.part.Given as goal

abbrev pub ghosts-part_as : goal.ghosts-part_as
ghosts-part_as a = record { room = a.room }
