use Rattle.cd_lease.proofs.passing.share.Given as goal

abbrev pub ghosts-share_as : goal.ghosts-share_as
ghosts-share_as a = record { block = a.id.block; serial = a.id.serial }
