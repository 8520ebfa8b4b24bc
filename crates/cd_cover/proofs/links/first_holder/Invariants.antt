use Rattle.std.proofs.Common.{◌≡◌, drop}
use Rattle.cd_cover.specs.Links.{holder}
use Rattle.cd_cover.proofs.links.first_holder.Given as goal

abbrev pub invariant-loop-at : goal.invariant-loop-at
invariant-loop-at l = holder l.range l.at (drop l.at l.entries) ≡ holder l.range 0 l.entries
