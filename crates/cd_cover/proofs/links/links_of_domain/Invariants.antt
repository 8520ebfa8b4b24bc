use Rattle.std.proofs.Common.{◌≡◌, map, take}
use Rattle.cd_cover.specs.Links.{frames_of, entry_link}
use Rattle.cd_cover.proofs.links.links_of_domain.Given as goal

abbrev pub invariant-loop-entry : goal.invariant-loop-entry
invariant-loop-entry l =
    l.links ≡ map (entry_link (frames_of l.tree.domains l.node)) (take l.entry-index l.entry-items)
