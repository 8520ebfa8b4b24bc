use Rattle.std.proofs.Common.{drop}
use Rattle.cd_cover.specs.Links.{frames_of}
use Rattle.cd_cover.proofs.FirstLemmas.{EntriesLeft}
use Rattle.cd_cover.proofs.flaws.entries_flaw.Given as goal

abbrev pub invariant-loop-at : goal.invariant-loop-at
invariant-loop-at l = EntriesLeft l.node (frames_of l.program.tree.now.domains l.node) l.at (drop l.at l.entries) l.entries
