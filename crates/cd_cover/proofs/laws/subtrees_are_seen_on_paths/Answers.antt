use Rattle.cd_cover.proofs.PathLemmas.{subtrees_by_paths}
use Rattle.cd_cover.proofs.RangesRead.{entries_are_read}
use Rattle.cd_cover.proofs.laws.subtrees_are_seen_on_paths.Goals as goal

pub returns : goal.returns
returns c = record { paths = subtrees_by_paths; entries = entries_are_read }
