use Rattle.cd_keep.specs.Kept.{known_of}
use Rattle.cd_keep.proofs.KnownLemmas.{short-none}
use Rattle.cd_keep.proofs.arc_pass.ArcPass.open.Goals as goal

pub invariant_of-result-clause-short : goal.invariant_of-result-clause-short
invariant_of-result-clause-short c = short-none (known_of c.none.result) c.none.ensures
