use Rattle.cd_keep.specs.Kept.{known_of}
use Rattle.cd_keep.proofs.HoldLemmas.{known-less}
use Rattle.cd_keep.proofs.arc_pass.ArcPassPass.give_up.Goals as goal

pub invariant_of-self-clause-known : goal.invariant_of-self-clause-known
invariant_of-self-clause-known c =
    known-less (known_of c.args.self.now.kept) c.args.self.now.holds.ids c.fewer-self.result.ids c.args.id c.fewer-self.ensures.ids
    c.args.self.now.known
