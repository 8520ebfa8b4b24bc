use Rattle.cd_keep.specs.Kept.{known_of}
use Rattle.cd_keep.proofs.HoldLemmas.{known-kept}
use Rattle.cd_keep.proofs.KnownLemmas.{short-more}
use Rattle.cd_keep.proofs.arc_pass.ArcPass.keep_at_once.Goals as goal

pub invariant_of-self-2-clause-short : goal.invariant_of-self-2-clause-short
invariant_of-self-2-clause-short c =
    short-more (known_of c.args.self.now.kept) (known_of c.keep.new.self) c.in_ok-id.id c.args.words.now c.in_ok-id.ensures.known
    c.requires.piece.few c.args.self.now.short

pub invariant_of-self-2-clause-known : goal.invariant_of-self-2-clause-known
invariant_of-self-2-clause-known c =
    known-kept (known_of c.args.self.now.kept) (known_of c.keep.new.self) c.args.self.now.holds.ids c.more-self.result.ids c.in_ok-id.id
    c.args.words.now c.in_ok-id.ensures.known c.more-self.ensures.ids c.args.self.now.known
