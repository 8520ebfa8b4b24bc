use Rattle.std.proofs.Common.{◌≡◌, true, IsSome}
use Rattle.cd_base.specs.declared.place.Place.{Place}
use Rattle.cd_base.specs.Words.{in_range}
use Rattle.cd_tries.specs.Keeping.{piece_words}
use Rattle.cd_tries.specs.Refilling.{put_words}
use Rattle.cd_tries.proofs.Putting.{rest_of}
use Rattle.cd_tries.proofs.refilling.refill_pieces.Given as goal

abbrev pub invariant-loop-k : goal.invariant-loop-k
invariant-loop-k g l = record {
  words : (p : Place) → in_range l.range p ≡ true → IsSome ((g.F.Field.model l.field).words p);
  same : g.P.Pass.model l.pass ≡ g.P.Pass.model l.fn.pass;
  left : put_words (piece_words (g.P.Pass.model l.fn.pass).known l.pieces) (rest_of l.pieces l.range l.k) (g.F.Field.model l.field)
      ≡ put_words (piece_words (g.P.Pass.model l.fn.pass).known l.pieces) l.range (g.F.Field.model l.fn.field);
}
