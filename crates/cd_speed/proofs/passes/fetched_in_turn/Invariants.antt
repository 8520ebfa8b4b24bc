use Rattle.std.proofs.Common.{◌<◌, ◌≡◌}
use Rattle.std.specs.Prelude.{length}
use Rattle.cd_keep.specs.PassModel.{words_of}
use Rattle.cd_speed.proofs.passes.fetched_in_turn.Given as goal

abbrev pub invariant-loop-turn : goal.invariant-loop-turn
invariant-loop-turn g l = 0 < (g.P.Pass.model l.pass).holds l.id × length (words_of (g.P.Pass.model l.pass) l.id) ≡ 64 × length l.words ≡ 64
