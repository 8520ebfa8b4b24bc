use Rattle.std.proofs.Common.{◌≡◌, take}
use Rattle.cd_keep.specs.PassModel.{words_of}
use Rattle.cd_keep.proofs.pass.Pass.fetch.Given as goal

abbrev pub invariant-loop-i : goal.invariant-loop-i
invariant-loop-i g l = record {
  same : g.Self.Pass.model l.self ≡ g.Self.Pass.model l.fn.self;
  front : take l.i l.words ≡ take l.i (words_of (g.Self.Pass.model l.fn.self) l.id);
}
