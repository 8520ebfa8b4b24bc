use Rattle.std.proofs.Common.{rules}
use Rattle.cd_base.proofs.EndLemmas.{Grew-next}
use Rattle.cd_base.proofs.transfer.write_all.Goals as goal

pub loop-written-preserved : goal.loop-written-preserved
loop-written-preserved g c = record {
  front = Grew-next (g.K.Sink.model c.args.sink.now) (g.K.Sink.model c.loop-written.sink) (g.K.Sink.model c.write.new.self) c.args.bytes.now
      c.loop-written.written c.in_ok-written.field-0 c.loop-written.invariant.front c.in_ok-written.ensures.bytes c.write.ensures.count;
  within = search rules;
}
