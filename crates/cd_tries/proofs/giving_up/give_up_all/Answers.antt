use Rattle.std.proofs.Common.{refl, arith}
use Rattle.cd_tries.specs.Keeping.{all_ids}
use Rattle.cd_tries.specs.Refilling.{gave_up_each}
use Rattle.cd_tries.proofs.Holding.{keep_held, keeps_left, no_keeps_left}
use Rattle.cd_tries.proofs.giving_up.give_up_all.Goals as goal

pub loop-keep-init : goal.loop-keep-init
loop-keep-init g c = record { left = refl; enough = λ q. omega (arith, c.requires.each q) }

pub give_up_keep-requires-after_bounds : goal.give_up_keep-requires-after_bounds
give_up_keep-requires-after_bounds g c = λ _ _.
    keep_held (g.P.Pass.model c.loop-keep.pass) (gave_up_each (g.P.Pass.model c.args.pass.now) (all_ids c.args.keeps.now))
    c.args.keeps.now c.loop-keep.keep-index c.keep-item.result c.loop-keep-test.true c.keep-item.is c.loop-keep.invariant

pub loop-keep-preserved : goal.loop-keep-preserved
loop-keep-preserved g c =
    keeps_left (g.P.Pass.model c.loop-keep.pass) (g.P.Pass.model c.give_up_keep.new.pass) (gave_up_each (g.P.Pass.model c.args.pass.now) (all_ids c.args.keeps.now))
    c.args.keeps.now c.loop-keep.keep-index c.keep-item.result c.loop-keep-test.true c.keep-item.is c.give_up_keep.ensures c.loop-keep.invariant

pub returns : goal.returns
returns g c =
    no_keeps_left (g.P.Pass.model c.loop-keep.pass) (gave_up_each (g.P.Pass.model c.args.pass.now) (all_ids c.args.keeps.now))
    c.args.keeps.now c.loop-keep.keep-index (omega (arith, c.loop-keep-test.false)) c.loop-keep.invariant
