use Rattle.std.proofs.Common.{refl, arith}
use Rattle.cd_tries.specs.Refilling.{gave_up_each}
use Rattle.cd_tries.proofs.Holding.{nth_held, next_left, none_left}
use Rattle.cd_tries.proofs.giving_up.give_up_ids.Goals as goal

pub loop-id-init : goal.loop-id-init
loop-id-init g c = record { left = refl; enough = c.requires }

pub give_up-requires : goal.give_up-requires
give_up-requires g c =
    nth_held (g.P.Pass.model c.loop-id.pass) c.args.ids.now c.loop-id.id-index c.loop-id-test.true c.loop-id.invariant.enough

pub loop-id-preserved : goal.loop-id-preserved
loop-id-preserved g c =
    next_left (g.P.Pass.model c.loop-id.pass) (g.P.Pass.model c.give_up.new.self) (gave_up_each (g.P.Pass.model c.args.pass.now) c.args.ids.now)
    c.args.ids.now c.loop-id.id-index c.loop-id-test.true c.give_up.ensures c.loop-id.invariant

pub returns : goal.returns
returns g c =
    none_left (g.P.Pass.model c.loop-id.pass) (gave_up_each (g.P.Pass.model c.args.pass.now) c.args.ids.now)
    c.args.ids.now c.loop-id.id-index (omega (arith, c.loop-id-test.false)) c.loop-id.invariant
