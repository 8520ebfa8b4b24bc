use Rattle.std.proofs.Common.{take}
use Rattle.cd_tries.proofs.Holding.{nth_known, nth_room, gone_held, gone_undone, one_more_shared}
use Rattle.cd_tries.proofs.sharing.share_all.Goals as goal

pub share-requires-clause-known : goal.share-requires-clause-known
share-requires-clause-known g c =
    nth_known (g.P.Pass.model c.args.pass.now) (g.P.Pass.model c.loop-number.pass) c.args.ids.now c.loop-number.number
    c.loop-number-test.true c.requires.known c.loop-number.invariant

pub share-requires-clause-room : goal.share-requires-clause-room
share-requires-clause-room g c =
    nth_room (g.P.Pass.model c.args.pass.now) (g.P.Pass.model c.loop-number.pass) c.args.ids.now c.loop-number.number
    c.loop-number-test.true c.requires.room c.loop-number.invariant

pub give_up_first-requires-clause-holds : goal.give_up_first-requires-clause-holds
give_up_first-requires-clause-holds g c = λ _ _.
    gone_held (g.P.Pass.model c.args.pass.now) (g.P.Pass.model c.loop-number.pass) (g.P.Pass.model c.share.new.self)
    (take c.loop-number.number c.args.ids.now) _ c.in-Err.note c.loop-number.invariant c.in-Err.ensures

pub returns-in-Err : goal.returns-in-Err
returns-in-Err g c =
    gone_undone (g.P.Pass.model c.args.pass.now) (g.P.Pass.model c.loop-number.pass) (g.P.Pass.model c.share.new.self)
    (g.P.Pass.model c.give_up_first.new.pass) c.args.ids.now c.loop-number.number c.in-Err.note
    c.loop-number-test.true c.requires.room c.loop-number.invariant c.in-Err.ensures c.give_up_first.ensures

pub loop-number-preserved : goal.loop-number-preserved
loop-number-preserved g c =
    one_more_shared (g.P.Pass.model c.args.pass.now) (g.P.Pass.model c.loop-number.pass) (g.P.Pass.model c.share.new.self)
    c.args.ids.now c.loop-number.number c.loop-number-test.true c.loop-number.invariant c.in_default.ensures
