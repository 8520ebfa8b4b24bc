use Rattle.std.proofs.Common.{All, [], sym, subst}
use Rattle.std.proofs.lemmas.List.Elements.{All-push}
use Rattle.cd_state_tests.specs.declared.tests.claims.Sample.{Sample}
use Rattle.cd_state_tests.specs.Claims.{IsIdle}
use Rattle.cd_state_tests.proofs.ClaimLemmas.{idle_on, same_on}
use Rattle.cd_state_tests.proofs.tests.claims.parted.Goals as goal

pub loop-preserved : goal.loop-preserved
loop-preserved c =
    let here = c.loop.invariant.0 in
    let child = c.in_ok-pass.ensures.child in (
      idle_on c.args.cells.now c.loop.cells here c.split.new.self
          (record { same = c.split.ensures.same; has = (c.split.ensures.stays [] [] here.has).now }),
      subst (All (IsIdle {T = Sample} c.args.cells.now)) (sym c.in_ok-push.ensures.items)
          (All-push (IsIdle {T = Sample} c.args.cells.now) c.loop.passes.items c.in_ok-pass.pass c.loop.invariant.1
          (record { same = same_on c.args.cells.now c.loop.cells c.in_ok-pass.pass here.same child.same; has = child.has })),
    )
