use Rattle.std.proofs.Common.{rules, ◌≡◌, ◌∷◌, All, subst}
use Rattle.std.specs.Vec.Iter.{into_iter_items}
use Rattle.std.proofs.lemmas.List.Elements.{All-tail}
use Rattle.cd_state_tests.specs.declared.tests.claims.Sample.{Sample}
use Rattle.cd_state_tests.specs.Claims.{HasTried}
use Rattle.cd_state_tests.proofs.ClaimLemmas.{idle_on}
use Rattle.cd_state_tests.proofs.tests.claims.winners.Goals as goal

pub loop-back-preserved : goal.loop-back-preserved
loop-back-preserved c =
    let items : into_iter_items c.loop-back.back-iterator ≡ c.in-Some.back ∷ into_iter_items c.next.new.self = search rules in (
      idle_on c.args.cells.now c.loop-back.cells c.loop-back.invariant.0 c.taken_back.new.cells c.in_ok-taken_back.ensures,
      All-tail (HasTried {T = Sample} c.args.cells.now) c.in-Some.back (into_iter_items c.next.new.self)
          (subst (All (HasTried {T = Sample} c.args.cells.now)) items c.loop-back.invariant.1),
    )
