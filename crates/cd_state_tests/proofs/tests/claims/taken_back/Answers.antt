use Rattle.std.proofs.Common.{[]}
use Rattle.cd_state_tests.proofs.ClaimLemmas.{same_on}
use Rattle.cd_state_tests.proofs.tests.claims.taken_back.Goals as goal

pub join-requires-in-Some-clause-here : goal.join-requires-in-Some-clause-here
join-requires-in-Some-clause-here c = ([], [], c.in_ok-finds_none-in-Some.ensures.free [] c.requires.has)

pub returns-in-None : goal.returns-in-None
returns-in-None c = record { same = c.join.ensures.same; has = (c.join.ensures.joins [] [] c.requires.has).now }

pub returns-in_ok-arrives-in-Some : goal.returns-in_ok-arrives-in-Some
returns-in_ok-arrives-in-Some c =
    record {
      same = same_on c.args.cells.now c.finds_none.new.cells c.join-in-Some.new.self c.finds_none.ensures.same c.join-in-Some.ensures.same;
      has = (c.join-in-Some.ensures.joins [] [] (c.in_ok-finds_none-in-Some.ensures.free [] c.requires.has)).now;
    }
