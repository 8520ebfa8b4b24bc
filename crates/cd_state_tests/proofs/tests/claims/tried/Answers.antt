use Rattle.std.proofs.Common.{[]}
use Rattle.cd_state_tests.proofs.ClaimLemmas.{tried_so}
use Rattle.cd_state_tests.proofs.tests.claims.tried.Goals as goal

pub returns : goal.returns
returns c =
    tried_so c.args.cells c.claim-claimed.new.self c.claim-claimed.result c.claim-claimed.ensures.same
    (c.claim-claimed.ensures.claims [] c.requires.has)
