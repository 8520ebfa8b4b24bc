use Rattle.std.proofs.Common.{[], ◌∷◌, refl}
use Rattle.cd_cells.specs.Listing.{no_ask}
use Rattle.cd_state_tests.proofs.ClaimLemmas.{same_on}
use Rattle.cd_state_tests.proofs.tests.claims.posted.Goals as goal

pub post-requires-clause-may : goal.post-requires-clause-may
post-requires-clause-may c =
    ([], no_ask, [], record { named = refl; ready = tt; now = c.in_ok-finds_none.ensures.free (no_ask ∷ []) c.requires.may })

pub returns : goal.returns
returns c =
    let still = c.in_ok-finds_none.ensures.free (no_ask ∷ []) c.requires.may in
    record {
      same = same_on c.args.cells.now c.finds_none.new.cells c.post.new.self c.finds_none.ensures.same c.post.ensures.same;
      has = (c.post.ensures.posts [] no_ask [] (record { named = refl; ready = tt; now = still })).now;
    }
