use Rattle.std.proofs.Common.{rules, ◌≡◌, true}
use Rattle.cd_base.specs.Words.{in_ranges}
use Rattle.cd_state_tests.proofs.GroupLemmas.{root_word}
use Rattle.cd_state_tests.proofs.tests.groups.word_at.Goals as goal

pub read-requires : goal.read-requires
read-requires g c =
    let reached : in_ranges c.reach.result.now (record { region = 0; index = c.args.index }) ≡ true = search rules in
    root_word c.args.plan.now c.feet.result.now c.reach.result.now (g.F.Field.model c.args.field.now) (record { region = 0; index = c.args.index })
    c.feet.ensures.sound c.feet.ensures.value c.reach.ensures c.requires reached
